-- What a report without a difference says.
use Rattle.std.proofs.Common.{◌≡◌, ◌⊎◌, ◌<◌, ℕ, true, List, [], ◌∷◌, ◌++◌, length, take, Ok, Contains, All, refl, sym, subst, ap, ◌∙◌, inl, inr, arith, get_or}
use Rattle.std.proofs.lemmas.List.Elements.{All-from_get_or, All-append}
use Rattle.std.proofs.lemmas.List.{get_or_default}
use Rattle.std.proofs.lemmas.Option.{slice_get-get_or}
use Rattle.gix_hash.proofs.Ids.Membership.{no_member}
use Rattle.gix_commitgraph.specs.Rows.{GraphRow, no_row, row_at, row_of}
use Rattle.gix_graph_file.specs.Chain.{chain_from, HasChain}
use Rattle.gix_graph_file.specs.Trailer.{has_its_hash}
use Rattle.gix_graph_check.specs.Sound.{IsSound}
use Rattle.gix_graph_verify.specs.Differences.{IsRight}
use Rattle.gix_graph_verify.specs.Reporting.{Tells, IsTold, IsOfFile, IsOfRow, AllFilesTold, AllRowsTold, IsReport}
use Rattle.gix_graph_verify.specs.Verified.{IsVerified, AllAgree}
use Rattle.gix_graph_verify.specs.declared.difference.Difference.{Difference}
use Rattle.gix_graph_verify.proofs.Telling.{told-after}
use Rattle.gix_graph_verify.proofs.Gathering.{gather}

-- where nothing is told, all is right
told-nothing : (told : List Difference) (R : Type 0) (P : Difference → Type 0) → told ≡ [] → IsTold told R P → R
told-nothing told R P e (inl right) = right
told-nothing told R P e (inr (inl (d, m, p))) = absurd (no_member d (subst (λ (x : List Difference). Contains x d) e m))
told-nothing told R P e (inr (inr full)) = let len = ap length e in absurd (omega arith)

weaker : {A : Type 0} (P Q : A → Type 0) (xs : List A) → ((x : A) → P x → Q x) → All P xs → All Q xs
weaker P Q xs f all k d lt = f _ (all k d lt)

pub reported : (files : List (List ℕ)) (passed count : ℕ) (rows lower : List GraphRow) (first all : List Difference) → HasChain files rows → HasChain (take passed files) lower → count ≡ length rows
    → Tells (IsOfFile files) [] first → Tells (IsOfRow rows) first all → AllFilesTold files (length files) first → AllRowsTold rows lower (length rows) all
    → IsReport files passed count all
reported files passed count rows lower first all chain below same a b hashes each = record {
  rows = rows;
  chain = chain;
  counted = same;
  lower = lower;
  below = below;
  few = b.few (a.few (omega arith));
  named = subst (λ (x : List Difference). All (λ d. IsOfFile files d ⊎ IsOfRow rows d) x) (sym (b.added ∙ ap (λ (x : List Difference). x ++ b.more) a.added))
      (All-append (λ d. IsOfFile files d ⊎ IsOfRow rows d) a.more b.more (weaker (IsOfFile files) (λ d. IsOfFile files d ⊎ IsOfRow rows d) a.more (λ d p. inl p) a.sort) (weaker (IsOfRow rows) (λ d. IsOfFile files d ⊎ IsOfRow rows d) b.more (λ d p. inr p) b.sort));
  hashes = λ n file lt e. told-after first all (IsOfRow rows) (has_its_hash file ≡ true) _ b (hashes n file lt e);
  each = each;
}

pub verified : (files : List (List ℕ)) (passed count : ℕ) (told : List Difference) → IsReport files passed count told → told ≡ [] → IsVerified files passed
verified files passed count told r none =
    let right : (n : ℕ) → n < length r.rows → IsRight r.rows r.lower (row_at r.rows n) = λ n lt. told-nothing told _ _ none (r.each n lt) in
    let right_of : (row : GraphRow) → Contains r.rows row → IsRight r.rows r.lower row = λ row m. subst (λ (x : GraphRow). IsRight r.rows r.lower x) (get_or_default r.rows m.0 no_row row m.1 ∙ m.2) (right m.0 m.1) in
    let g = gather r.rows r.chain.sound r.lower r.rows (λ row m. m) (λ row m. (right_of row m).backed) in
    record {
      rows = r.rows;
      chain = r.chain;
      hashes = λ n d lt. told-nothing told _ _ none (r.hashes n (get_or files n d) lt (slice_get-get_or files n d lt));
      sound = All-from_get_or (IsSound r.rows) r.rows no_row (λ n lt. (right n lt).sound);
      lower = r.lower;
      below = r.below;
      objects = g.objects;
      named = g.named;
      agree = g.agree;
    }

no-rows : (rows : List GraphRow) → length rows ≡ 0 → rows ≡ []
no-rows [] e = refl
no-rows (row ∷ rows) e = absurd (omega arith)

-- no file, no row
none-below : (lower : List GraphRow) → HasChain [] lower → lower ≡ []
unfolding chain_from
none-below lower h =
    let read : Ok [] ≡ Ok h.rows = h.read in
    let none : [] ≡ h.rows = cc in
    no-rows lower (h.same.count ∙ sym (ap length none))

pub all-agree : AllAgree
all-agree files v row m = v.agree row m (ap (λ (x : List GraphRow). row_of x row.id) (none-below v.lower v.below))
