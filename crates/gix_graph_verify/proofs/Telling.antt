-- Differences that are added one by one.
use Rattle.std.proofs.Common.{Bor, get_or, option_map, ◌≡◌, ◌<◌, ◌≤◌, ◌+◌, ℕ, Bool, true, false, nat_lt, List, [], ◌∷◌, ◌++◌, length, Some, slice_get, Contains, All, MatchBool, refl, sym, subst, ap, ◌∙◌, inl, inr, arith, length-append, append-nil, append_assoc}
use Rattle.std.proofs.lemmas.Option.{slice_get-map, slice_get-get_or}
use Rattle.std.proofs.lemmas.Bool.{ltb-true, ltb-false}
use Rattle.std.proofs.lemmas.List.Elements.{All-nil, All-append, Contains-append_left, Contains-append_right}
use Rattle.gix_hash.proofs.Ids.Membership.{Contains-here}
use Rattle.gix_commitgraph.specs.Rows.{GraphRow, row_at}
use Rattle.gix_graph_file.specs.ChainSteps.{files_seen}
use Rattle.gix_graph_file.specs.Trailer.{has_its_hash}
use Rattle.gix_graph_verify.specs.Differences.{IsDifference, IsRight}
use Rattle.gix_graph_verify.specs.Reporting.{most, Adds, Tells, IsTold, AllFilesTold, AllRowsTold}
use Rattle.gix_graph_verify.specs.declared.difference.Difference.{Difference}
use Rattle.gix_graph_verify.specs.declared.difference.Difference.TheVariants.{Hash}

-- what was told stays so
pub told-more : (told more : List Difference) (R : Type 0) (P : Difference → Type 0) → IsTold told R P → IsTold (told ++ more) R P
told-more told more R P (inl right) = inl right
told-more told more R P (inr (inl (d, m, p))) = inr (inl (d, Contains-append_left told more d m, p))
told-more told more R P (inr (inr full)) = inr (inr (omega (arith, length-append told more)))

pub told-after : (old new : List Difference) (Q : Difference → Type 0) (R : Type 0) (P : Difference → Type 0) → Tells Q old new → IsTold old R P → IsTold new R P
told-after old new Q R P tells h = subst (λ (x : List Difference). IsTold x R P) (sym tells.added) (told-more old tells.more R P h)

module _ (P : Difference → Type 0) where
  pub tells-none : (old : List Difference) → Tells P old old
  tells-none old = record { more = []; added = sym (append-nil old); sort = All-nil P; few = λ h. h }

  all-one : (d : Difference) → P d → All P (d ∷ [])
  all-one d p k e lt = let zero_is : k ≡ 0 = omega arith in rw zero_is p

  pub tells-join : (old middle new : List Difference) → Tells P old middle → Tells P middle new → Tells P old new
  tells-join old middle new a b = record {
    more = a.more ++ b.more;
    added = b.added ∙ ap (λ (x : List Difference). x ++ b.more) a.added ∙ append_assoc old a.more b.more;
    sort = All-append P a.more b.more a.sort b.sort;
    few = λ h. b.few (a.few h);
  }

  tells-one : (old new : List Difference) (d : Difference) → P d → (b : Bool) → nat_lt (length old) most ≡ b → MatchBool b (new ≡ old ++ d ∷ []) (new ≡ old) → Tells P old new
  tells-one old new d p true e h = record { more = d ∷ []; added = h; sort = all-one d p; few = λ few. (let len = ap length h in let below = ltb-true (length old) most e in omega (arith, len, below, length-append old (d ∷ []))) }
  tells-one old new d p false e h = record { more = []; added = h ∙ sym (append-nil old); sort = All-nil P; few = λ few. subst (λ (x : List Difference). length x ≤ most) (sym h) few }

  pub tells-added : (old new : List Difference) (d : Difference) → P d → Adds old d new → Tells P old new
  tells-added old new d p h = tells-one old new d p (nat_lt (length old) most) refl h

-- what was just added is told
told-one : (old new : List Difference) (d : Difference) (R : Type 0) (P : Difference → Type 0) → P d → (b : Bool) → nat_lt (length old) most ≡ b → MatchBool b (new ≡ old ++ d ∷ []) (new ≡ old) → IsTold new R P
told-one old new d R P p true e h = inr (inl (d, subst (λ (x : List Difference). Contains x d) (sym h) (Contains-append_right old (d ∷ []) d (Contains-here d [])), p))
told-one old new d R P p false e h = inr (inr (let len = ap length h in let above = ltb-false (length old) most e in omega (arith, len, above)))

pub told-added : (old new : List Difference) (d : Difference) (R : Type 0) (P : Difference → Type 0) → P d → Adds old d new → IsTold new R P
told-added old new d R P p h = told-one old new d R P p (nat_lt (length old) most) refl h

-- one more number, where those before it are told
module _ (old new : List Difference) (Q : Difference → Type 0) (step : Tells Q old new) where
  pub one-file-more : (files : List (List ℕ)) (n : ℕ) (file : List ℕ) → slice_get files n ≡ Some file → AllFilesTold files n old → IsTold new (has_its_hash file ≡ true) (λ d. d ≡ Hash n) → AllFilesTold files (n + 1) new
  one-file-more files n file there before now k other lt e = cases (nat_lt k n) refl
    where
      cases : (b : Bool) → nat_lt k n ≡ b → IsTold new (has_its_hash other ≡ true) (λ d. d ≡ Hash k)
      cases true f = told-after old new Q _ _ step (before k other (ltb-true k n f) e)
      cases false f =
          let above = ltb-false k n f in
          let same : k ≡ n = omega arith in
          let one : Some file ≡ Some other = sym there ∙ ap (slice_get files) (sym same) ∙ e in
          let is : file ≡ other = cc in
          subst (λ (x : List ℕ). IsTold new (has_its_hash x ≡ true) (λ d. d ≡ Hash k)) is (subst (λ (x : ℕ). IsTold new (has_its_hash file ≡ true) (λ d. d ≡ Hash x)) (sym same) now)

  pub one-row-more : (rows lower : List GraphRow) (n : ℕ) → AllRowsTold rows lower n old → IsTold new (IsRight rows lower (row_at rows n)) (IsDifference rows (row_at rows n)) → AllRowsTold rows lower (n + 1) new
  one-row-more rows lower n before now k lt = cases (nat_lt k n) refl
    where
      cases : (b : Bool) → nat_lt k n ≡ b → IsTold new (IsRight rows lower (row_at rows k)) (IsDifference rows (row_at rows k))
      cases true f = told-after old new Q _ _ step (before k (ltb-true k n f))
      cases false f =
          let above = ltb-false k n f in
          let same : k ≡ n = omega arith in
          subst (λ (x : ℕ). IsTold new (IsRight rows lower (row_at rows x)) (IsDifference rows (row_at rows x))) (sym same) now

-- the file of a place
pub file-there : (layers : List (Bor (List ℕ))) (n : ℕ) (d : Bor (List ℕ)) → n < length layers → slice_get (files_seen layers) n ≡ Some (get_or layers n d).now
file-there layers n d lt = slice_get-map (λ layer. layer.now) layers n ∙ ap (option_map (λ layer. layer.now)) (slice_get-get_or layers n d lt)
