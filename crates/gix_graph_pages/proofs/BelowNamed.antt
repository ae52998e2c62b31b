-- A file names those below it, where its head and the hashes that its chunk BASE has were compared.
use Rattle.std.proofs.Common.{◌≡◌, ◌⊎◌, nat_eq, true, ℕ, zero, suc, ◌+◌, ◌*◌, ◌<◌, ◌≤◌, List, [], ◌∷◌, ◌++◌, length, take, drop, flat_map, slice_get, slice_index, get_or, Option, Some, None, IfSome, All, codes, refl, sym, ap, subst, ◌∙◌, arith, inl, inr, drop-drop, length-take}
use Rattle.std.proofs.lemmas.List.{drop-take, take-append-drop, take-take, take_more}
use Rattle.std.proofs.lemmas.Option.{none-some, same_Some, slice_get-get_or, slice_get_within}
use Rattle.std.specs.List.{starts_with}
use Rattle.gix_hash.specs.Id.{id_len}
use Rattle.gix_hash.specs.declared.Kind.{Kind}
use Rattle.gix_hash.specs.declared.Kind.TheVariants as kind
use Rattle.gix_statement.specs.CommitGraph.{IsChunk, bytes_at, number_at, number_from}
use Rattle.gix_graph_pages.specs.GraphPages.{IsFileOf, width_of}
use Rattle.gix_graph_pages.specs.NamedBelow.{HaveAll, NamesBelow, end_of_chunks, own_hash}
use Rattle.gix_graph_pages.specs.PagedRows.{HasHead, BeginsAs, NamesEach, NamesHash, NamesSoMany, Pages, version}
use Rattle.gix_graph_pages.specs.declared.layout.Chunk.{Chunk}
use Rattle.gix_graph_pages.specs.declared.layout.Layout.{Layout}
use Rattle.gix_graph_pages.proofs.ReadRows.{IsWidth, found, width_said}
use Rattle.gix_graph_pages.proofs.Takes.{begins, number_of, part_of}

-- ---- the head

pub letters_are : (file head : List ℕ) → length head ≡ 8 → bytes_at 0 8 file ≡ head → starts_with nat_eq head (codes "CGPH") ≡ true → slice_index head 4 ≡ 1 → bytes_at 0 5 file ≡ codes "CGPH" ++ 1 ∷ []
letters_are file head long is starts one =
    let four : take 4 head ≡ codes "CGPH" = begins head (codes "CGPH") starts refl in
    sym (part_of 0 8 0 5 0 file (omega arith) (omega arith)) ∙ ap (bytes_at 0 5) is ∙ take_more head 4 0 (omega (arith, long)) ∙ (λ i. four i ++ one i ∷ [])

version_width : (k : Kind) (n : ℕ) → n ≡ version k → IsWidth n (id_len k)
version_width kind.Sha1 n e = inl (e, refl)
version_width kind.Sha256 n e = inr (e, refl)

-- where the table of chunks says that the last one ends
count_is : (file bytes : List ℕ) → length bytes ≡ 1 → bytes_at 6 1 file ≡ bytes → number_at 6 1 file ≡ slice_index bytes 0
count_is file [] long is = absurd (omega (arith, long))
count_is file (b ∷ []) long is = ap (number_from 0) is ∙ omega arith
count_is file (b ∷ c ∷ bytes) long is = absurd (omega (arith, long))

pub end_is : (file count entry : List ℕ) (place : ℕ) → length count ≡ 1 → bytes_at 6 1 file ≡ count → place ≡ 12 + 12 * slice_index count 0 → bytes_at place 8 file ≡ entry → number_at 0 8 entry ≡ end_of_chunks file
end_is file count entry place long counted at here =
    ap (number_at 0 8) (sym here)
    ∙ number_of place 8 0 8 place file (omega arith) (omega arith)
    ∙ ap (λ p. number_at p 8 file) (at ∙ ap (λ n. 12 + 12 * n) (sym (count_is file count long counted)))

-- ---- what follows for one more

pub more_of : {X : Type 0} (P : ℕ → X → Type 0) (xs : List X) (x : X) → ((k : ℕ) (y : X) → slice_get xs k ≡ Some y → P k y) → P (length xs) x → (k : ℕ) (y : X) → slice_get (xs ++ x ∷ []) k ≡ Some y → P k y
more_of P [] x each last zero y e = subst (P 0) (same_Some x y e) last
more_of P [] x each last (suc k) y e = absurd (none-some y e)
more_of P (z ∷ xs) x each last zero y e = each 0 y e
more_of P (z ∷ xs) x each last (suc k) y e = more_of (λ n. P (suc n)) xs x (λ n. each (suc n)) last k y e

got_taken : {X : Type 0} (n : ℕ) (xs : List X) (k : ℕ) (x : X) → slice_get (take n xs) k ≡ Some x → slice_get xs k ≡ Some x
got_taken zero [] k x e = absurd (none-some x e)
got_taken zero (y ∷ xs) k x e = absurd (none-some x e)
got_taken (suc n) [] k x e = absurd (none-some x e)
got_taken (suc n) (y ∷ xs) zero x e = e
got_taken (suc n) (y ∷ xs) (suc k) x e = got_taken n xs k x e

-- ---- the chunk BASE

split : (n m : ℕ) (xs : List ℕ) → take (n + m) xs ≡ take n xs ++ take m (drop n xs)
split n m xs = sym (take-append-drop n (take (n + m) xs)) ∙ (λ i. take-take n (n + m) xs (omega arith) i ++ drop-take n m xs i)

hashes_are : (file : List ℕ) (w : ℕ) (lower : List (List ℕ)) (place : ℕ) → ((k : ℕ) (other : List ℕ) → slice_get lower k ≡ Some other → bytes_at (place + w * k) w file ≡ own_hash other) → bytes_at place (w * length lower) file ≡ flat_map own_hash lower
hashes_are file w [] place each = let none : w * 0 ≡ 0 = omega arith in ap (λ n. bytes_at place n file) none
hashes_are file w (other ∷ lower) place each =
    let n = length lower in
    let one_more : w * suc n ≡ w + w * n = omega arith in
    let at_first : place ≡ place + w * 0 = omega arith in
    let first : bytes_at place w file ≡ own_hash other = ap (λ p. bytes_at p w file) at_first ∙ each 0 other refl in
    let behind : (k : ℕ) (next : List ℕ) → slice_get lower k ≡ Some next → bytes_at (place + w + w * k) w file ≡ own_hash next =
    (λ k next e. let at : place + w + w * k ≡ place + w * suc k = omega arith in ap (λ p. bytes_at p w file) at ∙ each (suc k) next e) in
    let rest = hashes_are file w lower (place + w) behind in
    ap (λ m. bytes_at place m file) one_more
    ∙ split w (w * n) (drop place file)
    ∙ ap (λ xs. bytes_at place w file ++ take (w * n) xs) (drop-drop w place file)
    ∙ (λ i. first i ++ rest i)

-- ---- a file and those below it

module _ (pages : Pages) (below : List Layout) (layout : Layout) (n : ℕ) (long : length below ≡ n) (numbered : layout.layer ≡ n) (each_numbered : (k : ℕ) (lower : Layout) → slice_get below k ≡ Some lower → lower.layer ≡ k)
    (each_head : (k : ℕ) (lower : Layout) → slice_get below k ≡ Some lower → HasHead pages lower) (head : HasHead pages layout) (many : NamesSoMany layout.below (id_len layout.kind) layout.layer) (names : NamesEach pages layout below)
    (files : List (List ℕ)) (have : HaveAll pages files) (file : List ℕ) (there : slice_get files n ≡ Some file) where
  abbrev w : ℕ
  w = id_len layout.kind

  abbrev lower : List (List ℕ)
  lower = take n files

  is_own : IsFileOf pages layout.layer file
  is_own = subst (λ k. IsFileOf pages k file) (sym numbered) (have.has n file there)

  own : BeginsAs layout file
  own = head file is_own

  so_many : length lower ≡ n
  so_many = omega (arith, slice_get_within files n file there, length-take n files)

  -- a file below, and its layout
  record IsLower (k : ℕ) (other : List ℕ) : Type 0 where
    its : Layout
    hash : NamesHash pages layout its
    number : its.layer ≡ k
    is : IsFileOf pages its.layer other
    its_head : BeginsAs its other

  is_lower : (k : ℕ) (other : List ℕ) → slice_get lower k ≡ Some other → IsLower k other
  is_lower k other e =
      let l = found below k (omega (arith, slice_get_within lower k other e, so_many, long)) in
      let same = each_numbered k l.0 l.1 in
      let is = subst (λ j. IsFileOf pages j other) (sym same) (have.has k other (got_taken n files k other e)) in
      record { its = l.0; hash = names k l.0 l.1; number = same; is = is; its_head = each_head k l.0 l.1 other is }

  one_kind : (k : ℕ) (other : List ℕ) → slice_get lower k ≡ Some other → number_at 5 1 other ≡ number_at 5 1 file
  one_kind k other e = let l = is_lower k other e in l.its_head.kind ∙ ap version l.hash.kinds ∙ sym own.kind

  width_is : (k : ℕ) (other : List ℕ) → slice_get lower k ≡ Some other → width_of other ≡ w
  width_is k other e = let l = is_lower k other e in width_said (number_at 5 1 other) w (version_width layout.kind (number_at 5 1 other) (one_kind k other e ∙ own.kind))

  hash_named : (chunk : Chunk) → layout.below ≡ Some chunk → (k : ℕ) (other : List ℕ) → slice_get lower k ≡ Some other → bytes_at (chunk.from + w * k) w file ≡ own_hash other
  hash_named chunk some k other e =
      let l = is_lower k other e in
      let same : l.hash.at.0 ≡ chunk = same_Some l.hash.at.0 chunk (sym l.hash.at.1 ∙ some) in
      let at : chunk.from + w * k ≡ l.hash.place = (λ i. (sym same i).from + w * (sym l.number i)) ∙ sym l.hash.at.2 in
      ap (λ p. bytes_at p w file) at ∙ l.hash.here file is_own ∙ sym (l.hash.own other l.is) ∙ ap (λ x. bytes_at (end_of_chunks other) x other) (sym (width_is k other e))

  one_or_two : (k : Kind) → number_at 5 1 file ≡ version k → (number_at 5 1 file ≡ 1) ⊎ (number_at 5 1 file ≡ 2)
  one_or_two kind.Sha1 e = inl e
  one_or_two kind.Sha256 e = inr e

  base : (b : Option Chunk) → layout.below ≡ b → NamesSoMany b w layout.layer → IfSome b (λ chunk. IsChunk file (codes "BASE") (bytes_at chunk.from chunk.len file)) → (lower ≡ []) ⊎ IsChunk file (codes "BASE") (flat_map own_hash lower)
  base None is none h = inl (ap (λ m. take m files) (sym numbered ∙ none))
  base (Some chunk) is all h =
      let bytes = ap (λ m. bytes_at chunk.from m file) (all ∙ ap (λ m. w * m) (numbered ∙ sym so_many)) ∙ hashes_are file w lower chunk.from (hash_named chunk is) in
      inr (subst (IsChunk file (codes "BASE")) bytes h)

  pub names_below : NamesBelow lower file
  names_below = record {
    begins = own.begins;
    kind = one_or_two layout.kind own.kind;
    kinds = λ k d l. one_kind k (get_or lower k d) (slice_get-get_or lower k d l);
    number = own.number ∙ numbered ∙ sym so_many;
    base = base layout.below refl many own.base;
  }
