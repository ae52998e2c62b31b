-- A graph has the rows of a chain, by other numbers: as the page has them, they are the same.
use Rattle.std.proofs.Common.{◌≡◌, ◌≢◌, ◌⊎◌, ℕ, zero, suc, ◌<◌, false, cond, eqb, List, [], ◌∷◌, length, map, slice_get, get_or, Option, Some, None, option_map, All, AllPairs, Contains, refl, sym, ap, subst, ◌∙◌, arith, ⊎_elim, inl, inr, eq-eqb, ne_eqb}
use Rattle.std.specs.List.{AllByRecursion, IsDistinct}
use Rattle.std.proofs.lemmas.Bool.{false≢true}
use Rattle.gix_hash.specs.declared.ObjectId.{ObjectId}
use Rattle.gix_hash.specs.Id.{is_same}
use Rattle.gix_hash.proofs.Ids.Membership.{same_from}
use Rattle.gix_commitgraph.specs.declared.ParentPlace.{ParentPlace}
use Rattle.gix_commitgraph.specs.declared.ParentPlace.TheVariants.{At, Fault}
use Rattle.gix_commitgraph.specs.Packed.{IsPlaceAmong, AreBytes}
use Rattle.gix_commitgraph.specs.Renumbering.{moved, renumbered, HasSameRows, HaveDistinctIds, HavePlacesWithin}
use Rattle.gix_commitgraph.specs.Rows.{GraphRow, row_at, no_row}
use Rattle.gix_graph_check.specs.HeadsReach.{ids_of_places}
use Rattle.gix_graph_check.specs.Sound.{IsSoundPlace, AreSound}
use Rattle.gix_graph_file.specs.Chain.{HasChain}
use Rattle.gix_statement.proofs.HaveHistory.{below}
use Rattle.gix_statement.specs.WholeStatement as page
use Rattle.gix_statement.specs.CommitGraph.{AreLayers}
use Rattle.gix_commands.specs.Pages.{page_row, page_rows}
use Rattle.gix_commands.proofs.FileParents.{NoFault}
use Rattle.gix_commands.proofs.FileLayers.{AreReadLayers, NoFaults, chain_read, layers_are}
use Rattle.gix_graph_store.proofs.Texts.{element-at}

-- ---- elements at places

there_at : {X : Type 0} (xs : List X) (n : ℕ) (d : X) → n < length xs → slice_get xs n ≡ Some (get_or xs n d)
there_at [] n d l = absurd (omega (arith, l))
there_at (x ∷ xs) zero d l = refl
there_at (x ∷ xs) (suc n) d l = there_at xs n d (omega (arith, l))

got_at : {X : Type 0} (xs : List X) (n : ℕ) (x : X) → slice_get xs n ≡ Some x → (n < length xs) × ((d : X) → get_or xs n d ≡ x)
got_at {X} [] n x e = absurd (let no : ◌≡◌ {A = Option X} None (Some x) = e in cc)
got_at (y ∷ xs) zero x e = (omega arith, λ d. cc)
got_at (y ∷ xs) (suc n) x e = let more = got_at xs n x e in (omega (arith, more.0), more.1)

pub got_in : {X Y : Type 0} (f : X → Y) (xs : List X) (n : ℕ) (y : Y) → slice_get (map f xs) n ≡ Some y → (x : X) × (slice_get xs n ≡ Some x) × (f x ≡ y)
got_in {Y = Y} f [] n y e = absurd (let no : ◌≡◌ {A = Option Y} None (Some y) = e in cc)
got_in f (x ∷ xs) zero y e = (x, refl, cc)
got_in f (x ∷ xs) (suc n) y e = got_in f xs n y e

put_in : {X Y : Type 0} (f : X → Y) (xs : List X) (n : ℕ) (x : X) → slice_get xs n ≡ Some x → slice_get (map f xs) n ≡ Some (f x)
put_in {X} f [] n x e = absurd (let no : ◌≡◌ {A = Option X} None (Some x) = e in cc)
put_in f (y ∷ xs) zero x e = let same : y ≡ x = cc in ap (λ z. Some (f z)) same
put_in f (y ∷ xs) (suc n) x e = put_in f xs n x e

contains_at : {X : Type 0} (xs : List X) (x : X) → Contains xs x → (n : ℕ) × (slice_get xs n ≡ Some x)
contains_at xs x h = (h.0, there_at xs h.0 x h.1 ∙ ap (λ y. Some y) h.2)

pub at_contains : {X : Type 0} (xs : List X) (x : X) (n : ℕ) → slice_get xs n ≡ Some x → Contains xs x
at_contains xs x n e = let g = got_at xs n x e in (n, g.0, g.1 x)

all_from : {X : Type 0} (P : X → Type 0) (xs : List X) → ((n : ℕ) (x : X) → slice_get xs n ≡ Some x → P x) → AllByRecursion P xs
all_from P [] h = tt
all_from P (x ∷ xs) h = (h 0 x refl, all_from P xs (λ n y e. h (suc n) y e))

-- ---- distinct ids

pub apart : {X : Type 0} (f : X → ObjectId) (xs : List X) → IsDistinct is_same (map f xs) → AllPairs (λ (x y : X). f x ≢ f y) xs
unfolding IsDistinct
apart f [] h i j d l m = absurd (omega (arith, m))
apart f (x ∷ xs) h i zero d l m = absurd (omega (arith, l))
apart f (x ∷ xs) h zero (suc j) d l m =
    λ e. false≢true (sym (element-at (λ y. is_same (f x) y ≡ false) (map f xs) j (f (get_or xs j d)) h.0 (put_in f xs j (get_or xs j d) (there_at xs j d (omega (arith, m))))) ∙ same_from _ _ e)
apart f (x ∷ xs) h (suc i) (suc j) d l m = apart f xs h.1 i j d (omega (arith, l)) (omega (arith, m))

-- ---- what goes into as many, and never twice to one, reaches each

same_or : (a b : ℕ) → (a ≡ b) ⊎ (a ≢ b)
same_or a b = ⊎_elim (λ l. inr (λ e. omega (arith, l, e))) (λ l. ⊎_elim (λ m. inr (λ e. omega (arith, m, e))) (λ m. inl (omega (arith, l, m))) (below b a)) (below a b)

abbrev Into : ℕ → (ℕ → ℕ) → Type 0
Into n f = (p : ℕ) → p < n → f p < n

abbrev Once : ℕ → (ℕ → ℕ) → Type 0
Once n f = (p q : ℕ) → p < n → q < n → f p ≡ f q → p ≡ q

-- one number less, where the last one's takes its place
module _ (n : ℕ) (f : ℕ → ℕ) (into : Into (suc n) f) (once : Once (suc n) f) where
  g : ℕ → ℕ
  g p = cond (eqb (f p) n) (f n) (f p)

  g_last : (p : ℕ) → f p ≡ n → g p ≡ f n
  unfolding g
  g_last p e = ap (λ b. cond b (f n) (f p)) (eq-eqb (f p) n e)

  g_other : (p : ℕ) → f p ≢ n → g p ≡ f p
  unfolding g
  g_other p e = ap (λ b. cond b (f n) (f p)) (ne_eqb (f p) n e)

  g_into : Into n g
  g_into p l = ⊎_elim
      (λ e. let k : f n < suc n = into n (omega arith) in
      ⊎_elim (λ s. absurd (let t : p ≡ n = once p n (omega (arith, l)) (omega arith) (e ∙ sym s) in omega (arith, l, t))) (λ s. ⊎_elim (λ m. subst (λ x. x < n) (sym (g_last p e)) m) (λ m. absurd (s (omega (arith, k, m)))) (below (f n) n)) (same_or (f n) n))
      (λ e. let k : f p < suc n = into p (omega (arith, l)) in ⊎_elim (λ m. subst (λ x. x < n) (sym (g_other p e)) m) (λ m. absurd (e (omega (arith, k, m)))) (below (f p) n))
      (same_or (f p) n)

  g_once : Once n g
  g_once p q l m e = ⊎_elim
      (λ a. ⊎_elim
      (λ b. once p q (omega (arith, l)) (omega (arith, m)) (a ∙ sym b))
      (λ b. absurd (let t : n ≡ q = once n q (omega arith) (omega (arith, m)) (sym (g_last p a) ∙ e ∙ g_other q b) in omega (arith, m, t)))
      (same_or (f q) n))
      (λ a. ⊎_elim
      (λ b. absurd (let t : p ≡ n = once p n (omega (arith, l)) (omega arith) (sym (g_other p a) ∙ e ∙ g_last q b) in omega (arith, l, t)))
      (λ b. once p q (omega (arith, l)) (omega (arith, m)) (sym (g_other p a) ∙ e ∙ g_other q b))
      (same_or (f q) n))
      (same_or (f p) n)

  from_less : ((q : ℕ) → q < n → (p : ℕ) × (p < n) × (g p ≡ q)) → (q : ℕ) → q < suc n → (p : ℕ) × (p < suc n) × (f p ≡ q)
  from_less less q l = ⊎_elim (λ e. (n, omega arith, e)) (λ other. ⊎_elim
      (λ e. let k : f n < suc n = into n (omega arith) in
      let small : f n < n = ⊎_elim (λ m. m) (λ m. absurd (other (omega (arith, k, m, e)))) (below (f n) n) in
      let r = less (f n) small in
      ⊎_elim (λ a. (r.0, (let s = r.1 in omega (arith, s)), a ∙ sym e))
      (λ a. absurd (let t : r.0 ≡ n = once r.0 n (let s = r.1 in omega (arith, s)) (omega arith) (sym (g_other r.0 a) ∙ r.2) in let s = r.1 in omega (arith, s, t)))
      (same_or (f r.0) n))
      (λ e. let r = less q (⊎_elim (λ m. m) (λ m. absurd (e (omega (arith, l, m)))) (below q n)) in
      ⊎_elim (λ a. absurd (other (sym (g_last r.0 a) ∙ r.2))) (λ a. (r.0, (let s = r.1 in omega (arith, s)), sym (g_other r.0 a) ∙ r.2)) (same_or (f r.0) n))
      (same_or q n)) (same_or (f n) q)

onto : (n : ℕ) (f : ℕ → ℕ) → Into n f → Once n f → (q : ℕ) → q < n → (p : ℕ) × (p < n) × (f p ≡ q)
onto zero f into once q l = absurd (omega (arith, l))
onto (suc n) f into once q l = from_less n f into once (onto n (g n f into once) (g_into n f into once) (g_once n f into once)) q l

-- ---- the same rows by other numbers

module _ (rows graph : List GraphRow) (same : HasSameRows rows graph) where
  pub moved_row : (n : ℕ) (row : GraphRow) → slice_get rows n ≡ Some row → slice_get graph (same.number n) ≡ Some (renumbered same.number row)
  moved_row n row e = same.same n (got_at rows n row e).0 ∙ ap (option_map (renumbered same.number)) e

  moved_id : (n : ℕ) → n < length rows → (row_at graph (same.number n)).id ≡ (row_at rows n).id
  moved_id n l = ap (λ (row : GraphRow). row.id) ((got_at graph (same.number n) _ (moved_row n (row_at rows n) (there_at rows n no_row l))).1 no_row)

  moved_ids : (places : List ParentPlace) → AllByRecursion (IsPlaceAmong (length rows)) places → ids_of_places graph (map (moved same.number) places) ≡ ids_of_places rows places
  moved_ids [] within = refl
  moved_ids (At n ∷ places) within = let here = moved_id n within.0 in let more = moved_ids places within.1 in (λ i. here i ∷ more i)
  moved_ids (Fault ∷ places) within = moved_ids places within.1

  module _ (within : HavePlacesWithin rows) (distinct : HaveDistinctIds rows) where
    same_page : (n : ℕ) (row : GraphRow) → slice_get rows n ≡ Some row → page_row graph (renumbered same.number row) ≡ page_row rows row
    same_page n row e =
        let ids = moved_ids row.parents (element-at (λ (row : GraphRow). AllByRecursion (IsPlaceAmong (length rows)) row.parents) rows n row within e) in
        (λ i. record { id = row.id; tree = row.tree; parents = ids i; time = row.time })

    pub forth : (r : page.Row) → Contains (page_rows rows) r → Contains (page_rows graph) r
    forth r h =
        let a = contains_at (page_rows rows) r h in
        let g = got_in (page_row rows) rows a.0 r a.1 in
        at_contains (page_rows graph) r (same.number a.0) (put_in (page_row graph) graph (same.number a.0) (renumbered same.number g.0) (moved_row a.0 g.0 g.1) ∙ ap (λ (x : page.Row). Some x) (same_page a.0 g.0 g.1 ∙ g.2))

    numbers_into : Into (length rows) same.number
    numbers_into p l = subst (λ n. same.number p < n) same.count (got_at graph (same.number p) _ (moved_row p (row_at rows p) (there_at rows p no_row l))).0

    ids_apart : AllPairs (λ (x y : GraphRow). x.id ≢ y.id) rows
    ids_apart = apart (λ (row : GraphRow). row.id) rows distinct

    numbers_once : Once (length rows) same.number
    numbers_once p q l m e =
        let ids : (row_at rows p).id ≡ (row_at rows q).id = sym (moved_id p l) ∙ ap (λ n. (row_at graph n).id) e ∙ moved_id q m in
        ⊎_elim (λ s. absurd (ids_apart p q no_row s m ids)) (λ s. ⊎_elim (λ t. absurd (ids_apart q p no_row t l (sym ids))) (λ t. omega (arith, s, t)) (below q p)) (below p q)

    pub back : (r : page.Row) → Contains (page_rows graph) r → Contains (page_rows rows) r
    back r h =
        let a = contains_at (page_rows graph) r h in
        let g = got_in (page_row graph) graph a.0 r a.1 in
        let p = onto (length rows) same.number numbers_into numbers_once a.0 (subst (λ n. a.0 < n) same.count (got_at graph a.0 g.0 g.1).0) in
        let row = row_at rows p.0 in
        let here = there_at rows p.0 no_row p.1 in
        let is : Some (renumbered same.number row) ≡ Some g.0 = sym (moved_row p.0 row here) ∙ ap (slice_get graph) p.2 ∙ g.1 in
        let one : renumbered same.number row ≡ g.0 = cc in
        at_contains (page_rows rows) r p.0 (put_in (page_row rows) rows p.0 row here ∙ ap (λ (x : page.Row). Some x) (sym (same_page p.0 row here) ∙ ap (page_row graph) one ∙ g.2))

  -- a graph that is sound has no corrupt place
  no_fault : (generation : ℕ) (places : List ParentPlace) → AllByRecursion (IsSoundPlace graph generation) (map (moved same.number) places) → NoFault places
  no_fault generation [] h = tt
  no_fault generation (At n ∷ places) h = (tt, no_fault generation places h.1)
  no_fault generation (Fault ∷ places) h = absurd h.0

  pub no_faults : AreSound graph → NoFaults rows
  no_faults sound = all_from (λ (row : GraphRow). NoFault row.parents) rows (λ n row e.
      let g = got_at graph (same.number n) (renumbered same.number row) (moved_row n row e) in
      no_fault row.generation row.parents (subst (λ (x : GraphRow). AllByRecursion (IsSoundPlace graph x.generation) x.parents) (g.1 no_row) (sound (same.number n) no_row g.0).parents))

map_twice : {X Y Z : Type 0} (f : X → Y) (g : Y → Z) (xs : List X) → map g (map f xs) ≡ map (λ x. g (f x)) xs
map_twice f g [] = refl
map_twice f g (x ∷ xs) = ap (λ ys. g (f x) ∷ ys) (map_twice f g xs)

-- no two rows of the page have one id
pub rows_apart : (rows : List GraphRow) → HaveDistinctIds rows → AllPairs (λ (r s : page.Row). r.id ≢ s.id) (page_rows rows)
rows_apart rows distinct = apart (λ (r : page.Row). r.id) (page_rows rows) (subst (IsDistinct is_same) (sym (map_twice (page_row rows) (λ (r : page.Row). r.id) rows)) distinct)

-- the files of a chain are read one above the other
pub read_layers : (layers : List (List ℕ)) (graph : List GraphRow) → All AreBytes layers → (has : HasChain layers graph) → AreSound graph → AreReadLayers has.rows [] layers []
read_layers layers graph small has sound = chain_read layers has.rows small has.read (no_faults has.rows graph has.same sound)

-- so they have page rows, those of the rows that were read
pub chain_layers : (layers : List (List ℕ)) (graph : List GraphRow) → All AreBytes layers → (has : HasChain layers graph) → AreSound graph → AreLayers [] layers [] (page_rows has.rows)
chain_layers layers graph small has sound = layers_are has.rows [] layers [] (read_layers layers graph small has sound)
