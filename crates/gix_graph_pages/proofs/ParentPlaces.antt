-- The parents of a graph's row, and those of the file's.
use Rattle.std.proofs.Common.{◌≡◌, ◌≢◌, ◌⊎◌, inl, inr, ⊎_elim, ℕ, ◌+◌, ◌-◌, ◌*◌, ◌<◌, ◌≤◌, Bool, true, false, not, List, [], ◌∷◌, map, slice_get, add-one, Option, Some, None, Ok, IfOk, IfSome, Contains, is_some, refl, sym, ap, subst, ◌∙◌, arith}
use Rattle.std.specs.Iterator.{YieldsFirst}
use Rattle.std.specs.Option.{option_map}
use Rattle.std.proofs.lemmas.List.Elements.{All-nil, Contains-get_or}
use Rattle.std.proofs.lemmas.Option.{get_or_from_slice_get, slice_get_within}
use Rattle.gix_commitgraph.specs.Parents.{Answer, answers_of}
use Rattle.gix_commitgraph.specs.Rows.{GraphRow, row_at}
use Rattle.gix_commitgraph.specs.declared.ParentPlace.{ParentPlace}
use Rattle.gix_commitgraph.specs.declared.ParentPlace.TheVariants as place
use Rattle.gix_commitgraph.specs.declared.Position.{Position}
use Rattle.gix_graph_check.proofs.Places.{AreWithin, first-within, rest-within}
use Rattle.gix_graph_check.specs.HeadsReach.{ids_of_places}
use Rattle.gix_hash.specs.declared.ObjectId.{ObjectId}
use Rattle.gix_statement.specs.CommitGraph.{AreFurther, AreParents, flag, last, many, next, no_parent, none, number_at, pair, single}
use Rattle.gix_statement.specs.WholeStatement.{Row}
use Rattle.gix_graph_pages.specs.PagedRows.{AreFurtherIds, AreIdsOf, AreParentIds, IsEdge, IsRowOfFile, SaysRow, ids_of_answers}
use Rattle.gix_graph_pages.specs.declared.rows.FileRow.{FileRow}
use Rattle.gix_graph_pages.proofs.IdsBetween.{At}
use Rattle.gix_statement.proofs.LayersOnce.{no_further}

-- ---- places, one after the other

pub first_ok : (n : ℕ) (old new : List Answer) (r : Option Answer) → YieldsFirst (λ s. s) old r new → AreWithin n old → IfSome r (λ answer. IfOk answer (λ position. position.0 < n))
first_ok n old new None y h = tt
first_ok n old new (Some a) y h = first-within n old new a y h

pub rest_ok : (n : ℕ) (old new : List Answer) (r : Option Answer) → YieldsFirst (λ s. s) old r new → AreWithin n old → AreWithin n new
rest_ok n old new None y h = subst (AreWithin n) (sym y.1) (All-nil (λ answer. IfOk answer (λ position. position.0 < n)))
rest_ok n old new (Some a) y h = rest-within n old new a y h

pub first_is : (old new : List Answer) (r : Option Answer) (a : Answer) → YieldsFirst (λ s. s) old r new → r ≡ Some a → old ≡ a ∷ new
first_is old new r a y e = subst (λ o. YieldsFirst (λ s. s) old o new) e y

pub none_left : (old new : List Answer) (r : Option Answer) (b : Bool) → YieldsFirst (λ s. s) old r new → is_some r ≡ not b → b ≡ true → old ≡ []
none_left old new None b y e t = y.0
none_left old new (Some a) b y e t = absurd (let no : true ≡ false = e ∙ ap not t in cc)

pub no_places : (places : List ParentPlace) → answers_of places ≡ [] → places ≡ []
no_places [] e = refl
no_places (p ∷ places) e = cc

-- ---- ids

got : (rows : List Row) (n : ℕ) (i : ObjectId) → At rows n i → Some i ≡ option_map (λ (parent : Row). parent.id) (slice_get rows n)
got rows n i (r, there, is) = sym (ap (option_map (λ (parent : Row). parent.id)) there ∙ ap Some is)

no_parents : (file : List ℕ) (rows : List Row) (one other : ℕ) → one ≡ no_parent → other ≡ no_parent → AreParentIds file rows one other []
no_parents file rows one other e f edges numbers chunk are = go numbers are
  where
    go : (numbers : List ℕ) → AreParents edges one other numbers → AreIdsOf rows numbers []
    go numbers (none a b) = refl
    go numbers (single a b) = absurd (a e)
    go numbers (pair a b l) = absurd (a e)
    go numbers (many a l f) = absurd (a e)

one_parent : (file : List ℕ) (rows : List Row) (one other : ℕ) (i : ObjectId) → one ≢ no_parent → other ≡ no_parent → At rows one i → AreParentIds file rows one other (i ∷ [])
one_parent file rows one other i e f there edges numbers chunk are = go numbers are
  where
    go : (numbers : List ℕ) → AreParents edges one other numbers → AreIdsOf rows numbers (i ∷ [])
    go numbers (none a b) = absurd (e a)
    go numbers (single a b) = ap (λ x. x ∷ []) (got rows one i there)
    go numbers (pair a b l) = absurd (b f)
    go numbers (many a l more) = absurd (omega (arith, l, f))

two_parents : (file : List ℕ) (rows : List Row) (one other : ℕ) (i j : ObjectId) → one ≢ no_parent → other ≢ no_parent → other < flag → At rows one i → At rows other j → AreParentIds file rows one other (i ∷ j ∷ [])
two_parents file rows one other i j e f small there too edges numbers chunk are = go numbers are
  where
    go : (numbers : List ℕ) → AreParents edges one other numbers → AreIdsOf rows numbers (i ∷ j ∷ [])
    go numbers (none a b) = absurd (e a)
    go numbers (single a b) = absurd (f b)
    go numbers (pair a b l) = (λ x. got rows one i there x ∷ got rows other j too x ∷ [])
    go numbers (many a l more) = absurd (omega (arith, l, small))

-- ---- further parents

module _ (file : List ℕ) (rows : List Row) (k word : ℕ) (i : ObjectId) (is : IsEdge file k word) where
  pub last_further : flag ≤ word → At rows (word - flag) i → AreFurtherIds file rows k (i ∷ [])
  last_further high there edges numbers chunk are = ⊎_elim (λ c. go (is edges c) numbers are) (λ e. absurd (no_further edges k numbers e are)) chunk
    where
      go : number_at (4 * k) 4 edges ≡ word → (numbers : List ℕ) → AreFurther edges k numbers → AreIdsOf rows numbers (i ∷ [])
      go e numbers (last n l) = ap (λ x. x ∷ []) (got rows (number_at (4 * k) 4 edges - flag) i (subst (λ n. At rows (n - flag) i) (sym e) there))
      go e numbers (next n l more) = absurd (omega (arith, l, e, high))

  pub next_further : (ids : List ObjectId) → word < flag → At rows word i → AreFurtherIds file rows (k + 1) ids → AreFurtherIds file rows k (i ∷ ids)
  next_further ids low there others edges numbers chunk are = ⊎_elim (λ c. go (is edges c) numbers are) (λ e. absurd (no_further edges k numbers e are)) chunk
    where
      go : number_at (4 * k) 4 edges ≡ word → (numbers : List ℕ) → AreFurther edges k numbers → AreIdsOf rows numbers (i ∷ ids)
      go e numbers (last n l) = absurd (omega (arith, l, e, low))
      go e numbers (next n {numbers = ns} l more) =
          let here = got rows (number_at (4 * k) 4 edges) i (subst (λ n. At rows n i) (sym e) there) in
          let behind : AreIdsOf rows ns ids = others edges ns chunk (subst (λ n. AreFurther edges n ns) (sym (add-one k)) more) in
          (λ x. here x ∷ behind x)

many_parents : (file : List ℕ) (rows : List Row) (one other : ℕ) (i : ObjectId) (ids : List ObjectId) → one ≢ no_parent → flag ≤ other → At rows one i → AreFurtherIds file rows (other - flag) ids → AreParentIds file rows one other (i ∷ ids)
many_parents file rows one other i ids e high there others edges numbers chunk are = go numbers are
  where
    go : (numbers : List ℕ) → AreParents edges one other numbers → AreIdsOf rows numbers (i ∷ ids)
    go numbers (none a b) = absurd (e a)
    go numbers (single a b) = absurd (omega (arith, b, high))
    go numbers (pair a b l) = absurd (omega (arith, l, high))
    go numbers (many {numbers = ns} a l more) = let behind = others edges ns chunk more in (λ x. got rows one i there x ∷ behind x)

-- ---- the parents of a graph's row, by its places

ids_given : (graph : List GraphRow) (places : List ParentPlace) → ids_of_answers graph (answers_of places) ≡ ids_of_places graph places
ids_given graph [] = refl
ids_given graph (place.At n ∷ places) = ap (λ ids. (row_at graph n).id ∷ ids) (ids_given graph places)
ids_given graph (place.Fault ∷ places) = ids_given graph places

module _ (file : List ℕ) (graph : List GraphRow) (places : List ParentPlace) (rows : List Row) (one other : ℕ) where
  given : (answers : List Answer) → answers_of places ≡ answers → AreParentIds file rows one other (ids_of_answers graph answers) → AreParentIds file rows one other (ids_of_places graph places)
  given answers e are = subst (AreParentIds file rows one other) (ap (ids_of_answers graph) (sym e) ∙ ids_given graph places) are

  pub places_none : answers_of places ≡ [] → one ≡ no_parent → other ≡ no_parent → AreParentIds file rows one other (ids_of_places graph places)
  places_none e f g = given [] e (no_parents file rows one other f g)

  pub places_one : (p : Position) (rest : List Answer) → answers_of places ≡ Ok p ∷ rest → rest ≡ [] → one ≢ no_parent → other ≡ no_parent → At rows one (row_at graph p.0).id → AreParentIds file rows one other (ids_of_places graph places)
  places_one p rest e end f g there = given (Ok p ∷ []) (e ∙ ap (λ answers. Ok p ∷ answers) end) (one_parent file rows one other (row_at graph p.0).id f g there)

  pub places_two : (p q : Position) (rest more : List Answer) → answers_of places ≡ Ok p ∷ rest → rest ≡ Ok q ∷ more → more ≡ [] → one ≢ no_parent → other ≢ no_parent → other < flag → At rows one (row_at graph p.0).id → At rows other (row_at graph q.0).id
      → AreParentIds file rows one other (ids_of_places graph places)
  places_two p q rest more e behind end f g small there too =
      given (Ok p ∷ Ok q ∷ []) (e ∙ ap (λ answers. Ok p ∷ answers) (behind ∙ ap (λ answers. Ok q ∷ answers) end)) (two_parents file rows one other (row_at graph p.0).id (row_at graph q.0).id f g small there too)

  pub places_many : (p : Position) (rest : List Answer) → answers_of places ≡ Ok p ∷ rest → one ≢ no_parent → flag ≤ other → At rows one (row_at graph p.0).id → AreFurtherIds file rows (other - flag) (ids_of_answers graph rest)
      → AreParentIds file rows one other (ids_of_places graph places)
  places_many p rest e f high there others = given (Ok p ∷ rest) e (many_parents file rows one other (row_at graph p.0).id (ids_of_answers graph rest) f high there others)

-- ---- rows

pub some_once : {X : Type 0} (xs ys : List X) → map Some xs ≡ map Some ys → xs ≡ ys
some_once [] [] e = refl
some_once [] (y ∷ ys) e = cc
some_once (x ∷ xs) [] e = cc
some_once (x ∷ xs) (y ∷ ys) e =
    let head : x ≡ y = cc in
    let tail : map Some xs ≡ map Some ys = cc in
    let more = some_once xs ys tail in
    (λ i. head i ∷ more i)

pub there_is : (rows : List Row) (n : ℕ) (r : Row) → slice_get rows n ≡ Some r → Contains rows r
there_is rows n r e = subst (Contains rows) (get_or_from_slice_get rows n r r e) (Contains-get_or rows n r (slice_get_within rows n r e))

-- the parents of a row of a graph, or none below a generation
abbrev pub HasParents : (file : List ℕ) → ℕ → List GraphRow → List Row → GraphRow → FileRow → Type 0
HasParents file least graph rows row read = ((least ≤ row.generation) × AreParentIds file rows read.first read.second (ids_of_places graph row.parents)) ⊎ ((row.generation < least) × (row.parents ≡ []))

pub row_is : (file : List ℕ) (least number : ℕ) (graph : List GraphRow) (rows : List Row) (generation : ObjectId → ℕ) (row : GraphRow) (read : FileRow) → SaysRow file rows generation number read → row.id ≡ read.id → row.tree ≡ read.tree → row.generation ≡ read.generation → row.time ≡ read.time
    → HasParents file least graph rows row read → IsRowOfFile least graph rows generation row
row_is file least number graph rows generation row read says id tree level time parents = record {
  said = says.row;
  there = there_is rows number says.row says.there;
  id = says.id ∙ sym id;
  tree = says.tree ∙ sym tree;
  time = says.time ∙ sym time;
  level = says.level ∙ sym level;
  parents = ⊎_elim (λ h. inl (h.0, some_once _ says.row.parents (h.1 says.edges says.numbers says.chunk says.parents ∙ sym says.ids))) (λ h. inr h) parents;
}
