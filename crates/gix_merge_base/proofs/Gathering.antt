-- What is gathered along a walk.
use Rattle.std.proofs.Common.{◌≡◌, List, [], ◌∷◌, ◌++◌, map, Option, Some, None, Result, Ok, Err, refl, sym, ap, subst, ◌∙◌, append_assoc, append-nil}
use Rattle.std.specs.FinSet as set
use Rattle.std.specs.Iterator.{Yields, YieldsThen, Drains}
use Rattle.std.proofs.lemmas.List.{map-append}
use Rattle.std.proofs.lemmas.Grind.{flat_map-append}
use Rattle.gix_hash.specs.declared.ObjectId.{ObjectId}
use Rattle.gix_hash.specs.Id.{id_cmp}
use Rattle.gix_simple.specs.declared.Error.{Error as WalkError}
use Rattle.gix_contained.specs.declared.Error.{Error}
use Rattle.gix_merge_base.specs.Errors.{error_of_walk}
use Rattle.gix_revwalk.specs.Infos.{given}
use Rattle.gix_merge_base.specs.Inside.Steps.{Collects, named_by, GatherFails}
use Rattle.gix_merge_base.proofs.NewAmong.{collects_one}
use Rattle.gix_revwalk.specs.declared.Info.{Info}

-- nothing is in the empty set
pub collects_none : (s : set.FinSet id_cmp) → s ≡ set.empty → Collects [] s
collects_none s e = λ i. ap (λ x. set.contains x i) e ∙ set.contains-empty id_cmp i

-- one more id is in the set
pub collects_more : (ids later : List ObjectId) (old now : set.FinSet id_cmp) (i : ObjectId) → later ≡ ids ++ i ∷ [] → Collects ids old → now ≡ set.insert old i → Collects later now
collects_more ids later old now i l h n = subst (λ xs. Collects xs now) (sym l) (subst (Collects (ids ++ i ∷ [])) (sym n) (collects_one ids old i h))

pub ids_last : (infos : List Info) (info : Info) → map (λ (x : Info). x.id) (infos ++ info ∷ []) ≡ map (λ (x : Info). x.id) infos ++ info.id ∷ []
ids_last infos info = map-append (λ (x : Info). x.id) infos (info ∷ [])

-- one more list of parents is appended
pub named_more : (tips old new : List ObjectId) (infos : List Info) (info : Info) → old ≡ tips ++ named_by infos → new ≡ old ++ info.parent_ids.items → new ≡ tips ++ named_by (infos ++ info ∷ [])
named_more tips old new infos info h n =
    n ∙ ap (λ xs. xs ++ info.parent_ids.items) h ∙ append_assoc tips (named_by infos) info.parent_ids.items
    ∙ ap (λ xs. tips ++ xs) (ap (λ xs. named_by infos ++ xs) (sym (append-nil info.parent_ids.items)) ∙ sym (flat_map-append (λ (x : Info). x.parent_ids.items) infos (info ∷ [])))

module _ {W E : Type 0} (Steps : W → Option (Result Info E) → W → Type 0) where
  pub yields_last : (walk at new : W) (list : List (Result Info E)) (answer : Result Info E) → Yields Steps walk list at → Steps at (Some answer) new → Yields Steps walk (list ++ answer ∷ []) new
  yields_last walk at new [] answer h step = (new, subst (λ (w : W). Steps w (Some answer) new) (sym h) step, refl)
  yields_last walk at new (first ∷ list) answer h step = (h.0, h.1, yields_last h.0 at new list answer h.2 step)

  -- one more commit was drawn
  pub drawn_one : (walk at new : W) (infos : List Info) (answer : Result Info E) (info : Info) → Yields Steps walk (given infos) at → Steps at (Some answer) new → answer ≡ Ok info → Yields Steps walk (given (infos ++ info ∷ [])) new
  drawn_one walk at new infos answer info h step is =
      subst (λ (list : List (Result Info E)). Yields Steps walk list new) (sym (map-append (λ (i : Info). Ok i) infos (info ∷ [])))
      (yields_last walk at new (given infos) (Ok info) h (subst (λ (a : Result Info E). Steps at (Some a) new) is step))

  pub drawn_fault : (walk at new : W) (infos : List Info) (answer : Result Info E) (e : E) → Yields Steps walk (given infos) at → Steps at (Some answer) new → answer ≡ Err e → YieldsThen Steps walk (given infos) (Some (Err e)) new
  drawn_fault walk at new infos answer e h step is = (at, h, subst (λ (a : Result Info E). Steps at (Some a) new) is step)

  pub drawn_all : (walk at new : W) (infos : List Info) → Yields Steps walk (given infos) at → Steps at None new → Drains Steps walk (given infos)
  drawn_all walk at new infos h step = (new, (at, h, step))

-- a walk gave commits, and then a fault
pub gather_failed : {W : Type 0} (Steps : W → Option (Result Info WalkError) → W → Type 0) (walk at new : W) (infos : List Info) (answer : Result Info WalkError) (f : WalkError) (e : Error)
    → e ≡ error_of_walk f → Yields Steps walk (given infos) at → Steps at (Some answer) new → answer ≡ Err f → GatherFails Steps walk e
gather_failed Steps walk at new infos answer f e is h step was = record { infos = infos; fault = f; last = new; drawn = drawn_fault Steps walk at new infos answer f h step was; is = is }
