-- How the items that an iterator has left follow from what is at the front.
use Rattle.std.proofs.Common.{◌≡◌, [], ◌∷◌, length, Option, Some, None, Result, Ok, Err, rules, sym, ap, ◌∙◌}
use Rattle.std.specs.Iterator.{YieldsFirstBy, MakesProgress, item_count}
use Rattle.gix_object.specs.declared.decode.Error.{Error}
use Rattle.gix_object.specs.declared.commit.CommitRefIter.{CommitRefIter}
use Rattle.gix_object.specs.CommitItems.{Item, AtEnd, Found, Faulty, Ended, front, unfolded, items_from}
use Rattle.gix_object.specs.declared.commit.Token.{Token}
use Rattle.gix_object.specs.CommitRefIter.{place_of, commit_items_left, item_of, item_shown, IsTaken}
use Rattle.gix_object.proofs.Commits.Items.{items_from-step}

pub left_none : (it : CommitRefIter) → Ended ≡ front it.kind (place_of it.place) it.bytes.now → commit_items_left it ≡ []
unfolding commit_items_left
left_none it e = items_from-step it.kind (place_of it.place) it.bytes.now ∙ ap (λ f. unfolded f (items_from it.kind)) (sym e)

pub left_fault : (it then : CommitRefIter) (e : Error) → Faulty e ≡ front it.kind (place_of it.place) it.bytes.now → place_of then.place ≡ AtEnd → commit_items_left it ≡ Err e ∷ commit_items_left then
unfolding commit_items_left
left_fault it then e h at =
    items_from-step it.kind (place_of it.place) it.bytes.now
    ∙ ap (λ f. unfolded f (items_from it.kind)) (sym h)
    ∙ ap (λ x. Err e ∷ x) (sym (ap (λ p. items_from then.kind p then.bytes.now) at ∙ items_from-step then.kind AtEnd then.bytes.now))

pub left_found : (it then : CommitRefIter) (item : Item) → Found item (place_of then.place) then.bytes.now ≡ front it.kind (place_of it.place) it.bytes.now → then.kind ≡ it.kind → commit_items_left it ≡ Ok item ∷ commit_items_left then
unfolding commit_items_left
left_found it then item h same =
    items_from-step it.kind (place_of it.place) it.bytes.now
    ∙ ap (λ f. unfolded f (items_from it.kind)) (sym h)
    ∙ ap (λ k. Ok item ∷ items_from k (place_of then.place) then.bytes.now) (sym same)

-- what is taken from the front is the first of the items left
pub taken_first : (it then : CommitRefIter) (r : Option (Result Token Error)) → IsTaken it (front it.kind (place_of it.place) it.bytes.now) r then → YieldsFirstBy item_shown commit_items_left it r then
taken_first it then None h = (left_none it h.0, ap commit_items_left h.1 ∙ left_none it h.0)
taken_first it then (Some (Ok t)) h = left_found it then (item_of t) h.0 h.1
taken_first it then (Some (Err e)) h = left_fault it then e h.0 h.1

-- and fewer items are left
pub fewer_left : (can : CommitRefIter → Type 0) → ((it : CommitRefIter) → can it) → (it then : CommitRefIter) (r : Option (Result Token Error))
    → YieldsFirstBy item_shown commit_items_left it r then → MakesProgress can (item_count commit_items_left) it r then
fewer_left can always it then None h = search rules
fewer_left can always it then (Some x) h =
    let shorter = ap length h in
    let again = always then in
    search rules
