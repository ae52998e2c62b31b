-- What the next parent among a commit's items says of all its parents, and of its committer.
use Rattle.std.proofs.Common.{◌≡◌, ◌<◌, ◌≤◌, List, [], ◌∷◌, length, Option, Some, None, Result, Ok, Err, refl, ap, sym, subst, ◌∙◌, arith}
use Rattle.gix_hash.specs.declared.ObjectId.{ObjectId}
use Rattle.gix_object.specs.declared.decode.Error.{Error}
use Rattle.gix_object.specs.CommitItems.{Item, Tree, Parent, Author, Committer, Rest}
use Rattle.gix_object.specs.CommitRefIter.{first_committer, next_parent, behind_parent}
use Rattle.gix_revwalk.specs.declared.Parents.{Parents}
use Rattle.gix_revwalk.specs.declared.Parents.TheVariants as mode
use Rattle.gix_revwalk.specs.Texts.{with_parent, scanned}

abbrev pub Items : Type 0
Items = List (Result Item Error)

-- the first parent of some items, and those behind it
pub record IsParent (items : Items) (i : ObjectId) (rest : Items) : Type 0 where
  pub all : scanned mode.All items ≡ with_parent i (scanned mode.All rest)
  pub first : scanned mode.First items ≡ (i ∷ [], None)
  pub committer : first_committer items ≡ first_committer rest
  pub fewer : length rest < length items

-- there is none
pub record IsLast (items rest : Items) : Type 0 where
  pub none : (m : Parents) → scanned m items ≡ ([], None)
  pub committer : first_committer items ≡ first_committer rest

-- a fault comes before it
pub record IsFault (items : Items) (e : Error) : Type 0 where
  pub fault : (m : Parents) → scanned m items ≡ ([], Some e)
  pub committer : first_committer items ≡ Err e

abbrev pub Says : Items → Result (Option ObjectId) Error → Items → Type 0
Says items (Ok (Some i)) rest = IsParent items i rest
Says items (Ok None) rest = IsLast items rest
Says items (Err e) rest = IsFault items e

past_tree : (t : ObjectId) (items : Items) (r : Result (Option ObjectId) Error) (rest : Items) → Says items r rest → Says (Ok (Tree t) ∷ items) r rest
past_tree t items (Ok (Some i)) rest says = record { all = says.all; first = says.first; committer = says.committer; fewer = omega (arith, says.fewer) }
past_tree t items (Ok None) rest says = record { none = λ m. says.none m; committer = says.committer }
past_tree t items (Err e) rest says = record { fault = λ m. says.fault m; committer = says.committer }

first_says : (items : Items) → Says items (next_parent items) (behind_parent items)
first_says [] = record { none = λ m. refl; committer = refl }
first_says (Err e ∷ items) = record { fault = λ m. refl; committer = refl }
first_says (Ok (Tree t) ∷ items) = past_tree t items (next_parent items) (behind_parent items) (first_says items)
first_says (Ok (Parent i) ∷ items) = record { all = refl; first = refl; committer = refl; fewer = omega arith }
first_says (Ok (Author line) ∷ items) = record { none = λ m. refl; committer = refl }
first_says (Ok (Committer signature) ∷ items) = record { none = λ m. refl; committer = refl }
first_says (Ok (Rest bytes) ∷ items) = record { none = λ m. refl; committer = refl }

-- what is answered and left says it
pub next_says : (items rest : Items) (r : Result (Option ObjectId) Error) → r ≡ next_parent items → rest ≡ behind_parent items → Says items r rest
next_says items rest r is left =
    subst (λ rest. Says items r rest) (sym left) (subst (λ r. Says items r (behind_parent items)) (sym is) (first_says items))

pub parent_said : (items rest : Items) (o : Option ObjectId) (i : ObjectId) → o ≡ Some i → Ok o ≡ next_parent items → rest ≡ behind_parent items → IsParent items i rest
parent_said items rest o i is told left = next_says items rest (Ok (Some i)) (sym (ap Ok is) ∙ told) left

pub last_said : (items rest : Items) (o : Option ObjectId) → o ≡ None → Ok o ≡ next_parent items → rest ≡ behind_parent items → IsLast items rest
last_said items rest o is told left = next_says items rest (Ok None) (sym (ap Ok is) ∙ told) left

-- the same where all parents are asked for
pub all_said : (m : Parents) (items : Items) (i : ObjectId) (rest : Items) → m ≡ mode.All → IsParent items i rest → scanned m items ≡ with_parent i (scanned m rest)
all_said m items i rest all is = ap (λ m. scanned m items) all ∙ is.all ∙ sym (ap (λ m. with_parent i (scanned m rest)) all)

-- a parent is among those that are asked for
pub some_parent : (m : Parents) (items : Items) (i : ObjectId) (rest : Items) → IsParent items i rest → 1 ≤ length (scanned m items).0
some_parent mode.All items i rest is = omega (arith, ap (λ r. length r.0) is.all)
some_parent mode.First items i rest is = omega (arith, ap (λ r. length r.0) is.first)
