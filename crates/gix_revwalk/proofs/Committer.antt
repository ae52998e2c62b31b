-- Where a committer's fault is found, no commit is read.
use Rattle.std.proofs.Common.{◌≡◌, List, [], ◌∷◌, ◌++◌, None, Result, Ok, Err, refl}
use Rattle.gix_revwalk.proofs.Common.{ObjectId, commit_of, commit_of_items, first_committer}
use Rattle.gix_object.specs.declared.decode.Error.{Error as DecodeError}
use Rattle.gix_object.specs.CommitItems.{Item, Tree, Parent, Author, Committer, Rest}

fault_none : (tree : ObjectId) (ps : List ObjectId) (items : List (Result Item DecodeError)) (e : DecodeError) → first_committer items ≡ Err e → commit_of tree ps items ≡ None
fault_none tree ps [] e h = refl
fault_none tree ps (Err d ∷ items) e h = refl
fault_none tree ps (Ok (Tree i) ∷ items) e h = refl
fault_none tree ps (Ok (Parent i) ∷ items) e h = fault_none tree (ps ++ i ∷ []) items e h
fault_none tree ps (Ok (Author line) ∷ items) e h = fault_none tree ps items e h
fault_none tree ps (Ok (Committer signature) ∷ items) e h = cc
fault_none tree ps (Ok (Rest bytes) ∷ items) e h = refl

-- where there is a fault, no commit is read
pub fault_unread : (items : List (Result Item DecodeError)) (e : DecodeError) → first_committer items ≡ Err e → commit_of_items items ≡ None
fault_unread [] e h = refl
fault_unread (Err d ∷ items) e h = refl
fault_unread (Ok (Tree i) ∷ items) e h = fault_none i [] items e h
fault_unread (Ok (Parent i) ∷ items) e h = refl
fault_unread (Ok (Author line) ∷ items) e h = refl
fault_unread (Ok (Committer signature) ∷ items) e h = refl
fault_unread (Ok (Rest bytes) ∷ items) e h = refl
