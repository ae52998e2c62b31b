-- Over the parents that a store names there are lists in order, and a test of what is reached.
use Rattle.std.proofs.Common.{◌↔◌, ℤ, List, Bool, Option, Contains}
use Rattle.gix_simple.proofs.Common.{ObjectId, is_among, Reaches, Tells, among_from, among_is, Objects, CommitTimeOrder, IsListBy, IsNextOne, parents_of}
use Rattle.gix_revwalk.proofs.SomeOrder.{AreParents, known_ids, known, order_exists, reached_list}

pub some_order : (o : Option CommitTimeOrder) (time : ObjectId → ℤ) (objects : Objects) (next : ObjectId → List ObjectId) (starts : List ObjectId) → AreParents objects next → (ids : List ObjectId) × IsListBy (IsNextOne o time next starts) ids
some_order o time objects next starts parents = order_exists next starts (known_ids objects starts) (known objects next starts parents) o time

pub reach_test : (objects : Objects) (ids : List ObjectId) → (test : ObjectId → Bool) × Tells test (Reaches (parents_of objects) ids)
reach_test objects ids =
    let r : (list : List ObjectId) × ((i : ObjectId) → Contains list i ↔ Reaches (parents_of objects) ids i) =
    reached_list (parents_of objects) ids (known_ids objects ids) (known objects (parents_of objects) ids (λ c i h. h)) in
    (λ i. is_among i r.0, λ i. (λ e. (r.1 i).0 (among_is i r.0 e), λ t. among_from i r.0 ((r.1 i).1 t)))
