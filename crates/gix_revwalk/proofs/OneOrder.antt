-- One id at most comes next in an order, so there is one list in it, and a beginning is the first ids of it.
use Rattle.std.proofs.Common.{◌≡◌, ℤ, List, find, not, ◌&&◌, Option, Some, None, sym, ap, ◌∙◌, arith}
use Rattle.std.proofs.lemmas.Int.{ints}
use Rattle.gix_revwalk.proofs.Common.{ObjectId, is_among, CommitTimeOrder, IsNextOne, IsFirstBest, IsNoWorse, is_no_worse}
use Rattle.gix_revwalk.specs.declared.CommitTimeOrder.TheVariants.{NewestFirst, OldestFirst}

pub same_some : (i j : ObjectId) → Some i ≡ Some j → i ≡ j
same_some i j e = cc

as_good : (order : CommitTimeOrder) (a b : ℤ) → IsNoWorse order a b → IsNoWorse order b a → a ≡ b
as_good NewestFirst a b h k = omega (arith, ints)
as_good OldestFirst a b h k = omega (arith, ints)

-- the first of best time is one
pub one_best : (order : CommitTimeOrder) (time : ObjectId → ℤ) (P : ObjectId → Type 0) (names taken : List ObjectId) (i j : ObjectId) → IsFirstBest order time P names taken i → IsFirstBest order time P names taken j → i ≡ j
one_best order time P names taken i j a b =
    let same : time i ≡ time j = as_good order (time i) (time j) (a.best.best j b.best.among) (b.best.best i a.best.among) in
    same_some i j (sym a.first ∙ ap (λ t. find (λ k. not (is_among k taken) && is_no_worse order (time k) t) names) same ∙ b.first)

pub one_next : (o : Option CommitTimeOrder) (time : ObjectId → ℤ) (next : ObjectId → List ObjectId) (starts taken : List ObjectId) (i j : ObjectId) → IsNextOne o time next starts taken i → IsNextOne o time next starts taken j → i ≡ j
one_next None time next starts taken i j a b = same_some i j (sym a ∙ b)
one_next (Some order) time next starts taken i j a b = one_best order time _ _ taken i j a b
