-- Commits that a walk gives one after another, each of which is above.
use Rattle.std.proofs.Common.{◌≡◌, ◌≢◌, ◌+◌, ◌∙◌, ℕ, None, Some, length-append, Bool, true, false, IfOk, IsTrue, List, [], ◌∷◌, ◌++◌, length, nat_eq, Result, Ok, Err, Contains, ap, sym, subst, ⊎_elim}
use Rattle.gix_commands.specs.TopoWalked.{IsBuiltFrom}
use Rattle.gix_commands.specs.TopoWalked.{Walk as TopoWalk, Answers as TopoAnswers}
use Rattle.gix_commands.specs.Walked.{Answers, IsWalkFault, StartsFrom, Walk}
use Rattle.gix_commitgraph.specs.Rows.{GraphRow}
use Rattle.gix_hash.proofs.Ids.Membership.{Contains-cons_cases, no_member}
use Rattle.std.proofs.lemmas.List.Elements.{Contains-append_cases}
use Rattle.gix_hash.specs.declared.ObjectId.{ObjectId}
use Rattle.gix_object.specs.Object.{Objects}
use Rattle.gix_revwalk.specs.declared.Info.{Info}
use Rattle.gix_revwalk.specs.declared.Parents.TheVariants as mode
use Rattle.gix_simple.specs.declared.Sorting.TheVariants as sorting
use Rattle.gix_topo.specs.declared.Sorting.{Sorting as TopoSorting}
use Rattle.gix_words.specs.declared.words.Merges.TheVariants as merges
use Rattle.gix_words.specs.declared.words.Order.{Order}
use Rattle.gix_words.specs.declared.words.Order.TheVariants.{Topo}
use Rattle.gix_words.specs.declared.words.Shown.{Shown}
use Rattle.gix_words.specs.declared.fault.Fault.{Fault}
use Rattle.gix_paged_commands.specs.Decided.{AreAllAbove, BeginsBy, DrawsAbove, GivesAbove, GivesFirst}

-- one more
pub one_more : (P : Info → Type 0) → (infos : List Info) (info : Info) → ((one : Info) → Contains infos one → P one) → P info → (one : Info) → Contains (infos ++ info ∷ []) one → P one
one_more P infos info each here one m = ⊎_elim (each one)
    (λ n. ⊎_elim (λ (e : info ≡ one). subst P e here) (λ none. absurd (no_member one none)) (Contains-cons_cases one info [] n))
    (Contains-append_cases infos (info ∷ []) one m)

pub one_longer : (infos : List Info) (info : Info) (n : ℕ) → length infos ≡ n → length (infos ++ info ∷ []) ≡ n + 1
one_longer infos info n is = length-append infos (info ∷ []) ∙ ap (λ k. k + 1) is

-- a walk that starts so was drawn to its end
pub draws : (Above : ObjectId → Type 0) (objects : Objects) (rows : List GraphRow) (tips hidden left behind : List ObjectId) (walk : Walk) → left ≡ tips → behind ≡ hidden → tips ≢ [] → hidden ≢ []
    → StartsFrom objects rows mode.All sorting.BreadthFirst left behind walk → (result : Result Bool Fault) → GivesAbove Above Answers IsWalkFault walk result → IfOk result (λ is. IsTrue is → DrawsAbove Above objects rows tips hidden)
draws Above objects rows tips hidden left behind walk e f some others starts (Ok true) h = λ t. record {
  some_tips = some;
  some_hidden = others;
  walk = walk;
  starts = subst (λ (ids : List ObjectId). StartsFrom objects rows mode.All sorting.BreadthFirst ids hidden walk) e
      (subst (λ (ids : List ObjectId). StartsFrom objects rows mode.All sorting.BreadthFirst left ids walk) f starts);
  infos = h.0;
  ends = h.1;
  above = h.2;
}
draws Above objects rows tips hidden left behind walk e f some others starts (Ok false) h = λ t. cc
draws Above objects rows tips hidden left behind walk e f some others starts (Err e') h = tt

pub not_empty : (ids : List ObjectId) → nat_eq (length ids) 0 ≡ false → ids ≢ []
not_empty ids e none = let same : nat_eq (length ids) 0 ≡ true = ap (λ (xs : List ObjectId). nat_eq (length xs) 0) none in cc

-- a topological walk gave so many commits first
pub begins : (Above : ObjectId → Type 0) (objects : Objects) (rows : List GraphRow) (order : Order) (shown : Shown) (tips hidden left behind : List ObjectId) (by : TopoSorting) (walk : TopoWalk) (count : ℕ)
    → order ≡ Topo mode.All by → left ≡ tips → behind ≡ hidden → tips ≢ [] → AreAllAbove Above tips
    → (shown.until ≡ None) × (shown.merges ≡ merges.Any) × ((most : ℕ) × (shown.limit ≡ Some most) × (count ≡ shown.skip + most))
    → IsBuiltFrom objects rows mode.All by left behind (Ok walk) → (result : Result Bool Fault) → GivesFirst Above TopoAnswers walk count result
    → IfOk result (λ is. IsTrue is → BeginsBy Above objects rows order shown tips hidden)
begins Above objects rows order shown tips hidden left behind by walk count is e f some above lists built (Ok true) h = λ t.
    subst (λ o. BeginsBy Above objects rows o shown tips hidden) (sym is) (record {
      some_tips = some;
      tips_above = above;
      always = lists.0;
      any = lists.1;
      most = lists.2.0;
      limit = lists.2.1;
      walk = walk;
      built = subst (λ (ids : List ObjectId). IsBuiltFrom objects rows mode.All by ids hidden (Ok walk)) e
          (subst (λ (ids : List ObjectId). IsBuiltFrom objects rows mode.All by left ids (Ok walk)) f built);
      infos = h.0;
      last = h.1;
      gave = h.2;
      number = h.3 ∙ lists.2.2;
      parents_above = h.4;
    })
begins Above objects rows order shown tips hidden left behind by walk count is e f some above lists built (Ok false) h = λ t. cc
begins Above objects rows order shown tips hidden left behind by walk count is e f some above lists built (Err e') h = tt
