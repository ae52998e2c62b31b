-- Exploring ends: each step leaves less to do.
use Rattle.std.proofs.Common.{◌≡◌, ◌≤◌, ◌<◌, List, ◌∷◌, ◌&&◌, cond, Contains, length, sum_by, sym, ap, subst, ◌∙◌, arith}
use Rattle.gix_topo.proofs.Common.{length_permutation, is_same, among_is, Parents, Side, Tips, Ends, Done, is_side, reached, ObjectId, Objects, Counting, Steps, IsSamePlan, side_mode, by_mode, rows_of, named_ids, walked_within}
use Rattle.std.proofs.lemmas.List.Sums.{sum_by-le-sum_by}
use Rattle.gix_topo.proofs.Counts.Frontier.{moved, unseen_by, to_do}
use Rattle.gix_topo.proofs.Counts.MeetsParents.{parents_met}
use Rattle.gix_topo.proofs.Readiness.IsReady.{last_from}
use Rattle.gix_topo.proofs.Reading.ReadsCommit.{reads_named}

module _ {F : Type 0} (objects : F → Objects) (faulty : F → ObjectId → Type 0) where
  -- the ids that rows and texts name
  abbrev pub names_of : Counting F → List ObjectId
  names_of c = named_ids (objects c.reader.find) (rows_of c.reader.graph)

  pub steps_smaller : (old new : Counting F) → Steps objects faulty old new → to_do (names_of new) new.frontier < to_do (names_of old) old.frontier
  steps_smaller old new s =
      let mode : Parents = side_mode s.entry.1.side old.parents in
      let ids : List ObjectId = s.reads.info.parent_ids.items in
      let named : (j : ObjectId) → Contains s.ids j → Contains (names_of old) j =
      λ j m. among_is j (names_of old) (reads_named (objects old.reader.find) (faulty old.reader.find) (rows_of old.reader.graph) s.reads.reads j (walked_within mode ids j (last_from (by_mode mode ids) j (subst (λ those. Contains those j) s.reads.named m)))) in
      let met : to_do (names_of old) s.followed ≤ to_do (names_of old) (record old.frontier { queue = s.left }) = (parents_met (rows_of old.reader.graph) s.follows).less (names_of old) named in
      let seen : (t : Side) (j : ObjectId) → reached new.frontier.known t j ≡ cond (is_same j s.entry.1.id && is_side t s.entry.1.side) Done (reached s.followed.known t j) = λ t j. ap (λ those. reached those t j) s.finishes.known ∙ moved s.followed.known s.entry.1.id s.entry.1.side t Done j in
      let less : sum_by (unseen_by new.frontier) (names_of old) ≤ sum_by (unseen_by s.followed) (names_of old) = sum_by-le-sum_by (unseen_by new.frontier) (unseen_by s.followed) (names_of old) (λ j. grind (arith, seen Tips j, seen Ends j)) in
      let queue : length new.frontier.queue ≡ length s.followed.queue = ap length s.finishes.queue in
      let left : length (s.entry ∷ s.left) ≡ length old.frontier.queue = length_permutation _ _ s.taken_out in
      let same : names_of old ≡ names_of new = (λ k. named_ids (objects (sym s.same.find k)) (rows_of (sym s.same.graph k))) in
      subst (λ names. to_do names new.frontier < to_do (names_of old) old.frontier) same (omega arith)

  pub same_on : (old mid new : Counting F) → IsSamePlan objects faulty old mid → IsSamePlan objects faulty mid new → IsSamePlan objects faulty old new
  same_on old mid new a b = record { find = b.find ∙ a.find; graph = b.graph ∙ a.graph; parents = b.parents ∙ a.parents; depth = b.depth ∙ a.depth }
