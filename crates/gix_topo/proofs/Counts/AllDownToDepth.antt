-- What exploring has found when it rests: all that is reached, down to the depth.
use Rattle.std.proofs.Common.{◌≡◌, ◌≤◌, ◌<◌, ℕ, List, Bool, true, Contains, sym, ap, subst, ⊎_elim, ◌∙◌, arith}
use Rattle.gix_topo.proofs.Common.{ObjectId, Objects, GraphRow, same_is, no_member, Parents, Side, Waiting, Frontier, IsAgreeing, known_generation, IsRested, side_mode, Explores, is_queued, reached, waits_for, waiting, IsSearched}
use Rattle.gix_topo.proofs.Common.{next_by, starts_by, IsCounted, IsBegun, IsExplored, Counting, rows_of, walked_within}
use Rattle.gix_topo.specs.Inside.Searched.{text_next}
use Rattle.gix_topo.proofs.Counts.ExploreKeeps.{explores_keep, explores_still}
use Rattle.gix_topo.proofs.Reading.ReadsCommit.{parents_lower}
use Rattle.gix_topo.proofs.Counts.Frontier.{some_term, waiting-sum}
use Rattle.gix_topo.proofs.Counts.OneSearch.{explored}

-- what waits is below the depth
queued_low : (objects : Objects) (rows : List GraphRow) (parents : Parents) (tips ends : List ObjectId) (f : Frontier) (in_use : Bool) (depth : ℕ)
    → IsSearched objects rows parents tips ends f.queue f.known → IsRested in_use depth f.queue → (side : Side) (i : ObjectId) → is_queued (reached f.known side i) ≡ true → known_generation rows i < depth
queued_low objects rows parents tips ends f in_use depth h rests side i e =
    let w : (x : ℕ × Waiting) × Contains f.queue x × (1 ≤ waits_for side i x) = some_term (waits_for side i) f.queue (grind (arith, waiting-sum f.queue side i, (h.search side).queued i)) in
    let s : i ≡ w.0.1.id = same_is i w.0.1.id (grind arith) in
    ⊎_elim (λ q. absurd (no_member w.0 (subst (λ queue. Contains queue w.0) q w.1)))
    (λ r. let l : w.0.0 < depth = r.1 w.0 w.1 in let k : w.0.0 ≡ known_generation rows i = h.keyed w.0 w.1 ∙ ap (known_generation rows) (sym s) in omega arith) rests

-- what a side reaches, and isn't below a depth to which exploring rests, is done
module _ {F : Type 0} (objects : F → Objects) (faulty : F → ObjectId → Type 0) (tips ends : List ObjectId) (taken : ObjectId → Bool) where
  pub exact_there : {old new : Counting F} {depth : ℕ} → IsAgreeing (objects old.reader.find) (rows_of old.reader.graph) → Explores objects faulty old new
      → IsCounted (objects old.reader.find) (rows_of old.reader.graph) old.parents tips ends taken old.frontier → (side : Side) → IsBegun tips ends side old.frontier → IsRested new.reader.in_use depth new.frontier.queue
      → IsExplored (objects old.reader.find) (rows_of old.reader.graph) old.parents tips ends depth side new.frontier
  exact_there {old} {new} {depth} agrees e h side begun rests =
      let s : IsSearched (objects old.reader.find) (rows_of old.reader.graph) old.parents tips ends new.frontier.queue new.frontier.known = (explores_keep objects faulty tips ends taken agrees e h).searched in
      explored (next_by (objects old.reader.find) old.parents side) (starts_by tips ends side) (known_generation (rows_of old.reader.graph)) depth (reached new.frontier.known side) (waiting new.frontier.queue side)
      (λ c j m. parents_lower (objects old.reader.find) (faulty old.reader.find) (rows_of old.reader.graph) agrees c j (walked_within (side_mode side old.parents) (text_next (objects old.reader.find) c) j m))
      (s.search side) (λ i m. explores_still objects faulty e side i (begun i m)) (queued_low (objects old.reader.find) (rows_of old.reader.graph) old.parents tips ends new.frontier new.reader.in_use depth s rests side)
