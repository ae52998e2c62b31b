-- What is known of an id by a change of the table, and by two of them.
use Rattle.std.proofs.Common.{◌≡◌, ◌+◌, ℕ, ◌∷◌, true, false, cond, if◌then◌else◌, Some, IsPermutation, refl, sym, ap, ◌∙◌, arith}
use Rattle.std.specs.FinMap as map
use Rattle.gix_hash.specs.declared.ObjectId.{ObjectId}
use Rattle.gix_hash.specs.Id.{id_cmp}
use Rattle.gix_hash.proofs.Ids.Membership.{id_total, id_apart, same_itself}
use Rattle.gix_frontier.specs.declared.Side.TheVariants.{Tips}
use Rattle.gix_frontier.specs.declared.Progress.TheVariants.{Queued}
use Rattle.gix_frontier.specs.declared.Frontier.{Frontier}
use Rattle.gix_frontier.specs.Inside.Known.{Known}
use Rattle.gix_frontier.specs.Inside.Waiting.{waiting_by}
use Rattle.gix_frontier.specs.Inside.Frontier.{is_seen, known_or, known_of, met_again, with_progress, MeetsParent, seen, unseen}

-- what was put in is known
pub known_put : (those : map.FinMap id_cmp Known) (i : ObjectId) (known : Known) → known_of (map.insert those i known) i ≡ known
known_put those i known = ap known_or (map.get-insert id_total those i known i) ∙ ap (λ b. known_or (cond b (Some known) (map.get those i))) (same_itself i)

-- of two values of an id the later one is kept
put_twice : (those : map.FinMap id_cmp Known) (i : ObjectId) (first later : Known) → map.insert (map.insert those i first) i later ≡ map.insert those i later
put_twice those i first later = map.same_map id_total id_apart (map.insert (map.insert those i first) i later) (map.insert those i later)
    (λ j. grind (arith, map.get-insert id_total (map.insert those i first) i later j, map.get-insert id_total those i first j, map.get-insert id_total those i later j))

-- an id with one child more
abbrev pub counted : Known → Known
counted known = record known { indegree = known.indegree + 1 }

pub again_seen : (known : Known) → is_seen known.tips ≡ true → met_again known ≡ counted known
again_seen known met = ap (λ b. record known { tips = if b then known.tips else Queued; indegree = known.indegree + 1 }) met

pub again_unseen : (known : Known) → is_seen known.tips ≡ false → met_again known ≡ with_progress Tips Queued (counted known)
again_unseen known new = ap (λ b. record known { tips = if b then known.tips else Queued; indegree = known.indegree + 1 }) new

abbrev with_table : Frontier → map.FinMap id_cmp Known → Frontier
with_table f known = record f { known = known }

-- an id that tips had met is counted
pub counts_seen : (old new : Frontier) (generation : ℕ) (i : ObjectId) → is_seen (known_of old.known i).tips ≡ true → new ≡ with_table old (map.insert old.known i (counted (known_of old.known i))) → MeetsParent Tips old generation i new
counts_seen old new generation i met same = (
  with_table old (map.insert old.known i (counted (known_of old.known i))),
  record { queue = refl; known = refl },
  seen (ap (λ k. is_seen k.tips) (known_put old.known i (counted (known_of old.known i))) ∙ met) same,
)

-- an id that is new to tips is counted and met
pub counts_unseen : (old new : Frontier) (generation : ℕ) (i : ObjectId) → is_seen (known_of old.known i).tips ≡ false
    → IsPermutation ((generation, waiting_by i Tips) ∷ old.queue) new.queue
    → new.known ≡ map.insert old.known i (with_progress Tips Queued (counted (known_of old.known i))) → MeetsParent Tips old generation i new
counts_unseen old new generation i met queue known =
    let put : known_of (map.insert old.known i (counted (known_of old.known i))) i ≡ counted (known_of old.known i) = known_put old.known i (counted (known_of old.known i)) in (
      with_table old (map.insert old.known i (counted (known_of old.known i))),
      record { queue = refl; known = refl },
      unseen (ap (λ k. is_seen k.tips) put ∙ met) queue
          (known ∙ sym (put_twice old.known i (counted (known_of old.known i)) _) ∙ sym (ap (λ k. map.insert (map.insert old.known i (counted (known_of old.known i))) i (with_progress Tips Queued k)) put)),
    )
