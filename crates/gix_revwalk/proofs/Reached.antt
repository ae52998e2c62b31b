-- What is reached from ids that are reached.
use Rattle.std.proofs.Common.{◌⊎◌, List, [], ◌∷◌, Contains, inl, inr, ⊎_elim}
use Rattle.gix_revwalk.proofs.Common.{ObjectId, Reaches, start, step, Contains-here}

pub reaches_from : (next : ObjectId → List ObjectId) (starts tips : List ObjectId) → ((i : ObjectId) → Contains starts i → Reaches next tips i) → (i : ObjectId) → Reaches next starts i → Reaches next tips i
reaches_from next starts tips f i (start m) = f i m
reaches_from next starts tips f i (step {c = c} r m) = step (reaches_from next starts tips f c r) m

-- from more ids no less is reached
pub reach_more : (next : ObjectId → List ObjectId) (starts tips : List ObjectId) → ((i : ObjectId) → Contains starts i → Contains tips i) → (i : ObjectId) → Reaches next starts i → Reaches next tips i
reach_more next starts tips f = reaches_from next starts tips (λ i m. start (f i m))

-- The path lemma of searches: what is reached is done, or is reached from what waits.
pub done_or_waits : (next : ObjectId → List ObjectId) (starts : List ObjectId) (Waits Done : ObjectId → Type 0)
    → ((i : ObjectId) → Contains starts i → Done i ⊎ Waits i)
    → ((c i : ObjectId) → Done c → Contains (next c) i → Done i ⊎ Waits i)
    → (i : ObjectId) → Reaches next starts i → Done i ⊎ ((q : ObjectId) × Waits q × Reaches next (q ∷ []) i)
done_or_waits next starts Waits Done begins goes i (start m) = ⊎_elim (λ d. inl d) (λ w. inr (i, w, start (Contains-here i []))) (begins i m)
done_or_waits next starts Waits Done begins goes i (step {c = c} r m) =
    ⊎_elim (λ d. ⊎_elim (λ e. inl e) (λ w. inr (i, w, start (Contains-here i []))) (goes c i d m))
    (λ w. inr (w.0, w.1, step w.2 m))
    (done_or_waits next starts Waits Done begins goes c r)
