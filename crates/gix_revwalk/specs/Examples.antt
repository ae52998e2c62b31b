-- Worked examples of the definitions.
use Rattle.std.specs.Prelude.{◌≡◌, ℕ, ◌*◌, List, [], ◌∷◌, None, replicate, take, refl, if◌then◌else◌}
use Rattle.gix_hash.specs.declared.ObjectId.{ObjectId}
use Rattle.gix_hash.specs.declared.ObjectId.TheVariants as id
use Rattle.gix_hash.specs.Id.{is_same}
use Rattle.gix_revwalk.specs.BreadthOrder.{first_new, IsFirstNew, named_by}

-- the id of one digit, forty times
abbrev pub n : ℕ → ObjectId
n d = id.Sha1 (replicate 20 (17 * d))

abbrev pub history : List (ℕ × List ℕ)
history = (8, 6 ∷ 7 ∷ []) ∷ (7, 4 ∷ []) ∷ (6, 5 ∷ []) ∷ (5, 3 ∷ []) ∷ (4, 2 ∷ []) ∷ (3, 1 ∷ []) ∷ (2, 1 ∷ []) ∷ (1, []) ∷ []

abbrev pub ids : List ℕ → List ObjectId
ids [] = []
ids (d ∷ ds) = n d ∷ ids ds

abbrev pub sample_in : List (ℕ × List ℕ) → ObjectId → List ObjectId
sample_in [] i = []
sample_in (entry ∷ entries) i = if is_same i (n entry.0) then ids entry.1 else sample_in entries i

abbrev pub breadth : List ObjectId
breadth = ids (8 ∷ 6 ∷ 7 ∷ 5 ∷ 4 ∷ 3 ∷ 2 ∷ 1 ∷ [])

pub sample_breadth : IsFirstNew (sample_in history) (n 8 ∷ n 8 ∷ []) (take 4 breadth) (n 4)
sample_breadth = refl

-- behind all of them nothing comes next
pub sample_end : first_new (named_by (sample_in history) (n 8 ∷ n 8 ∷ []) breadth) breadth ≡ None
sample_end = refl
