-- Worked rows: three that are sound, and a fourth with a corrupt parent, which is the first that isn't.
use Rattle.std.proofs.Common.{ℕ, zero, suc, ◌<◌, [], ◌∷◌, replicate, refl, arith}
use Rattle.gix_hash.specs.declared.ObjectId.TheVariants as id
use Rattle.gix_commitgraph.specs.declared.ParentPlace.TheVariants.{At}
use Rattle.gix_commitgraph.specs.Rows.{row_at}
use Rattle.gix_graph_check.specs.Sound.{IsSound, AreSound, IsFirstUnsound}
use Rattle.gix_graph_check.specs.CheckExamples.{example_row, four_rows}

pub three_are_sound : (n : ℕ) → n < 3 → IsSound four_rows (row_at four_rows n)
three_are_sound zero lt = record { finite = omega arith; parents = tt }
three_are_sound (suc zero) lt = record { finite = omega arith; parents = (omega arith, (omega arith, tt)) }
three_are_sound (suc (suc zero)) lt = record { finite = omega arith; parents = (omega arith, tt) }
three_are_sound (suc (suc (suc n))) lt = absurd (omega arith)

pub fourth_is_unsound : IsFirstUnsound four_rows (id.Sha1 (replicate 20 0x44))
fourth_is_unsound = record {
  number = 3;
  within = omega arith;
  id = refl;
  unsound = λ sound. sound.parents.1.0;
  before = three_are_sound;
}

-- a parent of the same generation
pub equal_is_unsound : ¬ AreSound (example_row 0x11 2 [] ∷ example_row 0x22 2 (At 0 ∷ []) ∷ [])
equal_is_unsound sound = let less : 2 < 2 = (sound 1 (example_row 0 0 []) (omega arith)).parents.0 in omega arith

-- the generation that says that none is known
pub infinite_is_unsound : ¬ AreSound (example_row 0x11 0xffffffff [] ∷ [])
infinite_is_unsound sound = let less : 0xffffffff < 0xffffffff = (sound 0 (example_row 0 0 []) (omega arith)).finite in omega arith

pub none_are_sound : AreSound []
none_are_sound k d lt = absurd (omega arith)
