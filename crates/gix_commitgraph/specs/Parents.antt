-- The parents of a row, as they are given one by one.
use Rattle.std.specs.Prelude.{ℕ, ◌-◌, ◌==◌, nat_lt, List, [], ◌∷◌, ◌++◌, drop, map, Option, Some, None, Result, Ok, Err, if◌then◌else◌}
use Rattle.gix_commitgraph.specs.declared.ParentPlace.{ParentPlace}
use Rattle.gix_commitgraph.specs.declared.ParentPlace.TheVariants.{At, Fault}
use Rattle.gix_commitgraph.specs.declared.Position.{Position}
use Rattle.gix_commitgraph.specs.declared.ParentFault.{ParentFault}
use Rattle.gix_commitgraph.specs.Packed.{fault_word, no_parent, flag}

abbrev pub Answer : Type 0
Answer = Result Position ParentFault

abbrev pub answer_of : ParentPlace → Answer
answer_of (At n) = Ok (record { 0 = n })
answer_of Fault = Err (record {})

-- the places of a row in order, each as the number of a row or a fault
abbrev pub answers_of : List ParentPlace → List Answer
answers_of places = map answer_of places

abbrev pub answer_of_word : ℕ → Answer
answer_of_word word = if word == fault_word then Err (record {}) else Ok (record { 0 = word })

abbrev pub answers_of_option : Option ℕ → List Answer
answers_of_option None = []
answers_of_option (Some word) = answer_of_word word ∷ []

-- the answers of an overflow list
abbrev pub answers_of_list : List ℕ → List Answer
answers_of_list [] = []
answers_of_list (word ∷ words) = if nat_lt word flag then answer_of_word word ∷ answers_of_list words else answer_of_word (word - flag) ∷ []

-- the answers of two parent words, and of the overflow list that the second may name
unfoldable pub answers_of_words : ℕ → ℕ → List ℕ → List Answer
answers_of_words first second words =
    (if first == no_parent then [] else answer_of_word first ∷ [])
    ++ ((if nat_lt second no_parent then answer_of_word second ∷ [] else [])
    ++ (if nat_lt second flag then [] else answers_of_list (drop (second - flag) words)))
