-- What is written of words that name no tip, since each set of refs in them is empty.
use Rattle.std.specs.Prelude.{◌≡◌, ℕ, ℤ, pos, List, [], ◌∷◌, ◌++◌, map, replicate, Contains, codes}
use Rattle.std.specs.Str.Lossy.{utf8_lossy}
use Rattle.gix_hash.specs.declared.ObjectId.{ObjectId}
use Rattle.gix_statement.specs.WholeStatement.{AreTips, Choice, Chooses, Follows, Form, Lines, Number, Reversed}
use Rattle.gix_memory_commands.specs.WordsOf.{words_of}

-- the word of an id: 40 digits 0
abbrev pub an_id : List ℕ
an_id = replicate 40 48

-- options are read by what they have followed, whatever that is
abbrev pub no_parents : ObjectId → List ObjectId
no_parents i = []

abbrev pub no_time : ObjectId → ℤ
no_time i = pos 0

-- of no commit
abbrev pub none_written : Form → List ℕ
none_written Lines = []
none_written Reversed = []
none_written Number = codes "0\n"

-- With an id behind them the words ask for a list of what this tip alone reaches, or of one id what is so of this one alone. So without it they
-- name none, and there is no line, or the number 0.
pub data OfNone (words : List (List ℕ)) : List ℕ → Type 0 where
  list : {by : List ℕ} {place : ℕ} (option rest : List (List ℕ)) (c : Choice) {tip : ObjectId} {hidden starts : List ObjectId}
      {followed : ObjectId → List ObjectId} → words ++ an_id ∷ [] ≡ by ∷ (option ++ rest)
      → Contains (codes "breadth" ∷ codes "newest" ∷ codes "oldest" ∷ codes "topo" ∷ codes "date" ∷ []) by
      → Follows no_parents no_time (tip ∷ []) by option followed starts → Chooses (tip ∷ []) hidden place rest c
      → OfNone words (none_written c.form)
  others : {by : List ℕ} (rest : List (List ℕ)) (one other : ObjectId) → words ++ an_id ∷ [] ≡ by ∷ rest
      → Contains (codes "contains" ∷ codes "containing" ∷ codes "merge-base" ∷ []) by → AreTips rest (one ∷ other ∷ []) [] → OfNone words []

abbrev pub LinesOfNone : (words lines : List ℕ) → Type 0
LinesOfNone words = OfNone (map utf8_lossy (words_of words))
