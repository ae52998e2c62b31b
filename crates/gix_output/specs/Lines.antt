-- What a writer of JSON has written.
use Rattle.std.specs.Prelude.{◌≡◌, ◌≢◌, ℕ, List, [], ◌∷◌, ◌++◌}
use Rattle.std.specs.List.{All, flat_map}
use Rattle.gix_output.specs.Json.{ReadsBack, json_of}
use Rattle.gix_output.specs.declared.json.Shape.{Shape}
use Rattle.gix_output.specs.declared.json_lines.JsonLines.{JsonLines}

-- the bytes are these lines, each with the byte that ends it, and what there is of one that hasn't ended
pub record HasLines (end : ℕ) (bytes : List ℕ) (lines : List (List ℕ)) (rest : List ℕ) : Type 0 where
  pub whole : bytes ≡ flat_map (λ line. line ++ end ∷ []) lines ++ rest
  pub ends_once : All (λ line. All (λ b. b ≢ end) line) (rest ∷ lines)

-- each line as JSON that reads back, and a newline, which is 10
abbrev pub AreJsonOf : Shape → (lines : List (List ℕ)) → (text : List ℕ) → Type 0
AreJsonOf shape lines text = (text ≡ flat_map (λ line. json_of shape line ++ 10 ∷ []) lines) × All (ReadsBack shape) lines

-- The writer was given these bytes since it was made. It has written the lines that have ended in them, and keeps the rest.
abbrev pub HasWritten : {W : Type 0} → JsonLines W → (given written : List ℕ) → Type 0
HasWritten w given written = (lines : List (List ℕ)) × HasLines w.end given lines w.line.items × AreJsonOf w.shape lines written

-- with these bytes it has written this behind what it had written
abbrev pub WritesMore : {W : Type 0} → (old new : JsonLines W) → (bytes more : List ℕ) → Type 0
WritesMore old new bytes more =
    (given written : List ℕ) → HasWritten old given written → HasWritten new (given ++ bytes) (written ++ more)
