-- What the bytes that are left add in lower case.
use Rattle.std.proofs.Common.{ℕ, suc, ◌≡◌, ◌+◌, ◌<◌, List, ◌∷◌, length, drop, drop-cons, get_or, ap, ◌∙◌, arith}
use Rattle.std.specs.Char.{to_ascii_lowercase}
use Rattle.std.specs.Str.{str_to_ascii_lowercase}

pub next_byte : (text : List ℕ) (i : ℕ) → i < length text
    → str_to_ascii_lowercase (drop i text) ≡ to_ascii_lowercase (get_or text i 0) ∷ str_to_ascii_lowercase (drop (i + 1) text)
next_byte text i at =
    ap str_to_ascii_lowercase (drop-cons text i 0 at)
    ∙ ap (λ k. to_ascii_lowercase (get_or text i 0) ∷ str_to_ascii_lowercase (drop k text)) {x = suc i} {y = i + 1} (omega arith)
