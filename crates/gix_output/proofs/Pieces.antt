-- A text in pieces is quoted as in one.
use Rattle.std.proofs.Common.{[], ◌∷◌, ◌++◌, append_assoc, refl, sym, ap, ◌∙◌}
use Rattle.gix_output.specs.Terminal.{QuotesInPieces, last_or, quoted, shown}

pub in_pieces : QuotesInPieces
in_pieces before [] next = refl
in_pieces before (b ∷ first) next =
    ap (λ s. shown before b ++ s) (in_pieces b first next) ∙ sym (append_assoc (shown before b) (quoted b first) (quoted (last_or b first) next))
