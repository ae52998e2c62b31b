use Rattle.std.proofs.Common.{List, ℕ, [], ◌∷◌, ◌++◌, ap, sym, take, ◌∙◌}
use Rattle.std.proofs.KnownBytes.{Appends-nil}
use Rattle.gix_lines.specs.Output.{put}
use Rattle.gix_lines.proofs.Putting.{waits_in}
use Rattle.gix_lines.proofs.buffer.Buffer.put.Goals as goal

pub returns-then-piece-len : goal.returns-then-piece-len
returns-then-piece-len g c =
    let waiting = ap (take c.self.inside.filled) c.deref_mut.ensures.value ∙ c.self.view_is in
    let waits = waits_in c.place-self-inside.result c.self.inside.bytes.len c.place-self-inside.new.bytes _ _ (c.place-self-inside.ensures.len ∙ c.deref_mut.ensures.len) c.place-self-inside.ensures.taken in
    put ([], Appends-nil _, ap (λ (w : List ℕ). w ++ (c.args.piece.now ++ c.args.behind ∷ [])) (sym waiting) ∙ sym waits)
