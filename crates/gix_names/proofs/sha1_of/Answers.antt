use Rattle.std.proofs.Common.{ℕ, List, ◌∷◌, ◌++◌, ◌∙◌, ap}
use Rattle.sha1.specs.Sha1.{sha1}
use Rattle.gix_names.specs.Named.{kind_word}
use Rattle.gix_names.proofs.Pieces.{pieces}
use Rattle.gix_names.proofs.sha1_of.Goals as goal

pub returns : goal.returns
returns c =
    let a = c.args in
    c.finalize.ensures _ (c.update-5.ensures _ (c.update-4.ensures _ (c.update-3.ensures _ (c.update-2.ensures _ (c.update.ensures _ c.new-hasher.ensures)))))
    ∙ ap sha1 (pieces c.kind_word.result.now c.as_bytes.result.now a.bytes.now)
    ∙ ap (λ (w : List ℕ). sha1 (w ++ 32 ∷ (c.as_bytes.result.now ++ 0 ∷ a.bytes.now))) c.kind_word.ensures
    ∙ ap (λ (t : List ℕ). sha1 (kind_word a.object ++ 32 ∷ (t ++ 0 ∷ a.bytes.now))) (c.as_bytes.ensures.value ∙ c.format.ensures.text)
