use Rattle.std.proofs.Common.{ℕ, List, [], ◌∷◌, ◌++◌, Err, ap, ap₂, sym, take, ◌∙◌, append_assoc}
use Rattle.std.proofs.KnownBytes.{Appends-trans}
use Rattle.std.proofs.lemmas.Result.{err_from_is_err_and}
use Rattle.gix_lines.specs.Output.{put}
use Rattle.gix_lines.proofs.Putting.{breaks_behind, breaks_within, puts_failed, waits_in}
use Rattle.gix_lines.proofs.buffer.Buffer.put_late.Goals as goal

pub returns-in_err-write_bytes : goal.returns-in_err-write_bytes
returns-in_err-write_bytes g c =
    let p = err_from_is_err_and c.from_residual.result c.from_residual.ensures.1 in
    let waiting = ap (take c.self.inside.filled) c.deref.ensures.value ∙ c.self.view_is in
    let more = c.args.piece.now ++ c.args.behind ∷ [] in
    puts_failed _ _ (p.1 ∙ ap (λ f. Err f) p.2) (ap (λ w. w ++ more) waiting) (breaks_within _ _ _ more _ c.in_err-write_bytes.ensures.fault)

pub returns-in_err-write_bytes-2 : goal.returns-in_err-write_bytes-2
returns-in_err-write_bytes-2 g c =
    let p = err_from_is_err_and c.from_residual-in_err-write_bytes-2.result c.from_residual-in_err-write_bytes-2.ensures.1 in
    let waiting = ap (take c.self.inside.filled) c.deref.ensures.value ∙ c.self.view_is in
    let more = c.args.piece.now ++ c.args.behind ∷ [] in
    puts_failed _ _ (p.1 ∙ ap (λ f. Err f) p.2) (ap (λ w. w ++ more) waiting) (breaks_behind _ _ _ _ _ _ c.in_ok-write_bytes.ensures.ok (breaks_within _ _ _ (c.args.behind ∷ []) _ c.in_err-write_bytes-2.ensures.fault))

pub returns-then-piece-len : goal.returns-then-piece-len
returns-then-piece-len g c =
    let waiting = ap (take c.self.inside.filled) c.deref.ensures.value ∙ c.self.view_is in
    let waits = waits_in c.place-self-inside.result c.self.inside.bytes.len c.place-self-inside.new.bytes _ _ (c.place-self-inside.ensures.len ∙ c.deref_mut.ensures.len) c.place-self-inside.ensures.taken in
    put (_, c.in_ok-write_bytes.ensures.ok, ap₂ (λ (x y : List ℕ). x ++ y) (sym waiting) (sym waits))

pub returns : goal.returns
returns g c =
    let waiting = ap (take c.self.inside.filled) c.deref.ensures.value ∙ c.self.view_is in
    let waits = waits_in c.place-self-inside-2.result c.self.inside.bytes.len c.place-self-inside-2.new.bytes _ _ (c.place-self-inside-2.ensures.len ∙ c.deref_mut-2.ensures.len) c.place-self-inside-2.ensures.taken in
    put (_, Appends-trans _ _ _ _ _ c.in_ok-write_bytes.ensures.ok c.in_ok-write_bytes-2.ensures.ok, sym (append_assoc c.args.self.now c.args.piece.now (c.args.behind ∷ [])) ∙ ap₂ (λ (x y : List ℕ). (x ++ c.args.piece.now) ++ y) (sym waiting) (sym waits))
