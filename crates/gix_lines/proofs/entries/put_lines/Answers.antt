use Rattle.std.proofs.Common.{◌≡◌, ◌+◌, ◌-◌, ℕ, Ok, Err, ap, arith, drop, flat_map, subst, sym, take, ◌∙◌}
use Rattle.std.proofs.lemmas.Result.{err_from_is_err_and}
use Rattle.gix_tree.specs.Walk.{trees_of}
use Rattle.gix_lines.specs.Files.{file_line}
use Rattle.gix_lines.specs.Inside.{AreLeft}
use Rattle.gix_lines.specs.Output.{Puts, put}
use Rattle.gix_lines.proofs.FirstLines.{all_lines, one_line, splits_at}
use Rattle.gix_lines.proofs.Putting.{puts_less, puts_more, puts_nothing}
use Rattle.gix_lines.proofs.entries.put_lines.Goals as goal

pub lines-init : goal.lines-init
lines-init g c = λ records h many. (h, put (puts_nothing _ _))

pub returns-in_err-put_next : goal.returns-in_err-put_next
returns-in_err-put_next g c = λ records h many.
    let p = err_from_is_err_and c.from_residual.result c.from_residual.ensures.1 in
    let i : ℕ = c.lines._line in
    let line = file_line c.args.ending in
    let so = c.lines.invariant records h many in
    let s = splits_at records i (omega (arith, many, c.lines-test.true)) in
    let rest = flat_map line (take (c.args.number - (i + 1)) (drop (i + 1) records)) in
    subst (λ w. Puts (g.W.Write.contents c.args.writer.now) c.args.buffer.now w c.from_residual.result (g.W.Write.contents c.put_next.new.writer) c.put_next.new.buffer) (all_lines line records i s c.args.number c.lines-test.true)
    (puts_more so.1 (puts_less rest c.in_err-put_next.was (p.1 ∙ ap (λ f. Err f) p.2) (c.put_next.ensures.line s.element (drop (i + 1) records) (subst (AreLeft (trees_of c.args.store.now) c.lines.walk) s.behind so.0))))

pub lines-preserved : goal.lines-preserved
lines-preserved g c = λ records h many.
    let i : ℕ = c.lines._line in
    let line = file_line c.args.ending in
    let so = c.lines.invariant records h many in
    let s = splits_at records i (omega (arith, many, c.lines-test.true)) in
    let left = subst (AreLeft (trees_of c.args.store.now) c.lines.walk) s.behind so.0 in (
      c.in_ok-put_next.ensures.left s.element (drop (i + 1) records) left,
      subst (λ w. Puts (g.W.Write.contents c.args.writer.now) c.args.buffer.now w (Ok tt) (g.W.Write.contents c.put_next.new.writer) c.put_next.new.buffer) (sym (one_line line records i s))
          (puts_more so.1 (c.in_ok-put_next.ensures.line s.element (drop (i + 1) records) left)),
    )

pub returns : goal.returns
returns g c = λ records h many.
    let end : c.lines._line ≡ c.args.number = omega (arith, c.lines.auto._line-end, c.lines-test.false) in
    subst (λ n. Puts (g.W.Write.contents c.args.writer.now) c.args.buffer.now (flat_map (file_line c.args.ending) (take n records)) (Ok tt) (g.W.Write.contents c.lines.writer) c.lines.buffer) end (c.lines.invariant records h many).1
