use Rattle.std.proofs.Common.{◌≡◌, List, ℕ, ◌+◌, ◌-◌, ◌++◌, Ok, Err, ap, ap₂, refl, sym, subst, take, drop, ◌∙◌}
use Rattle.std.proofs.lemmas.List.{take_all}
use Rattle.std.proofs.lemmas.Result.{err_from_is_err_and}
use Rattle.gix_lines.specs.declared.walk.Upper.{Upper}
use Rattle.gix_lines.specs.Inside.{KeepsNames, Standing, names_above}
use Rattle.gix_lines.specs.Output.{Puts, put}
use Rattle.gix_lines.proofs.Names.{all_names, names_behind, names_of, one_name}
use Rattle.gix_lines.proofs.Putting.{puts_less, puts_more, puts_nothing}
use Rattle.gix_lines.proofs.walk.Walk.put_names.Goals as goal

-- the names in one piece, and the others
whole : (end level joined : ℕ) (path lent : List ℕ) (above items : List Upper) → KeepsNames above level joined path end → lent ≡ path → items ≡ above → take end lent ++ names_of (take (level - joined) (drop joined items)) ≡ names_of (take level above)
whole end level joined path lent above items keeps path_is items_are =
    ap₂ (λ (p : List ℕ) (xs : List Upper). take end p ++ names_of (take (level - joined) (drop joined xs))) path_is items_are ∙ ap (λ w. w ++ names_of (take (level - joined) (drop joined above))) keeps.names
    ∙ names_behind above joined level keeps.few

pub returns-in_err-put_all : goal.returns-in_err-put_all
returns-in_err-put_all g c =
    let p = err_from_is_err_and c.from_residual.result c.from_residual.ensures.1 in
    let above = c.self.inside.above.items in
    let names = whole c.self.inside.end c.self.inside.level c.self.inside.joined c.self.inside.path.items c.deref.result.now above above c.self.invariant c.deref.ensures.value refl ∙ ap (λ (s : Standing). names_above s.above) c.self.view_is in
    subst (λ w. Puts (g.W.Write.contents c.args.writer.now) c.args.buffer.now w c.from_residual.result (g.W.Write.contents c.put_all.new.writer) c.put_all.new.self) names
    (puts_less (names_of (take (c.self.inside.level - c.self.inside.joined) (drop c.self.inside.joined above))) c.in_err-put_all.was (p.1 ∙ ap (λ f. Err f) p.2) c.put_all.ensures)

pub names-init : goal.names-init
names-init g c = put (puts_nothing _ _)

pub returns-in_err-put : goal.returns-in_err-put
returns-in_err-put g c =
    let p = err_from_is_err_and c.from_residual-in_err-put.result c.from_residual-in_err-put.ensures.1 in
    let items = take (c.self.inside.level - c.self.inside.joined) (drop c.self.inside.joined c.deref-2.result.now) in
    let names = ap (λ w. take c.self.inside.end c.deref.result.now ++ w) (all_names items c.names.upper-index _ c.names-test.true)
    ∙ whole c.self.inside.end c.self.inside.level c.self.inside.joined c.self.inside.path.items c.deref.result.now c.self.inside.above.items c.deref-2.result.now c.self.invariant c.deref.ensures.value c.deref-2.ensures.value ∙ ap (λ (s : Standing). names_above s.above) c.self.view_is in
    subst (λ w. Puts (g.W.Write.contents c.args.writer.now) c.args.buffer.now w c.from_residual-in_err-put.result (g.W.Write.contents c.put.new.writer) c.put.new.self) names
    (puts_more c.in_ok-put_all.ensures (puts_more c.names.invariant (puts_less (names_of (drop (c.names.upper-index + 1) items)) c.in_err-put.was (p.1 ∙ ap (λ f. Err f) p.2) c.put.ensures)))

pub names-preserved : goal.names-preserved
names-preserved g c =
    let items = take (c.self.inside.level - c.self.inside.joined) (drop c.self.inside.joined c.deref-2.result.now) in
    subst (λ w. Puts (g.W.Write.contents c.put_all.new.writer) c.put_all.new.self w (Ok tt) (g.W.Write.contents c.put.new.writer) c.put.new.self) (sym (one_name items c.names.upper-index _ c.names-test.true))
    (puts_more c.names.invariant c.in_ok-put.ensures)

pub returns : goal.returns
returns g c =
    let items = take (c.self.inside.level - c.self.inside.joined) (drop c.self.inside.joined c.deref-2.result.now) in
    let names = ap (λ xs. take c.self.inside.end c.deref.result.now ++ names_of xs) (take_all c.names.upper-index items c.names-test.false)
    ∙ whole c.self.inside.end c.self.inside.level c.self.inside.joined c.self.inside.path.items c.deref.result.now c.self.inside.above.items c.deref-2.result.now c.self.invariant c.deref.ensures.value c.deref-2.ensures.value ∙ ap (λ (s : Standing). names_above s.above) c.self.view_is in
    subst (λ w. Puts (g.W.Write.contents c.args.writer.now) c.args.buffer.now w (Ok tt) (g.W.Write.contents c.names.writer) c.names.buffer) names
    (puts_more c.in_ok-put_all.ensures c.names.invariant)
