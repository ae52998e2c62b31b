use Rattle.std.proofs.Common.{◌≡◌, [], ◌<◌, ◌-◌, ◌||◌, true, length, arith, sym, ap, ◌∙◌}
use Rattle.gix_tree.proofs.Common.{is_same, is_among, eq_is_same, known_at, met_behind}
use Rattle.gix_hash.specs.contracts.ObjectIdPartialEq.TheImpl.{eq-value}
use Rattle.gix_tree.proofs.Levels.Met.{known_among, turns_back}
use Rattle.gix_tree.proofs.breadthfirst.Queue.knows.Goals as goal

pub returns-then-eq : goal.returns-then-eq
returns-then-eq c =
    let equal : c.eq.result ≡ eq-value.it c.args.oid.now c.index.result.now.oid = c.eq.ensures in
    let same : is_same c.args.oid.now c.index.result.now.oid ≡ true = ap (λ f. f c.args.oid.now c.index.result.now.oid) (sym eq_is_same) ∙ sym equal ∙ c.if-eq.true in
    let short : c.loop-turn.turn - 1 < length c.self.inside.trees.items = omega (arith, c.loop-turn.invariant.within, c.loop-turn-test.true) in
    let up = known_among c.self.inside.trees.items c.loop-turn.turn c.index.result.now c.args.oid.now c.self.invariant.1 c.loop-turn-test.true short c.index.ensures in
    sym (ap (λ b. b || is_among c.args.oid.now (known_at (met_behind [] c.self.inside.trees.items) c.index.result.now.turn)) same) ∙ sym up ∙ c.loop-turn.invariant.same

pub loop-turn-smaller : goal.loop-turn-smaller
loop-turn-smaller c =
    let short : c.loop-turn.turn - 1 < length c.self.inside.trees.items = omega (arith, c.loop-turn.invariant.within, c.loop-turn-test.true) in
    turns_back c.self.inside.trees.items c.loop-turn.turn c.index.result.now c.self.invariant.1 c.loop-turn-test.true short c.index.ensures

pub loop-turn-preserved : goal.loop-turn-preserved
loop-turn-preserved c =
    let equal : c.eq.result ≡ eq-value.it c.args.oid.now c.index.result.now.oid = c.eq.ensures in
    let other = ap (λ f. f c.args.oid.now c.index.result.now.oid) (sym eq_is_same) ∙ sym equal ∙ c.if-eq.false in
    let short : c.loop-turn.turn - 1 < length c.self.inside.trees.items = omega (arith, c.loop-turn.invariant.within, c.loop-turn-test.true) in
    let up = known_among c.self.inside.trees.items c.loop-turn.turn c.index.result.now c.args.oid.now c.self.invariant.1 c.loop-turn-test.true short c.index.ensures in
    let back = turns_back c.self.inside.trees.items c.loop-turn.turn c.index.result.now c.self.invariant.1 c.loop-turn-test.true short c.index.ensures in
    record {
      within = omega (arith, back, c.loop-turn.invariant.within);
      same = sym (ap (λ b. b || is_among c.args.oid.now (known_at (met_behind [] c.self.inside.trees.items) c.index.result.now.turn)) other) ∙ sym up ∙ c.loop-turn.invariant.same;
    }
