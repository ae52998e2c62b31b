use Rattle.std.proofs.Common.{◌≡◌, Some, bit_or, sym, ap, subst, ◌∙◌, arith}
use Rattle.std.specs.FinMap.{get, get-insert, insert}
use Rattle.std.specs.Option.{OnSome}
use Rattle.gix_paint.proofs.Common.{bits_at, bits_of, id_total, same_itself}
use Rattle.gix_paint.proofs.OneMoreMark.{put, put_again}
use Rattle.gix_paint.proofs.add_mark.Goals as goal

pub returns-in-None-clause-ok : goal.returns-in-None-clause-ok
returns-in-None-clause-ok c =
    let had : bits_at c.args.marks.now c.args.id ≡ 0 = ap bits_of (sym c.in_ok-insert.ensures.old ∙ c.in-None.is) in
    let all : c.args.mark.0 ≡ bit_or (bits_at c.args.marks.now c.args.id) c.args.mark.0 = sym (ap (λ n. bit_or n c.args.mark.0) had) in
    λ j. ap (λ marks. bits_at marks j) c.in_ok-insert.ensures.ok ∙ put c.args.marks.now c.args.id c.args.mark _ all j

pub returns-then-bits-clause-ok : goal.returns-then-bits-clause-ok
returns-then-bits-clause-ok c =
    let had : bits_at c.args.marks.now c.args.id ≡ c.in-Some.old.0 = ap bits_of (sym c.in_ok-insert.ensures.old ∙ c.in-Some.is) in
    let all : c.union-all.result.0 ≡ bit_or (bits_at c.args.marks.now c.args.id) c.args.mark.0 = c.union-all.ensures tt ∙ sym (ap (λ n. bit_or n c.args.mark.0) had) in
    let now = get-insert id_total c.args.marks.now c.args.id c.args.mark c.args.id in
    let here : get c.insert.new.self c.args.id ≡ Some c.args.mark = (let same = same_itself c.args.id in let put_in = ap (λ m. get m c.args.id) c.in_ok-insert.ensures.ok in grind arith) in
    let put_back : c.replace.new.self ≡ insert c.insert.new.self c.args.id c.union-all.result =
    subst (λ old. OnSome old (c.replace.new.self ≡ insert c.insert.new.self c.args.id c.union-all.result)) (c.replace.ensures.old ∙ here) c.replace.ensures.some in
    λ j. ap (λ marks. bits_at marks j) (put_back ∙ ap (λ m. insert m c.args.id c.union-all.result) c.in_ok-insert.ensures.ok) ∙ put_again c.args.marks.now c.args.id c.args.mark c.union-all.result _ all j

pub returns-else-bits-clause-ok : goal.returns-else-bits-clause-ok
returns-else-bits-clause-ok c =
    let had : bits_at c.args.marks.now c.args.id ≡ c.in-Some.old.0 = ap bits_of (sym c.in_ok-insert.ensures.old ∙ c.in-Some.is) in
    let all : c.args.mark.0 ≡ bit_or (bits_at c.args.marks.now c.args.id) c.args.mark.0 =
    (let united = c.union-all.ensures tt in let one = c.bits.ensures tt in let other = c.bits-in-Some.ensures tt in let equal = c.if-bits.false in let same = ap (λ n. bit_or n c.args.mark.0) had in grind arith) in
    λ j. ap (λ marks. bits_at marks j) c.in_ok-insert.ensures.ok ∙ put c.args.marks.now c.args.id c.args.mark _ all j
