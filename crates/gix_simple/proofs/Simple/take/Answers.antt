use Rattle.std.proofs.Common.{◌≡◌, [], Some, None, Err, ap, subst, sym, ◌∙◌, if◌then◌else◌}
use Rattle.gix_revwalk.specs.Reading.{rows_of, rows_used, ReadsRow, RowSays}
use Rattle.gix_simple.proofs.Common.{IsUnrowed, kept_rows, Takes, row_of}
use Rattle.gix_revwalk.proofs.Rows.{read_in_use, passes}
use Rattle.gix_simple.proofs.TakesCommit.{takes_no_memory, takes_unrowed}
use Rattle.gix_simple.proofs.Simple.take.Goals as goal

pub returns-in-Err-clause-takes : goal.returns-in-Err-clause-takes
returns-in-Err-clause-takes g c =
    let source = c.read_row.ensures.same in
    subst (λ p. Takes g.F.Find.objects g.F.Find.faulty g.P.Predicate.answers c.args.self.now p (Err c.fail.result) c.fail.new.self) c.taken.view_is
    (takes_no_memory g.F.Find.objects g.F.Find.faulty g.P.Predicate.answers c.args.self.now _ _ _ _
    (λ j. record (c.self.view_is j) {
      store = (ap (λ s. s.objects) source ∙ ap (λ w. w.store) c.self.view_is) j;
      rows = (ap rows_used source ∙ ap (λ b. if b then rows_of c.self.inside.source.graph else []) c.in-Err.ensures.err ∙ ap (λ w. w.rows) c.self.view_is) j;
      text = c.self.inside.text.items;
      current = c.self.inside.current;
    }) c.fail.ensures.same c.fail.ensures.left)

pub take_by_row-requires-clause-sound : goal.take_by_row-requires-clause-sound
take_by_row-requires-clause-sound g c =
    let own = c.self.inside.source in
    let read = subst (λ p. ReadsRow (rows_of own.graph) own.in_use p.id (Some c.in-Some.row) c.read_row.new.self.in_use) c.taken.view_is (subst (λ row. ReadsRow (rows_of own.graph) own.in_use c.taken.inside.id row c.read_row.new.self.in_use) c.in-Some.is c.in-Ok.ensures.reads) in
    subst (λ rows. RowSays rows c.args.taken.id c.in-Some.row) (sym (ap rows_used c.in-Ok.ensures.same)) (read_in_use read).1

pub returns-in-Some-clause-takes : goal.returns-in-Some-clause-takes
returns-in-Some-clause-takes g c =
    let own = c.self.inside.source in
    let source = c.in-Ok.ensures.same in
    let read = subst (λ p. ReadsRow (rows_of own.graph) own.in_use p.id (Some c.in-Some.row) c.read_row.new.self.in_use) c.taken.view_is (subst (λ row. ReadsRow (rows_of own.graph) own.in_use c.taken.inside.id row c.read_row.new.self.in_use) c.in-Some.is c.in-Ok.ensures.reads) in
    subst (λ w. Takes g.F.Find.objects g.F.Find.faulty g.P.Predicate.answers w c.args.taken c.take_by_row.result c.take_by_row.new.self)
    (λ j. record (c.self.view_is j) {
      store = (ap (λ s. s.objects) source ∙ ap (λ w. w.store) c.self.view_is) j;
      rows = (ap rows_used source ∙ ap (λ b. if b then rows_of own.graph else []) (read_in_use read).0 ∙ ap (λ w. w.rows) c.self.view_is) j;
    }) c.take_by_row.ensures.takes

pub take_by_store-requires-clause-unrowed : goal.take_by_store-requires-clause-unrowed
take_by_store-requires-clause-unrowed g c =
    let own = c.self.inside.source in
    let read = subst (λ p. ReadsRow (rows_of own.graph) own.in_use p.id None c.read_row.new.self.in_use) c.taken.view_is (subst (λ row. ReadsRow (rows_of own.graph) own.in_use c.taken.inside.id row c.read_row.new.self.in_use) c.in-None.is c.in-Ok.ensures.reads) in
    subst (λ rows. row_of rows c.args.taken.id ≡ None) (sym (ap rows_used c.in-Ok.ensures.same)) (passes read).2

pub returns-in-None-clause-takes : goal.returns-in-None-clause-takes
returns-in-None-clause-takes g c =
    let own = c.self.inside.source in
    let source = c.in-Ok.ensures.same in
    let passed = passes (subst (λ p. ReadsRow (rows_of own.graph) own.in_use p.id None c.read_row.new.self.in_use) c.taken.view_is (subst (λ row. ReadsRow (rows_of own.graph) own.in_use c.taken.inside.id row c.read_row.new.self.in_use) c.in-None.is c.in-Ok.ensures.reads)) in
    takes_unrowed g.F.Find.objects g.F.Find.faulty g.P.Predicate.answers c.args.self.now c.args.taken (subst (λ w. IsUnrowed w.rows c.args.taken.id) c.self.view_is passed.0) _
    (λ j. record (c.self.view_is j) {
      store = (ap (λ s. s.objects) source ∙ ap (λ w. w.store) c.self.view_is) j;
      rows = (ap rows_used source ∙ passed.1 ∙ ap (λ w. kept_rows w.rows (row_of w.rows c.args.taken.id)) c.self.view_is) j;
    }) (subst (λ rows. row_of rows c.args.taken.id ≡ None) (sym (ap rows_used source)) passed.2) _ _ c.take_by_store.ensures.takes
