use Rattle.std.proofs.Common.{◌≡◌, refl, sym, inl}
use Rattle.gix_graph_file.specs.ChainSteps.{files_seen}
use Rattle.gix_graph_verify.specs.Reporting.{IsOfFile}
use Rattle.gix_graph_verify.specs.declared.difference.Difference.TheVariants.{Hash}
use Rattle.gix_graph_verify.proofs.Telling.{tells-none, tells-join, tells-added, told-added, one-file-more, file-there}
use Rattle.gix_graph_verify.proofs.files.add_hashes.Goals as goal
use Rattle.gix_graph_verify.proofs.files.add_hashes.Goals.{then-not-has_its_hash+in_ok-add, else-not-has_its_hash}

pub loop-number-preserved : goal.loop-number-preserved
loop-number-preserved c =
    let files = files_seen c.args.layers.now in
    let n = c.loop-number.number in
    let old = c.loop-number.differences.items in
    let there = file-there c.args.layers.now n _ c.loop-number-test.true in
    elim c.if-not-has_its_hash.branch [
      | then-not-has_its_hash+in_ok-add w ↦
          let new = w.add.new.all.items in
          let step = tells-added (IsOfFile files) old new (Hash n) (n, _, refl, there, sym w.if-not-has_its_hash.ensures) w.in_ok-add.ensures in
          rw (w.differences-is) (record {
            tells = tells-join (IsOfFile files) c.args.differences.now.items old new c.loop-number.invariant.tells step;
            each = one-file-more old new (IsOfFile files) step files n _ there c.loop-number.invariant.each (told-added old new (Hash n) _ (λ d. d ≡ Hash n) refl w.in_ok-add.ensures);
          })
      | else-not-has_its_hash w ↦
          rw (w.differences-is) (record {
            tells = c.loop-number.invariant.tells;
            each = one-file-more old old (IsOfFile files) (tells-none (IsOfFile files) old) files n _ there c.loop-number.invariant.each (inl (sym w.if-not-has_its_hash.ensures));
          })
    ]
