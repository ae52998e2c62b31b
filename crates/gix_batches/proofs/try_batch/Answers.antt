use Rattle.std.proofs.Common.{Some, Ok, Err, refl, ap, map, string_bytes, ◌∙◌}
use Rattle.std.proofs.lemmas.Result.{err_from_is_err_and}
use Rattle.gix_records.proofs.ReadingFacts.{read_from}
use Rattle.gix_statement.specs.WholeStatement.{AreFed}
use Rattle.gix_batches.specs.Failing.{Fails}
use Rattle.gix_batches.proofs.FilledWalks.{if_err}
use Rattle.gix_batches.proofs.Promised.{fails_list, fails_records, fails_words, filled_fails, filled_promised, fed_so, is_fed, served_fails, unstarted_fails}
use Rattle.gix_batches.proofs.try_batch.Goals as goal

pub returns-in_err-command-clause-fails : goal.returns-in_err-command-clause-fails
returns-in_err-command-clause-fails c =
    let p = err_from_is_err_and c.from_residual.result c.from_residual.ensures.1 in
    if_err (Fails (map string_bytes c.args.words.now) c.args.records.now) _ _ (p.1 ∙ ap (λ f. Err f) p.2) (fails_words (map string_bytes c.args.words.now) c.args.records.now _ c.in_err-command.ensures)

pub returns-in_err-listing-clause-fails : goal.returns-in_err-listing-clause-fails
returns-in_err-listing-clause-fails c =
    let p = err_from_is_err_and c.from_residual-in_err-listing.result c.from_residual-in_err-listing.ensures.1 in
    if_err (Fails (map string_bytes c.args.words.now) c.args.records.now) _ _ (p.1 ∙ ap (λ f. Err f) p.2) (fails_list (map string_bytes c.args.words.now) c.args.records.now _ c.in_ok-command.ensures c.in_err-listing.ensures.err)

pub returns-in_err-store-clause-fails : goal.returns-in_err-store-clause-fails
returns-in_err-store-clause-fails c =
    let p = err_from_is_err_and c.from_residual-in_err-store.result c.from_residual-in_err-store.ensures.1 in
    if_err (Fails (map string_bytes c.args.words.now) c.args.records.now) _ _ (p.1 ∙ ap (λ f. Err f) p.2) (fails_records (map string_bytes c.args.words.now) c.args.records.now _ _ (c.in_ok-command.ensures ∙ ap (λ r. Ok r) c.in_ok-listing.ensures.ok) c.in_err-store.ensures.fault)

pub returns-clause-whole : goal.returns-clause-whole
returns-clause-whole c =
    let words = map string_bytes c.args.words.now in
    let asked = c.in_ok-command.ensures ∙ ap (λ r. Ok r) c.in_ok-listing.ensures.ok in
    let read = read_from (Some c.args.records.now) c.args.records.now _ _ refl refl c.in_ok-store.ensures.read in
    filled_promised words _ (AreFed (Some c.args.records.now)) (is_fed words c.args.records.now _ read) (fed_so words c.args.records.now _ read) (Fails words c.args.records.now) _ _ _ _ asked
    (served_fails words c.args.records.now _ read _ _ _ _ asked) _ _ _ _ _ c.batch_of.result c.batch_of.ensures.ok

pub returns-clause-ending : goal.returns-clause-ending
returns-clause-ending c =
    let words = map string_bytes c.args.words.now in
    let asked = c.in_ok-command.ensures ∙ ap (λ r. Ok r) c.in_ok-listing.ensures.ok in
    let read = read_from (Some c.args.records.now) c.args.records.now _ _ refl refl c.in_ok-store.ensures.read in
    filled_fails words _ (AreFed (Some c.args.records.now)) (is_fed words c.args.records.now _ read) (fed_so words c.args.records.now _ read) (Fails words c.args.records.now) _ _ _ _ asked
    (served_fails words c.args.records.now _ read _ _ _ _ asked) _ _ _ _ _ c.batch_of.result c.batch_of.ensures.ok

pub returns-clause-fails : goal.returns-clause-fails
returns-clause-fails c =
    let words = map string_bytes c.args.words.now in
    let asked = c.in_ok-command.ensures ∙ ap (λ r. Ok r) c.in_ok-listing.ensures.ok in
    let read = read_from (Some c.args.records.now) c.args.records.now _ _ refl refl c.in_ok-store.ensures.read in
    unstarted_fails words _ (AreFed (Some c.args.records.now)) (is_fed words c.args.records.now _ read) (fed_so words c.args.records.now _ read) (Fails words c.args.records.now) _ _ _ _ asked
    (served_fails words c.args.records.now _ read _ _ _ _ asked) c.batch_of.result c.batch_of.ensures.err c.batch_of.ensures.unwritten
