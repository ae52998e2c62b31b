use Rattle.std.proofs.Common.{ℕ, [], ◌++◌, append-nil, arith, sym, ◌∙◌}
use Rattle.std.specs.Fmt.{decimal}
use Rattle.std.proofs.lemmas.Grind.{common_steps}
use Rattle.std.proofs.lemmas.Int.{to_z-of_z}
use Rattle.gix_format.specs.Pieces.{date_text}
use Rattle.gix_format.proofs.Dates.{date-not_empty, date_text-is, no_date}
use Rattle.gix_format.proofs.date.add_date_and_time.Goals as goal

pub returns-then-not-is_offset-clause-whole : goal.returns-then-not-is_offset-clause-whole
returns-then-not-is_offset-clause-whole c =
    let is = no_date c.args.time c.args.offset.now (sym c.if-not-is_offset.ensures) in
    grind (arith, common_steps)

pub returns-in_err-extend_from_slice-2-clause-begun : goal.returns-in_err-extend_from_slice-2-clause-begun
returns-in_err-extend_from_slice-2-clause-begun c =
    let year : ℕ = c.year_and_day-year.result.0 in
    let fits = c.ranges.time in
    let now = simp to_z-of_z at c.clock-now.ensures in
    let is = date_text-is c.args.time c.args.offset.now _ _ _ _ _ (sym c.if-not-is_offset.ensures) now c.year_and_day-year.ensures.text c.month_and_day-month.ensures.text in (
      decimal year,
      c.behind_the_year.result ++ c.args.offset.now,
      grind (arith, common_steps),
      grind (arith, common_steps),
    )

pub returns-in_err-extend_from_slice-3-clause-begun : goal.returns-in_err-extend_from_slice-3-clause-begun
returns-in_err-extend_from_slice-3-clause-begun c =
    let year : ℕ = c.year_and_day-year.result.0 in
    let fits = c.ranges.time in
    let now = simp to_z-of_z at c.clock-now.ensures in
    let is = date_text-is c.args.time c.args.offset.now _ _ _ _ _ (sym c.if-not-is_offset.ensures) now c.year_and_day-year.ensures.text c.month_and_day-month.ensures.text in (
      decimal year ++ c.behind_the_year.result,
      c.args.offset.now,
      grind (arith, common_steps),
      grind (arith, common_steps),
    )

pub returns-clause-whole : goal.returns-clause-whole
returns-clause-whole c =
    let fits = c.ranges.time in
    let now = simp to_z-of_z at c.clock-now.ensures in
    let is = date_text-is c.args.time c.args.offset.now _ _ _ _ _ (sym c.if-not-is_offset.ensures) now c.year_and_day-year.ensures.text c.month_and_day-month.ensures.text in
    grind (arith, common_steps)

pub returns-clause-begun : goal.returns-clause-begun
returns-clause-begun c =
    let fits = c.ranges.time in
    let now = simp to_z-of_z at c.clock-now.ensures in
    let is = date_text-is c.args.time c.args.offset.now _ _ _ _ _ (sym c.if-not-is_offset.ensures) now c.year_and_day-year.ensures.text c.month_and_day-month.ensures.text in
    (date_text c.args.time c.args.offset.now, [], grind (arith, common_steps), append-nil _)

pub returns-in_err-extend_from_slice-clause-succeeds : goal.returns-in_err-extend_from_slice-clause-succeeds
returns-in_err-extend_from_slice-clause-succeeds c =
    let fits = c.ranges.time in
    let now = simp to_z-of_z at c.clock-now.ensures in
    let is = date_text-is c.args.time c.args.offset.now _ _ _ _ _ (sym c.if-not-is_offset.ensures) now c.year_and_day-year.ensures.text c.month_and_day-month.ensures.text in
    λ none. absurd (date-not_empty _ _ _ _ _ (sym is ∙ none))

pub returns-in_err-extend_from_slice-2-clause-succeeds : goal.returns-in_err-extend_from_slice-2-clause-succeeds
returns-in_err-extend_from_slice-2-clause-succeeds c =
    let fits = c.ranges.time in
    let now = simp to_z-of_z at c.clock-now.ensures in
    let is = date_text-is c.args.time c.args.offset.now _ _ _ _ _ (sym c.if-not-is_offset.ensures) now c.year_and_day-year.ensures.text c.month_and_day-month.ensures.text in
    λ none. absurd (date-not_empty _ _ _ _ _ (sym is ∙ none))

pub returns-in_err-extend_from_slice-3-clause-succeeds : goal.returns-in_err-extend_from_slice-3-clause-succeeds
returns-in_err-extend_from_slice-3-clause-succeeds c =
    let fits = c.ranges.time in
    let now = simp to_z-of_z at c.clock-now.ensures in
    let is = date_text-is c.args.time c.args.offset.now _ _ _ _ _ (sym c.if-not-is_offset.ensures) now c.year_and_day-year.ensures.text c.month_and_day-month.ensures.text in
    λ none. absurd (date-not_empty _ _ _ _ _ (sym is ∙ none))
