use Rattle.std.proofs.Common.{◌∙◌, sym}
use Rattle.reading_shows.specs.Showing.{has_units}
use Rattle.reading_shows.proofs.Steps.{found_at, unfound-more}
use Rattle.reading_shows.proofs.heading.least.Goals as goal

pub returns-then-has_units : goal.returns-then-has_units
returns-then-has_units c =
    sym (found_at has_units c.args.rows.now c.loop-row.row-index _ c.loop-row-test.true c.loop-row.invariant (sym c.has_units.ensures ∙ c.if-has_units.true))

pub loop-row-preserved : goal.loop-row-preserved
loop-row-preserved c =
    unfound-more has_units c.args.rows.now c.loop-row.row-index _ c.loop-row-test.true c.loop-row.invariant (sym c.has_units.ensures ∙ c.if-has_units.false)
