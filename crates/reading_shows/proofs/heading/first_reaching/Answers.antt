use Rattle.std.proofs.Common.{◌∙◌, sym}
use Rattle.reading_shows.specs.Showing.{reaches}
use Rattle.reading_shows.proofs.Steps.{found_at, unfound-more}
use Rattle.reading_shows.proofs.heading.first_reaching.Goals as goal

pub returns-then-reaches : goal.returns-then-reaches
returns-then-reaches c =
    sym (found_at (reaches c.args.total c.args.thousandths) c.args.rows.now c.loop-row.row-index _ c.loop-row-test.true c.loop-row.invariant (sym c.reaches.ensures ∙ c.if-reaches.true))

pub loop-row-preserved : goal.loop-row-preserved
loop-row-preserved c =
    unfound-more (reaches c.args.total c.args.thousandths) c.args.rows.now c.loop-row.row-index _ c.loop-row-test.true c.loop-row.invariant (sym c.reaches.ensures ∙ c.if-reaches.false)
