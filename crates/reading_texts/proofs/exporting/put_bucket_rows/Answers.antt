use Rattle.std.proofs.Common.{pos}
use Rattle.reading_texts.specs.declared.rows.HistRow.{HistRow}
use Rattle.reading_texts.specs.Lines.{bucket_row}
use Rattle.reading_texts.proofs.Adding.{written-each, written-more}
use Rattle.reading_texts.proofs.exporting.put_bucket_rows.Goals as goal

pub returns : goal.returns
returns c = written-each (bucket_row c.args.start.now) c.args.rows.now c.loop-row.row-index c.args.text.now.items c.loop-row-test.false c.loop-row.invariant

pub loop-row-preserved : goal.loop-row-preserved
loop-row-preserved c =
    let none : HistRow = record { low = pos 0; high = pos 0; units = 0; up_to = 0 } in
    written-more (bucket_row c.args.start.now) c.args.rows.now c.loop-row.row-index none c.args.text.now.items c.loop-row-test.true c.loop-row.invariant
    c.in_ok-put_bucket.ensures
