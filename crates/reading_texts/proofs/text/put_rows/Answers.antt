use Rattle.image_reader.specs.Views.{histogram_view}
use Rattle.reading_texts.specs.Text.{bucket_text}
use Rattle.reading_texts.proofs.Adding.{written-each}
use Rattle.reading_texts.proofs.text.put_rows.Goals as goal

pub returns : goal.returns
returns c = written-each (bucket_text (histogram_view c.args.hist.now)) c.args.rows.now c.loop-row.row-index c.args.text.now.items c.loop-row-test.false c.loop-row.invariant
