use Rattle.image_reader.specs.Views.{bad_view}
use Rattle.reading_texts.specs.Text.{bad_text}
use Rattle.reading_texts.proofs.Adding.{written-all}
use Rattle.reading_texts.proofs.text.put_all_bad.Goals as goal

pub returns : goal.returns
returns c = written-all bad_text bad_view c.args.all.now c.loop-bad.bad-index c.args.text.now.items c.loop-bad-test.false c.loop-bad.invariant
