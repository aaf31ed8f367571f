use Rattle.image_reader.specs.Views.{bad_view}
use Rattle.reading_shows.specs.Showing.{bad_sentence}
use Rattle.reading_texts.proofs.Adding.{written-all, written-more}
use Rattle.reading_shows.proofs.ending.put_all_bad.Goals as goal

pub returns : goal.returns
returns c = written-all bad_sentence bad_view c.args.all.now c.loop-bad.bad-index c.args.text.now.items c.loop-bad-test.false c.loop-bad.invariant

pub loop-bad-preserved : goal.loop-bad-preserved
loop-bad-preserved c =
    written-more (λ bad. bad_sentence (bad_view bad)) c.args.all.now c.loop-bad.bad-index _ c.args.text.now.items c.loop-bad-test.true c.loop-bad.invariant c.in_ok-put_bad.ensures
