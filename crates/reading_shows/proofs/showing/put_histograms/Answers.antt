use Rattle.std.proofs.Common.{◌≡◌, ◌++◌, subst}
use Rattle.image_reader.specs.Readable.{IsReadable}
use Rattle.image_reader.specs.Views.{histogram_view}
use Rattle.reading_shows.specs.Showing.{histogram_text}
use Rattle.reading_shows.specs.SinceViews.{since_view}
use Rattle.reading_texts.proofs.Adding.{All-image_at, written-all, written-more}
use Rattle.reading_shows.proofs.showing.put_histograms.Goals as goal

pub returns : goal.returns
returns c = written-all (histogram_text c.args.style (since_view c.args.since)) (λ hist. histogram_view hist.now) c.args.hists.now c.loop-hist.hist-index c.args.text.now.items c.loop-hist-test.false c.loop-hist.invariant

pub put_histogram-requires : goal.put_histogram-requires
put_histogram-requires c =
    All-image_at IsReadable (λ hist. histogram_view hist.now) c.args.hists.now c.loop-hist.hist-index c.hist-item.result c.requires c.loop-hist-test.true c.hist-item.is

pub loop-hist-preserved : goal.loop-hist-preserved
loop-hist-preserved c =
    written-more (λ hist. histogram_text c.args.style (since_view c.args.since) (histogram_view hist.now)) c.args.hists.now c.loop-hist.hist-index c.hist-item.result c.args.text.now.items c.loop-hist-test.true
    c.loop-hist.invariant
    (subst (λ one. c.put_histogram.new.text.items ≡ c.loop-hist.text.items ++ histogram_text c.args.style (since_view c.args.since) (histogram_view one.now)) c.hist-item.is c.in_ok-put_histogram.ensures)
