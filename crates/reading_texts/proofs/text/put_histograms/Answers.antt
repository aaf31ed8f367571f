use Rattle.std.proofs.Common.{◌≡◌, ◌++◌, subst}
use Rattle.image_reader.specs.Readable.{IsReadable}
use Rattle.image_reader.specs.Views.{histogram_view}
use Rattle.reading_texts.specs.Text.{histogram_text}
use Rattle.reading_texts.proofs.Adding.{All-image_at, written-all, written-both, written-more}
use Rattle.reading_texts.proofs.text.put_histograms.Goals as goal

pub returns : goal.returns
returns c = written-all histogram_text (λ hist. histogram_view hist.now) c.args.hists.now c.loop-hist.hist-index c.args.text.now.items c.loop-hist-test.false c.loop-hist.invariant

pub put_buckets-requires : goal.put_buckets-requires
put_buckets-requires c =
    All-image_at IsReadable (λ hist. histogram_view hist.now) c.args.hists.now c.loop-hist.hist-index c.hist-item.result c.requires c.loop-hist-test.true c.hist-item.is

pub put_total-requires : goal.put_total-requires
put_total-requires c =
    All-image_at IsReadable (λ hist. histogram_view hist.now) c.args.hists.now c.loop-hist.hist-index c.hist-item.result c.requires c.loop-hist-test.true c.hist-item.is

pub loop-hist-preserved : goal.loop-hist-preserved
loop-hist-preserved c =
    written-more (λ hist. histogram_text (histogram_view hist.now)) c.args.hists.now c.loop-hist.hist-index c.hist-item.result c.args.text.now.items c.loop-hist-test.true
    c.loop-hist.invariant
    (subst (λ one. c.put_total.new.text.items ≡ c.loop-hist.text.items ++ histogram_text (histogram_view one.now)) c.hist-item.is
    (written-both c.loop-hist.text.items _ _ c.in_ok-put_buckets.ensures c.in_ok-put_total.ensures))
