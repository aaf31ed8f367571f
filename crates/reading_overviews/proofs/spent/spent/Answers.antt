use Rattle.image_reader.specs.Views.{histogram_view}
use Rattle.image_reader.specs.Readable.{IsReadable}
use Rattle.reading_texts.proofs.Adding.{All-image_at}
use Rattle.reading_overviews.proofs.spent.spent.Goals as goal

pub spent_by-requires : goal.spent_by-requires
spent_by-requires c =
    All-image_at IsReadable histogram_view c.args.hists.now c.loop-hist.hist-index c.hist-item.result c.requires c.loop-hist-test.true c.hist-item.is
