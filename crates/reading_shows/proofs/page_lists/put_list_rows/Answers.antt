use Rattle.image_reader.specs.Views.{histogram_view}
use Rattle.image_reader.specs.Readable.{IsReadable}
use Rattle.reading_texts.proofs.Adding.{All-image_at}
use Rattle.reading_shows.specs.PageLists.{row_of_numbered}
use Rattle.reading_shows.proofs.Numbered.{numbered-all, numbered-more}
use Rattle.reading_shows.proofs.page_lists.put_list_rows.Goals as goal

pub returns : goal.returns
returns c =
    numbered-all row_of_numbered (λ hist. histogram_view hist.now) c.args.hists.now c.loop-i.i c.args.text.now.items c.loop-i-test.false c.loop-i.invariant

pub put_row_of-requires : goal.put_row_of-requires
put_row_of-requires c =
    All-image_at IsReadable (λ hist. histogram_view hist.now) c.args.hists.now c.loop-i.i c.index-hists-i.result c.requires c.loop-i-test.true c.index-hists-i.is

pub loop-i-preserved : goal.loop-i-preserved
loop-i-preserved c =
    numbered-more row_of_numbered (λ hist. histogram_view hist.now) c.args.hists.now c.loop-i.i c.index-hists-i.result c.args.text.now.items c.loop-i-test.true
    c.index-hists-i.is c.loop-i.invariant c.in_ok-put_row_of.ensures
