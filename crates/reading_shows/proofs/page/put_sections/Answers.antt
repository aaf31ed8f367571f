use Rattle.image_reader.specs.Views.{histogram_view}
use Rattle.image_reader.specs.Readable.{IsReadable}
use Rattle.reading_texts.proofs.Adding.{All-image_at}
use Rattle.reading_shows.specs.Page.{section}
use Rattle.reading_shows.proofs.Numbered.{numbered-all, numbered-more}
use Rattle.reading_shows.proofs.page.put_sections.Goals as goal

pub returns : goal.returns
returns c =
    numbered-all (section c.args.shows_all) (λ hist. histogram_view hist.now) c.args.hists.now c.loop-i.i c.args.text.now.items c.loop-i-test.false c.loop-i.invariant

pub put_section-requires : goal.put_section-requires
put_section-requires c =
    All-image_at IsReadable (λ hist. histogram_view hist.now) c.args.hists.now c.loop-i.i c.index-hists-i.result c.requires c.loop-i-test.true c.index-hists-i.is

pub loop-i-preserved : goal.loop-i-preserved
loop-i-preserved c =
    numbered-more (section c.args.shows_all) (λ hist. histogram_view hist.now) c.args.hists.now c.loop-i.i c.index-hists-i.result c.args.text.now.items c.loop-i-test.true
    c.index-hists-i.is c.loop-i.invariant c.in_ok-put_section.ensures
