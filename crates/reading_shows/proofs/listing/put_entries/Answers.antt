use Rattle.reading_texts.proofs.Adding.{written-all}
use Rattle.reading_shows.specs.Listing.{list_line}
use Rattle.reading_shows.specs.ListViews.{entry_view}
use Rattle.reading_shows.proofs.listing.put_entries.Goals as goal

pub returns : goal.returns
returns c =
    let written = written-all (list_line c.fitted-columns.result) entry_view c.args.entries.now c.loop-entry.entry-index c.args.text.now.items c.loop-entry-test.false c.loop-entry.invariant in
    rw (c.fitted-columns.ensures, c.widest.ensures) at written
