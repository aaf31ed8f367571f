use Rattle.std.proofs.Common.{true, ◌++◌, codes}
use Rattle.image_reader.specs.Views.{histogram_view}
use Rattle.reading_texts.proofs.Adding.{written-both}
use Rattle.reading_shows.specs.Page.{table, title}
use Rattle.reading_shows.specs.Showing.{number_lines}
use Rattle.reading_shows.proofs.page.put_section.Goals as goal

pub returns : goal.returns
returns c =
    let hist = histogram_view c.args.hist.now in
    let first = c.args.text.now.items in
    let named = title (c.args.number, hist) in
    let numbers = written-both first named (number_lines true 0 hist) c.in_ok-put_title.ensures c.in_ok-put_numbers.ensures in
    let ended = written-both first (named ++ number_lines true 0 hist) (codes "</p>\n") numbers c.in_ok-extend_from_slice.ensures.items in
    written-both first (named ++ number_lines true 0 hist ++ codes "</p>\n") (table c.args.shows_all hist) ended c.in_ok-put_table.ensures
