use Rattle.std.proofs.Common.{true, ◌^◌, ◌++◌, codes}
use Rattle.image_reader.specs.Views.{histogram_view}
use Rattle.reading_texts.proofs.Adding.{written-both}
use Rattle.reading_texts.specs.Rows.{rows_of}
use Rattle.reading_shows.specs.Most.{left_out_rows, shown_rows}
use Rattle.reading_shows.specs.Page.{columns}
use Rattle.reading_shows.specs.PageRows.{rows_in_page}
use Rattle.reading_shows.specs.Showing.{frame_of, left_out_line, shows_all_of}
use Rattle.reading_shows.proofs.Totals.{left-out-fits}
use Rattle.reading_shows.proofs.page.put_table.Goals as goal

pub put_left_out-requires : goal.put_left_out-requires
put_left_out-requires c =
    let hist = histogram_view c.args.hist.now in
    rw (c.as_slice-2.ensures.value, c.in_ok-picked.ensures.left_out, c.requires.rows, c.shows_all_of.ensures)
    (left-out-fits (shows_all_of c.args.shows_all hist) hist (2 ^ 64) c.requires.readable.small)

pub returns : goal.returns
returns c =
    let shown = rw (c.requires.rows, c.shows_all_of.ensures) at c.in_ok-picked.ensures.shown in
    let left_out = rw (c.requires.rows, c.shows_all_of.ensures) at c.in_ok-picked.ensures.left_out in
    let rows = rw (c.frame_of.ensures, c.as_slice.ensures.value, shown) at c.in_ok-put_page_rows.ensures in
    let others = rw (c.as_slice-2.ensures.value, left_out) at c.in_ok-put_left_out.ensures in
    let first = c.args.text.now.items in
    let hist = histogram_view c.args.hist.now in
    let inner = rows_in_page (frame_of hist) (shown_rows (shows_all_of c.args.shows_all hist) (rows_of hist)) in
    let others_line = left_out_line true (left_out_rows (shows_all_of c.args.shows_all hist) (rows_of hist)) in
    let begun = written-both first columns inner c.in_ok-extend_from_slice.ensures.items rows in
    let ended = written-both first (columns ++ inner) (codes "</table>\n<p>") begun c.in_ok-extend_from_slice-2.ensures.items in
    let told = written-both first (columns ++ inner ++ codes "</table>\n<p>") others_line ended others in
    written-both first (columns ++ inner ++ codes "</table>\n<p>" ++ others_line) (codes "</p>\n</section>\n") told c.in_ok-extend_from_slice-3.ensures.items
