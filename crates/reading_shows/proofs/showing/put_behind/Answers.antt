use Rattle.std.proofs.Common.{◌^◌}
use Rattle.image_reader.specs.Views.{histogram_view}
use Rattle.reading_texts.proofs.Adding.{written-both}
use Rattle.reading_shows.specs.Showing.{shows_all_of}
use Rattle.reading_shows.proofs.Totals.{left-out-fits}
use Rattle.reading_shows.proofs.showing.put_behind.Goals as goal

pub put_left_out-requires : goal.put_left_out-requires
put_left_out-requires c =
    let hist = histogram_view c.args.hist.now in
    rw (c.as_slice-3.ensures.value, c.in_ok-picked.ensures.left_out, c.as_slice-rows.ensures.value, c.in_ok-rows.ensures, c.shows_all_of.ensures)
    (left-out-fits (shows_all_of c.args.style.shows_all hist) hist (2 ^ 64) c.requires.small)

pub returns : goal.returns
returns c =
    let rows = rw c.in_ok-rows.ensures at c.as_slice-rows.ensures.value in
    let shown = rw (rows, c.shows_all_of.ensures) at c.in_ok-picked.ensures.shown in
    let left_out = rw (rows, c.shows_all_of.ensures) at c.in_ok-picked.ensures.left_out in
    let named = rw c.as_slice.ensures.value at c.in_ok-extend_from_slice.ensures.items in
    let came = rw rows at c.in_ok-came.ensures in
    let numbered = rw came at c.in_ok-put_numbers.ensures in
    let lines = rw (c.frame_of.ensures, c.as_slice-2.ensures.value, shown) at c.in_ok-put_shown.ensures in
    let others = rw (c.as_slice-3.ensures.value, left_out) at c.in_ok-put_left_out.ensures in
    let marked = written-both _ _ _ (written-both _ _ _ named c.in_ok-extend_from_slice-2.ensures.items) c.in_ok-put_meanwhile.ensures in
    let numbers = written-both _ _ _ marked numbered in
    let rest = written-both _ _ _ (written-both _ _ _ numbers lines) others in
    written-both _ _ _ (written-both _ _ _ rest c.in_ok-put_redundant.ensures) c.in_ok-extend_from_slice-3.ensures.items
