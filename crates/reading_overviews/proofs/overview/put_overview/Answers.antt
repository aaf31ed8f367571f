use Rattle.std.proofs.Common.{◌++◌, map}
use Rattle.image_reader.specs.Views.{histogram_view, reading_view}
use Rattle.reading_texts.proofs.Adding.{written-both}
use Rattle.reading_overviews.specs.Overview.{head_lines, kinds_line, state_lines, unit_lines}
use Rattle.reading_overviews.specs.Spent.{is_frozen, spent_of}
use Rattle.reading_overviews.proofs.overview.put_overview.Goals as goal

pub returns : goal.returns
returns c =
    let first = c.args.text.now.items in
    let is_human = c.args.is_human in
    let head = c.args.head.now in
    let reading = reading_view c.args.reading.now in
    let hists = map histogram_view c.args.reading.now.hists.items in
    let units = rw (c.spent.ensures, c.is_frozen.ensures, c.as_slice-hists.ensures.value) at c.in_ok-put_units.ensures in
    let kinds = rw c.as_slice-hists.ensures.value at c.in_ok-put_kinds.ensures in
    let a = head_lines is_human head in
    let b = unit_lines is_human (spent_of (is_frozen head) hists) in
    let d = kinds_line is_human hists in
    let counted = written-both first a b c.in_ok-put_head.ensures units in
    let sorted = written-both first (a ++ b) d counted kinds in
    written-both first (a ++ b ++ d) (state_lines is_human reading) sorted c.in_ok-put_state.ensures
