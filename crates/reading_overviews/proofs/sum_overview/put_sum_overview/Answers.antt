use Rattle.std.proofs.Common.{false, ◌++◌, map, codes}
use Rattle.image_reader.specs.Views.{histogram_view}
use Rattle.reading_texts.proofs.Adding.{written-both}
use Rattle.reading_overviews.specs.Overview.{kinds_line}
use Rattle.reading_overviews.specs.Spent.{spent_of}
use Rattle.reading_overviews.specs.SumOverview.{input_lines, lacking_lines, number_line}
use Rattle.reading_overviews.proofs.sum_overview.put_sum_overview.Goals as goal

pub returns : goal.returns
returns c =
    let first = c.args.text.now.items in
    let is_human = c.args.is_human in
    let head = c.args.head.now in
    let hists = map histogram_view c.args.hists.now in
    let units = rw c.spent.ensures at c.in_ok-put_number_line.ensures in
    let a = input_lines is_human head in
    let b = lacking_lines is_human head in
    let d = kinds_line is_human hists in
    let told = written-both first a b c.in_ok-put_inputs.ensures c.in_ok-put_lacking.ensures in
    let sorted = written-both first (a ++ b) d told c.in_ok-put_kinds.ensures in
    written-both first (a ++ b ++ d) (number_line is_human (codes "units        ") (spent_of false hists)) sorted units
