use Rattle.std.proofs.Common.{◌++◌, codes, map}
use Rattle.std.specs.List.{flat_map, enumerate_from}
use Rattle.image_reader.specs.Views.{histogram_view}
use Rattle.reading_texts.proofs.Adding.{written-both}
use Rattle.reading_shows.specs.PageLists.{row_of_numbered}
use Rattle.reading_shows.proofs.page_lists.put_page_list.Goals as goal

pub returns : goal.returns
returns c =
    let first = c.args.text.now.items in
    let head = codes "<nav>\n<table>\n<tr><th>name</th><th>kind</th><th>units</th><th>mean</th><th>50%</th><th>99%</th><th>greatest</th></tr>\n" in
    let rows = flat_map row_of_numbered (enumerate_from 0 (map (λ hist. histogram_view hist.now) c.args.hists.now)) in
    let begun = written-both first head rows c.in_ok-extend_from_slice.ensures.items c.in_ok-put_list_rows.ensures in
    written-both first (head ++ rows) (codes "</table>\n</nav>\n") begun c.in_ok-extend_from_slice-2.ensures.items
