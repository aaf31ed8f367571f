use Rattle.std.proofs.Common.{[], ◌∷◌, ◌++◌, true}
use Rattle.std.specs.Prelude.{codes}
use Rattle.reading_texts.proofs.Adding.{joined-more}
use Rattle.reading_overviews.specs.Numbers.{number}
use Rattle.reading_shows.specs.PageRows.{drawn_bar}
use Rattle.reading_shows.specs.Shares.{percent}
use Rattle.reading_shows.specs.RowNames.{range_text}
use Rattle.reading_shows.proofs.Cells.{joined-begun, joined-narrow}
use Rattle.reading_shows.proofs.page_rows.put_units.Goals as goal

pub returns : goal.returns
returns c =
    let first = c.args.text.now.items in
    let row = c.args.row.now in
    let frame = c.args.frame in
    let begun = codes "<tr><td>" ∷ [] in
    let ranged = begun ++ range_text frame.row_names row ∷ [] in
    let barred = ranged ++ codes "</td><td>" ∷ [] ++ drawn_bar row.units frame.most ∷ [] in
    let counted = barred ++ codes "</td><td>" ∷ [] ++ number true row.units ∷ [] ++ codes "</td><td>" ∷ [] in
    let shared = counted ++ percent (codes "&lt;0.1%") row.units frame.total ∷ [] in
    let cumulated = shared ++ codes "</td><td>" ∷ [] ++ percent (codes "&lt;0.1%") row.up_to frame.total ∷ [] in
    let a = joined-more first begun (range_text frame.row_names row) (joined-begun first (codes "<tr><td>") c.in_ok-extend_from_slice.ensures.items) c.in_ok-put_range.ensures in
    let b = joined-more first (ranged ++ codes "</td><td>" ∷ []) (drawn_bar row.units frame.most) (joined-more first ranged (codes "</td><td>") a c.in_ok-extend_from_slice-2.ensures.items) c.in_ok-put_drawn_bar.ensures in
    let units = joined-more first (barred ++ codes "</td><td>" ∷ []) (number true row.units) (joined-more first barred (codes "</td><td>") b c.in_ok-extend_from_slice-3.ensures.items) c.in_ok-put_number.ensures in
    let d = joined-more first (barred ++ codes "</td><td>" ∷ [] ++ number true row.units ∷ []) (codes "</td><td>") units c.in_ok-extend_from_slice-4.ensures.items in
    let e = joined-narrow first counted (percent (codes "&lt;0.1%") row.units frame.total) d c.in_ok-put_percent.ensures in
    let f = joined-narrow first (shared ++ codes "</td><td>" ∷ []) (percent (codes "&lt;0.1%") row.up_to frame.total) (joined-more first shared (codes "</td><td>") e c.in_ok-extend_from_slice-5.ensures.items) c.in_ok-put_percent-2.ensures in
    joined-more first cumulated (codes "</td></tr>\n") f c.in_ok-extend_from_slice-6.ensures.items
