use Rattle.std.proofs.Common.{[], ◌∷◌, ◌++◌}
use Rattle.std.specs.Prelude.{codes}
use Rattle.reading_texts.proofs.Adding.{joined-more}
use Rattle.reading_overviews.specs.Numbers.{number}
use Rattle.reading_shows.specs.Bars.{bar}
use Rattle.reading_shows.specs.Columns.{at_right}
use Rattle.reading_shows.specs.Heights.{height_of}
use Rattle.reading_shows.specs.RowNames.{range_text}
use Rattle.reading_shows.specs.Shares.{percent}
use Rattle.reading_shows.specs.Since.{came_text}
use Rattle.reading_shows.proofs.Cells.{joined-begun}
use Rattle.reading_shows.proofs.lines.put_units.Goals as goal

pub returns : goal.returns
returns c =
    let first = c.args.text.now.items in
    let row = c.args.row.now in
    let frame = c.args.frame in
    let columns = c.args.columns in
    let values = at_right columns.values (range_text frame.row_names row) in
    let drawn = bar c.args.style.is_ascii columns.bars (height_of c.args.style.is_log row.units) (height_of c.args.style.is_log frame.most) in
    let high = rw (c.height_of-height.ensures, c.height_of-most.ensures) at c.in_ok-put_bar.ensures in
    let units = at_right columns.units (number c.args.style.is_human row.units) in
    let came = at_right columns.came (came_text c.args.style.is_human c.args.came) in
    let share = at_right 8 (percent (codes "<0.1%") row.units frame.total) in
    let up_to = at_right 8 (percent (codes "<0.1%") row.up_to frame.total) in
    let begun = codes "  " ∷ values ∷ [] in
    let barred = begun ++ codes " " ∷ drawn ∷ [] in
    let numbered = barred ++ codes " " ∷ units ∷ [] in
    let a = joined-more first (codes "  " ∷ []) values (joined-begun first (codes "  ") c.in_ok-extend_from_slice.ensures.items) c.in_ok-put_values.ensures in
    let b = joined-more first (begun ++ codes " " ∷ []) drawn (joined-more first begun (codes " ") a c.in_ok-push.ensures.items) high in
    let d = joined-more first (barred ++ codes " " ∷ []) units (joined-more first barred (codes " ") b c.in_ok-push-2.ensures.items) c.in_ok-put_units_of.ensures in
    let told = numbered ++ came ∷ [] in
    let t = joined-more first numbered came d c.in_ok-put_came_of.ensures in
    let e = joined-more first told share t c.in_ok-put_percent.ensures in
    let f = joined-more first (told ++ share ∷ []) up_to e c.in_ok-put_percent-2.ensures in
    joined-more first (told ++ share ∷ up_to ∷ []) (codes "\n") f c.in_ok-push-3.ensures.items
