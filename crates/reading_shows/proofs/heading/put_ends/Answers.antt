use Rattle.std.proofs.Common.{[], ◌∷◌, ◌++◌}
use Rattle.std.specs.Prelude.{codes}
use Rattle.std.specs.List.{find}
use Rattle.reading_texts.proofs.Adding.{joined-more}
use Rattle.reading_shows.specs.Showing.{has_units, quantile, range_of_found}
use Rattle.reading_shows.proofs.Cells.{joined-begun}
use Rattle.reading_shows.proofs.heading.put_ends.Goals as goal

pub returns : goal.returns
returns c =
    let first = c.args.text.now.items in
    let least = range_of_found c.args.row_names (find has_units c.args.rows.now) in
    let greatest = range_of_found c.args.row_names (quantile c.args.total c.args.rows.now 1000) in
    let begun = codes "  least: " ∷ least ∷ [] in
    let low = rw c.least.ensures at c.in_ok-put_found.ensures in
    let high = rw c.quantile.ensures at c.in_ok-put_found-2.ensures in
    let a = joined-more first (codes "  least: " ∷ []) least (joined-begun first (codes "  least: ") c.in_ok-extend_from_slice.ensures.items) low in
    let b = joined-more first (begun ++ codes ", greatest: " ∷ []) greatest (joined-more first begun (codes ", greatest: ") a c.in_ok-extend_from_slice-2.ensures.items) high in
    joined-more first (begun ++ codes ", greatest: " ∷ greatest ∷ []) (codes "\n") b c.in_ok-extend_from_slice-3.ensures.items
