use Rattle.std.proofs.Common.{ℕ, List, [], ◌∷◌, ◌++◌}
use Rattle.std.specs.Prelude.{codes}
use Rattle.reading_texts.proofs.Adding.{joined-more}
use Rattle.reading_shows.specs.Showing.{quantile, range_of_found}
use Rattle.reading_shows.proofs.Cells.{joined-begun}
use Rattle.reading_shows.proofs.heading.put_quantiles.Goals as goal

pub returns : goal.returns
returns c =
    let first = c.args.text.now.items in
    let at : ℕ → List ℕ = λ thousandths. range_of_found c.args.row_names (quantile c.args.total c.args.rows.now thousandths) in
    let half = rw c.quantile.ensures at c.in_ok-put_found.ensures in
    let most = rw c.quantile-2.ensures at c.in_ok-put_found-2.ensures in
    let nearly = rw c.quantile-3.ensures at c.in_ok-put_found-3.ensures in
    let all = rw c.quantile-4.ensures at c.in_ok-put_found-4.ensures in
    let begun = codes "  50%: " ∷ at 500 ∷ [] in
    let second = begun ++ codes ", 90%: " ∷ at 900 ∷ [] in
    let third = second ++ codes ", 99%: " ∷ at 990 ∷ [] in
    let a = joined-more first (codes "  50%: " ∷ []) (at 500) (joined-begun first (codes "  50%: ") c.in_ok-extend_from_slice.ensures.items) half in
    let b = joined-more first (begun ++ codes ", 90%: " ∷ []) (at 900) (joined-more first begun (codes ", 90%: ") a c.in_ok-extend_from_slice-2.ensures.items) most in
    let d = joined-more first (second ++ codes ", 99%: " ∷ []) (at 990) (joined-more first second (codes ", 99%: ") b c.in_ok-extend_from_slice-3.ensures.items) nearly in
    let e = joined-more first (third ++ codes ", 99.9%: " ∷ []) (at 999) (joined-more first third (codes ", 99.9%: ") d c.in_ok-extend_from_slice-4.ensures.items) all in
    joined-more first (third ++ codes ", 99.9%: " ∷ at 999 ∷ []) (codes "\n") e c.in_ok-extend_from_slice-5.ensures.items
