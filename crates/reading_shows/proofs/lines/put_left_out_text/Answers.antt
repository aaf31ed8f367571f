use Rattle.std.proofs.Common.{[], ◌∷◌, ◌++◌}
use Rattle.std.specs.Prelude.{codes}
use Rattle.reading_texts.proofs.Adding.{joined-more}
use Rattle.reading_overviews.specs.Numbers.{number}
use Rattle.reading_overviews.proofs.Texts.{joined-none, joined-two}
use Rattle.reading_shows.specs.Showing.{plural}
use Rattle.reading_shows.proofs.lines.put_left_out_text.Goals as goal

pub returns : goal.returns
returns c =
    let first = c.args.text.now.items in
    let rows = number c.args.is_human c.args.rows in
    let units = number c.args.is_human c.args.units in
    let rows_end = rw c.plural.ensures at c.in_ok-extend_from_slice-3.ensures.items in
    let units_end = rw c.plural-2.ensures at c.in_ok-extend_from_slice-6.ensures.items in
    let p1 = codes "  " ∷ rows ∷ [] in
    let p2 = p1 ++ codes " more value" ∷ plural c.args.rows ∷ [] in
    let p3 = p2 ++ codes ", with " ∷ units ∷ [] in
    let p4 = p3 ++ codes " unit" ∷ plural c.args.units ∷ [] in
    let a1 = joined-two first [] (codes "  ") rows (joined-none first) c.in_ok-extend_from_slice.ensures.items c.in_ok-put_number.ensures in
    let a2 = joined-two first p1 (codes " more value") (plural c.args.rows) a1 c.in_ok-extend_from_slice-2.ensures.items rows_end in
    let a3 = joined-two first p2 (codes ", with ") units a2 c.in_ok-extend_from_slice-4.ensures.items c.in_ok-put_number-2.ensures in
    let a4 = joined-two first p3 (codes " unit") (plural c.args.units) a3 c.in_ok-extend_from_slice-5.ensures.items units_end in
    joined-more first p4 (codes " in all (--all shows them)\n") a4 c.in_ok-extend_from_slice-7.ensures.items
