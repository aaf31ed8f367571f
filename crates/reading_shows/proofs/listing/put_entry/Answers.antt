use Rattle.std.proofs.Common.{[], ◌∷◌, ◌++◌}
use Rattle.std.specs.Prelude.{codes}
use Rattle.reading_texts.proofs.Adding.{joined-more}
use Rattle.reading_overviews.proofs.Texts.{joined-none, joined-two}
use Rattle.reading_shows.specs.Columns.{at_left, at_right}
use Rattle.reading_shows.specs.Listing.{name_text}
use Rattle.reading_shows.specs.ListViews.{entry_view}
use Rattle.reading_shows.proofs.listing.put_entry.Goals as goal

pub returns : goal.returns
returns c =
    let first = c.args.text.now.items in
    let columns = c.args.columns in
    let line = entry_view c.args.entry.now in
    let name = name_text columns.name line.name in
    let kind = at_left columns.kind line.kind in
    let units = at_right columns.units line.units in
    let mean = at_right columns.mean line.mean in
    let median = at_right columns.median line.median in
    let high = at_right columns.high line.high in
    let greatest = at_right columns.greatest line.greatest in
    let named = rw c.as_slice.ensures.value at c.in_ok-put_name.ensures in
    let w1 = rw c.as_slice-2.ensures.value at c.in_ok-put_at_left.ensures in
    let w2 = rw c.as_slice-3.ensures.value at c.in_ok-put_at_right.ensures in
    let w3 = rw c.as_slice-4.ensures.value at c.in_ok-put_at_right-2.ensures in
    let w4 = rw c.as_slice-5.ensures.value at c.in_ok-put_at_right-3.ensures in
    let w5 = rw c.as_slice-6.ensures.value at c.in_ok-put_at_right-4.ensures in
    let w6 = rw c.as_slice-7.ensures.value at c.in_ok-put_at_right-5.ensures in
    let p1 = name ∷ [] in
    let p2 = p1 ++ codes "  " ∷ kind ∷ [] in
    let p3 = p2 ++ codes "  " ∷ units ∷ [] in
    let p4 = p3 ++ codes "  " ∷ mean ∷ [] in
    let p5 = p4 ++ codes "  " ∷ median ∷ [] in
    let p6 = p5 ++ codes "  " ∷ high ∷ [] in
    let p7 = p6 ++ codes "  " ∷ greatest ∷ [] in
    let a1 = joined-more first [] name (joined-none first) named in
    let a2 = joined-two first p1 (codes "  ") kind a1 c.in_ok-extend_from_slice.ensures.items w1 in
    let a3 = joined-two first p2 (codes "  ") units a2 c.in_ok-extend_from_slice-2.ensures.items w2 in
    let a4 = joined-two first p3 (codes "  ") mean a3 c.in_ok-extend_from_slice-3.ensures.items w3 in
    let a5 = joined-two first p4 (codes "  ") median a4 c.in_ok-extend_from_slice-4.ensures.items w4 in
    let a6 = joined-two first p5 (codes "  ") high a5 c.in_ok-extend_from_slice-5.ensures.items w5 in
    let a7 = joined-two first p6 (codes "  ") greatest a6 c.in_ok-extend_from_slice-6.ensures.items w6 in
    joined-more first p7 (codes "\n") a7 c.in_ok-extend_from_slice-7.ensures.items
