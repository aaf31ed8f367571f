use Rattle.std.proofs.Common.{[], ◌∷◌, ◌++◌, map}
use Rattle.std.specs.Prelude.{codes}
use Rattle.image_reader.specs.Views.{histogram_view}
use Rattle.reading_texts.proofs.Adding.{joined-more}
use Rattle.reading_overviews.specs.Overview.{kind_text}
use Rattle.reading_overviews.proofs.Texts.{joined-none, joined-two}
use Rattle.reading_overviews.proofs.overview.put_kinds.Goals as goal

pub returns : goal.returns
returns c =
    let first = c.args.text.now.items in
    let kind = kind_text c.args.is_human (map histogram_view c.args.hists.now) in
    let p1 = codes "histograms   " ∷ kind (codes "linear") ∷ [] in
    let p2 = p1 ++ codes ", " ∷ kind (codes "boolean") ∷ [] in
    let p3 = p2 ++ codes ", " ∷ kind (codes "custom") ∷ [] in
    let p4 = p3 ++ codes ", " ∷ kind (codes "sparse") ∷ [] in
    let a1 = joined-two first [] (codes "histograms   ") (kind (codes "linear")) (joined-none first) c.in_ok-extend_from_slice.ensures.items c.in_ok-put_kind.ensures in
    let a2 = joined-two first p1 (codes ", ") (kind (codes "boolean")) a1 c.in_ok-extend_from_slice-2.ensures.items c.in_ok-put_kind-2.ensures in
    let a3 = joined-two first p2 (codes ", ") (kind (codes "custom")) a2 c.in_ok-extend_from_slice-3.ensures.items c.in_ok-put_kind-3.ensures in
    let a4 = joined-two first p3 (codes ", ") (kind (codes "sparse")) a3 c.in_ok-extend_from_slice-4.ensures.items c.in_ok-put_kind-4.ensures in
    joined-more first p4 (codes "\n") a4 c.in_ok-extend_from_slice-5.ensures.items
