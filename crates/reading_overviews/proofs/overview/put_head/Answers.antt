use Rattle.std.proofs.Common.{[], ◌∷◌, ◌++◌, ◌-◌, ◌*◌, false}
use Rattle.std.specs.Prelude.{codes}
use Rattle.reading_texts.proofs.Adding.{joined-more}
use Rattle.reading_overviews.specs.Numbers.{number}
use Rattle.reading_overviews.proofs.Texts.{joined-none, joined-two}
use Rattle.reading_overviews.proofs.overview.put_head.Goals as goal

pub returns : goal.returns
returns c =
    let first = c.args.text.now.items in
    let write = number c.args.is_human in
    let head = c.args.head.now in
    let size = head.shape.size in
    let words = rw c.size-size.ensures.value at c.in_ok-put_number-3.ensures in
    let bytes = rw c.size-size.ensures.value at c.in_ok-put_number-4.ensures in
    let page = rw c.page-page.ensures.value at c.in_ok-put_number-5.ensures in
    let free = rw (c.saturating_sub.ensures, c.size-size.ensures.value) at c.in_ok-put_number-7.ensures in
    let p1 = codes "version      " ∷ write head.version ∷ [] in
    let p2 = p1 ++ codes "\nid           " ∷ number false head.id ∷ [] in
    let p3 = p2 ++ codes "\nsize         " ∷ write size ∷ [] in
    let p4 = p3 ++ codes " words, " ∷ write (8 * size) ∷ [] in
    let p5 = p4 ++ codes " bytes\npage         " ∷ write head.shape.page ∷ [] in
    let p6 = p5 ++ codes " words\nused         " ∷ write head.free ∷ [] in
    let p7 = p6 ++ codes " words\nfree         " ∷ write (size - head.free) ∷ [] in
    let a1 = joined-two first [] (codes "version      ") (write head.version) (joined-none first) c.in_ok-extend_from_slice.ensures.items c.in_ok-put_number.ensures in
    let a2 = joined-two first p1 (codes "\nid           ") (number false head.id) a1 c.in_ok-extend_from_slice-2.ensures.items c.in_ok-put_number-2.ensures in
    let a3 = joined-two first p2 (codes "\nsize         ") (write size) a2 c.in_ok-extend_from_slice-3.ensures.items words in
    let a4 = joined-two first p3 (codes " words, ") (write (8 * size)) a3 c.in_ok-extend_from_slice-4.ensures.items bytes in
    let a5 = joined-two first p4 (codes " bytes\npage         ") (write head.shape.page) a4 c.in_ok-extend_from_slice-5.ensures.items page in
    let a6 = joined-two first p5 (codes " words\nused         ") (write head.free) a5 c.in_ok-extend_from_slice-6.ensures.items c.in_ok-put_number-6.ensures in
    let a7 = joined-two first p6 (codes " words\nfree         ") (write (size - head.free)) a6 c.in_ok-extend_from_slice-7.ensures.items free in
    joined-more first p7 (codes " words\n") a7 c.in_ok-extend_from_slice-8.ensures.items
