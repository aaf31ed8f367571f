use Rattle.std.proofs.Common.{◌∙◌, [], ◌∷◌, ◌++◌, ap, length, sym}
use Rattle.std.proofs.lemmas.List.{length-map}
use Rattle.std.specs.Prelude.{codes}
use Rattle.image_reader.specs.Views.{bad_view, reading_view}
use Rattle.reading_texts.proofs.Adding.{joined-more}
use Rattle.reading_overviews.specs.Numbers.{number}
use Rattle.reading_overviews.specs.Overview.{flags_text, list_text}
use Rattle.reading_overviews.proofs.Texts.{joined-none, joined-two}
use Rattle.reading_overviews.proofs.overview.put_state.Goals as goal

pub returns : goal.returns
returns c =
    let first = c.args.text.now.items in
    let reading = reading_view c.args.reading.now in
    let write = number c.args.is_human in
    let flags = flags_text reading.corrupt reading.full in
    let flagged = rw c.flags.ensures at c.in_ok-extend_from_slice-2.ensures.items in
    let many = rw c.as_slice.ensures.value at c.in_ok-put_number.ensures in
    let counted = many ∙ ap (λ n. c.extend_from_slice-3.new.self.items ++ write n) (sym (length-map c.args.reading.now.bad.items bad_view)) in
    let p1 = codes "flags        " ∷ flags ∷ [] in
    let p2 = p1 ++ codes "\nbad records  " ∷ write (length reading.bad) ∷ [] in
    let p3 = p2 ++ codes "\nlist         " ∷ list_text reading.stopped ∷ [] in
    let a1 = joined-two first [] (codes "flags        ") flags (joined-none first) c.in_ok-extend_from_slice.ensures.items flagged in
    let a2 = joined-two first p1 (codes "\nbad records  ") (write (length reading.bad)) a1 c.in_ok-extend_from_slice-3.ensures.items counted in
    let a3 = joined-two first p2 (codes "\nlist         ") (list_text reading.stopped) a2 c.in_ok-extend_from_slice-4.ensures.items c.in_ok-put_list.ensures in
    joined-more first p3 (codes "\n") a3 c.in_ok-extend_from_slice-5.ensures.items
