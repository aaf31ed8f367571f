use Rattle.std.proofs.Common.{◌≡◌, ◌∙◌, ℕ, Option, Some, sym, refl, arith}
use Rattle.reading_sums.specs.declared.notes.Notes.{Notes}
use Rattle.std.proofs.lemmas.Option.{same_Some}
use Rattle.sum_texts.specs.Lines.{notes_fields}
use Rattle.sum_texts.proofs.FieldLists.{one_more, none_left, word_is, text_at}
use Rattle.sum_texts.proofs.fields.notes_in.Goals as goal

pub returns-clause-found : goal.returns-clause-found
returns-clause-found c =
    let fields = c.args.fields.now in
    one_more fields 0 _ _ _ (omega arith) (word_is _ _ c.if-ne.ensures ∙ c.as_slice.ensures)
    (one_more fields 1 _ _ _ (omega arith) c.in_ok-images.ensures.found
    (one_more fields 2 _ _ _ (omega arith) c.in_ok-full.ensures.found
    (one_more fields 3 _ _ _ (omega arith) c.in_ok-corrupt.ensures.found
    (one_more fields 4 _ _ _ (omega arith) c.in_ok-stopped.ensures.found
    (one_more fields 5 _ _ _ (omega arith) c.in_ok-bad.ensures.found (none_left fields 6 (omega arith)))))))

notes_same : (images full corrupt stopped bad : ℕ) (notes : Notes) → images ≡ notes.images → full ≡ notes.full → corrupt ≡ notes.corrupt
    → stopped ≡ notes.stopped → bad ≡ notes.bad
    → ◌≡◌ {A = Option Notes} (Some (record { images = images; full = full; corrupt = corrupt; stopped = stopped; bad = bad })) (Some notes)
notes_same images full corrupt stopped bad notes a b c d e = rw (a, b, c, d, e) refl

pub returns-clause-only : goal.returns-clause-only
returns-clause-only c notes fits is =
    let fields = c.args.fields.now in
    let texts = notes_fields notes in
    let images = same_Some _ _ (sym c.in_ok-images.was ∙ c.number_in.ensures.only notes.images fits.images (text_at fields texts 1 _ is (omega arith))) in
    let full = same_Some _ _ (sym c.in_ok-full.was ∙ c.number_in-2.ensures.only notes.full fits.full (text_at fields texts 2 _ is (omega arith))) in
    let corrupt = same_Some _ _ (sym c.in_ok-corrupt.was ∙ c.number_in-3.ensures.only notes.corrupt fits.corrupt (text_at fields texts 3 _ is (omega arith))) in
    let stopped = same_Some _ _ (sym c.in_ok-stopped.was ∙ c.number_in-4.ensures.only notes.stopped fits.stopped (text_at fields texts 4 _ is (omega arith))) in
    let bad = same_Some _ _ (sym c.in_ok-bad.was ∙ c.number_in-5.ensures.only notes.bad fits.bad (text_at fields texts 5 _ is (omega arith))) in
    notes_same _ _ _ _ _ notes images full corrupt stopped bad
