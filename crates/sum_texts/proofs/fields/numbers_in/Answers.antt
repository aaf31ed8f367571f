use Rattle.std.proofs.Common.{◌≡◌, ◌∙◌, ◌<◌, ◌^◌, ◌∷◌, ◌++◌, [], Some, take, length, map, ap, sym, arith}
use Rattle.std.specs.Fmt.{decimal}
use Rattle.std.proofs.lemmas.Option.{same_Some}
use Rattle.std.proofs.lemmas.List.{take_more, take_all, map-append, length-map}
use Rattle.sum_texts.specs.Runs.{bytes_of}
use Rattle.sum_texts.proofs.FieldLists.{fit_at, number_at}
use Rattle.sum_texts.proofs.fields.numbers_in.Goals as goal

pub returns-in_default-clause-only : goal.returns-in_default-clause-only
returns-in_default-clause-only c numbers fits is =
    let at = number_at c.args.fields.now numbers c.loop-field.field-index _ is c.loop-field-test.true in
    let fit = fit_at (λ number. number < 2 ^ 32) numbers c.loop-field.field-index fits at.0 in
    absurd (c.in_default.not-Some _ (c.small_number_in.ensures.only _ fit at.1))

pub returns-clause-only : goal.returns-clause-only
returns-clause-only c numbers fits is =
    let many : length c.args.fields.now ≡ length numbers = sym (length-map c.args.fields.now (λ field. field.now)) ∙ (ap length is ∙ length-map numbers decimal) in
    ap Some (c.loop-field.invariant.only numbers fits is ∙ take_all c.loop-field.field-index numbers (omega arith))

pub loop-field-preserved : goal.loop-field-preserved
loop-field-preserved c = record {
  found =
      let more = take_more c.args.fields.now c.loop-field.field-index _ c.loop-field-test.true in
      ap (map decimal) c.in_ok-push.ensures.items ∙ (map-append decimal c.loop-field.numbers.items (c.in-Some.number ∷ [])
      ∙ (ap (λ s. s ++ decimal c.in-Some.number ∷ []) c.loop-field.invariant.found
      ∙ (ap (λ one. bytes_of (take c.loop-field.field-index c.args.fields.now) ++ one ∷ []) (sym c.in-Some.ensures.found)
      ∙ sym (ap bytes_of more ∙ map-append (λ field. field.now) _ _))));
  only = λ numbers fits is.
      let at = number_at c.args.fields.now numbers c.loop-field.field-index _ is c.loop-field-test.true in
      let fit = fit_at (λ number. number < 2 ^ 32) numbers c.loop-field.field-index fits at.0 in
      let number = same_Some _ _ (sym c.in-Some.is ∙ c.small_number_in.ensures.only _ fit at.1) in
      c.in_ok-push.ensures.items ∙ (ap (λ so_far. so_far ++ c.in-Some.number ∷ []) (c.loop-field.invariant.only numbers fits is)
      ∙ (ap (λ one. take c.loop-field.field-index numbers ++ one ∷ []) number ∙ sym (take_more numbers c.loop-field.field-index 0 at.0)));
}
