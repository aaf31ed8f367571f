-- The checks after that of the name, in their order: the first that fails gives the fault.
use Rattle.std.proofs.Common.{◌≡◌, true, false, ap, sym, ◌∙◌, arith}
use mir.Syntax.{w64}
use mir.Val.{to_z, of_z}
use Rattle.std.proofs.lemmas.Int.{to_z-of_z}
use Rattle.bucket_ranges.specs.Reading.{is_bad_sum, is_bad_spec, sum_of, sum_mark_of}
use Rattle.image_reader.proofs.BucketChecks.{fault_of-units, fault_of-sum}
use Rattle.image_reader.proofs.record.fault_behind_name.Goals as goal

pub returns-in-Some : goal.returns-in-Some
returns-in-Some c =
    sym (fault_of-units c.args.words.now c.args.head.now c.args.at c.in-Some.fault
    (ap (λ p. is_bad_spec c.args.words.now p c.args.at) (sym c.page.ensures.value) ∙ (sym c.is_bad_spec.ensures.value ∙ c.if-is_bad_spec.false))
    (sym c.units_fault.ensures ∙ c.in-Some.is))

pub returns-then-is_bad_sum : goal.returns-then-is_bad_sum
returns-then-is_bad_sum c =
    let sum : to_z w64 (of_z w64 c.cast_signed-sum.result) ≡ sum_of c.args.words.now c.args.at = grind (arith, to_z-of_z) in
    let mark : to_z w64 (of_z w64 c.cast_signed-mark.result) ≡ sum_mark_of c.args.words.now c.args.at = grind (arith, to_z-of_z) in
    sym (fault_of-sum c.args.words.now c.args.head.now c.args.at true
    (ap (λ p. is_bad_spec c.args.words.now p c.args.at) (sym c.page.ensures.value) ∙ (sym c.is_bad_spec.ensures.value ∙ c.if-is_bad_spec.false))
    (sym c.units_fault.ensures ∙ c.in_default.is)
    (sym (λ i. is_bad_sum (sum i) (mark i)) ∙ (sym c.is_bad_sum.ensures ∙ c.if-is_bad_sum.true)))

pub returns : goal.returns
returns c =
    let sum : to_z w64 (of_z w64 c.cast_signed-sum.result) ≡ sum_of c.args.words.now c.args.at = grind (arith, to_z-of_z) in
    let mark : to_z w64 (of_z w64 c.cast_signed-mark.result) ≡ sum_mark_of c.args.words.now c.args.at = grind (arith, to_z-of_z) in
    sym (fault_of-sum c.args.words.now c.args.head.now c.args.at false
    (ap (λ p. is_bad_spec c.args.words.now p c.args.at) (sym c.page.ensures.value) ∙ (sym c.is_bad_spec.ensures.value ∙ c.if-is_bad_spec.false))
    (sym c.units_fault.ensures ∙ c.in_default.is)
    (sym (λ i. is_bad_sum (sum i) (mark i)) ∙ (sym c.is_bad_sum.ensures ∙ c.if-is_bad_sum.false)))
