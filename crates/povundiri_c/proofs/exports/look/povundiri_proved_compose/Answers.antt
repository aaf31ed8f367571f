use Rattle.std.proofs.Common.{List, length, ℕ, sym, ap, ◌∙◌, arith}
use Rattle.std.proofs.lemmas.List.{length-take-le}
use Rattle.segment_looks.specs.Looks.{head_of_copies}
use Rattle.povundiri_c.proofs.Looks.{look_taken, look_long, fault_said, valid_said}
use Rattle.povundiri_c.proofs.Reporting.{in_front}
use Rattle.povundiri_c.proofs.exports.look.povundiri_proved_compose.Goals as goal

pub slice_bounds-copy_from_slice-end : goal.slice_bounds-copy_from_slice-end
slice_bounds-copy_from_slice-end c =
    let long = look_long (head_of_copies c.args.one.now c.args.two.now c.args.three.now) c.args.one.now c.args.two.now c.args.three.now c.in-Ok.look c.in-Ok.ensures in
    let same = ap (λ (words : List ℕ). length words) c.words-words.ensures in
    omega (arith, c.if-image-three.false, long, same)

pub slice_bounds-copy_from_slice-end-in-Ok : goal.slice_bounds-copy_from_slice-end-in-Ok
slice_bounds-copy_from_slice-end-in-Ok c =
    let long = look_long (head_of_copies c.args.one.now c.args.two.now c.args.three.now) c.args.one.now c.args.two.now c.args.three.now c.in-Ok.look c.in-Ok.ensures in
    let same = ap (λ (words : List ℕ). length words) c.words-words.ensures in
    sym (length-take-le (length c.words-words.result.now) c.args.image.now (omega (arith, c.if-image-three.false, long, same)))

pub copy_from_slice-requires : goal.copy_from_slice-requires
copy_from_slice-requires c =
    let long = look_long (head_of_copies c.args.one.now c.args.two.now c.args.three.now) c.args.one.now c.args.two.now c.args.three.now c.in-Ok.look c.in-Ok.ensures in
    let same = ap (λ (words : List ℕ). length words) c.words-words.ensures in
    length-take-le (length c.words-words.result.now) c.args.image.now (omega (arith, c.if-image-three.false, long, same))

pub returns-in-Ok-clause-done : goal.returns-in-Ok-clause-done
returns-in-Ok-clause-done c = λ _.
    let taken = look_taken (head_of_copies c.args.one.now c.args.two.now c.args.three.now) c.args.one.now c.args.two.now c.args.three.now c.in-Ok.look c.in-Ok.ensures in
    (taken.0, c.in-Ok.look, taken.1, taken.2, in_front _ _ c.args.image.now _ (c.copy_from_slice.ensures.after ∙ c.words-words.ensures) (ap (λ (words : List ℕ). length words) c.words-words.ensures))

pub returns-in-Err-clause-fault : goal.returns-in-Err-clause-fault
returns-in-Err-clause-fault c = λ _.
    fault_said (head_of_copies c.args.one.now c.args.two.now c.args.three.now) c.in-Err.fault c.of_look_fault.result _ (λ fault same. cc same) c.in-Err.ensures c.of_look_fault.ensures

pub returns-in-Err-clause-valid : goal.returns-in-Err-clause-valid
returns-in-Err-clause-valid c = λ _.
    valid_said (head_of_copies c.args.one.now c.args.two.now c.args.three.now) c.in-Err.fault c.of_look_fault.result _ c.in-Err.ensures c.of_look_fault.ensures
