-- The copies are the images in the inputs.
use Rattle.std.proofs.Common.{inl, inr, refl, ap, ◌∙◌, arith, List, ℕ}
use Rattle.std.proofs.lemmas.Grind.{get_or_default_zero}
use Rattle.segment_looks.specs.Looks.{IsLook, head_of_copies}
use Rattle.persist_report_core.specs.LookFile.{fault_of_look}
use Rattle.persist_report_core.proofs.Looks.{look_taken, look_refused}
use Rattle.persist_report_core.proofs.look.look_of_words.Goals as goal

pub returns-then-are_of_one_segment-clause-look : goal.returns-then-are_of_one_segment-clause-look
returns-then-are_of_one_segment-clause-look c =
    let taken = look_taken (λ head. IsLook head c.image_in-one.result.now c.image_in-two.result.now c.image_in-three.result.now c.in-Ok.image)
    (head_of_copies c.image_in-one.result.now c.image_in-two.result.now c.image_in-three.result.now) c.in-Ok.image c.in-Ok.ensures in
    record {
      one = c.image_in-one.result.now;
      two = c.image_in-two.result.now;
      three = c.image_in-three.result.now;
      first_is = record { all = c.args.first.now; fit = λ k d h. rw (get_or_default_zero c.args.first.now k d h) (omega (arith, c.type_inv.first k)); bytes_are = refl; image_is = c.image_in-one.ensures };
      second_is = record { all = c.args.second.now; fit = λ k d h. rw (get_or_default_zero c.args.second.now k d h) (omega (arith, c.type_inv.second k)); bytes_are = refl; image_is = c.image_in-two.ensures };
      third_is = record { all = c.args.third.now; fit = λ k d h. rw (get_or_default_zero c.args.third.now k d h) (omega (arith, c.type_inv.third k)); bytes_are = refl; image_is = c.image_in-three.ensures };
      head = taken.0;
      head_is = taken.1;
      look_is = taken.2;
      same = c.are_of_one_segment.ensures.one c.if-are_of_one_segment.true;
    }

pub returns-else-are_of_one_segment-clause-cause : goal.returns-else-are_of_one_segment-clause-cause
returns-else-are_of_one_segment-clause-cause c =
    let taken = look_taken (λ head. IsLook head c.image_in-one.result.now c.image_in-two.result.now c.image_in-three.result.now c.in-Ok.image)
    (head_of_copies c.image_in-one.result.now c.image_in-two.result.now c.image_in-three.result.now) c.in-Ok.image c.in-Ok.ensures in
    inr (inr (
      refl,
      record {
        one = c.image_in-one.result.now;
        two = c.image_in-two.result.now;
        three = c.image_in-three.result.now;
        first_is = record { all = c.args.first.now; fit = λ k d h. rw (get_or_default_zero c.args.first.now k d h) (omega (arith, c.type_inv.first k)); bytes_are = refl; image_is = c.image_in-one.ensures };
        second_is = record { all = c.args.second.now; fit = λ k d h. rw (get_or_default_zero c.args.second.now k d h) (omega (arith, c.type_inv.second k)); bytes_are = refl; image_is = c.image_in-two.ensures };
        third_is = record { all = c.args.third.now; fit = λ k d h. rw (get_or_default_zero c.args.third.now k d h) (omega (arith, c.type_inv.third k)); bytes_are = refl; image_is = c.image_in-three.ensures };
        head = taken.0;
        head_is = taken.1;
        differ = λ same. cc (c.are_of_one_segment.ensures.several same, c.if-are_of_one_segment.false);
      },
    ))

pub returns-in-Err-clause-cause : goal.returns-in-Err-clause-cause
returns-in-Err-clause-cause c =
    let refused = look_refused (head_of_copies c.image_in-one.result.now c.image_in-two.result.now c.image_in-three.result.now) c.in-Err.fault _ (λ fault e. cc)
    c.in-Err.ensures in
    elim refused [
      | inl none ↦ inl (c.fault_of_look.ensures ∙ ap fault_of_look none)
      | inr why ↦ inr (inl (record {
        one = c.image_in-one.result.now;
        two = c.image_in-two.result.now;
        three = c.image_in-three.result.now;
        first_is = record { all = c.args.first.now; fit = λ k d h. rw (get_or_default_zero c.args.first.now k d h) (omega (arith, c.type_inv.first k)); bytes_are = refl; image_is = c.image_in-one.ensures };
        second_is = record { all = c.args.second.now; fit = λ k d h. rw (get_or_default_zero c.args.second.now k d h) (omega (arith, c.type_inv.second k)); bytes_are = refl; image_is = c.image_in-two.ensures };
        third_is = record { all = c.args.third.now; fit = λ k d h. rw (get_or_default_zero c.args.third.now k d h) (omega (arith, c.type_inv.third k)); bytes_are = refl; image_is = c.image_in-three.ensures };
        why = c.in-Err.fault;
        why_is = why;
        fault_is = c.fault_of_look.ensures;
      }))
    ]
