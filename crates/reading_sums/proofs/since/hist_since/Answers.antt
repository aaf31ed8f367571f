-- What a histogram has more than an earlier one, or why it does not.
use Rattle.std.proofs.Common.{◌<◌, List, subst, arith, rules}
use Rattle.reading_sums.specs.declared.key.KeySum.{KeySum}
use Rattle.reading_sums.specs.Whole.{AreMarksInRange}
use Rattle.reading_sums.specs.Since.{HasKeyFallen, HasLess, HasLongAmount}
use Rattle.reading_sums.specs.Views.{part_of}
use Rattle.reading_sums.proofs.HistsSince.{fallen-same, less-key, less-redundant, told-fell, whole-since}
use Rattle.reading_sums.proofs.since.hist_since.Goals as goal

pub returns-in_default-clause-refused : goal.returns-in_default-clause-refused
returns-in_default-clause-refused c = λ later earlier.
    let fallen : HasKeyFallen c.args.later.now.keys.items c.args.earlier.now.keys.items =
    fallen-same _ _ _ _ c.deref.ensures.value c.deref-2.ensures.value (rw c.in_default.is at c.in_ok-keys.ensures.fell) later.ascending earlier.ascending in
    told-fell c.fell.result c.deref-in_default.result.now c.args.later.now.name.items (HasLongAmount (part_of c.args.later.now) (part_of c.args.earlier.now))
    (λ told. HasLess (part_of c.args.later.now) (part_of c.args.earlier.now)) (λ told. ⊥)
    c.deref-in_default.ensures.value (less-key (part_of c.args.later.now) (part_of c.args.earlier.now) fallen) c.fell.ensures

pub returns-in_default-checked_sub-clause-refused : goal.returns-in_default-checked_sub-clause-refused
returns-in_default-checked_sub-clause-refused c = λ later earlier.
    let less : c.args.later.now.redundant < c.args.earlier.now.redundant = omega (arith, c.in_default-checked_sub.ensures) in
    told-fell c.fell-in_default-checked_sub.result c.deref-in_default-checked_sub.result.now c.args.later.now.name.items
    (HasLongAmount (part_of c.args.later.now) (part_of c.args.earlier.now))
    (λ told. HasLess (part_of c.args.later.now) (part_of c.args.earlier.now)) (λ told. ⊥)
    c.deref-in_default-checked_sub.ensures.value (less-redundant (part_of c.args.later.now) (part_of c.args.earlier.now) less)
    c.fell-in_default-checked_sub.ensures

pub returns-clause-range : goal.returns-clause-range
returns-clause-range c = λ later.
    let P : List KeySum → Type 0 = λ z. AreMarksInRange z → AreMarksInRange c.in-Some.keys.items in record {
      marks = subst P c.deref.ensures.value (rw c.in-Some.is at c.in_ok-keys.ensures.range) later.marks;
      sum = search rules;
      sum_mark = search rules;
      redundant = search rules;
      images = later.images;
    }

pub returns-clause-whole : goal.returns-clause-whole
returns-clause-whole c = λ later.
    whole-since _ _ _ _ _ _ c.in_ok-copy_of_spec.ensures c.deref.ensures.value (rw c.in-Some.is at c.in_ok-keys.ensures.since) later
