use Rattle.std.proofs.Common.{◌≡◌, ℕ, ◌≤◌, List, arith, refl, ap, ◌∙◌}
use mir.Syntax.{w128}
use mir.Val.{to_z, of_z}
use Rattle.std.proofs.lemmas.Int.{to_z-of_z}
use Rattle.segment_image.specs.Blocks.{field_at}
use Rattle.bucket_ranges.specs.Reading.{histogram_of, sum_of, sum_mark_of}
use Rattle.image_reader.proofs.Headers.{IsHeaded-from_header}
use Rattle.image_reader.proofs.NameLengths.{named_within}
use Rattle.image_reader.proofs.Records.{same_histogram}
use Rattle.image_reader.proofs.Sound.{IsReadable-from_none, counts-buckets, counts-held, marks-buckets, marks-held}
use Rattle.image_reader.proofs.histogram.histogram.Goals as goal
use Rattle.image_reader.proofs.histogram.histogram.Goals.{then-words-at-eq-KIND_SPARSE+in_ok-of, else-words-at-eq-KIND_SPARSE+in_ok-counts}

pub spec_at-requires-clause-long : goal.spec_at-requires-clause-long
spec_at-requires-clause-long c = (IsReadable-from_none c.args.words.now c.args.head.now c.args.at c.requires.lawful).long

pub spec_at-requires-clause-name : goal.spec_at-requires-clause-name
spec_at-requires-clause-name c = (IsReadable-from_none c.args.words.now c.args.head.now c.args.at c.requires.lawful).name

pub spec_at-requires-clause-lawful : goal.spec_at-requires-clause-lawful
spec_at-requires-clause-lawful c = (IsReadable-from_none c.args.words.now c.args.head.now c.args.at c.requires.lawful).spec

pub bounds-words-at : goal.bounds-words-at
bounds-words-at c =
    let readable = IsReadable-from_none c.args.words.now c.args.head.now c.args.at c.requires.lawful in
    let long : 16 ≤ field_at c.args.words.now c.args.at 0 = readable.long in
    omega (arith, long, c.requires.within)

pub read_name-requires-clause-within : goal.read_name-requires-clause-within
read_name-requires-clause-within c =
    named_within c.args.words.now c.args.at c.requires.within (IsReadable-from_none c.args.words.now c.args.head.now c.args.at c.requires.lawful).name

pub overflow_cast-at : goal.overflow_cast-at
overflow_cast-at c =
    let long : 16 ≤ field_at c.args.words.now c.args.at 0 = (IsReadable-from_none c.args.words.now c.args.head.now c.args.at c.requires.lawful).long in
    omega (arith, long, c.requires.within, (IsHeaded-from_header c.args.words.now c.args.head.now c.requires.header).few)

pub returns : goal.returns
returns c = λ listed holds.
    let words : List ℕ = c.args.words.now in
    let version : ℕ = c.args.head.now.version in
    let sum : to_z w128 (of_z w128 c.from.result) ≡ sum_of words c.args.at = grind (arith, to_z-of_z) in
    let mark : to_z w128 (of_z w128 c.from-2.result) ≡ sum_mark_of words c.args.at = grind (arith, to_z-of_z) in
    same_histogram _ (histogram_of version words listed c.args.at) refl c.in_ok-name.ensures c.in_ok-spec.ensures
    (elim c.if-words-at-eq-KIND_SPARSE.branch [
      | then-words-at-eq-KIND_SPARSE+in_ok-of w ↦ ap (λ lists. lists.0.items) w.counts-is
          ∙ (w.in_ok-of.ensures.0 ∙ counts-held version words listed c.args.samples.now c.args.at holds w.if-words-at-eq-KIND_SPARSE.true)
      | else-words-at-eq-KIND_SPARSE+in_ok-counts w ↦ ap (λ lists. lists.0.items) w.counts-is
          ∙ (w.in_ok-counts.ensures.0 ∙ counts-buckets version words listed c.args.at w.if-words-at-eq-KIND_SPARSE.false)
    ])
    (elim c.if-words-at-eq-KIND_SPARSE.branch [
      | then-words-at-eq-KIND_SPARSE+in_ok-of w ↦ ap (λ lists. lists.1.items) w.counts-is
          ∙ (w.in_ok-of.ensures.1 ∙ marks-held version words listed c.args.samples.now c.args.at holds w.if-words-at-eq-KIND_SPARSE.true)
      | else-words-at-eq-KIND_SPARSE+in_ok-counts w ↦ ap (λ lists. lists.1.items) w.counts-is
          ∙ (w.in_ok-counts.ensures.1 ∙ marks-buckets version words listed c.args.at w.if-words-at-eq-KIND_SPARSE.false)
    ])
    sum mark refl
