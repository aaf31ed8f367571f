-- The buckets of a record without a fault lie in the words, and none of their totals is too large.
use Rattle.std.proofs.Common.{◌≡◌, ap, ◌∙◌}
use Rattle.bucket_ranges.specs.Reading.{spec_of}
use Rattle.bucket_ranges.specs.Ranges.{boundaries_of}
use Rattle.bucket_ranges.specs.Spec.{spec_fault}
use Rattle.image_reader.proofs.Sound.{IsReadable-from_none, HasBuckets-from_none, counts-read, marks-read, room-read, small-read}
use Rattle.image_reader.proofs.histogram.bucket_lists.Goals as goal

pub at-buckets-requires-clause-buckets : goal.at-buckets-requires-clause-buckets
at-buckets-requires-clause-buckets c = (IsReadable-from_none c.args.words.now c.args.head.now c.args.at c.requires.lawful).buckets

pub at-buckets-requires-clause-few : goal.at-buckets-requires-clause-few
at-buckets-requires-clause-few c = (IsReadable-from_none c.args.words.now c.args.head.now c.args.at c.requires.lawful).few

pub counts_of-requires-clause-room : goal.counts_of-requires-clause-room
counts_of-requires-clause-room c =
    room-read c.args.head.now.version c.args.words.now c.args.at c.at-buckets.result c.at-buckets.ensures
    (HasBuckets-from_none c.args.words.now c.args.head.now c.args.at c.requires.header c.requires.lawful c.requires.kind)

pub counts_of-requires-clause-small : goal.counts_of-requires-clause-small
counts_of-requires-clause-small c =
    small-read c.args.head.now.version c.args.words.now c.args.at c.at-buckets.result c.at-buckets.ensures
    (HasBuckets-from_none c.args.words.now c.args.head.now c.args.at c.requires.header c.requires.lawful c.requires.kind)

pub marks_of-requires : goal.marks_of-requires
marks_of-requires c =
    room-read c.args.head.now.version c.args.words.now c.args.at c.at-buckets.result c.at-buckets.ensures
    (HasBuckets-from_none c.args.words.now c.args.head.now c.args.at c.requires.header c.requires.lawful c.requires.kind)

pub ranges_of-requires : goal.ranges_of-requires
ranges_of-requires c =
    ap spec_fault c.requires.spec ∙ (IsReadable-from_none c.args.words.now c.args.head.now c.args.at c.requires.lawful).lawful

pub returns : goal.returns
returns c =
    let ranges : c.in_ok-ranges.ranges ≡ boundaries_of (spec_of c.args.words.now c.args.at) =
    c.in_ok-ranges.ensures.value ∙ ap boundaries_of c.requires.spec in (
      c.in_ok-counts.ensures ∙ counts-read c.args.head.now.version c.args.words.now c.args.at c.at-buckets.result c.in_ok-ranges.ranges c.at-buckets.ensures ranges,
      c.in_ok-marks_of.ensures ∙ marks-read c.args.head.now.version c.args.words.now c.args.at c.at-buckets.result c.at-buckets.ensures,
    )
