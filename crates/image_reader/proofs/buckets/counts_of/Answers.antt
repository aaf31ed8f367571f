-- The totals are appended one after the other.
use Rattle.std.proofs.Common.{◌≡◌, arith, ℕ}
use Rattle.std.specs.Prelude.{pos, slice_index}
use mir.Syntax.{w32}
use mir.Val.{to_z, of_z}
use Rattle.std.proofs.lemmas.Int.{to_z-of_z}
use Rattle.bucket_ranges.specs.Reading.{total_at}
use Rattle.image_reader.proofs.Records.{small-at, map-range-push}
use Rattle.image_reader.proofs.buckets.counts_of.Goals as goal

pub loop-bucket-preserved : goal.loop-bucket-preserved
loop-bucket-preserved c =
    let at : ℕ = c.loop-bucket.bucket in
    let low : c.low.result ≡ pos (slice_index c.args.ranges.now at) = c.low.ensures.value in
    let read : to_z w32 (of_z w32 c.low.result) ≡ pos (slice_index c.args.ranges.now at) = grind (arith, to_z-of_z) in
    let small = small-at (total_at c.args.words.now c.args.buckets.now.counts c.args.buckets.now.single) c.args.buckets.now.number at
    c.requires.small (omega arith) in
    let total : c.total.result ≡ total_at c.args.words.now c.args.buckets.now.counts c.args.buckets.now.single at = omega (arith, c.total.ensures, small) in
    map-range-push _ at _ _ _ c.loop-bucket.invariant c.in_ok-push.ensures.items (λ i. (read i, total i))
