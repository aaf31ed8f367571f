use Rattle.std.proofs.Common.{rules, ◌≡◌, ◌∙◌, ℕ, ℤ, List, pos, slice_index, arith, ap, w32, FitsSigned, to_z, of_z, length}
use Rattle.std.proofs.lemmas.Int.{to_z-of_z}
use Rattle.std.proofs.lemmas.List.FromFn.{map-range_with_len_more, length-map-range_with_len}
use Rattle.bucket_ranges.proofs.samples.empty_buckets.Goals as goal

abbrev bucket_of : List ℕ → ℕ → ℤ × ℕ
bucket_of boundaries i = (pos (slice_index boundaries i), 0)

pub push_reserved-requires : goal.push_reserved-requires
push_reserved-requires c =
    let so_far = c.loop-i.invariant.so_far in
    let long = ap length so_far ∙ length-map-range_with_len (bucket_of c.args.ranges.now) 0 c.loop-i.i in
    let room = c.loop-i.invariant.room in
    omega (arith, long, room)

pub loop-i-preserved : goal.loop-i-preserved
loop-i-preserved c =
    let more = map-range_with_len_more (bucket_of c.args.ranges.now) 0 c.loop-i.i c.loop-i.i (omega arith) in
    let fits : FitsSigned w32 c.low.result = search rules in
    let low : to_z w32 (of_z w32 c.low.result) ≡ pos (slice_index c.args.ranges.now c.loop-i.i) =
    to_z-of_z w32 c.low.result fits ∙ c.low.ensures.value in
    let pushed = c.push_reserved.ensures.items in
    let so_far = c.loop-i.invariant.so_far in
    let stays = c.push_reserved.ensures.capacity in
    let room = c.loop-i.invariant.room in
    record { so_far = cc; room = omega (arith, stays, room) }
