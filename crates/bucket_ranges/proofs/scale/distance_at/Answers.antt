use Rattle.std.proofs.Common.{◌+◌, ◌*◌, ◌^◌, ◌%◌, ◌<◌, sym, subst}
use Rattle.std.proofs.lemmas.Nat.{pow_pos}
use Rattle.bucket_ranges.proofs.Scales.{doubled-more, doubled-done, octave_values, reached, not_reached}
use Rattle.bucket_ranges.proofs.scale.distance_at.Goals as goal

-- 2^bits of the doubled distance are in the number.
pub loop-distance-preserved : goal.loop-distance-preserved
loop-distance-preserved c =
    let values = octave_values c.args.bits c.requires.bits in
    doubled-more c.args.bits c.args.number (2 * 2 ^ c.args.bits % 4294967296) c.loop-distance.distance values
    (reached c.args.number (2 * 2 ^ c.args.bits % 4294967296) c.loop-distance.distance c.loop-distance-test.true)
    c.loop-distance.invariant

-- 2^(bits + 1) of it are not.
pub returns : goal.returns
returns c =
    let values = octave_values c.args.bits c.requires.bits in
    doubled-done c.args.bits c.args.number (2 * 2 ^ c.args.bits % 4294967296) c.loop-distance.distance c.requires.number.0
    c.requires.number.1 values
    (not_reached c.args.number (2 * 2 ^ c.args.bits % 4294967296) c.loop-distance.distance
    (subst (λ v. 0 < v) (sym values) (pow_pos (c.args.bits + 1))) c.loop-distance-test.false)
    c.loop-distance.invariant
