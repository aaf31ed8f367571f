use Rattle.std.proofs.Common.{ap, length, arith}
use Rattle.live_segment.proofs.Seating.Seated.{many_opened, opens}
use Rattle.live_segment.proofs.segment.Segment.open.Goals as goal

pub of_words-requires : goal.of_words-requires
of_words-requires c = opens c.args.opening c.as_slice.result.now c.requires.kept c.as_slice.ensures.value

pub invariant_of-segment-clause-counts : goal.invariant_of-segment-clause-counts
invariant_of-segment-clause-counts c =
    let all = many_opened c.args.opening c.requires.kept in
    let same = ap length c.as_slice.ensures.value in
    let made = c.in_ok-table.ensures in
    (omega (arith, made.0, same, all), made.1)

pub invariant_of-segment-clause-room : goal.invariant_of-segment-clause-room
invariant_of-segment-clause-room c =
    let long = c.args.opening.words.ok.0 in
    let all = many_opened c.args.opening c.requires.kept in
    omega (arith, long, all)

pub invariant_of-segment-clause-shaped : goal.invariant_of-segment-clause-shaped
invariant_of-segment-clause-shaped c = c.requires.kept.kept.shown.sound.lawful
