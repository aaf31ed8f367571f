use Rattle.std.proofs.Common.{◌+◌, arith}
use Rattle.segment_promises.proofs.Growing.{still}
use Rattle.live_segment.proofs.lemmas.List.Showing.{same_on, sees_on, sees_one, may_load}
use Rattle.live_segment.proofs.lemmas.List.Keyed.{letter_fixed, letters_seen, letters_small, letters_key, looked_at, key_at}
use Rattle.live_segment.proofs.segment.Segment.name_key_of.Goals as goal

pub load_published-requires-clause-may : goal.load_published-requires-clause-may
load_published-requires-clause-may c =
    let was = c.loop-i.invariant in
    let (len, long, words) = c.requires.length in
    may_load c.args.self.now c.args.seat.now c.loop-i.seat c.args.at c.requires.seat.table c.requires.seat.recorder c.requires.met was.same was.sees
    (15 + c.loop-i.i) (letter_fixed c.args.seat.now.me.0 c.args.at len c.loop-i.i c.requires.tag long (omega (arith, c.loop-i-test.true, c.loop-i.auto.i-end, words)))

pub loop-i-preserved : goal.loop-i-preserved
loop-i-preserved c =
    let was = c.loop-i.invariant in
    let step = c.load_published.ensures in record {
      same = same_on c.args.seat.now c.loop-i.seat c.load_published.new.seat was.same step.same;
      sees = sees_on c.args.seat.now.me.0 c.loop-i.seat.me.0 c.load_published.new.seat.me.0 was.sees
          (sees_one c.loop-i.seat c.load_published.new.seat c.args.at (15 + c.loop-i.i) c.load_published.result step);
      seen = letters_seen c.loop-i.seat c.load_published.new.seat c.args.at c.loop-i.i c.load_published.result step was.seen;
      small = letters_small c.loop-i.seat c.load_published.new.seat c.args.at c.loop-i.i c.load_published.result step (omega arith) was.seen was.small;
      key = letters_key c.loop-i.seat c.load_published.new.seat c.args.at c.loop-i.i c.load_published.result step c.loop-i.key c.next_key-key.result
          was.seen was.key c.next_key-key.ensures;
    }

pub returns-clause-looked : goal.returns-clause-looked
returns-clause-looked c =
    let was = c.loop-i.invariant in
    let (len, long, words) = c.requires.length in
    let on = still c.args.seat.now.me.0.seen.words c.loop-i.seat.me.0.seen.words was.sees.words in
    looked_at c.loop-i.seat.me.0.seen c.args.at len c.loop-i.i (on (c.args.at + 2) 1 c.requires.tag) (on (c.args.at + 14) len long)
    (omega (arith, c.loop-i-test.false, c.loop-i.auto.i-end, words)) was.seen was.small

pub returns-clause-key : goal.returns-clause-key
returns-clause-key c =
    let was = c.loop-i.invariant in
    let (len, long, words) = c.requires.length in
    let on = still c.args.seat.now.me.0.seen.words c.loop-i.seat.me.0.seen.words was.sees.words in
    key_at c.loop-i.seat.me.0.seen c.args.at len c.loop-i.i (on (c.args.at + 2) 1 c.requires.tag) (on (c.args.at + 14) len long)
    (omega (arith, c.loop-i-test.false, c.loop-i.auto.i-end, words)) was.seen was.small c.loop-i.key was.key
