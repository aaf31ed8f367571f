use Rattle.std.proofs.Common.{◌+◌, refl, arith}
use Rattle.live_segment.proofs.lemmas.List.Showing.{same_on, sees_not, sees_on, sees_one, may_load, one_more, one_other}
use Rattle.live_segment.proofs.segment.Segment.shows.Goals as goal

pub loop-i-init : goal.loop-i-init
loop-i-init c = record { same = (refl, refl, refl); sees = sees_not c.args.seat.now.me.0; shown = λ j low. absurd (omega arith) }

pub load_published-requires-clause-may : goal.load_published-requires-clause-may
load_published-requires-clause-may c =
    let was = c.loop-i.invariant in
    may_load c.args.self.now c.args.seat.now c.loop-i.seat c.args.at c.requires.seat.0 c.requires.seat.1 c.requires.met was.same was.sees
    (c.args.first + c.loop-i.i) (c.requires.fixed c.loop-i.i (omega (arith, c.loop-i-test.true, c.loop-i.auto.i-end)))

pub returns-then-load_published-word-clause-shown : goal.returns-then-load_published-word-clause-shown
returns-then-load_published-word-clause-shown c =
    one_other c.loop-i.seat c.load_published.new.seat c.args.at c.args.first c.loop-i.i c.load_published.result c.args.words.now c.load_published.ensures
    (omega (arith, c.loop-i-test.true, c.loop-i.auto.i-end)) c.if-load_published-word.true (omega arith) (omega arith)

pub loop-i-preserved : goal.loop-i-preserved
loop-i-preserved c =
    let was = c.loop-i.invariant in record {
      same = same_on c.args.seat.now c.loop-i.seat c.load_published.new.seat was.same c.load_published.ensures.same;
      sees = sees_on c.args.seat.now.me.0 c.loop-i.seat.me.0 c.load_published.new.seat.me.0 was.sees
          (sees_one c.loop-i.seat c.load_published.new.seat c.args.at (c.args.first + c.loop-i.i) c.load_published.result c.load_published.ensures);
      shown = one_more c.loop-i.seat c.load_published.new.seat c.args.at c.args.first c.loop-i.i c.load_published.result c.args.words.now c.load_published.ensures
          was.shown c.if-load_published-word.false;
    }
