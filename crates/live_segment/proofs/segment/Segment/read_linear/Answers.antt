use Rattle.std.proofs.Common.{◌+◌, inl, inr, arith}
use Rattle.segment_promises.proofs.Growing.{still}
use Rattle.live_segment.proofs.lemmas.List.Showing.{same_on, sees_on, sees_one, seen_one, may_load}
use Rattle.live_segment.proofs.segment.Segment.read_linear.Goals as goal

pub load_published-requires-2-clause-may : goal.load_published-requires-2-clause-may
load_published-requires-2-clause-may c =
    may_load c.args.self.now c.args.seat.now c.load_published.new.seat c.args.at c.requires.meets.seated.table c.requires.meets.seated.recorder c.requires.meets.met
    c.load_published.ensures.same (sees_one _ _ c.args.at 5 c.load_published.result c.load_published.ensures) 6
    (inr (inl (c.requires.tag, inl (omega arith, omega arith))))

pub load_published-requires-3-clause-may : goal.load_published-requires-3-clause-may
load_published-requires-3-clause-may c =
    may_load c.args.self.now c.args.seat.now c.load_published-2.new.seat c.args.at c.requires.meets.seated.table c.requires.meets.seated.recorder c.requires.meets.met
    (same_on c.args.seat.now c.load_published.new.seat c.load_published-2.new.seat c.load_published.ensures.same c.load_published-2.ensures.same)
    (sees_on _ _ _ (sees_one _ _ c.args.at 5 c.load_published.result c.load_published.ensures) (sees_one _ _ c.args.at 6 c.load_published-2.result c.load_published-2.ensures)) 7
    (inr (inl (c.requires.tag, inl (omega arith, omega arith))))

pub returns-clause-outcome : goal.returns-clause-outcome
returns-clause-outcome c = λ letters.
    let one = sees_one _ _ c.args.at 5 c.load_published.result c.load_published.ensures in
    let two = sees_one _ _ c.args.at 6 c.load_published-2.result c.load_published-2.ensures in
    let three = sees_one _ _ c.args.at 7 c.load_published-3.result c.load_published-3.ensures in
    let last = still _ _ three.words in
    let then = still _ _ (sees_on _ _ _ two three).words in
    let all = still _ _ (sees_on _ _ _ one (sees_on _ _ _ two three)).words in (
      all (c.args.at + 4) 1 c.requires.kind,
      (c.load_published.result, then (c.args.at + 5) c.load_published.result (seen_one _ _ c.args.at 5 c.load_published.result c.load_published.ensures), c.number_of-min.ensures),
      (c.load_published-2.result, last (c.args.at + 6) c.load_published-2.result (seen_one _ _ c.args.at 6 c.load_published-2.result c.load_published-2.ensures), c.number_of-max.ensures),
      (c.load_published-3.result, seen_one _ _ c.args.at 7 c.load_published-3.result c.load_published-3.ensures, c.number_of-n.ensures),
    )
