use Rattle.std.proofs.Common.{ℕ, ◌+◌, ◌∙◌, ap}
use Rattle.live_segment.proofs.lemmas.Add.Refusing.{may_at_rest}
use Rattle.live_segment.proofs.lemmas.Hist.Recorded.{made}
use Rattle.live_segment.proofs.segment.Segment.make_record.Goals as goal

pub allocate-requires-clause-closes : goal.allocate-requires-clause-closes
allocate-requires-clause-closes c = may_at_rest c.args.seat.now.me.0 c.requires.rests.1

pub returns-clause-outcome : goal.returns-clause-outcome
returns-clause-outcome c =
    made c.args.self.now c.args.asked.now c.requires.asked c.args.seat.now c.allocate.new.seat c.requires.seat _ c.in_ok-at.at
    (ap (λ (n : ℕ). 4 + n) (c.len.ensures ∙ c.args.asked.now.payload.ok.0)) c.in_ok-at.ensures.same c.in_ok-at.ensures.outcome
    c.fill.new.seat c.fill.ensures.same c.deref.result.now c.deref.ensures.value c.fill.ensures.filled
    c.args.said.now c.requires.says c.publish.new.seat c.publish.ensures.published c.in_ok-at.ensures.unspoiled
