use Rattle.std.proofs.Common.{rules, ℕ, inl, inr, refl, arith}
use Rattle.segment_machine.specs.Event.{walking_event}
use Rattle.segment_machine.specs.Walking.{load_next, load_published}
use Rattle.live_segment.proofs.lemmas.List.CallBegins.{comes_take, may_take, own_take, through_along, through_own, took_next, took_type, was_met}
use Rattle.live_segment.proofs.segment.Segment.take_samples.Goals as goal

pub take_type-requires-clause-may : goal.take_type-requires-clause-may
take_type-requires-clause-may c =
    may_take c.requires.ready (λ (at : ℕ). walking_event (load_published at 2)) (c.requires.ready.rests.free, was_met c.requires.ready, inl refl)

pub take_listed-requires-clause-takes : goal.take_listed-requires-clause-takes
take_listed-requires-clause-takes c = (took_type c.requires.ready c.requires.sparse c.take_type.ensures.1).goes

pub take_listed-requires-clause-right : goal.take_listed-requires-clause-right
take_listed-requires-clause-right c = (took_type c.requires.ready c.requires.sparse c.take_type.ensures.1).right

pub take_listed-requires-clause-own : goal.take_listed-requires-clause-own
take_listed-requires-clause-own c =
    own_take c.requires.ready c.requires.sparse c.take_type.ensures.1 c.args.self.now.setting.shape.size c.in-Some.own.now (search rules)

pub take_next-first-requires-clause-may : goal.take_next-first-requires-clause-may
take_next-first-requires-clause-may c =
    may_take c.requires.ready (λ (at : ℕ). walking_event (load_next at)) (c.requires.ready.rests.free, inr (inl (was_met c.requires.ready)))

pub take_values-requires-clause-takes : goal.take_values-requires-clause-takes
take_values-requires-clause-takes c = (took_next c.requires.ready c.requires.sparse c.take_next-first.ensures).goes

pub take_values-requires-clause-comes : goal.take_values-requires-clause-comes
take_values-requires-clause-comes c = comes_take c.requires.ready c.requires.sparse c.take_next-first.ensures

pub returns-in-Some : goal.returns-in-Some
returns-in-Some c =
    let room = c.requires.ready.right.room in
    let few = c.args.self.now.shaped.many in
    through_own (took_type c.requires.ready c.requires.sparse c.take_type.ensures.1) (omega (arith, room, few))
    (own_take c.requires.ready c.requires.sparse c.take_type.ensures.1 c.args.self.now.setting.shape.size c.in-Some.own.now (search rules)) c.take_listed.ensures

pub returns-in_default : goal.returns-in_default
returns-in_default c = through_along (took_next c.requires.ready c.requires.sparse c.take_next-first.ensures) c.take_values.ensures.1
