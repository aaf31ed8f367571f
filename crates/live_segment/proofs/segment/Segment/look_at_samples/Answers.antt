use Rattle.std.proofs.Common.{rules, inl, inr, refl, arith}
use Rattle.segment_machine.specs.Event.{walking_event}
use Rattle.segment_machine.specs.Walking.{load_next, load_published}
use Rattle.live_segment.proofs.lemmas.List.CallBegins.{comes_look, may_look, own_look, through_along, through_own, looked_next, looked_type, was_met}
use Rattle.live_segment.proofs.segment.Segment.look_at_samples.Goals as goal

pub look_type-requires-clause-may : goal.look_type-requires-clause-may
look_type-requires-clause-may c =
    may_look c.requires.ready (walking_event (load_published c.args.histogram.now.reference 2)) (c.requires.ready.rests.free, was_met c.requires.ready, inl refl)

pub look_at_listed-requires-clause-looks : goal.look_at_listed-requires-clause-looks
look_at_listed-requires-clause-looks c = (looked_type c.requires.ready c.requires.sparse c.look_type.ensures.1).goes

pub look_at_listed-requires-clause-right : goal.look_at_listed-requires-clause-right
look_at_listed-requires-clause-right c = (looked_type c.requires.ready c.requires.sparse c.look_type.ensures.1).right

pub look_at_listed-requires-clause-own : goal.look_at_listed-requires-clause-own
look_at_listed-requires-clause-own c =
    own_look c.requires.ready c.requires.sparse c.look_type.ensures.1 c.args.self.now.setting.shape.size c.in-Some.own.now (search rules)

pub look_next-first-requires-clause-may : goal.look_next-first-requires-clause-may
look_next-first-requires-clause-may c =
    may_look c.requires.ready (walking_event (load_next c.args.histogram.now.reference)) (c.requires.ready.rests.free, inr (inl (was_met c.requires.ready)))

pub look_at_values-requires-clause-looks : goal.look_at_values-requires-clause-looks
look_at_values-requires-clause-looks c = (looked_next c.requires.ready c.requires.sparse c.look_next-first.ensures).goes

pub look_at_values-requires-clause-comes : goal.look_at_values-requires-clause-comes
look_at_values-requires-clause-comes c = comes_look c.requires.ready c.requires.sparse c.look_next-first.ensures

pub returns-in-Some : goal.returns-in-Some
returns-in-Some c =
    let room = c.requires.ready.right.room in
    let few = c.args.self.now.shaped.many in
    through_own (looked_type c.requires.ready c.requires.sparse c.look_type.ensures.1) (omega (arith, room, few))
    (own_look c.requires.ready c.requires.sparse c.look_type.ensures.1 c.args.self.now.setting.shape.size c.in-Some.own.now (search rules)) c.look_at_listed.ensures

pub returns-in_default : goal.returns-in_default
returns-in_default c = through_along (looked_next c.requires.ready c.requires.sparse c.look_next-first.ensures) c.look_at_values.ensures.1
