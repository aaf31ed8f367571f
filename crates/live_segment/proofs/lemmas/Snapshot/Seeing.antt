-- What a recorder saw since its call began to look it has still seen when the call has continued.
use Rattle.std.proofs.Common.{ℕ, ◌≤◌, ℤ, List, length, ap}
use Rattle.segment_machine.specs.declared.actor.Actor.{Actor}
use Rattle.segment_promises.specs.Calls as calls
use Rattle.segment_promises.proofs.Calls.Sights.{sees_more}
use Rattle.live_segment.specs.Delta.Outcome.{TakesOn}
use Rattle.live_segment.specs.List.Values.{OnlySeesMore}

pub began : (a : Actor) → a.since.singles ≤ length a.seen.singles → a.since.counts ≤ length a.seen.counts → calls.BeganBefore a
began a singles counts = record { singles = singles; counts = counts }

-- a delta that has continued has seen no less
pub takes_sees : (a b : Actor) (more : List (ℤ × ℕ)) → TakesOn more a b → calls.SeesMore a b
takes_sees a b more on = sees_more a b (ap (λ (x : Actor). x.segment) on.view) (ap (λ (x : Actor). x.since) on.view) on.seen

-- nor has a snapshot
pub more_sees : (a b : Actor) → OnlySeesMore a b → calls.SeesMore a b
more_sees a b more = sees_more a b (ap (λ (x : Actor). x.segment) more.view) (ap (λ (x : Actor). x.since) more.view) more.seen
