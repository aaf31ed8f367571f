-- What the table reports of a step is what has become of the seat.
use Rattle.std.proofs.Common.{◌≡◌, ℕ, List}
use Rattle.segment_machine.specs.Event.{Event}
use Rattle.segment_machine.specs.Note.{Note}
use Rattle.segment_promises.specs.Follows.{GhostNoted}
use Rattle.live_segment.specs.Steps.{Does, Pass, Stepped}
use Rattle.live_segment.specs.Steps.GhostNotes.{Noted}

module _ {old new : Pass} {event : Event} {found : ℕ} (table : new.table_id ≡ old.table_id) (id : new.id ≡ old.id) where
  -- for an event without notes
  pub stepped : Does event old.me found new.me → Stepped old event found new
  stepped (view, slots, learned) = record { same = (table, id, slots); view = view; learned = learned }

  -- and for one with notes before and after it
  pub noted : {before behind : List Note} → GhostNoted before event (λ n. behind) old.me found new.me → Noted old before event behind found new
  noted (view, slots, learned) = record { same = (table, id, slots); view = view; learned = learned }
