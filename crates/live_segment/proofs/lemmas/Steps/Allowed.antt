-- A step on a word of the table that is an event of the machine keeps the rule.
use Rattle.std.proofs.Common.{◌≡◌, ℕ, ◌+◌, false, [], refl, ap, subst, slice_index}
use mathlib.Core.Option.{some, some-injective}
use Rattle.atomic_table.specs.Table.{carried_after, step, Allows}
use Rattle.segment_machine.specs.Actor.{is_opener}
use Rattle.segment_machine.specs.Allocating.{exchange_free}
use Rattle.segment_machine.specs.Event.{Event, allocating_event, spot, change, Ready}
use Rattle.live_segment.specs.declared.rule.Announcement.{Announcement}
use Rattle.live_segment.specs.declared.rule.Announcement.TheVariants.{Wanted}
use Rattle.live_segment.specs.declared.rule.Opening.{Opening}
use Rattle.live_segment.specs.declared.segment.Segment.{Segment}
use Rattle.live_segment.specs.Holders.{MayStep, opened_with}
use Rattle.live_segment.specs.Rule.{Runs}
use Rattle.live_segment.specs.Steps.{Pass, Sat, Does, DoesAt, Raises}
use Rattle.live_segment.proofs.Seating.Openings.{follows}

module _ (given : Opening) (slots id : ℕ) (me : Sat) (word : ℕ) (records : is_opener me.0.role ≡ false) where
  -- the event is at this word
  pub does : (event : Event) → word ≡ spot given.setting.shape.size event + 1 → Ready me.0 event
      → Allows (Runs given) slots id me word (change given.setting.version event) (Does event me)
  does event at ready =
      follows given [] event (λ found. []) slots id me word at records refl ready (λ found learned. refl)

  -- the word says where it is
  pub does_at : (event : ℕ → Event) (at : ℕ) → word ≡ spot given.setting.shape.size (event at) + 1
      → ((y : ℕ) → word ≡ spot me.0.segment.shape.size (event y) + 1 → at ≡ y) → Ready me.0 (event at)
      → Allows (Runs given) slots id me word (change given.setting.version (event at)) (DoesAt event word me)
  does_at event at is one ready s run wide mine small =
      let (view, act, valid, holds, told) = does (event at) is ready s run wide mine small in
      (view, act, valid, holds, λ y same. subst (λ (x : ℕ). Does (event x) me (slice_index s.words word) (view, carried_after me.1 act)) (one y same) told)

  -- the free pointer is exchanged, for a block that needs as many words as announced
  pub raises : (old new words : ℕ) → word ≡ spot given.setting.shape.size (allocating_event (exchange_free old new words)) + 1
      → Ready me.0 (allocating_event (exchange_free old new words))
      → Allows (Runs given) slots id me word (change given.setting.version (allocating_event (exchange_free old new words)))
      (Raises (step slots word old new (some (Wanted words))) me)
  raises old new words at ready s run wide mine small =
      let (view, act, valid, holds, told) = does (allocating_event (exchange_free old new words)) at ready s run wide mine small in (
        view,
        act,
        valid,
        holds,
        λ other said.
            subst (λ (n : ℕ). Does (allocating_event (exchange_free old new n)) me (slice_index s.words word) (view, carried_after me.1 act)) (same other said) told,
      )
    where
      words_said : Announcement → ℕ
      words_said (Wanted n) = n
      words_said _ = 0

      same : (other : ℕ) → some (Wanted words) ≡ some (Wanted other) → words ≡ other
      same other said = ap words_said (some-injective (Wanted words) (Wanted other) said)

-- a recorder's seat may do an event where the word says, so the rule allows the step
pub allows_at : {segment : Segment} {seat : Pass} {slots word : ℕ} (id : ℕ) (event : ℕ → Event) (at : ℕ) → MayStep segment seat (event at)
    → word ≡ spot (opened_with segment).setting.shape.size (event at) + 1
    → ((y : ℕ) → word ≡ spot seat.me.0.segment.shape.size (event y) + 1 → at ≡ y)
    → Allows (Runs (opened_with segment)) slots id seat.me word (change (opened_with segment).setting.version (event at)) (DoesAt event word seat.me)
allows_at {segment} {seat} {slots} {word} id event at may is one =
    does_at (opened_with segment) slots id seat.me word may.recorder event at is one may.ready
