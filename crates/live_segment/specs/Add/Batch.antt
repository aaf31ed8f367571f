-- What a batch changes in the recorder that counts it, accepted and refused.
use Rattle.std.specs.Prelude.{◌≡◌, Bool, true, false, ◌-◌, nat_lt, ◌==◌, ℕ, ℤ, pos, List, [], ◌∷◌, ◌++◌, map, take}
use mathlib.Core.Option.{some}
use lib.ListN.{get_elem?}
use Rattle.std.specs.List.{list_any}
use Rattle.segment_calls.specs.declared.refusal.BatchRefusal.{BatchRefusal}
use Rattle.segment_calls.specs.declared.refusal.Refusal.{Refusal}
use Rattle.segment_calls.specs.declared.refusal.Refusal.TheVariants.{ZeroCount, NoUnits}
use Rattle.bucket_ranges.specs.Ranges.{boundaries_of}
use Rattle.bucket_ranges.specs.Tally.{units_of}
use Rattle.segment_machine.specs.declared.actor.Actor.{Actor}
use Rattle.segment_machine.specs.declared.actor.Entries.{Entries}
use Rattle.segment_machine.specs.declared.actor.Known.{Known}
use Rattle.segment_machine.specs.declared.actor.Units.{Units}
use Rattle.segment_machine.specs.declared.entry.EntryProgress.{EntryProgress}
use Rattle.segment_machine.specs.declared.entry.Entry.{Entry}
use Rattle.segment_machine.specs.Actor.{log_of}
use Rattle.segment_machine.specs.Counting.{note_next}
use Rattle.segment_machine.specs.Entry.{batch_cost, batch_entries, item_entry}
use Rattle.live_segment.specs.Add.Sample.{Pays, LacksBlock}
use Rattle.live_segment.specs.Alloc.Claims.{ClaimsForAll}
use Rattle.segment_promises.specs.Follows.{noted_by}
use Rattle.segment_promises.specs.Onward.{DoesOn, GoesOn, SeesOn}
use Rattle.live_segment.specs.Steps.{IsAtRest}
use Rattle.live_segment.specs.Steps.GhostNotes.{entry_notes}
use Rattle.live_segment.specs.Add.Progress.{FrameOfCall, counted_next}

-- An accepted batch: an entry of amount 0 for each item, and after them one of no units for the sum, if that is not 0, are at the end of
-- the log, and its cost is taken from the share. An empty batch with sum 0 has done nothing.
pub record IsBatched (known : Known) (items : List (ℤ × ℕ)) (sum : ℤ) (old new : Actor) : Type 0 where
  pub logged : log_of new ≡ log_of old ++ batch_entries known.name (boundaries_of known.spec) items sum
  pub pays : Pays known.name (batch_cost items sum) old new
  pub filled : new.done.filled ≡ old.done.filled
  pub onward : GoesOn old new
  pub nothing : items ≡ [] → sum ≡ pos 0 → new ≡ old

-- why a batch is refused before anything happens, in order
abbrev pub batch_checks : Actor → List (ℤ × ℕ) → ℤ → List (Bool × Refusal)
batch_checks a items sum = (list_any (λ item. item.1 == 0) items, ZeroCount) ∷ (nat_lt a.units.share (batch_cost items sum), NoUnits) ∷ []

-- A batch that is refused at an item: the items before it are counted, and their units are taken from the share. The sum is not added. It
-- has claimed what these may claim. After them the item needed a block, and none could be claimed.
pub record IsCutShort (known : Known) (items : List (ℤ × ℕ)) (refusal : BatchRefusal) (old new : Actor) : Type 0 where
  pub item : ℤ × ℕ
  pub there : get_elem? items refusal.added ≡ some item
  pub logged : log_of new ≡ log_of old ++ map (item_entry known.name (boundaries_of known.spec)) (take refusal.added items)
  pub pays : Pays known.name (units_of (take refusal.added items)) old new
  pub at : Actor
  pub counted : DoesOn old.done at.done × SeesOn old.seen at.seen
  pub claims : ClaimsForAll known (take refusal.added items) old at
  pub lacks : LacksBlock refusal.why known item.0 item.1 at new
  pub onward : GoesOn old new

-- a batch has stopped at an item, and its recorder is in no call
abbrev pub StopsAtItem : Known → List (ℤ × ℕ) → BatchRefusal → Actor → Actor → Type 0
StopsAtItem known items refusal old new = IsCutShort known items refusal old new × IsAtRest new

-- ---- while it continues

-- the running entry that is next is noted
abbrev pub noted_next : Entries → Entries
noted_next e = record e { running = note_next e.running }

-- the units of an entry are counted and noted, by a call that continues
pub record HasNoted (entry : Entry) (old new : Actor) : Type 0 where
  pub proceeds : FrameOfCall old new
  pub units_are : new.units ≡ (noted_by old (entry_notes old entry)).units
  pub entries_are : new.entries ≡ noted_next (counted_next (noted_by old (entry_notes old entry)).entries)
  pub filled : new.done.filled ≡ old.done.filled

-- the entry of an item that is counted and noted
abbrev pub ended_item : Known → ℤ × ℕ → EntryProgress
ended_item known item = record { entry = item_entry known.name (boundaries_of known.spec) item; counted = true; summed = false; noted = true }

-- what a call has taken from the share of its recorder, and holds, for these items
abbrev pub holding : List ℕ → List (ℤ × ℕ) → Units → Units
holding name [] units = units
holding name (item ∷ rest) units =
    record units { share = units.share - units_of (item ∷ rest); held = record { name = name; units = units_of (item ∷ rest) } ∷ [] }

-- These items are counted and noted, in order, by a call that continues.
pub record HasItems (known : Known) (items : List (ℤ × ℕ)) (old new : Actor) : Type 0 where
  pub proceeds : FrameOfCall old new
  pub units_are : new.units ≡ holding known.name items old.units
  pub entries_are : new.entries ≡ record old.entries { running = map (ended_item known) items }
  pub filled : new.done.filled ≡ old.done.filled
