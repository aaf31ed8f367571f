-- What becomes of a recorder that has counted a sample: its amount is added to the sum, its units are noted, and its call ends.
use Rattle.std.specs.Prelude.{◌≡◌, Bool, true, false, ◌||◌, ℕ, ◌≤◌, ℤ, pos, List, [], ◌∷◌, ◌++◌, map}
use Rattle.std.specs.List.{All}
use Rattle.std.specs.Ordering.{int_eq}
use Rattle.bucket_ranges.specs.Ranges.{boundaries_of}
use Rattle.segment_machine.specs.declared.entry.EntryProgress.{EntryProgress}
use Rattle.segment_machine.specs.declared.entry.Entry.{Entry}
use Rattle.segment_machine.specs.declared.actor.Actor.{Actor}
use Rattle.segment_machine.specs.declared.actor.Known.{Known}
use Rattle.segment_machine.specs.declared.place.Place.TheVariants.{Idle}
use Rattle.segment_machine.specs.Actor.{is_bound, is_opener}
use Rattle.segment_machine.specs.Entry.{has_ended, item_entry, sample_entry}
use Rattle.segment_promises.specs.Onward.{Grows}
use Rattle.live_segment.specs.Steps.GhostNotes.{KnowsAlone}

-- an entry that is counted and not noted; whether its amount is added to the sum
abbrev pub counted_entry : Entry → Bool → EntryProgress
counted_entry entry summed = record { entry = entry; counted = true; summed = summed; noted = false }

-- units of a value, before their amount is known
abbrev pub item_of : Known → ℤ → ℕ → Entry
item_of known value units = item_entry known.name (boundaries_of known.spec) (value, units)

-- units of a value that add this amount to the sum
abbrev pub item_with : Known → ℤ → ℕ → ℤ → Entry
item_with known value units amount = record (item_of known value units) { amount = amount }

-- a sample, whose amount is known
abbrev pub sample_of : Known → ℤ → ℕ → Entry
sample_of known value units = sample_entry known.name (boundaries_of known.spec) (value, units)

-- The running entries of a recorder have ended except the last one, which is of units of a value, and these are counted.
pub record IsCounted (known : Known) (value : ℤ) (units : ℕ) (before : List EntryProgress) (a : Actor) : Type 0 where
  pub recorder : is_opener a.role ≡ false
  pub free : is_bound a.hand.place ≡ false
  pub alone : KnowsAlone a known
  pub some : 1 ≤ units
  pub ended : All (λ c. has_ended c ≡ true) before
  pub runs : a.entries.running ≡ before ++ counted_entry (item_of known value units) false ∷ []

-- a sample is counted: only its entry runs, and its call holds the units
pub record HasCountedSample (known : Known) (value : ℤ) (units : ℕ) (a : Actor) : Type 0 where
  pub counted : IsCounted known value units [] a
  pub holds : a.units.held ≡ record { name = known.name; units = units } ∷ []

-- The last of the running entries is this one now, and its amount is in the sum; an amount of 0 is left out. All else is unchanged.
pub record IsSummed (entry : Entry) (before : List EntryProgress) (old new : Actor) : Type 0 where
  pub summed : Bool
  pub left_out : (summed || int_eq entry.amount (pos 0)) ≡ true
  pub view : new ≡ record old {
    hand = record old.hand { place = new.hand.place };
    entries = record old.entries { running = before ++ counted_entry entry summed ∷ [] };
  }
  pub free : is_bound new.hand.place ≡ false

-- The call of a recorder has ended: these entries are the last of its log, and what the call held is spent. It may have seen more counts
-- and begun to look again; all else is unchanged.
pub record HasEnded (entries : List Entry) (old new : Actor) : Type 0 where
  pub same : new ≡ record old {
    units = record old.units { costs = old.units.costs ++ old.units.held; held = [] };
    entries = record old.entries { log = new.entries.log; running = [] };
    hand = record old.hand { place = new.hand.place };
    seen = record old.seen { counts = new.seen.counts };
    since = new.since;
  }
  pub logged : map (λ c. c.entry) new.entries.log ≡ map (λ c. c.entry) old.entries.log ++ entries
  pub idle : new.hand.place ≡ Idle
  pub counts : Grows old.seen.counts new.seen.counts
