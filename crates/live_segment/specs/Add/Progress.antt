-- What becomes of a recorder while a call of it counts: it looks at a histogram, packs units, or makes room for them and adds them to a count.
use Rattle.std.specs.Prelude.{◌⊎◌, ◌≡◌, ◌≢◌, true, false, ℕ, ◌+◌, ◌*◌, ◌≤◌, pos, List, [], ◌∷◌, ◌++◌, map, drop, length, Option, Some}
use Rattle.std.specs.List.{All, Contains}
use Rattle.segment_image.specs.declared.layout.TheConstants.{BLOCK_HEADER, HISTOGRAM_SINGLE}
use Rattle.bucket_ranges.specs.Spec.{buckets_of}
use Rattle.segment_machine.specs.declared.actor.Actor.{Actor}
use Rattle.segment_machine.specs.declared.actor.Known.{Known}
use Rattle.segment_machine.specs.declared.actor.Entries.{Entries}
use Rattle.segment_machine.specs.declared.entry.EntryProgress.{EntryProgress}
use Rattle.segment_machine.specs.declared.entry.Entry.{Entry}
use Rattle.segment_machine.specs.declared.place.Place.TheVariants.{Looking}
use Rattle.segment_machine.specs.Actor.{has_buckets, is_bound, is_opener}
use Rattle.segment_machine.specs.Calls.{count_next}
use Rattle.segment_machine.specs.Entry.{AreWithin, fresh, has_ended}
use Rattle.segment_machine.specs.Form.{is_off, IsPacking}
use Rattle.segment_promises.specs.Follows.{noted_by}
use Rattle.live_segment.specs.declared.add.bucket.PackAttempt.{PackAttempt}
use Rattle.live_segment.specs.declared.add.bucket.PackAttempt.TheVariants.{Packed, Off, Passed}
use Rattle.segment_promises.specs.Onward.{DoesOn, SeesOn}
use Rattle.live_segment.specs.Alloc.Claims.{KeepsBlocks}
use Rattle.live_segment.specs.Steps.GhostNotes.{KnowsAlone, bucket_entry, entry_notes}

-- A call of a recorder continues: what only an ended call changes is unchanged, and it has seen and done no less.
pub record FrameOfCall (old new : Actor) : Type 0 where
  pub same : new ≡ record old { units = new.units; entries = new.entries; hand = new.hand; done = new.done; seen = new.seen }
  pub free : is_bound new.hand.place ≡ false
  pub done : DoesOn old.done new.done
  pub seen : SeesOn old.seen new.seen

-- it has looked, and may have claimed a block or set the full flag: its units and entries are unchanged
pub record LooksOn (old new : Actor) : Type 0 where
  pub proceeds : FrameOfCall old new
  pub units : new.units ≡ old.units
  pub entries : new.entries ≡ old.entries

-- no entry runs yet, and the share has at least this many units
abbrev pub HasNotBegun : Actor → ℕ → Type 0
HasNotBegun a units = (a.entries.running ≡ []) × (a.units.held ≡ []) × (units ≤ a.units.share)

-- entries have ended that had no amounts to add, or whose amounts are left out
pub record HaveEnded (entries : List EntryProgress) : Type 0 where
  pub ended : All (λ c. has_ended c ≡ true) entries
  pub unsummed : All (λ c. c.summed ≡ false) entries

-- All running entries have ended, and their call may continue with this entry: it holds units for the same name, and the share has those of
-- this entry.
pub record MayGoOnWith (a : Actor) (entry : Entry) : Type 0 where
  pub runs : a.entries.running ≢ []
  pub ended : HaveEnded a.entries.running
  pub enough : entry.units ≤ a.units.share
  pub spent : ℕ
  pub holds : a.units.held ≡ record { name = entry.name; units = spent } ∷ []
  pub within : AreWithin entry.name (spent + entry.units) (map (λ c. c.entry) a.entries.running ++ entry ∷ [])

-- this entry runs, alone or after some that have ended, and nothing of it has happened yet
pub record EntryWaits (a : Actor) (entry : Entry) : Type 0 where
  pub before : List EntryProgress
  pub ended : HaveEnded before
  pub runs : a.entries.running ≡ before ++ fresh entry ∷ []

-- a call may begin with an entry, may continue with it, or has begun with it and it waits
abbrev pub IsOpenTo : Actor → Entry → Type 0
IsOpenTo a entry = HasNotBegun a entry.units ⊎ MayGoOnWith a entry ⊎ EntryWaits a entry

-- A recorder whose call may count an entry of a histogram that it knows, and no other. The amount of the entry is not known yet.
pub record CountsAlone (a : Actor) (known : Known) (entry : Entry) : Type 0 where
  pub recorder : is_opener a.role ≡ false
  pub free : is_bound a.hand.place ≡ false
  pub takes : a.deltas.taking ≡ false
  pub begun : IsOpenTo a entry
  pub alone : KnowsAlone a known
  pub named : known.name ≡ entry.name
  pub some : 1 ≤ entry.units
  pub amount : entry.amount ≡ pos 0

-- it may count units of a bucket
pub record MayCountInBucket (a : Actor) (known : Known) (bucket units : ℕ) : Type 0 where
  pub counts : CountsAlone a known (bucket_entry known bucket units)
  pub bucketed : has_buckets known.spec ≡ true

-- a call that may count an entry has begun with it, and it waits
abbrev pub HasBegunEntry : Entry → Actor → Actor → Type 0
HasBegunEntry entry old new = let begun = noted_by old (entry_notes old entry) in (new.units ≡ begun.units) × (new.entries ≡ begun.entries)

-- It has looked, and may have begun meanwhile: an exchange that comes too late has begun the call all the same.
pub record LooksFor (entry : Entry) (old new : Actor) : Type 0 where
  pub proceeds : FrameOfCall old new
  pub begun : ((new.units ≡ old.units) × (new.entries ≡ old.entries)) ⊎ HasBegunEntry entry old new

-- it looks at a histogram: at the single word that it loaded, if it holds one, and at the counts
abbrev pub LooksAt : Actor → ℕ → Option ℕ → ℕ → Type 0
LooksAt a histogram single counts = a.hand.place ≡ Looking (record { histogram = histogram; single = single; counts = counts })

-- the counts of a histogram lie within the segment, and are not at 0
abbrev pub CountsWithin : Actor → Known → ℕ → Type 0
CountsWithin a known counts = (counts ≢ 0) × (counts + (BLOCK_HEADER + 2 * buckets_of known.spec) ≤ a.segment.shape.size)

-- the running entry that is next is counted
abbrev pub counted_next : Entries → Entries
counted_next e = record e { running = count_next e.running }

-- the units of an entry were counted, by a call that began with it or continued
pub record HasCounted (entry : Entry) (old new : Actor) : Type 0 where
  pub proceeds : FrameOfCall old new
  pub units_are : new.units ≡ (noted_by old (entry_notes old entry)).units
  pub entries_are : new.entries ≡ counted_next (noted_by old (entry_notes old entry)).entries
  pub filled : new.done.filled ≡ old.done.filled

-- a single word that it saw since, which is not off and cannot take units of a bucket
abbrev pub CannotPack : Known → ℕ → ℕ → Actor → Actor → Type 0
CannotPack known bucket units old new =
    (word : ℕ) × Contains (drop (length old.seen.singles) new.seen.singles) (record { at = known.reference + HISTOGRAM_SINGLE; word = word })
    × (is_off word ≡ false) × ((packed : ℕ) → ¬ (IsPacking bucket units word packed))

-- How an attempt to pack units ended: they are packed; or they are not counted, and the single word that it loaded last is off or cannot
-- take them.
abbrev pub Tries : Known → ℕ → ℕ → Actor → PackAttempt → Actor → Type 0
Tries known bucket units old Packed new = HasCounted (bucket_entry known bucket units) old new × KeepsBlocks old new
Tries known bucket units old Off new =
    LooksFor (bucket_entry known bucket units) old new × KeepsBlocks old new × (new.seen.counts ≡ old.seen.counts)
    × ((word counts : ℕ) × LooksAt new known.reference (Some word) counts × (is_off word ≡ true)
    × Contains new.seen.singles (record { at = known.reference + HISTOGRAM_SINGLE; word = word }))
Tries known bucket units old Passed new =
    LooksFor (bucket_entry known bucket units) old new × KeepsBlocks old new × (new.seen.counts ≡ old.seen.counts) × CannotPack known bucket units old new
