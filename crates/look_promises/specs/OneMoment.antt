-- Which looks have the counts of one moment, and how to tell by the look alone.
use Rattle.std.specs.Prelude.{◌≡◌, true, ℕ, ◌+◌, ◌<◌, ◌≤◌, ℤ, List, [], ◌∷◌, sum_by}
use Rattle.std.specs.List.{All, Contains, flat_map}
use Rattle.segment_image.specs.Blocks.{field_at}
use Rattle.segment_image.specs.Head.{head_of}
use Rattle.segment_image.specs.Shape.{Dimensions}
use Rattle.segment_image.specs.declared.layout.TheConstants.{VERSION_FROZEN, HISTOGRAM_REDUNDANT}
use Rattle.bucket_ranges.specs.Reading.{Histogram, Reading, IsReading, total_of}
use Rattle.bucket_ranges.specs.Spec.{buckets_of}
use Rattle.segment_looks.specs.Looks.{IsLook, counts_reference}
use Rattle.segment_machine.specs.declared.actor.Actor.{Actor}
use Rattle.segment_machine.specs.declared.entry.EntryProgress.{EntryProgress}
use Rattle.segment_machine.specs.Actor.{all_counted}
use Rattle.segment_machine.specs.Entry.{is_counted, tally_noted, tally_units}
use Rattle.segment_machine.specs.State.{State}
use Rattle.segment_invariant.specs.Body.{Record, Anatomy, blank, order_of}
use Rattle.segment_invariant.specs.Seen.{HasRecord, IsFirst}
use Rattle.segment_invariant.specs.Invariant.{Invariant}
use Rattle.segment_promises.specs.Adoption.{adopted}
use Rattle.segment_promises.specs.Reads.{noted_at_opening, units_read}
use Rattle.look_promises.specs.Images.{total_looked, units_looked}
use Rattle.look_promises.specs.Looks.{head_loaded}
use Rattle.look_promises.specs.Runs.{RunsThrough, Moments, AreLoaded}

-- if an entry is noted, it is counted
abbrev pub IsCountedFirst : EntryProgress → Type 0
IsCountedFirst c = c.noted ≡ true → is_counted c ≡ true

-- each entry of a running call is counted if it is noted
abbrev pub CountsFirst : Actor → Type 0
CountsFirst a = All IsCountedFirst a.entries.running

-- This holds if the opener is alone, as at an opening: it runs no call.
abbrev pub LoneOpenersCountFirst : Type 0
LoneOpenersCountFirst = (shape : Dimensions) (opened : Anatomy) (state : State) (a : Actor) → Invariant shape opened state → state.actors ≡ a ∷ [] → All CountsFirst state.actors

-- all units of a name that a segment was opened with, whatever their keys
abbrev pub units_at_opening : List Actor → List ℕ → ℕ
units_at_opening actors name = tally_noted (flat_map (λ a. a.entries.first) actors) name

-- all units that are read of a histogram
abbrev pub all_units_read : Histogram → ℕ
all_units_read h = sum_by (λ count. count.1) h.counts

-- A new segment has noted nothing. One that was adopted has noted no more units of a name than it was opened with, if no histogram of that
-- name is read from the image with a redundant count above its units.
abbrev pub OpeningsNoteNoMore : Type 0
OpeningsNoteNoMore =
    ((version id size : ℕ) (name : List ℕ) → noted_at_opening (blank version id size) name ≡ 0)
    × ((words references name : List ℕ) (reading : Reading) (cursors : ℕ) (opened : Anatomy)
    → Invariant (head_of words).shape opened (adopted words references reading cursors)
    → ((h : Histogram) → Contains reading.hists h → h.name ≡ name → h.redundant ≤ all_units_read h)
    → noted_at_opening opened name ≤ units_at_opening (adopted words references reading cursors).actors name)

-- ---- of a record

-- If the units that a look has of a histogram are no more than the redundant count that it has of it, each total is the one of the moment
-- at which the redundant count was loaded, or 0 if the record was not on the list then. This requires that the redundant count at the
-- opening was at most the units there, and that at the beginning of the run, as at an opening, no call had noted what it had not counted.
abbrev pub LooksTellTheirMoment : Type 0
LooksTellTheirMoment = (shape : Dimensions) (opened : Anatomy) (at : ℕ → State) (first last reference i : ℕ) (moments : Moments) (one two three : List ℕ)
    → RunsThrough shape opened at → All CountsFirst (at 0).actors → AreLoaded shape at first last moments one two three
    → (then_is : Invariant shape opened (at (moments.one (reference + HISTOGRAM_REDUNDANT)))) × (late : Invariant shape opened (at last))
    × ((r : Record) → HasRecord late.anatomy.pieces reference r → IsFirst late.anatomy.records r.name r.spec reference → i < buckets_of r.spec
    → noted_at_opening opened r.name ≤ units_at_opening (at 0).actors r.name
    → units_looked two reference (counts_reference two three reference) (buckets_of r.spec) ≤ field_at one reference HISTOGRAM_REDUNDANT
    → (Contains (order_of then_is.anatomy) reference
    → total_looked two reference (counts_reference two three reference) (buckets_of r.spec) i
    ≡ total_of VERSION_FROZEN (at (moments.one (reference + HISTOGRAM_REDUNDANT))).words reference i)
    × (¬ (Contains (order_of then_is.anatomy) reference)
    → total_looked two reference (counts_reference two three reference) (buckets_of r.spec) i ≡ 0))

-- ---- of what is read

-- No histogram of a look is read with a redundant count above its units, if the opening had none like that. So a look may itself be such an
-- opening.
abbrev pub ReadingsNoteNoMore : Type 0
ReadingsNoteNoMore = (shape : Dimensions) (opened : Anatomy) (at : ℕ → State) (first last : ℕ) (moments : Moments) (one two three image : List ℕ)
    (reading : Reading) (h : Histogram)
    → RunsThrough shape opened at → All CountsFirst (at 0).actors → AreLoaded shape at first last moments one two three
    → IsLook (head_loaded shape opened at moments.three) one two three image → IsReading image (head_of image) reading → Contains reading.hists h
    → noted_at_opening opened h.name ≤ units_at_opening (at 0).actors h.name → h.redundant ≤ all_units_read h

-- If the units that are read of a histogram, of any kind, are no more than its redundant count, it has for each key exactly what had been
-- counted when the redundant count was loaded.
abbrev pub ReadingsTellTheirMoment : Type 0
ReadingsTellTheirMoment = (shape : Dimensions) (opened : Anatomy) (at : ℕ → State) (first last : ℕ) (moments : Moments) (one two three image : List ℕ)
    (reading : Reading) (h : Histogram) (key : ℤ)
    → RunsThrough shape opened at → All CountsFirst (at 0).actors → AreLoaded shape at first last moments one two three
    → IsLook (head_loaded shape opened at moments.three) one two three image → IsReading image (head_of image) reading → Contains reading.hists h
    → noted_at_opening opened h.name ≤ units_at_opening (at 0).actors h.name → all_units_read h ≤ h.redundant
    → units_read h key ≡ tally_units (all_counted (at (moments.one (h.reference + HISTOGRAM_REDUNDANT))).actors) h.name key
