-- Adoption: the words of an image of version 2 are opened as a segment in which recording continues. The opener has all that they count.
pub use Rattle.image_rules.specs.Adoption.{units_for, used_by, used_of, named_counts, blocks_of, run_at, AreApart, AreZerosFrom, AreLaterEmpty, HasPaddedName, HasUnusedCounts, HasPackedMark, IsUndamaged, IsAdoptable}
use Rattle.std.specs.Prelude.{◌≡◌, false, not, ◌==◌, ℕ, ◌+◌, ◌^◌, ◌<◌, pos, List, [], ◌∷◌, ◌++◌, map, replicate, if◌then◌else◌, ◌-◌}
use Rattle.std.specs.Ordering.{int_eq}
use Rattle.std.specs.List.{filter, flat_map, zip, All}
use Rattle.segment_image.specs.declared.layout.TheConstants.{BLOCK_TYPE, QUEUE, SAMPLE_HISTOGRAM, SAMPLE_VALUE, TYPE_SAMPLE, VERSION_FROZEN}
use Rattle.segment_image.specs.Head.{head_of}
use Rattle.segment_image.specs.Blocks.{field_at}
use Rattle.segment_image.specs.Shape.{Dimensions}
use Rattle.bucket_ranges.specs.Reading.{Histogram, Reading, IsListed, reading_along, is_of_type}
use Rattle.alloc_core.specs.Layout.{IsShown}
use Rattle.image_rules.specs.Adoption.{used_by, used_of, IsAdoptable}
use Rattle.segment_machine.specs.declared.entry.Entry.{Entry}
use Rattle.segment_machine.specs.declared.actor.Actor.{Actor}
use Rattle.segment_machine.specs.declared.actor.Portion.{Portion}
use Rattle.segment_machine.specs.declared.seen.Sighting.{Sighting}
use Rattle.segment_machine.specs.Entry.{sum_entry}
use Rattle.segment_machine.specs.Seats.{idle, nothing_seen}
use Rattle.segment_machine.specs.State.{State}
use Rattle.segment_invariant.specs.Body.{Anatomy, layout_of, order_of}
use Rattle.segment_invariant.specs.Invariant.{Invariant}
use Rattle.segment_invariant.specs.Keeps.{IsOpening, opening_of}
use Rattle.segment_machine.specs.declared.actor.Role.TheVariants.{Opener}

-- ---- the opener

-- the entries that a histogram of an image stands for: one of no amount for each key that has units, and one of no units for its sum,
-- unless that is 0
abbrev pub first_entries : Histogram → List Entry
first_entries h =
    map (λ count. record { name = h.name; key = count.0; units = count.1; amount = pos 0 }) (filter (λ count. not (count.1 == 0)) h.counts)
    ++ (if int_eq h.sum (pos 0) then [] else sum_entry h.name h.sum ∷ [])

-- what deltas had taken of it: the mark of each key, and the sum mark
abbrev pub first_portion : Histogram → Portion
first_portion h = record { name = h.name; counts = zip (map (λ count. count.0) h.counts) h.marks; sum = h.sum_mark }

-- what was seen of a sample: its type, its histogram and its value
abbrev pub seen_sample : List ℕ → ℕ → List Sighting
seen_sample words at =
    map (λ i. record { at = at + i; word = field_at words at i }) (BLOCK_TYPE ∷ SAMPLE_HISTOGRAM ∷ SAMPLE_VALUE ∷ [])

-- an actor that has done nothing yet: it has the units that the image has not used, and has seen its free pointer
abbrev pub beginner : List ℕ → Reading → ℕ → Actor
beginner words reading cursors = idle (head_of words).shape VERSION_FROZEN cursors (head_of words).free (4294967295 - used_of reading)

-- The opener of an adopted image has accepted the image's entries and spent the units that it used, knows its histograms, their redundant
-- counts and what deltas had taken of them, and has seen its free pointer, its list and its samples.
abbrev pub adopter : List ℕ → List ℕ → Reading → ℕ → Actor
adopter words references reading cursors = record (beginner words reading cursors) {
  role = Opener 0 0 0;
  units = record (beginner words reading cursors).units { costs = map (λ (h : Histogram). record { name = h.name; units = used_by h }) reading.hists };
  entries = record (beginner words reading cursors).entries {
    first = flat_map first_entries reading.hists;
    first_noted = map (λ (h : Histogram). record { name = h.name; units = h.redundant }) reading.hists;
  };
  deltas = record (beginner words reading cursors).deltas { first_taken = map first_portion reading.hists };
  answers = record (beginner words reading cursors).answers {
    names = map (λ (h : Histogram). record { name = h.name; spec = h.spec; reference = h.reference }) reading.hists;
  };
  seen = record nothing_seen {
    free = (head_of words).free;
    chain = references;
    words = flat_map (seen_sample words) (filter (is_of_type words TYPE_SAMPLE) references);
  };
}

-- the image as a segment in which recording continues, with `cursors` shared cursors
abbrev pub adopted : List ℕ → List ℕ → Reading → ℕ → State
adopted words references reading cursors =
    record { words = words; cursors = replicate cursors QUEUE; actors = adopter words references reading cursors ∷ [] }

-- ---- both ways

-- An image that may be adopted opens a kept segment, with any number of shared cursors; its blocks are the image's, and its records those
-- on the image's list. So each state of the segment is consistent, with the image's words as its opening.
abbrev pub AdoptionOpens : Type 0
AdoptionOpens = (words references : List ℕ) (reading : Reading) (cursors : ℕ) → All (λ word. word < 2 ^ 64) words
    → IsListed words (head_of words) references → reading ≡ reading_along words (head_of words) references
    → IsAdoptable words references reading
    → (opened : Anatomy) × IsShown (head_of words).shape words (layout_of opened) × (order_of opened ≡ references)
    × Invariant (head_of words).shape opened (adopted words references reading cursors)
    × IsOpening (head_of words).shape opened × ((opening_of (head_of words).shape opened).words ≡ words)

-- The words of every kept state of version 2 without the corrupt flag may be adopted.
abbrev pub KeptAreAdoptable : Type 0
KeptAreAdoptable = (shape : Dimensions) (opened : Anatomy) (state : State) (references : List ℕ) → Invariant shape opened state
    → opened.version ≡ VERSION_FROZEN → (head_of state.words).corrupt ≡ false → IsListed state.words (head_of state.words) references
    → IsAdoptable state.words references (reading_along state.words (head_of state.words) references)
