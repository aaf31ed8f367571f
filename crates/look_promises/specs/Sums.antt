-- Of which moment the sum of a histogram of a look is. Its units are each of a moment of its own, but the sum is one word.
use Rattle.std.specs.Prelude.{◌≡◌, ℕ, ◌+◌, ◌<◌, ◌≤◌, ℤ, pos, ◌≤ℤ◌, List}
use Rattle.std.specs.List.{All, Contains, flat_map}
use Rattle.segment_image.specs.Blocks.{field_at}
use Rattle.segment_image.specs.Head.{head_of}
use Rattle.segment_image.specs.Shape.{Dimensions}
use Rattle.segment_image.specs.declared.layout.TheConstants.{HISTOGRAM_REDUNDANT, HISTOGRAM_SUM, HISTOGRAM_SUM_MARK}
use Rattle.bucket_ranges.specs.Reading.{Histogram, Reading, IsReading}
use Rattle.segment_looks.specs.Looks.{IsLook}
use Rattle.segment_machine.specs.declared.entry.Entry.{Entry}
use Rattle.segment_machine.specs.Actor.{all_counted, all_noted, all_summed, all_taken, log_of, taken_sum}
use Rattle.segment_machine.specs.Entry.{tally_noted, tally_sum, tally_units}
use Rattle.segment_machine.specs.State.{State}
use Rattle.segment_invariant.specs.Body.{Anatomy, order_of}
use Rattle.segment_invariant.specs.Invariant.{Invariant}
use Rattle.segment_promises.specs.Reads.{begun_of, noted_at_opening, units_read}
use Rattle.look_promises.specs.Looks.{head_loaded}
use Rattle.look_promises.specs.OneMoment.{CountsFirst, all_units_read, units_at_opening}
use Rattle.look_promises.specs.Runs.{RunsThrough, Moments, AreLoaded}

-- The sum that is read of a histogram is that of all amounts that had been added to it when its word was loaded, in the second copy. The sum
-- mark is what deltas had taken when its word was loaded, in the first copy; and the redundant count is what had been noted, also in the
-- first, on top of what the segment was opened with.
pub record SaysItsSums (opened : Anatomy) (at : ℕ → State) (moments : Moments) (h : Histogram) : Type 0 where
  pub sum : h.sum ≡ tally_sum (all_summed (at (moments.two (h.reference + HISTOGRAM_SUM))).actors) h.name
  pub sum_mark : h.sum_mark ≡ taken_sum (all_taken (at (moments.one (h.reference + HISTOGRAM_SUM_MARK))).actors) h.name
  pub redundant : h.redundant
      ≡ noted_at_opening opened h.name + tally_noted (all_noted (at (moments.one (h.reference + HISTOGRAM_REDUNDANT))).actors) h.name

-- So it is of each histogram of a look; and if its record was not on the list yet when the word of the sum was loaded, the sum is 0.
abbrev pub ReadingsSayTheirSums : Type 0
ReadingsSayTheirSums = (shape : Dimensions) (opened : Anatomy) (at : ℕ → State) (first last : ℕ) (moments : Moments) (one two three image : List ℕ)
    (reading : Reading) (h : Histogram)
    → RunsThrough shape opened at → AreLoaded shape at first last moments one two three
    → IsLook (head_loaded shape opened at moments.three) one two three image → IsReading image (head_of image) reading → Contains reading.hists h
    → (then_is : Invariant shape opened (at (moments.two (h.reference + HISTOGRAM_SUM))))
    × SaysItsSums opened at moments h
    × (¬ (Contains (order_of then_is.anatomy) h.reference) → h.sum ≡ pos 0)

-- ---- sums that only rise

-- no amount of a name is negative
abbrev pub NoneNegative : List Entry → List ℕ → Type 0
NoneNegative entries name = All (λ entry. entry.name ≡ name → pos 0 ≤ℤ entry.amount) entries

-- If no amount of its name is negative, a histogram of a look has a sum of at least the amounts of the calls that had ended at the first
-- moment, and of at most those of the calls that had begun at the last.
abbrev pub ReadingsBoundTheirSums : Type 0
ReadingsBoundTheirSums = (shape : Dimensions) (opened : Anatomy) (at : ℕ → State) (first last : ℕ) (moments : Moments) (one two three image : List ℕ)
    (reading : Reading) (h : Histogram)
    → RunsThrough shape opened at → AreLoaded shape at first last moments one two three
    → IsLook (head_loaded shape opened at moments.three) one two three image → IsReading image (head_of image) reading → Contains reading.hists h
    → NoneNegative (flat_map begun_of (at last).actors) h.name
    → (tally_sum (flat_map log_of (at first).actors) h.name ≤ℤ h.sum) × (h.sum ≤ℤ tally_sum (flat_map begun_of (at last).actors) h.name)

-- And if one look's second copy was loaded no earlier than another's, the later look has no lesser sum of it.
abbrev pub ReadingsRaiseTheirSums : Type 0
ReadingsRaiseTheirSums = (shape : Dimensions) (opened : Anatomy) (at : ℕ → State) (first other last : ℕ) (moments later : Moments) (one two three four five six image next : List ℕ)
    (reading beyond : Reading) (g h : Histogram)
    → RunsThrough shape opened at → AreLoaded shape at first last moments one two three → AreLoaded shape at other last later four five six
    → ((i j : ℕ) → i < shape.size → j < shape.size → moments.two i ≤ later.two j)
    → IsLook (head_loaded shape opened at moments.three) one two three image → IsLook (head_loaded shape opened at later.three) four five six next
    → IsReading image (head_of image) reading → IsReading next (head_of next) beyond → Contains reading.hists g → Contains beyond.hists h → h.name ≡ g.name
    → NoneNegative (flat_map begun_of (at last).actors) g.name
    → g.sum ≤ℤ h.sum

-- Then also a mean can be told to be of one moment: if the first copy and the second have the same word of the sum, and the units are no more
-- than the redundant count, there is a moment of the look of which the sum and all units are. It requires what is required to tell the
-- moment of the units.
abbrev pub ReadingsTellTheirMeans : Type 0
ReadingsTellTheirMeans = (shape : Dimensions) (opened : Anatomy) (at : ℕ → State) (first last : ℕ) (moments : Moments) (one two three image : List ℕ)
    (reading : Reading) (h : Histogram)
    → RunsThrough shape opened at → All CountsFirst (at 0).actors → AreLoaded shape at first last moments one two three
    → IsLook (head_loaded shape opened at moments.three) one two three image → IsReading image (head_of image) reading → Contains reading.hists h
    → noted_at_opening opened h.name ≤ units_at_opening (at 0).actors h.name → NoneNegative (flat_map begun_of (at last).actors) h.name
    → field_at one h.reference HISTOGRAM_SUM ≡ field_at two h.reference HISTOGRAM_SUM → all_units_read h ≤ h.redundant
    → (moment : ℕ) × (first ≤ moment) × (moment ≤ last) × (h.sum ≡ tally_sum (all_summed (at moment).actors) h.name)
    × ((key : ℤ) → units_read h key ≡ tally_units (all_counted (at moment).actors) h.name key)
