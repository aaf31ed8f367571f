-- What a look reads as.
use Rattle.std.specs.Prelude.{◌≡◌, false, ℕ, ◌<◌, ◌≤◌, ℤ, List, ◌++◌, Ok}
use Rattle.std.specs.List.{Contains, flat_map}
use Rattle.segment_image.specs.Head.{head_of, header_of}
use Rattle.segment_image.specs.Shape.{Dimensions}
use Rattle.bucket_ranges.specs.Reading.{Histogram, Reading, IsListed, IsReading, reading_along}
use Rattle.bucket_ranges.specs.Spec.{SameSpec}
use Rattle.image_rules.specs.Adoption.{HasNoFault, IsAdoptable}
use Rattle.segment_looks.specs.Looks.{IsLook}
use Rattle.segment_machine.specs.Entry.{tally_units}
use Rattle.segment_machine.specs.Actor.{log_of}
use Rattle.segment_machine.specs.State.{State}
use Rattle.segment_invariant.specs.Body.{Listed, Anatomy}
use Rattle.segment_invariant.specs.Invariant.{Invariant}
use Rattle.segment_promises.specs.Reads.{ReadsNames, begun_of, units_read, mark_read}
use Rattle.look_promises.specs.Runs.{RunsThrough, Moments, AreLoaded}
use Rattle.look_promises.specs.Looks.{head_loaded}

-- The histograms that are read are those of a list that has all records of the first moment, and none that was not there at the last, in
-- their order: for each name on it the first record, with its spec.
pub record ReadsBetween (early late : List Listed) (reading : Reading) : Type 0 where
  pub records : List Listed
  pub all : (more : List Listed) × (records ≡ early ++ more)
  pub none : (more : List Listed) × (late ≡ records ++ more)
  pub reads : ReadsNames records reading

-- For each key a histogram has at least the units of the calls that had ended, at most those of the calls that had begun, and a mark that
-- is at most its units.
pub record CountsBetween (early late : State) (h : Histogram) : Type 0 where
  pub ended : (key : ℤ) → tally_units (flat_map log_of early.actors) h.name key ≤ units_read h key
  pub begun : (key : ℤ) → units_read h key ≤ tally_units (flat_map begun_of late.actors) h.name key
  pub marks : (key : ℤ) → mark_read h key ≤ units_read h key

-- A look has a valid header, and reads without a bad record and without a stop: as the histograms that were published at the first moment,
-- and maybe some that were published by the last, each with the units of all calls that had ended at the first moment, and of none that had
-- not begun by the last.
abbrev pub LooksRead : Type 0
LooksRead = (shape : Dimensions) (opened : Anatomy) (at : ℕ → State) (first last : ℕ) (moments : Moments) (one two three image : List ℕ) (reading : Reading)
    → RunsThrough shape opened at → AreLoaded shape at first last moments one two three
    → IsLook (head_loaded shape opened at moments.three) one two three image → IsReading image (head_of image) reading
    → (header_of image ≡ Ok (head_of image)) × HasNoFault reading
    × ((early : Invariant shape opened (at first)) × (late : Invariant shape opened (at last)) × ReadsBetween early.anatomy.records late.anatomy.records reading)
    × ((h : Histogram) → Contains reading.hists h → CountsBetween (at first) (at last) h)

-- A look may be adopted unless the corrupt flag was loaded: it has none of the faults of adoption.
abbrev pub LooksAreAdoptable : Type 0
LooksAreAdoptable = (shape : Dimensions) (opened : Anatomy) (at : ℕ → State) (first last : ℕ) (moments : Moments) (one two three image references : List ℕ)
    → RunsThrough shape opened at → AreLoaded shape at first last moments one two three
    → IsLook (head_loaded shape opened at moments.three) one two three image → (head_loaded shape opened at moments.three).corrupt ≡ false
    → IsListed image (head_of image) references → IsAdoptable image references (reading_along image (head_of image) references)

-- If one look's second copy was loaded no earlier than another's, the later look reads as all histograms of the earlier one, each with the
-- same spec, and for each key it has no fewer units.
abbrev pub ReadingsRise : Type 0
ReadingsRise = (shape : Dimensions) (opened : Anatomy) (at : ℕ → State) (first other last : ℕ) (moments later : Moments) (one two three four five six image next : List ℕ)
    (reading beyond : Reading) (g : Histogram)
    → RunsThrough shape opened at → AreLoaded shape at first last moments one two three → AreLoaded shape at other last later four five six
    → ((i j : ℕ) → i < shape.size → j < shape.size → moments.two i ≤ later.two j)
    → IsLook (head_loaded shape opened at moments.three) one two three image → IsLook (head_loaded shape opened at later.three) four five six next
    → IsReading image (head_of image) reading → IsReading next (head_of next) beyond → Contains reading.hists g
    → (h : Histogram) × Contains beyond.hists h × (h.name ≡ g.name) × SameSpec g.spec h.spec × ((key : ℤ) → units_read g key ≤ units_read h key)
