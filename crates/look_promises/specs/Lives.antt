-- The lives of a segment: it is stopped, as when its process is killed, and opened again by the words that it left. Each look lies within
-- one life.
use Rattle.std.specs.Prelude.{◌≡◌, false, ℕ, suc, ◌^◌, ◌<◌, ◌≤◌, ℤ, ◌≤ℤ◌, List}
use Rattle.std.specs.List.{All, Contains, flat_map}
use Rattle.segment_image.specs.Head.{head_of}
use Rattle.segment_image.specs.Shape.{Dimensions}
use Rattle.bucket_ranges.specs.Reading.{Histogram, Reading, IsListed, IsReading, reading_along}
use Rattle.bucket_ranges.specs.Spec.{SameSpec}
use Rattle.segment_looks.specs.Looks.{IsLook}
use Rattle.segment_machine.specs.State.{State}
use Rattle.segment_invariant.specs.Body.{Anatomy}
use Rattle.segment_promises.specs.Adoption.{adopted}
use Rattle.segment_promises.specs.Reads.{begun_of, noted_at_opening, units_read}
use Rattle.look_promises.specs.Looks.{head_loaded}
use Rattle.look_promises.specs.OneMoment.{CountsFirst, all_units_read, units_at_opening}
use Rattle.look_promises.specs.Runs.{RunsThrough, Moments, AreLoaded}
use Rattle.look_promises.specs.Sums.{NoneNegative}

-- one life of a segment: a run, up to the moment at which everything stopped
pub record Life (shape : Dimensions) : Type 0 where
  pub opened : Anatomy
  pub at : ℕ → State
  pub stop : ℕ
  pub runs : RunsThrough shape opened at

-- the words that a life left
abbrev pub words_left : {shape : Dimensions} → Life shape → List ℕ
words_left life = (life.at life.stop).words

-- Each life was opened by the words that the one before it left.
abbrev pub FollowEachOther : {shape : Dimensions} → (ℕ → Life shape) → Type 0
FollowEachOther lives = (n : ℕ) → ((lives (suc n)).at 0).words ≡ words_left (lives n)

-- A look that was taken within a life, before it stopped, reads as this.
pub record IsReadIn {shape : Dimensions} (life : Life shape) (reading : Reading) : Type 0 where
  pub first : ℕ
  pub last : ℕ
  pub moments : Moments
  pub one : List ℕ
  pub two : List ℕ
  pub three : List ℕ
  pub image : List ℕ
  pub loaded : AreLoaded shape life.at first last moments one two three
  pub in_time : last ≤ life.stop
  pub look : IsLook (head_loaded shape life.opened life.at moments.three) one two three image
  pub is : IsReading image (head_of image) reading

-- A reading has all histograms of an earlier one, each with the same spec, and for each key of each no fewer units: nothing fell.
abbrev pub IsBeyond : Reading → Reading → Type 0
IsBeyond earlier reading = (g : Histogram) → Contains earlier.hists g
    → (h : Histogram) × Contains reading.hists h × (h.name ≡ g.name) × SameSpec g.spec h.spec × ((key : ℤ) → units_read g key ≤ units_read h key)

-- Of two looks, each within one life, the one in the later life has all histograms of the other, and for each key no fewer units, however
-- often the segment was opened again in between.
abbrev pub ReadingsRiseAcrossRestarts : Type 0
ReadingsRiseAcrossRestarts = (shape : Dimensions) (lives : ℕ → Life shape) (earlier later : ℕ) (reading beyond : Reading)
    → FollowEachOther lives → earlier < later → IsReadIn (lives earlier) reading → IsReadIn (lives later) beyond → IsBeyond reading beyond

-- Nor has it a lesser sum, if in no life an amount of the name is negative.
abbrev pub SumsRiseAcrossRestarts : Type 0
SumsRiseAcrossRestarts = (shape : Dimensions) (lives : ℕ → Life shape) (earlier later : ℕ) (reading beyond : Reading) (g h : Histogram)
    → FollowEachOther lives → earlier < later → IsReadIn (lives earlier) reading → IsReadIn (lives later) beyond
    → Contains reading.hists g → Contains beyond.hists h → h.name ≡ g.name
    → ((n : ℕ) → n ≤ later → NoneNegative (flat_map begun_of ((lives n).at (lives n).stop).actors) g.name)
    → g.sum ≤ℤ h.sum

-- The words that a life left have all histograms of each look that was taken in it, and for each key no fewer units.
abbrev pub ReadingsRiseToTheStop : Type 0
ReadingsRiseToTheStop = (shape : Dimensions) (life : Life shape) (reading left : Reading)
    → IsReadIn life reading → IsReading (words_left life) (head_of (words_left life)) left → IsBeyond reading left

-- ---- adoption

-- A life began with the adoption of the words that another one left, with this number of shared cursors.
abbrev pub IsAdoptedFrom : {shape : Dimensions} → Life shape → ℕ → Life shape → Type 0
IsAdoptedFrom life cursors next = (references : List ℕ) × (reading : Reading) × IsListed (words_left life) (head_of (words_left life)) references
    × (reading ≡ reading_along (words_left life) (head_of (words_left life)) references)
    × (next.at 0 ≡ adopted (words_left life) references reading cursors)

-- The words that a life left are adopted, unless their corrupt flag is set.
abbrev pub LivesGoOn : Type 0
LivesGoOn = (shape : Dimensions) (life : Life shape) (cursors : ℕ) → All (λ word. word < 2 ^ 64) (words_left life)
    → (head_of (words_left life)).corrupt ≡ false → (next : Life shape) × IsAdoptedFrom life cursors next

-- A life tells moments if what is required to tell of which moment the units of a look are (`ReadingsTellTheirMoment`) holds of it: at its
-- beginning no call had noted what it had not counted, and of no name more units were noted than it was opened with.
abbrev pub TellsMoments : {shape : Dimensions} → Life shape → Type 0
TellsMoments life = All CountsFirst (life.at 0).actors
    × ((name : List ℕ) → noted_at_opening life.opened name ≤ units_at_opening (life.at 0).actors name)

-- If a life tells moments, no histogram of the words that it left is read with a redundant count above its units; and each life that begins
-- with the adoption of these words tells moments too.
abbrev pub LivesTellMoments : Type 0
LivesTellMoments = (shape : Dimensions) (life : Life shape) → TellsMoments life
    → ((left : Reading) (h : Histogram) → IsReading (words_left life) (head_of (words_left life)) left → Contains left.hists h → h.redundant ≤ all_units_read h)
    × ((cursors : ℕ) (next : Life shape) → IsAdoptedFrom life cursors next → TellsMoments next)
