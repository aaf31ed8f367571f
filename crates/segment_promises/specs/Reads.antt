-- What the words of a segment read as, by the definition of a reading: no matter who wrote them, whenever everything stops, and after the
-- joins. For both versions, all four kinds of histograms, and every opening.
pub use Rattle.image_rules.specs.Adoption.{HasNoFault}
use Rattle.std.specs.Prelude.{◌≡◌, ◌↔◌, ℕ, ◌+◌, ◌<◌, ◌≤◌, ◌||◌, ℤ, List, ◌++◌, map, Some}
use Rattle.std.specs.List.{zip, flat_map, Contains}
use mathlib.Core.Option.{some}
use lib.ListN.{get_elem?}
use Rattle.segment_image.specs.Shape.{Dimensions}
use Rattle.segment_image.specs.Head.{head_of}
use Rattle.bucket_ranges.specs.declared.spec.Spec.{Spec}
use Rattle.bucket_ranges.specs.Spec.{SameSpec}
use Rattle.bucket_ranges.specs.Single.{packed_bucket}
use Rattle.bucket_ranges.specs.Reading.{Histogram, Reading, IsReading, record_single}
use Rattle.image_rules.specs.Adoption.{HasNoFault}
use Rattle.segment_machine.specs.declared.entry.Entry.{Entry}
use Rattle.segment_machine.specs.declared.actor.Actor.{Actor}
use Rattle.segment_machine.specs.declared.actor.Known.{Known}
use Rattle.segment_machine.specs.Entry.{tally_units, tally_sum, tally_noted}
use Rattle.segment_machine.specs.Actor.{log_of, all_counted, all_summed, all_noted, all_taken, units_listed, taken_of, taken_units, taken_sum}
use Rattle.segment_machine.specs.State.{State}
use Rattle.segment_machine.specs.Reached.{IsJoined}
use Rattle.segment_invariant.specs.Body.{Listed, Anatomy}
use Rattle.segment_invariant.specs.Ledger.{key_of_bucket, units_held, marks_held, sum_held, sum_mark_held, noted_held, all_held, all_amounts, all_moving}
use Rattle.segment_invariant.specs.Seen.{IsFirst}
use Rattle.segment_invariant.specs.Invariant.{Invariant, IsSetBy, IsSetWhereSeen}
use Rattle.segment_invariant.specs.Words.{WordsAreKept}

-- ---- what is read of a histogram

-- the units that a reading has of a key
abbrev pub units_read : Histogram → ℤ → ℕ
units_read h key = units_listed h.counts key

-- the mark that a reading has of a key
abbrev pub mark_read : Histogram → ℤ → ℕ
mark_read h key = units_listed (zip (map (λ count. count.0) h.counts) h.marks) key

-- the redundant count that a histogram had at the opening
abbrev pub noted_at_opening : Anatomy → List ℕ → ℕ
noted_at_opening opened name = all_held (noted_held name) opened.pieces

-- the entries that actors have begun: those of ended calls, and those of running ones
abbrev pub begun_of : Actor → List Entry
begun_of a = log_of a ++ map (λ c. c.entry) a.entries.running

-- ---- words, no matter who wrote them

-- for each name on the list exactly one histogram is read: the first record of the name, with the spec that its maker was given
pub record ReadsNames (records : List Listed) (reading : Reading) : Type 0 where
  pub given : (h : Histogram) → Contains reading.hists h → (kind : Spec) × IsFirst records h.name kind h.reference × SameSpec h.spec kind
  pub read : (name : List ℕ) (kind : Spec) (at : ℕ) → IsFirst records name kind at
      → (h : Histogram) × Contains reading.hists h × (h.name ≡ name)
  pub once : (i j : ℕ) (g h : Histogram) → get_elem? reading.hists i ≡ some g → get_elem? reading.hists j ≡ some h → g.name ≡ h.name → i ≡ j

-- What is read of a histogram is what the blocks hold of its name: for each key the units and the mark; the sum, the redundant count and
-- the sum mark.
pub record ReadsBlocks (anatomy : Anatomy) (h : Histogram) : Type 0 where
  pub units : (key : ℤ) → units_read h key ≡ all_held (units_held anatomy.version h.name key) anatomy.pieces
  pub marks : (key : ℤ) → mark_read h key ≡ all_held (marks_held anatomy.version h.name key) anatomy.pieces
  pub sum : h.sum ≡ all_amounts (sum_held h.name) anatomy.pieces
  pub redundant : h.redundant ≡ all_held (noted_held h.name) anatomy.pieces
  pub sum_mark : h.sum_mark ≡ all_amounts (sum_mark_held h.name) anatomy.pieces

-- Words that satisfy all that the invariant says of words alone read as exactly the histograms on their list, each once, with what their
-- blocks hold, and without a bad record. No state needs to have these words.
abbrev pub WordsRead : Type 0
WordsRead = (shape : Dimensions) (opened : Anatomy) (words : List ℕ) (reading : Reading) → (kept : WordsAreKept shape opened words)
    → IsReading words (head_of words) reading
    → HasNoFault reading × ReadsNames kept.laid.anatomy.records reading
    × ((h : Histogram) → Contains reading.hists h → ReadsBlocks kept.laid.anatomy h)

-- ---- whenever everything stops

-- For each key the units are those that were counted, less those in transit. So every unit of an ended call is there except these, and no
-- unit of a call that had not begun. Only the packed bucket, and only in version 1, has units in transit.
pub record ReadsUnits (version : ℕ) (state : State) (h : Histogram) : Type 0 where
  pub counted : (key : ℤ) → units_read h key + all_moving h.name key state.actors ≡ tally_units (all_counted state.actors) h.name key
  pub ended : (key : ℤ) → tally_units (flat_map log_of state.actors) h.name key ≤ units_read h key + all_moving h.name key state.actors
  pub begun : (key : ℤ) → units_read h key ≤ tally_units (flat_map begun_of state.actors) h.name key
  pub local : (key : ℤ) → 0 < all_moving h.name key state.actors → (version ≡ 1)
      × ((bucket : ℕ) × (packed_bucket (record_single 1 state.words h.reference) ≡ Some bucket) × (key_of_bucket h.spec bucket ≡ key))

-- The sum is the sum of the amounts that were added, the redundant count that of the opening plus the units that were noted; marks and sum
-- mark are what deltas took.
pub record ReadsAmounts (opened : Anatomy) (state : State) (h : Histogram) : Type 0 where
  pub sum : h.sum ≡ tally_sum (all_summed state.actors) h.name
  pub redundant : h.redundant ≡ noted_at_opening opened h.name + tally_noted (all_noted state.actors) h.name
  pub marks : (key : ℤ) → mark_read h key ≡ taken_units (all_taken state.actors) h.name key
  pub sum_mark : h.sum_mark ≡ taken_sum (all_taken state.actors) h.name

-- the id is the opening's, and each flag is read exactly if it was set at the opening or an actor has set it; so the corrupt one is read if
-- an actor has seen it
pub record ReadsHead (opened : Anatomy) (state : State) (reading : Reading) : Type 0 where
  pub id : reading.id ≡ opened.id
  pub corrupt : IsSetBy reading.corrupt opened.corrupt (map (λ a. a.done.spoiled) state.actors)
  pub full : IsSetBy reading.full opened.full (map (λ a. a.done.filled) state.actors)
  pub noticed : IsSetWhereSeen reading.corrupt (map (λ a. a.seen.corrupt) state.actors)

-- Stopped after any step, the words read as exactly the histograms that were published, each once. Every bucket has all units of ended
-- calls except those in transit, and no unit of a call that had not begun.
abbrev pub StoppedReads : Type 0
StoppedReads = (shape : Dimensions) (opened : Anatomy) (state : State) (reading : Reading) → (kept : Invariant shape opened state)
    → IsReading state.words (head_of state.words) reading
    → HasNoFault reading × ReadsHead opened state reading × ReadsNames kept.anatomy.records reading
    × ((h : Histogram) → Contains reading.hists h → ReadsUnits opened.version state h × ReadsAmounts opened state h)

-- ---- after the joins

-- the names that are read are exactly those of the histograms that `hist` returned, each once, with the spec and the record of that answer
pub record ReadsAnswers (answers : List Known) (reading : Reading) : Type 0 where
  pub names : (name : List ℕ) → ((h : Histogram) × Contains reading.hists h × (h.name ≡ name)) ↔ ((known : Known) × Contains answers known × (known.name ≡ name))
  pub same : (h : Histogram) (known : Known) → Contains reading.hists h → Contains answers known → known.name ≡ h.name
      → (known.reference ≡ h.reference) × SameSpec h.spec known.spec
  pub once : (i j : ℕ) (g h : Histogram) → get_elem? reading.hists i ≡ some g → get_elem? reading.hists j ≡ some h → g.name ≡ h.name → i ≡ j

-- units and sum are the tally of a log, the redundant count that of the opening plus the units noted since, marks and sum mark what was
-- taken
pub record ReadsLog (opened : Anatomy) (a : Actor) (h : Histogram) : Type 0 where
  pub units : (key : ℤ) → units_read h key ≡ tally_units (log_of a) h.name key
  pub sum : h.sum ≡ tally_sum (log_of a) h.name
  pub redundant : h.redundant ≡ noted_at_opening opened h.name + tally_noted (map (λ c. c.entry) a.entries.log) h.name
  pub marks : (key : ℤ) → mark_read h key ≡ taken_units (taken_of a) h.name key
  pub sum_mark : h.sum_mark ≡ taken_sum (taken_of a) h.name

-- Once all recorders are joined, the words read as exactly the histograms that `hist` returned, with the counts and the sum that one thread
-- records of the accepted samples; and each flag is read exactly if it was set at the opening or a call set it.
abbrev pub JoinedReads : Type 0
JoinedReads = (shape : Dimensions) (opened : Anatomy) (state : State) (a : Actor) (reading : Reading) → Invariant shape opened state
    → IsJoined state a → IsReading state.words (head_of state.words) reading
    → HasNoFault reading × ReadsAnswers a.answers.names reading × ((h : Histogram) → Contains reading.hists h → ReadsLog opened a h)
    × (reading.id ≡ opened.id) × (reading.corrupt ≡ (opened.corrupt || a.done.spoiled)) × (reading.full ≡ (opened.full || a.done.filled))
