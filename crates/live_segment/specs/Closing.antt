-- What the image of a closed segment reads as, for the holder of its opener: once all recorders are joined, and whatever is outstanding.
use Rattle.std.specs.Prelude.{◌≡◌, ℕ, ◌+◌, ◌-◌, ◌<◌, ◌≤◌, ◌||◌, ℤ, List, ◌∷◌, ◌++◌, map, sum_by, IsPermutation, Ok}
use Rattle.std.specs.List.{Contains, All}
use Rattle.segment_image.specs.declared.layout.TheConstants.{FREE_WORD}
use Rattle.segment_image.specs.Head.{header_of, head_of}
use Rattle.segment_image.specs.Words.{word_at}
use Rattle.bucket_ranges.specs.Spec.{SameSpec}
use Rattle.bucket_ranges.specs.Reading.{Histogram, Reading, IsReading}
use Rattle.list_core.specs.Chain.{IsChain}
use Rattle.segment_machine.specs.declared.entry.Entry.{Entry}
use Rattle.segment_machine.specs.declared.actor.Actor.{Actor}
use Rattle.segment_machine.specs.declared.actor.Answered.{Answered}
use Rattle.segment_machine.specs.declared.actor.Known.{Known}
use Rattle.segment_machine.specs.declared.actor.Taken.{Taken}
use Rattle.segment_machine.specs.Entry.{tally_units, tally_sum, tally_noted}
use Rattle.segment_machine.specs.Actor.{all_given, cost_of, given_by, outstanding_of, log_of, units_of, units_listed, taken_of, taken_units, taken_sum, IsFinal, made_of}
use Rattle.segment_machine.specs.State.{State}
use Rattle.segment_invariant.specs.Body.{Anatomy, Listed}
use Rattle.segment_invariant.specs.Ledger.{all_moving}
use Rattle.segment_promises.specs.Deltas.{TookUpTo}
use Rattle.segment_promises.specs.FreePointer.{raised_by}
use Rattle.segment_promises.specs.Reads.{units_read, mark_read, noted_at_opening, HasNoFault, ReadsHead, ReadsNames, ReadsUnits, ReadsAmounts, ReadsAnswers}
use Rattle.live_segment.specs.declared.rule.Opening.{Opening}
use Rattle.live_segment.specs.declared.rule.Setting.{Setting}
use Rattle.live_segment.specs.Rule.{Closes, words_of}

-- ---- the words

-- the header of words is valid and has the shape, the version and the id that the segment was opened with, and the words have a reading
pub record IsImageOf (setting : Setting) (words : List ℕ) : Type 0 where
  pub header : header_of words ≡ Ok (head_of words)
  pub shape : (head_of words).shape ≡ setting.shape
  pub version : (head_of words).version ≡ setting.version
  pub id : (head_of words).id ≡ setting.id
  pub reading : (reading : Reading) × IsReading words (head_of words) reading

-- ---- how far it is used

-- The free pointer of the image is where it was in the words with which the segment was opened, and higher by the rises that the opener and
-- the recorders that it joined have made; if some are not joined, by theirs too.
pub record IsRisenBy (opening : Opening) (opener : Actor) (words : List ℕ) : Type 0 where
  pub least : word_at (words_of opening) FREE_WORD + raised_by opener ≤ word_at words FREE_WORD
  pub exact : outstanding_of opener.role ≡ 0 → word_at words FREE_WORD ≡ word_at (words_of opening) FREE_WORD + raised_by opener

-- ---- what shared cursors gave

-- these records are those at the front of the list of the words, each once
pub record IsFrontOf (words given : List ℕ) : Type 0 where
  pub front : List ℕ
  pub behind : List ℕ
  pub list : IsChain words (head_of words) (front ++ behind)
  pub same : IsPermutation given front

-- what each shared cursor gave the recorders of an opener is a front of the list, each record once
abbrev pub GaveFronts : Actor → List ℕ → Type 0
GaveFronts opener words = (cursor : ℕ) → cursor < opener.segment.cursors → IsFrontOf words (given_by cursor opener.done.given)

-- ---- once all recorders are joined

-- what a redundant count comes to: what it was as the segment was opened, and the units of all entries since
abbrev pub redundant_of : Actor → List ℕ → ℕ
redundant_of opener name = cost_of opener.entries.first_noted name + tally_noted (map (λ c. c.entry) opener.entries.log) name

-- A histogram that is read has what the opener's log adds up to, which begins with what the segment was opened with: the units of each key,
-- and the sum. Its redundant count is the opening's and the units since; its marks and its sum mark are what deltas took.
pub record IsTally (opener : Actor) (h : Histogram) : Type 0 where
  pub units : (key : ℤ) → units_read h key ≡ tally_units (log_of opener) h.name key
  pub sum : h.sum ≡ tally_sum (log_of opener) h.name
  pub redundant : h.redundant ≡ redundant_of opener h.name
  pub marks : (key : ℤ) → mark_read h key ≡ taken_units (taken_of opener) h.name key
  pub sum_mark : h.sum_mark ≡ taken_sum (taken_of opener) h.name

-- No record is bad, and the list does not stop. The names are exactly those that the segment was opened with and those that a `hist`
-- returned, each once, with the spec of each answer. The corrupt flag is set exactly if a call has set it; the full one exactly if a call
-- has set it or the segment was opened with it.
pub record IsJoinedReading (setting : Setting) (opener : Actor) (reading : Reading) : Type 0 where
  pub lawful : HasNoFault reading
  pub answers : ReadsAnswers opener.answers.names reading
  pub tallies : (h : Histogram) → Contains reading.hists h → IsTally opener h
  pub id : reading.id ≡ setting.id
  pub corrupt : reading.corrupt ≡ opener.done.spoiled
  pub full : reading.full ≡ (setting.full || opener.done.filled)

-- any reading of the words has what the opener's log adds up to, as `IsJoinedReading` says
abbrev pub ReadsJoined : Setting → Actor → List ℕ → Type 0
ReadsJoined setting opener words = (reading : Reading) → IsReading words (head_of words) reading → IsJoinedReading setting opener reading

-- With a final delta of a histogram, all deltas together took its totals and its sum. If no recorder was outstanding when the recorder of a
-- delta was made, and none was made since, the deltas up to that one took exactly what the log before it adds up to.
pub record DeltasAddUp (opener : Actor) : Type 0 where
  pub all : (delta : Taken) → Contains opener.deltas.taken delta → IsFinal (made_of opener.role) (log_of opener) delta.name delta.moment
      → ((key : ℤ) → taken_units (taken_of opener) delta.name key ≡ tally_units (log_of opener) delta.name key)
      × (taken_sum (taken_of opener) delta.name ≡ tally_sum (log_of opener) delta.name)
  pub each : (front behind : List Taken) (delta : Taken) → opener.deltas.taken ≡ front ++ delta ∷ behind → delta.moment.outstanding ≡ 0
      → delta.moment.before + 1 ≡ made_of opener.role → TookUpTo opener delta behind

-- no bucket and no value of a snapshot is above its total, and a final one has the totals, the sum and the redundant count
pub record SnapshotsAgree (opener : Actor) : Type 0 where
  pub below : (answer : Answered) → Contains opener.deltas.snapshots answer
      → All (λ count. count.1 ≤ tally_units (log_of opener) answer.name count.0) answer.counts
  pub exact : (answer : Answered) → Contains opener.deltas.snapshots answer → IsFinal (made_of opener.role) (log_of opener) answer.name answer.moment
      → ((key : ℤ) → units_listed answer.counts key ≡ tally_units (log_of opener) answer.name key)
      × (answer.sum ≡ tally_sum (log_of opener) answer.name)
      × (answer.redundant ≡ redundant_of opener answer.name)

-- ---- whatever is outstanding

-- the units that are read of each key beyond those that a log has of it
abbrev pub units_beyond : List Entry → Histogram → ℕ
units_beyond log h = sum_by (λ count. count.1 - tally_units log h.name count.0) h.counts

-- the units that were handed out and have not come back: all of a segment except those that its opener has, and those that joined recorders
-- have spent
abbrev pub units_out : Actor → ℕ
units_out opener = 4294967295 - units_of opener

-- What is read of the words of a state that holds between two steps: exactly the histograms that were published, with all units except
-- those in transit. Each histogram that a `hist` of a joined recorder returned is among them. The total of each key, in version 1 with its
-- units in transit, is at least what the log has; and all units beyond the log are at most those handed out that have not come back. The
-- opener knows the redundant counts that the segment was opened with.
pub record IsStoppedReading (setting : Setting) (opened : Anatomy) (opener : Actor) (state : State) (records : List Listed) (reading : Reading) : Type 0 where
  pub lawful : HasNoFault reading
  pub head : ReadsHead opened state reading
  pub names : ReadsNames records reading
  pub each : (h : Histogram) → Contains reading.hists h → ReadsUnits setting.version state h × ReadsAmounts opened state h
  pub first_noted : (name : List ℕ) → noted_at_opening opened name ≡ cost_of opener.entries.first_noted name
  pub answered : (known : Known) → Contains opener.answers.names known
      → (h : Histogram) × Contains reading.hists h × (h.name ≡ known.name) × (h.reference ≡ known.reference) × SameSpec h.spec known.spec
  pub least : (h : Histogram) (key : ℤ) → Contains reading.hists h
      → tally_units (log_of opener) h.name key ≤ units_read h key + all_moving h.name key state.actors
  pub most : sum_by (units_beyond (log_of opener)) reading.hists ≤ units_out opener

-- A segment that was opened with these words came to such a state, in which the opener has done and seen this. So the records that were
-- listed at first are still there with the words that they had, also those of other types and the later ones of a name. What each shared
-- cursor gave all its recorders is a front of the list, each record once.
pub record ReadsStopped (opening : Opening) (opener : Actor) (words : List ℕ) : Type 0 where
  pub closed : Closes opening opener words
  pub reads : (reading : Reading) → IsReading words (head_of words) reading
      → IsStoppedReading opening.setting closed.opened opener closed.state closed.kept.anatomy.records reading
  pub gave : (cursor : ℕ) → cursor < opener.segment.cursors → IsFrontOf words (all_given closed.state.actors cursor)
