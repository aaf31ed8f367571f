-- What a follower adds of a reading, histogram by histogram, and what is noted of it from then on.
use Rattle.std.specs.Prelude.{◌≡◌, ◌⊎◌, Bool, true, false, not, ◌||◌, ◌==◌, if◌then◌else◌, min, ℕ, ◌+◌, ◌-◌, ◌≤◌, ℤ, pos, ◌+ℤ◌, List, [], ◌∷◌, ◌++◌, IsPermutation, fold, length, map, sum_by, take, Option, Some, None, MatchOption}
use Rattle.std.specs.List.{All, flat_map}
use Rattle.std.specs.Ordering.{int_eq}
use Rattle.std.specs.Str.{bytes_eq}
use Rattle.std.specs.declared.alloc.Global.{Global}
use Rattle.std.specs.declared.vec.Vec.{Vec}
use Rattle.bucket_ranges.specs.Ranges.{boundaries_of}
use Rattle.bucket_ranges.specs.Reading.{Histogram, Reading}
use Rattle.bucket_ranges.specs.Tally.{units_of}
use Rattle.segment_calls.specs.declared.refusal.Refusal.{Refusal}
use Rattle.segment_calls.specs.declared.refusal.Refusal.TheVariants.{BadName, BadSpec, ZeroCount, NoUnits, TooMany, NoMemory, TooLarge, Corrupt, Full, OtherSpec}
use Rattle.segment_machine.specs.declared.actor.Actor.{Actor}
use Rattle.segment_machine.specs.declared.entry.Entry.{Entry}
use Rattle.segment_machine.specs.Actor.{log_of, units_listed}
use Rattle.segment_machine.specs.Entry.{batch_entries}
use Rattle.segment_merge.specs.declared.following.FollowReport.{FollowReport}
use Rattle.segment_merge.specs.declared.merging.MergeStop.{MergeStop}
use Rattle.segment_merge.specs.Cut.{cut_at}
use Rattle.segment_merge.specs.Merge.{IsMerged, StopsAt, cost_left, items_left, line_of, sum_left}
use Rattle.segment_merge.specs.Noted.{AreMarkedBy, AreNotesInOrder, IsReadingInOrder, sum_among, units_among, units_in_all, unmarked}

-- ---- what is added of a histogram

-- How it ends: all that is new is added, if something is; or, after this many items of it, it is cut short for a reason.
abbrev pub Ending : Type 0
Ending = Option (ℕ × Refusal)

-- a histogram, whose marks are what is noted of it, and how it ends
abbrev pub Step : Type 0
Step = Histogram × Ending

-- whether a refusal concerns one histogram alone: that one is passed over, and the others go on
abbrev pub concerns_one : Refusal → Bool
concerns_one BadName = true
concerns_one (BadSpec fault) = true
concerns_one ZeroCount = false
concerns_one NoUnits = false
concerns_one TooMany = false
concerns_one NoMemory = false
concerns_one TooLarge = true
concerns_one Corrupt = false
concerns_one Full = true
concerns_one OtherSpec = true

-- whether something of a histogram is new: units above the marks, or a sum that is not its mark
abbrev pub has_new : Histogram → Bool
has_new h = not (length (items_left h) == 0) || not (int_eq (sum_left h) (pos 0))

-- the items that are added of it
abbrev pub items_added : Step → List (ℤ × ℕ)
items_added (h, None) = items_left h
items_added (h, Some (items, why)) = take items (items_left h)

-- what is added to its sum
abbrev pub sum_added : Step → ℤ
sum_added (h, None) = sum_left h
sum_added (h, Some cut) = pos 0

-- the entries of the batch of these
abbrev pub entries_added : Step → List Entry
entries_added step = batch_entries step.0.name (boundaries_of step.0.spec) (items_added step) (sum_added step)

-- what is noted of it from then on
abbrev pub noted_after : Step → Histogram
noted_after (h, None) = h
noted_after (h, Some (items, why)) = cut_at items h

-- A recorder adds what is new of a histogram: nothing, and nothing happens; or it merges it; or it stops there.
abbrev pub AddsStep : Step → Actor → Actor → Type 0
AddsStep (h, None) a b = ((has_new h ≡ false) × (b ≡ a)) ⊎ ((has_new h ≡ true) × IsMerged (h ∷ []) a b)
AddsStep (h, Some (items, why)) a b = (has_new h ≡ true) × StopsAt h items why a b

-- one after the other
abbrev pub AddsAll : List Step → Actor → Actor → Type 0
AddsAll [] a b = b ≡ a
AddsAll (step ∷ steps) a c = (b : Actor) × AddsStep step a b × AddsAll steps b c

-- ---- what is reported

-- the line of a histogram: its name, and the units that were added to it; none if nothing of it was new
abbrev pub lines_of : Step → List (List ℕ × ℕ)
lines_of (h, None) = if has_new h then line_of h ∷ [] else []
lines_of (h, Some (items, why)) = (h.name, units_of (take items (items_left h))) ∷ []

-- where it was cut short: its name, after how many items, and why
abbrev pub cuts_of : Step → List (List ℕ × ℕ × Refusal)
cuts_of (h, None) = []
cuts_of (h, Some (items, why)) = (h.name, items, why) ∷ []

-- the same in a report
abbrev pub seen_added : List (Vec ℕ Global × ℕ) → List (List ℕ × ℕ)
seen_added added = map (λ line. (line.0.items, line.1)) added

abbrev pub seen_stop : MergeStop → List ℕ × ℕ × Refusal
seen_stop stop = (stop.name.items, stop.items, stop.why)

-- the one that stopped the merge, if one did
abbrev pub seen_stopped : Option MergeStop → List (List ℕ × ℕ × Refusal)
seen_stopped None = []
seen_stopped (Some stop) = seen_stop stop ∷ []

-- ---- all histograms

-- What is new of these histograms, whose marks are what is noted of them, is added, one after the other in their order, up to the one that
-- stops the merge, if one does; of those behind it nothing is added. What is noted from then on is what was noted and what was added. The
-- report has a line for each that has something new and was reached, and lists where they were cut short: those that are passed over, each
-- for a reason that concerns it alone, and the last one, if that stopped the merge, for another reason.
pub record AreFollowed (hists : List Histogram) (report : FollowReport) (noted : List Histogram) (old new : Actor) : Type 0 where
  pub steps : List Step
  pub behind : List Histogram
  pub split : hists ≡ map (λ step. step.0) steps ++ behind
  pub adds : AddsAll steps old new
  pub noted_is : noted ≡ map noted_after steps ++ map (cut_at 0) behind
  pub lines : seen_added report.added.items ≡ flat_map lines_of steps
  pub cuts : map seen_stop report.passed.items ++ seen_stopped report.stopped ≡ flat_map cuts_of steps
  pub passed : All (λ stop. concerns_one stop.why ≡ true) report.passed.items
  pub stopped : MatchOption report.stopped (behind ≡ []) (λ stop. concerns_one stop.why ≡ false)

-- ---- what that comes to

-- of a name and a key, the units that are added by steps
abbrev pub units_added : List Step → List ℕ → ℤ → ℕ
units_added steps name key = sum_by (λ step. if bytes_eq step.0.name name then units_listed (items_added step) key else 0) steps

-- what they add to the sums of a name
abbrev pub sums_added : List Step → List ℕ → ℤ
sums_added steps name = fold ◌+ℤ◌ (pos 0) (map (λ step. if bytes_eq step.0.name name then sum_added step else pos 0) steps)

-- The log grew by exactly the batches of these steps, and of each name and key what is noted grew by the units of these batches, and of each
-- name by their sums.
pub record IsNotedAsAdded (steps : List Step) (noted later : List Histogram) (old new : Actor) : Type 0 where
  pub logged : log_of new ≡ log_of old ++ flat_map entries_added steps
  pub units : (name : List ℕ) (key : ℤ) → units_among later name key ≡ units_among noted name key + units_added steps name key
  pub sums : (name : List ℕ) → sum_among later name ≡ sum_among noted name +ℤ sums_added steps name

-- A report tells what a reading has above what is noted: its units less those that are noted, of all names and keys, and what it costs to add
-- these and the sums, by histograms that have what is noted as their marks. Each is the greatest `u64` if there is more.
pub record TellsWhatIsNew (noted : List Histogram) (reading : Reading) (hists : List Histogram) (report : FollowReport) : Type 0 where
  pub units : report.units ≡ min (units_in_all reading.hists - units_in_all noted) 18446744073709551615
  pub cost : report.cost ≡ min (sum_by cost_left hists) 18446744073709551615

-- A reading is followed. Its histograms, in some order, have what was noted as their marks; those of a reading that is in order are in the
-- order of their names. The report tells what is new, which costs at most so many units. That is added and noted: what is noted grew by the
-- units that the report lists.
pub record IsFollowed (noted : List Histogram) (reading : Reading) (most : ℕ) (report : FollowReport) (later : List Histogram) (old new : Actor) : Type 0 where
  pub hists : List Histogram
  pub same : IsPermutation (map unmarked reading.hists) (map unmarked hists)
  pub by : AreMarkedBy noted hists
  pub order : IsReadingInOrder reading.hists → AreNotesInOrder hists
  pub tells : TellsWhatIsNew noted reading hists report
  pub cheap : report.cost ≤ most
  pub followed : AreFollowed hists report later old new
  pub adds_up : IsNotedAsAdded followed.steps noted later old new
  pub grew : units_in_all later ≡ units_in_all noted + sum_by (λ line. line.1) report.added.items

-- ---- one step of a merge

-- A report before and after a histogram: it has its line, and where it was cut short.
pub record IsReported (step : Step) (before after : FollowReport) : Type 0 where
  pub lines : seen_added after.added.items ≡ seen_added before.added.items ++ lines_of step
  pub cuts : map seen_stop after.passed.items ++ seen_stopped after.stopped ≡ map seen_stop before.passed.items ++ cuts_of step
  pub passed : All (λ stop. concerns_one stop.why ≡ true) before.passed.items → All (λ stop. concerns_one stop.why ≡ true) after.passed.items
  pub stopped : MatchOption after.stopped (Unit {0}) (λ stop. concerns_one stop.why ≡ false)

-- A report before and after a histogram was cut short: it is put to those that are passed over, or it is what stopped the merge.
abbrev pub IsCutReported : MergeStop → FollowReport → FollowReport → Type 0
IsCutReported stop before after =
    ((concerns_one stop.why ≡ true) × (after.passed.items ≡ before.passed.items ++ stop ∷ []) × (after.stopped ≡ before.stopped))
    ⊎ ((concerns_one stop.why ≡ false) × (after.passed ≡ before.passed) × (after.stopped ≡ Some stop))

-- What comes of the next histogram: once the merge has stopped, nothing; else what is new of it is added, noted and reported.
abbrev pub FollowsNext : Histogram → FollowReport → FollowReport → Histogram → Actor → Actor → Type 0
FollowsNext h before after noted a b =
    MatchOption before.stopped
    ((ending : Ending) × AddsStep (h, ending) a b × (noted ≡ noted_after (h, ending)) × IsReported (h, ending) before after)
    (λ stop. (after ≡ before) × (b ≡ a) × (noted ≡ cut_at 0 h))
