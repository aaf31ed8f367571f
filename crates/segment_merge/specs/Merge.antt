-- What a merge makes of its recorder, and what it reports: of a reading that it merges whole, and of one at which it stops.
use Rattle.std.specs.Prelude.{◌≡◌, ◌⊎◌, ℕ, ◌+◌, ◌<◌, ℤ, ◌-ℤ◌, List, [], ◌∷◌, ◌++◌, map, take, sum_by, if◌then◌else◌, MatchOption}
use Rattle.std.specs.List.{All, Contains, flat_map}
use Rattle.std.specs.Str.{bytes_eq}
use Rattle.bucket_ranges.specs.Ranges.{boundaries_of}
use Rattle.bucket_ranges.specs.Reading.{Histogram}
use Rattle.bucket_ranges.specs.Spec.{SameSpec}
use Rattle.bucket_ranges.specs.Tally.{units_of}
use Rattle.segment_machine.specs.declared.actor.Actor.{Actor}
use Rattle.segment_machine.specs.declared.actor.Known.{Known}
use Rattle.segment_machine.specs.declared.entry.Entry.{Entry}
use Rattle.segment_machine.specs.Actor.{cost_of, log_of}
use Rattle.segment_machine.specs.Entry.{batch_cost, batch_entries, item_entry}
use Rattle.segment_calls.specs.declared.refusal.Refusal.{Refusal}
use Rattle.segment_calls.specs.declared.refusal.Refusal.TheVariants.{NoUnits}
use Rattle.live_segment.specs.declared.recorder.Hist.{Hist}
use Rattle.live_segment.specs.Add.Batch.{IsCutShort}
use Rattle.live_segment.specs.Hist.Answer.{IsAnsweredWith, IsRefusedWith, KnowsNamed}
use Rattle.segment_promises.specs.Onward.{DoesOn, SeesOn}
use Rattle.segment_merge.specs.declared.merging.MergeReport.{MergeReport}
use Rattle.segment_merge.specs.declared.merging.MergeStop.{MergeStop}
use Rattle.segment_merge.specs.Remainder.{items_of}

-- ---- what is merged of a histogram

-- what deltas have not taken of it: items, and a part of the sum
abbrev pub items_left : Histogram → List (ℤ × ℕ)
items_left h = items_of h.counts h.marks

abbrev pub sum_left : Histogram → ℤ
sum_left h = h.sum -ℤ h.sum_mark

-- its units
abbrev pub units_left : Histogram → ℕ
units_left h = units_of (items_left h)

-- the entries of the batch of what is left of it
abbrev pub entries_left : Histogram → List Entry
entries_left h = batch_entries h.name (boundaries_of h.spec) (items_left h) (sum_left h)

-- the units that this batch costs
abbrev pub cost_left : Histogram → ℕ
cost_left h = batch_cost (items_left h) (sum_left h)

-- ---- histograms that are merged

-- an actor knows a histogram of the name, and with the same spec
abbrev pub KnowsAs : Actor → Histogram → Type 0
KnowsAs a h = (known : Known) × Contains a.answers.names known × (known.name ≡ h.name) × SameSpec known.spec h.spec

-- a known histogram has name and spec of one of these
abbrev pub IsOneOf : List Histogram → Known → Type 0
IsOneOf hists known = (h : Histogram) × Contains hists h × (known.name ≡ h.name) × (known.spec ≡ h.spec)

-- A recorder continues with calls that find and count histograms: what it is, what its deltas and snapshots took, what shared cursors gave
-- it, and what was accepted before it are unchanged. It has seen and done no less. The histograms that it has come to know come after those
-- that it knew, and are of these.
pub record GoesOnWith (hists : List Histogram) (old new : Actor) : Type 0 where
  pub same : new ≡ record old {
    units = new.units;
    entries = record old.entries { log = new.entries.log };
    hand = new.hand;
    done = new.done;
    seen = new.seen;
    since = new.since;
    answers = new.answers;
  }
  pub done : DoesOn old.done new.done
  pub seen : SeesOn old.seen new.seen
  pub more : List Known
  pub names : new.answers.names ≡ old.answers.names ++ more
  pub of_these : All (IsOneOf hists) more

-- Histograms are merged: the batches of what is left of them are at the end of the log, one after the other in their order. What they cost
-- is taken from the share, and spent for each name. The recorder knows them all. No allocation was refused: it has not set the full flag.
pub record IsMerged (hists : List Histogram) (old new : Actor) : Type 0 where
  pub logged : log_of new ≡ log_of old ++ flat_map entries_left hists
  pub share : new.units.share + sum_by cost_left hists ≡ old.units.share
  pub spent : (name : List ℕ)
      → cost_of new.units.costs name ≡ cost_of old.units.costs name + sum_by (λ h. if bytes_eq h.name name then cost_left h else 0) hists
  pub knows : All (KnowsAs new) hists
  pub filled : new.done.filled ≡ old.done.filled
  pub onward : GoesOnWith hists old new

-- ---- one that stops the merge

-- a recorder has found or made a histogram of the name, with the same spec
pub record HasFound (h : Histogram) (known : Known) (old new : Actor) : Type 0 where
  pub histogram : Hist
  pub answered : IsAnsweredWith h.name h.spec histogram old new
  pub known_is : KnowsNamed h.name new histogram.index known
  pub same : SameSpec known.spec h.spec

-- Why one stops it, after this many of its items: its `hist` is refused; or its batch is, since it costs more than the share has, or since
-- the next item needs a block and none can be claimed.
abbrev pub HasStopCause : Histogram → ℕ → Refusal → Actor → Actor → Type 0
HasStopCause h items why old new =
    ((items ≡ 0) × IsRefusedWith h.name h.spec why old new)
    ⊎ ((found : Actor) × (known : Known) × HasFound h known old found
    × (((items ≡ 0) × (why ≡ NoUnits) × (found.units.share < cost_left h) × (new ≡ found))
    ⊎ IsCutShort known (items_left h) (record { added = items; why = why }) found new))

-- It stops after this many of its items: these are counted, and their units are taken from the share. Its sum is not added.
pub record StopsAt (h : Histogram) (items : ℕ) (why : Refusal) (old new : Actor) : Type 0 where
  pub logged : log_of new ≡ log_of old ++ map (item_entry h.name (boundaries_of h.spec)) (take items (items_left h))
  pub share : new.units.share + units_of (take items (items_left h)) ≡ old.units.share
  pub onward : GoesOnWith (h ∷ []) old new
  pub cause : HasStopCause h items why old new

-- ---- what is reported

-- names, each with the units that were added under it
abbrev pub report_lines : MergeReport → List (List ℕ × ℕ)
report_lines report = map (λ line. (line.0.items, line.1)) report.added.items

abbrev pub line_of : Histogram → List ℕ × ℕ
line_of h = (h.name, units_left h)

-- All histograms are merged, and reported with their units.
pub record IsWholeMerge (hists : List Histogram) (report : MergeReport) (old new : Actor) : Type 0 where
  pub merged : IsMerged hists old new
  pub lines : report_lines report ≡ map line_of hists

-- The histograms before one are merged, and the merge stops at that one, which is named. It is the last that is reported, with the units of
-- its items that are counted. Nothing of those after it was added.
pub record IsStopped (hists : List Histogram) (report : MergeReport) (stop : MergeStop) (old new : Actor) : Type 0 where
  pub front : List Histogram
  pub last : Histogram
  pub behind : List Histogram
  pub split : hists ≡ front ++ last ∷ behind
  pub until : Actor
  pub merged : IsMerged front old until
  pub stops : StopsAt last stop.items stop.why until new
  pub named : stop.name.items ≡ last.name
  pub lines : report_lines report ≡ map line_of front ++ (last.name, units_of (take stop.items (items_left last))) ∷ []

-- a report says what a merge made of its recorder
abbrev pub Reports : List Histogram → MergeReport → Actor → Actor → Type 0
Reports hists report old new = MatchOption report.stopped (IsWholeMerge hists report old new) (λ stop. IsStopped hists report stop old new)
