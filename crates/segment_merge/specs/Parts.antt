-- What a merge has at hand for each histogram, and one step of it.
use Rattle.std.specs.Prelude.{◌≡◌, ℕ, ◌<◌, List, [], ◌∷◌, ◌++◌, take, length, slice_index_or, Option, MatchOption}
use Rattle.std.specs.declared.alloc.Global.{Global}
use Rattle.std.specs.declared.vec.Vec.{Vec}
use Rattle.bucket_ranges.specs.Tally.{units_of}
use Rattle.bucket_ranges.specs.Reading.{Histogram}
use Rattle.image_reader.specs.declared.reading.HistReading.{HistReading}
use Rattle.segment_machine.specs.declared.actor.Actor.{Actor}
use Rattle.segment_merge.specs.declared.merging.MergeStop.{MergeStop}
use Rattle.segment_merge.specs.declared.merging.Part.{Part}
use Rattle.segment_merge.specs.Merge.{IsMerged, StopsAt, items_left, units_left}
use Rattle.segment_merge.specs.Remainder.{IsLeftOf}

-- it has the name twice, and what is left, if there is a remainder
pub record IsPartOf (h : HistReading) (part : Part) : Type 0 where
  pub name : part.name.items ≡ h.name.items
  pub stop_name : part.stop_name.items ≡ h.name.items
  pub left : IsLeftOf h part.left

-- there is one for each histogram, in their order
pub record ArePartsOf (hists : List HistReading) (parts : List Part) : Type 0 where
  pub many : length parts ≡ length hists
  pub each : (i : ℕ) (h : HistReading) (part : Part) → i < length hists → IsPartOf (slice_index_or hists i h) (slice_index_or parts i part)

-- A line with the name is at the end of the report. The histogram is merged, and the line has its units; or the merge stops there, and it
-- has those of the items that are counted.
pub record Merges (h : Histogram) (before : List (Vec ℕ Global × ℕ)) (stopped : Option MergeStop) (after : List (Vec ℕ Global × ℕ)) (old new : Actor) : Type 0 where
  pub line : Vec ℕ Global × ℕ
  pub reported : after ≡ before ++ line ∷ []
  pub named : line.0.items ≡ h.name
  pub outcome : MatchOption stopped (IsMerged (h ∷ []) old new × (line.1 ≡ units_left h))
      (λ stop. StopsAt h stop.items stop.why old new × (stop.name.items ≡ h.name) × (line.1 ≡ units_of (take stop.items (items_left h))))
