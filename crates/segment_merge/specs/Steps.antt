-- What a merge by a follower has at hand for each histogram.
use Rattle.std.specs.Prelude.{◌≡◌, ℕ, ◌≤◌, ◌+◌, List, map}
use Rattle.std.specs.Prelude.{vec_capacity, vec_len}
use Rattle.bucket_ranges.specs.Reading.{Histogram}
use Rattle.image_reader.specs.Views.{histogram_view}
use Rattle.segment_merge.specs.declared.following.FollowReport.{FollowReport}
use Rattle.segment_merge.specs.declared.following.FollowStep.{FollowStep}
use Rattle.segment_merge.specs.Parts.{IsPartOf}

-- its part is that of its histogram
abbrev pub HasItsPart : FollowStep → Type 0
HasItsPart step = IsPartOf step.hist step.part

-- the histograms of steps
abbrev pub hists_of : List FollowStep → List Histogram
hists_of steps = map (λ step. histogram_view step.hist) steps

-- a report has room for this many lines more
pub record HasRoomFor (hists : ℕ) (report : FollowReport) : Type 0 where
  pub added : vec_len report.added + hists ≤ vec_capacity report.added
  pub passed : vec_len report.passed + hists ≤ vec_capacity report.passed

-- two reports tell the same units that are new, and the same cost
pub record ToldAlike (one other : FollowReport) : Type 0 where
  pub units : other.units ≡ one.units
  pub cost : other.cost ≡ one.cost
