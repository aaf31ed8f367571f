-- The size that blocks need.
use Rattle.std.specs.Prelude.{ℕ, List, Result, MatchResult}
use Rattle.segment_sizes.specs.declared.fault.SizeFault.{SizeFault}
use Rattle.segment_sizes.specs.Filling.{FitInEveryOrder}
use Rattle.segment_sizes.specs.Needed.{IsSizeFault}

-- they fit in it in every order; or why no size is known
abbrev pub IsNeededBy : (page : ℕ) (blocks : List ℕ) → Result ℕ SizeFault → Type 0
IsNeededBy page blocks needed = MatchResult needed (FitInEveryOrder page blocks) (IsSizeFault page blocks)
