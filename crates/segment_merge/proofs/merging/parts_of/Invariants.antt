use Rattle.std.proofs.Common.{take}
use Rattle.segment_merge.specs.Parts.{ArePartsOf}
use Rattle.segment_merge.proofs.merging.parts_of.Given as goal

abbrev pub invariant-loop-histogram : goal.invariant-loop-histogram
invariant-loop-histogram l = ArePartsOf (take l.histogram-index l.reading.hists.items) l.parts.items
