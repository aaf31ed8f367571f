use Rattle.std.proofs.Common.{take}
use Rattle.image_reader.specs.Gathering.{IsGathered, IsGatheringOf}
use Rattle.image_reader.proofs.survey.gather.Given as goal

-- the records so far are gathered
abbrev pub invariant-loop-reference : goal.invariant-loop-reference
invariant-loop-reference l = record {
  gathered : IsGathered l.words l.head (take l.reference-index l.references) l.gathering;
  ready : IsGatheringOf l.words l.gathering;
}
