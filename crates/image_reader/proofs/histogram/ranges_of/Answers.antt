-- If a spec has no fault, the only error is that memory runs out.
use Rattle.bucket_ranges.specs.Spec.{spec_fault}
use Rattle.image_reader.proofs.Sound.{match-none}
use Rattle.image_reader.proofs.histogram.ranges_of.Goals as goal

pub returns-in-Ok-clause-value : goal.returns-in-Ok-clause-value
returns-in-Ok-clause-value c = match-none _ _ (spec_fault c.args.spec.now) c.requires c.in-Ok.ensures.boundaries

pub unreachable-requires : goal.unreachable-requires
unreachable-requires c =
    c.in_default.not-NoMemory (match-none _ _ (spec_fault c.args.spec.now) c.requires c.in-Err.ensures.boundaries)
