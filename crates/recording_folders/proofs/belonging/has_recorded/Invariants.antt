use Rattle.std.proofs.Common.{◌↔◌, length, map}
use Rattle.recording_folders.specs.Belonging.{HasRecorded}
use Rattle.recording_folders.proofs.belonging.has_recorded.Given as goal

abbrev pub invariant-loop-rest : goal.invariant-loop-rest
invariant-loop-rest l = HasRecorded (map (λ name. name.items) l.names) ↔ HasRecorded (map (λ name. name.items) l.rest)

abbrev pub decreases-loop-rest : goal.decreases-loop-rest
decreases-loop-rest l = length l.rest
