use Rattle.std.proofs.Common.{refl}
use Rattle.segment_machine.specs.Examples.{mounts, mounting}
use Rattle.segment_machine.proofs.Runs.Tests.{found_in}
use Rattle.segment_machine.proofs.Runs.Reached.{may_all}
use Rattle.segment_machine.proofs.laws.mounting_run.Goals as goal

pub returns : goal.returns
returns c = (found_in (may_all mounts mounting) refl, refl, refl, refl, refl)
