use Rattle.std.proofs.Common.{refl}
use Rattle.segment_machine.specs.Event.{packing_event}
use Rattle.segment_machine.specs.Packing.{pack}
use Rattle.segment_machine.specs.Examples.{sampler}
use Rattle.segment_machine.proofs.Runs.Tests.{found_in}
use Rattle.segment_machine.proofs.Runs.Reached.{may}
use Rattle.segment_machine.proofs.laws.packed_run.Goals as goal

pub returns : goal.returns
returns c = (found_in (may sampler (packing_event (pack 16 0 4294967297))) refl, refl, refl, refl, refl, refl)
