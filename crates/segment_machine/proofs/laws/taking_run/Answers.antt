use Rattle.std.proofs.Common.{refl}
use Rattle.segment_machine.specs.Note.{has_taken}
use Rattle.segment_machine.specs.Examples.{run, takes_all, taking}
use Rattle.segment_machine.proofs.Runs.Tests.{found_in}
use Rattle.segment_machine.proofs.Runs.Notes.{may_note}
use Rattle.segment_machine.proofs.Runs.Reached.{may_all}
use Rattle.segment_machine.proofs.laws.taking_run.Goals as goal

pub returns : goal.returns
returns c = (found_in (may_all takes_all taking) refl, found_in (may_note (run takes_all taking) has_taken) refl)
