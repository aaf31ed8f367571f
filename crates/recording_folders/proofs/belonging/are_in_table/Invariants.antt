use Rattle.std.proofs.Common.{◌↔◌, length, map}
use Rattle.recording_folders.specs.Belonging.{AreInTable}
use Rattle.recording_folders.proofs.belonging.are_in_table.Given as goal

abbrev pub invariant-loop-rest : goal.invariant-loop-rest
invariant-loop-rest l = AreInTable (map (λ name. name.items) l.names) ↔ AreInTable (map (λ name. name.items) l.rest)

abbrev pub decreases-loop-rest : goal.decreases-loop-rest
decreases-loop-rest l = length l.rest
