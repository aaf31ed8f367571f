use Rattle.std.proofs.Common.{codes}
use Rattle.std.proofs.lemmas.List.{append_cancel_right}
use Rattle.recording_folders.specs.Names.{padded}
use Rattle.recording_folders.proofs.Padded.{has_64_bits, ends_differ, padded_injective}
use Rattle.recording_folders.proofs.laws.names_differ.Goals as goal

pub returns-clause-segments : goal.returns-clause-segments
returns-clause-segments c one other is_one is_other same =
    padded_injective one other (has_64_bits one is_one) (has_64_bits other is_other) (append_cancel_right (padded one) (padded other) (codes ".seg") same)

pub returns-clause-damaged : goal.returns-clause-damaged
returns-clause-damaged c one other is_one is_other same = ends_differ (padded one) (padded other) same
