use Rattle.recording_folders.proofs.NameKinds.{segment_only, damaged_only, without_number}
use Rattle.recording_folders.proofs.kind.kind_of.Goals as goal

pub returns-in-Some-clause-only : goal.returns-in-Some-clause-only
returns-in-Some-clause-only c kind h =
    let found = rw c.in-Some.is at c.in_ok-number.ensures.found in
    segment_only c.args.name.now c.in-Some.number found.0 found.1 kind h

pub returns-in-Some-2-clause-only : goal.returns-in-Some-2-clause-only
returns-in-Some-2-clause-only c kind h =
    let found = rw c.in-Some-2.is at c.in_ok-number-2.ensures.found in
    damaged_only c.args.name.now c.in-Some-2.number found.0 found.1 kind h

pub returns-clause-only : goal.returns-clause-only
returns-clause-only c =
    without_number c.args.name.now (λ n number is. c.in_default.not-Some n (c.in_ok-number.ensures.only n number is))
    (λ n number is. c.in_default-2.not-Some n (c.in_ok-number-2.ensures.only n number is)) c.kind_without_number.result c.kind_without_number.ensures.only
