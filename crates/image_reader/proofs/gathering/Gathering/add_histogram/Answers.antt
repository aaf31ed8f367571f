use Rattle.std.proofs.Common.{[], ◌∷◌, ◌++◌, refl, ap, subst, ◌∙◌}
use Rattle.image_reader.specs.Records.{IsRecordRefusal}
use Rattle.image_reader.proofs.Gathers.{IsGathered-bad}
use Rattle.image_reader.proofs.gathering.Gathering.add_histogram.Goals as goal

-- a record with a fault goes to the bad ones
pub returns-in_ok-push-in-Err-Fault-clause-gathered : goal.returns-in_ok-push-in-Err-Fault-clause-gathered
returns-in_ok-push-in-Err-Fault-clause-gathered c = λ earlier so_far.
    IsGathered-bad c.args.words.now c.args.head.now earlier c.args.self.now _ c.args.reference c.in-Err-Fault.fault so_far
    c.requires.tag (subst (IsRecordRefusal c.args.words.now c.args.head.now c.args.reference) c.in-Err-Fault.field-0-is c.in-Err-Fault.ensures.found)
    (c.in_ok-push-in-Err-Fault.ensures.items
    ∙ ap (λ f. c.args.self.now.bad.items ++ record { reference = c.args.reference; fault = f } ∷ []) c.in-Err-Fault.fault-is)
    refl (λ name. refl) refl (λ h. refl) refl
