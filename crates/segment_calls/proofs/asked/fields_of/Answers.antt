use Rattle.std.proofs.Common.{◌≡◌, ◌≤◌, ◌∷◌, [], ◌-◌, List, ℕ, length, sym, ap, subst, ◌∙◌}
use Rattle.std.specs.Prelude.{slice_index, None}
use Rattle.bucket_ranges.specs.declared.spec.Spec.{Spec}
use Rattle.bucket_ranges.specs.Ranges.{boundaries_of}
use Rattle.bucket_ranges.specs.Spec.{spec_fault, spec_fields}
use Rattle.segment_calls.proofs.Payloads.{three_at_least, fields_are}
use Rattle.segment_calls.proofs.asked.fields_of.Goals as goal

pub custom_fields-requires : goal.custom_fields-requires
custom_fields-requires c =
    let is = c.in-Custom.is in
    subst (λ (l : List ℕ). 3 ≤ length l) (sym (c.requires.ranges ∙ ap boundaries_of is))
    (three_at_least c.in-Custom.field-0 (subst (λ (s : Spec). spec_fault s ≡ None) is c.requires.lawful))

pub returns-in-Custom : goal.returns-in-Custom
returns-in-Custom c =
    let is = c.in-Custom.is in
    c.custom_fields.ensures
    ∙ (ap (λ (l : List ℕ). 3 ∷ slice_index l 1 ∷ slice_index l (length l - 2) ∷ (length l - 1) ∷ []) (c.requires.ranges ∙ ap boundaries_of is)
    ∙ (fields_are c.in-Custom.field-0 (subst (λ (s : Spec). spec_fault s ≡ None) is c.requires.lawful) ∙ ap spec_fields (sym is)))
