use Rattle.std.proofs.Common.{◌≡◌, ◌≤◌, ◌++◌, ◌-◌, List, ℕ, length, take, drop, sym, ap, subst, ◌∙◌}
use Rattle.std.specs.Prelude.{None, OnOk}
use Rattle.bucket_ranges.specs.declared.spec.Spec.{Spec}
use Rattle.bucket_ranges.specs.Ranges.{boundaries_of}
use Rattle.bucket_ranges.specs.Spec.{spec_fault, spec_ranges}
use Rattle.segment_calls.proofs.Payloads.{three_at_least, inner_are}
use Rattle.segment_calls.proofs.asked.push_spec_ranges.Goals as goal

pub push_ranges-requires : goal.push_ranges-requires
push_ranges-requires c =
    let is = c.in-Custom.is in
    subst (λ (l : List ℕ). 3 ≤ length l) (sym (c.requires.ranges ∙ ap boundaries_of is))
    (three_at_least c.in-Custom.field-0 (subst (λ (s : Spec). spec_fault s ≡ None) is c.requires.lawful))

pub returns-in-Custom : goal.returns-in-Custom
returns-in-Custom c =
    let is = c.in-Custom.is in
    let same : take (length c.args.ranges.now - 2) (drop 1 c.args.ranges.now) ≡ spec_ranges c.args.spec.now =
    ap (λ (l : List ℕ). take (length l - 2) (drop 1 l)) (c.requires.ranges ∙ ap boundaries_of is)
    ∙ (inner_are c.in-Custom.field-0 (subst (λ (s : Spec). spec_fault s ≡ None) is c.requires.lawful) ∙ ap spec_ranges (sym is)) in
    subst (λ (l : List ℕ). OnOk c.push_ranges.result (c.push_ranges.new.words.items ≡ c.args.words.now.items ++ l)) same c.push_ranges.ensures
