use Rattle.std.proofs.Common.{ℕ, [], inl, refl, ap, ⊎_elim, arith}
use Rattle.segment_machine.specs.declared.place.Place.{Place}
use Rattle.segment_machine.specs.declared.place.Place.TheVariants.{CountLoaded}
use Rattle.segment_machine.specs.Examples.{known_a}
use Rattle.segment_machine.specs.Refused.{look}
use Rattle.segment_machine.proofs.laws.counts_bound.Goals as goal

-- the count that was loaded
abbrev count_in : Place → ℕ
count_in (CountLoaded look bucket count) = count
count_in _ = 0

pub returns : goal.returns
returns c = (
  (
    omega arith,
    inl (look 9223372036854775809 32, known_a, 0, 9223372036854775809, refl, (refl, (0, omega arith, refl), refl, ([], _, refl, refl)), refl, (λ e. cc e), refl),
  ),
  λ t. ⊎_elim (λ counts. let count = ap count_in counts.4 in omega (arith, count)) (λ sample. cc sample.3) t.1,
)
