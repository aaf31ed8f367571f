use Rattle.std.proofs.Common.{ℕ, refl, ap, true≢false, ⊎_elim, arith}
use Rattle.segment_machine.specs.declared.place.Place.{Place}
use Rattle.segment_machine.specs.declared.place.Place.TheVariants.{Moving}
use Rattle.segment_machine.specs.Refused.{look}
use Rattle.segment_machine.proofs.laws.units_remembered.Goals as goal

-- the bucket and the units that are moving
abbrev bucket_in : Place → ℕ
bucket_in (Moving look bucket units) = bucket
bucket_in _ = 0

abbrev units_in : Place → ℕ
units_in (Moving look bucket units) = units
units_in _ = 0

pub returns : goal.returns
returns c = (
  (look 9223372036854775809 32, refl, refl),
  λ t. let units = ap units_in t.1 in omega (arith, units),
  λ t. let bucket = ap bucket_in t.1 in omega (arith, bucket),
  λ t. ⊎_elim (λ off. cc off.2.0) (λ sample. true≢false sample.1) t.5,
  λ t. true≢false t.0,
  λ t. true≢false t.0,
  λ t. true≢false t.0,
  λ t. true≢false t.3,
)
