use Rattle.std.proofs.Common.{◌≡◌, true, ◌*◌, sym, subst}
use Rattle.bucket_ranges.specs.Scale.{is_scale_value}
use Rattle.bucket_ranges.proofs.Scales.{IsFirstFrom, first-of_distance}
use Rattle.bucket_ranges.proofs.scale.value_from.Goals as goal

-- The least multiple of the distance is the first number of the scale.
pub returns-clause-found : goal.returns-clause-found
returns-clause-found c =
    subst (λ q. is_scale_value c.args.bits (q * c.distance_at-distance.result) ≡ true) (sym c.div_ceil.ensures)
    (first-of_distance c.args.bits c.args.number c.distance_at-distance.result c.distance_at-distance.ensures).found

pub returns-clause-first : goal.returns-clause-first
returns-clause-first c =
    (subst (λ q. IsFirstFrom c.args.bits c.args.number (q * c.distance_at-distance.result)) (sym c.div_ceil.ensures)
    (first-of_distance c.args.bits c.args.number c.distance_at-distance.result c.distance_at-distance.ensures)).first
