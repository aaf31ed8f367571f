use Rattle.std.proofs.Common.{◌≡◌, ℕ, ◌*◌, ◌/◌, ◌^◌, ◌<◌, subst, arith}
use Rattle.std.proofs.Math.Nat.{div-lt_iff_lt-mul, pow-suc}
use Rattle.std.proofs.lemmas.Nat.{leading_top, pow_pos}
use Rattle.reading_shows.specs.Heights.{halvings}
use Rattle.reading_shows.proofs.heights.log_of.Goals as goal

-- units over the power of two that is not above them are below 2
part-small : (units : ℕ) → 0 < units → units < 2 ^ 64 → units * 256 / 2 ^ halvings units < 512
part-small units some fits =
    let top = leading_top 64 units some fits in
    let j = top.0 in
    let is : j ≡ halvings units = omega (arith, top.1) in
    let twice : units < 2 ^ j * 2 = subst (λ n. units < n) (pow-suc 2 j) top.3 in
    let below : units * 256 < 512 * 2 ^ j = omega (arith, twice) in
    subst (λ e. units * 256 / 2 ^ e < 512) is ((div-lt_iff_lt-mul (pow_pos j)).1 below)

pub overflow_cast-result : goal.overflow_cast-result
overflow_cast-result c =
    let small = part-small c.args.units (omega (arith, c.if-units-eq0.false)) (omega (arith, c.ranges.units.fits)) in
    let part : c.from.result * 256 / 2 ^ c.halvings-halvings.result < 512 = rw (c.from.ensures, c.halvings-halvings.ensures) small in
    omega (arith, part)

pub overflow_add-result : goal.overflow_add-result
overflow_add-result c =
    let small = part-small c.args.units (omega (arith, c.if-units-eq0.false)) (omega (arith, c.ranges.units.fits)) in
    let part : c.from.result * 256 / 2 ^ c.halvings-halvings.result < 512 = rw (c.from.ensures, c.halvings-halvings.ensures) small in
    let few : c.from-2.result < 64 = omega (arith, c.from-2.ensures, c.halvings-halvings.ensures) in
    omega (arith, part, few)
