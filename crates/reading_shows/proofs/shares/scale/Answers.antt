use Rattle.std.proofs.Common.{◌≡◌, ◌∙◌, ℕ, ◌+◌, ◌*◌, ◌^◌, ◌<◌, ◌≤◌, true, false, None, take, get_or, add-one, ap, sym, arith}
use Rattle.std.specs.List.{find, range_with_len}
use Rattle.std.specs.Option.{unwrap_or}
use Rattle.std.proofs.Math.Nat.{mul_assoc, pow-suc}
use Rattle.std.proofs.lemmas.Bool.{le-leb, lt-leb}
use Rattle.std.proofs.lemmas.List.FromFn.{get_or-range_with_len, length-range_with_len}
use Rattle.reading_shows.specs.Shares.{digits_of_mean, has_three}
use Rattle.reading_shows.proofs.Steps.{found_at, unfound-more}
use Rattle.reading_shows.proofs.shares.scale.Goals as goal

power-more : (n : ℕ) → 10 ^ (n + 1) ≡ 10 ^ n * 10
power-more n = ap (λ k. 10 ^ k) (add-one n) ∙ pow-suc 10 n

numbered : (i : ℕ) → i < 23 → get_or (range_with_len 0 23) i 0 ≡ i
numbered i h = get_or-range_with_len 0 23 i 0 h ∙ omega arith

-- the number at which the search ends
ended : (size units i : ℕ) → i < 23 → find (has_three size units) (take i (range_with_len 0 23)) ≡ None → 100 * units ≤ size * 10 ^ i → i ≡ digits_of_mean size units
ended size units i h fewer enough =
    let here = numbered i h in
    let passes : has_three size units (get_or (range_with_len 0 23) i 0) ≡ true = ap (has_three size units) here ∙ le-leb (100 * units) (size * 10 ^ i) enough in
    sym (ap (λ found. unwrap_or found 0) (found_at (has_three size units) (range_with_len 0 23) i 0 (rw length-range_with_len h) fewer passes) ∙ here)

-- it continues after a number that is too small
passed : (size units i : ℕ) → i < 23 → find (has_three size units) (take i (range_with_len 0 23)) ≡ None → size * 10 ^ i < 100 * units
    → find (has_three size units) (take (i + 1) (range_with_len 0 23)) ≡ None
passed size units i h fewer small =
    let fails : has_three size units (get_or (range_with_len 0 23) i 0) ≡ false = ap (has_three size units) (numbered i h) ∙ lt-leb (100 * units) (size * 10 ^ i) small in
    unfound-more (has_three size units) (range_with_len 0 23) i 0 (rw length-range_with_len h) fewer fails

pub returns-then-wanted-scaled : goal.returns-then-wanted-scaled
returns-then-wanted-scaled c = record {
  digits = ended c.args.size c.args.units c.loop-digits.digits (omega (arith, c.loop-digits-test.true)) c.loop-digits.invariant.fewer
      (omega (arith, c.loop-digits.invariant.scaled, c.if-wanted-scaled.true));
  power = c.loop-digits.invariant.power;
  size = c.loop-digits.invariant.scaled;
}

pub loop-digits-preserved : goal.loop-digits-preserved
loop-digits-preserved c =
    let d = c.loop-digits.digits in
    let scaled = c.loop-digits.invariant.scaled in record {
      power = ap (λ n. n * 10) c.loop-digits.invariant.power ∙ sym (power-more d);
      scaled = ap (λ n. n * 10) scaled ∙ (mul_assoc c.args.size (10 ^ d) 10 ∙ ap (λ n. c.args.size * n) (sym (power-more d)));
      below = omega (arith, c.loop-digits.invariant.below);
      fewer = passed c.args.size c.args.units d (omega (arith, c.loop-digits-test.true)) c.loop-digits.invariant.fewer (omega (arith, scaled, c.if-wanted-scaled.false));
    }
