-- The keys are put one after the other.
use Rattle.std.proofs.Common.{◌<◌, ◌^◌, ℕ, get_or, subst, sym, arith, rules}
use Rattle.std.specs.List.{All, range_with_len}
use Rattle.std.proofs.lemmas.List.Elements.{All-from_get_or, All-map}
use Rattle.reading_sums.specs.declared.key.KeySum.{KeySum}
use Rattle.reading_sums.specs.Keys.{key_from}
use Rattle.reading_sums.proofs.Ranges.{map-range-push}
use Rattle.reading_sums.proofs.key.keys_of.Goals as goal

pub loop-i-preserved : goal.loop-i-preserved
loop-i-preserved c =
    map-range-push (key_from c.args.counts.now c.args.marks.now) c.loop-i.i _ _ _ c.loop-i.invariant c.in_ok-push.ensures.items (search rules)

pub returns-clause-range : goal.returns-clause-range
returns-clause-range c =
    let P : KeySum → Type 0 = λ key. key.marks < 2 ^ 64 in
    let key : ℕ → KeySum = key_from c.args.counts.now c.args.marks.now in
    let each : (i : ℕ) → P (key i) = λ i. let fits : get_or c.args.marks.now i 0 < 2 ^ 64 = omega (arith, c.type_inv.marks i) in fits in
    subst (All P) (sym c.loop-i.invariant) (All-map P key (range_with_len 0 c.loop-i.i)
    (All-from_get_or (λ i. P (key i)) (range_with_len 0 c.loop-i.i) 0 (λ k within. each (get_or (range_with_len 0 c.loop-i.i) k 0))))
