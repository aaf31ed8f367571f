-- At the end the sum is that of all units, and it is a word.
use Rattle.std.proofs.Common.{◌≡◌, ◌<◌, ◌^◌, ℕ, ℤ, List, sum_by, ap, refl, subst, ◌∙◌}
use Rattle.std.proofs.lemmas.List.{take_all}
use Rattle.live_texts.proofs.readable.fit.Goals as goal

pub returns : goal.returns
returns c =
    let counts : List (ℤ × ℕ) = c.args.counts.now in
    let all : c.loop-units.sum ≡ sum_by (λ (count : ℤ × ℕ). count.1) counts =
    c.loop-units.invariant.is ∙ ap (sum_by (λ (count : ℤ × ℕ). count.1)) (take_all c.loop-units.units-index counts c.loop-units-test.false) in
    (λ _. subst (λ (n : ℕ). n < 2 ^ 64) all c.loop-units.invariant.small, λ _. refl)
