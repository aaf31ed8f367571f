use Rattle.std.proofs.Common.{◌≡◌, List, ℕ, length, ◌++◌, ◌∷◌, [], take, drop, ◌-◌, sym, ap, ◌∙◌, arith, rules}
use Rattle.std.proofs.lemmas.List.{append-nil}
use Rattle.std.specs.Prelude.{slice_index}
use Rattle.segment_calls.proofs.Payloads.{one_range}
use Rattle.segment_calls.proofs.asked.push_ranges.Goals as goal

pub loop-i-init : goal.loop-i-init
loop-i-init c = sym (append-nil c.args.words.now.items)

pub loop-i-preserved : goal.loop-i-preserved
loop-i-preserved c =
    let at = c.loop-i-test.true in let len = c.len-i-end.ensures in
    let r = c.args.ranges.now in let i = c.loop-i.i in
    let small = c.low.type_inv in
    let word : c.from.result ≡ slice_index r i = c.from.ensures ∙ (c.unsigned_abs.ensures.value ∙ search (rules)) in
    c.in_ok-push.ensures.items ∙ (ap (λ (p : List ℕ × ℕ). p.0 ++ p.1 ∷ []) (λ k. (c.loop-i.invariant k, word k))
    ∙ one_range r c.args.words.now.items i (omega (arith, c.loop-i.auto.i)) (omega (arith, at, len)))

pub returns : goal.returns
returns c =
    let end = c.loop-i-test.false in let len = c.len-i-end.ensures in
    let all : c.loop-i.i - 1 ≡ length c.args.ranges.now - 2 = omega (arith, end, len, c.loop-i.auto.i, c.loop-i.auto.i-end, c.requires) in
    c.loop-i.invariant ∙ ap (λ (n : ℕ). c.args.words.now.items ++ take n (drop 1 c.args.ranges.now)) all
