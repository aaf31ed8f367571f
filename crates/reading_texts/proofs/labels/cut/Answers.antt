use Rattle.std.proofs.Common.{◌∙◌, ◌+◌, ◌-◌, ◌≤◌, eqb, eq-eqb, length, take, drop, get_or, ap, sym, arith, length-drop}
use Rattle.std.specs.List.{position_or_len}
use Rattle.std.proofs.lemmas.List.{take_all, drop_all}
use Rattle.std.proofs.lemmas.List.Sums.{position_or_len_is}
use Rattle.reading_texts.proofs.labels.cut.Goals as goal

pub returns-then-byte-at-clause-before : goal.returns-then-byte-at-clause-before
returns-then-byte-at-clause-before c =
    let xs = c.args.bytes.now in
    let place = position_or_len_is (λ b. eqb b c.args.at) xs c.loop-i.i 0 (omega arith) c.loop-i.invariant (λ _. eq-eqb (get_or xs c.loop-i.i 0) c.args.at c.if-byte-at.true) in
    ap (λ n. take n xs) (sym place)

pub returns-then-byte-at-clause-behind : goal.returns-then-byte-at-clause-behind
returns-then-byte-at-clause-behind c =
    let xs = c.args.bytes.now in
    let place = position_or_len_is (λ b. eqb b c.args.at) xs c.loop-i.i 0 (omega arith) c.loop-i.invariant (λ _. eq-eqb (get_or xs c.loop-i.i 0) c.args.at c.if-byte-at.true) in
    take_all (length xs - (c.loop-i.i + 1)) (drop (c.loop-i.i + 1) xs) (omega (arith, length-drop (c.loop-i.i + 1) xs)) ∙ ap (λ n. drop (n + 1) xs) (sym place)

pub returns-clause-before : goal.returns-clause-before
returns-clause-before c =
    let xs = c.args.bytes.now in
    let past : length xs ≤ c.loop-i.i = omega (arith, c.loop-i-test.false) in
    let place = position_or_len_is (λ b. eqb b c.args.at) xs (length xs) 0 (omega arith) (λ k h. c.loop-i.invariant k (omega (arith, h, past))) (λ h. absurd (omega (arith, h))) in
    sym (take_all (length xs) xs (omega arith)) ∙ ap (λ n. take n xs) (sym place)

pub returns-clause-behind : goal.returns-clause-behind
returns-clause-behind c =
    let xs = c.args.bytes.now in
    let past : length xs ≤ c.loop-i.i = omega (arith, c.loop-i-test.false) in
    let place = position_or_len_is (λ b. eqb b c.args.at) xs (length xs) 0 (omega arith) (λ k h. c.loop-i.invariant k (omega (arith, h, past))) (λ h. absurd (omega (arith, h))) in
    sym (drop_all (position_or_len (λ b. eqb b c.args.at) xs + 1) xs (omega (arith, place)))
