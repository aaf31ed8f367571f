use Rattle.std.proofs.Common.{◌≡◌, ◌∙◌, ◌++◌, length, ap, sym, arith}
use Rattle.std.specs.List.{flat_map, range_with_len}
use Rattle.reading_texts.proofs.Adding.{written-both}
use Rattle.reading_overviews.specs.Numbers.{digit_at}
use Rattle.reading_overviews.proofs.Texts.{texts-more}
use Rattle.reading_overviews.proofs.numbers.put_grouped.Goals as goal

pub loop-i-preserved : goal.loop-i-preserved
loop-i-preserved c =
    let digit = digit_at c.args.digits.now in
    let first = c.args.text.now.items in
    written-both first (flat_map digit (range_with_len 0 c.loop-i.i)) (digit c.loop-i.i) c.loop-i.invariant c.in_ok-put_digit.ensures
    ∙ ap (λ s. first ++ s) (sym (texts-more digit c.loop-i.i))

pub returns : goal.returns
returns c =
    let all : c.loop-i.i ≡ length c.args.digits.now = omega (arith, c.loop-i-test.false, c.loop-i.auto.i-end) in
    c.loop-i.invariant ∙ ap (λ n. c.args.text.now.items ++ flat_map (digit_at c.args.digits.now) (range_with_len 0 n)) all
