use Rattle.std.proofs.Common.{◌≡◌, ◌+◌, ◌-◌, ◌∷◌, [], ◌++◌, ◌∙◌, ap, sym, length, replicate, arith}
use Rattle.std.specs.Fmt.{decimal}
use Rattle.std.proofs.lemmas.List.{replicate_more}
use Rattle.recording_folders.proofs.name.numbered.Goals as goal

pub loop-preserved : goal.loop-preserved
loop-preserved c =
    let zeros = c.loop.counter - length c.as_bytes-digits.result.now in
    let one_more : zeros + 1 ≡ c.loop.counter + 1 - length c.as_bytes-digits.result.now = omega (arith, c.loop.auto.counter) in
    record {
      written = c.in_ok-push.ensures.items ∙ ap (λ s. s ++ 48 ∷ []) c.loop.invariant.written ∙ replicate_more zeros 48 ∙ ap (λ n. replicate n 48) one_more;
      within = omega (arith, c.loop-test.true);
    }

pub returns : goal.returns
returns c =
    let digits = c.as_bytes-digits.ensures.value ∙ c.format.ensures.text in
    let zeros : c.loop.counter - length c.as_bytes-digits.result.now ≡ 10 - length (decimal c.args.number) =
    omega (arith, c.loop.invariant.within, c.loop-test.false, c.loop.auto.counter, ap length digits) in
    c.in_ok-extend_from_slice-2.ensures.items
    ∙ ap (λ s. s ++ c.args.ending.now)
    (c.in_ok-extend_from_slice.ensures.items ∙ ap (λ s. s ++ c.as_bytes-digits.result.now) (c.loop.invariant.written ∙ ap (λ n. replicate n 48) zeros)
    ∙ ap (λ s. replicate (10 - length (decimal c.args.number)) 48 ++ s) digits)
