use Rattle.segment_invariant.proofs.Prelude.Std.{rules, sym, ap, ◌∙◌, ◌≡◌, ◌+◌, ℕ, cast_signed, cast_unsigned, w64, slice_set}
use Rattle.segment_invariant.proofs.Prelude.Machine.{word_at}
use Rattle.hist_core.proofs.DeltaCall.Sums.{difference, swaps_so}
use Rattle.hist_core.proofs.delta_call.DeltaCall.swap_sum.Goals as goal

pub returns-clause-steps : goal.returns-clause-steps
returns-clause-steps c = λ shape known earlier a long order is.
    let sum = c.args.sum in
    let whole : cast_signed w64 (cast_unsigned w64 sum) ≡ sum = search rules in
    swaps_so shape known earlier c.args.self.now a c.args.words.now is sum c.requires.next order _
    (λ learned.
    difference sum c.cast_signed.result (cast_signed w64 (word_at c.args.words.now (known.reference + 12))) whole (search rules) (search rules)
    (c.cast_signed.ensures ∙ ap (cast_signed w64) (c.swap-mark.ensures.found ∙ ap (λ (h : ℕ). word_at c.args.words.now (h + 12)) (sym is.reference))) learned.2)
    c.swap-mark.new.words (c.swap-mark.ensures.words ∙ ap (λ (n : ℕ). slice_set c.args.words.now (c.args.self.now.histogram + 12) n) (c.cast_unsigned.ensures ∙ ap (cast_unsigned w64) whole))
