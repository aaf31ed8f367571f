use Rattle.segment_invariant.proofs.Prelude.Std.{cast_signed, cast_unsigned, w64, slice_set, rules, ◌%◌, ◌^◌, ◌≡◌, ◌+◌, ℕ, ap, ◌∙◌}
use Rattle.segment_invariant.proofs.Prelude.Machine.{word_at}
use Rattle.hist_core.proofs.Left.Adds.{sums_less}
use Rattle.hist_core.proofs.AddCall.Sums.{sums_so}
use Rattle.hist_core.proofs.add.Add.sum.Goals as goal

pub returns-clause-steps : goal.returns-clause-steps
returns-clause-steps c = λ shape known amid a long is.
    let amount = c.args.self.now.amount in
    let whole : cast_signed w64 (cast_unsigned w64 amount) ≡ amount = search rules in
    let is_number : c.cast_unsigned.result ≡ cast_unsigned w64 amount = c.cast_unsigned.ensures ∙ ap (cast_unsigned w64) whole in
    sums_so shape known amid c.args.self.now a c.args.words.now is c.requires.next c.fetch_add.new.words
    (c.fetch_add.ensures ∙ ap (λ (n : ℕ). slice_set c.args.words.now (c.args.self.now.histogram + 11) ((word_at c.args.words.now (c.args.self.now.histogram + 11) + n) % 2 ^ 64)) is_number)

pub returns-clause-less : goal.returns-clause-less
returns-clause-less c = sums_less c.args.self.now c.args.words.now c.fetch_add.new.words c.requires.next
