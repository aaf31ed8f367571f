use Rattle.segment_invariant.proofs.Prelude.Std.{cast_signed, cast_unsigned, w64, slice_set, ◌≡◌, ◌+◌, ◌%◌, ◌^◌, ℕ, arith, ap, ◌∙◌, rules}
use Rattle.segment_invariant.proofs.Prelude.Machine.{word_at}
use Rattle.hist_core.proofs.BatchCall.Finals.{adds_sum}
use Rattle.hist_core.proofs.BatchCall.Batching.{some_inside, sums_there}
use Rattle.hist_core.proofs.batch.Batch.add_sum.Goals as goal

pub overflow_add-at : goal.overflow_add-at
overflow_add-at c = let inside = some_inside c.args.self.now c.args.words.now c.requires.stands in omega (arith, inside.0, inside.1)

pub fetch_add-requires : goal.fetch_add-requires
fetch_add-requires c = let inside = some_inside c.args.self.now c.args.words.now c.requires.stands in omega (arith, inside.0)

pub returns-clause-steps : goal.returns-clause-steps
returns-clause-steps c = λ shape known a long is.
    let batch = c.args.self.now in
    let whole : cast_signed w64 (cast_unsigned w64 batch.sum) ≡ batch.sum = search rules in
    let is_number : c.cast_unsigned.result ≡ cast_unsigned w64 batch.sum = c.cast_unsigned.ensures ∙ ap (cast_unsigned w64) whole in
    adds_sum shape known batch a c.args.words.now is (sums_there shape known batch a is c.requires.counted) c.fetch_add.new.words
    (c.fetch_add.ensures ∙ ap (λ (n : ℕ). slice_set c.args.words.now (batch.histogram + 11) ((word_at c.args.words.now (batch.histogram + 11) + n) % 2 ^ 64)) is_number)
