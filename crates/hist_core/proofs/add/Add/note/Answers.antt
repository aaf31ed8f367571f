use Rattle.segment_invariant.proofs.Prelude.Std.{◌∙◌, ◌+◌, ◌%◌, ◌^◌, ℕ, ap, slice_set}
use Rattle.segment_invariant.proofs.Prelude.Machine.{word_at}
use Rattle.hist_core.proofs.AddCall.Redundants.{notes_so}
use Rattle.hist_core.proofs.add.Add.note.Goals as goal

pub returns-clause-steps : goal.returns-clause-steps
returns-clause-steps c = λ shape known amid a long is.
    notes_so shape known amid c.args.self.now a c.args.words.now is c.requires.next c.fetch_add.new.words
    (c.fetch_add.ensures ∙ ap (λ (n : ℕ). slice_set c.args.words.now (c.args.self.now.histogram + 13) ((word_at c.args.words.now (c.args.self.now.histogram + 13) + n) % 2 ^ 64)) c.from.ensures)
