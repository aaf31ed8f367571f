use Rattle.std.proofs.Common.{ap, ◌∙◌, ◌++◌, List, ℕ, length, drop, ◌∷◌, []}
use Rattle.segment_calls.proofs.Letters.{zeros_behind}
use Rattle.segment_calls.proofs.asked.word_of.Goals as goal

pub returns : goal.returns
returns c =
    c.whole_word.ensures
    ∙ (ap (λ (l : List ℕ). l ++ drop (length c.args.bytes.now) (0 ∷ 0 ∷ 0 ∷ 0 ∷ 0 ∷ 0 ∷ 0 ∷ 0 ∷ [])) c.copy_from_slice.ensures.after
    ∙ ap (λ (l : List ℕ). c.args.bytes.now ++ l) (zeros_behind (length c.args.bytes.now) c.requires))
