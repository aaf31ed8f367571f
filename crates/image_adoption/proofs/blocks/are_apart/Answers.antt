use Rattle.std.proofs.Common.{Bool, false, List, length, get_or, ap, ◌∙◌}
use Rattle.image_reader.proofs.Marks.{unmarked_at}
use Rattle.image_adoption.proofs.blocks.are_apart.Goals as goal

pub take_all-requires-clause-free : goal.take_all-requires-clause-free
take_all-requires-clause-free c word =
    ap (λ (taken : List Bool). get_or taken word false) (c.deref_mut.ensures.value ∙ c.in_ok-taken.ensures.items_if_clones_equal (λ y e. e))
    ∙ unmarked_at (length c.args.words.now) word
