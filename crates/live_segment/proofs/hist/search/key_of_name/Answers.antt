use Rattle.std.proofs.Common.{◌<◌, ◌^◌, ap, subst, ◌∙◌}
use Rattle.std.specs.List.{All}
use Rattle.list_index.specs.Keys.{key_of}
use Rattle.live_segment.proofs.lemmas.Hist.NamesAndSpecs.{letters_are}
use Rattle.live_segment.proofs.hist.search.key_of_name.Goals as goal

pub returns : goal.returns
returns c =
    let (shape, is) = c.requires in
    let same = letters_are shape c.args.asked.now is c.deref.result.now c.deref.ensures.value in (
      is.payload.letters,
      is.payload.spells,
      subst (All (λ w. w < 2 ^ 64)) same c.key_of_words.ensures.small,
      c.key_of_words.ensures.key ∙ ap key_of same,
    )
