use Rattle.std.proofs.Common.{◌≡◌, ◌∙◌, Some, sym, ap}
use Rattle.segment_image.specs.Words.{word_at}
use Rattle.stepped.specs.declared.lines.Load.{Load}
use Rattle.stepped.specs.Replay.{load_in, next_found}
use Rattle.stepped.proofs.replay.Replay.next_found.Goals as goal

pub returns : goal.returns
returns c =
    let words = c.args.self.now.world.world_state.words.items in let at = c.in-Some.at in
    let same = c.word.ensures ∙ ap (λ w. word_at w at) c.words.ensures.words in
    ap (λ value. Some (record { at = at; value = value })) same ∙ sym (ap (load_in words) (sym c.next_load.ensures ∙ c.in-Some.is))
