use Rattle.std.proofs.Common.{◌≡◌, ◌∙◌, ◌==◌, Bool, None, Some, Option, sym, ap, eq-eqb, if◌then◌else◌}
use Rattle.segment_image.specs.Words.{word_at}
use Rattle.alloc_core.specs.declared.attempt.Attempt.{Attempt}
use Rattle.stepped.specs.declared.lines.Miss.{Miss}
use Rattle.stepped.specs.Replay.{miss_in, next_miss}
use Rattle.stepped.proofs.replay.Replay.next_miss.Goals as goal

pub returns-then-found-attempt : goal.returns-then-found-attempt
returns-then-found-attempt c =
    let words = c.args.self.now.world.world_state.words.items in let attempt = c.in-Some.attempt in
    let same = sym (c.word-found.ensures ∙ ap (λ w. word_at w attempt.at) c.words.ensures.words) ∙ c.if-found-attempt.true in
    sym (ap (λ (a : Option Attempt). miss_in words a) (sym c.next_exchange.ensures ∙ c.in-Some.is)
    ∙ ap (λ (b : Bool). if b then None else Some (record { at = attempt.at; wanted = attempt.wanted; found = word_at words attempt.at })) (eq-eqb (word_at words attempt.at) attempt.wanted same))
