use Rattle.std.proofs.Common.{List, ℕ}
use Rattle.std.specs.Io.KnownBytes.{Appends}
use Rattle.segment_image.specs.Watched.{watched_inner}
use Rattle.segment_image.specs.Words.{bytes_of_words}
use Rattle.stepped.specs.declared.lines.LinePlace.{LinePlace}
use Rattle.stepped.specs.Lines.{Deed}
use Rattle.stepped.specs.Replay.{Replays}
use Rattle.stepped.proofs.Written.{words_behind}
use Rattle.stepped.proofs.run.show_image.Goals as goal

pub returns : goal.returns
returns g c = record {
  shown = words_behind c.write_image.result
      (λ (done : List (LinePlace × Deed)). Replays 2 c.args.orders.now c.args.replay.now.left c.args.replay.now.world.world_state c.run.new.self.world.world_state c.run.new.self.left done)
      (λ (words : List ℕ). Appends (g.W.Write.contents (watched_inner c.args.writer.now)) (g.W.Write.contents (watched_inner c.write_image.new.writer)) (bytes_of_words words))
      c.in_ok-run.ensures.replays.0 c.words.result.now c.run.new.self.world.world_state.words.items c.in_ok-run.ensures.replays.1 c.words.ensures.words c.write_image.ensures.bytes;
}
