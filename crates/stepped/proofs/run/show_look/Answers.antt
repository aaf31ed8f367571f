use Rattle.std.proofs.Common.{List, ℕ, subst}
use Rattle.std.specs.Io.KnownBytes.{Appends}
use Rattle.segment_image.specs.Watched.{watched_inner}
use Rattle.segment_image.specs.Words.{bytes_of_words}
use Rattle.stepped.specs.Look.{GivesImage, Look, TakesLook, begun_look, look_of, no_look}
use Rattle.stepped.proofs.Written.{image_behind}
use Rattle.stepped.proofs.run.show_look.Goals as goal

pub returns : goal.returns
returns g c =
    let old = c.args.replay.now in let new = c.look_on.new.self in let copies = look_of c.look_on.new.copies in let image = c.in_ok-image.image in
    let took = subst (λ (look : Look). TakesLook c.args.orders.now old.left old.world.world_state new.world.world_state new.left look copies) c.none-copies.ensures
    c.in_ok-look_on.ensures.looks in
    let is = subst (λ (words : List ℕ). GivesImage (begun_look copies 3 words) image) c.words.ensures.words c.in_ok-image.ensures in record {
      shown = image_behind c.write_image.result (λ (look : Look). TakesLook c.args.orders.now old.left old.world.world_state new.world.world_state new.left no_look look)
          (λ (look : Look) (words : List ℕ). GivesImage (begun_look look 3 new.world.world_state.words.items) words)
          (λ (words : List ℕ). Appends (g.W.Write.contents (watched_inner c.args.writer.now)) (g.W.Write.contents (watched_inner c.write_image.new.writer)) (bytes_of_words words))
          copies c.words-2.result.now image took is c.words-2.ensures c.write_image.ensures.bytes;
    }
