use Rattle.std.proofs.Common.{◌≡◌}
use Rattle.segment_image.specs.Head.{head_of}
use Rattle.segment_image.specs.Watched.{watched_inner}
use Rattle.live_segment.specs.Adopted.{IsAdopted}
use Rattle.persist_commands.proofs.Outcomes.{based_so}
use Rattle.persist_commands.proofs.resuming.read_base.Goals as goal

pub returns-clause-base : goal.returns-clause-base
returns-clause-base g c =
    based_so c.adopt_words.result (g.B.Read.remaining (watched_inner c.args.reader.now)) c.in-Ok.words.items (λ words base. IsAdopted words 0 base.segment base.opener)
    (λ words base. base.head ≡ head_of words) c.in-Ok.ensures.words (rw c.deref.ensures.value at c.adopt_words.ensures.base)
