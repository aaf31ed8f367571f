-- The words of the inputs have the bytes that the readers had left.
use Rattle.segment_image.specs.Watched.{watched_inner}
use Rattle.segment_image.specs.Words.{bytes_of_words}
use Rattle.persist_report_core.proofs.Looks.{look_known}
use Rattle.persist_report_core.proofs.look.read_look.Goals as goal

pub returns-clause-look : goal.returns-clause-look
returns-clause-look g c =
    look_known c.look_of_words.result (g.A.Read.remaining (watched_inner c.args.first.now)) (g.B.Read.remaining (watched_inner c.args.second.now))
    (g.C.Read.remaining (watched_inner c.args.third.now)) (bytes_of_words c.deref.result.now) (bytes_of_words c.deref-2.result.now)
    (bytes_of_words c.deref-3.result.now) (rw c.deref.ensures.value c.in_ok-one.ensures.words)
    (rw c.deref-2.ensures.value c.in_ok-two.ensures.words) (rw c.deref-3.ensures.value c.in_ok-three.ensures.words) c.look_of_words.ensures.look
