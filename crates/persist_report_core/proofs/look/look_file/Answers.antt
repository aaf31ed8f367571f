-- The look is read, and then written.
use Rattle.std.proofs.Common.{◌≡◌, ◌⊎◌, List, ℕ, true, sym, subst}
use Rattle.std.specs.Prelude.{IfSome}
use Rattle.std.specs.Io.KnownBytes.{Appends}
use Rattle.segment_image.specs.Watched.{has_failed, watched_inner}
use Rattle.segment_image.specs.Words.{bytes_of_words}
use Rattle.persist_report_core.specs.LookFile.{IsLookOfFiles}
use Rattle.persist_report_core.proofs.Answering.{not_told, untouched, write_told}
use Rattle.persist_report_core.proofs.Looks.{look_write_cause, look_written, looks_well}
use Rattle.persist_report_core.proofs.look.look_file.Goals as goal

pub returns-clause-image : goal.returns-clause-image
returns-clause-image g c =
    look_written c.write_image.result (g.A.Read.remaining (watched_inner c.args.first.now)) (g.B.Read.remaining (watched_inner c.args.second.now))
    (g.C.Read.remaining (watched_inner c.args.third.now))
    (λ words. Appends (g.W.Write.contents (watched_inner c.args.out.now)) (g.W.Write.contents (watched_inner c.write_image.new.writer)) (bytes_of_words words))
    c.words.result.now
    (subst (λ (words : List ℕ). IfSome (g.A.Read.remaining (watched_inner c.args.first.now)) (λ one. IfSome (g.B.Read.remaining (watched_inner c.args.second.now)) (λ two.
    IfSome (g.C.Read.remaining (watched_inner c.args.third.now)) (λ three. IsLookOfFiles one two three words)))) (sym c.words.ensures) c.in_ok-image.ensures.look)
    c.write_image.ensures.ok

pub returns-clause-cause : goal.returns-clause-cause
returns-clause-cause g c =
    look_write_cause c.write_image.result (g.A.Read.remaining (watched_inner c.args.first.now)) (g.B.Read.remaining (watched_inner c.args.second.now))
    (g.C.Read.remaining (watched_inner c.args.third.now)) c.write_image.ensures.err

pub returns-clause-read : goal.returns-clause-read
returns-clause-read g c =
    looks_well c.write_image.result ((has_failed c.read_look.new.first ≡ true) ⊎ ((has_failed c.read_look.new.second ≡ true) ⊎ (has_failed c.read_look.new.third ≡ true)))
    c.write_image.ensures.err (not_told c.read_look.result c.in_ok-image.image _ c.in_ok-image.was c.read_look.ensures.read)

pub returns-clause-write : goal.returns-clause-write
returns-clause-write g c = write_told c.write_image.result (has_failed c.write_image.new.writer) c.write_image.ensures.failed c.write_image.ensures.err

pub returns-clause-untouched : goal.returns-clause-untouched
returns-clause-untouched g c = untouched c.write_image.result (c.write_image.new.writer ≡ c.args.out.now) c.write_image.ensures.err
