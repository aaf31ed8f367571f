use Rattle.std.proofs.Common.{◌≡◌, ℕ, List, ◌++◌, sym, subst}
use Rattle.std.specs.Io.KnownBytes.{Appends}
use Rattle.std.proofs.lemmas.Result.{err_from_is_err_and}
use Rattle.segment_image.specs.Watched.{has_failed, watched_inner}
use Rattle.segment_image.specs.Words.{bytes_of_words}
use Rattle.image_reader.specs.Views.{reading_view}
use Rattle.segment_merge.specs.Image.{IsMergedImage}
use Rattle.persist_report_core.proofs.Answering.{untouched, write_told}
use Rattle.persist_commands.proofs.MergeOutcomes.{first_sound, merge_cause, not_failed, reads_well, second_cause, write_cause, written}
use Rattle.persist_commands.proofs.merging.merge_files.Goals as goal

pub returns-in_err-second-clause-cause : goal.returns-in_err-second-clause-cause
returns-in_err-second-clause-cause g c =
    let p = err_from_is_err_and c.from_residual-in_err-second.result c.from_residual-in_err-second.ensures.1 in
    rw (p.1, p.2)
    (second_cause (g.A.Read.remaining (watched_inner c.args.base.now)) (g.B.Read.remaining (watched_inner c.args.dead.now)) c.in_ok-first.first.head
    (reading_view c.in_ok-first.first.reading) c.in_err-second.field-0.0 c.in_ok-first.ensures.image c.in_err-second.ensures.cause)

pub returns-in_err-image-clause-cause : goal.returns-in_err-image-clause-cause
returns-in_err-image-clause-cause g c =
    let p = err_from_is_err_and c.from_residual-in_err-image.result c.from_residual-in_err-image.ensures.1 in
    rw (p.1, p.2)
    (merge_cause (g.A.Read.remaining (watched_inner c.args.base.now)) (g.B.Read.remaining (watched_inner c.args.dead.now)) c.in_ok-first.first.head c.in_ok-second.second.head
    (reading_view c.in_ok-first.first.reading) (reading_view c.in_ok-second.second.reading) c.in_err-image.field-0.0 c.in_ok-first.ensures.image c.in_ok-second.ensures.image
    c.in_err-image.ensures.fault)

pub returns-clause-image : goal.returns-clause-image
returns-clause-image g c =
    written c.write_image.result (g.A.Read.remaining (watched_inner c.args.base.now)) (g.B.Read.remaining (watched_inner c.args.dead.now))
    (λ words. Appends (g.W.Write.contents (watched_inner c.args.out.now)) (g.W.Write.contents (watched_inner c.write_image.new.writer)) (bytes_of_words words))
    c.words.result.now c.in_ok-first.first.head c.in_ok-second.second.head (reading_view c.in_ok-first.first.reading) (reading_view c.in_ok-second.second.reading)
    c.in_ok-first.ensures.image c.in_ok-second.ensures.image
    (subst (λ (words : List ℕ). IsMergedImage c.in_ok-first.first.head
    ((reading_view c.in_ok-first.first.reading).hists ++ (reading_view c.in_ok-second.second.reading).hists) words) (sym c.words.ensures) c.in_ok-image.ensures.image)
    c.write_image.ensures.ok

pub returns-clause-cause : goal.returns-clause-cause
returns-clause-cause g c =
    write_cause c.write_image.result (g.A.Read.remaining (watched_inner c.args.base.now)) (g.B.Read.remaining (watched_inner c.args.dead.now)) c.write_image.ensures.err

pub returns-clause-read : goal.returns-clause-read
returns-clause-read g c =
    reads_well c.write_image.result (has_failed c.read_image.new.reader) (has_failed c.read_image-2.new.reader) c.write_image.ensures.err
    (not_failed c.read_image.result c.in_ok-first.first (has_failed c.read_image.new.reader) c.in_ok-first.was c.read_image.ensures.read)
    (not_failed c.read_image-2.result c.in_ok-second.second (has_failed c.read_image-2.new.reader) c.in_ok-second.was c.read_image-2.ensures.read)

pub returns-clause-write : goal.returns-clause-write
returns-clause-write g c = write_told c.write_image.result (has_failed c.write_image.new.writer) c.write_image.ensures.failed c.write_image.ensures.err

pub returns-clause-untouched : goal.returns-clause-untouched
returns-clause-untouched g c = untouched c.write_image.result (c.write_image.new.writer ≡ c.args.out.now) c.write_image.ensures.err

pub returns-in_err-second-clause-base_first : goal.returns-in_err-second-clause-base_first
returns-in_err-second-clause-base_first g c = λ failed.
    first_sound c.read_image.result c.in_ok-first.first (has_failed c.read_image.new.reader) (g.A.Read.remaining (watched_inner c.args.base.now)) c.in_ok-first.first.head
    (reading_view c.in_ok-first.first.reading) c.in_ok-first.was c.read_image.ensures.read c.in_ok-first.ensures.image

pub returns-in_err-image-clause-base_first : goal.returns-in_err-image-clause-base_first
returns-in_err-image-clause-base_first g c = λ failed.
    first_sound c.read_image.result c.in_ok-first.first (has_failed c.read_image.new.reader) (g.A.Read.remaining (watched_inner c.args.base.now)) c.in_ok-first.first.head
    (reading_view c.in_ok-first.first.reading) c.in_ok-first.was c.read_image.ensures.read c.in_ok-first.ensures.image

pub returns-clause-base_first : goal.returns-clause-base_first
returns-clause-base_first g c = λ failed.
    first_sound c.read_image.result c.in_ok-first.first (has_failed c.read_image.new.reader) (g.A.Read.remaining (watched_inner c.args.base.now)) c.in_ok-first.first.head
    (reading_view c.in_ok-first.first.reading) c.in_ok-first.was c.read_image.ensures.read c.in_ok-first.ensures.image
