use Rattle.std.proofs.Common.{◌<◌, ◌^◌, All, refl, arith}
use Rattle.std.proofs.lemmas.Grind.{get_or_default_zero}
use Rattle.std.proofs.lemmas.Result.{err_from_is_err_and}
use Rattle.segment_image.specs.Words.{bytes_of_words}
use Rattle.segment_image.specs.Head.{header_of}
use Rattle.bucket_ranges.specs.Reading.{IsReading}
use Rattle.image_reader.specs.Views.{reading_view}
use Rattle.persist_report_core.specs.Input.{image_in}
use Rattle.persist_report_core.proofs.Answering.{reading_cause, header_taken}
use Rattle.persist_report_core.proofs.reporting.read_image.Goals as goal

pub returns-in_err-reading-clause-cause : goal.returns-in_err-reading-clause-cause
returns-in_err-reading-clause-cause c =
    let p = err_from_is_err_and c.from_residual.result c.from_residual.ensures.1 in
    let all = c.args.words.now in
    let words = image_in all in
    let fit : All (λ word. word < 2 ^ 64) all = λ k d h. rw (get_or_default_zero all k d h) (omega (arith, c.type_inv.words k)) in
    rw (p.1, p.2)
    (reading_cause (λ head reading. IsReading words head (reading_view reading)) (bytes_of_words all) words c.read.result c.in_err-reading.field-0.0 (record { all = all; fit = fit; bytes_are = refl; image_is = refl }) c.in_err-reading.was (rw c.image_in.ensures at c.read.ensures.answer))

pub returns-clause-reading : goal.returns-clause-reading
returns-clause-reading c =
    let all = c.args.words.now in
    let words = image_in all in
    let fit : All (λ word. word < 2 ^ 64) all = λ k d h. rw (get_or_default_zero all k d h) (omega (arith, c.type_inv.words k)) in
    let taken = header_taken (λ head reading. IsReading words head (reading_view reading)) (header_of words) c.read.result c.in_ok-reading.reading c.in_ok-reading.was (rw c.image_in.ensures at c.read.ensures.answer) in
    record { words = words; words_are = record { all = all; fit = fit; bytes_are = refl; image_is = refl }; head = taken.0; head_is = taken.1; reading_is = taken.2 }
