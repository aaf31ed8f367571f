use Rattle.std.proofs.Common.{◌≡◌, ◌<◌, ◌^◌, Ok, All, refl, subst, sym, ◌∙◌, arith}
use Rattle.std.proofs.lemmas.Grind.{get_or_default_zero}
use Rattle.std.proofs.lemmas.Result.{err_from_is_err_and}
use Rattle.segment_image.specs.Words.{bytes_of_words}
use Rattle.segment_image.specs.Head.{header_of}
use Rattle.bucket_ranges.specs.Reading.{IsReading}
use Rattle.image_reader.specs.Views.{reading_view}
use Rattle.persist_report_core.specs.Input.{image_in}
use Rattle.persist_report_core.proofs.Answering.{reading_cause, header_taken}
use Rattle.text_forms.proofs.subject.Subject.of_words.Goals as goal

pub returns-in_err-reading-clause-cause : goal.returns-in_err-reading-clause-cause
returns-in_err-reading-clause-cause c =
    let p = err_from_is_err_and c.from_residual.result c.from_residual.ensures.1 in
    let all = c.args.words.now in
    let words = image_in all in
    let fit : All (λ word. word < 2 ^ 64) all = λ k d h. rw (get_or_default_zero all k d h) (omega (arith, c.type_inv.words k)) in
    rw (p.1, p.2)
    (reading_cause (λ head reading. IsReading words head (reading_view reading)) (bytes_of_words all) words c.read.result c.in_err-reading.field-0.0 (record { all = all; fit = fit; bytes_are = refl; image_is = refl }) c.in_err-reading.was (rw c.image_in-image.ensures at c.read.ensures.answer))

pub returns-in-Ok-clause-image : goal.returns-in-Ok-clause-image
returns-in-Ok-clause-image c =
    let all = c.args.words.now in
    let words = image_in all in
    let fit : All (λ word. word < 2 ^ 64) all = λ k d h. rw (get_or_default_zero all k d h) (omega (arith, c.type_inv.words k)) in
    let taken = header_taken (λ head reading. IsReading words head (reading_view reading)) (header_of words) c.read.result c.in_ok-reading.reading c.in_ok-reading.was (rw c.image_in-image.ensures at c.read.ensures.answer) in
    let header_is : c.header.result ≡ header_of words = rw c.image_in-image.ensures at c.header.ensures in
    let head_is : header_of words ≡ Ok c.in-Ok.head = sym header_is ∙ c.in-Ok.is in
    let same : taken.0 ≡ c.in-Ok.head = cc (taken.1, head_is) in
    record {
      words = words;
      words_are = record { all = all; fit = fit; bytes_are = refl; image_is = refl };
      header = c.in-Ok.head;
      header_is = refl;
      image_is = record { head_is = head_is; reading_is = subst (λ head. IsReading words head (reading_view c.in_ok-reading.reading)) same taken.2 };
    }
