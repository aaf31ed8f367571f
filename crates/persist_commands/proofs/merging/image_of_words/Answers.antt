use Rattle.std.proofs.Common.{◌≡◌, ◌<◌, ◌^◌, All, Ok, refl, sym, ◌∙◌, subst, arith}
use Rattle.std.proofs.lemmas.Grind.{get_or_default_zero}
use Rattle.segment_image.specs.Head.{header_of}
use Rattle.segment_image.specs.declared.head.SegmentHead.{SegmentHead}
use Rattle.bucket_ranges.specs.Reading.{IsReading}
use Rattle.image_reader.specs.Views.{reading_view}
use Rattle.segment_image.specs.Words.{bytes_of_words}
use Rattle.std.proofs.lemmas.Result.{err_from_is_err_and}
use Rattle.persist_report_core.proofs.Answering.{header_taken}
use Rattle.persist_commands.proofs.Headers.{header_cause}
use Rattle.persist_commands.proofs.merging.image_of_words.Goals as goal

pub returns-clause-image : goal.returns-clause-image
returns-clause-image c =
    let all = c.args.words.now in
    let words = c.image_in-image.result.now in
    let fit : All (λ word. word < 2 ^ 64) all = λ k d h. rw (get_or_default_zero all k d h) (omega (arith, c.type_inv.words k)) in
    let taken = header_taken (λ head reading. IsReading words head (reading_view reading)) (header_of words) c.read.result c.in_ok-reading.reading c.in_ok-reading.was c.read.ensures.answer in
    let head_is : header_of words ≡ Ok c.in_ok-head.head = sym c.header.ensures ∙ c.in_ok-head.was in
    let same : taken.0 ≡ c.in_ok-head.head = cc (taken.1, head_is) in
    record {
      words = words;
      words_are = record { all = all; fit = fit; bytes_are = refl; image_is = c.image_in-image.ensures };
      head_is = head_is;
      reading_is = subst (λ (head : SegmentHead). IsReading words head (reading_view c.in_ok-reading.reading)) same taken.2;
    }

pub returns-in_err-head-clause-cause : goal.returns-in_err-head-clause-cause
returns-in_err-head-clause-cause c =
    let p = err_from_is_err_and c.from_residual.result c.from_residual.ensures.1 in
    let all = c.args.words.now in
    let words = c.image_in-image.result.now in
    let fit : All (λ word. word < 2 ^ 64) all = λ k d h. rw (get_or_default_zero all k d h) (omega (arith, c.type_inv.words k)) in
    rw (p.1, p.2)
    (header_cause (bytes_of_words all) words c.in_err-head.field-0.0 (record { all = all; fit = fit; bytes_are = refl; image_is = c.image_in-image.ensures }) (sym c.header.ensures ∙ c.in_err-head.was))
