-- The keys of what the words read as are those of the histograms that are read from the list.
use Rattle.std.proofs.Common.{◌≡◌, ℕ, List, length, MatchResult, Result, Ok, Err, refl, subst, sym, ap, ◌∙◌}
use Rattle.std.specs.Prelude.{nat_lt, sum_by}
use Rattle.segment_image.specs.declared.fault.ImageFault.{ImageFault}
use Rattle.segment_image.specs.declared.head.SegmentHead.{SegmentHead}
use Rattle.bucket_ranges.specs.Reading.{Histogram, read_records, reading_along}
use Rattle.image_reader.specs.Keys.{HasMoreKeys}
use Rattle.image_reader.specs.Survey.{hist_at, keys_at}
use Rattle.image_reader.proofs.Surveys.{sum_by-made}
use Rattle.image_reader.proofs.reader.has_more_keys.Goals as goal

pub returns-in-Ok : goal.returns-in-Ok
returns-in-Ok c =
    let words = c.args.words.now in
    let head = c.in_ok-head.head in
    let survey = c.in-Ok.survey in
    let references : List ℕ = survey.references.items in
    let keys : ℕ → ℕ = keys_at words head references in
    let same : sum_by keys survey.hists.items ≡ sum_by (λ (hist : Histogram). length hist.counts) (reading_along words head references).hists =
    ap (sum_by keys) c.in-Ok.ensures.hists_are
    ∙ sym (sum_by-made (λ (hist : Histogram). length hist.counts) (hist_at words head references) (read_records words head references)) in
    record {
      answer = subst
          (λ (outer : Result SegmentHead ImageFault). MatchResult outer (λ head. HasMoreKeys words head c.args.most c.has_more_keys.result)
          (λ fault. Ok c.has_more_keys.result ≡ Err fault)) c.in_ok-head.ensures
          (reading_along words head references, (references, c.in-Ok.ensures.listed, refl), c.has_more_keys.ensures ∙ ap (nat_lt c.args.most) same);
    }
