use Rattle.std.proofs.Common.{◌≡◌, ◌∙◌, ◌++◌, map, ap}
use Rattle.std.specs.List.{flat_map}
use Rattle.std.proofs.lemmas.List.Sorted.{All-permutation, IsPermutation-sym}
use Rattle.image_reader.specs.Views.{histogram_view}
use Rattle.image_reader.specs.Readable.{IsReadable}
use Rattle.reading_texts.specs.Text.{histogram_text}
use Rattle.reading_texts.proofs.text.report_text.Goals as goal

pub put_histograms-requires : goal.put_histograms-requires
put_histograms-requires c =
    let hists = map (λ hist. histogram_view hist.now) c.in_ok-hists.hists.items in
    let all = map histogram_view c.args.reading.now.hists.items in
    rw c.deref.ensures.value (All-permutation IsReadable all hists (IsPermutation-sym hists all c.in_ok-hists.ensures.same) c.requires)

pub put_redundants-requires : goal.put_redundants-requires
put_redundants-requires c =
    let hists = map (λ hist. histogram_view hist.now) c.in_ok-hists.hists.items in
    let all = map histogram_view c.args.reading.now.hists.items in
    rw c.deref-2.ensures.value (All-permutation IsReadable all hists (IsPermutation-sym hists all c.in_ok-hists.ensures.same) c.requires)

pub returns : goal.returns
returns c =
    let hists = map (λ hist. histogram_view hist.now) c.in_ok-hists.hists.items in
    let histograms = rw c.deref.ensures.value at c.in_ok-put_histograms.ensures in
    let redundants = rw c.deref-2.ensures.value at c.in_ok-put_redundants.ensures in
    let bad = rw c.deref-3.ensures.value at c.in_ok-put_all_bad.ensures in
    let begun : c.put_histograms.new.text.items ≡ flat_map histogram_text hists = histograms ∙ ap (λ s. s ++ flat_map histogram_text hists) c.new-text.ensures.items in
    (hists, c.in_ok-hists.ensures, cc (begun, c.in_ok-put_flag.ensures, c.in_ok-put_flag-2.ensures, redundants, bad, c.in_ok-put_stopped.ensures))
