use Rattle.std.proofs.Common.{◌≡◌, ◌∙◌, List, ℕ, [], ◌++◌, map, ap, refl, append_assoc, subst, sym}
use Rattle.std.proofs.lemmas.List.{append-nil}
use Rattle.std.proofs.lemmas.List.Sorted.{All-permutation, IsPermutation-sym}
use Rattle.image_reader.specs.Views.{histogram_view, reading_view}
use Rattle.image_reader.specs.Readable.{IsReadable}
use Rattle.reading_texts.specs.Labels.{label_view}
use Rattle.reading_texts.specs.Exporting.{family_text, units_family, sparse_family, bad_family, flag_family, families_of}
use Rattle.reading_texts.specs.Series.{HasEachSeriesOnce, all_samples}
use Rattle.reading_texts.proofs.Adding.{written-behind}
use Rattle.reading_texts.proofs.ExportSeries.{export-once}
use Rattle.reading_texts.proofs.ReadHists.{AreRead-from, AreRead-sorted}
use Rattle.reading_texts.proofs.exporting.export_text.Goals as goal

four : (a b c d : List ℕ) → ((a ++ b) ++ c) ++ d ≡ a ++ (b ++ (c ++ (d ++ [])))
four a b c d = simp (append_assoc, append-nil)

pub put_units-requires : goal.put_units-requires
put_units-requires c =
    let hists = map (λ hist. histogram_view hist.now) c.in_ok-hists.hists.items in
    let all = map histogram_view c.args.reading.now.hists.items in
    rw c.deref.ensures.value (All-permutation IsReadable all hists (IsPermutation-sym hists all c.in_ok-hists.ensures.same) c.requires)

pub put_sparse_total-requires : goal.put_sparse_total-requires
put_sparse_total-requires c =
    let hists = map (λ hist. histogram_view hist.now) c.in_ok-hists.hists.items in
    let all = map histogram_view c.args.reading.now.hists.items in
    rw c.deref-2.ensures.value (All-permutation IsReadable all hists (IsPermutation-sym hists all c.in_ok-hists.ensures.same) c.requires)

pub returns-clause-text : goal.returns-clause-text
returns-clause-text c =
    let hists = map (λ hist. histogram_view hist.now) c.in_ok-hists.hists.items in
    let line_labels = map label_view c.args.line_labels.now in
    let units = rw c.deref.ensures.value at c.in_ok-put_units.ensures in
    let sparse = rw c.deref-2.ensures.value at c.in_ok-put_sparse_total.ensures in
    let begun = units ∙ ap (λ s. s ++ family_text (units_family c.args.prefix.now line_labels hists)) c.new-text.ensures.items in
    let values = written-behind _ _ begun sparse in
    let bad = written-behind _ _ values c.in_ok-put_bad.ensures in
    let flags = written-behind _ _ bad c.in_ok-put_flags.ensures in (
      families_of c.args.prefix.now line_labels hists (reading_view c.args.reading.now),
      (hists, c.in_ok-hists.ensures, refl),
      flags
          ∙ four (family_text (units_family c.args.prefix.now line_labels hists)) (family_text (sparse_family c.args.prefix.now line_labels hists))
          (family_text (bad_family c.args.prefix.now line_labels (reading_view c.args.reading.now))) (family_text (flag_family c.args.prefix.now line_labels (reading_view c.args.reading.now))),
    )

pub returns-clause-series : goal.returns-clause-series
returns-clause-series c = λ words head is lawful.
    let text = returns-clause-text c in
    let of_families = text.1 in
    let reading = reading_view c.args.reading.now in
    let line_labels = map label_view c.args.line_labels.now in
    let read = AreRead-sorted of_families.0 reading of_families.1 (AreRead-from words head reading is) in
    let readable = All-permutation IsReadable reading.hists of_families.0 (IsPermutation-sym of_families.0 reading.hists of_families.1.same) c.requires in (
      text.0,
      of_families,
      text.2,
      subst (λ families. HasEachSeriesOnce (all_samples families)) (sym of_families.2)
          (export-once c.args.prefix.now line_labels of_families.0 reading lawful read readable),
    )
