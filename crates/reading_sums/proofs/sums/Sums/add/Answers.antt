-- What a reading has is added to what the readings before it have.
use Rattle.std.proofs.Common.{⊎_elim, ◌∷◌, ◌++◌, [], ℕ, List, map, ap, subst, sym, ◌∙◌, IsPermutation}
use Rattle.bucket_ranges.specs.Reading.{Reading}
use Rattle.std.proofs.lemmas.Simd.{map-map}
use Rattle.image_reader.specs.Views.{histogram_view, reading_view}
use Rattle.reading_sums.specs.Totals.{Part, SameTotals, part_from}
use Rattle.reading_sums.specs.Views.{part_of, parts_of}
use Rattle.reading_sums.specs.declared.sums.Sums.{Sums}
use Rattle.reading_sums.specs.Addends.{AddsNumbered, notes_of_one}
use Rattle.reading_sums.specs.Notes.{AreNotesOfBoth}
use Rattle.reading_sums.specs.Sums.{IsSumOver, parts_of_one}
use Rattle.std.specs.List.{All}
use Rattle.image_reader.specs.declared.reading.HistReading.{HistReading}
use Rattle.reading_sums.specs.Whole.{AreWhole, HasNamesOnce, IsWholeHistogram, IsWholeReading}
use Rattle.reading_sums.specs.Fitting.{NotesDoNotFit}
use Rattle.reading_sums.proofs.FitInTurn.{whole-parts-fit}
use Rattle.reading_sums.proofs.Readings.{parts-both, parts-one, notes-both, notes-one}
use Rattle.reading_sums.proofs.Totals.{same-append, same-refl, same-trans}
use Rattle.std.proofs.lemmas.Result.{err_from_is_err_and}
use Rattle.reading_sums.proofs.LongSums.{reading-long}
use Rattle.reading_sums.proofs.sums.Sums.add.Goals as goal

-- a sum with one more numbered reading is that of the readings with this one after them
added-behind : (readings : List (ℕ × Reading)) (one : ℕ × Reading) (before after : Sums) → IsSumOver readings before
    → AddsNumbered one before after → IsSumOver (readings ++ one ∷ []) after
added-behind readings one before after is more = record {
  hists = parts-both readings (one ∷ []) (parts_of before) (parts_of_one one) (parts_of after) is.hists
      (parts-one one (parts_of_one one) (same-refl (parts_of_one one))) more.hists;
  notes = notes-both readings (one ∷ []) before.notes (notes_of_one one.1) after.notes is.notes
      (notes-one one.0 one.1) more.notes;
}

pub returns-clause-more : goal.returns-clause-more
returns-clause-more c =
    let one : ℕ × Reading = (c.args.number, reading_view c.args.reading.now) in
    let P : List Part → Type 0 = λ z. SameTotals (map part_of c.in_ok-hists.hists.items) z in
    let both : SameTotals (map part_of c.in_ok-hists.hists.items) (parts_of c.args.self.now ++ map part_of c.in_ok-one.one.items) =
    subst P (λ i. map part_of (c.deref-2.ensures.value i) ++ map part_of (c.deref-3.ensures.value i)) c.in_ok-hists.ensures.same in
    let Q : List Part → Type 0 = λ z. SameTotals (map part_of c.in_ok-one.one.items) z in
    let parts : SameTotals (map part_of c.in_ok-one.one.items) (parts_of_one one) =
    subst Q (ap (map (λ hist. part_from c.args.number (histogram_view hist))) c.deref.ensures.value
    ∙ sym (map-map (part_from c.args.number) histogram_view c.args.reading.now.hists.items)) c.in_ok-one.ensures.same in record {
      hists = same-trans (map part_of c.in_ok-hists.hists.items) (parts_of c.args.self.now ++ map part_of c.in_ok-one.one.items)
          (parts_of c.args.self.now ++ parts_of_one one) both
          (same-append (parts_of c.args.self.now) (parts_of c.args.self.now) (map part_of c.in_ok-one.one.items) (parts_of_one one)
          (same-refl (parts_of c.args.self.now)) parts);
      notes = subst (λ notes. AreNotesOfBoth c.args.self.now.notes notes c.in_ok-notes.notes) c.notes_of.ensures c.in_ok-notes.ensures.both;
    }

pub returns-clause-added : goal.returns-clause-added
returns-clause-added c = λ readings before.
    let after : Sums = record { alloc = c.args.self.now.alloc; notes = c.in_ok-notes.notes; hists = c.in_ok-hists.hists } in
    added-behind readings (c.args.number, reading_view c.args.reading.now) c.args.self.now after before (returns-clause-more c)

pub returns-clause-well_formed : goal.returns-clause-well_formed
returns-clause-well_formed c = λ before reading.
    let P : List HistReading → Type 0 = λ z. HasNamesOnce (map histogram_view z) in
    let Q : List HistReading → Type 0 = λ z. All IsWholeHistogram (map histogram_view z) in
    let one : AreWhole c.in_ok-one.one.items =
    c.in_ok-one.ensures.whole (subst P (sym c.deref.ensures.value) reading.names) (subst Q (sym c.deref.ensures.value) reading.whole) in
    c.in_ok-hists.ensures.whole (subst AreWhole (sym c.deref-2.ensures.value) before) (subst AreWhole (sym c.deref-3.ensures.value) one)

pub returns-clause-fits : goal.returns-clause-fits
returns-clause-fits c = λ before reading does_not.
    let one : ℕ × Reading = (c.args.number, reading_view c.args.reading.now) in
    ⊎_elim
    (λ notes. subst (λ z. ¬ NotesDoNotFit c.args.self.now.notes z) c.notes_of.ensures c.in_ok-notes.ensures.fits notes)
    (λ parts.
    whole-parts-fit c.in_ok-hists.hists.items (parts_of c.args.self.now ++ parts_of_one one) (returns-clause-well_formed c before reading)
    (returns-clause-more c).hists.totals parts)
    does_not

pub returns-in_err-hists-clause-too_many : goal.returns-in_err-hists-clause-too_many
returns-in_err-hists-clause-too_many c =
    let p = err_from_is_err_and c.from_residual-in_err-hists.result c.from_residual-in_err-hists.ensures.1 in
    let reading : Reading = reading_view c.args.reading.now in
    let P : List Part → Type 0 = λ z. IsPermutation (map part_of c.in_ok-one.one.items) z in
    let Q : List HistReading → Type 0 = λ z. HasNamesOnce (map histogram_view z) in
    let S : List HistReading → Type 0 = λ z. All IsWholeHistogram (map histogram_view z) in
    let moved : IsPermutation (map part_of c.in_ok-one.one.items) (parts_of_one (c.args.number, reading)) =
    subst P (ap (map (λ hist. part_from c.args.number (histogram_view hist))) c.deref.ensures.value
    ∙ sym (map-map (part_from c.args.number) histogram_view c.args.reading.now.hists.items)) c.in_ok-one.ensures.parts in
    let whole : IsWholeReading reading → AreWhole c.in_ok-one.one.items =
    λ is. c.in_ok-one.ensures.whole (subst Q (sym c.deref.ensures.value) is.names) (subst S (sym c.deref.ensures.value) is.whole) in
    rw (p.1, p.2) (reading-long _ c.args.self.now c.args.number reading _ _ c.in_ok-one.one.items c.deref-2.ensures.value c.deref-3.ensures.value moved whole
    c.in_err-hists.ensures.too_many)
