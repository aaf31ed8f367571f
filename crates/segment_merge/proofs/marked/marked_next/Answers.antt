use Rattle.std.proofs.Common.{◌≡◌, ◌∙◌, ◌<◌, length, inr, sym, ap, subst, arith}
use Rattle.std.specs.Prelude.{MatchOption, Option}
use Rattle.std.specs.Cmp.Lexicographic.{slice_cmp}
use Rattle.std.specs.Ordering.{nat_cmp}
use Rattle.std.specs.declared.cmp.Ordering.TheVariants.{Equal}
use Rattle.std.proofs.lemmas.List.{get_or-map, length-map}
use Rattle.std.proofs.lemmas.Map.Lookups.{exact_bytes}
use Rattle.bucket_ranges.specs.Reading.{Histogram}
use Rattle.image_reader.specs.Views.{histogram_view}
use Rattle.image_reader.specs.declared.reading.HistReading.{HistReading}
use Rattle.segment_merge.specs.Noted.{HasRisen, IsLessThan, IsMarkedBy, unmarked as without_marks}
use Rattle.segment_merge.proofs.marked.marked_next.Goals as goal

pub marked_by-requires : goal.marked_by-requires
marked_by-requires c =
    let tied : slice_cmp nat_cmp c.args.hist.name.items c.index-noted-next.result.name.items ≡ Equal =
    (λ i. slice_cmp nat_cmp (sym c.as_slice.ensures.value i) (sym c.as_slice-2.ensures.value i)) ∙ (sym c.cmp.ensures ∙ c.in-Equal.is) in
    exact_bytes c.args.hist.name.items c.index-noted-next.result.name.items tied

pub returns-in-None : goal.returns-in-None
returns-in-None c =
    let hist : Histogram = histogram_view c.args.hist in
    let note : HistReading = c.index-noted-next.result in
    let tied : slice_cmp nat_cmp c.args.hist.name.items note.name.items ≡ Equal =
    (λ i. slice_cmp nat_cmp (sym c.as_slice.ensures.value i) (sym c.as_slice-2.ensures.value i)) ∙ (sym c.cmp.ensures ∙ c.in-Equal.is) in
    let name = exact_bytes c.args.hist.name.items note.name.items tied in
    let below : c.args.next < length c.args.noted.now = omega (arith, c.requires, c.if-next-noted.false) in
    let long = length-map c.args.noted.now histogram_view in
    let less : IsLessThan (histogram_view note) hist = subst (λ (found : Option HistReading). MatchOption found (IsLessThan (histogram_view note) hist)
    (λ (h : HistReading). (without_marks (histogram_view h) ≡ without_marks hist) × HasRisen (histogram_view h) × IsMarkedBy (histogram_view note) (histogram_view h)))
    c.in-None.is c.in_ok-with_notes-in-Equal.ensures in (
      omega (arith, below, long),
      inr (subst (λ (one : Histogram). (hist.name ≡ one.name) × IsLessThan one hist)
          (sym (get_or-map histogram_view c.args.noted.now c.args.next note hist below ∙ ap histogram_view (sym c.index-noted-next.is))) (name, less)),
    )
