use Rattle.std.proofs.Common.{◌∙◌, ◌++◌, List, map, ap, refl}
use Rattle.std.specs.List.{flat_map}
use Rattle.std.proofs.lemmas.List.Sorted.{All-permutation, IsPermutation-sym}
use Rattle.bucket_ranges.specs.Reading.{Histogram, first_of_each}
use Rattle.image_reader.specs.Views.{histogram_view, reading_view}
use Rattle.image_reader.specs.Readable.{IsReadable}
use Rattle.reading_texts.specs.Labels.{label_view}
use Rattle.reading_texts.specs.Families.{FamilyMember, families_by_name, member_of, same_family}
use Rattle.reading_texts.specs.FamilyLines.{lines_with}
use Rattle.reading_texts.proofs.Adding.{written-behind}
use Rattle.reading_texts.proofs.FamilySeries.{clear-once}
use Rattle.reading_texts.proofs.ReadHists.{AreRead-from, AreRead-sorted}
use Rattle.reading_texts.proofs.FamilyTexts.{are_members, readable_members, families-are}
use Rattle.reading_texts.proofs.families.families_text.Goals as goal

pub put_families-requires : goal.put_families-requires
put_families-requires c =
    let hists = map (λ hist. histogram_view hist.now) c.in_ok-hists.hists.items in
    let all = map histogram_view c.args.reading.now.hists.items in
    let readable = All-permutation IsReadable all hists (IsPermutation-sym hists all c.in_ok-hists.ensures.same) c.requires in
    rw (c.deref-3.ensures.value, c.in_ok-members.ensures, c.deref.ensures.value) (readable_members (map label_view c.args.line_labels.now) hists readable)

pub returns-clause-text : goal.returns-clause-text
returns-clause-text c =
    let hists : List Histogram = map (λ hist. histogram_view hist.now) c.in_ok-hists.hists.items in
    let prefix = c.args.prefix.now in
    let line_labels = map label_view c.args.line_labels.now in
    let members : List FamilyMember = map (member_of line_labels) hists in
    let are = rw c.deref.ensures.value at c.in_ok-members.ensures in
    let families = rw (c.deref-3.ensures.value, are) at c.in_ok-put_families.ensures in
    let begun = families ∙ ap (λ s. s ++ flat_map (lines_with prefix members) (first_of_each same_family members)) c.new-text.ensures.items in
    let bad = written-behind _ _ begun c.in_ok-put_bad.ensures in
    let flags = written-behind _ _ bad c.in_ok-put_flags.ensures in
    record {
      hists = hists;
      sorted = c.in_ok-hists.ensures;
      none_clashes = rw (c.deref-2.ensures.value, are) at c.in_ok-check_clashes.ensures.none;
      is = flags ∙ families-are prefix line_labels members (reading_view c.args.reading.now) (are_members line_labels hists);
    }

pub returns-clause-series : goal.returns-clause-series
returns-clause-series c = λ words head is lawful.
    let text = returns-clause-text c in
    let reading = reading_view c.args.reading.now in
    let line_labels = map label_view c.args.line_labels.now in
    let members : List FamilyMember = map (member_of line_labels) text.hists in
    let read = AreRead-sorted text.hists reading text.sorted (AreRead-from words head reading is) in
    let readable = All-permutation IsReadable reading.hists text.hists (IsPermutation-sym text.hists reading.hists text.sorted.same) c.requires in (
      families_by_name c.args.prefix.now line_labels members reading,
      (text.hists, text.sorted, refl),
      text.is,
      clear-once c.args.prefix.now line_labels text.hists reading lawful read readable text.none_clashes,
    )
