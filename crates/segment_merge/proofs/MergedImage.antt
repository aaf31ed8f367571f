-- The image of a new segment into which histograms were merged, by what its opener has done.
use Rattle.std.proofs.Common.{◌≡◌, ℕ, ◌+◌, Bool, false, ◌||◌, List, [], ◌++◌, map, flat_map, sym, ap, ◌∙◌, subst, arith}
use Rattle.std.specs.List.{Contains}
use Rattle.std.proofs.lemmas.List.Elements.{All-contains}
use Rattle.segment_image.specs.declared.head.SegmentHead.{SegmentHead}
use Rattle.bucket_ranges.specs.Spec.{SameSpec}
use Rattle.bucket_ranges.specs.declared.spec.Spec.{Spec}
use Rattle.bucket_ranges.specs.Reading.{Histogram, Reading}
use Rattle.segment_machine.specs.declared.actor.Actor.{Actor}
use Rattle.segment_machine.specs.declared.actor.Done.{Done}
use Rattle.segment_machine.specs.declared.actor.Known.{Known}
use Rattle.segment_machine.specs.declared.actor.Portion.{Portion}
use Rattle.segment_machine.specs.Actor.{portion_of, taken_of, taken_sum, taken_units}
use Rattle.segment_machine.specs.declared.entry.EntryProgress.{EntryProgress}
use Rattle.segment_machine.specs.declared.entry.Entry.{Entry}
use Rattle.segment_machine.specs.Entry.{tally_noted, tally_sum, tally_units}
use Rattle.segment_machine.specs.Seats.{joined, newcomer, offering, parent, shifted_taken}
use Rattle.live_segment.specs.declared.rule.Setting.{Setting}
use Rattle.live_segment.specs.Closing.{IsImageOf, IsJoinedReading, ReadsJoined}
use Rattle.live_segment.specs.Rule.{first_view}
use Rattle.segment_merge.specs.Merge.{IsMerged, IsOneOf, KnowsAs, entries_left}
use Rattle.segment_merge.specs.Image.{IsMergedImage, IsMergeOf}

-- specs that are the same as one are the same
same_through : (a b c : Spec) → SameSpec a b → SameSpec b c → SameSpec a c
same_through a b c first second = (first.0 ∙ second.0, first.1 ∙ second.1)

-- a new segment's opener has handed all its units to one recorder, which has merged these histograms
module _ (setting : Setting) (hists : List Histogram) (last : Actor)
    (merged : IsMerged hists (newcomer (offering (first_view setting) 4294967295)) last) where
  -- and has joined it
  abbrev pub closing : Actor
  closing = joined (parent (offering (first_view setting) 4294967295)) last

  logged : map (λ (c : EntryProgress). c.entry) last.entries.log ≡ flat_map entries_left hists
  logged =
      ap (λ (front : List Entry). front ++ map (λ (c : EntryProgress). c.entry) last.entries.log) (sym (ap (λ (m : Actor). m.entries.first) merged.onward.same))
      ∙ merged.logged

  -- no delta was taken, and no flag was set
  untaken : taken_of closing ≡ []
  untaken = ap (λ (m : Actor). map portion_of (shifted_taken 0 m.deltas.taken)) merged.onward.same

  unfilled : last.done.filled ≡ false
  unfilled = merged.filled

  unspoiled : last.done.spoiled ≡ false
  unspoiled = ap (λ (d : Done). d.spoiled) merged.onward.done.same

  -- it reads as the merge
  merge_of : setting.full ≡ false → (reading : Reading) → IsJoinedReading setting closing reading → IsMergeOf hists reading
  merge_of empty reading is = record {
    lawful = is.lawful;
    names = λ name. (
      (λ (h, has, named).
          let (known, among, called) = (is.answers.names name).0 (h, has, named) in
          let (g, within, its, _) = All-contains (IsOneOf hists) merged.onward.more known merged.onward.of_these
          (subst (λ (names : List Known). Contains names known) merged.onward.names among) in
          (g, within, sym its ∙ called)),
      (λ (g, within, named).
          let (known, among, its, _) = All-contains (KnowsAs last) hists g merged.knows within in
          (is.answers.names name).1 (known, among, its ∙ named)),
    );
    once = is.answers.once;
    specs = λ g h has among named.
        let (known, there, its, same) = All-contains (KnowsAs last) hists h merged.knows among in
        same_through g.spec known.spec h.spec (is.answers.same g known has there (its ∙ named)).1 same;
    rests = λ h has.
        let tally = is.tallies h has in
        let noted : h.redundant ≡ 0 + tally_noted (map (λ (c : EntryProgress). c.entry) last.entries.log) h.name = tally.redundant in
        let same = ap (λ (log : List Entry). tally_noted log h.name) logged in record {
          units = λ key. tally.units key ∙ ap (λ (log : List Entry). tally_units log h.name key) logged;
          sum = tally.sum ∙ ap (λ (log : List Entry). tally_sum log h.name) logged;
          redundant = omega (arith, noted, same);
        };
    unmarked = λ h has.
        let tally = is.tallies h has in record {
          marks = λ key. tally.marks key ∙ ap (λ (taken : List Portion). taken_units taken h.name key) untaken;
          sum_mark = tally.sum_mark ∙ ap (λ (taken : List Portion). taken_sum taken h.name) untaken;
        };
    corrupt = is.corrupt ∙ unspoiled;
    full = is.full ∙ (ap (λ (b : Bool). b || last.done.filled) empty ∙ unfilled);
  }

  pub merged_image : setting.full ≡ false → (first : SegmentHead) (words : List ℕ) → setting.shape ≡ first.shape → setting.version ≡ 2 → setting.id ≡ first.id
      → IsImageOf setting words → ReadsJoined setting closing words → IsMergedImage first hists words
  merged_image empty first words shape version id image reads = record {
    header = image.header;
    shape = image.shape ∙ shape;
    version = image.version ∙ version;
    id = image.id ∙ id;
    reading = image.reading.0;
    reading_is = image.reading.1;
    merge = merge_of empty image.reading.0 (reads image.reading.0 image.reading.1);
  }
