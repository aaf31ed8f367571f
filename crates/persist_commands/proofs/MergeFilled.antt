-- A segment that has no room for a block of the histogram at which a merge stopped: what its words are, which were closed then.
use Rattle.std.proofs.Common.{◌≡◌, ℕ, ◌+◌, ◌<◌, ◌≤◌, ◌==◌, not, ◌⊎◌, if◌then◌else◌, ◌*◌, List, [], ◌∷◌, ◌++◌, map, take, length, inl, inr, ⊎_elim, refl, sym, ap, ◌∙◌, subst, arith}
use Rattle.std.specs.Prelude.{slice_index}
use Rattle.std.specs.List.{Contains}
use Rattle.std.proofs.lemmas.List.{length-append}
use Rattle.std.proofs.lemmas.List.Elements.{All-contains, Contains-append_cases, Contains-append_left, Contains-append_right}
use Rattle.segment_image.specs.Words.{word_at}
use Rattle.segment_image.specs.declared.head.SegmentHead.{SegmentHead}
use Rattle.segment_image.specs.declared.layout.TheConstants.{BLOCK_HEADER, SAMPLE_LEAST}
use Rattle.segment_image.specs.Shape.{Dimensions}
use Rattle.bucket_ranges.specs.declared.spec.Spec.{Spec}
use Rattle.bucket_ranges.specs.declared.spec.Spec.TheVariants as spec
use Rattle.bucket_ranges.specs.Ranges.{boundaries_of}
use Rattle.bucket_ranges.specs.Reading.{Histogram, Reading}
use Rattle.bucket_ranges.specs.Spec.{SameSpec, spec_fields, spec_ranges}
use Rattle.alloc_core.proofs.Layouts.{free_word}
use Rattle.segment_machine.specs.declared.actor.Actor.{Actor}
use Rattle.segment_machine.specs.declared.actor.Known.{Known}
use Rattle.segment_machine.specs.declared.entry.Entry.{Entry}
use Rattle.segment_machine.specs.declared.entry.EntryProgress.{EntryProgress}
use Rattle.segment_machine.specs.Actor.{has_buckets}
use Rattle.segment_machine.specs.Entry.{item_entry, tally_noted, tally_sum, tally_units}
use Rattle.segment_machine.specs.Seats.{newcomer, offering}
use Rattle.segment_invariant.specs.Body.{layout_of}
use Rattle.segment_invariant.proofs.Consistency.Keys.{same_buckets}
use Rattle.segment_invariant.proofs.Lists.Elements.{at_from}
use Rattle.segment_invariant.proofs.Walking.Words.{letters_long}
use Rattle.segment_calls.specs.declared.asked.Asked.{Asked}
use Rattle.segment_calls.specs.declared.refusal.Refusal.{Refusal}
use Rattle.segment_calls.specs.Asked.{IsAskedFor}
use Rattle.live_segment.specs.declared.rule.Setting.{Setting}
use Rattle.live_segment.specs.Add.Sample.{block_words}
use Rattle.live_segment.specs.Closing.{IsJoinedReading}
use Rattle.live_segment.specs.Hist.Answer.{KnowsNone}
use Rattle.live_segment.specs.Rule.{first_view}
use Rattle.segment_merge.specs.Merge.{IsMerged, IsOneOf, KnowsAs, StopsAt, items_left}
use Rattle.segment_calls.specs.Blocks.{count_words, record_words}
use Rattle.persist_commands.specs.MergeFiles.{LacksRoomFor, entries_until}
use Rattle.persist_commands.proofs.MergeClosed.{IsClosed, closing}

-- ---- the words of its blocks

-- whether a spec has buckets depends on its fields
buckets_told : (s : Spec) → has_buckets s ≡ not (slice_index (spec_fields s) 0 == 4)
buckets_told (spec.Linear min max n) = refl
buckets_told spec.Boolean = refl
buckets_told (spec.Custom values) = refl
buckets_told spec.Sparse = refl

-- those of its counts, or of one sample
pub counts_long : (known : Known) (s : Spec) → SameSpec known.spec s → block_words known ≡ count_words s
counts_long known s same =
    let tested : has_buckets known.spec ≡ has_buckets s =
    buckets_told known.spec ∙ ap (λ (fields : List ℕ). not (slice_index fields 0 == 4)) same.0 ∙ sym (buckets_told s) in
    λ i. if tested i then BLOCK_HEADER + 2 * same_buckets known.spec s same i else SAMPLE_LEAST

-- a spec has four fields
fields_long : (s : Spec) → length (spec_fields s) ≡ 4
fields_long (spec.Linear min max n) = refl
fields_long spec.Boolean = refl
fields_long (spec.Custom values) = refl
fields_long spec.Sparse = refl

-- those of its record
pub record_long : (shape : Dimensions) (h : Histogram) (asked : Asked) → IsAskedFor shape h.name h.spec asked
    → BLOCK_HEADER + length asked.payload.items ≡ record_words h.name h.spec
record_long shape h asked is =
    let payload = is.payload in
    let behind : List ℕ = 0 ∷ 0 ∷ 0 ∷ 0 ∷ 0 ∷ 0 ∷ length h.name ∷ (payload.letters ++ spec_ranges h.spec) in
    let words : length asked.payload.items ≡ length (spec_fields h.spec ++ behind) = ap length payload.words in
    let all = length-append (spec_fields h.spec) behind in
    let rest = length-append payload.letters (spec_ranges h.spec) in
    let fields = fields_long h.spec in
    let name = letters_long h.name payload.letters payload.spells in
    omega (arith, words, all, rest, fields, name)

-- ---- what a recorder lacks

-- it knows none of the name, and a block is that of a record; or it knows one, and the block is that of counts or a sample
abbrev pub Lacks : Histogram → Actor → ℕ → Type 0
Lacks h a block =
    ((block ≡ record_words h.name h.spec) × KnowsNone h.name a)
    ⊎ ((block ≡ count_words h.spec) × ((known : Known) × Contains a.answers.names known × (known.name ≡ h.name)))

-- ---- a segment that is closed

-- One recorder had all units of a new segment, has merged some histograms, and has stopped at the next after this many items. It is joined,
-- and the segment is closed.
module _ (setting : Setting) (front : List Histogram) (h : Histogram) (items : ℕ) (why : Refusal) (until last : Actor) (words : List ℕ)
    (merged : IsMerged front (newcomer (offering (first_view setting) 4294967295)) until) (stops : StopsAt h items why until last)
    (closed : IsClosed setting last words) where
  none_first : last.entries.first ≡ []
  none_first = ap (λ (a : Actor). a.entries.first) stops.onward.same ∙ ap (λ (a : Actor). a.entries.first) merged.onward.same

  logged : map (λ (c : EntryProgress). c.entry) last.entries.log ≡ entries_until front h items
  logged =
      ap (λ (first : List Entry). first ++ map (λ (c : EntryProgress). c.entry) last.entries.log) (sym none_first)
      ∙ (stops.logged ∙ ap (λ (log : List Entry). log ++ map (item_entry h.name (boundaries_of h.spec)) (take items (items_left h))) merged.logged)

  abbrev reading : Reading
  reading = closed.image.reading.0

  read : IsJoinedReading setting (closing setting last) reading
  read = closed.reads reading closed.image.reading.1

  known_names : last.answers.names ≡ merged.onward.more ++ stops.onward.more
  known_names = stops.onward.names ∙ ap (λ (names : List Known). names ++ stops.onward.more) merged.onward.names

  -- what is read is of these
  named : (g : Histogram) → Contains reading.hists g → (k : Histogram) × Contains (front ++ h ∷ []) k × (k.name ≡ g.name)
  named g has =
      let (known, among, called) = (read.answers.names g.name).0 (g, has, refl) in
      ⊎_elim
      (λ before.
      let (k, within, its, _) = All-contains (IsOneOf front) merged.onward.more known merged.onward.of_these before in
      (k, Contains-append_left front (h ∷ []) k within, sym its ∙ called))
      (λ new.
      let (k, within, its, _) = All-contains (IsOneOf (h ∷ [])) stops.onward.more known stops.onward.of_these new in
      (k, Contains-append_right front (h ∷ []) k within, sym its ∙ called))
      (Contains-append_cases merged.onward.more stops.onward.more known (subst (λ (names : List Known). Contains names known) known_names among))

  all_read : (k : Histogram) → Contains front k → (g : Histogram) × Contains reading.hists g × (g.name ≡ k.name)
  all_read k within =
      let (known, among, its, _) = All-contains (KnowsAs until) front k merged.knows within in
      (read.answers.names k.name).1 (
        known,
        subst (λ (names : List Known). Contains names known) (sym stops.onward.names) (Contains-append_left until.answers.names stops.onward.more known among),
        its,
      )

  -- the free pointer that it saw is not beyond that of the words
  free_seen : last.seen.free ≤ word_at words 7
  free_seen =
      let closes = closed.stopped.closed in
      let sees = (closes.kept.each 0 (closing setting last) closes.stands (λ spent. cc spent)).sees.free in
      let free = free_word setting.shape closes.state.words (layout_of closes.kept.anatomy) closes.kept.shown in
      let same = ap (λ (list : List ℕ). word_at list 7) closes.words_are in
      ⊎_elim (λ at. omega (arith, at, free, same)) (λ behind. omega (arith, behind, free, same)) sees

  pub lacks_room : (first : SegmentHead) (block : ℕ) → setting.shape ≡ first.shape → setting.version ≡ 2 → Lacks h last block
      → last.segment.shape.size < last.seen.free + block → LacksRoomFor first front h
  lacks_room first block shape version lacks passes = record {
    words = words;
    header = closed.image.header;
    shape = closed.image.shape ∙ shape;
    version = closed.image.version ∙ version;
    reading = reading;
    reading_is = closed.image.reading.1;
    lawful = read.lawful;
    named = named;
    all = all_read;
    items = items;
    tallies = λ g has.
        let tally = read.tallies g has in
        let noted : g.redundant ≡ 0 + tally_noted (map (λ (c : EntryProgress). c.entry) last.entries.log) g.name = tally.redundant in
        let same = ap (λ (log : List Entry). tally_noted log g.name) logged in record {
          units = λ key. tally.units key ∙ ap (λ (log : List Entry). tally_units log g.name key) logged;
          sum = tally.sum ∙ ap (λ (log : List Entry). tally_sum log g.name) logged;
          redundant = omega (arith, noted, same);
        };
    block = block;
    needs = ⊎_elim
        (λ record_one. inl (
          record_one.0,
          λ g has its.
              let (known, among, called) = (read.answers.names h.name).0 (g, has, its) in
              let (index, stands) = at_from last.answers.names known among in record_one.1 index known (stands, called),
        ))
        (λ counts. inr (counts.0, (read.answers.names h.name).1 counts.1))
        lacks;
    passes =
        let size : last.segment.shape.size ≡ first.shape.size =
        ap (λ (a : Actor). a.segment.shape.size) stops.onward.same ∙ (ap (λ (a : Actor). a.segment.shape.size) merged.onward.same ∙ ap (λ (s : Dimensions). s.size) shape) in
        let seen = free_seen in omega (arith, size, seen, passes);
  }
