-- What all deltas took, and what a snapshot returns, is enough for the recorder whose call has ended.
use Rattle.std.proofs.Common.{◌≡◌, ◌≢◌, ℕ, ◌+◌, ◌<◌, ◌≤◌, ℤ, true, false, true≢false, List, ◌∷◌, ◌++◌, take, drop, length, map, append_assoc, Option, Some, inl, inr, ◌⊎◌, ⊎_elim, refl, sym, ap, subst, ◌∙◌, arith}
use Rattle.std.specs.Prelude.{if◌then◌else◌, slice_index}
use Rattle.std.specs.List.{Contains, filter}
use Rattle.std.proofs.Math.Seq.{take-append_seam}
use Rattle.std.proofs.lemmas.Bool.{and_parts}
use Rattle.std.proofs.lemmas.List.Sums.{sum_by-append}
use Rattle.std.proofs.lemmas.List.Elements.{All-contains, Contains-append_left, Contains-append_right, Contains-append_cases}
use mathlib.Core.Logic.{dite}
use mathlib.Core.Option.{some, some-injective}
use native.Mathlib.Decide.{dec_le}
use lib.ListN.{get_elem?}
use Rattle.segment_image.specs.Blocks.{field_at}
use Rattle.bucket_ranges.specs.declared.spec.Spec.{Spec}
use Rattle.bucket_ranges.specs.declared.spec.Spec.TheVariants as spec
use Rattle.bucket_ranges.specs.Single.{single_of, units_packed}
use Rattle.bucket_ranges.specs.Spec.{SameSpec, buckets_of}
use Rattle.segment_calls.specs.declared.answer.Snapshot.{Snapshot}
use Rattle.segment_machine.specs.declared.actor.Actor.{Actor}
use Rattle.segment_machine.specs.declared.actor.Entries.{Entries}
use Rattle.segment_machine.specs.declared.actor.Known.{Known}
use Rattle.segment_machine.specs.declared.actor.Made.{Made}
use Rattle.segment_machine.specs.declared.actor.Made.TheVariants as made
use Rattle.segment_machine.specs.declared.actor.Segment.{Segment}
use Rattle.segment_machine.specs.declared.actor.Since.{Since}
use Rattle.segment_machine.specs.declared.entry.Entry.{Entry}
use Rattle.segment_machine.specs.declared.entry.EntryProgress.{EntryProgress}
use Rattle.segment_machine.specs.declared.place.Place.TheVariants.{Spent}
use Rattle.segment_machine.specs.declared.seen.Sighting.{Sighting}
use Rattle.segment_machine.specs.Actor.{accepted_by, all_counted, bucket_key, counted_of, has_buckets, is_opener, log_of, units_listed, word_seen}
use Rattle.segment_machine.specs.Entry.{has_ended, is_counted, is_of, tally_noted, tally_units}
use Rattle.segment_machine.specs.Made.{IsFirstSample}
use Rattle.segment_machine.specs.State.{State}
use Rattle.segment_invariant.specs.Body.{Anatomy, Body, Listed, Piece, Record, histogram, words_of}
use Rattle.segment_invariant.specs.Consistent.{units_taken}
use Rattle.segment_invariant.specs.Invariant.{HasKey, Invariant, is_living}
use Rattle.segment_invariant.specs.Ledger.{key_of_bucket}
use Rattle.segment_invariant.specs.Seen.{HasRecord, IsFixedIn, IsRecordNamed, IsRightlyKnown, WasFixed}
use Rattle.segment_invariant.proofs.Blocks.Pieces.{one_index, piece_word}
use Rattle.segment_invariant.proofs.Blocks.Places.{fixed_within}
use Rattle.segment_invariant.proofs.Counting.Samples.{first_met}
use Rattle.segment_invariant.proofs.Counting.Whole.{known_first}
use Rattle.segment_invariant.proofs.Frames.OneActor.{lives_on}
use Rattle.segment_invariant.proofs.Lists.Elements.{contains_filter, row_in}
use Rattle.segment_invariant.proofs.Lists.Firsts.{first_unique}
use Rattle.segment_invariant.proofs.Lists.Maps.{contains_map, contains_mapped}
use Rattle.segment_invariant.proofs.Lists.Tallies.{tally_at}
use Rattle.segment_invariant.proofs.Walking.Words.{word_contains}
use Rattle.live_segment.specs.declared.rule.Opening.{Opening}
use Rattle.segment_promises.specs.Deltas as laws
use Rattle.segment_promises.specs.Onward.{SeesOn}
use Rattle.segment_promises.proofs.Deltas.{deltas_take_accepted}
use Rattle.segment_promises.proofs.Growing.{others_still, still}
use Rattle.segment_promises.proofs.ListedValues.{sample_still}
use Rattle.segment_promises.proofs.Enough.{knower_lives}
use Rattle.segment_promises.proofs.Snapshots.{snapshots_see_accepted}
use Rattle.live_segment.specs.Delta.Outcome.{HasTaken}
use Rattle.live_segment.specs.Delta.Owed.{HadCount, HadPacked, HadSample, HasEnough, IsEnough, IsWhole, TookEnough}
use Rattle.live_segment.specs.Standing.{Standing}
use Rattle.live_segment.specs.Snapshot.Outcome.{HasSnapshot}
use Rattle.live_segment.proofs.lemmas.Delta.NoMore.{took_among}
use Rattle.live_segment.specs.Steps.Taking.{answered_as}

kind_of : (s : Spec) → (has_buckets s ≡ true) ⊎ (s ≡ spec.Sparse)
kind_of (spec.Linear min max n) = inl refl
kind_of spec.Boolean = inl refl
kind_of (spec.Custom values) = inl refl
kind_of spec.Sparse = inr refl

-- a spec that is the same as the sparse one has no buckets
not_sparse : (s : Spec) → has_buckets s ≡ true → SameSpec spec.Sparse s → ⊥
not_sparse (spec.Linear min max n) has same = let e = ap (λ (l : List ℕ). slice_index l 0) same.0 in omega (arith, e)
not_sparse spec.Boolean has same = let e = ap (λ (l : List ℕ). slice_index l 0) same.0 in omega (arith, e)
not_sparse (spec.Custom values) has same = let e = ap (λ (l : List ℕ). slice_index l 0) same.0 in omega (arith, e)
not_sparse spec.Sparse has same = cc has

-- what had been seen before is the front of what is seen now
front_of : (old new : List Sighting) (more : List Sighting) (n : ℕ) → n ≡ length old → new ≡ old ++ more → take n new ≡ old
front_of old new more n is grown = (λ i. take (is i) (grown i)) ∙ take-append_seam old more

-- the entries of a log whose calls have ended are counted
logged_counted : (a : Actor) → ((c : EntryProgress) → Contains a.entries.log c → has_ended c ≡ true) → (entry : Entry) → Contains (log_of a) entry → Contains (counted_of a) entry
logged_counted a ended entry own = ⊎_elim
    (λ first. Contains-append_left a.entries.first _ entry first)
    (λ logged.
    let (c, there, is) = contains_mapped (λ (c : EntryProgress). c.entry) a.entries.log entry logged in
    let counts : is_counted c ≡ true = (and_parts (is_counted c) _ (and_parts _ _ (ended c there)).0).0 in
    Contains-append_right a.entries.first _ entry (subst (Contains _) is
    (contains_map (λ (c : EntryProgress). c.entry) (filter is_counted (a.entries.log ++ a.entries.running)) c
    (contains_filter is_counted (a.entries.log ++ a.entries.running) c (Contains-append_left a.entries.log a.entries.running c there) counts))))
    (Contains-append_cases a.entries.first _ entry own)

-- the counts reference of a record is fixed if it is not 0
mounted_of : (r : Record) → IsFixedIn (histogram r) 8 → r.counts ≢ 0
mounted_of r (inl two) = absurd (omega (arith, two))
mounted_of r (inr (inl field)) = let below = field.1 in absurd (omega (arith, below))
mounted_of r (inr (inr (inl mounted))) = mounted.1
mounted_of r (inr (inr (inr behind))) = let from = behind.0 in absurd (omega (arith, from))

-- two first records of a name have one spec
kind_is : {name : List ℕ} (kind other : Spec) (at place : ℕ)
    → ◌≡◌ {A = Listed} (record { reference = at; made = Some (made.Histogram name kind) }) (record { reference = place; made = Some (made.Histogram name other) })
    → kind ≡ other
kind_is {name} kind other at place same = ap (λ (l : Listed). spec_in l.made) same
  where
    spec_in : Option Made → Spec
    spec_in (Some (made.Histogram n s)) = s
    spec_in _ = kind

module _ (given : Opening) (number : ℕ) (old new : Actor) (since : new.since ≡ record { singles = length old.seen.singles; counts = length old.seen.counts })
    (segment : new.segment ≡ old.segment) (entries : new.entries ≡ old.entries) (sees : SeesOn old.seen new.seen) (records : is_opener new.role ≡ false)
    (known : Known) (has : Contains new.answers.names known) (standing : Standing given number new) where
  abbrev state : State
  state = standing.state

  abbrev opened : Anatomy
  opened = standing.opened

  abbrev kept : Invariant given.setting.shape opened state
  kept = standing.kept

  lives : new.hand.place ≢ Spent
  lives = knower_lives given.setting.shape opened state kept number new standing.stands known has

  knows : IsRightlyKnown kept.anatomy known
  knows = All-contains (IsRightlyKnown kept.anatomy) new.answers.names known (kept.each number new standing.stands lives).names has

  -- ---- what it had seen before

  had_single : (sighting : Sighting) → Contains old.seen.singles sighting → Contains (take new.since.singles new.seen.singles) sighting
  had_single sighting had =
      let (more, grown) = sees.singles in
      subst (λ (l : List Sighting). Contains l sighting)
      (sym (front_of old.seen.singles new.seen.singles more new.since.singles (ap (λ (s : Since). s.singles) since) grown)) had

  had_count : (sighting : Sighting) → Contains old.seen.counts sighting → Contains (take new.since.counts new.seen.counts) sighting
  had_count sighting had =
      let (more, grown) = sees.counts in
      subst (λ (l : List Sighting). Contains l sighting)
      (sym (front_of old.seen.counts new.seen.counts more new.since.counts (ap (λ (s : Since). s.counts) since) grown)) had

  had_packed : (bucket n : ℕ) → HadPacked old known bucket n → laws.HadPacked new known bucket n
  had_packed bucket n (word, had, is) = (
    word,
    had_single _ had,
    subst (λ (s : Segment). n ≡ units_packed (single_of s.version (buckets_of known.spec) word) bucket) (sym segment) is,
  )

  -- a counts reference that it saw is that of the record, which is in use
  counts_are : (counts : ℕ) (r : Record) → HasRecord kept.anatomy.pieces known.reference r → word_seen new.seen.words (known.reference + 8) ≡ Some counts
      → (r.counts ≡ counts) × (r.counts ≢ 0)
  counts_are counts r (k, there) saw =
      let fixed_words = (kept.each number new standing.stands lives).sees.fixed in
      let (from, j, body, (m, here), is, fixed, value) =
      All-contains (WasFixed kept.anatomy.pieces) new.seen.words _ fixed_words (word_contains new.seen.words (known.reference + 8) counts saw) in
      let index = one_index given.setting.shape state.words kept.anatomy kept.shown k m _ _ 8 j there here (omega arith) (fixed_within body j fixed) is in
      let same = some-injective _ _ (sym there ∙ (ap (get_elem? kept.anatomy.pieces) index ∙ here)) in
      let spot : known.reference ≡ from = ap (λ (p : Piece). p.at) same in
      let word_is : j ≡ 8 = omega (arith, spot, is) in (
        (λ i. slice_index (words_of (same i).body) (sym word_is i)) ∙ value,
        mounted_of r (subst (λ (p : Body × ℕ). IsFixedIn p.0 p.1) (λ i. ((sym same i).body, word_is i)) fixed),
      )

  had_counted : (bucket n : ℕ) → HadCount old known bucket n → laws.HadCount state.words new known bucket n
  had_counted bucket n (counts, seen, had) =
      let (r, first, stands, named, many, keys) = known_first given.setting.shape opened state kept known knows in
      let now = still old.seen.words new.seen.words sees.words (known.reference + 8) counts seen in
      let (is, some_counts) = counts_are counts r stands now in
      let (k, there) = stands in
      let word : field_at state.words known.reference 8 ≡ r.counts = piece_word given.setting.shape state.words kept.anatomy kept.shown k _ 8 there (omega arith) in (
        λ none. some_counts (sym word ∙ none),
        subst (λ (c : ℕ). Contains (take new.since.counts new.seen.counts) (record { at = c + 4 + bucket; word = n })) (sym (word ∙ is)) (had_count _ had),
      )

  had_sample : (value : ℤ) (n : ℕ) → HadSample old known value n → laws.HadSample kept.anatomy.records new known value n
  had_sample value n (sample, (front, rest, split, (before, behind, parts, others, saw)), had) =
      let (more, grown) = sees.chain in
      let whole : new.seen.chain ≡ front ++ known.reference ∷ (rest ++ more) =
      grown ∙ (ap (λ (l : List ℕ). l ++ more) split ∙ append_assoc front (known.reference ∷ rest) more) in
      let longer : rest ++ more ≡ before ++ sample ∷ (behind ++ more) =
      ap (λ (l : List ℕ). l ++ more) parts ∙ append_assoc before (sample ∷ behind) more in
      let first : IsFirstSample new.seen known.reference value sample = (
        front,
        rest ++ more,
        whole,
        (
          before,
          behind ++ more,
          longer,
          others_still old.seen new.seen sees.words known.reference value before others,
          sample_still old.seen new.seen sees.words known.reference value sample saw,
        ),
      ) in (
        sample,
        first_met given.setting.shape opened state kept number new standing.stands lives known.reference value sample first,
        had_count _ had,
      )

  -- ---- of whole keys

  whole_bucket : (bucket : ℕ) → has_buckets known.spec ≡ true → IsWhole new known (bucket_key (Some known) bucket) → laws.IsWhole new known bucket
  whole_bucket bucket bucketed (inl two) = inl two
  whole_bucket bucket bucketed (inr (inl sparse)) = absurd (true≢false (sym bucketed ∙ ap has_buckets sparse))
  whole_bucket bucket bucketed (inr (inr (inl on))) = inr (inl on)
  whole_bucket bucket bucketed (inr (inr (inr other))) = inr (inr (λ word saw is. other word bucket saw is refl))

  -- what it has accepted, and what was accepted before it was made, is counted
  ended_calls : (id : ℕ) (a : Actor) → get_elem? state.actors id ≡ some a → a.hand.place ≢ Spent → (entry : Entry) → Contains (log_of a) entry
      → Contains (all_counted state.actors) entry
  ended_calls id a there alive entry own =
      row_in counted_of state.actors id a entry there
      (logged_counted a (λ c among. All-contains (λ (c : EntryProgress). has_ended c ≡ true) a.entries.log c (kept.each id a there alive).calls.ended among) entry own)

  accepted_counted : (entry : Entry) → Contains (accepted_by new) entry → Contains (all_counted state.actors) entry
  accepted_counted entry among = ⊎_elim
      (λ before.
      let opener = kept.roles.opener in
      let living : is_living new ≡ true = lives_on new records lives in
      let (more, whole, alone) = kept.roles.heirs number new standing.stands living in
      ended_calls 0 opener kept.roles.stands (λ spent. cc (spent, kept.roles.idle)) entry
      (subst (λ (l : List Entry). Contains l entry) (sym whole) (Contains-append_left new.entries.inherited more entry before)))
      (λ own. ended_calls number new standing.stands lives entry own)
      (Contains-append_cases new.entries.inherited _ entry among)

  -- so its key is that of a bucket
  bucket_of : has_buckets known.spec ≡ true → (key : ℤ) → HasKey kept.anatomy.records known.name key
      → (bucket : ℕ) × (bucket < buckets_of known.spec) × (bucket_key (Some known) bucket ≡ key)
  bucket_of bucketed key (kind, at, first, either) =
      let (r, first_is, stands, named, many, keys) = known_first given.setting.shape opened state kept known knows in
      let specified : kind ≡ r.spec = kind_is kind r.spec at known.reference (first_unique (IsRecordNamed known.name) kept.anatomy.records _ _ first first_is) in
      ⊎_elim
      (λ (bucket, below, is).
      let within = ap buckets_of specified in (
        bucket,
        omega (arith, below, within, many),
        sym (is ∙ (ap (λ (s : Spec). key_of_bucket s bucket) specified ∙ keys bucket)),
      ))
      (λ (sparse, place, met).
      let its : knows.first_spec ≡ spec.Sparse =
      sym (kind_is kind knows.first_spec at known.reference (first_unique (IsRecordNamed known.name) kept.anatomy.records _ _ first knows.first)) ∙ sparse in
      absurd (not_sparse known.spec bucketed (subst (λ (s : Spec). SameSpec s known.spec) its knows.same)))
      either

  module _ (units : ℤ → ℕ) (law : laws.IsEnough state.words kept.anatomy.records new known units) where
    accepted_is : accepted_by new ≡ accepted_by old
    accepted_is = ap (λ (e : Entries). e.inherited ++ (e.first ++ map (λ (c : EntryProgress). c.entry) e.log)) entries

    enough_accepted : (key : ℤ) → IsWhole new known key → tally_units (accepted_by new) known.name key ≤ units key
    enough_accepted key whole = dite (dec_le 1 (tally_units (accepted_by new) known.name key))
        (λ some_units. ⊎_elim
        (λ bucketed.
        let (entry, among, named, keyed, has_units) = tally_at (accepted_by new) known.name key (omega (arith, some_units)) in
        let there : HasKey kept.anatomy.records known.name key =
        subst (λ (p : List ℕ × ℤ). HasKey kept.anatomy.records p.0 p.1) (λ i. (named i, keyed i)) (kept.keys entry (accepted_counted entry among) has_units) in
        let (bucket, below, is) = bucket_of bucketed key there in
        let least = (law.0 bucketed).accepted bucket below (whole_bucket bucket bucketed (subst (IsWhole new known) (sym is) whole)) in
        subst (λ (k : ℤ). tally_units (accepted_by new) known.name k ≤ units k) is least)
        (λ sparse. (law.1 sparse).accepted key)
        (kind_of known.spec))
        (λ none. omega (arith, none))

    -- a bucket is one of a histogram with buckets
    with_buckets : (bucket : ℕ) → bucket < buckets_of known.spec → has_buckets known.spec ≡ true
    with_buckets bucket below = ⊎_elim (λ is. is) (λ sparse. let none = ap buckets_of sparse in absurd (omega (arith, below, none))) (kind_of known.spec)

    pub is_enough : IsEnough known old new units
    is_enough = record {
      accepted = λ key whole. subst (λ (l : List Entry). tally_units l known.name key ≤ units key) accepted_is (enough_accepted key whole);
      packed = λ bucket n below whole had.
          let bucketed = with_buckets bucket below in
          (law.0 bucketed).packed bucket n below (whole_bucket bucket bucketed whole) (had_packed bucket n had);
      counted = λ bucket n below had. (law.0 (with_buckets bucket below)).counted bucket n below (had_counted bucket n had);
      both = λ two bucket m n below had also.
          (law.0 (with_buckets bucket below)).both two bucket m n below (had_counted bucket m had) (had_packed bucket n also);
      sampled = λ sparse value n had. (law.1 sparse).counted value n (had_sample value n had);
    }

-- ---- what a call owes

-- of a delta
pub took_enough : (given : Opening) (number : ℕ) (known : Known) (delta : List (ℤ × ℕ)) (sum : ℤ) (old new : Actor) → HasTaken known delta sum old new
    → Contains old.answers.names known → is_opener old.role ≡ false → Standing given number new → TookEnough given number known delta old new
took_enough given number known delta sum old new taken has records standing =
    let knows = subst (λ (names : List Known). Contains names known) (sym (ap (λ (x : Actor). x.answers.names) taken.same)) has in
    let recorder = ap (λ (x : Actor). is_opener x.role) taken.same ∙ records in
    let opened = standing.opened in record {
      standing = standing;
      enough = is_enough given number old new (ap (λ (x : Actor). x.since) taken.same) (ap (λ (x : Actor). x.segment) taken.same) (ap (λ (x : Actor). x.entries) taken.same)
          taken.seen recorder known knows standing (units_taken standing.state.actors known.name)
          (deltas_take_accepted given.setting.shape opened standing.state number new known standing.kept standing.stands recorder knows taken.all);
      most = standing.kept.balanced.taken known.name;
      mine = took_among given number known delta sum old new taken standing;
    }

-- of a snapshot
pub has_enough : (given : Opening) (number : ℕ) (known : Known) (snapshot : Snapshot) (old new : Actor) → HasSnapshot known old snapshot new
    → Contains old.answers.names known → is_opener old.role ≡ false → Standing given number new → HasEnough known old snapshot new
has_enough given number known snapshot old new seen has records standing =
    let knows = subst (λ (names : List Known). Contains names known) (sym (ap (λ (x : Actor). x.answers.names) seen.same)) has in
    let recorder = ap (λ (x : Actor). is_opener x.role) seen.same ∙ records in
    let opened = standing.opened in
    let since = ap (λ (x : Actor). x.since) seen.same in
    let segment = ap (λ (x : Actor). x.segment) seen.same in
    let entries = ap (λ (x : Actor). x.entries) seen.same in
    let opener = standing.kept.roles.opener in
    let law = snapshots_see_accepted given.setting.shape opened standing.state number opener new known (answered_as old known snapshot) standing.kept
    standing.kept.roles.stands standing.stands recorder knows seen.saw in
    let own = map (λ (c : EntryProgress). c.entry) new.entries.log in
    let noted = λ (entry : Entry). if is_of known.name entry then entry.units else 0 in
    let parts = sum_by-append noted (drop (length opener.entries.first) new.entries.inherited) own in
    let least = law.1 in record {
      enough = is_enough given number old new since segment entries seen.seen recorder known knows standing (units_listed snapshot.counts.items) law.0;
      accepted = subst (λ (e : Entries). tally_noted (map (λ (c : EntryProgress). c.entry) e.log) known.name ≤ snapshot.redundant) entries
          (omega (arith, parts, least));
      redundant = λ count had.
          law.2 count (had_count given number old new since segment entries seen.seen recorder known knows standing _ had);
    }
