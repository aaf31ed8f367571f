-- What holds of one actor stays true while a segment grows: of one that does nothing, and of one that publishes a record or walks.
use Rattle.segment_invariant.proofs.Prelude.Std.{◌≡◌, ◌≢◌, ℕ, ◌+◌, ◌<◌, ◌≤◌, ℤ, List, ◌++◌, length, drop, All, Contains, inl, inr, ⊎_elim, refl, sym, ap, ◌∙◌, subst, arith, Some, w64, cast_signed, All-contains, some, get_elem?, first_longer, split_among}
use Rattle.segment_invariant.proofs.Prelude.Machine.{Dimensions, buckets_of, single_of, packed_bucket, units_packed, Entry, SumLoaded, Actor, Known, Own, Sighting, tally_units, word_seen, counted_of, bucket_key, SawCount, SawBucket, accepted_by, Leads}
use Rattle.segment_invariant.proofs.Prelude.Invariant.{Record, Body, histogram, sample, words_of, Listed, Anatomy, order_of, form_at, HasRecord, IsRecordNamed, IsValued, IsFirstOf, WasCounter, Sees, WasSingle, HasCounts, HoldsOwn, CallsRight, HasKey, LooksBack, Fits, IsAhead}
use Rattle.std.proofs.lemmas.List.Elements.{All-drop}
use Rattle.bucket_ranges.specs.declared.spec.Spec.TheVariants as spec
use Rattle.segment_invariant.specs.Invariant.{NoneInTransit, OwesPublished}
use Rattle.segment_invariant.proofs.Blocks.Places.{counter_within}
use Rattle.segment_invariant.proofs.Frames.OneActor.{Doing, doing, doing_of}
use Rattle.segment_invariant.proofs.Frames.Growth.{Grows, names_grow, record_stays, record_came, counts_came}
use Rattle.segment_invariant.proofs.Frames.Anew.{calls_anew}

-- ---- what holds of one actor

-- What an actor has seen more: a longer front of the list, and words of records; none of them is a counts reference of a histogram
-- that it knows. It has not loaded another sum.
pub record SawMore (x : Actor) (c : Doing) : Type 0 where
  pub chain : (at : ℕ) → Contains x.seen.chain at → Contains c.seen_chain at
  pub words : (at word : ℕ) → word_seen x.seen.words at ≡ Some word → word_seen c.seen_words at ≡ Some word
  pub counts : (known : Known) (word : ℕ) → Contains x.answers.names known → word_seen c.seen_words (known.reference + 8) ≡ Some word
      → word_seen x.seen.words (known.reference + 8) ≡ Some word
  pub loaded : (reference : ℕ) (sum : ℤ) → c.place ≡ SumLoaded reference sum → x.hand.place ≡ SumLoaded reference sum

pub saw_itself : (x : Actor) → SawMore x (doing_of x)
saw_itself x = record {
  chain = λ at there. there;
  words = λ at word there. there;
  counts = λ known word named there. there;
  loaded = λ reference sum is. is;
}

module _ (shape : Dimensions) (old new : Anatomy) (added : ℕ → Body → Type 0) (grows : Grows old new added) (actors : List Actor) (opener x : Actor) (c : Doing) (more : SawMore x c)
    (keyed : (entry : Entry) → Contains (x.entries.inherited ++ counted_of x) entry → 0 < entry.units → HasKey old.records entry.name entry.key)
    (known_record : (known : Known) → Contains x.answers.names known → (r : Record) × HasRecord old.pieces known.reference r)
    (loaded_record : (reference : ℕ) (sum : ℤ) → x.hand.place ≡ SumLoaded reference sum → (r : Record) × HasRecord old.pieces reference r)
    (singles : All (WasSingle old.version old.pieces) x.seen.singles) (counters : All (WasCounter old.pieces) x.seen.counts) where
  -- what was added is where there was no record
  no_record : (at : ℕ) (body : Body) (r : Record) → 0 < length (words_of body) → added at body → HasRecord old.pieces at r → ⊥
  no_record at body r long new_one stands = grows.apart at at 0 0 body (histogram r) new_one stands long (omega arith) refl

  no_name : (entry : Entry) → HasKey old.records entry.name entry.key → All (λ l. ¬ (IsRecordNamed entry.name l)) old.records → ⊥
  no_name entry (kind, at, first, key) absent =
      All-contains (λ l. ¬ (IsRecordNamed entry.name l)) old.records _ absent (split_among first.0 first.1 first.2) (kind, refl)

  calls_grow : CallsRight old x → CallsRight new (doing x c)
  calls_grow calls = calls_anew old new x (doing x c).seen calls
      (λ entry of counted some_units first. ⊎_elim
      (λ before.
      let (at, sampled, met, (tag, histogram_is, value, small)) = calls.met entry of counted some_units before in (
        at,
        subst (λ (records : List Listed). IsFirstOf records of entry.key at) (sym grows.records) (first_longer (IsValued of entry.key) old.records grows.more _ sampled),
        more.chain at met,
        (more.words (at + 2) 3 tag, more.words (at + 4) of histogram_is, more.words (at + 5) _ value, small),
      ))
      (λ new_one. absurd (no_name entry (keyed entry counted some_units) new_one.2))
      (grows.first_came entry.name spec.Sparse of first))

  -- what it saw of a bucket it had seen
  saw_before : (known : Known) (bucket total : ℕ) → Contains x.answers.names known → SawBucket (doing x c) known bucket total → SawBucket x known bucket total
  saw_before known bucket total named (word, single, inl on) = (word, single, inl on)
  saw_before known bucket total named (word, single, inr (off, (place, count, seen, saw, is))) =
      (word, single, inr (off, (place, count, more.counts known place named seen, saw, is)))

  settled_before : (known : Known) (bucket : ℕ) → NoneInTransit new actors (doing x c) known bucket → NoneInTransit old actors x known bucket
  settled_before known bucket (inl two) = inl (sym grows.version ∙ two)
  settled_before known bucket (inr (inl alone)) = inr (inl alone)
  settled_before known bucket (inr (inr apart)) = inr (inr (λ r there.
      let (n, still) = record_stays old new added grows known.reference r there in
      subst (λ (version : ℕ). packed_bucket (form_at version r) ≢ Some bucket) grows.version (apart (record r { next = n }) still)))

  -- a single word that it saw is of a record that was there
  no_single : (t : Sighting) (at : ℕ) (r : Record) → Contains (drop x.since.singles x.seen.singles) t → t.at ≡ at + 9 → added at (histogram r) → ⊥
  no_single t at r now spot new_one =
      let (place, q, stands, is, formed, leads) = All-contains (WasSingle old.version old.pieces) (drop x.since.singles x.seen.singles) t
      (All-drop (WasSingle old.version old.pieces) x.since.singles x.seen.singles singles) now in
      grows.apart at place 9 9 (histogram r) (histogram q) new_one stands (omega arith) (omega arith) (sym spot ∙ is)

  looks_grow : LooksBack old actors opener x → LooksBack new actors opener (doing x c)
  looks_grow looks = record {
    most = λ known bucket total named below saw.
        looks.most known bucket total named below (saw_before known bucket total named saw);
    packed = λ known bucket word named below saw on.
        subst (λ (version : ℕ). tally_units (accepted_by x) known.name (bucket_key (Some known) bucket) ≤ units_packed (single_of version (buckets_of known.spec) word) bucket)
        (sym grows.version) (looks.packed known bucket word named below saw on);
    counted = λ known bucket count r named below there mounts saw settled. ⊎_elim
        (λ t. let (r0, n, before, is) = t in
        subst (λ (z : ℕ × Record). tally_units (accepted_by x) known.name (bucket_key (Some known) bucket) ≤ count + units_packed (form_at z.0 z.1) bucket)
        (λ i. (sym grows.version i, sym is i))
        (looks.counted known bucket count r0 named below before (λ none. mounts (ap (λ (z : Record). z.counts) is ∙ none))
        (subst (λ (z : Record). SawCount x (z.counts + 4 + bucket) count) is saw) (settled_before known bucket settled)))
        (λ new_one. let (r1, stood) = known_record known named in absurd (no_record known.reference (histogram r) r1 (omega arith) new_one stood))
        (record_came old new added grows known.reference r there);
    samples = λ known value at count named first saw. ⊎_elim
        (λ before. looks.samples known value at count named before saw)
        (λ new_one.
        let seen : Sighting = record { at = at + 6; word = count } in
        let was = All-contains (WasCounter old.pieces) (drop x.since.counts x.seen.counts) seen (All-drop (WasCounter old.pieces) x.since.counts x.seen.counts counters) saw in
        let (place, i, body, stands, is, counter, least) = was in
        absurd (grows.apart at place 6 i (sample new_one.0) body new_one.1 stands (omega arith) (counter_within body i counter) is))
        (grows.first_of_came known.reference at value first);
    rising = looks.rising;
    leading = λ s t r at before now same spot there. ⊎_elim
        (λ came. let (r0, n, stood, is) = came in
        subst (λ (z : ℕ × Record). Leads z.0 (buckets_of z.1.spec) s.word t.word) (λ i. (sym grows.version i, sym is i))
        (looks.leading s t r0 at before now same spot stood))
        (λ new_one. absurd (no_single t at r now spot new_one))
        (record_came old new added grows at r there);
    closed = λ s t r c at i before now spot there mounts. ⊎_elim
        (λ came. let (r0, n, stood, is) = came in
        ⊎_elim
        (λ stands same. looks.closed s t r0 c at i before now spot stood
        (subst (λ (z : Record). HasCounts old.pieces z.counts c) is stands) (same ∙ ap (λ (z : Record). z.counts + i) is))
        (λ fresh. absurd (grows.bare r.counts c fresh))
        (counts_came old new added grows r.counts c mounts))
        (λ new_one. absurd (no_single t at r now spot new_one))
        (record_came old new added grows at r there);
    begun = looks.begun;
    noted = looks.noted;
    sum = λ reference sum r stood alone there. ⊎_elim
        (λ t. let (r0, n, before, is) = t in
        looks.sum reference sum r0 (more.loaded reference sum stood) alone before
        ∙ ap (λ (z : Record). cast_signed w64 z.sum) (sym is))
        (λ new_one. let (r1, was) = loaded_record reference sum (more.loaded reference sum stood) in
        absurd (no_record reference (histogram r) r1 (omega arith) new_one was))
        (record_came old new added grows reference r there);
  }

  -- all that holds of it
  pub fits_grow : (cursors : List ℕ) (id : ℕ) → Sees new cursors (doing x c).seen
      → IsAhead (order_of new) new.tail cursors c.place c.beaten x.done.lost → All (HoldsOwn shape new.pieces id) c.own
      → ((i j : ℕ) (y z : Own) → get_elem? c.own i ≡ some y → get_elem? c.own j ≡ some z → y.at ≡ z.at → i ≡ j)
      → OwesPublished c.published c.owed
      → Fits shape old cursors actors opener id x → Fits shape new cursors actors opener id (doing x c)
  fits_grow cursors id sees ahead own apart owes fits = record {
    shaped = fits.shaped;
    versioned = fits.versioned ∙ sym grows.version;
    numbered = fits.numbered;
    ahead = ahead;
    sees = sees;
    names = names_grow old new added grows x.answers.names fits.names;
    own = own;
    apart = apart;
    owes = owes;
    calls = calls_grow fits.calls;
    looks = λ records. looks_grow (fits.looks records);
    finals = fits.finals;
    snapshots = fits.snapshots;
  }
