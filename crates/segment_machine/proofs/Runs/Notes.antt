-- Whether an actor may note something: Some if it may.
use Rattle.std.proofs.Common.{◌≡◌, ◌≢◌, ◌∙◌, ℕ, zero, suc, ◌+◌, ◌*◌, ◌<◌, ◌≤◌, true, false, not, List, [], ◌∷◌, ◌++◌, map, length, inl, inr, refl, sym, ap, subst, true≢false, ⊎_elim, arith, ℤ, All, Contains, Option, Some, None}
use Rattle.std.specs.Prelude.{pos, slice_index, unwrap_or, unsigned_abs, drop}
use Rattle.std.specs.List.{filter}
use Rattle.std.specs.List.{range_with_len}
use mathlib.Core.Option.{some}
use lib.ListN.{get_elem?}
use Rattle.std.specs.Str.{bytes_eq}
use Rattle.std.specs.Ordering.{int_eq}
use Rattle.std.proofs.lemmas.Slice.Eq.{bytes_eq-Decides}
use Rattle.std.proofs.lemmas.Bool.{cases_lt}
use Rattle.std.proofs.lemmas.List.Elements.{All-contains}
use Rattle.segment_image.specs.Words.{bytes_of_words}
use Rattle.bucket_ranges.specs.Reading.{name_words}
use Rattle.bucket_ranges.specs.Single.{single_of, units_packed, packed_bucket}
use Rattle.bucket_ranges.specs.Spec.{spec_fields, spec_ranges, buckets_of}
use Rattle.bucket_ranges.specs.declared.spec.Spec.{Spec}
use Rattle.bucket_ranges.specs.declared.spec.Spec.TheVariants as spec
use Rattle.segment_machine.specs.declared.actor.Actor.{Actor}
use Rattle.segment_machine.specs.declared.actor.Answered.{Answered}
use Rattle.segment_machine.specs.declared.actor.Known.{Known}
use Rattle.segment_machine.specs.declared.actor.Moment.{Moment}
use Rattle.segment_machine.specs.declared.entry.EntryProgress.{EntryProgress}
use Rattle.segment_machine.specs.declared.entry.Entry.{Entry}
use Rattle.segment_machine.specs.declared.place.Place.{Place}
use Rattle.segment_machine.specs.declared.place.Place.TheVariants.{Spent}
use Rattle.segment_machine.specs.declared.seen.Seen.{Seen}
use Rattle.segment_machine.specs.declared.seen.Sighting.{Sighting}
use Rattle.segment_machine.specs.Entry.{AreWithin, has_ended, tally_noted, tally_sum}
use Rattle.segment_calls.specs.Form.{is_off}
use Rattle.segment_machine.specs.Actor.{is_bound, bucket_key, has_buckets, word_seen, is_opener}
use Rattle.segment_machine.specs.Made.{AreNameWords, SawSample, SawName, SawOtherName, SawSpec}
use Rattle.segment_machine.specs.Note.{Note, begins, goes_on, asks, knows, takes, has_taken, looks, answers, moment_of, ends, MayNote, SawBucket, IsMarkOf, TookBucket, TookSample, TookAll, SawAll, Notes, noted}
use Rattle.segment_machine.specs.Worked.{noted_by}
use Rattle.segment_machine.proofs.Runs.Tests.{then, or_else, is_true, is_false, same, at_most, below, apart, same_bytes, same_integer, empty, value_in, nothing_in, is_number, some_of, all_of, first_of_list}
use Rattle.segment_machine.proofs.Runs.Blocks.{own_at, is_sparse_spec, name_words_of}
use Rattle.segment_machine.proofs.Runs.Counts.{cut_before, last_of, same_sighting, sum_loaded}

-- ---- a call that counts

pub not_spent : (place : Place) → is_bound place ≡ false → place ≢ Spent
not_spent place free spent = true≢false (sym (ap is_bound spent) ∙ free)

pub named_among : (names : List (List ℕ)) (name found : List ℕ) → Contains names found → found ≡ name → Contains names name
named_among names name found there is = subst (λ (n : List ℕ). Contains names n) is there

abbrev among_names : (a : Actor) (name : List ℕ) → Option (Contains (map (λ (known : Known). known.name) a.answers.names) name)
among_names a name =
    then (some_of (λ found. same_bytes found name) (map (λ (known : Known). known.name) a.answers.names)) (λ t. Some (named_among _ name t.0 t.1 t.2))

abbrev are_within : (name : List ℕ) (cost : ℕ) (entries : List Entry) → Option (AreWithin name cost entries)
are_within name cost entries =
    then (all_of (λ (entry : Entry). entry.name ≡ name) (λ entry. same_bytes entry.name name) entries) (λ of_name.
    then (at_most (tally_noted entries name) cost) (λ units.
    then (at_most (length (filter (λ (entry : Entry). not (int_eq entry.amount (pos 0))) entries)) 1) (λ one.
    then (at_most (unsigned_abs (tally_sum entries name)) (2147483648 * cost)) (λ amount.
    Some (record { of_name = of_name; units = units; one = one; amount = amount })))))

pub not_empty : {X : Type 0} (list : List X) (x : X) (rest : List X) → list ≡ x ∷ rest → list ≢ []
not_empty list x rest is none = let no : x ∷ rest ≡ [] = sym is ∙ none in cc

-- ---- a `hist`

pub seen_more : (words : List Sighting) (base x : ℕ) (rest : List ℕ) → word_seen words base ≡ Some x
    → ((i : ℕ) → i < length rest → word_seen words (base + 1 + i) ≡ Some (slice_index rest i))
    → (i : ℕ) → i < length (x ∷ rest) → word_seen words (base + i) ≡ Some (slice_index (x ∷ rest) i)
seen_more words base x rest first others zero below = subst (λ (n : ℕ). word_seen words n ≡ Some x) (omega arith) first
seen_more words base x rest first others (suc i) below =
    subst (λ (n : ℕ). word_seen words n ≡ Some (slice_index rest i)) (omega arith) (others i (omega (arith, below)))

pub none_seen : (words : List Sighting) (base i : ℕ) → i < 0 → word_seen words (base + i) ≡ Some 0
none_seen words base i below = absurd (omega (arith, below))

-- words that were seen one after the other
abbrev are_seen : (words : List Sighting) (base : ℕ) (list : List ℕ) → Option ((i : ℕ) → i < length list → word_seen words (base + i) ≡ Some (slice_index list i))
are_seen words base [] = Some (none_seen words base)
are_seen words base (x ∷ rest) =
    then (is_number (word_seen words base) x) (λ first. then (are_seen words (base + 1) rest) (λ others. Some (seen_more words base x rest first others)))

-- `n` words from `base` on, as they were seen
abbrev seen_from : (words : List Sighting) (base n : ℕ) → List ℕ
seen_from words base zero = []
seen_from words base (suc n) = unwrap_or (word_seen words base) 0 ∷ seen_from words (base + 1) n

abbrev saw_name : (seen : Seen) (name letters : List ℕ) (at : ℕ) → AreNameWords name letters → Option (SawName seen name at)
saw_name seen name letters at are =
    then (is_number (word_seen seen.words (at + 2)) 1) (λ tag. then (is_number (word_seen seen.words (at + 14)) (length name)) (λ long.
    then (are_seen seen.words (at + 15) letters) (λ spelled. Some (tag, long, letters, are, spelled))))

pub bytes_apart_by : (x y : List ℕ) → bytes_eq x y ≡ false → x ≢ y
bytes_apart_by x y other is = true≢false (sym ((bytes_eq-Decides x y).1 is) ∙ other)

abbrev bytes_apart : (x y : List ℕ) → Option (x ≢ y)
bytes_apart x y = then (is_false (bytes_eq x y)) (λ other. Some (bytes_apart_by x y other))

abbrev saw_other_name : (seen : Seen) (name letters : List ℕ) → AreNameWords name letters → (at : ℕ) → Option (SawOtherName seen name at)
saw_other_name seen name letters are at =
    or_else (then (value_in (word_seen seen.words (at + 2))) (λ tag. then (apart tag.0 1) (λ other. Some (inl (tag.0, tag.1, other)))))
    (or_else (then (value_in (word_seen seen.words (at + 14))) (λ len. then (apart len.0 (length name)) (λ other. Some (inr (inl (len.0, len.1, other))))))
    (then (below 0 (length letters)) (λ some. then (value_in (word_seen seen.words (at + 15 + 0))) (λ word.
    then (bytes_apart (bytes_of_words (word.0 ∷ [])) (bytes_of_words (slice_index letters 0 ∷ []))) (λ other.
    Some (inr (inr (letters, 0, word.0, are, some, word.1, other))))))))

pub few_fields : (n : ℕ) (F : ℕ → Type 0) → n ≡ 4 → ((i : ℕ) → i < n → F i) → (i : ℕ) → i < 4 → F i
few_fields n F four all i below = all i (omega (arith, four, below))

abbrev saw_spec : (seen : Seen) (s : Spec) (letters at : ℕ) → Option (SawSpec seen s letters at)
saw_spec seen s letters at =
    then (same (length (spec_fields s)) 4) (λ four. then (are_seen seen.words (at + 4) (spec_fields s)) (λ fields.
    then (are_seen seen.words (at + 15 + letters) (spec_ranges s)) (λ ranges.
    Some (few_fields (length (spec_fields s)) (λ i. word_seen seen.words (at + 4 + i) ≡ Some (slice_index (spec_fields s) i)) four fields, ranges))))

abbrev may_know : (a : Actor) (known : Known) → Option (MayNote a (knows known))
may_know a known =
    let letters = seen_from a.seen.words (known.reference + 15) (name_words (length known.name)) in
    then (name_words_of known.name letters) (λ are. then (cut_before a.seen.chain known.reference) (λ t.
    then (all_of (SawOtherName a.seen known.name) (saw_other_name a.seen known.name letters are) t.0) (λ others.
    then (saw_name a.seen known.name letters known.reference are) (λ named. then (saw_spec a.seen known.spec (length letters) known.reference) (λ specified.
    Some ((t.0, t.1, t.2, others, named), (letters, are, specified)))))))

-- ---- a delta

-- what was seen since at a word, and is at least this number
abbrev saw_at : (list : List Sighting) (at least : ℕ) → Option ((word : ℕ) × Contains list (record { at = at; word = word }) × (least ≤ word))
saw_at list at least =
    then (some_of {F = λ s. (s ≡ record { at = at; word = s.word }) × (least ≤ s.word)}
    (λ s. then (same s.at at) (λ e. then (at_most least s.word) (λ f. Some (same_sighting s at s.word e refl, f)))) list)
    (λ t. Some (t.0.word, subst (λ (s : Sighting). Contains list s) t.2.0 t.1, t.2.1))

abbrev saw_bucket : (a : Actor) (known : Known) (bucket : ℕ) → Option ((total : ℕ) × SawBucket a known bucket total)
saw_bucket a known bucket =
    then (saw_at (drop a.since.singles a.seen.singles) (known.reference + 9) 0) (λ t.
    let form = single_of a.segment.version (buckets_of known.spec) t.0 in
    or_else (then (is_false (is_off t.0)) (λ still. Some (units_packed form bucket, (t.0, t.1, inl (still, refl)))))
    (then (is_true (is_off t.0)) (λ off. then (value_in (word_seen a.seen.words (known.reference + 8))) (λ counts.
    then (saw_at (drop a.since.counts a.seen.counts) (counts.0 + 4 + bucket) 0) (λ count.
    Some (count.0 + units_packed form bucket, (t.0, t.1, inr (off, (counts.0, count.0, counts.1, count.1, refl)))))))))

abbrev mark_of : (a : Actor) (known : Known) (bucket : ℕ) → Option ((at : ℕ) × IsMarkOf a known bucket at)
mark_of a known bucket = or_else
    (then (saw_at (drop a.since.singles a.seen.singles) (known.reference + 9) 0) (λ t.
    then (is_number (packed_bucket (single_of a.segment.version (buckets_of known.spec) t.0)) bucket) (λ packed. Some (known.reference + 10, inl (t.0, t.1, packed, refl)))))
    (then (value_in (word_seen a.seen.words (known.reference + 8))) (λ counts. Some (counts.0 + 4 + buckets_of known.spec + bucket, inr (counts.0, counts.1, refl))))

abbrev took_bucket : (a : Actor) (known : Known) (bucket : ℕ) → Option (TookBucket a known bucket)
took_bucket a known bucket =
    then (saw_bucket a known bucket) (λ t. or_else
    (then (same t.0 0) (λ none. Some (t.0, t.1, inl none)))
    (then (mark_of a known bucket) (λ mark. then (saw_at (drop a.since.counts a.seen.counts) mark.0 t.0) (λ raised.
    Some (t.0, t.1, inr (mark.0, raised.0, mark.1, raised.1, raised.2))))))

pub below_more : (F : ℕ → Type 0) (n : ℕ) → F n → ((i : ℕ) → i < n → F i) → (i : ℕ) → i < suc n → F i
below_more F n last others i below = ⊎_elim (λ less. others i less) (λ more. subst F (omega (arith, more, below)) last) (cases_lt i n)

pub below_none : (F : ℕ → Type 0) (i : ℕ) → i < 0 → F i
below_none F i below = absurd (omega (arith, below))

abbrev each_below : (F : ℕ → Type 0) → ((i : ℕ) → Option (F i)) → (n : ℕ) → Option ((i : ℕ) → i < n → F i)
each_below F test zero = Some (below_none F)
each_below F test (suc n) = then (test n) (λ last. then (each_below F test n) (λ others. Some (below_more F n last others)))

pub not_sparse : (s : Spec) {A : Type 0} → has_buckets s ≡ true → s ≡ spec.Sparse → A
not_sparse s has is = absurd (true≢false (sym has ∙ ap has_buckets is))

-- what it saw of a sample was taken
abbrev took_sample : (a : Actor) (sample : ℕ) → Option (TookSample a sample)
took_sample a sample =
    then (saw_at (drop a.since.counts a.seen.counts) (sample + 6) 0) (λ count. or_else
    (then (same count.0 0) (λ none. Some (count.0, count.1, inl none)))
    (then (saw_at (drop a.since.counts a.seen.counts) (sample + 7) count.0) (λ mark. Some (count.0, count.1, inr (mark.0, mark.1, mark.2)))))

-- or it is none
pub none_there : (a : Actor) (histogram sample tag : ℕ) → word_seen a.seen.words (sample + 2) ≡ Some tag → tag ≢ 3
    → (value : ℤ) → SawSample a.seen histogram value sample → TookSample a sample
none_there a histogram sample tag seen other value saw =
    absurd (other (ap (λ (o : Option ℕ). unwrap_or o 0) (sym seen ∙ saw.0)))

abbrev TookThere : Actor → ℕ → ℕ → Type 0
TookThere a histogram sample = (value : ℤ) → SawSample a.seen histogram value sample → TookSample a sample

abbrev took_there : (a : Actor) (histogram sample : ℕ) → Option (TookThere a histogram sample)
took_there a histogram sample = or_else
    (then (value_in (word_seen a.seen.words (sample + 2))) (λ tag. then (apart tag.0 3) (λ other. Some (none_there a histogram sample tag.0 tag.1 other))))
    (then (took_sample a sample) (λ took. Some (λ value saw. took)))

pub took_each : (a : Actor) (histogram : ℕ) → All (TookThere a histogram) a.seen.chain → (value : ℤ) (sample : ℕ) → Contains a.seen.chain sample
    → SawSample a.seen histogram value sample → TookSample a sample
took_each a histogram all value sample met saw = All-contains (TookThere a histogram) a.seen.chain sample all met value saw

abbrev took_samples : (a : Actor) (known : Known) → Option (TookAll a known)
took_samples a known =
    then (is_sparse_spec known.spec) (λ sparse. then (all_of (TookThere a known.reference) (took_there a known.reference) a.seen.chain) (λ all.
    then (last_of a.deltas.taken) (λ t. then (same_bytes t.1.name known.name) (λ named. then (is_true t.1.swapped) (λ swapped.
    Some (record {
      buckets = λ has. not_sparse known.spec has sparse;
      samples = λ _. took_each a known.reference all;
      summed = (t.0, t.1, t.2, named, swapped);
    }))))))

abbrev took_buckets : (a : Actor) (known : Known) → Option (TookAll a known)
took_buckets a known =
    then (is_true (has_buckets known.spec)) (λ has. then (each_below (TookBucket a known) (took_bucket a known) (buckets_of known.spec)) (λ buckets.
    then (last_of a.deltas.taken) (λ t. then (same_bytes t.1.name known.name) (λ named. then (is_true t.1.swapped) (λ swapped.
    Some (record {
      buckets = λ _. buckets;
      samples = λ sparse. not_sparse known.spec has sparse;
      summed = (t.0, t.1, t.2, named, swapped);
    }))))))

abbrev took_all : (a : Actor) (known : Known) → Option (TookAll a known)
took_all a known = or_else (took_buckets a known) (took_samples a known)

-- ---- a snapshot

abbrev same_keys : (x y : List ℤ) → Option (x ≡ y)
same_keys [] [] = Some refl
same_keys (x ∷ xs) (y ∷ ys) = then (same_integer x y) (λ e. then (same_keys xs ys) (λ f. Some (λ k. e k ∷ f k)))
same_keys _ _ = None

pub at_none : {X : Type 0} (F : ℕ → X → Type 0) (base i : ℕ) (x : X) → get_elem? [] i ≡ some x → F (base + i) x
at_none F base i x there = cc there

pub at_more : {X : Type 0} (F : ℕ → X → Type 0) (base : ℕ) (y : X) (rest : List X) → F base y
    → ((i : ℕ) (x : X) → get_elem? rest i ≡ some x → F (base + 1 + i) x) → (i : ℕ) (x : X) → get_elem? (y ∷ rest) i ≡ some x → F (base + i) x
at_more F base y rest here others zero x there =
    let same : y ≡ x = cc there in subst (λ (n : ℕ). F n x) (omega arith) (subst (F base) same here)
at_more F base y rest here others (suc i) x there = subst (λ (n : ℕ). F n x) (omega arith) (others i x there)

-- a test finds something of each element and its place
abbrev each_at : {X : Type 0} (F : ℕ → X → Type 0) → ((i : ℕ) (x : X) → Option (F i x)) → (base : ℕ) (list : List X)
    → Option ((i : ℕ) (x : X) → get_elem? list i ≡ some x → F (base + i) x)
each_at F test base [] = Some (at_none F base)
each_at F test base (x ∷ rest) = then (test base x) (λ here. then (each_at F test (base + 1) rest) (λ others. Some (at_more F base x rest here others)))

pub from_zero : {X : Type 0} (F : ℕ → X → Type 0) (list : List X) → ((i : ℕ) (x : X) → get_elem? list i ≡ some x → F (0 + i) x)
    → (i : ℕ) (x : X) → get_elem? list i ≡ some x → F i x
from_zero F list all i x there = subst (λ (n : ℕ). F n x) (omega arith) (all i x there)

abbrev SawTotal : Actor → Known → ℕ → ℤ × ℕ → Type 0
SawTotal a known bucket count = SawBucket a known bucket count.1

abbrev saw_total : (a : Actor) (known : Known) (bucket : ℕ) (count : ℤ × ℕ) → Option (SawTotal a known bucket count)
saw_total a known bucket count =
    then (saw_bucket a known bucket) (λ t. then (same t.0 count.1) (λ e. Some (subst (λ (n : ℕ). SawBucket a known bucket n) e t.1)))

abbrev saw_all : (a : Actor) (known : Known) (answered : Answered) → Option (SawAll a known answered)
saw_all a known answered =
    then (is_true (has_buckets known.spec)) (λ has.
    then (same_keys (map (λ (count : ℤ × ℕ). count.0) answered.counts) (map (bucket_key (Some known)) (range_with_len 0 (buckets_of known.spec)))) (λ keyed.
    then (each_at (SawTotal a known) (saw_total a known) 0 answered.counts) (λ totals. then (sum_loaded a.hand.place known.reference answered.sum) (λ summed.
    then (last_of (drop a.since.counts a.seen.counts)) (λ t. then (same t.1.at (known.reference + 13)) (λ at. then (same t.1.word answered.redundant) (λ word.
    Some (record {
      buckets = λ _. (keyed, from_zero (SawTotal a known) answered.counts totals);
      samples = λ sparse. not_sparse known.spec has sparse;
      once = λ sparse. not_sparse known.spec has sparse;
      values = λ sparse. not_sparse known.spec has sparse;
      sum = summed;
      redundant = (t.0, t.2 ∙ ap (λ (s : Sighting). t.0 ++ s ∷ []) (same_sighting t.1 (known.reference + 13) answered.redundant at word));
    }))))))))

abbrev same_moment : (m n : Moment) → Option (m ≡ n)
same_moment m n =
    then (same m.log n.log) (λ e. then (same m.before n.before) (λ f. then (same m.outstanding n.outstanding) (λ g.
    Some (λ k. record { log = e k; before = f k; outstanding = g k }))))

-- ---- notes

abbrev pub may_note : (a : Actor) (note : Note) → Option (MayNote a note)
may_note a (begins name cost entries) =
    then (is_false (is_bound a.hand.place)) (λ turns. then (is_false (is_opener a.role)) (λ recorder. then (empty a.entries.running) (λ none. then (empty a.units.held) (λ free.
    then (is_false a.deltas.taking) (λ no_delta. then (at_most cost a.units.share) (λ fits. then (among_names a name) (λ known. then (are_within name cost entries) (λ within.
    Some (not_spent a.hand.place turns, recorder, none, free, no_delta, fits, known, within)))))))))
may_note a (goes_on entry cost) =
    then (first_of_list a.entries.running) (λ r. then (first_of_list a.units.held) (λ h. then (empty h.1) (λ one.
    then (all_of (λ c. has_ended c ≡ true) (λ c. is_true (has_ended c)) a.entries.running) (λ ended. then (at_most cost a.units.share) (λ fits.
    then (are_within h.0.name (h.0.units + cost) (map (λ (c : EntryProgress). c.entry) a.entries.running ++ entry ∷ [])) (λ within.
    Some (not_empty a.entries.running r.0 r.1 r.2, ended, fits, (h.0.name, h.0.units, h.2 ∙ ap (λ rest. h.0 ∷ rest) one, within))))))))
may_note a (asks at made) = then (own_at a at) (λ t. then (nothing_in t.0.made) (λ none. Some (t.0, t.1, t.2, none)))
may_note a (knows known) = may_know a known
may_note a (takes name) =
    then (is_false (is_bound a.hand.place)) (λ turns. then (is_false (is_opener a.role)) (λ recorder. then (empty a.entries.running) (λ none. then (is_false a.deltas.taking) (λ no_delta.
    then (among_names a name) (λ known. Some (not_spent a.hand.place turns, recorder, none, no_delta, known))))))
may_note a has_taken =
    then (is_true a.deltas.taking) (λ going. then (last_of a.deltas.taken) (λ t. then (some_of (λ known. same_bytes known.name t.1.name) a.answers.names) (λ k. then (took_all a k.0) (λ all.
    Some (going, (k.0, k.1, all))))))
may_note a looks =
    then (is_false (is_bound a.hand.place)) (λ turns. then (is_false (is_opener a.role)) (λ recorder. then (empty a.entries.running) (λ none. then (is_false a.deltas.taking) (λ no_delta.
    Some (not_spent a.hand.place turns, recorder, none, no_delta)))))
may_note a (answers answered) =
    then (some_of (λ known. same_bytes known.name answered.name) a.answers.names) (λ k. then (saw_all a k.0 answered) (λ all. then (same_moment answered.moment (moment_of a)) (λ when.
    Some (k.0, k.1, k.2, all, when))))
may_note a ends =
    then (is_false (is_bound a.hand.place)) (λ turns. then (all_of (λ c. has_ended c ≡ true) (λ c. is_true (has_ended c)) a.entries.running) (λ ended. Some (turns, ended)))
may_note a _ = None

-- notes one after the other
abbrev pub may_note_all : (a : Actor) (notes : List Note) → Option (Notes a notes (noted_by a notes))
may_note_all a [] = Some refl
may_note_all a (note ∷ rest) = then (may_note a note) (λ may. then (may_note_all (noted a note) rest) (λ others. Some (may, others)))
