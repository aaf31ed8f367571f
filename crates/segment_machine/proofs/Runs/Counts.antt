-- Whether an actor may do an event of counting, packing or taking: Some if it may.
use Rattle.std.proofs.Common.{◌≡◌, ◌≢◌, ◌∙◌, ℕ, ◌+◌, ◌*◌, ◌-◌, false, not, List, [], ◌∷◌, ◌++◌, inl, inr, refl, sym, ap, subst, Contains, Option, Some, None}
use Rattle.std.specs.Prelude.{ℤ, ◌/◌, ◌%◌, ◌^◌, unwrap_or, drop}
use Rattle.std.specs.List.{filter}
use Rattle.bucket_ranges.specs.Reading.{is_i32}
use Rattle.bucket_ranges.specs.Single.{packed_bucket}
use Rattle.bucket_ranges.specs.Spec.{buckets_of}
use Rattle.std.specs.Int.{w64, cast_signed, cast_unsigned}
use Rattle.segment_machine.specs.declared.actor.Actor.{Actor}
use Rattle.segment_machine.specs.declared.actor.Known.{Known}
use Rattle.segment_machine.specs.declared.actor.Own.{Own}
use Rattle.segment_machine.specs.declared.entry.EntryProgress.{EntryProgress}
use Rattle.segment_machine.specs.declared.place.Look.{Look}
use Rattle.segment_machine.specs.declared.place.Place.{Place}
use Rattle.segment_machine.specs.declared.place.Place.TheVariants.{Looking, Losing, Moving, CountLoaded, SampleLoaded, SumLoaded}
use Rattle.segment_machine.specs.declared.seen.Seen.{Seen}
use Rattle.segment_machine.specs.declared.seen.Sighting.{Sighting}
use Rattle.segment_machine.specs.Entry.{is_counted, is_summed, has_ended}
use Rattle.segment_calls.specs.Form.{is_off, units_in, packed_word, IsPacking}
use Rattle.segment_machine.specs.Actor.{is_bound, Buckets, has_buckets, bucket_key, word_seen}
use Rattle.segment_machine.specs.Made.{SawSample, SawOther, IsFirstSample}
use Rattle.segment_machine.specs.Calls.{IsNext, IsKeyOfBucket, LooksOpen, LooksOff, form_seen}
use Rattle.segment_machine.specs.Counting.{CountingEvent, load_counts, add_count, add_sum, add_redundant}
use Rattle.segment_machine.specs.Counting as counting
use Rattle.segment_machine.specs.Packing.{PackingEvent, load_single, pack, mount_counts, purge_block, disable, add_moved, CountsIn, IsBlankCounts}
use Rattle.segment_machine.specs.Packing as packing
use Rattle.segment_machine.specs.Taking.{TakingEvent, load_count, raise_mark, raise_single_mark, load_sum, swap_sum_mark, load_redundant, Takes, is_looking}
use Rattle.segment_machine.specs.Taking as taking
use Rattle.segment_machine.proofs.Runs.Tests.{then, or_else, is_true, is_false, same, at_most, below, apart, same_bytes, same_integer, empty, first_of_list, value_in, is_number, some_of, all_of, member}
use Rattle.segment_machine.proofs.Runs.Blocks.{own_at, sparse_at}

-- ---- places

abbrev looks : (place : Place) → Option ((look : Look) × (place ≡ Looking look))
looks (Looking look) = Some (look, refl)
looks _ = None

abbrev moves : (place : Place) (bucket units : ℕ) → Option ((look : Look) × (place ≡ Moving look bucket units))
moves (Moving look b n) bucket units = then (same b bucket) (λ e. then (same n units) (λ f. Some (look, λ k. Moving look (e k) (f k))))
moves _ bucket units = None

abbrev loses : (place : Place) (at : ℕ) → Option ((look : Look) × (place ≡ Losing look at))
loses (Losing look lost) at = then (same lost at) (λ e. Some (look, ap (λ n. Losing look n) e))
loses _ at = None

abbrev counts_loaded : (place : Place) → Option ((look : Look) × (bucket count : ℕ) × (place ≡ CountLoaded look bucket count))
counts_loaded (CountLoaded look bucket count) = Some (look, bucket, count, refl)
counts_loaded _ = None

abbrev pub sum_loaded : (place : Place) (histogram : ℕ) (sum : ℤ) → Option (place ≡ SumLoaded histogram sum)
sum_loaded (SumLoaded h s) histogram sum = then (same h histogram) (λ e. then (same_integer s sum) (λ f. Some (λ k. SumLoaded (e k) (f k))))
sum_loaded _ histogram sum = None

abbrev any_sum_loaded : (place : Place) (histogram : ℕ) → Option ((sum : ℤ) × (place ≡ SumLoaded histogram sum))
any_sum_loaded (SumLoaded h sum) histogram = then (same h histogram) (λ e. Some (sum, ap (λ n. SumLoaded n sum) e))
any_sum_loaded _ histogram = None

-- ---- what it knows

abbrev buckets_at : (a : Actor) (histogram : ℕ) → Option ((known : Known) × Buckets a histogram known)
buckets_at a histogram =
    then (some_of (λ known. same known.reference histogram) a.answers.names) (λ t. then (is_true (has_buckets t.0.spec)) (λ has. Some (t.0, (t.1, t.2, has))))

abbrev known_at : (a : Actor) (histogram : ℕ) → Option ((known : Known) × Contains a.answers.names known × (known.reference ≡ histogram))
known_at a histogram = some_of (λ known. same known.reference histogram) a.answers.names

abbrev next_of : (a : Actor) → Option ((c : EntryProgress) × IsNext a c)
next_of a = then (first_of_list (filter (λ c. not (has_ended c)) a.entries.running)) (λ t. Some (t.0, (t.1, t.2)))

abbrev has_key : (known : Known) (bucket : ℕ) (key : ℤ) → Option (IsKeyOfBucket known bucket key)
has_key known bucket key =
    then (below bucket (buckets_of known.spec)) (λ within. then (same_integer (bucket_key (Some known) bucket) key) (λ keyed. Some (within, keyed)))

abbrev looks_open : (a : Actor) (histogram word : ℕ) → Option ((look : Look) × (known : Known) × LooksOpen a histogram word look known)
looks_open a histogram word =
    then (looks a.hand.place) (λ t. then (same t.0.histogram histogram) (λ here. then (is_number t.0.single word) (λ loaded. then (is_false (is_off word)) (λ still.
    then (buckets_at a histogram) (λ known. Some (t.0, known.0, (t.1, here, loaded, still, known.1)))))))

abbrev looks_off : (a : Actor) → Option ((look : Look) × (known : Known) × LooksOff a look known)
looks_off a =
    then (looks a.hand.place) (λ t. then (apart t.0.counts 0) (λ there. then (value_in t.0.single) (λ word. then (is_true (is_off word.0)) (λ off.
    then (buckets_at a t.0.histogram) (λ known. Some (t.0, known.0, (t.1, there, (word.0, word.1, off), known.1)))))))

-- ---- counting

abbrev saw_sample : (seen : Seen) (histogram : ℕ) (value : ℤ) (at : ℕ) → Option (SawSample seen histogram value at)
saw_sample seen histogram value at =
    then (is_number (word_seen seen.words (at + 2)) 3) (λ tag. then (is_number (word_seen seen.words (at + 4)) histogram) (λ of.
    then (is_number (word_seen seen.words (at + 5)) (cast_unsigned w64 value)) (λ valued. then (is_true (is_i32 value)) (λ small. Some (tag, of, valued, small)))))

abbrev saw_other : (seen : Seen) (histogram : ℕ) (value : ℤ) (at : ℕ) → Option (SawOther seen histogram value at)
saw_other seen histogram value at =
    or_else (then (value_in (word_seen seen.words (at + 2))) (λ tag. then (apart tag.0 3) (λ other. Some (inl (tag.0, tag.1, other)))))
    (or_else (then (value_in (word_seen seen.words (at + 4))) (λ of. then (apart of.0 histogram) (λ other. Some (inr (inl (of.0, of.1, other))))))
    (then (value_in (word_seen seen.words (at + 5))) (λ word. then (apart word.0 (cast_unsigned w64 value)) (λ other. Some (inr (inr (word.0, word.1, other)))))))

-- a list is cut before an element
abbrev pub cut_before : (list : List ℕ) (at : ℕ) → Option ((front behind : List ℕ) × (list ≡ front ++ at ∷ behind))
cut_before [] at = None
cut_before (x ∷ rest) at = or_else
    (then (same x at) (λ e. Some ([], rest, ap (λ n. n ∷ rest) e)))
    (then (cut_before rest at) (λ t. Some (x ∷ t.0, t.1, ap (λ list. x ∷ list) t.2)))

abbrev is_first_sample : (seen : Seen) (histogram : ℕ) (value : ℤ) (at : ℕ) → Option (IsFirstSample seen histogram value at)
is_first_sample seen histogram value at =
    then (cut_before seen.chain histogram) (λ t. then (cut_before t.1 at) (λ u. then (all_of (SawOther seen histogram value) (saw_other seen histogram value) u.0) (λ others.
    then (saw_sample seen histogram value at) (λ saw. Some (t.0, t.1, t.2, (u.0, u.1, u.2, others, saw))))))

abbrev may_count_bucket : (a : Actor) (at units : ℕ) → Option (counting.MayCount a at units)
may_count_bucket a at units =
    then (next_of a) (λ c. then (is_false (is_counted c.0)) (λ new. then (looks_off a) (λ t. then (same_bytes c.0.entry.name t.1.name) (λ named.
    then (same c.0.entry.units units) (λ many.
    let bucket = at - (t.0.counts + 4) in
    then (has_key t.1 bucket c.0.entry.key) (λ keyed. then (same at (t.0.counts + 4 + bucket)) (λ here.
    Some (c.0, t.1, (c.1, new), named, many, inl (t.0, bucket, t.2, keyed, here)))))))))

abbrev may_count_sample : (a : Actor) (at units : ℕ) → Option (counting.MayCount a at units)
may_count_sample a at units =
    then (next_of a) (λ c. then (is_false (is_counted c.0)) (λ new. then (is_false (is_bound a.hand.place)) (λ turns.
    then (value_in (word_seen a.seen.words (at - 6 + 4))) (λ of. then (sparse_at a of.0) (λ k.
    then (same_bytes c.0.entry.name k.0.name) (λ named. then (same c.0.entry.units units) (λ many.
    then (is_first_sample a.seen k.0.reference c.0.entry.key (at - 6)) (λ first. then (same at (at - 6 + 6)) (λ here.
    Some (c.0, k.0, (c.1, new), named, many, inr (at - 6, turns, (k.1.0, refl, k.1.2), first, here)))))))))))

abbrev pub may_count : (a : Actor) (event : CountingEvent) → Option (counting.Ready a event)
may_count a (load_counts histogram) = then (is_false (is_bound a.hand.place)) (λ turns. then (buckets_at a histogram) (λ known. Some (turns, known)))
may_count a (add_count at units) = or_else (may_count_bucket a at units) (may_count_sample a at units)
may_count a (add_sum histogram amount) =
    then (is_false (is_bound a.hand.place)) (λ turns. then (next_of a) (λ c. then (known_at a histogram) (λ k. then (is_true (is_counted c.0)) (λ counted.
    then (is_false (is_summed c.0)) (λ new. then (same_integer c.0.entry.amount amount) (λ much. then (same_bytes k.0.name c.0.entry.name) (λ named.
    Some (turns, c.0, k.0, (c.1, counted, new), much, k.1, k.2, named))))))))
may_count a (add_redundant histogram units) =
    then (is_false (is_bound a.hand.place)) (λ turns. then (next_of a) (λ c. then (known_at a histogram) (λ k. then (is_true (is_counted c.0)) (λ counted.
    then (is_true (is_summed c.0)) (λ summed. then (same c.0.entry.units units) (λ many. then (same_bytes k.0.name c.0.entry.name) (λ named.
    Some (turns, c.0, k.0, (c.1, counted, summed), many, k.1, k.2, named))))))))

-- ---- packing

pub only_next : (list : List EntryProgress) (c first : EntryProgress) (rest others : List EntryProgress) → list ≡ first ∷ others → list ≡ c ∷ rest → first ≡ c
only_next list c first rest others is other = let same : first ∷ others ≡ c ∷ rest = sym is ∙ other in cc

pub counts_in : (a : Actor) (known : Known) (first : EntryProgress) → a.deltas.taking ≡ false → IsNext a first → is_counted first ≡ false → first.entry.name ≡ known.name
    → CountsIn a known
counts_in a known first no_delta is new named =
    (no_delta, λ c other. subst (λ (x : EntryProgress). (is_counted x ≡ false) × (x.entry.name ≡ known.name)) (only_next _ c first other.0 is.0 is.1 other.1) (new, named))

abbrev makes_room : (a : Actor) (known : Known) → Option (CountsIn a known)
makes_room a known =
    then (is_false a.deltas.taking) (λ no_delta. then (next_of a) (λ c. then (is_false (is_counted c.0)) (λ new. then (same_bytes c.0.entry.name known.name) (λ named.
    Some (counts_in a known c.0 no_delta c.1 new named)))))

abbrev packs : (bucket units old new : ℕ) → Option (IsPacking bucket units old new)
packs bucket units old new =
    then (at_most units 65535) (λ few. or_else
    (then (same old 0) (λ none. then (same new (packed_word bucket units)) (λ is. Some (few, inl (none, is)))))
    (let j = old % 2 ^ 32 in
    then (at_most 1 j) (λ some. then (at_most (j + units) 65535) (λ all. then (same old (packed_word bucket j)) (λ was. then (same new (packed_word bucket (j + units))) (λ is.
    Some (few, inr (j, some, all, was, is))))))))

abbrev is_blank : (own : Own) (n : ℕ) → Option (IsBlankCounts own n)
is_blank own n =
    then (same own.tag 2) (λ tag. then (same own.next 0) (λ off. then (empty own.payload) (λ blank. then (at_most (4 + 2 * n) own.size) (λ room.
    Some (tag, off, blank, room)))))

abbrev pub may_pack : (a : Actor) (event : PackingEvent) → Option (packing.Ready a event)
may_pack a (load_single histogram) = then (is_false (is_bound a.hand.place)) (λ turns. then (buckets_at a histogram) (λ known. Some (turns, known)))
may_pack a (pack histogram old new) =
    then (next_of a) (λ c. then (is_false (is_counted c.0)) (λ fresh. then (looks_open a histogram old) (λ t. then (same_bytes c.0.entry.name t.1.name) (λ named.
    let bucket = new / 2 ^ 32 in
    then (has_key t.1 bucket c.0.entry.key) (λ keyed. then (packs bucket c.0.entry.units old new) (λ packing.
    Some (c.0, t.0, t.1, bucket, (c.1, fresh), t.2, named, keyed, packing)))))))
may_pack a (mount_counts histogram at) =
    then (own_at a at) (λ o. then (is_false (is_bound a.hand.place)) (λ turns. then (buckets_at a histogram) (λ k. then (makes_room a k.0) (λ room.
    then (is_blank o.0 (buckets_of k.0.spec)) (λ blank. Some (o.0, k.0, turns, o.1, o.2, k.1, room, blank))))))
may_pack a (purge_block at) = loses a.hand.place at
may_pack a (disable histogram old) =
    then (looks_open a histogram old) (λ t. then (apart t.0.counts 0) (λ there. then (makes_room a t.1) (λ room. Some (t.0, t.1, t.2, there, room))))
may_pack a (add_moved counts bucket units) = then (moves a.hand.place bucket units) (λ t. then (same t.0.counts counts) (λ there. Some (t.0, t.1, there)))

-- ---- taking

abbrev pub last_of : {X : Type 0} (list : List X) → Option ((before : List X) × (last : X) × (list ≡ before ++ last ∷ []))
last_of [] = None
last_of (t ∷ rest) = or_else (then (empty rest) (λ e. Some ([], t, ap (λ list. t ∷ list) e))) (then (last_of rest) (λ u. Some (t ∷ u.0, u.1, ap (λ list. t ∷ list) u.2)))

abbrev takes_at : (a : Actor) (histogram : ℕ) → Option ((known : Known) × Takes a histogram known)
takes_at a histogram =
    then (is_true a.deltas.taking) (λ going. then (known_at a histogram) (λ k. then (last_of a.deltas.taken) (λ t. then (same_bytes t.1.name k.0.name) (λ named.
    Some (k.0, (going, k.1, k.2, (t.0, t.1, t.2, named)))))))

pub none_unlike : (bucket : ℕ) → None ≢ Some bucket
none_unlike bucket e = cc e

pub some_unlike : (b bucket : ℕ) → b ≢ bucket → Some b ≢ Some bucket
some_unlike b bucket other e = other (ap (λ (o : Option ℕ). unwrap_or o 0) e)

-- no packed bucket, or another
abbrev unlike : (o : Option ℕ) (bucket : ℕ) → Option (o ≢ Some bucket)
unlike None bucket = Some (none_unlike bucket)
unlike (Some b) bucket = then (apart b bucket) (λ other. Some (some_unlike b bucket other))

pub same_sighting : (s : Sighting) (at word : ℕ) → s.at ≡ at → s.word ≡ word → s ≡ record { at = at; word = word }
same_sighting s at word e f = λ k. record { at = e k; word = f k }

abbrev pub saw : (list : List Sighting) (at word : ℕ) → Option (Contains list (record { at = at; word = word }))
saw list at word =
    then (some_of (λ s. then (same s.at at) (λ e. then (same s.word word) (λ f. Some (same_sighting s at word e f)))) list)
    (λ t. Some (subst (λ (s : Sighting). Contains list s) t.2 t.1))

abbrev loads_bucket : (a : Actor) (at : ℕ) → Option (taking.MayLoadCount a at)
loads_bucket a at = or_else
    (then (looks_off a) (λ t.
    let bucket = at - (t.0.counts + 4) in
    then (below bucket (buckets_of t.1.spec)) (λ within. then (same at (t.0.counts + 4 + bucket)) (λ here. Some (inl (t.0, t.1, bucket, inl t.2, within, here))))))
    (then (counts_loaded a.hand.place) (λ t. then (buckets_at a t.0.histogram) (λ k.
    let bucket = at - (t.0.counts + 4) in
    then (below bucket (buckets_of k.0.spec)) (λ within. then (same at (t.0.counts + 4 + bucket)) (λ here.
    Some (inl (t.0, k.0, bucket, inr (t.1, t.2, t.3, k.1), within, here)))))))

-- the count of a sample of the sparse histogram that the sample names, with its value
abbrev loads_sample : (a : Actor) (at : ℕ) → Option (taking.MayLoadCount a at)
loads_sample a at =
    let sample = at - 6 in
    then (value_in (word_seen a.seen.words (sample + 4))) (λ of. then (value_in (word_seen a.seen.words (sample + 5))) (λ word. then (sparse_at a of.0) (λ k.
    let value = cast_signed w64 word.0 in
    then (member a.seen.chain sample) (λ met. then (saw_sample a.seen k.0.reference value sample) (λ seen. then (same at (sample + 6)) (λ here.
    then (is_false (is_bound a.hand.place)) (λ turns. then (is_false (is_looking a.hand.place)) (λ away.
    Some (inr (k.0, sample, value, (k.1.0, refl, k.1.2), met, seen, here, turns, away))))))))))

abbrev loaded_now : (a : Actor) (count : ℕ) → Option ((look : Look) × (bucket : ℕ) × (a.hand.place ≡ CountLoaded look bucket count))
loaded_now a count = then (counts_loaded a.hand.place) (λ t. then (same t.2 count) (λ e. Some (t.0, t.1, t.3 ∙ ap (λ n. CountLoaded t.0 t.1 n) e)))

abbrev raises_bucket : (a : Actor) (at least : ℕ) → Option (taking.MayRaise a at least)
raises_bucket a at least =
    then (at_most 1 least) (λ some. then (loaded_now a least) (λ t. then (takes_at a t.0.histogram) (λ k. then (value_in t.0.single) (λ word.
    then (unlike (packed_bucket (form_seen a t.0.histogram word.0)) t.1) (λ other. then (same at (t.0.counts + 4 + buckets_of k.0.spec + t.1)) (λ here.
    Some (some, inl (t.0, k.0, t.1, word.0, t.2, k.1, word.1, other, here))))))))

abbrev sample_loaded : (place : Place) (count : ℕ) → Option ((sample : ℕ) × (place ≡ SampleLoaded sample count))
sample_loaded (SampleLoaded sample found) count = then (same found count) (λ e. Some (sample, ap (λ n. SampleLoaded sample n) e))
sample_loaded _ count = None

abbrev raises_sample : (a : Actor) (at least : ℕ) → Option (taking.MayRaise a at least)
raises_sample a at least =
    then (at_most 1 least) (λ some. then (sample_loaded a.hand.place least) (λ t. then (value_in (word_seen a.seen.words (t.0 + 4))) (λ of.
    then (takes_at a of.0) (λ k. then (same at (t.0 + 7)) (λ here. Some (some, inr (t.0, of.0, k.0, t.1, of.1, k.1, here)))))))

abbrev pub may_take : (a : Actor) (event : TakingEvent) → Option (taking.Ready a event)
may_take a (load_count at) = or_else (loads_bucket a at) (loads_sample a at)
may_take a (raise_mark at least) = or_else (raises_bucket a at least) (raises_sample a at least)
may_take a (raise_single_mark histogram least) =
    then (at_most 1 least) (λ some. then (takes_at a histogram) (λ k. or_else
    (then (looks a.hand.place) (λ l. then (value_in l.0.single) (λ word. then (looks_open a histogram word.0) (λ t.
    then (saw (drop a.since.singles a.seen.singles) (histogram + 9) word.0) (λ since. then (same least (units_in (form_seen a histogram word.0))) (λ all.
    Some (some, k, inl (t.0, t.1, word.0, t.2, since, all))))))))
    (then (counts_loaded a.hand.place) (λ t. then (same t.0.histogram histogram) (λ here. then (value_in t.0.single) (λ word.
    then (is_number (packed_bucket (form_seen a histogram word.0)) t.1) (λ packed. then (same least (t.2 + units_in (form_seen a histogram word.0))) (λ all.
    Some (some, k, inr (t.0, t.1, t.2, word.0, t.3, here, word.1, packed, all))))))))))
may_take a (load_sum histogram) = then (is_false (is_bound a.hand.place)) (λ turns. then (known_at a histogram) (λ k. Some (turns, (k.0, k.1, k.2))))
may_take a (swap_sum_mark histogram sum) =
    then (takes_at a histogram) (λ k. then (sum_loaded a.hand.place histogram sum) (λ stands. Some (k.0, k.1, stands)))
may_take a (load_redundant histogram) = then (any_sum_loaded a.hand.place histogram) (λ stands. then (known_at a histogram) (λ k. Some (stands, (k.0, k.1, k.2))))
