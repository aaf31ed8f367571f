-- A snapshot may return what its recorder saw: what holds is kept.
use Rattle.segment_invariant.proofs.Prelude.Std.{◌≡◌, ◌≢◌, ◌⊎◌, ℕ, zero, suc, ◌+◌, ◌<◌, ◌≤◌, ℤ, pos, Bool, true, false, List, [], ◌∷◌, ◌++◌, set, Some, All, Contains, inl, inr, ⊎_elim, refl, sym, ap, ◌∙◌, subst, arith, slice_index, if◌then◌else◌, range_with_len, int_eq, Decides-int_eq, All-push, All-contains, Contains-append_cases, Contains-append_right, some, get_elem?, at_map, set_else, one_in, all_at, at_from, from_map, contains_mapped}
use Rattle.segment_invariant.proofs.Prelude.Machine.{Dimensions, buckets_of, Actor, Answered, Known, Spent, is_of, tally_units, tally_sum, tally_noted, has_buckets, bucket_key, units_listed, cost_of, accepted_by, all_counted, all_summed, all_noted, SawCount, is_opener, Sighting, IsFirstSample, is_untouched, SawBucket, State}
use Rattle.segment_invariant.proofs.Prelude.Invariant.{IsWithinCounts, Record, histogram, Anatomy, IsRightlyKnown, HasRecord, IsFirstOf, IsAlone, FinalsAreExact, Invariant, NoteKeeps}
use Rattle.bucket_ranges.specs.declared.spec.Spec.TheVariants as spec
use Rattle.segment_machine.specs.Note.{answers, moment_of, SawAll}
use Rattle.segment_invariant.specs.Invariant.{IsMoment}
use Rattle.list_lemmas.proofs.Elements.{all_from}
use Rattle.segment_invariant.proofs.Frames.LaidOut.{laid_out}
use Rattle.segment_invariant.proofs.Lists.FewTerms.{sum_none, sum_one}
use Rattle.segment_invariant.proofs.Consistency.Keys.{one_key}
use Rattle.segment_invariant.proofs.Consistency.Firsts.{record_of_first}
use Rattle.segment_invariant.proofs.Consistency.Books.{range_at, range_there}
use Rattle.segment_invariant.proofs.Consistency.Sums.{sum_is, noted_is}
use Rattle.segment_invariant.proofs.Counting.Samples.{first_met}
use Rattle.segment_invariant.proofs.Counting.Held.{not_sparse}
use Rattle.segment_invariant.proofs.Counting.Owed.{bucket_owed, sample_counted}
use Rattle.segment_invariant.proofs.Counting.Seen.{known_stands, counter_most}
use Rattle.segment_invariant.proofs.Frames.Answers.{answered_set}
use Rattle.segment_invariant.proofs.Frames.OneActor.{lives_on}
use Rattle.segment_invariant.proofs.Frames.Together.{within}
use Rattle.segment_invariant.proofs.Recorders.Alone.{counted_accepted, noted_accepted}
use Rattle.segment_invariant.proofs.Notes.Counted.{bucketed_or_sparse, counted_at}
use Rattle.segment_invariant.proofs.Notes.Notes.{Noting, noting, noting_of, SameCounts, notes_on, sums}
use Rattle.segment_invariant.proofs.Notes.Actors.{noting_fits, calls_by}
use Rattle.segment_invariant.proofs.Notes.Begins.{takes_nothing}

-- what is listed of a key comes to `n` if nothing listed of it is more, and, unless `n` is 0, one that is no less is the only one of the
-- key
listed_exact : (counts : List (ℤ × ℕ)) (key : ℤ) (n : ℕ)
    → ((i : ℕ) (count : ℤ × ℕ) → get_elem? counts i ≡ some count → count.0 ≡ key → count.1 ≤ n)
    → (0 < n → (k : ℕ) × (count : ℤ × ℕ) × (get_elem? counts k ≡ some count) × (count.0 ≡ key) × (n ≤ count.1)
    × ((j : ℕ) (other : ℤ × ℕ) → get_elem? counts j ≡ some other → other.0 ≡ key → j ≡ k))
    → units_listed counts key ≡ n
listed_exact counts key zero most there =
    sum_none (λ (count : ℤ × ℕ). if int_eq count.0 key then count.1 else 0) counts
    (λ j count at _. by_test count (int_eq count.0 key) (Decides-int_eq count.0 key).0 (most j count at))
  where
    by_test : (count : ℤ × ℕ) (b : Bool) → (b ≡ true → count.0 ≡ key) → (count.0 ≡ key → count.1 ≤ 0) → (if b then count.1 else 0) ≡ 0
    by_test count true same none = let h = none (same refl) in omega (arith, h)
    by_test count false same none = refl
listed_exact counts key (suc n) most there =
    let (k, count, at, keyed, least, only) = there (omega arith) in
    let mine : (if int_eq count.0 key then count.1 else 0) ≡ count.1 = ap (λ (b : Bool). if b then count.1 else 0) ((Decides-int_eq count.0 key).1 keyed) in
    let one = sum_one (λ (count : ℤ × ℕ). if int_eq count.0 key then count.1 else 0) counts k count at
    (λ j other here apart. by_test other (int_eq other.0 key) (λ is. apart (only j other here ((Decides-int_eq other.0 key).0 is)))) in
    let bound = most k count at keyed in
    omega (arith, one, mine, least, bound)
  where
    by_test : (other : ℤ × ℕ) (b : Bool) → (b ≡ true → ⊥) → (if b then other.1 else 0) ≡ 0
    by_test other true none = absurd (none refl)
    by_test other false none = refl

module _ (shape : Dimensions) (opened : Anatomy) (state : State) (kept : Invariant shape opened state) (id : ℕ) (a : Actor)
    (mine : get_elem? state.actors id ≡ some a) (records : is_opener a.role ≡ false) (lived : a.hand.place ≢ Spent) (known : Known) (has : Contains a.answers.names known)
    (answered : Answered) (named : known.name ≡ answered.name) (saw : SawAll a known answered) where
  -- a count of a bucket is that of its place
  bucket_at : has_buckets known.spec ≡ true → (i : ℕ) (count : ℤ × ℕ) → get_elem? answered.counts i ≡ some count
      → (i < buckets_of known.spec) × (count.0 ≡ bucket_key (Some known) i) × SawBucket a known i count.1
  bucket_at is i count there =
      let (keys, each) = saw.buckets is in
      let here = ap (λ (list : List ℤ). get_elem? list i) (sym keys) ∙ at_map (λ (count : ℤ × ℕ). count.0) answered.counts i count there in
      let (b, at, key) = from_map (bucket_key (Some known)) (range_with_len 0 (buckets_of known.spec)) i count.0 here in
      let (same, below) = range_at 0 (buckets_of known.spec) i b at in
      let b_is : b ≡ i = omega (arith, same) in
      (below, sym key ∙ ap (bucket_key (Some known)) b_is, each i count there)

  -- a count of a value is that of its first sample
  value_at : known.spec ≡ spec.Sparse → (i : ℕ) (count : ℤ × ℕ) → get_elem? answered.counts i ≡ some count
      → (sample : ℕ) × IsFirstOf kept.anatomy.records known.reference count.0 sample × SawCount a (sample + 6) count.1
  value_at sparse i count there =
      let (sample, first, counted) = all_at (λ count. (sample : ℕ) × IsFirstSample a.seen known.reference count.0 sample × SawCount a (sample + 6) count.1)
      answered.counts i count (saw.samples sparse) there in
      (sample, first_met shape opened state kept id a mine lived known.reference count.0 sample first, counted)

  -- each is no more than what is counted there
  count_within : (i : ℕ) (count : ℤ × ℕ) → get_elem? answered.counts i ≡ some count → count.1 ≤ tally_units (all_counted state.actors) known.name count.0
  count_within i count there = ⊎_elim
      (λ is.
      let (below, key, bucket) = bucket_at is i count there in
      subst (λ key. count.1 ≤ tally_units (all_counted state.actors) known.name key) (sym key)
      (((kept.each id a mine lived).looks records).most known i count.1 has below bucket))
      (λ sparse.
      let (sample, first, counted) = value_at sparse i count there in
      sample_counted shape opened state kept id a mine lived known count.0 sample has sparse first count.1 counted)
      (bucketed_or_sparse known.spec)

  all_within : IsWithinCounts state.actors answered
  all_within = all_from (λ (count : ℤ × ℕ). count.1 ≤ tally_units (all_counted state.actors) answered.name count.0) answered.counts
      (λ i count there. subst (λ name. count.1 ≤ tally_units (all_counted state.actors) name count.0) named (count_within i count there))

  -- if it is alone, and nothing was counted since, it is exact
  module _ (alone : IsAlone state.actors a) (quiet : All (λ c. (is_of known.name c.entry ≡ false) ⊎ (is_untouched c ≡ true)) a.entries.running) where
    units_exact : (key : ℤ) → units_listed answered.counts key ≡ tally_units (all_counted state.actors) known.name key
    units_exact key = listed_exact answered.counts key (tally_units (all_counted state.actors) known.name key)
        (λ i count there is. subst (λ key. count.1 ≤ tally_units (all_counted state.actors) known.name key) is (count_within i count there))
        (λ some_units.
        let accepted = counted_accepted shape opened state kept id a mine records lived alone known.name quiet key in
        ⊎_elim
        (λ (is, (bucket, below, key_is)).
        let (keys, each) = saw.buckets is in
        let start : 0 + bucket ≡ bucket = omega arith in
        let listed = at_map (bucket_key (Some known)) (range_with_len 0 (buckets_of known.spec)) bucket (0 + bucket) (range_there 0 (buckets_of known.spec) bucket below) in
        let (count, there, count_is) = from_map (λ (count : ℤ × ℕ). count.0) answered.counts bucket (bucket_key (Some known) (0 + bucket))
        (ap (λ (list : List ℤ). get_elem? list bucket) keys ∙ listed) in
        let key_same : count.0 ≡ key = count_is ∙ (ap (bucket_key (Some known)) start ∙ sym key_is) in
        let owed = subst (λ (key : ℤ). tally_units (accepted_by a) known.name key ≤ count.1) (sym key_is)
        (bucket_owed shape opened state kept id a mine lived records alone known bucket count.1 has below (each bucket count there)) in (
          bucket,
          count,
          there,
          key_same,
          omega (arith, accepted, owed),
          λ j other at other_is.
              let (within_j, other_key, saw_other) = bucket_at is j other at in
              let (r, stands, name_is, bounds, many) = known_stands shape opened state kept id a mine lived known has in
              let at_key = λ (i : ℕ). ap (λ list. pos (slice_index list i)) bounds in
              one_key r.spec j bucket (kept.records.lawful known.reference r stands).lawful (not_sparse r.spec bucket (omega (arith, below, many)))
              (omega (arith, within_j, many)) (omega (arith, below, many)) (at_key j ∙ (sym other_key ∙ (other_is ∙ (key_is ∙ sym (at_key bucket))))),
        ))
        (λ (sparse, (at, first, met, saw_sample)).
        let looks = (kept.each id a mine lived).looks records in
        let (count, saw_count, either) = saw.values sparse key at met saw_sample in
        let owed = looks.samples known key at count has first saw_count in
        let (c, among, c_is) = ⊎_elim
        (λ none. absurd (omega (arith, accepted, owed, none, some_units)))
        (λ listed. contains_mapped (λ (count : ℤ × ℕ). count.0) answered.counts key listed)
        either in
        let (k, there) = at_from answered.counts c among in
        let (sample, its_first, its_count) = value_at sparse k c there in
        let its = subst (λ (key : ℤ). tally_units (accepted_by a) known.name key ≤ c.1) c_is (looks.samples known c.0 sample c.1 has its_first its_count) in
        (k, c, there, c_is, omega (arith, accepted, its), λ j other here other_is. saw.once sparse j k other c here there (other_is ∙ sym c_is)))
        (counted_at shape opened state kept id a mine records lived alone known has quiet key some_units))

    knows : IsRightlyKnown kept.anatomy known
    knows = All-contains (IsRightlyKnown kept.anatomy) a.answers.names known (kept.each id a mine lived).names has

    record_is : (r : Record) × (HasRecord kept.anatomy.pieces known.reference r × (r.name ≡ known.name) × (r.spec ≡ knows.first_spec))
    record_is = record_of_first shape opened state.words (laid_out shape opened state kept) known.name knows.first_spec known.reference knows.first

    sum_exact : answered.sum ≡ tally_sum (all_summed state.actors) known.name
    sum_exact =
        let (r, (stands, its_name, its_spec)) = record_is in
        ((kept.each id a mine lived).looks records).sum known.reference answered.sum r saw.sum alone stands
        ∙ (sym (sum_is shape opened state.words (laid_out shape opened state kept) known.name knows.first_spec known.reference r knows.first stands its_name) ∙ kept.balanced.sums known.name)

    redundant_exact : answered.redundant ≡ cost_of kept.roles.opener.entries.first_noted known.name + tally_noted (all_noted state.actors) known.name
    redundant_exact =
        let (r, (stands, its_name, its_spec)) = record_is in
        let (before, is) = saw.redundant in
        let entry : Sighting = record { at = known.reference + 13; word = answered.redundant } in
        let seen : SawCount a (known.reference + 13) answered.redundant =
        subst (λ list. Contains list entry) (sym is) (Contains-append_right before (entry ∷ []) entry (0, omega arith, refl)) in
        let least = ((kept.each id a mine lived).looks records).noted known answered.redundant has seen in
        let most = counter_most shape opened state kept id a mine lived known.reference 13 answered.redundant (histogram r) stands (omega arith) seen in
        let held = noted_is shape opened state.words (laid_out shape opened state kept) known.name knows.first_spec known.reference r knows.first stands its_name in
        let all = kept.balanced.noted known.name in
        let began = kept.first_noted known.name in
        let accepted = noted_accepted shape opened state kept id a mine records lived alone known.name quiet in
        omega (arith, least, most, held, all, began, accepted)

  -- ---- the note

  abbrev teller : Noting
  teller = record (noting_of a) { snapshots = a.deltas.snapshots ++ answered ∷ [] }

  counts : SameCounts a (noting a teller)
  counts = record { counted = λ name key. refl; summed = λ name. refl; noted = λ name. refl; costs = λ name. omega arith; units = refl }

  abbrev tellers : List Actor
  tellers = set state.actors id (noting a teller)

  told_finals : answered.moment ≡ moment_of a → FinalsAreExact tellers kept.roles.opener id a → FinalsAreExact tellers kept.roles.opener id (noting a teller)
  told_finals moment_is exact =
      let same = sums shape opened state kept id a mine records teller lived counts (takes_nothing a teller) (λ name key. refl) in
      let lives = lives_on a records lived in
      let now : IsMoment tellers kept.roles.opener id (noting a teller) (moment_of a) = record {
        logged = omega arith;
        before = kept.roles.younger id a mine lives;
        mine = λ records. (refl, refl);
        eldest = λ none other c there alive ne.
            kept.roles.eldest id other a c mine (sym (set_else state.actors id other (noting a teller) ne) ∙ there) lives alive (λ same. ne (sym same)) none;
      } in record {
        deltas = exact.deltas;
        snapshots = λ s there none youngest rests. ⊎_elim
            (λ old. exact.snapshots s old none youngest rests)
            (λ new.
            let s_is : answered ≡ s = one_in answered s new in
            let moment = sym moment_is ∙ ap (λ (s : Answered). s.moment) s_is in
            let name : known.name ≡ s.name = named ∙ ap (λ (s : Answered). s.name) s_is in
            let alone : IsAlone state.actors a = (
              kept.roles.opener,
              kept.roles.stands,
              ap (λ m. m.outstanding) moment ∙ none,
              ap (λ m. m.before + 1) moment ∙ youngest,
            ) in
            let quiet = subst (λ name. All (λ c. (is_of name c.entry ≡ false) ⊎ (is_untouched c ≡ true)) a.entries.running) (sym name) rests.1 in
            subst (λ (p : Answered × List ℕ).
            ((key : ℤ) → units_listed p.0.counts key ≡ tally_units (all_counted tellers) p.1 key)
            × (p.0.sum ≡ tally_sum (all_summed tellers) p.1) × (p.0.redundant ≡ cost_of kept.roles.opener.entries.first_noted p.1 + tally_noted (all_noted tellers) p.1))
            (λ i. (s_is i, name i)) (
              λ key. units_exact alone quiet key ∙ sym (same.counted known.name key),
              sum_exact alone quiet ∙ sym (same.summed known.name),
              (let redundant = redundant_exact alone quiet in let noted = same.noted known.name in omega (arith, redundant, noted)),
            ))
            (Contains-append_cases a.deltas.snapshots (answered ∷ []) s there);
        each = exact.each;
        moments = λ m of. ⊎_elim
            (λ took. exact.moments m (inl took))
            (λ (s, there, is). ⊎_elim
            (λ old. exact.moments m (inr (s, old, is)))
            (λ new. subst (IsMoment tellers kept.roles.opener id (noting a teller)) (sym moment_is ∙ (ap (λ (s : Answered). s.moment) (one_in answered s new) ∙ is)) now)
            (Contains-append_cases a.deltas.snapshots (answered ∷ []) s there))
            of;
        swapped = exact.swapped;
      }

  told_within : All (IsWithinCounts tellers) a.deltas.snapshots → All (IsWithinCounts tellers) (a.deltas.snapshots ++ answered ∷ [])
  told_within before =
      let same = sums shape opened state kept id a mine records teller lived counts (takes_nothing a teller) (λ name key. refl) in
      All-push (IsWithinCounts tellers) a.deltas.snapshots answered before (within state.actors tellers answered same all_within)

pub answers_kept : (answered : Answered) → NoteKeeps (answers answered)
answers_kept answered shape opened state id a kept mine records (known, has, named, saw, moment_is) =
    let n : Noting = record (noting_of a) { snapshots = a.deltas.snapshots ++ answered ∷ [] } in
    let lived : a.hand.place ≢ Spent = λ is. cc (sym is ∙ saw.sum) in
    let same = counts shape opened state kept id a mine records lived known has answered named saw in
    notes_on shape opened state kept id a mine records n lived same (takes_nothing a n) (λ name key. refl) (λ known has. has)
    (answered_set kept.anatomy.records state.actors id a (noting a n) mine refl refl)
    (λ fit. noting_fits shape kept.anatomy state.cursors _ kept.roles.opener id a n fit fit.names fit.owes
    (calls_by kept.anatomy a n fit.calls same fit.calls.ordered fit.calls.within fit.calls.held fit.calls.ended fit.calls.spent fit.calls.taking)
    (fit.looks records)
    (told_finals shape opened state kept id a mine records lived known has answered named saw moment_is fit.finals)
    (told_within shape opened state kept id a mine records lived known has answered named saw fit.snapshots))
