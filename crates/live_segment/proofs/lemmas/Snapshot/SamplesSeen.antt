-- A snapshot of a sparse histogram has gone through all samples, and gets its answer.
use Rattle.std.proofs.Common.{◌≡◌, ◌≢◌, ℕ, ◌+◌, ◌≤◌, ℤ, true, true≢false, map, List, Some, inl, inr, ⊎_elim, refl, sym, ap, subst, ◌∙◌}
use Rattle.std.specs.Int.{cast_signed, cast_unsigned, w64}
use Rattle.std.specs.List.{All, Contains}
use Rattle.std.proofs.Math.ListN.{get_or}
use Rattle.std.proofs.lemmas.List.Sorted.{All-permutation, Contains-permutation, IsPermutation-map}
use Rattle.segment_calls.specs.declared.answer.Snapshot.{Snapshot}
use Rattle.segment_machine.specs.declared.actor.Actor.{Actor}
use Rattle.segment_machine.specs.declared.actor.Known.{Known}
use Rattle.segment_machine.specs.declared.seen.Seen.{Seen}
use Rattle.segment_machine.specs.Actor.{SawCount, has_buckets}
use Rattle.segment_machine.specs.Calls.{sight}
use Rattle.segment_machine.specs.Made.{IsFirstSample, SawSample}
use Rattle.segment_machine.specs.Note.{SawAll}
use Rattle.segment_machine.proofs.Values.{value_word}
use Rattle.segment_promises.specs.Calls.{SamplesStandBehind}
use Rattle.segment_promises.specs.Values.{AreSorted, NoRepeats}
use Rattle.segment_promises.proofs.Calls.SampleLists.{did_with}
use Rattle.segment_promises.proofs.SortedKeys.{one_place, once_still}
use Rattle.live_segment.specs.declared.segment.Segment.{Segment}
use Rattle.live_segment.specs.Delta.Outcome.{AreUnits}
use Rattle.live_segment.specs.List.IndexedValues.{HasListedAll, ListsThrough}
use Rattle.live_segment.specs.List.Values.{HasListed}
use Rattle.live_segment.specs.List.Values.SampleCall.{OfSnapshot}
use Rattle.live_segment.specs.Snapshot.Outcome.{HasLooked, HasLookedAtAll}
use Rattle.live_segment.specs.Steps.{Pass}
use Rattle.live_segment.proofs.lemmas.Snapshot.Answering.{answered, began, redundant_last, saw_still, summed}

-- a record is the sample of one value
one_value : (seen : Seen) (histogram at : ℕ) (v value : ℤ) → SawSample seen histogram v at → SawSample seen histogram value at → v ≡ value
one_value seen histogram at v value (tag, of, word, fits) (other, same_of, same, fit) =
    let both : Some (cast_unsigned w64 v) ≡ Some (cast_unsigned w64 value) = sym word ∙ same in
    let one : cast_unsigned w64 v ≡ cast_unsigned w64 value = cc both in
    sym (value_word v fits) ∙ (ap (cast_signed w64) one ∙ value_word value fit)

module _ (known : Known) (a b : Actor) (looked : HasLooked a b) (snapshot : Snapshot) (listed : List (ℤ × ℕ)) (all : HasListedAll OfSnapshot known listed b)
    (sparse : has_buckets known.spec ≢ true) (sorted : AreSorted listed snapshot.counts.items) where
  abbrev seen_more : Actor
  seen_more = summed known a b looked snapshot

  still_there : (at word : ℕ) → SawCount b at word → SawCount seen_more at word
  still_there at word saw = saw_still b (sight (known.reference + 13) snapshot.redundant) at word (began known a b looked snapshot) saw

  abbrev IsTotal : ℤ × ℕ → Type 0
  IsTotal count = (sample : ℕ) × IsFirstSample b.seen known.reference count.0 sample × SawCount seen_more (sample + 6) count.1

  totals : All IsTotal listed
  totals k d low =
      let (sample, there, first, (saw, least)) = all.lists.firsts k d low in
      (sample, first, still_there (sample + 6) (get_or listed k d).1 saw)

  saw_values : SawAll seen_more known (answered known a b looked snapshot)
  saw_values = record {
    buckets = λ bucketed. absurd (sparse bucketed);
    samples = λ is. All-permutation IsTotal listed snapshot.counts.items sorted.moved totals;
    once = λ is i j x y here there same. one_place snapshot.counts.items (once_still listed snapshot.counts.items sorted.moved all.lists.once) i j x y here there same;
    values = λ is value sample met saw.
        let (v, shown, (count, counted, either)) = did_with (HasListed listed b) b.seen known.reference all.passed all.lists.passes value sample
        (all.each value sample met saw) saw in (
          count,
          still_there (sample + 6) count counted,
          ⊎_elim inl (λ it. inr (subst (Contains (map (λ (c : ℤ × ℕ). c.0) snapshot.counts.items)) (one_value b.seen known.reference sample v value shown saw)
              (Contains-permutation (map (λ (c : ℤ × ℕ). c.0) listed) (map (λ (c : ℤ × ℕ). c.0) snapshot.counts.items) v
              (IsPermutation-map (λ (c : ℤ × ℕ). c.0) listed snapshot.counts.items sorted.moved) it))) either,
        );
    sum = refl;
    redundant = redundant_last known a b looked snapshot;
  }

module _ {segment : Segment} {known : Known} {listed counts : List (ℤ × ℕ)} {first two : Pass} (through : ListsThrough OfSnapshot segment known listed first two)
    (sorted : AreSorted listed counts) where
  pub has_seen_samples : HasLookedAtAll known first.me.0 counts two.me.0
  has_seen_samples = record {
    looked = through.gone;
    saw = λ behind once snapshot is.
        saw_values known first.me.0 two.me.0 through.gone snapshot listed (through.all behind once)
        (λ bucketed. true≢false (sym bucketed ∙ ap has_buckets through.goes.sparse)) (subst (AreSorted listed) (sym is) sorted);
  }

  -- what it lists has units, and its keys ascend
  pub are_units : SamplesStandBehind two.me.0 → NoRepeats two.me.0.seen.chain → AreUnits counts
  are_units behind once = let lists = (through.all behind once).lists in record {
    ascending = sorted.ascending lists.once;
    some = All-permutation (λ (count : ℤ × ℕ). 1 ≤ count.1) listed counts sorted.moved (λ k d low. (lists.firsts k d low).3.1);
  }
