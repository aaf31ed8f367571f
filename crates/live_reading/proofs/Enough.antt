-- A snapshot that has enough for a recorder has enough for it as it was before it looked.
use Rattle.std.proofs.Common.{◌≡◌, ◌≤◌, ℕ, ℤ, List, ◌∷◌, ◌++◌, map, sym, ap, subst, ◌∙◌, append_assoc}
use Rattle.std.specs.List.{Contains}
use Rattle.std.proofs.lemmas.List.Elements.{Contains-append_left}
use Rattle.bucket_ranges.specs.Single.{single_of, units_packed}
use Rattle.bucket_ranges.specs.Spec.{buckets_of}
use Rattle.segment_calls.specs.declared.answer.Snapshot.{Snapshot}
use Rattle.segment_machine.specs.declared.actor.Actor.{Actor}
use Rattle.segment_machine.specs.declared.actor.Entries.{Entries}
use Rattle.segment_machine.specs.declared.actor.Known.{Known}
use Rattle.segment_machine.specs.declared.actor.Segment.{Segment}
use Rattle.segment_machine.specs.declared.entry.EntryProgress.{EntryProgress}
use Rattle.segment_machine.specs.declared.seen.Sighting.{Sighting}
use Rattle.segment_machine.specs.Entry.{tally_noted, tally_units}
use Rattle.segment_promises.specs.Onward.{Grows}
use Rattle.segment_promises.proofs.Growing.{others_still, still}
use Rattle.segment_promises.proofs.ListedValues.{sample_still}
use Rattle.live_segment.specs.Delta.Owed.{HadCount, HadPacked, HadSample, HasEnough, IsEnough}
use Rattle.live_reading.specs.Reading.{OnlyLooks}

-- what it had seen it has still seen
has_still : (old new : List Sighting) → Grows old new → (sighting : Sighting) → Contains old sighting → Contains new sighting
has_still old new (more, grown) sighting has = subst (λ (l : List Sighting). Contains l sighting) (sym grown) (Contains-append_left old more sighting has)

module _ (known : Known) (a b : Actor) (looks : OnlyLooks a b) where
  segment_is : b.segment ≡ a.segment
  segment_is = ap (λ (x : Actor). x.segment) looks.same

  entries_are : b.entries ≡ a.entries
  entries_are = ap (λ (x : Actor). x.entries) looks.same

  packed_still : (bucket n : ℕ) → HadPacked a known bucket n → HadPacked b known bucket n
  packed_still bucket n (word, had, is) = (
    word,
    has_still a.seen.singles b.seen.singles looks.seen.singles _ had,
    subst (λ (s : Segment). n ≡ units_packed (single_of s.version (buckets_of known.spec) word) bucket) (sym segment_is) is,
  )

  count_still : (bucket n : ℕ) → HadCount a known bucket n → HadCount b known bucket n
  count_still bucket n (counts, saw, had) =
      (counts, still a.seen.words b.seen.words looks.seen.words _ counts saw, has_still a.seen.counts b.seen.counts looks.seen.counts _ had)

  first_still : (value : ℤ) (n : ℕ) → HadSample a known value n → HadSample b known value n
  first_still value n (sample, (front, rest, split, (before, behind, parts, others, saw)), had) =
      let (more, grown) = looks.seen.chain in (
        sample,
        (
          front,
          rest ++ more,
          grown ∙ (ap (λ (l : List ℕ). l ++ more) split ∙ append_assoc front (known.reference ∷ rest) more),
          (
            before,
            behind ++ more,
            ap (λ (l : List ℕ). l ++ more) parts ∙ append_assoc before (sample ∷ behind) more,
            others_still a.seen b.seen looks.seen.words known.reference value before others,
            sample_still a.seen b.seen looks.seen.words known.reference value sample saw,
          ),
        ),
        has_still a.seen.counts b.seen.counts looks.seen.counts _ had,
      )

  -- of each key
  is_enough_before : (c : Actor) (units : ℤ → ℕ) → IsEnough known b c units → IsEnough known a c units
  is_enough_before c units enough = record {
    accepted = λ key whole.
        subst (λ (e : Entries). tally_units (e.inherited ++ (e.first ++ map (λ (c : EntryProgress). c.entry) e.log)) known.name key ≤ units key) entries_are
        (enough.accepted key whole);
    packed = λ bucket n below whole had. enough.packed bucket n below whole (packed_still bucket n had);
    counted = λ bucket n below had. enough.counted bucket n below (count_still bucket n had);
    both = λ two bucket m n below had also. enough.both two bucket m n below (count_still bucket m had) (packed_still bucket n also);
    sampled = λ sparse value n had. enough.sampled sparse value n (first_still value n had);
  }

  pub enough_before : (c : Actor) (snapshot : Snapshot) → HasEnough known b snapshot c → HasEnough known a snapshot c
  enough_before c snapshot has = record {
    enough = is_enough_before c _ has.enough;
    accepted = subst (λ (e : Entries). tally_noted (map (λ (c : EntryProgress). c.entry) e.log) known.name ≤ snapshot.redundant) entries_are has.accepted;
    redundant = λ count had. has.redundant count (has_still a.seen.counts b.seen.counts looks.seen.counts _ had);
  }
