-- A recorder sees one counter more: what it saw is no later than the present, and it looks back at no more than there is.
use Rattle.segment_invariant.proofs.Prelude.Std.{◌≡◌, ◌≢◌, ◌⊎◌, ℕ, ◌+◌, ◌<◌, ◌≤◌, ℤ, true, List, [], ◌∷◌, ◌++◌, Contains, inl, inr, ⊎_elim, sym, ap, ◌∙◌, subst, arith, Some, length-append, take, drop, drop-append-le, All-push, Contains-append_cases, one_in}
use Rattle.segment_invariant.proofs.Prelude.Machine.{buckets_of, single_of, units_packed, Actor, Known, Seen, Sighting, is_off, tally_units, tally_noted, accepted_by, all_counted, bucket_key, cost_of, word_seen}
use Rattle.segment_invariant.proofs.Prelude.Invariant.{Record, Anatomy, form_at, HasRecord, IsFirstOf, WasCounter, WasInUse, WasMet, Sees, LooksBack}
use Rattle.std.proofs.lemmas.List.{take-append-le}
use Rattle.segment_machine.specs.Actor.{accepted_since, SawSingle}
use Rattle.segment_invariant.specs.Invariant.{NoneInTransit}
use Rattle.segment_invariant.proofs.Changes.Others.{Deed, changed, sees_no_more}

-- with that counter
abbrev pub with_count : Seen → Sighting → Seen
with_count seen s = record seen { counts = seen.counts ++ s ∷ [] }

pub sees_count : (anatomy : Anatomy) (cursors : List ℕ) (seen : Seen) (s : Sighting) → WasCounter anatomy.pieces s → WasInUse anatomy.pieces s
    → WasMet anatomy.pieces seen s → Sees anatomy cursors seen → Sees anatomy cursors (with_count seen s)
sees_count anatomy cursors seen s counter in_use met sees = record {
  free = sees.free;
  walked = sees.walked;
  tails = sees.tails;
  singles = sees.singles;
  counters = All-push (WasCounter anatomy.pieces) seen.counts s sees.counters counter;
  in_use = All-push (WasInUse anatomy.pieces) seen.counts s sees.in_use in_use;
  met = All-push (WasMet anatomy.pieces seen) seen.counts s sees.met met;
  fixed = sees.fixed;
  shared = sees.shared;
}

-- What has to be shown of the counter, for whatever it may be.
pub record Counter (anatomy : Anatomy) (actors : List Actor) (opener a : Actor) (s : Sighting) : Type 0 where
  pub most : (known : Known) (bucket single place : ℕ) → Contains a.answers.names known → bucket < buckets_of known.spec
      → SawSingle a (known.reference + 9) single → is_off single ≡ true → word_seen a.seen.words (known.reference + 8) ≡ Some place → s.at ≡ place + 4 + bucket
      → s.word + units_packed (single_of a.segment.version (buckets_of known.spec) single) bucket ≤ tally_units (all_counted actors) known.name (bucket_key (Some known) bucket)
  pub counted : (known : Known) (bucket : ℕ) (r : Record) → Contains a.answers.names known → bucket < buckets_of known.spec
      → HasRecord anatomy.pieces known.reference r → r.counts ≢ 0 → s.at ≡ r.counts + 4 + bucket → NoneInTransit anatomy actors a known bucket
      → tally_units (accepted_by a) known.name (bucket_key (Some known) bucket) ≤ s.word + units_packed (form_at anatomy.version r) bucket
  pub samples : (known : Known) (value : ℤ) (at : ℕ) → Contains a.answers.names known → IsFirstOf anatomy.records known.reference value at → s.at ≡ at + 6
      → tally_units (accepted_by a) known.name value ≤ s.word
  pub rising : (t : Sighting) → Contains (take a.since.counts a.seen.counts) t → t.at ≡ s.at → t.word ≤ s.word
  pub noted : (known : Known) → Contains a.answers.names known → s.at ≡ known.reference + 13
      → cost_of opener.entries.first_noted known.name + tally_noted (accepted_since opener a) known.name ≤ s.word

-- so it looks back
pub looks_count : (anatomy : Anatomy) (actors : List Actor) (opener a : Actor) (s : Sighting) (d : Deed) → Counter anatomy actors opener a s
    → LooksBack anatomy actors opener (changed a (sees_no_more a d))
    → LooksBack anatomy actors opener (changed a (record d { seen = with_count a.seen s }))
looks_count anatomy actors opener a s d shows looks = record {
  most = λ known bucket total has below (single, saw, either). ⊎_elim
      (λ on. looks.most known bucket total has below (single, saw, inl on))
      (λ (off, (place, count, named, counted, is)). ⊎_elim
      (λ was. looks.most known bucket total has below (single, saw, inr (off, (place, count, named, was, is))))
      (λ same.
      let most = shows.most known bucket single place has below saw off named (ap (λ (t : Sighting). t.at) same) in
      let word = ap (λ (t : Sighting). t.word) same in
      omega (arith, most, word, is))
      (since _ counted))
      either;
  packed = looks.packed;
  counted = λ known bucket count r has below there mounts saw settled. ⊎_elim
      (λ was. looks.counted known bucket count r has below there mounts was settled)
      (λ same.
      let most = shows.counted known bucket r has below there mounts (ap (λ (t : Sighting). t.at) same) settled in
      let word = ap (λ (t : Sighting). t.word) same in
      omega (arith, most, word))
      (since _ saw);
  samples = λ known value at count has first saw. ⊎_elim
      (λ was. looks.samples known value at count has first was)
      (λ same.
      let most = shows.samples known value at has first (ap (λ (t : Sighting). t.at) same) in
      let word = ap (λ (t : Sighting). t.word) same in
      omega (arith, most, word))
      (since _ saw);
  rising = λ t u before now same. ⊎_elim
      (λ was. looks.rising t u (subst (λ (l : List Sighting). Contains l t) old before) was same)
      (λ one. subst (λ (z : Sighting). t.word ≤ z.word) one (shows.rising t (subst (λ (l : List Sighting). Contains l t) old before) (same ∙ ap (λ (z : Sighting). z.at) (sym one))))
      (since u now);
  leading = looks.leading;
  closed = λ t u r c at i before. looks.closed t u r c at i (subst (λ (l : List Sighting). Contains l t) old before);
  begun = (looks.begun.0, (let low = looks.begun.1 in let long = length-append a.seen.counts (s ∷ []) in omega (arith, low, long)));
  noted = λ known count has saw. ⊎_elim
      (λ was. looks.noted known count has was)
      (λ same.
      let most = shows.noted known has (ap (λ (t : Sighting). t.at) same) in
      let word = ap (λ (t : Sighting). t.word) same in
      omega (arith, most, word))
      (since _ saw);
  sum = looks.sum;
}
  where
    -- what it saw before it began to look is what it was
    old : take a.since.counts (a.seen.counts ++ s ∷ []) ≡ take a.since.counts a.seen.counts
    old = take-append-le a.since.counts a.seen.counts (s ∷ []) looks.begun.1

    -- and since then it saw that one more
    since : (t : Sighting) → Contains (drop a.since.counts (a.seen.counts ++ s ∷ [])) t → Contains (drop a.since.counts a.seen.counts) t ⊎ (s ≡ t)
    since t has = ⊎_elim (λ was. inl was) (λ one. inr (one_in s t one))
        (Contains-append_cases (drop a.since.counts a.seen.counts) (s ∷ []) t
        (subst (λ (l : List Sighting). Contains l t) (drop-append-le a.since.counts a.seen.counts (s ∷ []) looks.begun.1) has))
