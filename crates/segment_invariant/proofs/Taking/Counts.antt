-- A count is loaded: of a bucket, or of a sample that was visited.
use Rattle.segment_invariant.proofs.Prelude.Std.{◌≡◌, ◌≢◌, ℕ, ◌+◌, ◌-◌, ◌<◌, ℤ, true, false, [], ◌∷◌, ◌++◌, set, Contains, inl, inr, refl, sym, ap, ◌∙◌, subst, arith, All-contains, Contains-push, some, get_elem?}
use Rattle.segment_invariant.proofs.Prelude.Machine.{Dimensions, word_at, buckets_of, Actor, Known, Look, Place, Spent, Looking, Moving, CountLoaded, Sighting, is_bound, Buckets, is_opener, is_off, SawSample, State, load_count, taking_event, Ready, next}
use Rattle.segment_invariant.proofs.Prelude.Invariant.{sample, Anatomy, WasSingle, StandsRight, Invariant, KeptOn}
use Rattle.segment_machine.specs.declared.place.Place.TheVariants.{SampleLoaded}
use Rattle.segment_machine.specs.Actor.{Sparse}
use Rattle.segment_machine.specs.Taking.{at_count, is_looking}
use Rattle.segment_invariant.specs.Invariant.{LoadedOff, LooksRight}
use Rattle.segment_invariant.proofs.Frames.GoesOn.{happens}
use Rattle.segment_invariant.proofs.Frames.Leads.{off_leads}
use Rattle.segment_invariant.proofs.Frames.SeesMore.{seer}
use Rattle.segment_invariant.proofs.Frames.Shown.{Goes, loaded}
use Rattle.segment_invariant.proofs.Counting.Bounds.{counted_fits}
use Rattle.segment_invariant.proofs.Counting.Held.{sample_most}
use Rattle.segment_invariant.proofs.Counting.Looks.{body_word, single_now}
use Rattle.segment_invariant.proofs.Counting.Samples.{sample_met, later_learned}
use Rattle.segment_invariant.proofs.Counting.SampleSeen.{sample_seen}
use Rattle.segment_invariant.proofs.Counting.Sights.{word_within}
use Rattle.segment_invariant.proofs.Counting.CountSeen.{the_counts, count_there, off_seen}

-- the place after the count of a sample was loaded
at_sample : (p : Place) (at n : ℕ) → is_looking p ≡ false → at_count p at n ≡ SampleLoaded (at - 6) n
at_sample (Looking look) at n looks = absurd (cc looks)
at_sample (CountLoaded look bucket count) at n looks = absurd (cc looks)
at_sample p at n looks = refl

module _ (shape : Dimensions) (opened : Anatomy) (state : State) (kept : Invariant shape opened state) (id : ℕ) (a : Actor)
    (mine : get_elem? state.actors id ≡ some a) (records : is_opener a.role ≡ false) where
  abbrev LoadsCount : ℕ → Type 0
  LoadsCount at = Goes shape opened state kept id a mine records (taking_event (load_count at))

  module _ (unbound : is_bound a.hand.place ≡ false) where
    lives : a.hand.place ≢ Spent
    lives spent = cc (unbound, ap is_bound spent)

    still : (look : Look) (bucket units : ℕ) → a.hand.place ≢ Moving look bucket units
    still look bucket units moving = cc (unbound, ap is_bound moving)

    -- ---- of a bucket

    bucket_loaded : (look : Look) (known : Known) (bucket : ℕ) → LoadedOff a look → Buckets a look.histogram known → bucket < buckets_of known.spec
        → ((n : ℕ) → at_count a.hand.place (look.counts + 4 + bucket) n ≡ CountLoaded look bucket n) → LoadsCount (look.counts + 4 + bucket)
    bucket_loaded look known bucket (right, some_counts, (word, single_is, word_off)) (has, refers, bucketed) below placed =
        let at : ℕ = look.counts + 4 + bucket in
        let found : ℕ = word_at state.words at in
        let place : Place = CountLoaded look bucket found in
        let knows : LooksRight a look = record { known = known; knows = (has, refers, bucketed); single = right.single; counts = right.counts } in
        let (r, c, stands, mounted, of_it, low, now, few) = the_counts shape opened state kept id a mine records unbound look knows some_counts bucket below in
        let leads = single_now shape opened state kept (record { at = look.histogram + 9; word = word }) look.histogram r
        (All-contains (WasSingle kept.anatomy.version kept.anatomy.pieces) a.seen.singles _ (kept.each id a mine lives).sees.singles (right.single word single_is)) refl stands in
        let r_off : is_off r.single ≡ true = sym (ap is_off (off_leads kept.anatomy.version (buckets_of r.spec) word r.single word_off leads.1)) ∙ word_off in
        happens opened.version state id a (taking_event (load_count at))
        (count_there shape opened state kept id a mine records unbound look knows some_counts bucket below) shape opened kept (
          loaded shape opened state kept id a mine records at (next a (taking_event (load_count at)) found)
              (subst (λ (p : Place). KeptOn shape opened kept (record {
                words = state.words;
                cursors = state.cursors;
                actors = set state.actors id (seer a p (record a.seen { counts = a.seen.counts ++ record { at = at; word = found } ∷ [] }) a.done.given a.done.lost);
              })) (sym (placed found))
              (off_seen shape opened state kept id a mine records unbound look knows some_counts bucket below r_off place refl (λ reference sum is. cc is)
              ((knows, some_counts, (word, single_is, word_off)), below, Contains-push a.seen.counts (record { at = at; word = found })))),
          (few, λ other at_is later. ap (word_at state.words) at_is ∙ later_learned shape opened state kept id a mine lives other later),
        )

    -- ---- of a sample

    sample_loaded : (known : Known) (reference : ℕ) (value : ℤ) → Sparse a known.reference known → Contains a.seen.chain reference
        → SawSample a.seen known.reference value reference → is_looking a.hand.place ≡ false → LoadsCount (reference + 6)
    sample_loaded known reference value sparse met saw looks =
        let at : ℕ = reference + 6 in
        let found : ℕ = word_at state.words at in
        let z : Sighting = record { at = at; word = found } in
        let (s, stands, of_it, valued) = sample_met shape opened state kept id a mine lives reference known.reference value met saw in
        let now = body_word shape opened state kept reference 6 (sample s) stands (omega arith) in
        let most = sample_most shape opened state kept reference s stands in
        let bound = counted_fits shape opened state kept s.name s.value in
        let back : reference + 6 - 6 ≡ reference = omega arith in
        happens opened.version state id a (taking_event (load_count at)) (word_within shape opened state kept reference 6 (sample s) stands refl (omega arith)) shape opened kept (
          loaded shape opened state kept id a mine records at (next a (taking_event (load_count at)) found)
              (subst (λ (p : Place). KeptOn shape opened kept (record {
                words = state.words;
                cursors = state.cursors;
                actors = set state.actors id (seer a p (record a.seen { counts = a.seen.counts ++ z ∷ [] }) a.done.given a.done.lost);
              })) (sym (at_sample a.hand.place at found looks ∙ ap (λ (n : ℕ). SampleLoaded n found) back))
              (sample_seen shape opened state kept id a mine records unbound reference known.reference value met saw 6 (inl refl) (SampleLoaded reference found) refl
              (λ other sum is. cc is) ((known.reference, known, value, sparse, met, saw), Contains-push a.seen.counts z))),
          (omega (arith, now, most, bound), λ other at_is later. ap (word_at state.words) at_is ∙ later_learned shape opened state kept id a mine lives other later),
        )

  pub count_loaded : (at : ℕ) → Ready a (taking_event (load_count at)) → LoadsCount at
  count_loaded at (inl (look, known, bucket, inl (placed, some_counts, off, buckets), below, at_is)) =
      let spot : look.counts + 4 + bucket - (look.counts + 4) ≡ bucket = omega arith in
      subst LoadsCount (sym at_is) (bucket_loaded (ap is_bound placed) look known bucket
      (subst (StandsRight shape kept.anatomy id a) placed (kept.standing id a mine), some_counts, off) buckets below
      (λ n. ap (λ (p : Place). at_count p (look.counts + 4 + bucket) n) placed ∙ ap (λ (k : ℕ). CountLoaded look k n) spot))
  count_loaded at (inl (look, known, bucket, inr (b, count, placed, buckets), below, at_is)) =
      let spot : look.counts + 4 + bucket - (look.counts + 4) ≡ bucket = omega arith in
      let (off, within, saw) = subst (StandsRight shape kept.anatomy id a) placed (kept.standing id a mine) in
      subst LoadsCount (sym at_is) (bucket_loaded (ap is_bound placed) look known bucket off buckets below
      (λ n. ap (λ (p : Place). at_count p (look.counts + 4 + bucket) n) placed ∙ ap (λ (k : ℕ). CountLoaded look k n) spot))
  count_loaded at (inr (known, reference, value, sparse, met, saw, at_is, unbound, looks)) =
      subst LoadsCount (sym at_is) (sample_loaded unbound known reference value sparse met saw looks)
