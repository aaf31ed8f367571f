-- The mark of a sample is raised to the count that was loaded: the invariant is kept, with what is learned.
use Rattle.segment_invariant.proofs.Prelude.Std.{◌≡◌, ◌≢◌, Bool, true, false, if◌then◌else◌, ℕ, ◌+◌, ◌-◌, max, ◌<◌, ◌≤◌, ℤ, List, [], ◌∷◌, ◌++◌, length, set, Contains, Some, inl, inr, refl, sym, ap, ◌∙◌, subst, arith, unwrap_or, w64, cast_signed, int_eq, bytes_eq, set-set, get_or-set_same, All-contains, dite, some, ℕ_discrete, get_elem?}
use Rattle.segment_invariant.proofs.Prelude.Machine.{Dimensions, word_at, Actor, Known, Taken, Place, Spent, Idle, word_seen, all_counted, all_taken, taken_units, is_opener, back, change_last, tally_units, taking_event, SawSample, State, raise_mark}
use Rattle.segment_invariant.proofs.Prelude.Invariant.{Sample, sample, histogram, Anatomy, of_name, marks_held, HasSample, IsFirst, IsFirstOf, WasCounter, StandsRight, HasKey, Invariant, KeptOn, is_beaten}
use Rattle.std.specs.Prelude as std
use Rattle.alloc_core.proofs.Owners.{set_at}
use Rattle.bucket_ranges.specs.declared.spec.Spec.TheVariants as spec
use Rattle.segment_machine.specs.declared.place.Place.TheVariants.{SampleLoaded}
use Rattle.segment_machine.specs.Taking.{take_units, taken_key, Takes}
use Rattle.segment_machine.proofs.Values.{value_word}
use Rattle.segment_invariant.proofs.Frames.LaidOut.{laid_out}
use Rattle.segment_invariant.proofs.Lists.Tallies.{tally_at}
use Rattle.segment_invariant.proofs.Consistency.Books.{marks_book, one_first, one_name, sample_first, value_held}
use Rattle.segment_invariant.proofs.Consistency.Firsts.{record_of_first}
use Rattle.segment_invariant.proofs.Frames.GoesOn.{happens}
use Rattle.segment_invariant.proofs.Frames.SeesMore.{seer}
use Rattle.segment_invariant.proofs.Frames.Shown.{Goes}
use Rattle.segment_invariant.proofs.Frames.Rises.{kept_again}
use Rattle.segment_invariant.proofs.Changes.Samples.{sample_kept, no_sample_was}
use Rattle.segment_invariant.proofs.Changes.Words.{Turns, word_turns}
use Rattle.segment_invariant.proofs.Counting.AddSample.{one_sample}
use Rattle.segment_invariant.proofs.Counting.Bounds.{counted_fits}
use Rattle.segment_invariant.proofs.Counting.Held.{not_sparse, sample_most}
use Rattle.segment_invariant.proofs.Counting.Looks.{knows_of, body_word, counter_now}
use Rattle.segment_invariant.proofs.Counting.Samples.{sample_met}
use Rattle.segment_invariant.proofs.Counting.SampleSeen.{sample_seen}
use Rattle.segment_invariant.proofs.Counting.Sights.{word_within}
use Rattle.segment_invariant.proofs.Counting.Whole.{whole_sample}
use Rattle.segment_invariant.proofs.Taking.Takes.{b, takes_kept, raised_is}

-- a sample that counts is the first of its value, and its mark is what was taken
module _ (shape : Dimensions) (opened : Anatomy) (state : State) (kept : Invariant shape opened state) (at : ℕ) (s : Sample)
    (stands : HasSample kept.anatomy.pieces at s) (some_units : 1 ≤ s.units) where
  sparse : IsFirst kept.anatomy.records s.name spec.Sparse s.of
  sparse = sample_first shape opened state.words (laid_out shape opened state kept) at s stands

  counting_first : IsFirstOf kept.anatomy.records s.of s.value at
  counting_first =
      let most = sample_most shape opened state kept at s stands in
      let (e, among, named, keyed, units) = tally_at (all_counted state.actors) s.name s.value (omega (arith, some_units, most)) in
      by_key (subst (λ (p : List ℕ × ℤ). HasKey kept.anatomy.records p.0 p.1) (λ i. (named i, keyed i)) (kept.keys e among units))
    where
      by_key : HasKey kept.anatomy.records s.name s.value → IsFirstOf kept.anatomy.records s.of s.value at
      by_key (kind, of, its_first, inl (bucket, below, key)) =
          absurd (not_sparse kind bucket below (one_first shape opened state kept s.name kind spec.Sparse of s.of its_first sparse).1)
      by_key (kind, of, its_first, inr (is_sparse, place, is_first)) =
          let first = subst (λ (n : ℕ). IsFirstOf kept.anatomy.records n s.value place)
          (one_first shape opened state kept s.name kind spec.Sparse of s.of its_first sparse).0 is_first in
          dite (ℕ_discrete place at)
          (λ same. subst (λ (n : ℕ). IsFirstOf kept.anatomy.records s.of s.value n) same first)
          (λ later. let nothing = (kept.records.later_samples at place s stands first later).0 in absurd (omega (arith, nothing, some_units)))

  mark_taken : taken_units (all_taken state.actors) s.name s.value ≡ s.mark
  mark_taken =
      let (r, (here, named, is_sparse)) = record_of_first shape opened state.words (laid_out shape opened state kept) s.name spec.Sparse s.of sparse in
      let held = value_held shape opened state.words (laid_out shape opened state kept) s.name spec.Sparse s.of r sparse here named is_sparse s.value _ _ _ _
      (marks_book kept.anatomy.version s.name s.value) is_sparse at s counting_first stands refl refl in
      let ledger = kept.balanced.marks s.name s.value in
      omega (arith, held, ledger)

module _ (shape : Dimensions) (opened : Anatomy) (state : State) (kept : Invariant shape opened state) (id : ℕ) (a : Actor)
    (mine : get_elem? state.actors id ≡ some a) (recorder : is_opener a.role ≡ false) (at of least : ℕ) (known : Known)
    (placed : a.hand.place ≡ SampleLoaded at least) (some_units : 1 ≤ least) (refers : word_seen a.seen.words (at + 4) ≡ Some of) (takes : Takes a of known) where
  lives : a.hand.place ≢ Spent
  lives spent = cc (sym placed ∙ spent)

  abbrev stood : StandsRight shape kept.anatomy id a (SampleLoaded at least)
  stood = subst (StandsRight shape kept.anatomy id a) placed (kept.standing id a mine)

  -- it visited the sample
  abbrev value : ℤ
  value = stood.0.2

  met : Contains a.seen.chain at
  met = stood.0.4

  saw : SawSample a.seen of value at
  saw =
      let same : Some stood.0.0 ≡ Some of = sym stood.0.5.1 ∙ refers in
      let is : stood.0.0 ≡ of = cc same in
      subst (λ (n : ℕ). SawSample a.seen n value at) is stood.0.5

  -- which is of the name of the delta
  found : (s : Sample) × HasSample kept.anatomy.pieces at s × (s.value ≡ value) × (s.name ≡ known.name)
  found =
      let (s, there, of_it, valued) = sample_met shape opened state kept id a mine lives at of value met saw in
      let (r, its_first, stands, called, many, keys) = knows_of shape opened state kept id a mine recorder lives known takes.1 in (
        s,
        there,
        valued,
        one_name shape opened state kept s.name known.name spec.Sparse r.spec of
            (subst (λ (n : ℕ). IsFirst kept.anatomy.records s.name spec.Sparse n) of_it (sample_first shape opened state.words (laid_out shape opened state kept) at s there))
            (subst (λ (n : ℕ). IsFirst kept.anatomy.records known.name r.spec n) takes.2 its_first),
      )

  abbrev s : Sample
  s = found.0

  stands : HasSample kept.anatomy.pieces at s
  stands = found.1

  -- and counts what was loaded, or more
  loaded : least ≤ s.units
  loaded =
      let now = counter_now shape opened state kept _
      (All-contains (WasCounter kept.anatomy.pieces) a.seen.counts _ (kept.each id a mine lives).sees.counters stood.1) in
      let word = body_word shape opened state kept at 6 (sample s) stands (omega arith) in
      omega (arith, now, word)

  counts : 1 ≤ s.units
  counts = let most = loaded in omega (arith, some_units, most)

  first : IsFirstOf kept.anatomy.records s.of s.value at
  first = counting_first shape opened state kept at s stands counts

  few : taken_units (all_taken state.actors) known.name s.value + (least - s.mark) ≤ tally_units (all_counted state.actors) known.name s.value
  few =
      let taken = mark_taken shape opened state kept at s stands counts in
      let whole = whole_sample shape opened state kept s.of s.value at s first stands in
      let most = (kept.records.valued at s stands).taken in
      let least_is = loaded in
      subst (λ (name : List ℕ). taken_units (all_taken state.actors) name s.value + (least - s.mark) ≤ tally_units (all_counted state.actors) name s.value) found.3
      (omega (arith, taken, whole, most, least_is))

  -- ---- the mark rises

  abbrev v : ℕ
  v = s.mark + (least - s.mark)

  abbrev more : Sample
  more = record s { mark = v }

  turns : Turns kept.anatomy.version (sample s) (sample more) 7 v
  turns = word_turns kept.anatomy.version (sample s) (sample more) 7 v refl refl refl (omega arith) (omega arith)
      (more, refl, record { is = refl; units = omega arith; mark = omega arith })

  abbrev front : List Taken
  front = takes.3.0

  abbrev last : Taken
  last = takes.3.1

  marks_more : (name : List ℕ) (other : ℤ) → marks_held kept.anatomy.version name other (sample more)
      ≡ marks_held kept.anatomy.version name other (sample s) + of_name known.name name (if int_eq s.value other then least - s.mark else 0)
  marks_more name other =
      by_name (bytes_eq s.name name) (int_eq s.value other)
      ∙ ap (λ (called : List ℕ). marks_held kept.anatomy.version name other (sample s) + of_name called name (if int_eq s.value other then least - s.mark else 0)) found.3
    where
      by_name : (p t : Bool) → (if p then (if t then v else 0) else 0)
          ≡ (if p then (if t then s.mark else 0) else 0) + (if p then (if t then least - s.mark else 0) else 0)
      by_name true true = refl
      by_name true false = refl
      by_name false t = refl

  abbrev d : Actor
  d = b shape opened state kept at (sample s) (sample more) 7 v stands turns id a mine recorder lives known takes.0 front last takes.3.2 takes.3.3 s.value least s.mark Idle

  abbrev between : State
  between = record { words = set state.words (at + 7) v; cursors = state.cursors; actors = set state.actors id d }

  first_step : KeptOn shape opened kept between
  first_step = takes_kept shape opened state kept at (sample s) (sample more) 7 v stands turns id a mine recorder lives known takes.0 front last takes.3.2
      takes.3.3 s.value least s.mark Idle (record {
        records =
            let lawful = kept.records.valued at s stands in
            let most = lawful.taken in
            let least_is = loaded in
            sample_kept shape opened state kept at s more 7 v stands turns refl
            (record { sized = lawful.sized; valued = lawful.valued; taken = omega (arith, most, least_is) })
            (λ place is. one_sample kept.anatomy.records s.of s.value place at is first);
        units = λ name other. refl;
        marks = marks_more;
        amounts = λ name. (refl, refl, refl);
        sums = λ place z there. (z, no_sample_was shape opened state kept at s more 7 v stands turns place (histogram z) (λ e. cc e) there, refl, refl, refl);
        few = few;
        keyed = subst (λ (name : List ℕ). HasKey kept.anatomy.records name s.value) found.3
            (spec.Sparse, s.of, sample_first shape opened state.words (laid_out shape opened state kept) at s stands, inr (refl, at, first));
        lives = λ spent. cc spent;
        no_sum = λ reference sum is. cc is;
        still = (λ look bucket units moving. cc (sym placed ∙ moving), λ look bucket units moving. cc moving);
        stood = tt;
        up = λ free. subst (λ (p : Place). is_beaten p ≡ false) (sym placed) refl;
      })

  abbrev kept_between : Invariant shape opened between
  kept_between = first_step.0

  mine_between : get_elem? between.actors id ≡ some d
  mine_between = set_at state.actors id a d mine

  -- ---- and then it sees the mark

  there : at + 7 < length state.words
  there = word_within shape opened state kept at 7 (sample s) stands refl (omega arith)

  found_is : word_at state.words (at + 7) ≡ s.mark
  found_is = body_word shape opened state kept at 7 (sample s) stands (omega arith)

  word_between : word_at between.words (at + 7) ≡ v
  word_between = get_or-set_same state.words (at + 7) v 0 there

  left : KeptOn shape opened kept (record {
    words = between.words;
    cursors = state.cursors;
    actors = set between.actors id (seer d Idle (record a.seen { counts = a.seen.counts ++ record { at = at + 7; word = word_at between.words (at + 7) } ∷ [] }) a.done.given a.done.lost);
  })
  left = kept_again shape opened state kept first_step
      (sample_seen shape opened between kept_between id d mine_between recorder refl at of value met saw 7 (inr refl) Idle refl (λ reference sum is. cc is) tt)

  carry : v ≡ max (word_at state.words (at + 7)) least
  carry = raised_is s.mark least ∙ ap (λ (n : ℕ). max n least) (sym found_is)

  key_is : s.value ≡ taken_key a a.hand.place
  key_is = found.2 ∙ (sym (ap (λ (word : std.Option ℕ). cast_signed w64 (unwrap_or word 0)) saw.2 ∙ value_word value saw.3) ∙ sym (ap (taken_key a) placed))

  raised_at : Goes shape opened state kept id a mine recorder (taking_event (raise_mark (at + 7) least))
  raised_at = happens opened.version state id a (taking_event (raise_mark (at + 7) least)) there shape opened kept (
    subst (λ (p : List ℕ × List Actor). KeptOn shape opened kept (record { words = p.0; cursors = state.cursors; actors = p.1 }))
        (λ i. (
          set state.words (at + 7) (carry i),
          (set-set state.actors id d (seer d Idle (record a.seen { counts = a.seen.counts ++ record { at = at + 7; word = word_at between.words (at + 7) } ∷ [] }) a.done.given a.done.lost)
              ∙ (λ j. set state.actors id (record a {
                hand = record a.hand { place = (sym (ap back placed)) j };
                deltas = record a.deltas { taken = change_last (take_units (key_is j) least (sym found_is j)) a.deltas.taken };
                seen = record a.seen { counts = a.seen.counts ++ record { at = at + 7; word = (word_between ∙ carry) j } ∷ [] };
              }))) i,
        )) left,
    (let most = (kept.records.valued at s stands).taken in
        let whole = whole_sample shape opened state kept s.of s.value at s first stands in
        let bound = counted_fits shape opened state kept s.name s.value in
        omega (arith, found_is, most, whole, bound)),
  )

-- The mark of a sample is raised
abbrev pub RaisesSample : Actor → ℕ → ℕ → Type 0
RaisesSample a place least =
    (at of : ℕ) × (known : Known) × (a.hand.place ≡ SampleLoaded at least) × (word_seen a.seen.words (at + 4) ≡ Some of) × Takes a of known × (place ≡ at + 7)

-- so what holds is kept
pub sample_raised : (shape : Dimensions) (opened : Anatomy) (state : State) (kept : Invariant shape opened state) (id : ℕ) (a : Actor)
    (mine : get_elem? state.actors id ≡ some a) (recorder : is_opener a.role ≡ false) (place least : ℕ) → 1 ≤ least → RaisesSample a place least
    → Goes shape opened state kept id a mine recorder (taking_event (raise_mark place least))
sample_raised shape opened state kept id a mine recorder place least some_units (at, of, known, placed, refers, takes, is) =
    subst (λ (n : ℕ). Goes shape opened state kept id a mine recorder (taking_event (raise_mark n least))) (sym is)
    (raised_at shape opened state kept id a mine recorder at of least known placed some_units refers takes)
