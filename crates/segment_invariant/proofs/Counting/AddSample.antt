-- The units of the entry that is next are added to the count of the first sample of their value.
use Rattle.segment_invariant.proofs.Prelude.Std.{◌≡◌, ◌≢◌, Bool, true, false, if◌then◌else◌, ◌&&◌, ℕ, ◌+◌, ◌%◌, ◌^◌, ◌<◌, ◌≤◌, ℤ, List, [], ◌∷◌, ◌++◌, length, set, Contains, inl, inr, refl, sym, ap, ◌∙◌, subst, arith, int_eq, bytes_eq, set-set, get_or-set_same, Contains-append_right, some, get_elem?, split_among}
use Rattle.segment_invariant.proofs.Prelude.Machine.{Dimensions, word_at, EntryProgress, Actor, Known, Spent, Idle, Seen, is_counted, is_bound, is_opener, MayTurn, add_count, counting_event, SawSample, IsFirstSample, State}
use Rattle.segment_invariant.proofs.Prelude.Invariant.{Sample, sample, histogram, Listed, Anatomy, units_held, HasSample, IsValued, IsFirst, IsFirstOf, Invariant, KeptOn}
use Rattle.std.proofs.Math.Nat.{mod-eq_of_lt}
use Rattle.alloc_core.proofs.Owners.{set_at}
use Rattle.bucket_ranges.specs.declared.spec.Spec.TheVariants as spec
use Rattle.segment_machine.specs.Actor.{Sparse}
use Rattle.segment_machine.specs.Calls.{CountsNext}
use Rattle.list_lemmas.proofs.Firsts.{first_unique}
use Rattle.segment_invariant.proofs.Frames.LaidOut.{laid_out}
use Rattle.segment_invariant.proofs.Consistency.Books.{one_name, sample_first}
use Rattle.segment_invariant.proofs.Consistency.Firsts.{sample_of_first}
use Rattle.segment_invariant.proofs.Frames.Answers.{first_one}
use Rattle.segment_invariant.proofs.Frames.GoesOn.{happens}
use Rattle.segment_invariant.proofs.Frames.SeesMore.{seer}
use Rattle.segment_invariant.proofs.Frames.Shown.{Goes}
use Rattle.segment_invariant.proofs.Frames.Rises.{kept_again}
use Rattle.segment_invariant.proofs.Changes.Samples.{sample_kept, no_sample_was}
use Rattle.segment_invariant.proofs.Changes.Words.{Turns, word_turns}
use Rattle.segment_invariant.proofs.Counting.Bounds.{counted_fits}
use Rattle.segment_invariant.proofs.Counting.Counted.{its_units, as_counted, counter, CountedInto, units_counted}
use Rattle.segment_invariant.proofs.Counting.Looks.{knows_of, body_word}
use Rattle.segment_invariant.proofs.Counting.Running.{Next, next_of}
use Rattle.segment_invariant.proofs.Counting.Samples.{first_met}
use Rattle.segment_invariant.proofs.Counting.SampleSeen.{sample_seen}
use Rattle.segment_invariant.proofs.Counting.Sights.{word_within}
use Rattle.segment_invariant.proofs.Counting.Whole.{whole_sample}

-- a value has one first sample
pub one_sample : (records : List Listed) (of : ℕ) (value : ℤ) (at place : ℕ) → IsFirstOf records of value at → IsFirstOf records of value place → at ≡ place
one_sample records of value at place first second = ap (λ (l : Listed). l.reference) (first_unique (IsValued of value) records _ _ first second)

module _ (shape : Dimensions) (opened : Anatomy) (state : State) (kept : Invariant shape opened state) (id : ℕ) (a : Actor)
    (mine : get_elem? state.actors id ≡ some a) (recorder : is_opener a.role ≡ false) (unbound : is_bound a.hand.place ≡ false)
    (entry : EntryProgress) (next : Next a.entries.running entry) (uncounted : is_counted entry ≡ false)
    (known : Known) (has : Contains a.answers.names known) (named : entry.entry.name ≡ known.name)
    (at : ℕ) (saw : IsFirstSample a.seen known.reference entry.entry.key at) where
  lives : a.hand.place ≢ Spent
  lives spent = cc (unbound, ap is_bound spent)

  abbrev units : ℕ
  units = entry.entry.units

  -- it has visited the sample
  met : Contains a.seen.chain at × SawSample a.seen known.reference entry.entry.key at
  met =
      let (front, rest, is, its) = saw in (
        subst (λ (l : List ℕ). Contains l at) (sym is)
            (Contains-append_right front (known.reference ∷ rest) at (Contains-append_right (known.reference ∷ []) rest at (split_among its.0 its.1 its.2))),
        its.4,
      )

  first : IsFirstOf kept.anatomy.records known.reference entry.entry.key at
  first = first_met shape opened state kept id a mine lives known.reference entry.entry.key at saw

  -- it is a sample of the name, and of the value
  found : (s : Sample) × HasSample kept.anatomy.pieces at s × (s.of ≡ known.reference) × (s.value ≡ entry.entry.key) × (s.name ≡ entry.entry.name)
  found =
      let (s, (there, of_it, valued)) = sample_of_first shape opened state.words (laid_out shape opened state kept) known.reference entry.entry.key at first in
      let (r, its_first, stands, called, many, keys) = knows_of shape opened state kept id a mine recorder lives known has in
      let name = one_name shape opened state kept s.name known.name spec.Sparse r.spec known.reference
      (subst (λ (n : ℕ). IsFirst kept.anatomy.records s.name spec.Sparse n) of_it (sample_first shape opened state.words (laid_out shape opened state kept) at s there)) its_first in
      (s, there, of_it, valued, name ∙ sym named)

  abbrev s : Sample
  s = found.0

  abbrev stands : HasSample kept.anatomy.pieces at s
  stands = found.1

  sparse_first : IsFirst kept.anatomy.records entry.entry.name spec.Sparse known.reference
  sparse_first = subst (λ (p : List ℕ × ℕ). IsFirst kept.anatomy.records p.0 spec.Sparse p.1) (λ i. (found.4 i, found.2 i)) (sample_first shape opened state.words (laid_out shape opened state kept) at s stands)

  -- ---- the count rises

  abbrev v : ℕ
  v = s.units + units

  abbrev more : Sample
  more = record s { units = v }

  turns : Turns kept.anatomy.version (sample s) (sample more) 6 v
  turns = word_turns kept.anatomy.version (sample s) (sample more) 6 v refl refl refl (omega arith) (omega arith)
      (more, refl, record { is = refl; units = omega arith; mark = omega arith })

  held : (name : List ℕ) (key : ℤ)
      → units_held kept.anatomy.version name key (sample more) ≡ units_held kept.anatomy.version name key (sample s) + its_units entry name key
  held name key =
      by_name (bytes_eq s.name name) (int_eq s.value key)
      ∙ ap (λ (n : ℕ). units_held kept.anatomy.version name key (sample s) + n) (λ i. if bytes_eq (found.4 i) name && int_eq (found.3 i) key then units else 0)
    where
      by_name : (p t : Bool) → (if p then (if t then v else 0) else 0) ≡ (if p then (if t then s.units else 0) else 0) + (if p && t then units else 0)
      by_name true true = refl
      by_name true false = refl
      by_name false t = refl

  shows : CountedInto shape opened state kept id a mine recorder unbound entry next uncounted at (sample s) (sample more) 6 v stands turns
  shows = record {
    records =
        let lawful = kept.records.valued at s stands in
        let taken = lawful.taken in
        sample_kept shape opened state kept at s more 6 v stands turns refl
        (record { sized = lawful.sized; valued = lawful.valued; taken = omega (arith, taken) })
        (λ place is. one_sample kept.anatomy.records known.reference entry.entry.key place at
        (subst (λ (p : ℕ × ℤ). IsFirstOf kept.anatomy.records p.0 p.1 place) (λ i. (found.2 i, found.3 i)) is) first);
    units = held;
    marks = λ name key. refl;
    sum = λ name. refl;
    sum_mark = λ name. refl;
    noted = λ name. refl;
    sums = λ place z there. (z, no_sample_was shape opened state kept at s more 6 v stands turns place (histogram z) (λ e. cc e) there, refl, refl, refl);
    key = (spec.Sparse, known.reference, sparse_first, inr (refl, at, first));
    met = λ of its.
        let place = first_one kept.anatomy.records entry.entry.name spec.Sparse spec.Sparse of known.reference its sparse_first in (
          at,
          subst (λ (n : ℕ). IsFirstOf kept.anatomy.records n entry.entry.key at) (sym place) first,
          met.0,
          subst (λ (n : ℕ). SawSample a.seen n entry.entry.key at) (sym place) met.1,
        );
  }

  -- ---- and then it sees the count

  there : at + 6 < length state.words
  there = word_within shape opened state kept at 6 (sample s) stands refl (omega arith)

  found_is : word_at state.words (at + 6) ≡ s.units
  found_is = body_word shape opened state kept at 6 (sample s) stands (omega arith)

  abbrev b : Actor
  b = counter shape opened state kept id a mine recorder unbound entry next uncounted

  abbrev between : State
  between = record { words = set state.words (at + 6) v; cursors = state.cursors; actors = set state.actors id b }

  first_step : KeptOn shape opened kept between
  first_step = units_counted shape opened state kept id a mine recorder unbound entry next uncounted at (sample s) (sample more) 6 v stands turns shows

  abbrev kept_between : Invariant shape opened between
  kept_between = first_step.0

  mine_between : get_elem? between.actors id ≡ some b
  mine_between = set_at state.actors id a b mine

  word_between : word_at between.words (at + 6) ≡ v
  word_between = get_or-set_same state.words (at + 6) v 0 there

  -- the sum fits
  fits : v ≤ 4294967295
  fits =
      let its = first_met shape opened between kept_between id b mine_between (λ spent. cc spent) known.reference entry.entry.key at saw in
      let (t, (stood, of_it, valued)) = sample_of_first shape opened between.words (laid_out shape opened between kept_between) known.reference entry.entry.key at its in
      let word = body_word shape opened between kept_between at 6 (sample t) stood (omega arith) in
      let whole = whole_sample shape opened between kept_between known.reference entry.entry.key at t its stood in
      let bound = counted_fits shape opened between kept_between t.name entry.entry.key in
      omega (arith, word, word_between, whole, bound)

  abbrev seen : Seen
  seen = record a.seen { counts = a.seen.counts ++ record { at = at + 6; word = word_at between.words (at + 6) } ∷ [] }

  left : KeptOn shape opened kept (record {
    words = between.words;
    cursors = state.cursors;
    actors = set between.actors id (seer b Idle seen a.done.given a.done.lost);
  })
  left = kept_again shape opened state kept first_step
      (sample_seen shape opened between kept_between id b mine_between recorder refl at known.reference entry.entry.key met.0 met.1 6 (inl refl) Idle refl
      (λ reference sum is. cc is) tt)

  carry : v ≡ (word_at state.words (at + 6) + units) % 2 ^ 64
  carry =
      let small = fits in
      sym (mod-eq_of_lt (omega (arith, small))) ∙ ap (λ (n : ℕ). (n + units) % 2 ^ 64) (sym found_is)

  pub counted_at : Goes shape opened state kept id a mine recorder (counting_event (add_count (at + 6) units))
  counted_at =
      let small = fits in
      happens opened.version state id a (counting_event (add_count (at + 6) units)) there shape opened kept (
        subst (λ (p : List ℕ × List Actor). KeptOn shape opened kept (record { words = p.0; cursors = state.cursors; actors = p.1 }))
            (λ i. (
              set state.words (at + 6) (carry i),
              (set-set state.actors id b (seer b Idle seen a.done.given a.done.lost) ∙ (λ j. set state.actors id (record a {
                hand = record a.hand { place = Idle };
                entries = record a.entries { running = (sym (next.changed as_counted)) j };
                seen = record a.seen { counts = a.seen.counts ++ record { at = at + 6; word = (word_between ∙ ap (λ (n : ℕ). n + units) (sym found_is)) j } ∷ [] };
              }))) i,
            )) left,
        omega (arith, small, found_is),
      )

module _ (shape : Dimensions) (opened : Anatomy) (state : State) (kept : Invariant shape opened state) (id : ℕ) (a : Actor)
    (mine : get_elem? state.actors id ≡ some a) (recorder : is_opener a.role ≡ false) where
  -- the units are those of the next entry, and the word is the count of the first sample of their value
  abbrev pub CountsSample : ℕ → ℕ → Type 0
  CountsSample at units =
      (c : EntryProgress) × (known : Known) × CountsNext a c × (c.entry.name ≡ known.name) × (c.entry.units ≡ units)
      × ((sample : ℕ) × MayTurn a × Sparse a known.reference known × IsFirstSample a.seen known.reference c.entry.key sample × (at ≡ sample + 6))

  -- adding them keeps what holds
  pub sample_counted : (at units : ℕ) → CountsSample at units → Goes shape opened state kept id a mine recorder (counting_event (add_count at units))
  sample_counted word amount (c, known, ((rest, is_next), uncounted), named, units_are, (at, unbound, (has, refers, sparse), saw, place)) =
      subst (λ (p : ℕ × ℕ). Goes shape opened state kept id a mine recorder (counting_event (add_count p.0 p.1))) (λ i. (sym place i, units_are i))
      (counted_at shape opened state kept id a mine recorder unbound c (next_of a.entries.running c rest is_next) uncounted known has named at saw)
