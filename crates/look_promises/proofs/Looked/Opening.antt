-- What the opening has stays in a look: the blocks in which nobody counts, and each word that never changes.
use Rattle.segment_invariant.proofs.Prelude.Std.{◌≡◌, ◌≢◌, ◌⊎◌, ℕ, ◌+◌, ◌<◌, ◌≤◌, ◌&&◌, ◌||◌, Bool, true, false, List, length, inl, inr, refl, sym, ap, subst, ◌∙◌, arith, slice_index, if◌then◌else◌, ne_eqb, Some, none, some, get_elem?, Contains, at_from, at_map, below_length, index_at}
use Rattle.segment_invariant.proofs.Prelude.Machine.{Sighting, word_at}
use Rattle.segment_invariant.proofs.Prelude.Invariant.{Body, Record, Sample, queue, plain, held, histogram, counts, sample, other, words_of, Listed, Stands, HasRecord, WasFixed}
use Rattle.std.proofs.lemmas.List.{get_or-take, length-take-le}
use Rattle.std.proofs.lemmas.List.Elements.{Contains-get_or}
use Rattle.segment_machine.specs.declared.actor.Made.TheVariants as made
use Rattle.segment_looks.specs.Looks.{IsLook, counts_reference, is_frozen}
use Rattle.segment_invariant.specs.Seen.{HasStill, IsFixedIn}
use Rattle.segment_invariant.specs.Rises.{RecordGoes}
use Rattle.segment_invariant.specs.Invariant.{ArePassedOver}
use Rattle.segment_invariant.proofs.Blocks.Pieces.{piece_word}
use Rattle.look_promises.proofs.Moments.Runs.{kept_at, rises_at, chain_at}
use Rattle.look_promises.proofs.Copies.ThreeCopies.{ThreeCopies, seen_in, hd_of}
use Rattle.look_promises.proofs.Copies.Following.{followed, first_last}
use Rattle.look_promises.proofs.Moments.Unchanged.{other_but, record_but, sample_but}
use Rattle.look_promises.proofs.Moments.Listed.{same_place, ends_at}
use Rattle.look_promises.proofs.Looked.Taken.{record_looked, sample_looked}
use Rattle.look_promises.proofs.Looked.Still.{still_stands}
use Rattle.look_promises.proofs.Looked.Blocks.{is_followed, was_still, test_still}
use Rattle.look_promises.proofs.Looked.Anatomy.{seen_of, there_as}

-- a fixed word of a histogram's record is the same whatever else has changed, and so is its counts reference if that has not changed
fixed_record : (r q : Record) (i : ℕ) → (i < 3) ⊎ ((4 ≤ i) × (i < 8)) ⊎ (14 ≤ i) ⊎ ((i ≡ 8) × (q.counts ≡ r.counts))
    → slice_index (words_of (histogram (record r { next = q.next; counts = q.counts; single = q.single; mark = q.mark; sum = q.sum; sum_mark = q.sum_mark; noted = q.noted }))) i
    ≡ slice_index (words_of (histogram r)) i
fixed_record r q i (inl low) = record_but r q i (inl low)
fixed_record r q i (inr (inl mid)) = record_but r q i (inr (inl mid))
fixed_record r q i (inr (inr (inl high))) = record_but r q i (inr (inr high))
fixed_record r q i (inr (inr (inr (eight, same)))) =
    let now : Record = record r { next = q.next; counts = q.counts; single = q.single; mark = q.mark; sum = q.sum; sum_mark = q.sum_mark; noted = q.noted } in
    ap (slice_index (words_of (histogram now))) eight ∙ (same ∙ ap (slice_index (words_of (histogram r))) (sym eight))

module _ (copies : ThreeCopies) (image : List ℕ) (look : IsLook (hd_of copies) copies.one copies.two copies.three image) where
  open copies use {run, shape, opened, at, first, last, moments, one, two, three, loaded}
  open seen_in copies use {early, late, list, records}
  open seen_of copies image look use {of_look, has}

  up : first ≤ last
  up = first_last copies

  -- a record that was on the list at the first moment is followed
  pub is_there : (l : Listed) → Contains early.anatomy.records l → Contains records l.reference
  is_there l among =
      let (n, short, enough, all, each) = followed copies in
      let (j, there) = at_from early.anatomy.records l among in
      let on : get_elem? (chain_at run first) j ≡ some l.reference = at_map (λ (l : Listed). l.reference) early.anatomy.records j l there in
      let lt = below_length (chain_at run first) j l.reference on in
      let still_place = (same_place run first last j up lt).1 in
      let below_n : j < n = omega (arith, lt, enough) in
      let all_long = ap length all in
      let long = length-take-le n list short in
      let found : slice_index records j ≡ l.reference =
      ap (λ (l : List ℕ). slice_index l j) all ∙ (get_or-take n list j 0 below_n ∙ (still_place ∙ index_at (chain_at run first) j l.reference 0 on)) in
      subst (Contains records) found (Contains-get_or records j 0 (omega (arith, below_n, all_long, long)))

  -- ---- blocks in which nobody counts

  still_there : (x size tag next : ℕ) (payload : List ℕ) → Stands early.anatomy.pieces x none (other size tag next payload)
      → Stands of_look.pieces x none (other size tag (word_at image (x + 3)) payload)
  still_there x size tag next payload stands =
      let (later, now) = still_stands run first last x size tag next payload up stands in
      there_as copies image look x (other size tag later payload) now
      (either (is_followed copies image x) (test_still copies image x size tag next payload stands))
    where
      either : (b : Bool) → was_still copies image x ≡ true
          → (b || was_still copies image x) ≡ true
      either true is = refl
      either false is = is

  pub stay : (x size tag : ℕ) (payload : List ℕ) → HasStill opened.pieces x size tag payload → HasStill of_look.pieces x size tag payload
  stay x size tag payload old =
      let (next, stands) = early.passed_over.stay x size tag payload old in
      (word_at image (x + 3), still_there x size tag next payload stands)

  -- ---- words that never change

  -- a record that was on the list
  module _ (x : ℕ) (r : Record) (stood : HasRecord early.anatomy.pieces x r) where
    there : Contains records x
    there = is_there (record { reference = x; made = Some (made.Histogram r.name r.spec) }) (early.list.alone x (histogram r) stood)

    -- at a later moment
    pub record Later (n : ℕ) : Type 0 where
      pub of : Record
      pub stands : HasRecord (kept_at run n).anatomy.pieces x of
      pub goes : RecordGoes early.anatomy.version r of

    later : (n : ℕ) → first ≤ n → Later n
    later n le =
        let (body, now, (s, is, goes)) = (rises_at run first n le).goes x (histogram r) refl stood in
        record { of = s; stands = subst (Stands (kept_at run n).anatomy.pieces x none) is now; goes = goes }

    -- once it names counts the look has this reference
    names : r.counts ≢ 0 → counts_reference two three x ≡ r.counts
    names some_there =
        let l = later last up in
        let ends = ends_at run last x (histogram l.of) l.stands in
        let spot : x + 8 < shape.size = omega (arith, ends) in
        let begin = loaded.ordered.begins (x + 8) spot in
        let on = loaded.ordered.second (x + 8) (x + 8) spot spot in
        let then_it = later (moments.two (x + 8)) (omega (arith, begin, on)) in
        let kept = kept_at run (moments.two (x + 8)) in
        let word : word_at two (x + 8) ≡ r.counts =
        loaded.copy_two.each (x + 8) spot
        ∙ (piece_word shape (at (moments.two (x + 8))).words kept.anatomy kept.shown then_it.stands.0 (record { at = x; owner = none; body = histogram then_it.of }) 8 then_it.stands.1 (omega arith)
        ∙ then_it.goes.counts some_there) in
        ap (λ (b : Bool). if b && is_frozen two x then word_at three (x + 8) else word_at two (x + 8)) (ne_eqb (word_at two (x + 8)) 0 (λ nothing. some_there (sym word ∙ nothing)))
        ∙ word

    kinds : (i : ℕ) → IsFixedIn (histogram r) i → (q : Record) → (r.counts ≢ 0 → q.counts ≡ r.counts)
        → (i < 3) ⊎ ((4 ≤ i) × (i < 8)) ⊎ (14 ≤ i) ⊎ ((i ≡ 8) × (q.counts ≡ r.counts))
    kinds i (inl type_word) q same = inl (omega (arith, type_word))
    kinds i (inr (inl given)) q same = inr (inl given)
    kinds i (inr (inr (inl (eight, some_there)))) q same = inr (inr (inr (eight, same some_there)))
    kinds i (inr (inr (inr (from, inside)))) q same = inr (inr (inl from))

    pub record_fixed : (i : ℕ) (s : Sighting) → s.at ≡ x + i → IsFixedIn (histogram r) i → slice_index (words_of (histogram r)) i ≡ s.word → WasFixed of_look.pieces s
    record_fixed i s place fixed word =
        let l = later last up in
        let q : Record = record_looked one two three x (word_at image (x + 3)) l.of in
        let shown : Record = record_looked one two three x (word_at image (x + 3)) r in
        let is : q ≡ shown = ap (λ (z : Record). record_looked one two three x (word_at image (x + 3)) z) l.goes.is in (
          x,
          i,
          histogram shown,
          subst (HasRecord of_look.pieces x) is (has.record_there x l.of l.stands there),
          place,
          still_fixed i fixed,
          fixed_record r shown i (kinds i fixed shown names) ∙ word,
        )
      where
        still_fixed : (i : ℕ) → IsFixedIn (histogram r) i → IsFixedIn (histogram (record_looked one two three x (word_at image (x + 3)) r)) i
        still_fixed i (inl type_word) = inl type_word
        still_fixed i (inr (inl given)) = inr (inl given)
        still_fixed i (inr (inr (inl (eight, some_there)))) = inr (inr (inl (eight, λ nothing. some_there (sym (names some_there) ∙ nothing))))
        still_fixed i (inr (inr (inr (from, inside)))) = inr (inr (inr (from, inside)))

  -- a sample that was on the list
  sample_fixed : (x i : ℕ) (t : Sample) (s : Sighting) → Stands early.anatomy.pieces x none (sample t) → s.at ≡ x + i → IsFixedIn (sample t) i
      → slice_index (words_of (sample t)) i ≡ s.word → WasFixed of_look.pieces s
  sample_fixed x i t s stands place fixed word =
      let (body, now, (u, is, goes)) = (rises_at run first last up).goes x (sample t) refl stands in
      let late_stands = subst (Stands late.anatomy.pieces x none) is now in
      let there = is_there (record { reference = x; made = Some (made.Sample t.of t.value) }) (early.list.alone x (sample t) stands) in
      let shown : Sample = sample_looked one two x (word_at image (x + 3)) t in
      let same : sample_looked one two x (word_at image (x + 3)) u ≡ shown = ap (λ (z : Sample). sample_looked one two x (word_at image (x + 3)) z) goes.is in (
        x,
        i,
        sample shown,
        subst (λ (z : Sample). Stands of_look.pieces x none (sample z)) same (has.sample_there x u late_stands there),
        place,
        fixed,
        sample_but t shown i (kinds i fixed) ∙ word,
      )
    where
      kinds : (i : ℕ) → IsFixedIn (sample t) i → (i < 3) ⊎ ((4 ≤ i) × (i < 6)) ⊎ (8 ≤ i)
      kinds i (inl type_word) = inl (omega (arith, type_word))
      kinds i (inr (inl four)) = inr (inl (omega (arith, four), omega (arith, four)))
      kinds i (inr (inr (inl five))) = inr (inl (omega (arith, five), omega (arith, five)))
      kinds i (inr (inr (inr (from, inside)))) = inr (inr from)

  other_fixed : (x i size tag next : ℕ) (payload : List ℕ) (s : Sighting) → Stands early.anatomy.pieces x none (other size tag next payload) → s.at ≡ x + i
      → IsFixedIn (other size tag next payload) i → slice_index (words_of (other size tag next payload)) i ≡ s.word → WasFixed of_look.pieces s
  other_fixed x i size tag next payload s stands place fixed word = (
    x,
    i,
    other size tag (word_at image (x + 3)) payload,
    still_there x size tag next payload stands,
    place,
    fixed,
    other_but size tag next (word_at image (x + 3)) payload i (kinds i fixed) ∙ word,
  )
    where
      kinds : (i : ℕ) → IsFixedIn (other size tag next payload) i → (i < 3) ⊎ (4 ≤ i)
      kinds i (inl type_word) = inl (omega (arith, type_word))
      kinds i (inr (from, inside)) = inr from

  fixed_by : (s : Sighting) (x i : ℕ) (body : Body) → Stands early.anatomy.pieces x none body → s.at ≡ x + i → IsFixedIn body i → slice_index (words_of body) i ≡ s.word
      → WasFixed of_look.pieces s
  fixed_by s x i (histogram r) stands place fixed word = record_fixed x r stands i s place fixed word
  fixed_by s x i (sample t) stands place fixed word = sample_fixed x i t s stands place fixed word
  fixed_by s x i (other size tag next payload) stands place fixed word = other_fixed x i size tag next payload s stands place fixed word
  fixed_by s x i (counts c) stands place fixed word = absurd fixed
  fixed_by s x i (queue next) stands place fixed word = absurd fixed
  fixed_by s x i (plain words) stands place fixed word = absurd fixed
  fixed_by s x i (held own) stands place fixed word = absurd fixed

  pub fixed : (s : Sighting) → WasFixed opened.pieces s → WasFixed of_look.pieces s
  fixed s was =
      let (x, i, body, stands, place, never, word) = early.passed_over.fixed s was in
      fixed_by s x i body stands place never word

  pub are_passed_over : ArePassedOver shape.page opened of_look.pieces
  are_passed_over = record {
    stay = stay;
    fixed = fixed;
    each = late.passed_over.each;
    apart = late.passed_over.apart;
    unlisted = late.passed_over.unlisted;
  }
