-- What became of the blocks with which a kept segment was opened: they hold what they held, and those in which nobody counts are unchanged.
use Rattle.segment_invariant.proofs.Prelude.Std.{◌≡◌, ◌≢◌, Bool, true, false, ℕ, ◌+◌, ◌*◌, ◌<◌, ◌≤◌, List, ◌++◌, length, if◌then◌else◌, inl, inr, refl, sym, ap, subst, ◌∙◌, arith, length-append, Option, Some, None, slice_index, ◌==◌, Contains, flat_map, eqb-false, eq-eqb, All-contains, Contains-append_left, some, none, get_elem?, at_from, split_at, first_longer, split_among, contains_map, contains_mapped}
use Rattle.segment_invariant.proofs.Prelude.Machine.{Dimensions, word_at, field_at, Spec, name_of, record_buckets, Made, Sighting, State}
use Rattle.segment_invariant.proofs.Prelude.Invariant.{IsHistogram, Record, Sample, Body, histogram, sample, other, words_of, record_words, is_claimed, Piece, Listed, Anatomy, order_of, claims_of, noted_held, all_held, Stands, HasRecord, IsRecordNamed, IsFirst, StandsAs, IsPassedOver, IsLawfulRecord, Invariant}
use Rattle.segment_machine.specs.declared.actor.Made.TheVariants as made
use Rattle.segment_invariant.specs.Consistent.{HoldsStill, NeverChanges, CountsStill, all_claims}
use Rattle.segment_invariant.specs.Consistent as consistent
use Rattle.segment_invariant.specs.Seen.{HoldsAs, IsFixedIn}
use Rattle.segment_invariant.proofs.Frames.LaidOut.{laid_out}
use Rattle.segment_invariant.proofs.Blocks.Pieces.{claim_of, piece_word, one_stands}
use Rattle.segment_invariant.proofs.Blocks.Places.{fixed_within}
use Rattle.segment_invariant.proofs.Frames.PassedOver.{PassedOver}
use Rattle.segment_invariant.proofs.Lists.FewTerms.{sum_none}
use Rattle.segment_invariant.proofs.Consistency.Blocks.{claim_there, claimed_piece}
use Rattle.segment_invariant.proofs.Consistency.Books.{one_first}
use Rattle.segment_invariant.proofs.Consistency.Chained.{all_of_claims}
use Rattle.segment_invariant.proofs.Consistency.Firsts.{first_there, standing_of, record_of_first}
use Rattle.segment_invariant.proofs.Consistency.Forms.{tells_passed}
use Rattle.segment_invariant.proofs.Consistency.Held.{holds_nothing, later_record}
use Rattle.segment_invariant.proofs.Consistency.Opened.{Opens, opened_words}
use Rattle.segment_invariant.proofs.Consistency.PassedOver.{passed_word}
use Rattle.segment_invariant.proofs.Consistency.Records.{record_word}
use Rattle.segment_invariant.proofs.Consistency.Sums.{no_noted}

-- ---- words that never change

-- of a record, of a sample and of a block of another type
given_record : (r : Record) (i : ℕ) → i < length (words_of (histogram r)) → NeverChanges 1 i → IsFixedIn (histogram r) i
given_record r i below (inl (one, inl field)) = inr (inl field)
given_record r i below (inl (one, inr from)) = inr (inr (inr (from, below)))
given_record r i below (inr (inl (three, given))) = absurd (omega (arith, three))
given_record r i below (inr (inr (first, third, from))) = absurd (first refl)

given_sample : (s : Sample) (i : ℕ) → i < length (words_of (sample s)) → NeverChanges 3 i → IsFixedIn (sample s) i
given_sample s i below (inl (one, given)) = absurd (omega (arith, one))
given_sample s i below (inr (inl (three, inl four))) = inr (inl four)
given_sample s i below (inr (inl (three, inr (inl five)))) = inr (inr (inl five))
given_sample s i below (inr (inl (three, inr (inr from)))) = inr (inr (inr (from, below)))
given_sample s i below (inr (inr (first, third, from))) = absurd (third refl)

given_other : (size tag next : ℕ) (payload : List ℕ) (i : ℕ) → tag ≢ 3 → i < 4 + length payload → NeverChanges tag i → IsFixedIn (other size tag next payload) i
given_other size tag next payload i third below (inl (one, inl (from, high))) = inr (omega (arith, from), below)
given_other size tag next payload i third below (inl (one, inr from)) = inr (omega (arith, from), below)
given_other size tag next payload i third below (inr (inl (three, given))) = absurd (third three)
given_other size tag next payload i third below (inr (inr (first, no_sample, from))) = inr (from, below)

module _ (shape : Dimensions) (opened : Anatomy) (state : State) (opens : Opens shape opened) (kept : Invariant shape opened state) where
  abbrev before : List ℕ
  before = opened_words shape opened

  -- a fixed word is unchanged
  fixed_still : (at i : ℕ) (body : Body) → Stands opened.pieces at none body → IsFixedIn body i → field_at state.words at i ≡ field_at before at i
  fixed_still at i body (k, there) fixed =
      let was = piece_word shape before opened opens.shown k _ i there (fixed_within body i fixed) in
      let s : Sighting = record { at = at + i; word = slice_index (words_of body) i } in
      let now = kept.passed_over.fixed s (at, i, body, (k, there), refl, fixed, refl) in
      ap (word_at state.words) now.4
      ∙ (piece_word shape state.words kept.anatomy kept.shown now.3.0 _ now.1 now.3.1 (fixed_within now.2 now.1 now.5) ∙ (now.6 ∙ sym was))

  -- a claimed block has its size
  size_then : (k at : ℕ) (body : Body) → get_elem? opened.pieces k ≡ some (record { at = at; owner = none; body = body }) → is_claimed body ≡ true
      → field_at before at 0 ≡ length (words_of body)
  size_then k at body there claimed = (claimed_piece shape before opened opens.shown opens.blocks k _ there claimed).size_word

  size_still : (at : ℕ) (body : Body) → Stands opened.pieces at none body → is_claimed body ≡ true → field_at state.words at 0 ≡ field_at before at 0
  size_still at body (k, there) claimed =
      let p : Piece = record { at = at; owner = none; body = body } in
      All-contains (λ claim. field_at state.words claim.at 0 ≡ claim.size) (all_claims (claims_of opened.pieces) state.actors) (claim_of p)
      (all_of_claims shape opened state kept (λ claim. field_at state.words claim.at 0 ≡ claim.size)
      (λ k p there claimed. (claimed_piece shape state.words kept.anatomy kept.shown kept.blocks k p there claimed).size_word))
      (Contains-append_left (claims_of opened.pieces) (flat_map (λ a. a.done.claimed) state.actors) (claim_of p) (claim_there opened.pieces k p there claimed))
      ∙ sym (size_then k at body there claimed)

  held_as : (at : ℕ) (body : Body) → Stands opened.pieces at none body → is_claimed body ≡ true → IsFixedIn body 2
      → ((i : ℕ) → i < length (words_of body) → NeverChanges (slice_index (words_of body) 2) i → IsFixedIn body i) → HoldsStill before state.words at
  held_as at body (k, there) claimed tag fixed = (
    size_still at body (k, there) claimed,
    fixed_still at 2 body (k, there) tag,
    λ i below given.
        let size = size_then k at body there claimed in
        let tag_is = piece_word shape before opened opens.shown k _ 2 there (fixed_within body 2 tag) in
        fixed_still at i body (k, there) (fixed i (omega (arith, below, size)) (subst (λ (t : ℕ). NeverChanges t i) tag_is given)),
  )

  -- a record of the opening holds there what it was given
  listed_then : (at : ℕ) → Contains (order_of opened) at → (l : Listed) × Contains opened.records l × (l.reference ≡ at) × StandsAs opened.pieces l l.made
  listed_then at there =
      let (l, among, is) = contains_mapped (λ (l : Listed). l.reference) opened.records at there in
      (l, among, is, All-contains (λ l. StandsAs opened.pieces l l.made) opened.records l opens.standing among)

  -- it holds what it held
  pub holds_still : (at : ℕ) → Contains (order_of opened) at → HoldsStill before state.words at
  holds_still at there =
      let (l, among, is, standing) = listed_then at there in
      subst (HoldsStill before state.words) is (by_made l l.made standing)
    where
      by_made : (l : Listed) (m : Option Made) → StandsAs opened.pieces l m → HoldsStill before state.words l.reference
      by_made l (Some (made.Histogram name kind)) (r, stands, named, specified) =
          held_as l.reference (histogram r) stands refl (inl refl) (given_record r)
      by_made l (Some (made.Sample of value)) (s, stands, mine, valued) = held_as l.reference (sample s) stands refl (inl refl) (given_sample s)
      by_made l None (size, tag, next, payload, stands, third, long) =
          held_as l.reference (other size tag next payload) stands refl (inl refl) (λ i below. given_other size tag next payload i third (omega (arith, below)))

  -- ---- names

  -- a listed record that is one of a name was given the name
  named_at : (l : Listed) (r : Record) → Contains kept.anatomy.records l → HasRecord kept.anatomy.pieces l.reference r → IsRecordNamed r.name l
  named_at l r there has = by_made l.made refl (standing_of shape opened state.words (laid_out shape opened state kept) l there)
    where
      one : (body : Body) → Stands kept.anatomy.pieces l.reference none body → body ≡ histogram r
      one body stands = (one_stands shape state.words kept.anatomy kept.shown l.reference none none body (histogram r) stands has).1

      by_made : (m : Option Made) → l.made ≡ m → StandsAs kept.anatomy.pieces l m → IsRecordNamed r.name l
      by_made (Some (made.Histogram name kind)) is (q, stands, named, specified) =
          let same : q ≡ r = cc (one (histogram q) stands) in
          (kind, is ∙ ap (λ (name : List ℕ). Some (made.Histogram name kind)) (sym named ∙ ap (λ (r : Record). r.name) same))
      by_made (Some (made.Sample of value)) is (s, stands, mine, valued) = let differs = one (sample s) stands in absurd (cc differs)
      by_made None is (size, tag, next, payload, stands, third, long) = let differs = one (other size tag next payload) stands in absurd (cc differs)

  -- a record of the opening is listed still
  listed_still : (l : Listed) → Contains opened.records l → Contains kept.anatomy.records l
  listed_still l among = subst (λ (list : List Listed). Contains list l) (sym kept.list.once.1) (Contains-append_left opened.records kept.list.once.0 l among)

  -- if the opening had a record of a name, the first of it was the first there
  first_then : (name : List ℕ) (kind : Spec) (at : ℕ) → IsFirst kept.anatomy.records name kind at → (l : Listed) → Contains opened.records l → IsRecordNamed name l
      → (sort : Spec) × IsFirst opened.records name sort at
  first_then name kind at first l among named =
      let (sort, place, its) = first_there opened.records name l among named in
      let now = subst (λ (records : List Listed). IsFirst records name sort place) (sym kept.list.once.1)
      (first_longer (IsRecordNamed name) opened.records kept.list.once.0 _ its) in
      (sort, subst (IsFirst opened.records name sort) (one_first shape opened state kept name sort kind place at now first).0 its)

  -- ---- redundant counts

  -- what the opening had noted of the name of one of its records was in that record
  pub noted_there : (name : List ℕ) (kind : Spec) (at : ℕ) → IsFirst kept.anatomy.records name kind at → Contains (order_of opened) at
      → all_held (noted_held name) opened.pieces ≡ field_at before at 13
  noted_there name kind at first there =
      let (l, among, is, standing) = listed_then at there in
      let (r, (has, named, specified)) = record_of_first shape opened state.words (laid_out shape opened state kept) name kind at first in
      let here = named_at l r (listed_still l among) (subst (λ (at : ℕ). HasRecord kept.anatomy.pieces at r) (sym is) has) in
      let (sort, its) = first_then name kind at first l among (subst (λ (name : List ℕ). IsRecordNamed name l) named here) in
      let (q, stands, called, sorted) = All-contains (λ l. StandsAs opened.pieces l l.made) opened.records _ opens.standing (split_among its.0 its.1 its.2) in
      opens.noted name sort at q its stands called ∙ sym (record_word shape before opened opens.shown at q 13 stands (omega arith))

  -- and it had noted nothing of a name whose first record an actor linked
  pub none_noted : (name : List ℕ) (kind : Spec) (at : ℕ) → IsFirst kept.anatomy.records name kind at → ¬ (Contains (order_of opened) at)
      → all_held (noted_held name) opened.pieces ≡ 0
  none_noted name kind at first absent = sum_none (λ p. noted_held name p.body) opened.pieces (λ j p there _. no_noted name p.body (λ r is called.
      let (sort, its) = first_then name kind at first _ (opens.listed j p r there is) (r.spec, ap (λ (name : List ℕ). Some (made.Histogram name r.spec)) called) in
      absurd (absent (contains_map (λ (l : Listed). l.reference) opened.records _ (split_among its.0 its.1 its.2)))))

  -- ---- records in which nobody counts

  -- a later record of a name had nothing, and has nothing
  pub later_still : (at place : ℕ) (r : Record) → HasRecord kept.anatomy.pieces at r
      → IsHistogram state.words (order_of kept.anatomy) (name_of state.words at) place → place ≢ at → Contains (order_of opened) at → CountsStill before state.words at
  later_still at place r has is apart there =
      let (kind, first, nothing) = later_record shape opened state kept at place r has is apart in
      let (l, among, here, standing) = listed_then at there in
      let named = named_at l r (listed_still l among) (subst (λ (at : ℕ). HasRecord kept.anatomy.pieces at r) (sym here) has) in
      let (sort, its) = first_then r.name kind place first l among named in
      let (q, stands, called, specified) = subst (StandsAs opened.pieces l) named.1 standing in
      let was = opens.later at place q sort (subst (λ (at : ℕ). HasRecord opened.pieces at q) here stands)
      (subst (λ (name : List ℕ). IsFirst opened.records name sort place) (sym called) its) apart in
      let empty = holds_nothing shape state.words kept.anatomy kept.shown at r has nothing in
      let before_empty = holds_nothing shape before opened opens.shown at q (subst (λ (at : ℕ). HasRecord opened.pieces at q) here stands) was in (
        λ i from below. empty i from below ∙ sym (before_empty i from below),
        λ i below.
            let none_there = ap (λ (b : Bool). if b then 0 else 2 * record_buckets state.words at) (eq-eqb (field_at state.words at 8) 0 (empty 8 (omega arith) (omega arith))) in
            absurd (omega (arith, below, none_there)),
      )

  -- a record that is passed over has all words that it had, and so have its counts
  module _ (front : List Listed) (at : ℕ) (r : Record) (over : PassedOver shape opened state.words (laid_out shape opened state kept) front at r) where
    held_then : HoldsAs opened.pieces at (histogram (record r { next = over.1 }))
    held_then = over.2.1

    words_still : (i : ℕ) → 4 ≤ i → i < 15 → field_at state.words at i ≡ field_at before at i
    words_still i from below =
        let (size, tag, next, payload, stands, same) = held_then in
        let long = ap length same in
        fixed_still at i (other size tag next payload) stands (inr (from, omega (arith, below, long)))

    -- the opening passes it over
    passed_then : (q : Record) × (before_it : List Listed) × IsPassedOver opened.version shape.page opened.pieces before_it at q
    passed_then =
        let (k, place) = at_from opened.records _ over.2.0 in
        let (xs, ys, split, others) = split_at opened.records k _ place in
        elim (kept.passed_over.each xs ys at split) [
          | inl (size, tag, next, payload, stands, differs) ↦
              let mine = held_then in
              let bodies = (one_stands shape before opened opens.shown at none none (other mine.0 mine.1 mine.2 mine.3) (other size tag next payload) mine.4 stands).1 in
              let one : 1 ≡ tag = ap (λ (words : List ℕ). slice_index words 2) (mine.5 ∙ ap words_of bodies) in
              absurd (differs (sym one))
          | inr (q, is) ↦ (q, xs, is)
        ]

    counts_still : (i : ℕ) → field_at state.words at 8 ≢ 0 → i < 2 * record_buckets state.words at
        → consistent.counts_word state.words at i ≡ consistent.counts_word before at i
    counts_still i some_there below =
        let (q, xs, is) = passed_then in
        let mine = held_then in
        let theirs = is.stands in
        let bodies = (one_stands shape before opened opens.shown at none none (other mine.0 mine.1 mine.2 mine.3) (other theirs.0 theirs.1 theirs.2 theirs.3) mine.4 theirs.4).1 in
        let same : record_words (record r { next = over.1 }) ≡ record_words q = mine.5 ∙ (ap words_of bodies ∙ sym theirs.5) in
        let counts_same : r.counts ≡ q.counts = ap (λ (words : List ℕ). slice_index words 8) same in
        let now = passed_word shape opened state.words (laid_out shape opened state kept) front at r over.0 8 (omega arith) in
        let many = (tells_passed shape opened state.words (laid_out shape opened state kept) front at r over.0).many in
        let lawful = subst (λ (v : ℕ). IsLawfulRecord v shape.page r) kept.same.0 over.0.lawful in
        let first = opens.many at (record r { next = over.1 }) mine lawful in
        let second = opens.many at q theirs is.lawful in
        let (c, holds, of_it, bounded) = is.counted (λ e. some_there (now ∙ (counts_same ∙ e))) in
        let (size, tag, next, payload, stands, counts_are) = holds in
        let whole = ap length counts_are in
        let long = length-append c.units c.marks in
        let all = length-append (c.units ++ c.marks) c.rest in
        let units = of_it.units in
        let marks = of_it.marks in
        let reference : field_at state.words at 8 ≡ q.counts = now ∙ counts_same in
        ap (λ (counts : ℕ). field_at state.words counts (4 + i)) reference
        ∙ (fixed_still q.counts (4 + i) (other size tag next payload) stands
        (inr (omega arith, omega (arith, below, whole, long, all, units, marks, many, first, second)))
        ∙ sym (ap (λ (counts : ℕ). field_at before counts (4 + i)) (sym (words_still 8 (omega arith) (omega arith)) ∙ reference)))

    pub passed_still : CountsStill before state.words at
    passed_still = (
      λ i from below. words_still i (omega (arith, from)) (omega (arith, below)),
      λ i below. by_counts i (field_at state.words at 8 == 0) (eqb-false (field_at state.words at 8) 0) below,
    )
      where
        by_counts : (i : ℕ) (b : Bool) → (b ≡ false → field_at state.words at 8 ≢ 0) → i < (if b then 0 else 2 * record_buckets state.words at)
            → consistent.counts_word state.words at i ≡ consistent.counts_word before at i
        by_counts i true some_there below = absurd (omega (arith, below))
        by_counts i false some_there below = counts_still i (some_there refl) below
