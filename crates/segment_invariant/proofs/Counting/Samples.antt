-- Samples that an actor visited: they are there as what it saw; the first that it saw of a value is the first on the list, and a later one
-- counts nothing.
use Rattle.segment_invariant.proofs.Prelude.Std.{◌≡◌, ◌≢◌, ℕ, suc, ◌+◌, ◌<◌, ℤ, List, ◌∷◌, ◌++◌, map, length, drop, Contains, inl, inr, refl, sym, ap, ◌∙◌, subst, arith, append_assoc, length-append, slice_index, Some, None, w64, cast_signed, cast_unsigned, get_or_append_left, map-append, All-contains, Contains-append_left, Contains-append_right, some, get_elem?, at_from, all_of, split_at}
use Rattle.segment_invariant.proofs.Prelude.Machine.{Dimensions, word_at, IsLinked, Actor, Made, Spent, word_seen, SawSample, SawOther, IsFirstSample, State}
use Rattle.segment_invariant.proofs.Prelude.Invariant.{Sample, histogram, sample, other, Listed, Anatomy, order_of, HasSample, IsFirstOf, StandsAs, Invariant}
use Rattle.std.specs.Prelude as std
use Rattle.std.proofs.Math.Seq.{drop-append_seam}
use lib.Seq.{get_or-append_seam}
use Rattle.bucket_ranges.specs.declared.spec.Spec.TheVariants as spec
use Rattle.list_core.proofs.Chains.{one_place}
use Rattle.segment_machine.specs.declared.actor.Made.TheVariants as made
use Rattle.segment_machine.specs.Taking.{IsLaterSample}
use Rattle.segment_machine.proofs.Values.{value_word}
use Rattle.segment_invariant.specs.Body.{sample_words}
use Rattle.list_lemmas.proofs.Elements.{split_map}
use Rattle.segment_invariant.proofs.Blocks.Pieces.{piece_word}
use Rattle.segment_invariant.proofs.Consistency.Records.{listed_there}
use Rattle.segment_invariant.proofs.Walking.Words.{sighted}

-- a record is on a list once, so what follows it is the same
once : (words chain rest p q r s : List ℕ) (h : ℕ) → IsLinked words chain → chain ≡ (p ++ h ∷ r) ++ rest → p ++ h ∷ r ≡ q ++ h ∷ s → r ≡ s
once words chain rest p q r s h linked is same =
    let all = ap length is in
    let long = length-append (p ++ h ∷ r) rest in
    let first = length-append p (h ∷ r) in
    let second = length-append q (h ∷ s) in
    let equal = ap length same in
    let by : (n : ℕ) → n < length (p ++ h ∷ r) → slice_index chain n ≡ slice_index (p ++ h ∷ r) n =
    λ n low. ap (λ (l : List ℕ). slice_index l n) is ∙ get_or_append_left (p ++ h ∷ r) rest 0 n low in
    let one : slice_index chain (length p) ≡ h = by (length p) (omega (arith, first)) ∙ get_or-append_seam p h r 0 in
    let two : slice_index chain (length q) ≡ h =
    by (length q) (omega (arith, second, equal)) ∙ (ap (λ (l : List ℕ). slice_index l (length q)) same ∙ get_or-append_seam q h s 0) in
    let places = one_place words chain (suc (length p)) (suc (length q)) linked (omega (arith, all, long, first)) (omega (arith, all, long, second, equal)) (one ∙ sym two) in
    let n : length p ≡ length q = omega (arith, places) in
    let tails : h ∷ r ≡ h ∷ s = sym (drop-append_seam p (h ∷ r)) ∙ ((λ i. drop (n i) (same i)) ∙ drop-append_seam q (h ∷ s)) in
    cc tails

abbrev references : List Listed → List ℕ
references records = map (λ (l : Listed). l.reference) records

module _ (shape : Dimensions) (opened : Anatomy) (state : State) (kept : Invariant shape opened state) (id : ℕ) (a : Actor)
    (mine : get_elem? state.actors id ≡ some a) (lives : a.hand.place ≢ Spent) where
  abbrev order : List ℕ
  order = order_of kept.anatomy

  abbrev records : List Listed
  records = kept.anatomy.records

  abbrev StandsSample : ℕ → ℕ → ℤ → Type 0
  StandsSample at of value = (s : Sample) × HasSample kept.anatomy.pieces at s × (s.of ≡ of) × (s.value ≡ value)

  -- a word that it saw of a sample
  word_is : (at i word : ℕ) (s : Sample) → i < 8 → HasSample kept.anatomy.pieces at s → word_seen a.seen.words (at + i) ≡ Some word
      → slice_index (sample_words s) i ≡ word
  word_is at i word s below stands = sighted shape opened state kept id a mine lives at i word (sample s) stands (omega (arith, below))

  -- a listed record that it saw to be a sample was given as one, and is one
  made_sample : (l : Listed) (of : ℕ) (value : ℤ) → Contains records l → SawSample a.seen of value l.reference
      → (l.made ≡ Some (made.Sample of value)) × StandsSample l.reference of value
  made_sample l of value among (tag, of_it, valued, small) =
      by_made l.made refl (All-contains (λ l. StandsAs kept.anatomy.pieces l l.made) records l kept.list.standing among)
    where
      by_made : (m : std.Option Made) → l.made ≡ m → StandsAs kept.anatomy.pieces l m → (l.made ≡ Some (made.Sample of value)) × StandsSample l.reference of value
      by_made (Some (made.Histogram name spec)) is (r, stands, named, specified) =
          let one = sighted shape opened state kept id a mine lives l.reference 2 3 (histogram r) stands (omega arith) tag in absurd (omega (arith, one))
      by_made (Some (made.Sample from number)) is (s, stands, mine_is, numbered) =
          let same : s.of ≡ of = word_is l.reference 4 of s (omega arith) stands of_it in
          let word : cast_unsigned w64 s.value ≡ cast_unsigned w64 value = word_is l.reference 5 (cast_unsigned w64 value) s (omega arith) stands valued in
          let equal : s.value ≡ value =
          sym (value_word s.value (kept.records.valued l.reference s stands).valued) ∙ (ap (cast_signed w64) word ∙ value_word value small) in
          (is ∙ (λ i. Some (made.Sample ((sym mine_is ∙ same) i) ((sym numbered ∙ equal) i))), (s, stands, same, equal))
      by_made None is (size, kind, next, payload, stands, third, long) =
          absurd (third (sighted shape opened state kept id a mine lives l.reference 2 3 (other size kind next payload) stands (omega arith) tag))

  -- one that it saw to be another was not
  made_other : (l : Listed) (of : ℕ) (value : ℤ) → Contains records l → SawOther a.seen of value l.reference → l.made ≢ Some (made.Sample of value)
  made_other l of value among saw given =
      let (s, stands, mine_is, valued) = subst (StandsAs kept.anatomy.pieces l) given
      (All-contains (λ l. StandsAs kept.anatomy.pieces l l.made) records l kept.list.standing among) in
      by_saw s stands mine_is valued saw
    where
      by_saw : (s : Sample) → HasSample kept.anatomy.pieces l.reference s → s.of ≡ of → s.value ≡ value → SawOther a.seen of value l.reference → ⊥
      by_saw s stands mine_is valued (inl (tag, seen, apart)) = apart (sym (word_is l.reference 2 tag s (omega arith) stands seen))
      by_saw s stands mine_is valued (inr (inl (from, seen, apart))) = apart (sym (word_is l.reference 4 from s (omega arith) stands seen) ∙ mine_is)
      by_saw s stands mine_is valued (inr (inr (word, seen, apart))) =
          apart (sym (word_is l.reference 5 word s (omega arith) stands seen) ∙ ap (cast_unsigned w64) valued)

  -- a sample that it visited is what it saw
  pub sample_met : (at of : ℕ) (value : ℤ) → Contains a.seen.chain at → SawSample a.seen of value at → StandsSample at of value
  sample_met at of value met saw =
      let (rest, is) = (kept.each id a mine lives).sees.walked in
      let there : Contains order at = subst (λ (chain : List ℕ). Contains chain at) (sym is) (Contains-append_left a.seen.chain rest at met) in
      let (l, among, place, standing) = listed_there kept.anatomy at kept.list.standing there in
      subst (λ (n : ℕ). StandsSample n of value) place
      (made_sample l of value among (subst (λ (n : ℕ). SawSample a.seen of value n) (sym place) saw)).1

  -- the first sample of a value that it saw after the record of its histogram is the first on the list
  pub first_met : (of : ℕ) (value : ℤ) (at : ℕ) → IsFirstSample a.seen of value at → IsFirstOf records of value at
  first_met of value at (front, tail, chain_is, (between, behind, tail_is, others, saw)) =
      let (rest, walked) = (kept.each id a mine lives).sees.walked in
      let whole : order ≡ (front ++ of ∷ between) ++ at ∷ (behind ++ rest) =
      walked ∙ (ap (λ (l : List ℕ). l ++ rest) (chain_is ∙ ap (λ (l : List ℕ). front ++ of ∷ l) tail_is)
      ∙ (append_assoc front (of ∷ (between ++ at ∷ behind)) rest
      ∙ (ap (λ (l : List ℕ). front ++ of ∷ l) (append_assoc between (at ∷ behind) rest)
      ∙ sym (append_assoc front (of ∷ between) (at ∷ (behind ++ rest)))))) in
      let (xs, ys, l, split, before, here) = split_map (λ (l : Listed). l.reference) records (front ++ of ∷ between) (behind ++ rest) at whole in
      let among : Contains records l =
      subst (λ (list : List Listed). Contains list l) (sym split) (Contains-append_right xs (l ∷ ys) l (0, omega arith, refl)) in
      let given = (made_sample l of value among (subst (λ (n : ℕ). SawSample a.seen of value n) (sym here) saw)).0 in (
        xs,
        ys,
        split ∙ (λ i. xs ++ record { reference = here i; made = given i } ∷ ys),
        all_of (λ l. l.made ≢ Some (made.Sample of value)) xs (λ x has made_so.
            let (i, there) = at_from xs x has in
            let (f, b, parts, set_parts) = split_at xs i x there in
            let long : records ≡ f ++ record { reference = x.reference; made = Some (made.Sample of value) } ∷ (b ++ l ∷ ys) =
            split ∙ (ap (λ (list : List Listed). list ++ l ∷ ys) parts
            ∙ (append_assoc f (x ∷ b) (l ∷ ys) ∙ (λ i. f ++ record { reference = x.reference; made = made_so i } ∷ (b ++ l ∷ ys)))) in
            let (name, (fs, gs, has_first, none_before, its_kind), named) = kept.records.sampled f (b ++ l ∷ ys) x.reference of value long in
            let fronts : references f ≡ references fs ++ of ∷ references gs =
            ap references has_first ∙ map-append (λ (l : Listed). l.reference) fs (record { reference = of; made = Some (made.Histogram name spec.Sparse) } ∷ gs) in
            let all : references fs ++ of ∷ (references gs ++ x.reference ∷ references b) ≡ front ++ of ∷ between =
            sym (append_assoc (references fs) (of ∷ references gs) (x.reference ∷ references b))
            ∙ (ap (λ (list : List ℕ). list ++ x.reference ∷ references b) (sym fronts)
            ∙ (sym (map-append (λ (l : Listed). l.reference) f (x ∷ b)) ∙ (sym (ap references parts) ∙ before))) in
            let behind_it : references gs ++ x.reference ∷ references b ≡ between =
            once state.words order (at ∷ (behind ++ rest)) (references fs) front _ between of kept.list.linked
            (whole ∙ ap (λ (list : List ℕ). list ++ at ∷ (behind ++ rest)) (sym all)) all in
            let met : Contains between x.reference =
            subst (λ (list : List ℕ). Contains list x.reference) behind_it
            (Contains-append_right (references gs) (x.reference ∷ references b) x.reference (0, omega arith, refl)) in
            made_other x of value (subst (λ (list : List Listed). Contains list x) (sym split) (Contains-append_left xs (l ∷ ys) x has))
            (All-contains (SawOther a.seen of value) between x.reference others met) made_so),
        refl,
      )

  -- a later one counts nothing
  pub later_learned : (at : ℕ) → IsLaterSample a at → word_at state.words (at + 6) ≡ 0
  later_learned at (known, value, first, sparse, met, saw, is_first, apart) =
      let (s, (k, there), of_it, valued) = sample_met at known.reference value met saw in
      let first_is = subst (λ (p : ℕ × ℤ). IsFirstOf records p.0 p.1 first) (λ i. (sym of_it i, sym valued i)) (first_met known.reference value first is_first) in
      piece_word shape state.words kept.anatomy kept.shown k _ 6 there (omega arith) ∙ (kept.records.later_samples at first s (k, there) first_is apart).0
