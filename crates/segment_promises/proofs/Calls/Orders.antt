-- In a state that is reached, what an actor visited is in order: no block twice, and each sample after the record of its histogram.
use Rattle.segment_invariant.proofs.Prelude.Std.{◌≡◌, ◌≢◌, ℕ, zero, suc, ◌+◌, ◌≤◌, ℤ, List, ◌∷◌, ◌++◌, length, map, slice_index, ⊎_elim, sym, ap, ◌∙◌, subst, arith, append_assoc, length-append, Some, Contains, get_or, get_or_append_left, map-append, Contains-append_cases, some, get_elem?, at_from, split_at}
use Rattle.segment_invariant.proofs.Prelude.Machine.{Dimensions, IsLinked, stops, IsPrefix, Actor, Spent, State}
use Rattle.segment_invariant.proofs.Prelude.Invariant.{Listed, Anatomy, sample, order_of, Invariant}
use lib.Seq.{get_or-append_seam}
use Rattle.bucket_ranges.specs.declared.spec.Spec.TheVariants as spec
use Rattle.list_core.proofs.Chains.{one_place}
use Rattle.segment_machine.specs.declared.actor.Made.TheVariants as made
use Rattle.segment_invariant.proofs.Counting.Samples.{sample_met}
use Rattle.segment_promises.specs.Values.{NoRepeats}
use Rattle.segment_promises.specs.Calls.{SamplesStandBehind}

-- ---- lists on which nothing occurs twice

-- no block occurs twice in the front of a list
pub once_in : (words chain order : List ℕ) → IsPrefix chain order → IsLinked words order → NoRepeats chain
once_in words chain order (rest, is) linked i j before within same =
    let long : length order ≡ length chain + length rest = ap length is ∙ length-append chain rest in
    let stop : (k : ℕ) → k ≤ length chain → slice_index (stops order) k ≡ slice_index (stops chain) k =
    λ k low. ap (λ (l : List ℕ). get_or (stops l) k 0) is ∙ get_or_append_left (stops chain) rest 0 k (omega arith) in
    linked.distinct i j before (omega (arith, within, long)) (stop i (omega (arith, before, within)) ∙ (same ∙ sym (stop j within)))

module _ (words order : List ℕ) (linked : IsLinked words order) where
  one_index : (p q r s : List ℕ) (x : ℕ) → order ≡ p ++ x ∷ q → order ≡ r ++ x ∷ s → length p ≡ length r
  one_index p q r s x is same =
      let here : slice_index order (length p) ≡ x = ap (λ (l : List ℕ). slice_index l (length p)) is ∙ get_or-append_seam p x q 0 in
      let there : slice_index order (length r) ≡ x = ap (λ (l : List ℕ). slice_index l (length r)) same ∙ get_or-append_seam r x s 0 in
      let first = ap length is ∙ length-append p (x ∷ q) in
      let second = ap length same ∙ length-append r (x ∷ s) in
      let place = one_place words order (suc (length p)) (suc (length r)) linked (omega (arith, first)) (omega (arith, second)) (here ∙ sym there) in
      omega (arith, place)

  -- what comes after another on the list comes after it on its front
  behind_there : (chain rest front behind fs gs bs : List ℕ) (h s : ℕ) → order ≡ chain ++ rest → chain ≡ front ++ h ∷ behind
      → order ≡ (fs ++ h ∷ gs) ++ s ∷ bs → Contains chain s → Contains behind s
  behind_there chain rest front behind fs gs bs h s whole is apart met =
      ⊎_elim before (λ later. not_itself later) (Contains-append_cases front (h ∷ behind) s (subst (λ (l : List ℕ). Contains l s) is met))
    where
      at_h : order ≡ fs ++ h ∷ (gs ++ s ∷ bs)
      at_h = apart ∙ append_assoc fs (h ∷ gs) (s ∷ bs)

      long : length (fs ++ h ∷ gs) ≡ length fs + length (h ∷ gs)
      long = length-append fs (h ∷ gs)

      before : Contains front s → Contains behind s
      before has =
          let (i, there) = at_from front s has in
          let (p, q, parts, others) = split_at front i s there in
          let first : order ≡ front ++ h ∷ (behind ++ rest) = whole ∙ (ap (λ (l : List ℕ). l ++ rest) is ∙ append_assoc front (h ∷ behind) rest) in
          let split : order ≡ p ++ s ∷ (q ++ h ∷ (behind ++ rest)) =
          first ∙ (ap (λ (l : List ℕ). l ++ h ∷ (behind ++ rest)) parts ∙ append_assoc p (s ∷ q) (h ∷ (behind ++ rest))) in
          let of_h = one_index front (behind ++ rest) fs (gs ++ s ∷ bs) h first at_h in
          let of_s = one_index p (q ++ h ∷ (behind ++ rest)) (fs ++ h ∷ gs) bs s split apart in
          let all = ap length parts ∙ length-append p (s ∷ q) in
          absurd (omega (arith, of_h, of_s, all, long))

      not_itself : Contains (h ∷ behind) s → Contains behind s
      not_itself (zero, below, same) =
          let one = one_index fs (gs ++ s ∷ bs) (fs ++ h ∷ gs) bs h at_h (subst (λ (x : ℕ). order ≡ (fs ++ h ∷ gs) ++ x ∷ bs) (sym same) apart) in
          absurd (omega (arith, one, long))
      not_itself (suc k, below, same) = (k, omega (arith, below), same)

-- ---- what an actor visited

abbrev references : List Listed → List ℕ
references records = map (λ (l : Listed). l.reference) records

module _ (shape : Dimensions) (opened : Anatomy) (state : State) (kept : Invariant shape opened state) (id : ℕ) (a : Actor)
    (mine : get_elem? state.actors id ≡ some a) (lives : a.hand.place ≢ Spent) where
  pub no_repeats : NoRepeats a.seen.chain
  no_repeats = once_in state.words a.seen.chain (order_of kept.anatomy) (kept.each id a mine lives).sees.walked kept.list.linked

  -- what is listed after its histogram comes after it where it was visited
  pub listed_behind : (histogram at : ℕ) (value : ℤ) (front behind : List ℕ)
      → Contains kept.anatomy.records (record { reference = at; made = Some (made.Sample histogram value) }) → Contains a.seen.chain at
      → a.seen.chain ≡ front ++ histogram ∷ behind → Contains behind at
  listed_behind histogram at value front behind has met is =
      let anatomy = kept.anatomy in
      let (rest, walked) = (kept.each id a mine lives).sees.walked in
      let l : Listed = record { reference = at; made = Some (made.Sample histogram value) } in
      let (i, there) = at_from anatomy.records l has in
      let (f, b, parts, others) = split_at anatomy.records i l there in
      let (name, (fs, gs, has_first, none_before, kind), named) = kept.records.sampled f b at histogram value parts in
      let fronts : references f ≡ references fs ++ histogram ∷ references gs =
      ap references has_first ∙ map-append (λ (r : Listed). r.reference) fs (record { reference = histogram; made = Some (made.Histogram name spec.Sparse) } ∷ gs) in
      let apart : order_of anatomy ≡ (references fs ++ histogram ∷ references gs) ++ at ∷ references b =
      ap references parts ∙ (map-append (λ (r : Listed). r.reference) f (l ∷ b) ∙ ap (λ (list : List ℕ). list ++ at ∷ references b) fronts) in
      behind_there state.words (order_of anatomy) kept.list.linked a.seen.chain rest front behind (references fs) (references gs) (references b) histogram at
      walked is apart met

  pub stand_behind : SamplesStandBehind a
  stand_behind histogram at value front behind met saw is =
      let (s, stands, of_it, valued) = sample_met shape opened state kept id a mine lives at histogram value met saw in
      let listed : Contains kept.anatomy.records (record { reference = at; made = Some (made.Sample histogram value) }) =
      subst (λ (p : ℕ × ℤ). Contains kept.anatomy.records (record { reference = at; made = Some (made.Sample p.0 p.1) })) (λ i. (of_it i, valued i))
      (kept.list.alone at (sample s) stands) in
      listed_behind histogram at value front behind listed met is
