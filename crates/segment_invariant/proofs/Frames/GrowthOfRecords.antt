-- The records of a segment that grows: the old ones stay what they are, and the new ones are valid and count nothing.
use Rattle.segment_invariant.proofs.Prelude.Std.{◌≡◌, ◌≢◌, ◌⊎◌, ℕ, ◌*◌, ◌-ℤ◌, ◌≤◌, ℤ, pos, List, ◌∷◌, ◌++◌, All, Contains, inl, inr, ⊎_elim, refl, sym, ap, ◌∙◌, subst, arith, Some, unsigned_abs, w64, cast_signed, All-contains, Contains-append_right, some, none, get_elem?, first_longer}
use Rattle.segment_invariant.proofs.Prelude.Machine.{Spec, Actor, SumLoaded, units_in}
use Rattle.segment_invariant.proofs.Prelude.Invariant.{Record, Counts, Sample, Body, histogram, sample, Listed, Anatomy, form_at, Stands, HasRecord, HasCounts, HasSample, IsRecordNamed, IsValued, IsFirst, IsFirstOf, StandsAs, IsLawfulRecord, IsCountsOf, CountsNothing, RecordsAreKept, HasKey, SumsAreNear, IsSumOf}
use Rattle.bucket_ranges.specs.declared.spec.Spec.TheVariants as spec
use Rattle.segment_machine.specs.declared.actor.Made.TheVariants as made
use Rattle.segment_invariant.specs.Invariant.{IsOnList, IsLawfulSample, summed_costs}
use Rattle.segment_invariant.proofs.Frames.Growth.{Grows, first_grows, record_stays, record_came, counts_stay, counts_came, sample_came}

-- ---- what was added

-- What was added is valid and counts nothing.
pub record AddedRight (page : ℕ) (old new : Anatomy) (added : ℕ → Body → Type 0) : Type 0 where
  pub lawful : (at : ℕ) (r : Record) → added at (histogram r) → IsLawfulRecord new.version page r
  pub nothing : (at : ℕ) (r : Record) → added at (histogram r) → CountsNothing r
  pub valued : (at : ℕ) (s : Sample) → added at (sample s) → IsLawfulSample s
  pub unmarked : (at : ℕ) (s : Sample) → added at (sample s) → (s.units ≡ 0) × (s.mark ≡ 0)
  pub sampled : (front behind : List Listed) (at of : ℕ) (value : ℤ)
      → new.records ≡ front ++ record { reference = at; made = Some (made.Sample of value) } ∷ behind
      → ((left : List Listed) × (old.records ≡ front ++ record { reference = at; made = Some (made.Sample of value) } ∷ left))
      ⊎ ((name : List ℕ) × IsFirst front name spec.Sparse of × ((s : Sample) → HasSample new.pieces at s → s.name ≡ name))

-- if nothing was added
pub nothing_added : (page : ℕ) (old new : Anatomy) → new.records ≡ old.records → AddedRight page old new (λ at body. ⊥)
nothing_added page old new same = record {
  lawful = λ at r none_added. absurd none_added;
  nothing = λ at r none_added. absurd none_added;
  valued = λ at s none_added. absurd none_added;
  unmarked = λ at s none_added. absurd none_added;
  sampled = λ front behind at of value is. inl (behind, sym same ∙ is);
}

module _ (page : ℕ) (old new : Anatomy) (added : ℕ → Body → Type 0) (grows : Grows old new added) (right : AddedRight page old new added)
    (standing : All (λ l. StandsAs old.pieces l l.made) old.records)
    (alone : (at : ℕ) (body : Body) → Stands old.pieces at none body → IsOnList old.records at body) where
  -- a listed sample is there as one, and nothing was added there
  no_sample : (at of : ℕ) (value : ℤ) (s : Sample) → Contains old.records (record { reference = at; made = Some (made.Sample of value) })
      → added at (sample s) → ⊥
  no_sample at of value s there new_one =
      let l : Listed = record { reference = at; made = Some (made.Sample of value) } in
      let (s0, stands, of_is, value_is) = All-contains (λ l. StandsAs old.pieces l l.made) old.records l standing there in
      grows.apart at at 0 0 (sample s) (sample s0) new_one stands (omega arith) (omega arith) refl

  later_record : RecordsAreKept page old → (at who : ℕ) (r : Record) (first : Spec) → HasRecord new.pieces at r
      → IsFirst new.records r.name first who → who ≢ at
      → CountsNothing r
  later_record kept at who r first there is ne = ⊎_elim
      (λ t. let (r0, n, before, same) = t in
      subst CountsNothing (sym same)
      (⊎_elim
      (λ old_first. kept.later at who r0 first before old_first ne)
      (λ new_one. absurd (All-contains (λ l. ¬ (IsRecordNamed r0.name l)) old.records _ new_one.2 (alone at (histogram r0) before) (r0.spec, refl)))
      (grows.first_came r0.name first who (subst (λ (z : Record). IsFirst new.records z.name first who) same is))))
      (λ new_one. right.nothing at r new_one)
      (record_came old new added grows at r there)

  later_sample : RecordsAreKept page old → (at who : ℕ) (s : Sample) → HasSample new.pieces at s → IsFirstOf new.records s.of s.value who → who ≢ at
      → (s.units ≡ 0) × (s.mark ≡ 0)
  later_sample kept at who s there is ne = ⊎_elim
      (λ t. let (s0, n, before, same) = t in
      subst (λ (z : Sample). (z.units ≡ 0) × (z.mark ≡ 0)) (sym same)
      (⊎_elim
      (λ old_first. kept.later_samples at who s0 before old_first ne)
      (λ new_one. absurd (All-contains (λ (l : Listed). l.made ≢ Some (made.Sample s0.of s0.value)) old.records _ new_one.2 (alone at (sample s0) before) refl))
      (grows.first_of_came s0.of who s0.value (subst (λ (z : Sample). IsFirstOf new.records z.of z.value who) same is))))
      (λ new_one. right.unmarked at s new_one)
      (sample_came old new added grows at s there)

  old_sampled : RecordsAreKept page old → (front left : List Listed) (at of : ℕ) (value : ℤ)
      → old.records ≡ front ++ record { reference = at; made = Some (made.Sample of value) } ∷ left
      → (name : List ℕ) × IsFirst front name spec.Sparse of × ((s : Sample) → HasSample new.pieces at s → s.name ≡ name)
  old_sampled kept front left at of value is =
      let l : Listed = record { reference = at; made = Some (made.Sample of value) } in
      let (name, first, named) = kept.sampled front left at of value is in (
        name,
        first,
        λ s there. ⊎_elim
            (λ t. let (s0, n, before, same) = t in ap (λ (z : Sample). z.name) same ∙ named s0 before)
            (λ new_one. absurd (no_sample at of value s
            (subst (λ (records : List Listed). Contains records l) (sym is) (Contains-append_right front (l ∷ left) l (0, omega arith, refl))) new_one))
            (sample_came old new added grows at s there),
      )

  pub records_grow : RecordsAreKept page old → RecordsAreKept page new
  records_grow kept = record {
    lawful = λ at r there. ⊎_elim
        (λ t. let (r0, n, before, same) = t in
        subst (λ (z : ℕ × Record). IsLawfulRecord z.0 page z.1) (λ i. (sym grows.version i, sym same i))
        (kept.lawful at r0 before))
        (λ new_one. right.lawful at r new_one)
        (record_came old new added grows at r there);
    mounted = λ at r there. ⊎_elim
        (λ t. let (r0, n, before, same) = t in
        subst (λ (z : ℕ × Record). z.1.counts ≢ 0 → (c : Counts) × HasCounts new.pieces z.1.counts c × IsCountsOf z.0 at z.1 c)
        (λ i. (sym grows.version i, sym same i))
        (λ mounts. let (c, stands, is) = kept.mounted at r0 before mounts in
        (c, counts_stay old new added grows r0.counts c stands, is)))
        (λ new_one mounts. absurd (mounts (right.nothing at r new_one).0))
        (record_came old new added grows at r there);
    named = λ at c there. ⊎_elim
        (λ before. let (r, stands, is) = kept.named at c before in
        let (n, still) = record_stays old new added grows c.of r stands in (record r { next = n }, still, is))
        (λ new_one. absurd (grows.bare at c new_one))
        (counts_came old new added grows at c there);
    packed = λ at r there. ⊎_elim
        (λ t. let (r0, n, before, same) = t in
        subst (λ (z : ℕ × Record). z.1.counts ≡ 0 → z.1.mark ≤ units_in (form_at z.0 z.1)) (λ i. (sym grows.version i, sym same i))
        (kept.packed at r0 before))
        (λ new_one none_named. let unmarked = (right.nothing at r new_one).2 in omega (arith, unmarked))
        (record_came old new added grows at r there);
    valued = λ at s there. ⊎_elim
        (λ t. let (s0, n, before, same) = t in subst IsLawfulSample (sym same) (kept.valued at s0 before))
        (λ new_one. right.valued at s new_one)
        (sample_came old new added grows at s there);
    sampled = λ front behind at of value is. ⊎_elim
        (λ t. old_sampled kept front t.0 at of value t.1)
        (λ new_one. new_one)
        (right.sampled front behind at of value is);
    later = later_record kept;
    later_samples = later_sample kept;
  }

-- ---- keys and sums

module _ (old new : Anatomy) (added : ℕ → Body → Type 0) (grows : Grows old new added) where
  pub key_grows : (name : List ℕ) (key : ℤ) → HasKey old.records name key → HasKey new.records name key
  key_grows name key (kind, at, first, inl bucket) = (kind, at, first_grows old new added grows name kind at first, inl bucket)
  key_grows name key (kind, at, first, inr (sparse, who, sampled)) = (
    kind,
    at,
    first_grows old new added grows name kind at first,
    inr (sparse, who, subst (λ (records : List Listed). IsFirstOf records at key who) (sym grows.records) (first_longer (IsValued at key) old.records grows.more _ sampled)),
  )

  module _ (actors : List Actor)
      (loaded_record : (id : ℕ) (a : Actor) (reference : ℕ) (sum : ℤ) → get_elem? actors id ≡ some a → a.hand.place ≡ SumLoaded reference sum
      → (r : Record) × HasRecord old.pieces reference r)
      (nothing : (at : ℕ) (r : Record) → added at (histogram r) → (r.sum ≡ 0) × (r.sum_mark ≡ 0)) where
    -- of what was added every sum is 0
    no_sum : (at : ℕ) (r : Record) (x : ℤ) → added at (histogram r) → IsSumOf actors at r x → x ≡ pos 0
    no_sum at r x new_one (inl none_yet) = none_yet
    no_sum at r x new_one (inr (inl now)) = now ∙ ap (cast_signed w64) (nothing at r new_one).0
    no_sum at r x new_one (inr (inr (inl mark))) = mark ∙ ap (cast_signed w64) (nothing at r new_one).1
    no_sum at r x new_one (inr (inr (inr (id, a, there, loaded)))) =
        let (r1, stands) = loaded_record id a at x there loaded in
        absurd (grows.apart at at 0 0 (histogram r) (histogram r1) new_one stands (omega arith) (omega arith) refl)

    pub sums_grow : SumsAreNear old.pieces actors → SumsAreNear new.pieces actors
    sums_grow near at r x y there one two = ⊎_elim
        (λ t. let (r0, n, stood, is) = t in
        let sum_of : (z : ℤ) → IsSumOf actors at r z → IsSumOf actors at r0 z = λ z sum. subst (λ (w : Record). IsSumOf actors at w z) is sum in
        subst (λ (w : Record). unsigned_abs (x -ℤ y) ≤ 2147483648 * summed_costs w.name actors) (sym is) (near at r0 x y stood (sum_of x one) (sum_of y two)))
        (λ new_one.
        subst (λ (p : ℤ × ℤ). unsigned_abs (p.0 -ℤ p.1) ≤ 2147483648 * summed_costs r.name actors)
        (λ i. (sym (no_sum at r x new_one one) i, sym (no_sum at r y new_one two) i))
        (omega arith))
        (record_came old new added grows at r there)
