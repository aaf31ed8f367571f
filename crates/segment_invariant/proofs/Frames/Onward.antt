-- How published blocks continue: what is fixed in them stays, counters rise, single words lead on. So what was seen stays true.
use Rattle.segment_invariant.proofs.Prelude.Std.{◌≡◌, ◌≢◌, ◌⊎◌, ℕ, ◌+◌, ◌-◌, ◌<◌, ◌≤◌, true, List, [], ◌∷◌, ◌++◌, length, All, Contains, inl, inr, ⊎_elim, refl, sym, ap, ◌∙◌, subst, arith, slice_index, Some, None, get_or_append_left, All-weaker, All-contains, none, all_of}
use Rattle.segment_invariant.proofs.Prelude.Machine.{Spec, buckets_of, spec_ranges, single_of, Made, Seen, Sighting, Behind, IsPrefix, is_off, Leads, SawSample}
use Rattle.segment_invariant.proofs.Prelude.Invariant.{Record, Counts, Sample, Body, queue, plain, held, histogram, counts, sample, other, words_of, is_claimed, Listed, Anatomy, order_of, free_of, Stands, HasRecord, HasCounts, HasSample, WasFixed, WasCounter, WasInUse, WasSingle, IsNoLater, Sees, WasMet, StandsAs}
use Rattle.std.specs.Prelude as std
use Rattle.std.proofs.lemmas.List.{get_or-append_right}
use Rattle.segment_machine.specs.declared.actor.Made.TheVariants as made
use Rattle.segment_invariant.specs.Body.{spec_field}
use Rattle.segment_invariant.specs.Rises.{RecordGoes, CountsGo, SampleGoes, GoesAs}
use Rattle.segment_invariant.specs.Seen.{IsFixedIn, IsCounterIn, AreNoLater}
use Rattle.segment_invariant.specs.Invariant.{IsOnList}
use Rattle.segment_invariant.proofs.Blocks.Places.{counter_within}
use Rattle.segment_invariant.proofs.Frames.Leads.{off_leads, leads_on}
use Rattle.segment_image.specs.declared.layout.TheConstants.{CLAIMED_COOKIE}

-- ---- a block that continues

-- once the single word is off it stays
pub off_stays : (version : ℕ) (r s : Record) → RecordGoes version r s → is_off r.single ≡ true → s.single ≡ r.single
off_stays version r s goes off = sym (off_leads version (buckets_of r.spec) r.single s.single off goes.single)

-- a block continues as itself
pub record_goes_itself : (version : ℕ) (r : Record) → RecordGoes version r r
record_goes_itself version r = record { is = refl; counts = λ there. refl; single = inl refl; mark = omega arith; noted = omega arith }

pub goes_itself : (version : ℕ) (body : Body) → GoesAs version body body
goes_itself version (histogram r) = (r, refl, record_goes_itself version r)
goes_itself version (counts c) = (c, refl, record { is = refl; long = (refl, refl); rise = λ i. omega arith })
goes_itself version (sample s) = (s, refl, record { is = refl; units = omega arith; mark = omega arith })
goes_itself version (other size tag next payload) = (next, refl)
goes_itself version (queue next) = refl
goes_itself version (plain words) = refl
goes_itself version (held block) = refl

-- ---- its words

-- after its redundant count a record has its name and its ranges
record_behind : (r : Record) (i : ℕ) → 14 ≤ i
    → slice_index (words_of (histogram r)) i ≡ slice_index (length r.name ∷ (r.letters ++ spec_ranges r.spec ++ r.rest)) (i - 14)
record_behind r i from =
    let words = words_of (histogram r) in
    get_or-append_right
    (slice_index words 0 ∷ slice_index words 1 ∷ slice_index words 2 ∷ slice_index words 3 ∷ slice_index words 4 ∷ slice_index words 5
    ∷ slice_index words 6 ∷ slice_index words 7 ∷ slice_index words 8 ∷ slice_index words 9 ∷ slice_index words 10 ∷ slice_index words 11
    ∷ slice_index words 12 ∷ slice_index words 13 ∷ [])
    (length r.name ∷ (r.letters ++ spec_ranges r.spec ++ r.rest)) 14 i 0 refl from

-- its kind, its minimum, its maximum and its number of buckets are its spec's
record_spec : (r : Record) (i : ℕ) → 4 ≤ i → i < 8
    → slice_index (words_of (histogram r)) i
    ≡ slice_index (spec_field r.spec 0 ∷ spec_field r.spec 1 ∷ spec_field r.spec 2 ∷ spec_field r.spec 3 ∷ []) (i - 4)
record_spec r i from below =
    let words = words_of (histogram r) in
    let fields = spec_field r.spec 0 ∷ spec_field r.spec 1 ∷ spec_field r.spec 2 ∷ spec_field r.spec 3 ∷ [] in
    let rest = r.counts ∷ r.single ∷ r.mark ∷ r.sum ∷ r.sum_mark ∷ r.noted ∷ length r.name ∷ (r.letters ++ spec_ranges r.spec ++ r.rest) in
    get_or-append_right (slice_index words 0 ∷ slice_index words 1 ∷ slice_index words 2 ∷ slice_index words 3 ∷ []) (fields ++ rest) 4 i 0 refl from
    ∙ get_or_append_left fields rest 0 (i - 4) (omega (arith, from, below))

-- what comes after the mark of a sample
sample_behind : (s : Sample) (i : ℕ) → 8 ≤ i → slice_index (words_of (sample s)) i ≡ slice_index s.rest (i - 8)
sample_behind s i from =
    let words = words_of (sample s) in
    get_or-append_right
    (slice_index words 0 ∷ slice_index words 1 ∷ slice_index words 2 ∷ slice_index words 3 ∷ slice_index words 4 ∷ slice_index words 5
    ∷ slice_index words 6 ∷ slice_index words 7 ∷ [])
    s.rest 8 i 0 refl from

-- a fixed word of a block is a fixed word of what it continues as, and the same
pub fixed_goes : (version : ℕ) (x y : Body) (i : ℕ) → GoesAs version x y → IsFixedIn x i
    → IsFixedIn y i × (slice_index (words_of y) i ≡ slice_index (words_of x) i)
fixed_goes version (histogram r) y i (s, is, goes) fixed =
    subst (λ (body : Body). IsFixedIn body i × (slice_index (words_of body) i ≡ slice_index (words_of (histogram r)) i)) (sym is) (
      in_it fixed,
      same fixed,
    )
  where
    long : length (words_of (histogram s)) ≡ length (words_of (histogram r))
    long = ap (λ (z : Record). length (words_of (histogram z))) goes.is

    in_it : IsFixedIn (histogram r) i → IsFixedIn (histogram s) i
    in_it (inl two) = inl two
    in_it (inr (inl spec)) = inr (inl spec)
    in_it (inr (inr (inl (eight, there)))) = inr (inr (inl (eight, λ none_there. there (sym (goes.counts there) ∙ none_there))))
    in_it (inr (inr (inr (from, below)))) = inr (inr (inr (from, omega (arith, below, long))))

    same : IsFixedIn (histogram r) i → slice_index (words_of (histogram s)) i ≡ slice_index (words_of (histogram r)) i
    same (inl two) = ap (slice_index (words_of (histogram s))) two ∙ sym (ap (slice_index (words_of (histogram r))) two)
    same (inr (inl (from, below))) =
        record_spec s i from below
        ∙ (ap (λ (z : Record). slice_index (spec_field z.spec 0 ∷ spec_field z.spec 1 ∷ spec_field z.spec 2 ∷ spec_field z.spec 3 ∷ []) (i - 4)) goes.is
        ∙ sym (record_spec r i from below))
    same (inr (inr (inl (eight, there)))) =
        ap (slice_index (words_of (histogram s))) eight ∙ (goes.counts there ∙ sym (ap (slice_index (words_of (histogram r))) eight))
    same (inr (inr (inr (from, below)))) =
        record_behind s i from
        ∙ (ap (λ (z : Record). slice_index (length z.name ∷ (z.letters ++ spec_ranges z.spec ++ z.rest)) (i - 14)) goes.is ∙ sym (record_behind r i from))
fixed_goes version (sample s) y i (t, is, goes) fixed =
    subst (λ (body : Body). IsFixedIn body i × (slice_index (words_of body) i ≡ slice_index (words_of (sample s)) i)) (sym is) (in_it fixed, same fixed)
  where
    long : length (words_of (sample t)) ≡ length (words_of (sample s))
    long = ap (λ (z : Sample). length (words_of (sample z))) goes.is

    in_it : IsFixedIn (sample s) i → IsFixedIn (sample t) i
    in_it (inl two) = inl two
    in_it (inr (inl four)) = inr (inl four)
    in_it (inr (inr (inl five))) = inr (inr (inl five))
    in_it (inr (inr (inr (from, below)))) = inr (inr (inr (from, omega (arith, below, long))))

    word : (j : ℕ) → i ≡ j → slice_index (words_of (sample t)) j ≡ slice_index (words_of (sample s)) j
        → slice_index (words_of (sample t)) i ≡ slice_index (words_of (sample s)) i
    word j at e = ap (slice_index (words_of (sample t))) at ∙ (e ∙ sym (ap (slice_index (words_of (sample s))) at))

    same : IsFixedIn (sample s) i → slice_index (words_of (sample t)) i ≡ slice_index (words_of (sample s)) i
    same (inl two) = word 2 two refl
    same (inr (inl four)) = word 4 four (ap (λ (z : Sample). z.of) goes.is)
    same (inr (inr (inl five))) = word 5 five (ap (λ (z : Sample). slice_index (words_of (sample z)) 5) goes.is)
    same (inr (inr (inr (from, below)))) = sample_behind t i from ∙ (ap (λ (z : Sample). slice_index z.rest (i - 8)) goes.is ∙ sym (sample_behind s i from))
fixed_goes version (other size tag next payload) y i (n, is) fixed =
    subst (λ (body : Body). IsFixedIn body i × (slice_index (words_of body) i ≡ slice_index (words_of (other size tag next payload)) i)) (sym is)
    (fixed, same fixed)
  where
    same : IsFixedIn (other size tag next payload) i
        → slice_index (words_of (other size tag n payload)) i ≡ slice_index (words_of (other size tag next payload)) i
    same (inl two) = ap (slice_index (words_of (other size tag n payload))) two ∙ sym (ap (slice_index (words_of (other size tag next payload))) two)
    same (inr (from, below)) =
        get_or-append_right (size ∷ CLAIMED_COOKIE ∷ tag ∷ n ∷ []) payload 4 i 0 refl from
        ∙ sym (get_or-append_right (size ∷ CLAIMED_COOKIE ∷ tag ∷ next ∷ []) payload 4 i 0 refl from)
fixed_goes version (queue next) y i goes fixed = absurd fixed
fixed_goes version (plain words) y i goes fixed = absurd fixed
fixed_goes version (held block) y i goes fixed = absurd fixed
fixed_goes version (counts c) y i goes fixed = absurd fixed

-- a counter of it too, and it has risen
pub counter_goes : (version : ℕ) (x y : Body) (i : ℕ) → GoesAs version x y → IsCounterIn x i
    → IsCounterIn y i × (slice_index (words_of x) i ≤ slice_index (words_of y) i)
counter_goes version (histogram r) y i (s, is, goes) counter =
    subst (λ (body : Body). IsCounterIn body i × (slice_index (words_of (histogram r)) i ≤ slice_index (words_of body) i)) (sym is) (counter, risen counter)
  where
    risen : IsCounterIn (histogram r) i → slice_index (words_of (histogram r)) i ≤ slice_index (words_of (histogram s)) i
    risen (inl ten) = subst (λ (j : ℕ). slice_index (words_of (histogram r)) j ≤ slice_index (words_of (histogram s)) j) (sym ten) goes.mark
    risen (inr thirteen) = subst (λ (j : ℕ). slice_index (words_of (histogram r)) j ≤ slice_index (words_of (histogram s)) j) (sym thirteen) goes.noted
counter_goes version (counts c) y i (d, is, goes) (from, below) =
    let long = goes.long in
    subst (λ (body : Body). IsCounterIn body i × (slice_index (words_of (counts c)) i ≤ slice_index (words_of body) i)) (sym is)
    ((from, omega (arith, below, long)), goes.rise i)
counter_goes version (sample s) y i (t, is, goes) counter =
    subst (λ (body : Body). IsCounterIn body i × (slice_index (words_of (sample s)) i ≤ slice_index (words_of body) i)) (sym is) (counter, risen counter)
  where
    risen : IsCounterIn (sample s) i → slice_index (words_of (sample s)) i ≤ slice_index (words_of (sample t)) i
    risen (inl six) = subst (λ (j : ℕ). slice_index (words_of (sample s)) j ≤ slice_index (words_of (sample t)) j) (sym six) goes.units
    risen (inr seven) = subst (λ (j : ℕ). slice_index (words_of (sample s)) j ≤ slice_index (words_of (sample t)) j) (sym seven) goes.mark
counter_goes version (queue next) y i goes counter = absurd counter
counter_goes version (plain words) y i goes counter = absurd counter
counter_goes version (held block) y i goes counter = absurd counter
counter_goes version (other size tag next payload) y i goes counter = absurd counter

-- what is fixed in a block, or a counter, is somebody's claim
fixed_claimed : (body : Body) (i : ℕ) → IsFixedIn body i → is_claimed body ≡ true
fixed_claimed (histogram r) i fixed = refl
fixed_claimed (sample s) i fixed = refl
fixed_claimed (other size tag next payload) i fixed = refl
fixed_claimed (counts c) i fixed = refl
fixed_claimed (queue next) i fixed = absurd fixed
fixed_claimed (plain words) i fixed = absurd fixed
fixed_claimed (held block) i fixed = refl

counter_claimed : (body : Body) (i : ℕ) → IsCounterIn body i → is_claimed body ≡ true
counter_claimed (histogram r) i counter = refl
counter_claimed (sample s) i counter = refl
counter_claimed (counts c) i counter = refl
counter_claimed (other size tag next payload) i counter = refl
counter_claimed (queue next) i counter = absurd counter
counter_claimed (plain words) i counter = absurd counter
counter_claimed (held block) i counter = refl

-- ---- what a record, counts or a sample come from

came_record : (version : ℕ) (before : Body) (s : Record) → GoesAs version before (histogram s)
    → (r : Record) × (before ≡ histogram r) × RecordGoes version r s
came_record version (histogram r) s (z, is, goes) = (r, refl, subst (RecordGoes version r) (cc (sym is)) goes)
came_record version (counts c) s (d, is, goes) = absurd (cc is)
came_record version (sample x) s (t, is, goes) = absurd (cc is)
came_record version (other size tag next payload) s (n, is) = absurd (cc is)
came_record version (queue next) s is = absurd (cc is)
came_record version (plain words) s is = absurd (cc is)
came_record version (held block) s is = absurd (cc is)

came_counts : (version : ℕ) (before : Body) (d : Counts) → GoesAs version before (counts d)
    → (c : Counts) × (before ≡ counts c) × CountsGo c d
came_counts version (counts c) d (z, is, goes) = (c, refl, subst (CountsGo c) (cc (sym is)) goes)
came_counts version (histogram r) d (z, is, goes) = absurd (cc is)
came_counts version (sample x) d (t, is, goes) = absurd (cc is)
came_counts version (other size tag next payload) d (n, is) = absurd (cc is)
came_counts version (queue next) d is = absurd (cc is)
came_counts version (plain words) d is = absurd (cc is)
came_counts version (held block) d is = absurd (cc is)

came_sample : (version : ℕ) (before : Body) (t : Sample) → GoesAs version before (sample t)
    → (s : Sample) × (before ≡ sample s) × SampleGoes s t
came_sample version (sample s) t (z, is, goes) = (s, refl, subst (SampleGoes s) (cc (sym is)) goes)
came_sample version (histogram r) t (z, is, goes) = absurd (cc is)
came_sample version (counts c) t (d, is, goes) = absurd (cc is)
came_sample version (other size tag next payload) t (n, is) = absurd (cc is)
came_sample version (queue next) t is = absurd (cc is)
came_sample version (plain words) t is = absurd (cc is)
came_sample version (held block) t is = absurd (cc is)

-- ---- blocks that continue

-- Published blocks continue; new ones are `added`, and lie where there was no published one.
pub record Onward (old new : Anatomy) (added : ℕ → Body → Type 0) : Type 0 where
  pub version : new.version ≡ old.version
  pub goes : (at : ℕ) (body : Body) → is_claimed body ≡ true → Stands old.pieces at none body
      → (then_is : Body) × Stands new.pieces at none then_is × GoesAs old.version body then_is
  pub came : (at : ℕ) (body : Body) → is_claimed body ≡ true → Stands new.pieces at none body
      → ((before : Body) × Stands old.pieces at none before × GoesAs old.version before body) ⊎ added at body
  pub apart : (at other i j : ℕ) (body before : Body) → added at body → Stands old.pieces other none before → i < length (words_of body)
      → j < length (words_of before) → at + i ≢ other + j

module _ (old new : Anatomy) (added : ℕ → Body → Type 0) (onward : Onward old new added) where
  -- records, counts and samples continue, and come from old ones
  pub record_on : (at : ℕ) (r : Record) → HasRecord old.pieces at r → (s : Record) × HasRecord new.pieces at s × RecordGoes old.version r s
  record_on at r there =
      let (body, stands, (s, is, goes)) = onward.goes at (histogram r) refl there in
      (s, subst (Stands new.pieces at none) is stands, goes)

  pub counts_on : (at : ℕ) (c : Counts) → HasCounts old.pieces at c → (d : Counts) × HasCounts new.pieces at d × CountsGo c d
  counts_on at c there =
      let (body, stands, (d, is, goes)) = onward.goes at (counts c) refl there in
      (d, subst (Stands new.pieces at none) is stands, goes)

  pub sample_on : (at : ℕ) (s : Sample) → HasSample old.pieces at s → (t : Sample) × HasSample new.pieces at t × SampleGoes s t
  sample_on at s there =
      let (body, stands, (t, is, goes)) = onward.goes at (sample s) refl there in
      (t, subst (Stands new.pieces at none) is stands, goes)

  pub record_from : (at : ℕ) (s : Record) → HasRecord new.pieces at s
      → ((r : Record) × HasRecord old.pieces at r × RecordGoes old.version r s) ⊎ added at (histogram s)
  record_from at s there = ⊎_elim
      (λ t. let (r, is, goes) = came_record old.version t.0 s t.2 in inl (r, subst (Stands old.pieces at none) is t.1, goes))
      (λ new_one. inr new_one)
      (onward.came at (histogram s) refl there)

  pub counts_from : (at : ℕ) (d : Counts) → HasCounts new.pieces at d
      → ((c : Counts) × HasCounts old.pieces at c × CountsGo c d) ⊎ added at (counts d)
  counts_from at d there = ⊎_elim
      (λ t. let (c, is, goes) = came_counts old.version t.0 d t.2 in inl (c, subst (Stands old.pieces at none) is t.1, goes))
      (λ new_one. inr new_one)
      (onward.came at (counts d) refl there)

  pub sample_from : (at : ℕ) (t : Sample) → HasSample new.pieces at t
      → ((s : Sample) × HasSample old.pieces at s × SampleGoes s t) ⊎ added at (sample t)
  sample_from at t there = ⊎_elim
      (λ z. let (s, is, goes) = came_sample old.version z.0 t z.2 in inl (s, subst (Stands old.pieces at none) is z.1, goes))
      (λ new_one. inr new_one)
      (onward.came at (sample t) refl there)

  -- ---- so what was seen stays true

  pub fixed_on : (s : Sighting) → WasFixed old.pieces s → WasFixed new.pieces s
  fixed_on s (at, i, body, there, is, fixed, word) =
      let (then_is, stands, goes) = onward.goes at body (fixed_claimed body i fixed) there in
      let (still, same) = fixed_goes old.version body then_is i goes fixed in
      (at, i, then_is, stands, is, still, same ∙ word)

  pub counter_on : (s : Sighting) → WasCounter old.pieces s → WasCounter new.pieces s
  counter_on s (at, i, body, there, is, counter, least) =
      let (then_is, stands, goes) = onward.goes at body (counter_claimed body i counter) there in
      let (still, risen) = counter_goes old.version body then_is i goes counter in
      (at, i, then_is, stands, is, still, omega (arith, least, risen))

  pub single_on : (s : Sighting) → WasSingle old.version old.pieces s → WasSingle new.version new.pieces s
  single_on s (at, r, there, is, formed, leads) =
      let (z, stands, goes) = record_on at r there in
      let kind : z.spec ≡ r.spec = ap (λ (q : Record). q.spec) goes.is in
      subst (λ (version : ℕ). WasSingle version new.pieces s) (sym onward.version) (
        at,
        z,
        stands,
        is,
        subst (λ (spec : Spec). single_of old.version (buckets_of spec) s.word ≢ None) (sym kind) formed,
        subst (λ (spec : Spec). Leads old.version (buckets_of spec) s.word z.single) (sym kind)
            (leads_on old.version (buckets_of r.spec) s.word r.single z.single formed leads goes.single),
      )

  pub in_use_on : (s : Sighting) → WasCounter old.pieces s → WasInUse old.pieces s → WasInUse new.pieces s
  in_use_on s (place, k, body, stood, found, counter, least) was at i d there is from below = ⊎_elim
      (λ t.
      let (c, before, goes) = t in
      let long = goes.long in
      let (r, stands, off) = was at i c before is from (omega (arith, below, long)) in
      let (z, still, on) = record_on c.of r stands in (
        z,
        subst (λ (n : ℕ). HasRecord new.pieces n z) (sym (ap (λ (x : Counts). x.of) goes.is)) still,
        subst (λ (word : ℕ). is_off word ≡ true) (off_leads old.version (buckets_of r.spec) r.single z.single off on.single) off,
      ))
      (λ new_one. absurd (onward.apart at place i k (counts d) body new_one stood (counter_within (counts d) i (from, below)) (counter_within body k counter)
      (sym is ∙ found)))
      (counts_from at d there)

  pub met_on : (seen : Seen) (s : Sighting) → WasCounter old.pieces s → WasMet old.pieces seen s → WasMet new.pieces seen s
  met_on seen s (place, j, body, stands, found, counter, least) met at y there is = ⊎_elim
      (λ t. let (x, before, goes) = t in
      subst (λ (z : Sample). Contains seen.chain at × SawSample seen z.of z.value at) (sym goes.is) (met at x before is))
      (λ new_one. absurd (⊎_elim
      (λ six. onward.apart at place 6 j (sample y) body new_one stands (omega arith) (counter_within body j counter) (sym six ∙ found))
      (λ seven. onward.apart at place 7 j (sample y) body new_one stands (omega arith) (counter_within body j counter) (sym seven ∙ found))
      is))
      (sample_from at y there)

  -- a listed record holds what it was given
  pub stands_as_on : (l : Listed) (given : std.Option Made) → StandsAs old.pieces l given → StandsAs new.pieces l given
  stands_as_on l (Some (made.Histogram name spec)) (r, stands, named, same) =
      let (z, still, goes) = record_on l.reference r stands in
      (z, still, ap (λ (q : Record). q.name) goes.is ∙ named, ap (λ (q : Record). q.spec) goes.is ∙ same)
  stands_as_on l (Some (made.Sample of value)) (s, stands, of_it, valued) =
      let (z, still, goes) = sample_on l.reference s stands in
      (z, still, ap (λ (q : Sample). q.of) goes.is ∙ of_it, ap (λ (q : Sample). q.value) goes.is ∙ valued)
  stands_as_on l None (size, tag, next, payload, stands, third, long) =
      let (body, still, (n, is)) = onward.goes l.reference (other size tag next payload) refl stands in
      (size, tag, n, payload, subst (Stands new.pieces l.reference none) is still, third, long)

  -- and what is there is on the list
  pub listed_on : (records : List Listed) (at : ℕ) (before body : Body) → GoesAs old.version before body → IsOnList records at before → IsOnList records at body
  listed_on records at (histogram r) body (s, is, goes) listed =
      subst (IsOnList records at) (sym is)
      (subst (λ (z : Record). Contains records (record { reference = at; made = Some (made.Histogram z.name z.spec) })) (sym goes.is) listed)
  listed_on records at (sample s) body (t, is, goes) listed =
      subst (IsOnList records at) (sym is)
      (subst (λ (z : Sample). Contains records (record { reference = at; made = Some (made.Sample z.of z.value) })) (sym goes.is) listed)
  listed_on records at (counts c) body (d, is, goes) listed = subst (IsOnList records at) (sym is) tt
  listed_on records at (other size tag next payload) body (n, is) listed = subst (IsOnList records at) (sym is) listed
  listed_on records at (queue next) body is listed = subst (IsOnList records at) (sym is) tt
  listed_on records at (plain words) body is listed = subst (IsOnList records at) (sym is) tt
  listed_on records at (held block) body is listed = subst (IsOnList records at) (sym is) tt

  -- all that was seen, if the list is as long or longer
  pub sees_on : (cursors : List ℕ) (seen : Seen) → Behind seen.free (free_of new) → IsPrefix seen.chain (order_of new) → AreNoLater (order_of new) seen.tails new.tail
      → All (λ s. (s.at < length cursors) × IsNoLater (order_of new) s.word (slice_index cursors s.at)) seen.cursors
      → Sees old cursors seen → Sees new cursors seen
  sees_on cursors seen free walked tails shared sees = record {
    free = free;
    walked = walked;
    tails = tails;
    singles = All-weaker (WasSingle old.version old.pieces) (WasSingle new.version new.pieces) single_on seen.singles sees.singles;
    counters = All-weaker (WasCounter old.pieces) (WasCounter new.pieces) counter_on seen.counts sees.counters;
    in_use = all_of (WasInUse new.pieces) seen.counts
        (λ s has. in_use_on s (All-contains (WasCounter old.pieces) seen.counts s sees.counters has) (All-contains (WasInUse old.pieces) seen.counts s sees.in_use has));
    fixed = All-weaker (WasFixed old.pieces) (WasFixed new.pieces) fixed_on seen.words sees.fixed;
    shared = shared;
    met = all_of (WasMet new.pieces seen) seen.counts
        (λ s has. met_on seen s (All-contains (WasCounter old.pieces) seen.counts s sees.counters has) (All-contains (WasMet old.pieces seen) seen.counts s sees.met has));
  }
