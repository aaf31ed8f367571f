-- The first entries of an image and what deltas had taken of it: each has a key that is there, and the opener saw the sample of each.
use Rattle.segment_invariant.proofs.Prelude.Std.{◌≡◌, Bool, true, false, ℕ, zero, suc, ◌^◌, ◌<◌, ℤ, pos, List, [], ◌∷◌, ◌++◌, map, replicate, All, Contains, filter, flat_map, refl, sym, ap, ◌∙◌, subst, arith, ⊎_elim, not, ◌==◌, if◌then◌else◌, int_eq, append-nil, Contains-append_cases, split_among, none_in, one_in, contains_at, at_from, contains_mapped}
use Rattle.segment_invariant.proofs.Prelude.Machine.{field_at, head_of, buckets_of, spec_of, Histogram, IsListed, Reading, reading_along, Entry, Portion, all_counted, all_taken, SawSample, IsStop}
use Rattle.segment_invariant.proofs.Prelude.Invariant.{Anatomy, IsFirst, IsFirstOf, HasKey, Fits}
use Rattle.std.specs.List.{zip}
use Rattle.bucket_ranges.specs.declared.spec.Spec.TheVariants as spec
use Rattle.segment_machine.specs.Entry.{sum_entry}
use Rattle.segment_promises.specs.Adoption.{IsAdoptable, first_entries, first_portion}
use Rattle.segment_promises.proofs.Filters.{filtered}
use Rattle.segment_promises.proofs.Adopting.Distinct.{among_rows}
use Rattle.segment_promises.proofs.Adopting.Openers.{opener, actors, opener_fits}
use Rattle.segment_promises.proofs.Adopting.Opened.Anatomy.{opened, order_is}
use Rattle.segment_promises.proofs.Adopting.Opened.Keys.{key_there, saw_sample, sees}
use Rattle.segment_promises.proofs.Adopting.Opened.Names.{hist_read, first_read, one_read, knows}
use Rattle.segment_promises.proofs.Adopting.Opened.Values.{value_first}

-- an entry of a histogram that has units comes from one of its counts
entry_count : (h : Histogram) (entry : Entry) → Contains (first_entries h) entry → 0 < entry.units
    → (count : ℤ × ℕ) × Contains h.counts count × (entry.name ≡ h.name) × (entry.key ≡ count.0)
entry_count h entry there some_there = ⊎_elim
    (λ counted.
    let (count, among, is) = contains_mapped (λ (count : ℤ × ℕ). record { name = h.name; key = count.0; units = count.1; amount = pos 0 })
    (filter (λ count. not (count.1 == 0)) h.counts) entry counted in
    (count, (filtered (λ count. not (count.1 == 0)) h.counts count among).0, ap (λ (e : Entry). e.name) (sym is), ap (λ (e : Entry). e.key) (sym is)))
    (λ summed. absurd (no_units (int_eq h.sum (pos 0)) summed))
    (Contains-append_cases (map (λ (count : ℤ × ℕ). record { name = h.name; key = count.0; units = count.1; amount = pos 0 }) (filter (λ count. not (count.1 == 0)) h.counts))
    (if int_eq h.sum (pos 0) then [] else sum_entry h.name h.sum ∷ []) entry there)
  where
    no_units : (b : Bool) → Contains (if b then [] else sum_entry h.name h.sum ∷ []) entry → ⊥
    no_units true among = none_in entry among
    no_units false among = let e = ap (λ (e : Entry). e.units) (one_in (sum_entry h.name h.sum) entry among) in omega (arith, e, some_there)

-- the first of a pair of two lists is in the first list
zip_first : {X Y : Type 0} (xs : List X) (ys : List Y) (pair : X × Y) → Contains (zip xs ys) pair → Contains xs pair.0
zip_first [] ys pair there = absurd (none_in pair there)
zip_first (x ∷ xs) [] pair there = absurd (none_in pair there)
zip_first {X} {Y} (x ∷ xs) (y ∷ ys) pair (zero, below, is) = (0, omega arith, ap (λ (p : X × Y). p.0) is)
zip_first (x ∷ xs) (y ∷ ys) pair (suc k, below, is) =
    let (j, within, same) = zip_first xs ys pair (k, omega (arith, below), is) in (suc j, omega (arith, within), same)

-- a list with nothing appended, twice
in_rows : {X : Type 0} (l : List X) (x : X) → Contains ((l ++ []) ++ []) x → Contains l x
in_rows {X} l x there = subst (λ (l : List X). Contains l x) (append-nil (l ++ []) ∙ append-nil l) there

module _ (words references : List ℕ) (reading : Reading) (narrow : All (λ word. word < 2 ^ 64) words) (listed : IsListed words (head_of words) references)
    (reads : reading ≡ reading_along words (head_of words) references) (adoptable : IsAdoptable words references reading) where
  abbrev its : Anatomy
  its = opened words references reading narrow listed reads adoptable

  -- a count of a histogram that is read has a key that is there
  hist_key : (h : Histogram) (count : ℤ × ℕ) → Contains reading.hists h → Contains h.counts count → HasKey its.records h.name count.0
  hist_key h count among there =
      let (at, here, same) = hist_read words references reading narrow listed reads adoptable h among in
      subst (λ (h : Histogram). Contains h.counts count → HasKey its.records h.name count.0) same
      (key_there words references reading narrow listed reads adoptable at here count) there

  entry_key : (entry : Entry) → Contains (flat_map first_entries reading.hists) entry → 0 < entry.units → HasKey its.records entry.name entry.key
  entry_key entry there some_there =
      let (i, h, here, mine) = among_rows first_entries reading.hists entry there in
      let (count, among, named, keyed) = entry_count h entry mine some_there in
      let has = hist_key h count (contains_at reading.hists i h here) among in
      subst (λ (name : List ℕ). HasKey its.records name entry.key) (sym named) (subst (HasKey its.records h.name) (sym keyed) has)

  pub keys_kept : (cursors : ℕ) (entry : Entry) → Contains (all_counted (actors words references reading cursors)) entry → 0 < entry.units
      → HasKey its.records entry.name entry.key
  keys_kept cursors entry there = entry_key entry (in_rows (flat_map first_entries reading.hists) entry there)

  pub taken_keys_kept : (cursors : ℕ) (t : Portion) (count : ℤ × ℕ) → Contains (all_taken (actors words references reading cursors)) t → Contains t.counts count
      → HasKey its.records t.name count.0
  taken_keys_kept cursors t count there taken =
      let (h, among, is) = contains_mapped first_portion reading.hists t (in_rows (map first_portion reading.hists) t there) in
      let listed_there = zip_first (map (λ (count : ℤ × ℕ). count.0) h.counts) h.marks count (subst (λ (t : Portion). Contains t.counts count) (sym is) taken) in
      let (other, here, same) = contains_mapped (λ (count : ℤ × ℕ). count.0) h.counts count.0 listed_there in
      subst (λ (t : Portion). HasKey its.records t.name count.0) is (subst (HasKey its.records h.name) same (hist_key h other among here))

  -- for each entry of a sparse histogram the opener saw the sample
  met : (cursors : ℕ) (entry : Entry) (of : ℕ) → Contains (flat_map first_entries reading.hists) entry → 0 < entry.units → IsFirst its.records entry.name spec.Sparse of
      → (at : ℕ) × IsFirstOf its.records of entry.key at × Contains references at × SawSample (opener words references reading cursors).seen of entry.key at
  met cursors entry of there some_there first =
      let (kind, place, its_first, keyed) = entry_key entry there some_there in
      let (among, mine, named, specified) = first_read words references reading narrow listed reads adoptable entry.name spec.Sparse of first in
      let (also, others, same_name, other_kind) = first_read words references reading narrow listed reads adoptable entry.name kind place its_first in
      let same = one_read words references reading narrow listed reads adoptable place of others mine (same_name ∙ sym named) in
      let sparse : kind ≡ spec.Sparse = sym other_kind ∙ (ap (spec_of words) same ∙ specified) in
      ⊎_elim
      (λ (bucket, below, is). let none_there : buckets_of kind ≡ 0 = ap buckets_of sparse in absurd (omega (arith, below, none_there)))
      (λ (is_sparse, at, first_of).
      let here : IsFirstOf its.records of entry.key at = subst (λ (of : ℕ). IsFirstOf its.records of entry.key at) same first_of in
      let sampled = value_first words references reading narrow listed reads adoptable of entry.key at here in
      let listed_there : Contains references at = split_among sampled.0 sampled.1 sampled.2 in
      let (k, spot) = at_from references at listed_there in
      let saw = saw_sample words references reading narrow listed reads adoptable k at spot sampled.4.0 cursors in (
        at,
        here,
        listed_there,
        subst (λ (of : ℕ). SawSample (opener words references reading cursors).seen of entry.key at) sampled.4.1
            (subst (λ (value : ℤ). SawSample (opener words references reading cursors).seen (field_at words at 4) value at) sampled.4.2 saw),
      ))
      keyed

  -- so the opener fits
  pub fits : (cursors : ℕ) → Fits (head_of words).shape its (replicate cursors 12) (actors words references reading cursors) (opener words references reading cursors) 0
      (opener words references reading cursors)
  fits cursors =
      opener_fits words references reading cursors its refl (sees words references reading narrow listed reads adoptable cursors (replicate cursors 12))
      (subst (λ (chain : List ℕ). IsStop chain its.tail) (sym (order_is words references reading narrow listed reads adoptable)) adoptable.undamaged.tail)
      (knows words references reading narrow listed reads adoptable cursors) (met cursors)
