-- Units of each key are enough for a recorder if they are at least what it has seen of each bucket, or of the first sample of each value
-- that it visited.
use Rattle.segment_invariant.proofs.Prelude.Std.{◌≡◌, ◌≢◌, ℕ, ◌+◌, ◌<◌, ◌≤◌, ℤ, true, List, ◌++◌, Some, inl, ⊎_elim, sym, ap, subst, refl, arith, false, some, dite, get_elem?, slice_index, filter, Contains, and_parts, All-contains, Contains-append_left, Contains-append_right, Contains-append_cases, none_in, contains_filter, contains_mapped, contains_map}
use Rattle.segment_invariant.proofs.Prelude.Machine.{Dimensions, Spec, buckets_of, SameSpec, Entry, EntryProgress, Spent, Actor, Known, Sighting, is_counted, has_ended, tally_units, accepted_by, counted_of, bucket_key, SawCount, is_opener, SawSample, SawBucket, purse, State}
use Rattle.segment_invariant.proofs.Prelude.Invariant.{Anatomy, IsFirst, IsFirstOf, IsRightlyKnown, WasMet, Invariant, Fits, LooksBack, StandsRight}
use native.Mathlib.Decide.{dec_le}
use Rattle.bucket_ranges.specs.declared.spec.Spec.TheVariants as spec
use Rattle.list_lemmas.proofs.Maps.{contains_take}
use Rattle.segment_invariant.proofs.Frames.LaidOut.{laid_out}
use Rattle.segment_invariant.proofs.Lists.Tallies.{tally_at}
use Rattle.segment_invariant.proofs.Consistency.Firsts.{sample_of_first}
use Rattle.segment_promises.specs.Deltas.{HadSample, HasBuckets, HasValues}
use Rattle.segment_promises.proofs.Owed.{enough}

-- a spec that is the same as the sparse one is that
sparse_alone : (kind : Spec) → SameSpec kind spec.Sparse → kind ≡ spec.Sparse
sparse_alone (spec.Linear min max n) same = let e = ap (λ (l : List ℕ). slice_index l 0) same.0 in absurd (omega (arith, e))
sparse_alone spec.Boolean same = let e = ap (λ (l : List ℕ). slice_index l 0) same.0 in absurd (omega (arith, e))
sparse_alone (spec.Custom values) same = let e = ap (λ (l : List ℕ). slice_index l 0) same.0 in absurd (omega (arith, e))
sparse_alone spec.Sparse same = refl

module _ (shape : Dimensions) (opened : Anatomy) (state : State) (kept : Invariant shape opened state) (id : ℕ) (a : Actor)
    (mine : get_elem? state.actors id ≡ some a) (known : Known) (has : Contains a.answers.names known) where
  -- an actor that knows a histogram is not spent
  pub knower_lives : a.hand.place ≢ Spent
  knower_lives is =
      let nobody : a ≡ purse a.units.share = subst (StandsRight shape kept.anatomy id a) is (kept.standing id a mine) in
      none_in known (subst (λ (names : List Known). Contains names known) (ap (λ (a : Actor). a.answers.names) nobody) has)

  fits : Fits shape kept.anatomy state.cursors state.actors kept.roles.opener id a
  fits = kept.each id a mine knower_lives

  -- what was accepted is counted
  is_counted_too : (entry : Entry) → Contains (accepted_by a) entry → Contains (a.entries.inherited ++ counted_of a) entry
  is_counted_too entry among = ⊎_elim
      (λ before. Contains-append_left a.entries.inherited (counted_of a) entry before)
      (λ own. Contains-append_right a.entries.inherited (counted_of a) entry (⊎_elim
      (λ first. Contains-append_left a.entries.first _ entry first)
      (λ logged.
      let (c, there, is) = contains_mapped (λ (c : EntryProgress). c.entry) a.entries.log entry logged in
      let ended = All-contains (λ (c : EntryProgress). has_ended c ≡ true) a.entries.log c fits.calls.ended there in
      let counts : is_counted c ≡ true = (and_parts (is_counted c) _ (and_parts _ _ ended).0).0 in
      Contains-append_right a.entries.first _ entry (subst (Contains _) is
      (contains_map (λ (c : EntryProgress). c.entry) (filter is_counted (a.entries.log ++ a.entries.running)) c
      (contains_filter is_counted (a.entries.log ++ a.entries.running) c (Contains-append_left a.entries.log a.entries.running c there) counts))))
      (Contains-append_cases a.entries.first _ entry own)))
      (Contains-append_cases a.entries.inherited _ entry among)

  module _ (records : is_opener a.role ≡ false) (units : ℤ → ℕ) where
    looks : LooksBack kept.anatomy state.actors kept.roles.opener a
    looks = fits.looks records

    -- they are at least what it has seen of a bucket
    abbrev pub CoversBucket : ℕ → Type 0
    CoversBucket i = (total : ℕ) × SawBucket a known i total × (total ≤ units (bucket_key (Some known) i))

    pub buckets_enough : ((i : ℕ) → i < buckets_of known.spec → CoversBucket i) → HasBuckets state.words a known (λ i. units (bucket_key (Some known) i))
    buckets_enough covers = record {
      accepted = λ i below whole.
          let (total, seen, le) = covers i below in
          let least = (enough shape opened state kept id a mine records knower_lives known has i below total seen).0 whole in
          omega (arith, le, least);
      packed = λ i n below whole had.
          let (total, seen, le) = covers i below in
          let least = (enough shape opened state kept id a mine records knower_lives known has i below total seen).1 n whole had in
          omega (arith, le, least);
      counted = λ i n below had.
          let (total, seen, le) = covers i below in
          let least = (enough shape opened state kept id a mine records knower_lives known has i below total seen).2 n had in
          omega (arith, le, least);
      both = λ two i m n below had also.
          let (total, seen, le) = covers i below in
          let least = (enough shape opened state kept id a mine records knower_lives known has i below total seen).3 two m n had also in
          omega (arith, le, least);
    }

    -- if it visited the first sample of a value, they are at least each count that it has seen of that sample
    abbrev pub CoversValue : ℤ → Type 0
    CoversValue value = (at least : ℕ) → IsFirstOf kept.anatomy.records known.reference value at
        → Contains a.seen.chain at × SawSample a.seen known.reference value at → ((count : ℕ) → SawCount a (at + 6) count → least ≤ count)
        → least ≤ units value

    module _ (sparse : known.spec ≡ spec.Sparse) (covers : (value : ℤ) → CoversValue value) where
      value_accepted : (value : ℤ) → tally_units (accepted_by a) known.name value ≤ units value
      value_accepted value = dite (dec_le 1 (tally_units (accepted_by a) known.name value))
          (λ some.
          let (entry, among, named, keyed, has_units) = tally_at (accepted_by a) known.name value (omega (arith, some)) in
          let knows = All-contains (IsRightlyKnown kept.anatomy) a.answers.names known fits.names has in
          let kind = sparse_alone knows.first_spec (subst (SameSpec knows.first_spec) sparse knows.same) in
          let first : IsFirst kept.anatomy.records entry.name spec.Sparse known.reference =
          subst (λ (n : List ℕ). IsFirst kept.anatomy.records n spec.Sparse known.reference) (sym named)
          (subst (λ (s : Spec). IsFirst kept.anatomy.records known.name s known.reference) kind knows.first) in
          let (at, is_first, met, sampled) = fits.calls.met entry known.reference (is_counted_too entry among) has_units first in
          let here = subst (λ (v : ℤ). IsFirstOf kept.anatomy.records known.reference v at) keyed is_first in
          covers value at (tally_units (accepted_by a) known.name value) here
          (met, subst (λ (v : ℤ). SawSample a.seen known.reference v at) keyed sampled)
          (λ count counted. looks.samples known value at count has here counted))
          (λ none. omega (arith, none))

      value_seen : (value : ℤ) (n : ℕ) → HadSample kept.anatomy.records a known value n → n ≤ units value
      value_seen value n (at, first, had) =
          let (x, (stands, of_it, valued)) = sample_of_first shape opened state.words (laid_out shape opened state kept) known.reference value at first in
          let sighting : Sighting = record { at = at + 6; word = n } in
          let there : Contains a.seen.counts sighting = contains_take a.since.counts a.seen.counts sighting had in
          let met = All-contains (WasMet kept.anatomy.pieces a.seen) a.seen.counts sighting fits.sees.met there at x stands (inl refl) in
          covers value at n first
          (met.0, subst (λ (of : ℕ). SawSample a.seen of value at) of_it (subst (λ (v : ℤ). SawSample a.seen x.of v at) valued met.1))
          (λ count counted. looks.rising sighting (record { at = at + 6; word = count }) had counted refl)

      pub values_enough : HasValues kept.anatomy.records a known units
      values_enough = record { accepted = value_accepted; counted = value_seen }
