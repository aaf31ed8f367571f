-- What an actor learns of a histogram that it knows: its counts reference stays, and is there if its single word was seen off; its sums
-- fit, and so does the difference of two.
use Rattle.segment_invariant.proofs.Prelude.Std.{◌≡◌, ◌≢◌, Bool, true, false, ℕ, ◌+◌, ◌*◌, ◌<◌, ◌≤◌, ◌-ℤ◌, ℤ, pos, List, Contains, inl, inr, refl, sym, ap, ◌∙◌, subst, arith, unsigned_abs, slice_index, if◌then◌else◌, w64, cast_signed, bytes_eq, +ℤ_idr, All-contains, some, get_elem?}
use Rattle.segment_invariant.proofs.Prelude.Machine.{Dimensions, word_at, Actor, Cost, Known, Spent, SumLoaded, Buckets, cost_of, cost_total, units_of, is_off, State}
use Rattle.segment_invariant.proofs.Prelude.Invariant.{Record, histogram, record_words, Anatomy, HasRecord, WasSingle, summed_cost, IsSumOf, Invariant}
use Rattle.std.proofs.lemmas.List.Sums.{sum_by-le-sum_by}
use Rattle.segment_machine.specs.Calls.{CountsStay}
use Rattle.segment_invariant.proofs.Blocks.Pieces.{piece_word}
use Rattle.segment_invariant.proofs.Frames.OneActor.{summed_most}
use Rattle.segment_invariant.proofs.Counting.Loaded.{counts_found}
use Rattle.segment_invariant.proofs.Counting.Seen.{known_stands, off_was}
use Rattle.segment_invariant.proofs.Walking.Words.{sighted}

-- ---- units

-- what was spent on one histogram is no more than all that was
cost_least : (costs : List Cost) (name : List ℕ) → cost_of costs name ≤ cost_total costs
cost_least costs name = sum_by-le-sum_by (λ (cost : Cost). if bytes_eq cost.name name then cost.units else 0) (λ (cost : Cost). cost.units) costs
    (λ cost. by_name (bytes_eq cost.name name) cost.units)
  where
    by_name : (b : Bool) (n : ℕ) → (if b then n else 0) ≤ n
    by_name true n = omega arith
    by_name false n = omega arith

-- what a sum has grown by is within the units of its actor
pub summed_least : (name : List ℕ) (a : Actor) → summed_cost name a ≤ units_of a
summed_least name a =
    let most = summed_most name a in
    let spent = cost_least a.units.costs name in
    let held = cost_least a.units.held name in
    omega (arith, most, spent, held)

module _ (shape : Dimensions) (opened : Anatomy) (state : State) (kept : Invariant shape opened state) (id : ℕ) (a : Actor)
    (mine : get_elem? state.actors id ≡ some a) (lives : a.hand.place ≢ Spent) where
  -- ---- counts references

  pub counts_stay : (reference : ℕ) (known : Known) → Buckets a reference known → CountsStay a.seen reference (word_at state.words (reference + 8))
  counts_stay at known (has, is, bucketed) =
      let (r, stands, named, bounds, many) = known_stands shape opened state kept id a mine lives known has in
      let here : HasRecord kept.anatomy.pieces at r = subst (λ (n : ℕ). HasRecord kept.anatomy.pieces n r) is stands in
      let found : word_at state.words (at + 8) ≡ r.counts = counts_found shape opened state kept id a mine lives at r here in (
        λ counts seen. found ∙ sighted shape opened state kept id a mine lives at 8 counts (histogram r) here (omega arith) seen,
        λ word saw off none.
            let was = All-contains (WasSingle kept.anatomy.version kept.anatomy.pieces) a.seen.singles (record { at = at + 9; word = word })
            (kept.each id a mine lives).sees.singles saw in
            let single = off_was shape opened state kept id a mine lives at word r here was off in
            (kept.records.lawful at r here).off (sym (ap is_off single) ∙ off) (sym found ∙ none),
      )

  -- ---- sums

  -- two sums of a record differ by what all units can have brought
  sums_apart : (at : ℕ) (r : Record) (x y : ℤ) → HasRecord kept.anatomy.pieces at r → IsSumOf state.actors at r x → IsSumOf state.actors at r y
      → unsigned_abs (x -ℤ y) ≤ 2147483648 * 4294967295
  sums_apart at r x y stands first second =
      let near = kept.sums at r x y stands first second in
      let few = sum_by-le-sum_by (summed_cost r.name) units_of state.actors (summed_least r.name) in
      let pool = kept.pool in
      omega (arith, near, few, pool)

  -- so a sum is no more than that
  sum_fits : (at : ℕ) (r : Record) (x : ℤ) → HasRecord kept.anatomy.pieces at r → IsSumOf state.actors at r x → unsigned_abs x ≤ 2147483648 * 4294967295
  sum_fits at r x stands is = subst (λ (z : ℤ). unsigned_abs z ≤ 2147483648 * 4294967295) (+ℤ_idr x) (sums_apart at r x (pos 0) stands is (inl refl))

  module _ (reference : ℕ) (known : Known) (has : Contains a.answers.names known) (is : known.reference ≡ reference) where
    the_record : (r : Record) × HasRecord kept.anatomy.pieces reference r
    the_record =
        let (r, stands, named, bounds, many) = known_stands shape opened state kept id a mine lives known has in
        (r, subst (λ (n : ℕ). HasRecord kept.anatomy.pieces n r) is stands)

    word_is : (i : ℕ) (n : ℕ) → i < 15 → (r : Record) → HasRecord kept.anatomy.pieces reference r → slice_index (record_words r) i ≡ n → word_at state.words (reference + i) ≡ n
    word_is i n below r (k, there) same = piece_word shape state.words kept.anatomy kept.shown k _ i there (omega (arith, below)) ∙ same

    -- the sum that is loaded fits
    pub sum_learned : unsigned_abs (cast_signed w64 (word_at state.words (reference + 11))) ≤ 2147483648 * 4294967295
    sum_learned =
        let (r, stands) = the_record in
        subst (λ (n : ℕ). unsigned_abs (cast_signed w64 n) ≤ 2147483648 * 4294967295) (sym (word_is 11 r.sum (omega arith) r stands refl))
        (sum_fits reference r (cast_signed w64 r.sum) stands (inr (inl refl)))

    -- so do the sum mark that is found, the sum that was loaded before, and their difference
    pub mark_learned : (sum : ℤ) → a.hand.place ≡ SumLoaded reference sum
        → (unsigned_abs (cast_signed w64 (word_at state.words (reference + 12))) ≤ 2147483648 * 4294967295) × (unsigned_abs sum ≤ 2147483648 * 4294967295)
        × (unsigned_abs (sum -ℤ cast_signed w64 (word_at state.words (reference + 12))) ≤ 2147483648 * 4294967295)
    mark_learned sum placed =
        let (r, stands) = the_record in
        let mark : word_at state.words (reference + 12) ≡ r.sum_mark = word_is 12 r.sum_mark (omega arith) r stands refl in
        let marked : IsSumOf state.actors reference r (cast_signed w64 r.sum_mark) = inr (inr (inl refl)) in
        let summed : IsSumOf state.actors reference r sum = inr (inr (inr (id, a, mine, placed))) in
        subst (λ (n : ℕ). (unsigned_abs (cast_signed w64 n) ≤ 2147483648 * 4294967295) × (unsigned_abs sum ≤ 2147483648 * 4294967295)
        × (unsigned_abs (sum -ℤ cast_signed w64 n) ≤ 2147483648 * 4294967295)) (sym mark)
        (sum_fits reference r _ stands marked, sum_fits reference r sum stands summed, sums_apart reference r sum _ stands summed marked)
