-- The totals of a look are no less than those of a look whose second copy was loaded before its own: between the two is a state, which has
-- as much. The same holds for the counts of samples.
use Rattle.segment_invariant.proofs.Prelude.Std.{◌≡◌, ℕ, zero, suc, ◌+◌, ◌-◌, ◌<◌, ◌≤◌, List, length, inl, refl, sym, ap, subst, ◌∙◌, arith, slice_index, dite, ℕ_discrete}
use Rattle.segment_invariant.proofs.Prelude.Machine.{word_at, buckets_of}
use Rattle.segment_invariant.proofs.Prelude.Invariant.{Record, Sample, sample, HasRecord, HasSample}
use Rattle.std.proofs.Math.Decide.{dec_lt}
use Rattle.segment_looks.specs.Looks.{counts_reference}
use Rattle.look_promises.specs.Runs.{Moments, AreLoaded}
use Rattle.look_promises.specs.Images.{total_looked, LooksRise}
use Rattle.look_promises.proofs.Moments.Runs.{kept_at, chain_at}
use Rattle.look_promises.proofs.Copies.ThreeCopies.{ThreeCopies, three_copies, seen_in}
use Rattle.look_promises.proofs.Copies.Following.{many}
use Rattle.look_promises.proofs.Moments.Listed.{sample_place, ends_at, place_of}
use Rattle.look_promises.proofs.NewRecords.Starts.{not_yet}
use Rattle.look_promises.proofs.Copies.Between.{at_least}
use Rattle.look_promises.proofs.Moments.Room.{sample_was, record_was}
use Rattle.look_promises.proofs.Amounts.Marks.{total_there, from_moment}
use Rattle.look_promises.proofs.Amounts.Totals.{totals_between}
use Rattle.look_promises.proofs.Amounts.Behind.{to_moment, reference_was, not_listed}

-- ---- the latest of some moments

-- of the moments of words up to one, one is the latest
latest : (f : ℕ → ℕ) (n : ℕ) → (which : ℕ) × (which ≤ n) × ((i : ℕ) → i ≤ n → f i ≤ f which)
latest f zero = (0, omega arith, λ i le. let first : i ≡ 0 = omega (arith, le) in let same = ap f first in omega (arith, same))
latest f (suc n) =
    let (which, within, all) = latest f n in
    elim (dec_lt (f which) (f (suc n))) [
      | yes more ↦ (
        suc n,
        omega arith,
        λ i le. dite (ℕ_discrete i (suc n))
            (λ last. let same = ap f last in omega (arith, same))
            (λ ne. let most = all i (omega (arith, le, ne)) in omega (arith, most, more)),
      )
      | no fewer ↦ (
        which,
        omega (arith, within),
        λ i le. dite (ℕ_discrete i (suc n))
            (λ last. let same = ap f last in omega (arith, same, fewer))
            (λ ne. all i (omega (arith, le, ne))),
      )
    ]

-- ---- two looks

module _ (copies : ThreeCopies) (other : ℕ) (later : Moments) (four five six : List ℕ)
    (loaded_later : AreLoaded copies.shape copies.at other copies.last later four five six)
    (order : (i j : ℕ) → i < copies.shape.size → j < copies.shape.size → copies.moments.two i ≤ later.two j) where
  open copies use {run, shape, opened, at, last, moments, two, three, loaded}
  open seen_in copies use {late, list}

  -- the second look
  abbrev pub later_copies : ThreeCopies
  later_copies = record copies { first = other; moments = later; one = four; two = five; three = six; loaded = loaded_later }

  size_some : 64 ≤ shape.size
  size_some = many copies

  -- a moment between the two second copies
  pub record IsMiddle (m : ℕ) : Type 0 where
    pub behind : (i : ℕ) → i < shape.size → moments.two i ≤ m
    pub before : (j : ℕ) → j < shape.size → m ≤ later.two j

  pub middle : (m : ℕ) × IsMiddle m
  middle =
      let size = size_some in
      let (which, within, all) = latest moments.two (shape.size - 1) in (
        moments.two which,
        record {
          behind = λ i lt. all i (omega (arith, lt));
          before = λ j lt. order which j (omega (arith, within, size)) lt;
        },
      )

  -- ---- totals

  module _ (m : ℕ) (is : IsMiddle m) where
    pub down : m ≤ last
    down =
        let size = size_some in
        let before = is.before 0 (omega (arith, size)) in
        let over = loaded_later.ordered.third 0 0 (omega (arith, size)) (omega (arith, size)) in
        let ends = loaded_later.ordered.ends 0 (omega (arith, size)) in
        omega (arith, before, over, ends)

    module _ (k i : ℕ) (below : k < length list) (r : Record) (has : HasRecord late.anatomy.pieces (slice_index list k) r) (bucket : i < buckets_of r.spec) where
      abbrev x : ℕ
      x = slice_index list k

      -- if the record is on the list then
      on_list : k < length (chain_at run m)
          → total_looked two x (counts_reference two three x) (buckets_of r.spec) i ≤ total_looked five x (counts_reference five six x) (buckets_of r.spec) i
      on_list there =
          let was = record_was run m last k down r has there in
          let kept = kept_at run m in
          let kinds : buckets_of r.spec ≡ buckets_of was.of.spec = ap (λ (z : Record). buckets_of z.spec) was.goes.is in
          let inside : i < buckets_of was.of.spec = omega (arith, bucket, kinds) in
          let total = total_there shape opened (at m) kept (kept.same.0 ∙ run.version) x was.of was.stands i inside in
          let up = (totals_between (to_moment copies m down is.behind) x i was.of was.stands inside).1 _ total in
          let on = (totals_between (from_moment later_copies m is.before) x i r has bucket).0 _ total in
          let reference = reference_was copies m down is.behind k below r has there in
          let same : total_looked two x (counts_reference two (at m).words x) (buckets_of was.of.spec) i ≡ total_looked two x (counts_reference two three x) (buckets_of r.spec) i =
          (λ j. total_looked two x (sym reference j) (sym kinds j) i) in
          omega (arith, up, on, same)

      pub total_rises : total_looked two x (counts_reference two three x) (buckets_of r.spec) i ≤ total_looked five x (counts_reference five six x) (buckets_of r.spec) i
      total_rises = elim (dec_lt k (length (chain_at run m))) [
        | yes there ↦ on_list there
        | no far ↦
            let nothing = not_listed copies m down is.behind k below r has (buckets_of r.spec) i (omega (arith, far)) in
            omega (arith, nothing)
      ]

  totals_rise : (reference i : ℕ) (r : Record) → HasRecord late.anatomy.pieces reference r → i < buckets_of r.spec
      → total_looked two reference (counts_reference two three reference) (buckets_of r.spec) i
      ≤ total_looked five reference (counts_reference five six reference) (buckets_of r.spec) i
  totals_rise reference i r has bucket =
      let (m, is) = middle in
      let (k, below, place) = place_of run last reference r has in
      subst (λ (x : ℕ). total_looked two x (counts_reference two three x) (buckets_of r.spec) i ≤ total_looked five x (counts_reference five six x) (buckets_of r.spec) i) place
      (total_rises m is k i below r (subst (λ (x : ℕ). HasRecord late.anatomy.pieces x r) (sym place) has) bucket)

  -- ---- samples

  module _ (k : ℕ) (below : k < length list) (s : Sample) (has : HasSample late.anatomy.pieces (slice_index list k) s) where
    abbrev y : ℕ
    y = slice_index list k

    six_there : y + 6 < shape.size
    six_there = let ends = ends_at run last y (sample s) has in omega (arith, ends)

    abbrev loaded_at : ℕ
    loaded_at = moments.two (y + 6)

    before_last : loaded_at ≤ last
    before_last =
        let over = loaded.ordered.third (y + 6) (y + 6) six_there six_there in
        let ends = loaded.ordered.ends (y + 6) six_there in
        omega (arith, over, ends)

    there_rises : k < length (chain_at run loaded_at) → word_at two (y + 6) ≤ word_at five (y + 6)
    there_rises there =
        let was = sample_was run loaded_at last k before_last s has there in
        let word = was.word 6 (omega arith) in
        let up = at_least run loaded_at (later.two (y + 6)) y 6 (sample was.of) (order (y + 6) (y + 6) six_there six_there) was.stands (inl refl) in
        let one_is = loaded.copy_two.each (y + 6) six_there in
        let other_is = loaded_later.copy_two.each (y + 6) six_there in
        omega (arith, word, up, one_is, other_is)

    sample_rises : word_at two (y + 6) ≤ word_at five (y + 6)
    sample_rises = elim (dec_lt k (length (chain_at run loaded_at))) [
      | yes there ↦ there_rises there
      | no far ↦
          let nothing = loaded.copy_two.each (y + 6) six_there
          ∙ not_yet run loaded_at last k 6 before_last (sample s) below (omega (arith, far)) has (inl refl) in
          omega (arith, nothing)
    ]

  samples_rise : (reference : ℕ) (s : Sample) → HasSample late.anatomy.pieces reference s → word_at two (reference + 6) ≤ word_at five (reference + 6)
  samples_rise reference s has =
      let (k, below, place) = sample_place run last reference s has in
      subst (λ (x : ℕ). word_at two (x + 6) ≤ word_at five (x + 6)) place
      (sample_rises k below s (subst (λ (x : ℕ). HasSample late.anatomy.pieces x s) (sym place) has))

pub looks_rise : LooksRise
looks_rise shape opened at first other last moments later one two three four five six run loaded loaded_later order =
    let copies = three_copies shape opened at first last moments one two three run loaded in (
      kept_at copies.run last,
      totals_rise copies other later four five six loaded_later order,
      samples_rise copies other later four five six loaded_later order,
    )
