-- What a look reads as has no more than what had been counted at a moment after its second copy; so a later look has no fewer units.
use Rattle.segment_invariant.proofs.Prelude.Std.{◌≡◌, ℕ, ◌+◌, ◌<◌, ◌≤◌, ℤ, List, length, inl, inr, refl, sym, ap, subst, ◌∙◌, arith, slice_index, at_from, below_length, index_at}
use Rattle.segment_invariant.proofs.Prelude.Machine.{word_at, Spec, buckets_of, all_counted, tally_units}
use Rattle.segment_invariant.proofs.Prelude.Invariant.{Record, Sample, sample, key_of_bucket, HasKey, HasRecord, HasSample, IsFirst, IsFirstOf, Invariant}
use Rattle.std.proofs.Math.Decide.{dec_lt}
use Rattle.bucket_ranges.specs.declared.spec.Spec.TheVariants as spec
use Rattle.segment_looks.specs.Looks.{IsLook, counts_reference}
use Rattle.segment_invariant.specs.Words.{AreLaid}
use Rattle.segment_invariant.proofs.Consistency.Firsts.{record_of_first}
use Rattle.segment_promises.proofs.Readings.Blocks.{words_read}
use Rattle.segment_promises.proofs.Readings.Buckets.{units_of_key, no_units}
use Rattle.look_promises.specs.Images.{total_looked}
use Rattle.look_promises.specs.Reading.{ReadingsRise}
use Rattle.look_promises.proofs.Moments.Runs.{kept_at, chain_at}
use Rattle.look_promises.proofs.Looked.Anatomy.{seen_of}
use Rattle.look_promises.proofs.Copies.ThreeCopies.{ThreeCopies, three_copies, seen_in, hd_of}
use Rattle.look_promises.proofs.Copies.Following.{within, was_listed}
use Rattle.look_promises.proofs.Moments.Firsts.{first_then, value_then}
use Rattle.look_promises.proofs.Moments.Listed.{sample_place, same_place, ends_at, place_of}
use Rattle.look_promises.proofs.NewRecords.Starts.{not_yet}
use Rattle.look_promises.proofs.Moments.Room.{sample_was, record_was}
use Rattle.look_promises.proofs.Amounts.Calls.{counted_most}
use Rattle.look_promises.proofs.Amounts.Values.{values_held}
use Rattle.look_promises.proofs.Words.Images.{followed_is}
use Rattle.look_promises.proofs.Amounts.Behind.{to_moment, reference_was, not_listed}
use Rattle.look_promises.proofs.Amounts.Rising.{middle, down}
use Rattle.look_promises.proofs.Looked.Counting.{first_late, of_bucket, of_sample}
use Rattle.look_promises.proofs.Looked.Adopted.{its_records, words_kept}
use Rattle.look_promises.proofs.Kept.Then.{first_here, counted_least}
use Rattle.look_promises.proofs.Looked.Kinds.{one_kind, same_as, same_back, same_on}

-- ---- a look, and a moment after its second copy

module _ (copies : ThreeCopies) (image : List ℕ) (look : IsLook (hd_of copies) copies.one copies.two copies.three image)
    (m : ℕ) (le : m ≤ copies.last) (behind : (i : ℕ) → i < copies.shape.size → copies.moments.two i ≤ m) where
  open copies use {run, shape, opened, at, last, moments, two, three, loaded}
  open seen_in copies use {late, list, records}
  open seen_of copies image look use {of_look, has}

  abbrev then_is : Invariant shape opened (at m)
  then_is = kept_at run m

  abbrev laid : AreLaid shape opened image
  laid = (words_kept copies image look).laid

  abbrev until_then : ThreeCopies
  until_then = to_moment copies m le behind

  abbrev counted : List ℕ → ℤ → ℕ
  counted name key = tally_units (all_counted (at m).actors) name key

  -- ---- totals

  at_place : (k i : ℕ) → k < length list → (r : Record) → HasRecord late.anatomy.pieces (slice_index list k) r → IsFirst late.anatomy.records r.name r.spec (slice_index list k)
      → i < buckets_of r.spec
      → total_looked two (slice_index list k) (counts_reference two three (slice_index list k)) (buckets_of r.spec) i ≤ counted r.name (key_of_bucket r.spec i)
  at_place k i below r stands its bucket = elim (dec_lt k (length (chain_at run m))) [
    | yes there ↦
        let x : ℕ = slice_index list k in
        let was = record_was run m last k le r stands there in
        let name : was.of.name ≡ r.name = sym (ap (λ (z : Record). z.name) was.goes.is) in
        let kind : was.of.spec ≡ r.spec = sym (ap (λ (z : Record). z.spec) was.goes.is) in
        let its_first = first_then run m last x le was.of r was.stands its name in
        let inside : i < buckets_of was.of.spec = let e = ap buckets_of kind in omega (arith, bucket, e) in
        let most = counted_most until_then x i was.of was.stands its_first inside in
        let reference = reference_was copies m le behind k below r stands there in
        let same : total_looked two x (counts_reference two (at m).words x) (buckets_of was.of.spec) i ≡ total_looked two x (counts_reference two three x) (buckets_of r.spec) i =
        (λ j. total_looked two x (sym reference j) (buckets_of (kind j)) i) in
        let tally : counted was.of.name (key_of_bucket was.of.spec i) ≡ counted r.name (key_of_bucket r.spec i) = (λ j. counted (name j) (key_of_bucket (kind j) i)) in
        omega (arith, most, same, tally)
    | no far ↦
        let nothing = not_listed copies m le behind k below r stands (buckets_of r.spec) i (omega (arith, far)) in
        omega (arith, nothing)
  ]

  total_then : (x i : ℕ) (r : Record) → HasRecord late.anatomy.pieces x r → IsFirst late.anatomy.records r.name r.spec x → i < buckets_of r.spec
      → total_looked two x (counts_reference two three x) (buckets_of r.spec) i ≤ counted r.name (key_of_bucket r.spec i)
  total_then x i r stands its bucket =
      let (k, below, place) = place_of run last x r stands in
      subst (λ (x : ℕ). total_looked two x (counts_reference two three x) (buckets_of r.spec) i ≤ counted r.name (key_of_bucket r.spec i)) place
      (at_place k i below r (subst (λ (x : ℕ). HasRecord late.anatomy.pieces x r) (sym place) stands) (subst (IsFirst late.anatomy.records r.name r.spec) (sym place) its) bucket)

  -- ---- samples

  sample_at : (k : ℕ) → k < length list → (s : Sample) → HasSample late.anatomy.pieces (slice_index list k) s → IsFirstOf late.anatomy.records s.of s.value (slice_index list k)
      → word_at two (slice_index list k + 6) ≤ counted s.name s.value
  sample_at k below s stands its = elim (dec_lt k (length (chain_at run m))) [
    | yes there ↦
        let x : ℕ = slice_index list k in
        let was = sample_was run m last k le s stands there in
        let t : Sample = was.of in
        let name : t.name ≡ s.name = sym (ap (λ (z : Sample). z.name) was.goes.is) in
        let of_same : t.of ≡ s.of = sym (ap (λ (z : Sample). z.of) was.goes.is) in
        let value : t.value ≡ s.value = sym (ap (λ (z : Sample). z.value) was.goes.is) in
        let late_its : IsFirstOf late.anatomy.records t.of t.value x =
        subst (λ (p : ℕ × ℤ). IsFirstOf late.anatomy.records p.0 p.1 x) (λ j. (sym of_same j, sym value j)) its in
        let most = (values_held until_then x t was.stands (value_then run m last x le t was.stands late_its)).1 in
        let tally : counted t.name t.value ≡ counted s.name s.value = (λ j. counted (name j) (value j)) in
        omega (arith, most, tally)
    | no far ↦
        let ends = ends_at run last (slice_index list k) (sample s) stands in
        let spot : slice_index list k + 6 < shape.size = omega (arith, ends) in
        let nothing = loaded.copy_two.each (slice_index list k + 6) spot ∙ nothing_yet k below s stands spot (omega (arith, far)) in
        omega (arith, nothing)
  ]
    where
      nothing_yet : (k : ℕ) → k < length list → (s : Sample) → HasSample late.anatomy.pieces (slice_index list k) s → slice_index list k + 6 < shape.size
          → length (chain_at run m) ≤ k → word_at (at (moments.two (slice_index list k + 6))).words (slice_index list k + 6) ≡ 0
      nothing_yet k below s stands spot far =
          let t : ℕ = moments.two (slice_index list k + 6) in
          let early = behind (slice_index list k + 6) spot in
          not_yet run (moments.two (slice_index list k + 6)) last k 6 (omega (arith, early, le)) (sample s) below (shorter (moments.two (slice_index list k + 6)) early) stands (inl refl)
        where
          shorter : (t : ℕ) → t ≤ m → length (chain_at run t) ≤ k
          shorter t before = elim (dec_lt k (length (chain_at run t))) [
            | yes there ↦ let on = (same_place run t m k before there).0 in absurd (omega (arith, on, far))
            | no beyond ↦ omega (arith, beyond)
          ]

  sample_then : (x : ℕ) (s : Sample) → HasSample late.anatomy.pieces x s → IsFirstOf late.anatomy.records s.of s.value x → word_at two (x + 6) ≤ counted s.name s.value
  sample_then x s stands its =
      let (k, below, place) = sample_place run last x s stands in
      subst (λ (x : ℕ). word_at two (x + 6) ≤ counted s.name s.value) place
      (sample_at k below s (subst (λ (x : ℕ). HasSample late.anatomy.pieces x s) (sym place) stands) (subst (IsFirstOf late.anatomy.records s.of s.value) (sym place) its))

  -- ---- of a key

  abbrev IsMost : List ℕ → ℤ → Type 0
  IsMost name key = units_of_key of_look name key ≤ counted name key

  by_bucket : (name : List ℕ) (kind : Spec) (x i : ℕ) → IsFirst of_look.records name kind x → i < buckets_of kind → IsMost name (key_of_bucket kind i)
  by_bucket name kind x i its below =
      let o = of_bucket copies image look
      (its_records copies image look) name kind x i its below in
      let holds = o.holds in
      let most = total_then x i o.r o.stands o.its o.inside in
      let tally : counted o.r.name (key_of_bucket o.r.spec i) ≡ counted name (key_of_bucket kind i) = (λ j. counted (o.named j) (key_of_bucket (o.specified j) i)) in
      omega (arith, holds, most, tally)

  by_sample : (name : List ℕ) (x place : ℕ) (key : ℤ) → IsFirst of_look.records name spec.Sparse x → IsFirstOf of_look.records x key place → IsMost name key
  by_sample name x place key its valued_first =
      let o = of_sample copies image look
      (its_records copies image look) name x place key its valued_first in
      let holds = o.holds in
      let most = sample_then place o.s o.stands o.its in
      let tally : counted o.s.name o.s.value ≡ counted name key = (λ j. counted (o.named j) (o.valued j)) in
      omega (arith, holds, most, tally)

  by_key : (name : List ℕ) (key : ℤ) → HasKey of_look.records name key → IsMost name key
  by_key name key (kind, x, its, inl (bucket, below, is)) = subst (IsMost name) (sym is) (by_bucket name kind x bucket its below)
  by_key name key (kind, x, its, inr (sparse, place, valued)) =
      by_sample name x place key (subst (λ (kind : Spec). IsFirst of_look.records name kind x) sparse its) valued

  pub units_then : (name : List ℕ) (key : ℤ) (kind : Spec) (x : ℕ) → IsFirst of_look.records name kind x → IsMost name key
  units_then name key kind x its = elim (dec_lt (counted name key) (units_of_key of_look name key)) [
    | yes more ↦
        let (q, (stands, called, specified)) = record_of_first shape opened image laid name kind x its in
        let absent : ¬ (HasKey of_look.records q.name key) = λ keyed.
        (let most = by_key name key (subst (λ (name : List ℕ). HasKey of_look.records name key) called keyed) in omega (arith, most, more)) in
        let nothing = no_units shape opened image laid x q stands kind (subst (λ (name : List ℕ). IsFirst of_look.records name kind x) (sym called) its) specified key absent in
        let same : units_of_key of_look q.name key ≡ units_of_key of_look name key = ap (λ (name : List ℕ). units_of_key of_look name key) called in
        absurd (omega (arith, nothing, same, more))
    | no fewer ↦ omega (arith, fewer)
  ]

  -- ---- the first record of a name was on the list then

  pub first_at : (name : List ℕ) (kind : Spec) (x : ℕ) → IsFirst of_look.records name kind x → IsFirst then_is.anatomy.records name kind x
  first_at name kind x its =
      let (q, (stands, called, specified)) = record_of_first shape opened image laid name kind x its in
      let it = has.record_from x q stands in
      let r : Record = it.of in
      let names : r.name ≡ name = ap (λ (z : Record). z.name) (sym it.is) ∙ called in
      let kinds : r.spec ≡ kind = ap (λ (z : Record). z.spec) (sym it.is) ∙ specified in
      let (j, here) = at_from records x it.followed in
      let below = below_length records j x here in
      let (same, g) = followed_is copies image j below in
      let place : slice_index list j ≡ x = sym same ∙ index_at records j x 0 here in
      let inside = g.within in
      let listed = was_listed copies j g in
      let early = behind _ (within copies j (omega (arith, inside))) in
      let there = (same_place run _ m j early listed).0 in
      let stands_here = subst (λ (n : ℕ). HasRecord late.anatomy.pieces n r) (sym place) it.stands in
      let was = record_was run m last j le r stands_here there in
      let name_was : was.of.name ≡ r.name = sym (ap (λ (z : Record). z.name) was.goes.is) in
      let kind_was : was.of.spec ≡ r.spec = sym (ap (λ (z : Record). z.spec) was.goes.is) in
      let late_its : IsFirst late.anatomy.records r.name r.spec (slice_index list j) =
      subst (λ (name : List ℕ). IsFirst late.anatomy.records name r.spec (slice_index list j)) (sym names)
      (subst (λ (kind : Spec). IsFirst late.anatomy.records name kind (slice_index list j)) (sym kinds)
      (subst (IsFirst late.anatomy.records name kind) (sym place) (first_late copies image look name kind x its))) in
      let then_first = first_then run m last (slice_index list j) le was.of r was.stands late_its name_was in
      subst (IsFirst then_is.anatomy.records name kind) place
      (subst (λ (name : List ℕ). IsFirst then_is.anatomy.records name kind (slice_index list j)) (name_was ∙ names)
      (subst (λ (kind : Spec). IsFirst then_is.anatomy.records was.of.name kind (slice_index list j)) (kind_was ∙ kinds) then_first))

-- ---- two looks

pub readings_rise : ReadingsRise
readings_rise shape opened at first other last moments later one two three four five six image next reading beyond g run loaded loaded_later order look look_later is is_later there =
    let copies = three_copies shape opened at first last moments one two three run loaded in
    let next_copies = three_copies shape opened at other last later four five six run loaded_later in
    let (m, mid) = middle copies other later four five six loaded_later order in
    let le = down copies other later four five six loaded_later order m mid in
    let reads = words_read shape opened image reading (words_kept copies image look) is in
    let reads_later = words_read shape opened next beyond (words_kept next_copies next look_later) is_later in
    let (kind, its, same) = reads.1.given g there in
    let then_first = first_at copies image look m le mid.behind g.name kind g.reference its in
    let its_later = first_here next_copies next look_later m le mid.before g.name kind g.reference then_first in
    let (h, among, named) = reads_later.1.read g.name kind g.reference its_later in
    let (sort, its_again, same_later) = reads_later.1.given h among in
    let one = one_kind _ g.name h.name kind sort g.reference h.reference named its_later its_again in (
      h,
      among,
      named,
      same_on g.spec sort h.spec (same_as g.spec kind sort same one) (same_back h.spec sort same_later),
      λ key.
          let units = (reads.2 g there).units key in
          let most = units_then copies image look m le mid.behind g.name key kind g.reference its in
          let least = counted_least next_copies next look_later m le mid.before h.name key in
          let units_later = (reads_later.2 h among).units key in
          let tally : tally_units (all_counted (at m).actors) h.name key ≡ tally_units (all_counted (at m).actors) g.name key =
          ap (λ (name : List ℕ). tally_units (all_counted (at m).actors) name key) named in
          omega (arith, units, most, least, units_later, tally),
    )
