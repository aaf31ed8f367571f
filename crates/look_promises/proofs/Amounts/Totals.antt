-- The total of a bucket that a look has lies between that of the first moment and that of the last.
use Rattle.segment_invariant.proofs.Prelude.Std.{◌≡◌, ◌≢◌, ◌⊎◌, ℕ, suc, ◌+◌, ◌-◌, ◌<◌, ◌≤◌, ◌==◌, ◌&&◌, Bool, true, false, true≢false, List, length, inl, inr, refl, sym, ap, subst, ◌∙◌, arith, slice_index, if◌then◌else◌, Option, Some, None, none, replicate, eq-eqb, ne_eqb, take, drop, get_or-drop, get_or_append_left, ◌++◌, length-append, dite, ℕ_discrete}
use Rattle.segment_invariant.proofs.Prelude.Machine.{word_at, buckets_of, SingleWord, Empty, Packed, Disabled, FrozenEmpty, Frozen, single_of, packed_bucket, units_packed, is_off, units_in, Leads}
use Rattle.std.specs.List.{slice_range}
use Rattle.std.proofs.Math.Decide.{dec_lt}
use Rattle.std.proofs.lemmas.List.{get_or-take, get_or-replicate}
use Rattle.segment_looks.specs.Looks.{counts_looked, counts_reference, is_frozen}
use Rattle.segment_invariant.specs.Rises.{RecordGoes}
use Rattle.segment_invariant.proofs.Blocks.Pieces.{piece_word, one_stands}
use Rattle.look_promises.specs.Images.{IsTotalAmong, total_looked, LooksCountTotals}
use Rattle.look_promises.proofs.Moments.Runs.{Run, kept_at, rises_at, chain_at}
use Rattle.look_promises.proofs.Copies.ThreeCopies.{ThreeCopies, three_copies, seen_in}
use Rattle.look_promises.proofs.Moments.Listed.{ends_at, place_of}
use Rattle.look_promises.proofs.NewRecords.Starts.{not_yet}
use Rattle.look_promises.proofs.Moments.Room.{record_was, word_was, claimed_from}
use Rattle.look_promises.specs.Looks.{IsBetween}
use Rattle.segment_invariant.specs.Seen.{IsCounterIn}
use Rattle.segment_invariant.specs.Invariant.{IsCountsOf, total_in}
use Rattle.segment_invariant.proofs.Frames.Leads.{off_leads}
use Rattle.look_promises.proofs.Copies.References.{looked}
use Rattle.look_promises.proofs.Copies.Named.{two_within}
use Rattle.look_promises.proofs.Copies.Units.{units_between}
use Rattle.segment_invariant.proofs.Prelude.Invariant.{Record, Counts, histogram, counts, words_of, form_at, Stands, HasRecord, HasCounts}

-- ---- packed units

-- a number for a bucket, if it is the packed one
abbrev pub for_bucket : Option ℕ → ℕ → ℕ → ℕ
for_bucket None i n = 0
for_bucket (Some bucket) i n = if bucket == i then n else 0

none_for : (b : Bool) (m : ℕ) → (if b then m else m) ≡ m
none_for true m = refl
none_for false m = refl

pub packed_as : (form : Option SingleWord) (i : ℕ) → units_packed form i ≡ for_bucket (packed_bucket form) i (units_in form)
packed_as (Some (Packed bucket units)) i = refl
packed_as (Some Empty) i = refl
packed_as (Some (Disabled None)) i = refl
packed_as (Some (Disabled (Some bucket))) i = sym (none_for (bucket == i) 0)
packed_as (Some FrozenEmpty) i = refl
packed_as (Some (Frozen bucket units)) i = refl
packed_as None i = refl

for_more : (packed : Option ℕ) (i few many : ℕ) → few ≤ many → for_bucket packed i few ≤ for_bucket packed i many
for_more None i few many le = omega arith
for_more (Some bucket) i few many le = by_test (bucket == i)
  where
    by_test : (b : Bool) → (if b then few else 0) ≤ (if b then many else 0)
    by_test true = le
    by_test false = omega arith

-- in version 2 a word leads to those that pack no fewer units
pub packed_leads : (n old new i : ℕ) → Leads 2 n old new → units_packed (single_of 2 n old) i ≤ units_packed (single_of 2 n new) i
packed_leads n old new i (inl same) = let is = ap (λ (w : ℕ). units_packed (single_of 2 n w) i) same in omega (arith, is)
packed_leads n old new i (inr (inl nothing)) =
    let is : units_packed (single_of 2 n old) i ≡ 0 = ap (λ (w : ℕ). units_packed (single_of 2 n w) i) nothing in omega (arith, is)
packed_leads n old new i (inr (inr (on, packs, inl few))) =
    let was = packed_as (single_of 2 n old) i in
    let now = packed_as (single_of 2 n new) i in
    let same = ap (λ (packed : Option ℕ). for_bucket packed i (units_in (single_of 2 n new))) packs in
    let more = for_more (packed_bucket (single_of 2 n old)) i (units_in (single_of 2 n old)) (units_in (single_of 2 n new)) few in
    omega (arith, was, now, same, more)
packed_leads n old new i (inr (inr (on, packs, inr (one, off)))) = absurd (omega (arith, one))

-- ---- counts

unit_at : (c : Counts) (i : ℕ) → i < length c.units → slice_index (words_of (counts c)) (4 + i) ≡ slice_index c.units i
unit_at c i below =
    let long = length-append c.units c.marks in
    let same : 4 + i ≡ suc (suc (suc (suc i))) = omega arith in
    ap (slice_index (words_of (counts c))) same
    ∙ get_or_append_left (c.units ++ c.marks) c.rest 0 i (omega (arith, long, below)) ∙ get_or_append_left c.units c.marks 0 i below

-- a word of a range
pub range_word : (words : List ℕ) (from n i : ℕ) → i < n → slice_index (slice_range words from (from + n)) i ≡ word_at words (from + i)
range_word words from n i below =
    let same : from + n - from ≡ n = omega arith in
    ap (λ (m : ℕ). slice_index (take m (drop from words)) i) same ∙ (get_or-take n (drop from words) i 0 below ∙ get_or-drop from words i 0)

module _ (run : Run) where
  open run use {shape, at}

  version_at : (m : ℕ) → (kept_at run m).anatomy.version ≡ 2
  version_at m = (kept_at run m).same.0 ∙ run.version

  -- a record continues
  pub goes_to : (a b x : ℕ) (r : Record) → a ≤ b → HasRecord (kept_at run a).anatomy.pieces x r
      → (q : Record) × HasRecord (kept_at run b).anatomy.pieces x q × RecordGoes 2 r q
  goes_to a b x r le has =
      let (body, stands, (q, is, goes)) = (rises_at run a b le).goes x (histogram r) refl has in
      (q, subst (Stands (kept_at run b).anatomy.pieces x none) is stands, subst (λ (v : ℕ). RecordGoes v r q) (version_at a) goes)

  one_there : (m x : ℕ) (r q : Record) → HasRecord (kept_at run m).anatomy.pieces x r → HasRecord (kept_at run m).anatomy.pieces x q → r ≡ q
  one_there m x r q has stands =
      let kept = kept_at run m in
      cc (one_stands shape (at m).words kept.anatomy kept.shown x none none (histogram r) (histogram q) has stands).1

  word_of : (m x i : ℕ) (r : Record) → HasRecord (kept_at run m).anatomy.pieces x r → i < 15 → word_at (at m).words (x + i) ≡ slice_index (words_of (histogram r)) i
  word_of m x i r (j, there) lt =
      let kept = kept_at run m in
      piece_word shape (at m).words kept.anatomy kept.shown j (record { at = x; owner = none; body = histogram r }) i there (omega (arith, lt))

module _ (copies : ThreeCopies) where
  open copies use {run, shape, at, first, last, moments, two, three, loaded}
  open seen_in copies use {early, late, list}

  module _ (k i : ℕ) (below : k < length list) (r : Record) (has : HasRecord late.anatomy.pieces (slice_index list k) r) (bucket : i < buckets_of r.spec) where
    abbrev x : ℕ
    x = slice_index list k

    abbrev n : ℕ
    n = buckets_of r.spec

    abbrev place : ℕ
    place = counts_reference two three x

    abbrev w : ℕ
    w = word_at two (x + 9)

    spot : (j : ℕ) → j < 15 → x + j < shape.size
    spot j lt = let ends = ends_at run last x (histogram r) has in omega (arith, ends, lt)

    abbrev within : (j : ℕ) (lt : j < 15) → (first ≤ moments.two (x + j)) × (moments.two (x + j) ≤ last)
    within j lt = two_within copies (x + j) (spot j lt)

    -- ---- the single word

    single_up : units_packed (single_of 2 n w) i ≤ units_packed (single_of 2 n r.single) i
    single_up = elim (dec_lt k (length (chain_at run (moments.two (x + 9))))) [
      | yes there ↦
          let before = (within 9 (omega arith)).1 in
          let was = record_was run (moments.two (x + 9)) last k before r has there in
          let word : w ≡ was.of.single = loaded.copy_two.each (x + 9) (spot 9 (omega arith)) ∙ word_was run (moments.two (x + 9)) last k before r has there 9 (omega arith) in
          let kinds : buckets_of r.spec ≡ buckets_of was.of.spec = ap (λ (z : Record). buckets_of z.spec) was.goes.is in
          let leads : Leads 2 n w r.single = subst (λ (m : ℕ). Leads 2 m w r.single) (sym kinds)
          (subst (λ (u : ℕ). Leads 2 (buckets_of was.of.spec) u r.single) (sym word)
          (subst (λ (v : ℕ). Leads v (buckets_of was.of.spec) was.of.single r.single) (version_at run (moments.two (x + 9))) was.goes.single)) in
          packed_leads n w r.single i leads
      | no far ↦
          let nothing : w ≡ 0 = loaded.copy_two.each (x + 9) (spot 9 (omega arith))
          ∙ not_yet run (moments.two (x + 9)) last k 9 (within 9 (omega arith)).1 (histogram r) below (omega (arith, far)) has (omega arith, omega arith) in
          let is : units_packed (single_of 2 n w) i ≡ 0 = ap (λ (u : ℕ). units_packed (single_of 2 n u) i) nothing in
          omega (arith, is)
    ]

    -- the record of the first moment
    module _ (q : Record) (was : HasRecord early.anatomy.pieces x q) where
      pub kinds : n ≡ buckets_of q.spec
      kinds =
          let size = spot 9 (omega arith) in
          let order : first ≤ last = let a = within 9 (omega arith) in omega (arith, a.0, a.1) in
          let (p, there, goes) = goes_to run first last x q order was in
          let same : p ≡ r = one_there run last x p r there has in
          ap (λ (z : Record). buckets_of z.spec) (sym same ∙ goes.is)

      pub leads_on : Leads 2 n q.single w
      leads_on =
          let (p, there, goes) = goes_to run first (moments.two (x + 9)) x q (within 9 (omega arith)).0 was in
          let word : w ≡ p.single = loaded.copy_two.each (x + 9) (spot 9 (omega arith)) ∙ word_of run (moments.two (x + 9)) x 9 p there (omega arith) in
          subst (λ (m : ℕ). Leads 2 m q.single w) (sym kinds) (subst (Leads 2 (buckets_of q.spec) q.single) (sym word) goes.single)

      single_down : units_packed (single_of 2 n q.single) i ≤ units_packed (single_of 2 n w) i
      single_down = packed_leads n q.single w i leads_on

      -- it named these counts
      place_was : q.counts ≢ 0 → (place ≡ q.counts) × (r.counts ≡ q.counts)
      place_was ne =
          let (p, there, goes) = goes_to run first (moments.two (x + 8)) x q (within 8 (omega arith)).0 was in
          let word : word_at two (x + 8) ≡ q.counts = loaded.copy_two.each (x + 8) (spot 8 (omega arith))
          ∙ (word_of run (moments.two (x + 8)) x 8 p there (omega arith) ∙ goes.counts ne) in
          let order : first ≤ last = let a = within 9 (omega arith) in omega (arith, a.0, a.1) in
          let (z, at_end, on) = goes_to run first last x q order was in
          let same : z ≡ r = one_there run last x z r at_end has in
          let none : (word_at two (x + 8) == 0) ≡ false = ne_eqb (word_at two (x + 8)) 0 (λ nothing. ne (sym word ∙ nothing)) in (
            ap (λ (b : Bool). if b && is_frozen two x then word_at three (x + 8) else word_at two (x + 8)) none ∙ word,
            ap (λ (z : Record). z.counts) (sym same) ∙ on.counts ne,
          )

    -- ---- the counts

    abbrev count_looked : ℕ
    count_looked = slice_index (counts_looked two x (place + 4) n) i

    looked_on : is_frozen two x ≡ true → count_looked ≡ word_at two (place + (4 + i))
    looked_on on =
        let same : place + 4 + i ≡ place + (4 + i) = omega arith in
        ap (λ (b : Bool). slice_index (if b then slice_range two (place + 4) (place + 4 + n) else replicate {A = ℕ} n 0) i) on
        ∙ (range_word two (place + 4) n i bucket ∙ ap (word_at two) same)

    looked_off : is_frozen two x ≡ false → count_looked ≡ 0
    looked_off off =
        ap (λ (b : Bool). slice_index (if b then slice_range two (place + 4) (place + 4 + n) else replicate {A = ℕ} n 0) i) off ∙ get_or-replicate n i 0 0 bucket

    -- a counts block of the record has a count and a mark for each bucket
    module _ (c : Counts) (stands : HasCounts late.anatomy.pieces r.counts c) (ne : r.counts ≢ 0) where
      its_units : (length c.units ≡ n) × (length c.marks ≡ n)
      its_units =
          let (d, stood, it) = late.records.mounted x r has ne in
          let same : counts d ≡ counts c = (one_stands shape (at last).words late.anatomy late.shown r.counts none none (counts d) (counts c) stood stands).1 in
          let is : d ≡ c = cc same in
          (ap (λ (z : Counts). length z.units) (sym is) ∙ it.units, ap (λ (z : Counts). length z.marks) (sym is) ∙ it.marks)

      counter : IsCounterIn (counts c) (4 + i)
      counter = let many = its_units.0 in let low = bucket in (omega arith, omega (arith, many, low))

      between : IsBetween early.anatomy.pieces r.counts (4 + i) (counts c) (word_at two (r.counts + (4 + i)))
      between = (units_between copies x (4 + i) r c has stands counter).1

      count_up : place ≡ r.counts → count_looked ≤ slice_index c.units i
      count_up same = by_test (is_frozen two x) refl
        where
          by_test : (b : Bool) → is_frozen two x ≡ b → count_looked ≤ slice_index c.units i
          by_test true on =
              let is = looked_on on in
              let word = ap (λ (m : ℕ). word_at two (m + (4 + i))) same in
              let most = between.1 in
              let unit = unit_at c i (let many = its_units.0 in let low = bucket in omega (arith, many, low)) in
              omega (arith, is, word, most, unit)
          by_test false off = let is = looked_off off in omega (arith, is)

    pub total_up : (total : ℕ) → IsTotalAmong 2 late.anatomy.pieces x i total → total_looked two x place n i ≤ total
    total_up total (q, there, which) =
        let same : q ≡ r = one_there run last x q r there has in
        by_counts (subst (λ (z : Record). ((z.counts ≡ 0) × (total ≡ units_packed (form_at 2 z) i))
        ⊎ ((c : Counts) × HasCounts late.anatomy.pieces z.counts c × (total ≡ total_in 2 z c i))) same which)
        (looked copies k below r has)
      where
        single : units_packed (single_of 2 n w) i ≤ units_packed (form_at 2 r) i
        single = single_up

        nothing_looked : place ≡ 0 → total_looked two x place n i ≡ 0 + units_packed (single_of 2 n w) i
        nothing_looked nothing = ap (λ (b : Bool). (if b then 0 else count_looked) + units_packed (single_of 2 n w) i) (eq-eqb place 0 nothing)

        by_counts : ((r.counts ≡ 0) × (total ≡ units_packed (form_at 2 r) i)) ⊎ ((c : Counts) × HasCounts late.anatomy.pieces r.counts c × (total ≡ total_in 2 r c i))
            → (place ≡ 0) ⊎ (place ≡ r.counts) → total_looked two x place n i ≤ total
        by_counts (inl (none_there, is)) (inl nothing) = let l = nothing_looked nothing in let s = single in omega (arith, l, s, is)
        by_counts (inl (none_there, is)) (inr its) = let l = nothing_looked (its ∙ none_there) in let s = single in omega (arith, l, s, is)
        by_counts (inr (c, stands, is)) (inl nothing) = let l = nothing_looked nothing in let s = single in omega (arith, l, s, is)
        by_counts (inr (c, stands, is)) (inr its) = dite (ℕ_discrete r.counts 0)
            (λ none_there. let l = nothing_looked (its ∙ none_there) in let s = single in omega (arith, l, s, is))
            (λ ne.
            let l : total_looked two x place n i ≡ count_looked + units_packed (single_of 2 n w) i =
            ap (λ (b : Bool). (if b then 0 else count_looked) + units_packed (single_of 2 n w) i) (ne_eqb place 0 (λ nothing. ne (sym its ∙ nothing))) in
            let s = single in
            let u = count_up c stands ne its in
            omega (arith, l, s, u, is))

    -- those of the first moment
    module _ (q : Record) (was : HasRecord early.anatomy.pieces x q) (c : Counts) (stands : HasCounts early.anatomy.pieces q.counts c) (mounts : q.counts ≢ 0) where
      its_counts : IsCountsOf early.anatomy.version x q c
      its_counts =
          let (d, stood, it) = early.records.mounted x q was mounts in
          let same : counts d ≡ counts c = (one_stands shape (at first).words early.anatomy early.shown q.counts none none (counts d) (counts c) stood stands).1 in
          let is : d ≡ c = cc same in
          subst (IsCountsOf early.anatomy.version x q) is it

      many_units : length c.units ≡ n
      many_units = its_counts.units ∙ sym (kinds q was)

      -- not in use if the single word is not off later
      unused : is_frozen two x ≡ false → slice_index c.units i ≡ 0
      unused off = (its_counts.unused (by_off (is_off q.single) refl)).0 i 0 (let many = many_units in let low = bucket in omega (arith, many, low))
        where
          by_off : (b : Bool) → is_off q.single ≡ b → is_off q.single ≡ false
          by_off false is = is
          by_off true is = absurd (true≢false (sym is ∙ (ap is_off (off_leads 2 n q.single w is (leads_on q was)) ∙ off)))

    pub total_down : (total : ℕ) → IsTotalAmong 2 early.anatomy.pieces x i total → total ≤ total_looked two x place n i
    total_down total (q, was, which) = by_counts which
      where
        form_is : units_packed (form_at 2 q) i ≡ units_packed (single_of 2 n q.single) i
        form_is = ap (λ (m : ℕ). units_packed (single_of 2 m q.single) i) (sym (kinds q was))

        single : units_packed (form_at 2 q) i ≤ units_packed (single_of 2 n w) i
        single = let f = form_is in let s = single_down q was in omega (arith, f, s)

        by_counts : ((q.counts ≡ 0) × (total ≡ units_packed (form_at 2 q) i)) ⊎ ((c : Counts) × HasCounts early.anatomy.pieces q.counts c × (total ≡ total_in 2 q c i))
            → total ≤ total_looked two x place n i
        by_counts (inl (none_there, is)) = let s = single in omega (arith, s, is)
        by_counts (inr (c, stands, is)) =
            let mounts : q.counts ≢ 0 = λ nothing. let from = claimed_from run first q.counts (counts c) refl stands in omega (arith, from, nothing) in
            let (place_is, same) = place_was q was mounts in
            let l : total_looked two x place n i ≡ count_looked + units_packed (single_of 2 n w) i =
            ap (λ (b : Bool). (if b then 0 else count_looked) + units_packed (single_of 2 n w) i) (ne_eqb place 0 (λ nothing. mounts (sym place_is ∙ nothing))) in
            let s = single in
            let u = by_test (is_frozen two x) refl c stands mounts place_is same in
            omega (arith, l, s, u, is)
          where
            by_test : (b : Bool) → is_frozen two x ≡ b → (c : Counts) → HasCounts early.anatomy.pieces q.counts c → q.counts ≢ 0 → place ≡ q.counts → r.counts ≡ q.counts
                → slice_index c.units i ≤ count_looked
            by_test true on c stands mounts place_is same =
                let many = many_units q was c stands mounts in
                let ne : r.counts ≢ 0 = λ nothing. mounts (sym same ∙ nothing) in
                let (d, stood, it) = late.records.mounted x r has ne in
                let least = (between d stood ne).0 (counts c) (subst (λ (p : ℕ). Stands early.anatomy.pieces p none (counts c)) (sym same) stands)
                (omega arith, (let low = bucket in omega (arith, many, low))) in
                let unit = unit_at c i (let low = bucket in omega (arith, many, low)) in
                let word = ap (λ (m : ℕ). word_at two (m + (4 + i))) (place_is ∙ sym same) in
                let is = looked_on on in
                omega (arith, least, unit, word, is)
            by_test false off c stands mounts place_is same =
                let nothing = unused q was c stands mounts off in omega (arith, nothing)

  pub totals_between : (reference i : ℕ) (r : Record) → HasRecord late.anatomy.pieces reference r → i < buckets_of r.spec
      → ((total : ℕ) → IsTotalAmong 2 early.anatomy.pieces reference i total → total ≤ total_looked two reference (counts_reference two three reference) (buckets_of r.spec) i)
      × ((total : ℕ) → IsTotalAmong 2 late.anatomy.pieces reference i total → total_looked two reference (counts_reference two three reference) (buckets_of r.spec) i ≤ total)
  totals_between reference i r has bucket =
      let (k, below, place) = place_of run last reference r has in
      subst (λ (x : ℕ). ((total : ℕ) → IsTotalAmong 2 early.anatomy.pieces x i total → total ≤ total_looked two x (counts_reference two three x) (buckets_of r.spec) i)
      × ((total : ℕ) → IsTotalAmong 2 late.anatomy.pieces x i total → total_looked two x (counts_reference two three x) (buckets_of r.spec) i ≤ total)) place
      (let there = subst (λ (x : ℕ). HasRecord late.anatomy.pieces x r) (sym place) has in
      (total_down k i below r there bucket, total_up k i below r there bucket))

pub looks_count_totals : LooksCountTotals
looks_count_totals shape opened at first last moments one two three run loaded =
    let copies = three_copies shape opened at first last moments one two three run loaded in (
      kept_at copies.run first,
      kept_at copies.run last,
      totals_between copies,
    )
