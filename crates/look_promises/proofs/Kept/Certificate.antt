-- If the units of a look are no more than the redundant count that it has, its totals are those of the moment at which that was loaded.
use Rattle.segment_invariant.proofs.Prelude.Std.{◌≡◌, ◌≢◌, ℕ, suc, ◌+◌, ◌<◌, ◌≤◌, true≢false, List, [], ◌∷◌, flat_map, length, refl, sym, ap, subst, ◌∙◌, arith, slice_index, dite, ℕ_discrete, All, All-cons, All-nil, Contains, all_at, all_of, at_from, below_length, index_at, some, some-injective, get_elem?}
use Rattle.segment_invariant.proofs.Prelude.Machine.{Actor, Entry, word_at, buckets_of, total_of, tally_noted}
use Rattle.segment_invariant.proofs.Prelude.Invariant.{Record, histogram, HasRecord, IsFirst}
use Rattle.std.proofs.Math.Decide.{dec_lt}
use Rattle.std.proofs.lemmas.List.Elements.{Contains-get_or}
use Rattle.bucket_ranges.specs.declared.spec.Spec.TheVariants as spec
use Rattle.segment_looks.specs.Looks.{counts_reference}
use Rattle.segment_invariant.proofs.Lists.Countings.{noted_total}
use Rattle.segment_promises.specs.Reads.{noted_at_opening}
use Rattle.look_promises.specs.Images.{total_looked, units_looked}
use Rattle.look_promises.specs.OneMoment.{IsCountedFirst, CountsFirst, units_at_opening, LoneOpenersCountFirst, LooksTellTheirMoment}
use Rattle.look_promises.proofs.Copies.ThreeCopies.{ThreeCopies, three_copies, seen_in}
use Rattle.look_promises.proofs.Moments.Firsts.{first_then}
use Rattle.look_promises.proofs.Moments.Runs.{Run, kept_at, chain_at, reached}
use Rattle.look_promises.proofs.Moments.Listed.{ends_at, same_place, place_of}
use Rattle.look_promises.proofs.NewRecords.Starts.{not_yet}
use Rattle.look_promises.proofs.Moments.Room.{record_was, word_was}
use Rattle.look_promises.proofs.Copies.Named.{one_within}
use Rattle.look_promises.proofs.Amounts.OneMoment.{of_then}
use Rattle.look_promises.proofs.Kept.Notes.{Holds, all_hold}
use Rattle.look_promises.proofs.Kept.Noted.{at_least, noted_most}

-- actors without first entries have no units of the opening
none_of_others : (name : List ℕ) (actors : List Actor) → ((i : ℕ) (a : Actor) → get_elem? actors i ≡ some a → a.entries.first ≡ [])
    → units_at_opening actors name ≡ 0
none_of_others name [] each = refl
none_of_others name (a ∷ rest) each =
    let first : tally_noted a.entries.first name ≡ 0 = ap (λ (entries : List Entry). tally_noted entries name) (each 0 a refl) in
    let others = none_of_others name rest (λ i b there. each (suc i) b there) in
    let both = noted_total name a.entries.first (flat_map (λ (a : Actor). a.entries.first) rest) in
    omega (arith, first, others, both)

pub of_opener : (name : List ℕ) (actors : List Actor) (opener : Actor) → get_elem? actors 0 ≡ some opener
    → ((i : ℕ) (a : Actor) → get_elem? actors i ≡ some a → i ≢ 0 → a.entries.first ≡ []) → units_at_opening actors name ≡ tally_noted opener.entries.first name
of_opener name [] opener there others = absurd (cc there)
of_opener name (a ∷ rest) opener there others =
    let same : tally_noted a.entries.first name ≡ tally_noted opener.entries.first name = ap (λ (b : Actor). tally_noted b.entries.first name) (some-injective a opener there) in
    let none_there = none_of_others name rest (λ i b is. others (suc i) b is (λ e. omega (arith, e))) in
    let both = noted_total name a.entries.first (flat_map (λ (a : Actor). a.entries.first) rest) in
    omega (arith, same, none_there, both)

-- an opener runs nothing
pub lone_openers_count_first : LoneOpenersCountFirst
lone_openers_count_first shape opened state a kept alone =
    let roles = kept.roles in
    let there : get_elem? (a ∷ []) 0 ≡ some roles.opener = subst (λ (actors : List Actor). get_elem? actors 0 ≡ some roles.opener) alone roles.stands in
    let none_runs : a.entries.running ≡ [] = ap (λ (b : Actor). b.entries.running) (some-injective a roles.opener there) ∙ roles.rests.0 in
    subst (All CountsFirst) (sym alone)
    (All-cons CountsFirst a [] (subst (All IsCountedFirst) (sym none_runs) (All-nil IsCountedFirst)) (All-nil CountsFirst))

module _ (run : Run) (counts : All CountsFirst (run.at 0).actors) where
  open run use {opened, at}

  abbrev began : List Entry
  began = run.kept.roles.opener.entries.first

  holds_first : All (Holds began) (at 0).actors
  holds_first = all_of (Holds began) (at 0).actors (λ a among.
      let (i, there) = at_from (at 0).actors a among in (
        all_at CountsFirst (at 0).actors i a counts there,
        λ opens. dite (ℕ_discrete i 0)
            (λ zero_is.
            let here : get_elem? (at 0).actors 0 ≡ some a = subst (λ (n : ℕ). get_elem? (at 0).actors n ≡ some a) zero_is there in
            ap (λ (b : Actor). b.entries.first) (some-injective a run.kept.roles.opener (sym here ∙ run.kept.roles.stands)))
            (λ ne. absurd (true≢false (sym opens ∙ (run.kept.roles.only i a there ne).0))),
      ))

  holds_at : (m : ℕ) → All (Holds began) (at m).actors
  holds_at m = all_hold began opened.version (at 0) holds_first (at m) (reached run 0 m (omega arith))

  pub counts_at : (m : ℕ) → All CountsFirst (at m).actors
  counts_at m = all_of CountsFirst (at m).actors (λ a among.
      let (i, there) = at_from (at m).actors a among in (all_at (Holds began) (at m).actors i a (holds_at m) there).0)

  -- so each state's opener began with what the segment was opened with
  pub opened_with : (m : ℕ) (name : List ℕ) → units_at_opening (at 0).actors name ≡ tally_noted (kept_at run m).roles.opener.entries.first name
  opened_with m name =
      let roles = (kept_at run m).roles in
      let same = (all_at (Holds began) (at m).actors 0 roles.opener (holds_at m) roles.stands).1 roles.opens in
      of_opener name (at 0).actors run.kept.roles.opener run.kept.roles.stands (λ i a there ne. (run.kept.roles.only i a there ne).1)
      ∙ ap (λ (entries : List Entry). tally_noted entries name) (sym same)

-- ---- a look

module _ (copies : ThreeCopies) (counts : All CountsFirst (copies.at 0).actors) (x i : ℕ) (r : Record) (has : HasRecord (seen_in copies).late.anatomy.pieces x r)
    (its : IsFirst (seen_in copies).late.anatomy.records r.name r.spec x) (below : i < buckets_of r.spec)
    (opening : noted_at_opening copies.opened r.name ≤ units_at_opening (copies.at 0).actors r.name) where
  open copies use {run, shape, opened, at, last, moments, one, two, three, loaded}

  abbrev n : ℕ
  n = buckets_of r.spec

  abbrev place : ℕ
  place = counts_reference two three x

  abbrev m : ℕ
  m = moments.one (x + 13)

  inside : x + 13 < shape.size
  inside = let ends = ends_at run last x (histogram r) has in omega (arith, ends)

  down : m ≤ last
  down = (one_within copies (x + 13) inside).1

  abbrev Looked : Type 0
  Looked = units_looked two x place n ≤ word_at one (x + 13)

  there : Looked → Contains (chain_at run m) x → total_looked two x place n i ≡ total_of 2 (at m).words x i
  there looked has_it =
      let kept = kept_at run m in
      let (k, here) = at_from (chain_at run m) x has_it in
      let short = below_length (chain_at run m) k x here in
      let is : slice_index (chain_at run last) k ≡ x = (same_place run m last k down short).1 ∙ index_at (chain_at run m) k x 0 here in
      let late_has : HasRecord (kept_at run last).anatomy.pieces (slice_index (chain_at run last) k) r =
      subst (λ (y : ℕ). HasRecord (kept_at run last).anatomy.pieces y r) (sym is) has in
      let before = record_was run m last k down r late_has short in
      let q = before.of in
      let was : HasRecord kept.anatomy.pieces x q = subst (λ (y : ℕ). HasRecord kept.anatomy.pieces y q) is before.stands in
      let named : q.name ≡ r.name = sym (ap (λ (z : Record). z.name) before.goes.is) in
      let kinds : buckets_of r.spec ≡ buckets_of q.spec = ap (λ (z : Record). buckets_of z.spec) before.goes.is in
      let word : word_at one (x + 13) ≡ q.noted =
      loaded.copy_one.each (x + 13) inside
      ∙ (ap (λ (y : ℕ). word_at (at m).words (y + 13)) (sym is) ∙ word_was run m last k down r late_has short 13 (omega arith)) in
      let bucketed : q.spec ≢ spec.Sparse = (λ sparse. let none_there = ap buckets_of sparse in omega (arith, none_there, kinds, below)) in
      let opens = opened_with run counts m q.name in
      let as_named : noted_at_opening opened q.name ≤ units_at_opening (at 0).actors q.name =
      subst (λ (name : List ℕ). noted_at_opening opened name ≤ units_at_opening (at 0).actors name) (sym named) opening in
      let most = noted_most shape opened (at m) kept (kept.same.0 ∙ run.version) (counts_at run counts m) x q was
      (first_then run m last x down q r was its named) bucketed (omega (arith, as_named, opens)) in
      let few = looked in
      let same_units = ap (λ (n : ℕ). units_looked two x place n) kinds in
      let same_total = ap (λ (n : ℕ). total_looked two x place n i) kinds in
      same_total
      ∙ of_then copies m (λ j lt. loaded.ordered.second (x + 13) j inside lt) x q was i (omega (arith, below, kinds))
      (omega (arith, most, few, same_units, word))

  none_yet : Looked → (Contains (chain_at run m) x → ⊥) → total_looked two x place n i ≡ 0
  none_yet looked absent =
      let (k, within, is) = place_of run last x r has in
      let far : length (chain_at run m) ≤ k = elim (dec_lt k (length (chain_at run m))) [
        | no far ↦ omega (arith, far)
        | yes short ↦
            absurd (absent (subst (Contains (chain_at run m)) (sym (same_place run m last k down short).1 ∙ is)
            (Contains-get_or (chain_at run m) k 0 short)))
      ] in
      let late_has : HasRecord (kept_at run last).anatomy.pieces (slice_index (chain_at run last) k) r =
      subst (λ (y : ℕ). HasRecord (kept_at run last).anatomy.pieces y r) (sym is) has in
      let nothing : word_at one (x + 13) ≡ 0 =
      loaded.copy_one.each (x + 13) inside
      ∙ (ap (λ (y : ℕ). word_at (at m).words (y + 13)) (sym is)
      ∙ not_yet run m last k 13 down (histogram r) within far late_has (omega arith, omega arith)) in
      let few = looked in
      let among = at_least (total_looked two x place n) n 0 i (omega arith) (omega (arith, below)) in
      omega (arith, nothing, few, among)

pub looks_tell_their_moment : LooksTellTheirMoment
looks_tell_their_moment shape opened at first last x i moments one two three run counts loaded =
    let copies = three_copies shape opened at first last moments one two three run loaded in (
      kept_at copies.run (moments.one (x + 13)),
      kept_at copies.run last,
      λ r has its below opening few. (there copies counts x i r has its below opening few, none_yet copies counts x i r has its below opening few),
    )
