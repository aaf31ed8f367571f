-- The segment that was packed and then mounted is consistent.
use Rattle.segment_invariant.proofs.Prelude.Std.{◌≡◌, ◌⊎◌, Bool, true, false, ℕ, zero, suc, ◌+◌, ◌-◌, ◌*◌, ◌%◌, ◌<◌, ◌≤◌, ℤ, pos, List, [], ◌∷◌, take, replicate, Option, inl, inr, ⊎_elim, refl, sym, ap, subst, ◌∙◌, true≢false, arith, slice_index, unwrap_or, unsigned_abs, ◌-ℤ◌, max, bit_and, some, some-injective, get_elem?, Contains, All, All-nil, All-cons, IsPermutation-refl, none_in, none_at, one_in}
use Rattle.segment_invariant.proofs.Prelude.Machine.{word_at, head_of, field_at, is_block, stops, IsChain, is_sparse, record_buckets, name_of, total_of, mark_of, Entry, EntryProgress, Sighting, Answered, Leads, Idle, SumLoaded, Actor, Claim, Published, tally_units, tally_sum, tally_noted, has_ended, all_counted, all_summed, all_noted}
use Rattle.segment_invariant.proofs.Prelude.Invariant.{IsHistogram}
use Rattle.std.specs.Prelude.{slice_index_or}
use Rattle.std.proofs.lemmas.List.{get_or-append_right, get_or-replicate}
use Rattle.alloc_core.specs.Laws.{Apart}
use Rattle.bucket_ranges.specs.Reading.{sum_of, sum_mark_of}
use Rattle.segment_machine.specs.Actor.{Each, transit_of, all_costs}
use Rattle.segment_invariant.specs.Consistent.{HasForm, HasPlace, HoldsMade, key_at, units_taken, run_of, places_of, SawBefore, IsSum, IsLoaded, ListIsChain, RecordsHold, TotalsAreCounted, MarksAreTaken, SumsAreAmounts, TransitIsLocal, FlagsAreSet, UnitsAreKept}
use Rattle.segment_machine.specs.Examples.{letter_a, mounted, mounter, one, whole}
use Rattle.segment_invariant.specs.Examples.{opening, MountedIsConsistent}
use Rattle.list_lemmas.proofs.Elements.{each_of_one}
use Rattle.segment_machine.proofs.SmallNumbers.{below_three}
use Rattle.segment_invariant.proofs.Examples.OneRecord.{the_one, of_the_one}
use Rattle.segment_invariant.proofs.Frames.Spending.{by_name}

-- the actor that recorded 1, 1 and 0
abbrev who : Actor
who = mounter (1 ∷ 1 ∷ 0 ∷ [])

abbrev all : List Actor
all = who ∷ []

abbrev chain : List ℕ
chain = 16 ∷ []

-- ---- lists of one and two

only : {X : Type 0} (x : X) (holds : X → Type 0) → holds x → (y : X) → Contains (x ∷ []) y → holds y
only x holds it y there = subst holds (one_in x y there) it

all_of_two : {X : Type 0} (holds : X → Type 0) (x y : X) → holds x → holds y → All holds (x ∷ y ∷ [])
all_of_two holds x y a b = All-cons holds x (y ∷ []) a (All-cons holds y [] b (All-nil holds))

all_of_three : {X : Type 0} (holds : X → Type 0) (x y z : X) → holds x → holds y → holds z → All holds (x ∷ y ∷ z ∷ [])
all_of_three holds x y z a b c = All-cons holds x (y ∷ z ∷ []) a (all_of_two holds y z b c)

each_one : (a : Actor) (holds : Actor → Type 0) → holds a → Each (a ∷ []) holds
each_one a holds it id b there lives = each_of_one a (λ k b. holds b) it id b there

-- ---- the list

header : (i : ℕ) → (i < 6) ⊎ ((9 ≤ i) × (i < 15)) → word_at mounted i ≡ word_at opening.words i
header zero within = refl
header (suc zero) within = refl
header (suc (suc zero)) within = refl
header (suc (suc (suc zero))) within = refl
header (suc (suc (suc (suc zero)))) within = refl
header (suc (suc (suc (suc (suc zero))))) within = refl
header (suc (suc (suc (suc (suc (suc zero)))))) within = absurd (⊎_elim (λ low. omega (arith, low)) (λ high. omega (arith, high)) within)
header (suc (suc (suc (suc (suc (suc (suc zero))))))) within = absurd (⊎_elim (λ low. omega (arith, low)) (λ high. omega (arith, high)) within)
header (suc (suc (suc (suc (suc (suc (suc (suc zero)))))))) within = absurd (⊎_elim (λ low. omega (arith, low)) (λ high. omega (arith, high)) within)
header (suc (suc (suc (suc (suc (suc (suc (suc (suc zero))))))))) within = refl
header (suc (suc (suc (suc (suc (suc (suc (suc (suc (suc zero)))))))))) within = refl
header (suc (suc (suc (suc (suc (suc (suc (suc (suc (suc (suc zero))))))))))) within = refl
header (suc (suc (suc (suc (suc (suc (suc (suc (suc (suc (suc (suc zero)))))))))))) within = refl
header (suc (suc (suc (suc (suc (suc (suc (suc (suc (suc (suc (suc (suc zero))))))))))))) within = refl
header (suc (suc (suc (suc (suc (suc (suc (suc (suc (suc (suc (suc (suc (suc zero)))))))))))))) within = refl
header (suc (suc (suc (suc (suc (suc (suc (suc (suc (suc (suc (suc (suc (suc (suc i))))))))))))))) within = absurd (⊎_elim (λ low. omega (arith, low)) (λ high. omega (arith, high)) within)

zeros : (i : ℕ) → 42 ≤ i → i < 128 → word_at mounted i ≡ 0
zeros i from within =
    get_or-append_right (take 42 mounted) (replicate 86 0) 42 i 0 refl from
    ∙ get_or-replicate 86 (i - 42) 0 0 (omega (arith, from, within))

chained : IsChain mounted (head_of mounted) chain
chained = record {
  walk = record {
    linked = links;
    lawful = blocks;
    distinct = λ i j below within same. absurd (omega (arith, below, within));
  };
  ended = refl;
}
  where
    links : (i : ℕ) → i < 1 → word_at mounted (slice_index (12 ∷ chain) i + 3) ≡ slice_index chain i
    links zero below = refl
    links (suc i) below = absurd (omega (arith, below))

    blocks : (i : ℕ) → i < 1 → is_block mounted (head_of mounted) (slice_index chain i) ≡ true
    blocks zero below = refl
    blocks (suc i) below = absurd (omega (arith, below))

opened : IsChain opening.words (head_of opening.words) []
opened = record {
  walk = record {
    linked = λ i below. absurd (omega (arith, below));
    lawful = λ i below. absurd (omega (arith, below));
    distinct = λ i j below within same. absurd (omega (arith, within));
  };
  ended = refl;
}

apart : (i j : ℕ) (a b : Claim) → i < j → get_elem? who.done.claimed i ≡ some a → get_elem? who.done.claimed j ≡ some b → Apart (run_of a) (run_of b)
apart zero zero a b below x y = absurd (omega (arith, below))
apart zero (suc zero) a b below x y =
    subst (λ (a : Claim). Apart (run_of a) (run_of b)) (some-injective _ a x)
    (subst (λ (b : Claim). Apart (16, 16) (run_of b)) (some-injective _ b y) (inl (omega arith)))
apart zero (suc (suc j)) a b below x y = absurd (none_at j b y)
apart (suc zero) zero a b below x y = absurd (omega (arith, below))
apart (suc zero) (suc zero) a b below x y = absurd (omega (arith, below))
apart (suc zero) (suc (suc j)) a b below x y = absurd (none_at j b y)
apart (suc (suc i)) j a b below x y = absurd (none_at i a x)

-- a place of a chain of one that is its record is place 1
second : (i : ℕ) → i ≤ 1 → slice_index (stops chain) i ≡ 16 → i ≡ 1
second zero le is = absurd (omega (arith, is))
second (suc zero) le is = refl
second (suc (suc i)) le is = absurd (omega (arith, le))

seen : SawBefore mounted [] chain who
seen = record {
  free = inl refl;
  walked = ([], refl);
  tail = λ place i j there low high at present. let a = second i low (at ∙ sym (one_in 16 place there)) in let b = second j high present in omega (arith, a, b);
  cursor = λ s there. absurd (none_in s there);
}

list : ListIsChain opening.words [] mounted [] all chain
list = record {
  size = refl;
  header = header;
  free = refl;
  zeros = zeros;
  chained = chained;
  opening = ([], opened, (chain, refl), IsPermutation-refl chain);
  tail = (1, omega arith, refl);
  apart = apart;
  paged = all_of_two (λ (claim : Claim). claim.at % 64 + claim.size ≤ 64) _ _ (omega arith) (omega arith);
  few = omega arith;
  sized = all_of_two (λ (claim : Claim). (field_at mounted claim.at 0 ≡ claim.size) × (field_at mounted claim.at 1 ≡ 0xC8799269)) _ _ (refl, refl) (refl, refl);
  claimed = λ at there. only 16 (λ (at : ℕ). Contains (places_of who.done.claimed) at) (0, omega arith, refl) at there;
  seen = each_one who (SawBefore mounted [] chain) seen;
  cursors_stand = λ k below. absurd (omega (arith, below));
}

-- ---- the records

-- nothing was on the list of a new segment
nobody : (front : List ℕ) (at : ℕ) → IsChain opening.words (head_of opening.words) front → Contains front at → ⊥
nobody front at is (k, below, e) =
    let first : 12 ≡ slice_index front 0 = is.walk.linked 0 (omega (arith, below)) in
    let block = is.walk.lawful 0 (omega (arith, below)) in
    true≢false (sym (subst (λ (r : ℕ). is_block opening.words (head_of opening.words) r ≡ true) (sym first) block))

form : HasForm 1 mounted 16
form = record {
  sparse = λ is i. absurd (true≢false (sym is));
  counts = λ is. refl;
  lawful = λ is e. cc e;
  off = λ is on e. omega (arith, e);
  unused = λ is on. absurd (true≢false on);
  packed = λ is e i at. subst (λ (k : ℕ). field_at mounted 32 (7 + k) ≡ 0) (ap (λ (o : Option ℕ). unwrap_or o 0) at) refl;
}

here : (at : ℕ) → Contains chain at → 16 ≡ at
here at there = only 16 (λ (k : ℕ). 16 ≡ k) refl at there

records : RecordsHold opening.words [] mounted all chain
records = record {
  made = λ p there. only _ (λ (p : Published). HoldsMade mounted chain p.reference p.made)
      (refl, refl, refl, refl, refl, (refl, refl), omega arith, (7, omega arith, refl)) p there;
  still = λ front at is there. absurd (nobody front at is there);
  formed = λ at there tag. subst (HasForm 1 mounted) (here at there) form;
  own_counts = λ a b first second tag other counts same. sym (here a first) ∙ here b second;
  claimed_counts = λ at there tag counts. subst
      (λ (k : ℕ). Contains (places_of who.done.claimed) (field_at mounted k 8) × (¬ (Contains chain (field_at mounted k 8))))
      (here at there)
      ((1, omega arith, refl), λ listed. let e = here 32 listed in absurd (omega (arith, e)));
  singles = each_one who
      (λ (a : Actor). (s : Sighting) (at : ℕ) → Contains a.seen.singles s → Contains chain at → s.at ≡ at + 9
      → Leads 1 (record_buckets mounted at) s.word (word_at mounted s.at))
      (λ s at there. absurd (none_in s there));
  later = λ front at other is_chain there tag is apart.
      absurd (apart (sym (of_the_one mounted letter_a (λ n k. 16 ≡ k) refl refl (name_of mounted at) other is) ∙ here at there));
  later_samples = λ at other there tag. absurd (no_sample at (here at there) tag);
}
  where
    no_sample : (at : ℕ) → 16 ≡ at → field_at mounted at 2 ≡ 3 → ⊥
    no_sample at e tag = let f = subst (λ (k : ℕ). field_at mounted k 2 ≡ 3) (sym e) tag in omega (arith, f)

-- ---- totals and marks

no_sparse : (name : List ℕ) (at : ℕ) → IsHistogram mounted chain name at → is_sparse mounted at ≡ true → ⊥
no_sparse name at is = of_the_one mounted letter_a (λ n k. is_sparse mounted k ≡ true → ⊥) refl (λ e. true≢false (sym e)) name at is

placed : (k : ℕ) (d : Entry) → k < 3 → HasPlace mounted chain (slice_index_or (all_counted all) k d).name (slice_index_or (all_counted all) k d).key
placed k d below = all_of_three (λ (e : Entry). HasPlace mounted chain e.name e.key) (one 1) (one 1) (one 0) at_one at_one at_zero k d below
  where
    at_one : HasPlace mounted chain letter_a (pos 1)
    at_one = (16, the_one mounted letter_a refl refl, inl (1, refl, omega arith, refl))

    at_zero : HasPlace mounted chain letter_a (pos 0)
    at_zero = (16, the_one mounted letter_a refl refl, inl (0, refl, omega arith, refl))

ended : All (λ (c : EntryProgress). has_ended c ≡ true) who.entries.log
ended = all_of_three (λ (c : EntryProgress). has_ended c ≡ true) (whole (one 1)) (whole (one 1)) (whole (one 0)) refl refl refl

totals : TotalsAreCounted 1 mounted all chain
totals = record {
  buckets = λ name at i is. of_the_one mounted letter_a
      (λ n k. is_sparse mounted k ≡ false → i < record_buckets mounted k
      → total_of 1 mounted k i + transit_of all k i ≡ tally_units (all_counted all) n (key_at mounted k i))
      refl
      (λ even below. below_three (λ i. total_of 1 mounted 16 i + transit_of all 16 i ≡ tally_units (all_counted all) letter_a (key_at mounted 16 i)) refl refl refl i below)
      name at is;
  values = λ name at sample value is sparse. absurd (no_sparse name at is sparse);
  placed = λ entry there units. subst (λ (e : Entry). HasPlace mounted chain e.name e.key) there.2 (placed there.0 entry there.1);
  ended = each_one who (λ (a : Actor). All (λ (c : EntryProgress). has_ended c ≡ true) a.entries.log) ended;
}

abbrev Answers : Actor → Type 0
Answers a = All (λ (answered : Answered). All (λ (count : ℤ × ℕ). count.1 ≤ tally_units (all_counted all) answered.name count.0) answered.counts) a.deltas.snapshots

nothing_answered : Each all Answers
nothing_answered = each_one who Answers (λ k d below. absurd (omega (arith, below)))

marks : MarksAreTaken 1 mounted all chain
marks = record {
  buckets = λ name at i is. of_the_one mounted letter_a
      (λ n k. is_sparse mounted k ≡ false → i < record_buckets mounted k
      → (mark_of 1 mounted k i ≡ units_taken all n (key_at mounted k i))
      × (mark_of 1 mounted k i ≤ tally_units (all_counted all) n (key_at mounted k i)))
      refl
      (λ even below. below_three
      (λ i. (mark_of 1 mounted 16 i ≡ units_taken all letter_a (key_at mounted 16 i))
      × (mark_of 1 mounted 16 i ≤ tally_units (all_counted all) letter_a (key_at mounted 16 i)))
      (refl, omega arith) (refl, omega arith) (refl, omega arith) i below)
      name at is;
  values = λ name at sample value is sparse. absurd (no_sparse name at is sparse);
  placed = λ t count there. absurd (none_in t there);
  unpacked = λ at there tag e. subst (λ (k : ℕ). field_at mounted k 10 ≡ 0) (here at there) refl;
  packed = λ at i there tag one e.
      subst (λ (k : ℕ). field_at mounted k 10 ≤ max (total_of 1 mounted k i) 65535) (here at there) (omega arith);
  sum = λ name at is. of_the_one mounted letter_a (λ n k. sum_mark_of mounted k ≡ pos 0) refl refl name at is;
  seen = each_one who (λ (a : Actor). All (λ (s : Sighting). s.word ≤ word_at mounted s.at) a.seen.counts)
      (All-nil (λ (s : Sighting). s.word ≤ word_at mounted s.at));
  snapshots = λ id a there lives. nothing_answered id a there lives;
}

-- ---- sums, transit, flags and units

sums : SumsAreAmounts opening.words mounted all chain
sums = record {
  sum = λ name at is. of_the_one mounted letter_a (λ n k. sum_of mounted k ≡ tally_sum (all_summed all) n) refl refl name at is;
  redundant = λ front name at is_chain is. (
    λ there. absurd (nobody front at is_chain there),
    λ absent. of_the_one mounted letter_a (λ n k. field_at mounted k 13 ≡ tally_noted (all_noted all) n) refl refl name at is,
  );
}

transit : TransitIsLocal 1 mounted all
transit at i above = absurd (omega (arith, above))

nobody_set : Contains (false ∷ []) true → ⊥
nobody_set there = only false (λ (b : Bool). b ≡ true → ⊥) (λ e. true≢false (sym e)) true there refl

flags : FlagsAreSet opening.words mounted all
flags = record {
  corrupt = (λ e. absurd (omega (arith, e)), λ set. ⊎_elim (λ e. absurd (omega (arith, e))) (λ there. absurd (nobody_set there)) set);
  full = (λ e. absurd (omega (arith, e)), λ set. ⊎_elim (λ e. absurd (omega (arith, e))) (λ there. absurd (nobody_set there)) set);
  noticed = each_one who (λ (a : Actor). a.seen.corrupt ≡ true → bit_and (word_at mounted 6) 1 ≡ 1) (λ e. absurd (true≢false (sym e)));
  others = refl;
}

-- no delta is running
none_loaded : (at : ℕ) (sum : ℤ) → IsLoaded all at sum → ⊥
none_loaded at sum (a, there, stands) =
    let idle : a.hand.place ≡ Idle = only who (λ (b : Actor). b.hand.place ≡ Idle) refl a there in
    clash at sum (sym idle ∙ stands)
  where
    clash : (at : ℕ) (sum : ℤ) → Idle ≡ SumLoaded at sum → ⊥
    clash at sum e = cc e

-- its sum is 2, and its mark is 0
abbrev IsOneOf : ℤ → Type 0
IsOneOf a = (a ≡ pos 2) ⊎ (a ≡ pos 0)

sum_there : (name : List ℕ) (at : ℕ) (a : ℤ) → IsHistogram mounted chain name at → IsSum mounted all at a → IsOneOf a
sum_there name at a is either =
    of_the_one mounted letter_a (λ n k. IsSum mounted all k a → IsOneOf a) refl known name at is either
  where
    known : IsSum mounted all 16 a → IsOneOf a
    known (inl sum) = inl sum
    known (inr (inl mark)) = inr mark
    known (inr (inr loaded)) = absurd (none_loaded 16 a loaded)

abbrev Small : List ℕ → ℤ → Type 0
Small name a = unsigned_abs a ≤ 2147483648 * all_costs all name

costs_three : (name : List ℕ) (at : ℕ) → IsHistogram mounted chain name at → all_costs all name ≡ 3
costs_three name at is = of_the_one mounted letter_a (λ n k. all_costs all n ≡ 3) refl refl name at is

small : (a : ℤ) → IsOneOf a → unsigned_abs a ≤ 2
small a (inl e) = subst (λ (z : ℤ). unsigned_abs z ≤ 2) (sym e) (omega arith)
small a (inr e) = subst (λ (z : ℤ). unsigned_abs z ≤ 2) (sym e) (omega arith)

near : (a b : ℤ) → IsOneOf a → IsOneOf b → unsigned_abs (a -ℤ b) ≤ 2
near a b (inl x) (inl y) = subst (λ (z : ℤ). unsigned_abs (z -ℤ b) ≤ 2) (sym x) (subst (λ (z : ℤ). unsigned_abs (pos 2 -ℤ z) ≤ 2) (sym y) (omega arith))
near a b (inl x) (inr y) = subst (λ (z : ℤ). unsigned_abs (z -ℤ b) ≤ 2) (sym x) (subst (λ (z : ℤ). unsigned_abs (pos 2 -ℤ z) ≤ 2) (sym y) (omega arith))
near a b (inr x) (inl y) = subst (λ (z : ℤ). unsigned_abs (z -ℤ b) ≤ 2) (sym x) (subst (λ (z : ℤ). unsigned_abs (pos 0 -ℤ z) ≤ 2) (sym y) (omega arith))
near a b (inr x) (inr y) = subst (λ (z : ℤ). unsigned_abs (z -ℤ b) ≤ 2) (sym x) (subst (λ (z : ℤ). unsigned_abs (pos 0 -ℤ z) ≤ 2) (sym y) (omega arith))

units : UnitsAreKept mounted all chain
units = record {
  pool = refl;
  counted = λ name.
      let covered = by_name letter_a name (all_counted all) 3 (all_of_three (λ (e : Entry). e.name ≡ letter_a) (one 1) (one 1) (one 0) refl refl refl) (omega arith) in
      omega (arith, covered);
  redundant = λ name at is. of_the_one mounted letter_a (λ n k. field_at mounted k 13 ≤ all_costs all n) refl (omega arith) name at is;
  sums = λ name at a is sum.
      let e = costs_three name at is in let f = small a (sum_there name at a is sum) in omega (arith, e, f);
  differences = λ name at a b is first second.
      let e = costs_three name at is in
      let f = near a b (sum_there name at a is first) (sum_there name at b is second) in omega (arith, e, f);
}

pub mounted_is_consistent : MountedIsConsistent
mounted_is_consistent = record {
  chain = chain;
  list_is_chain = list;
  records_hold = records;
  totals_are_counted = totals;
  marks_are_taken = marks;
  sums_are_amounts = sums;
  transit_is_local = transit;
  flags_are_set = flags;
  units_are_kept = units;
}
