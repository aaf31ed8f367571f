-- What an index of samples has of one histogram: all of its samples that were visited, each once.
use Rattle.std.proofs.Common.{◌≡◌, ◌≢◌, ℕ, ◌+◌, ◌-◌, ◌*◌, ◌/◌, ◌%◌, ◌^◌, ◌<◌, ◌≤◌, ◌==◌, if◌then◌else◌, Bool, true, false, ℤ, pos, negsuc, List, [], ◌∷◌, length, map, get_or, slice_index, suc, true≢false, Some, None, inl, inr, refl, sym, ap, subst, ◌∙◌, arith}
use Rattle.std.specs.Prelude.{take}
use Rattle.std.specs.Int.{cast_signed, cast_unsigned, w64}
use Rattle.std.specs.List.{All, AllByRecursion, AllPairs, Contains}
use mathlib.Core.Logic.{dite}
use native.Mathlib.Decide.{ℕ_discrete}
use Rattle.std.proofs.Math.Seq.{take-length}
use Rattle.std.proofs.lemmas.List.{get_or-take, get_or_default, length-map, length-take-le}
use Rattle.segment_promises.specs.Values.{NoRepeats}
use Rattle.std.proofs.lemmas.Bool.{ltb-true}
use Rattle.std.proofs.lemmas.List.Elements.{All-cons, All-contains, All-contains_itself, All-head, All-nil, All-tail}
use Rattle.bucket_ranges.specs.Reading.{is_i32}
use Rattle.segment_machine.specs.declared.seen.Seen.{Seen}
use Rattle.segment_machine.specs.Made.{SawSample}
use Rattle.segment_machine.proofs.Values.{value_word}
use Rattle.segment_promises.proofs.FirstValues.{Shows}
use Rattle.segment_promises.proofs.Growing.{grows_not}
use Rattle.segment_promises.specs.Onward.{Grows}
use Rattle.list_index.specs.Firsts.{Met, met_in}
use Rattle.list_index.specs.Groups.{group_of}
use Rattle.list_index.proofs.Meeting.{in_group, of_group, pairs_in_group}
use Rattle.live_segment.specs.declared.list.index.KeyKind.TheVariants as kind
use Rattle.live_segment.specs.declared.list.index.RecordIndex.{RecordIndex}
use Rattle.live_segment.specs.List.Keys.{HasLookedForSample, sample_key, seen_sample, seen_word}
use Rattle.live_segment.specs.List.IndexedValues.{AreOwn, HasPassedAll, own_samples}
use Rattle.live_segment.proofs.lemmas.List.Indexed.{indexed_still, keyed}
use Rattle.live_segment.proofs.lemmas.List.Keyed.{sample_some, seen_is, was_seen, word_is}

-- ---- which group a sample is of

-- the word of a value is near 0, from below or above
near_zero : (value : ℤ) → is_i32 value ≡ true → (cast_unsigned w64 value + 2147483648) % 2 ^ 64 < 4294967296
near_zero (pos n) is = let low = ltb-true n 2147483648 is in omega (arith, low)
near_zero (negsuc n) is = let low = ltb-true n 2147483648 is in omega (arith, low)

-- a sample's key is of the group of its histogram
pub group_is : (histogram : ℕ) (value : ℤ) → histogram < 2 ^ 32 → is_i32 value ≡ true → group_of (sample_key histogram (cast_unsigned w64 value)) ≡ histogram
group_is histogram value small is = let near = near_zero value is in omega (arith, near, small)

-- ---- what was seen of a record

module _ (seen : Seen) (reference at : ℕ) (looked : HasLookedForSample seen at) where
  abbrev word : ℕ
  word = seen_word seen (at + 5)

  abbrev number : ℤ
  number = cast_signed w64 word

  by_word : seen_word seen (at + 2) ≡ 3 → seen_word seen (at + 4) ≡ reference → (b : Bool) → is_i32 number ≡ b → Shows seen reference at
  by_word tagged of true fits = dite (ℕ_discrete word (cast_unsigned w64 number))
      (λ same. inl (
        number,
        (
          seen_is seen (at + 2) looked.tag ∙ ap Some tagged,
          seen_is seen (at + 4) (looked.histogram tagged) ∙ ap Some of,
          seen_is seen (at + 5) (looked.value tagged) ∙ ap Some same,
          fits,
        ),
      ))
      (λ apart. inr (λ value small.
      inr (inr (
        word,
        seen_is seen (at + 5) (looked.value tagged),
        (λ same. apart (same ∙ ap (cast_unsigned w64) (sym (ap (cast_signed w64) same ∙ value_word value small)))),
      ))))
  by_word tagged of false none = inr (λ value small.
      inr (inr (
        word,
        seen_is seen (at + 5) (looked.value tagged),
        (λ same. true≢false (sym small ∙ (sym (ap (λ (v : ℤ). is_i32 v) (ap (cast_signed w64) same ∙ value_word value small)) ∙ none))),
      )))

  -- which value a record is a sample of, or that it is none
  pub shows_looked : Shows seen reference at
  shows_looked = dite (ℕ_discrete (seen_word seen (at + 2)) 3)
      (λ tagged. dite (ℕ_discrete (seen_word seen (at + 4)) reference)
      (λ of. by_word tagged of (is_i32 number) refl)
      (λ other. inr (λ value fits. inr (inl (seen_word seen (at + 4), seen_is seen (at + 4) (looked.histogram tagged), other)))))
      (λ other. inr (λ value fits. inl (seen_word seen (at + 2), seen_is seen (at + 2) looked.tag, other)))

pub shows_all : (seen : Seen) (reference : ℕ) (list : List ℕ) → All (HasLookedForSample seen) list → AllByRecursion (Shows seen reference) list
shows_all seen reference [] looked = tt
shows_all seen reference (x ∷ xs) looked = (
  shows_looked seen reference x (All-head (HasLookedForSample seen) x xs looked),
  shows_all seen reference xs (All-tail (HasLookedForSample seen) x xs looked),
)

-- ---- of one histogram

numbers_are : (seen : Seen) (list : List ℕ) → map (λ (m : Met). m.0) (map (keyed kind.Sample seen) list) ≡ list
numbers_are seen [] = refl
numbers_are seen (x ∷ xs) = ap (λ (l : List ℕ). x ∷ l) (numbers_are seen xs)

-- what holds for each that was visited by its key holds for it by what was seen
module _ (P : ℕ → Type 0) (seen : Seen) (group : ℕ) where
  abbrev IfKeyed : Met → Type 0
  IfKeyed m = (key : ℕ) → m.1 ≡ Some key → group_of key ≡ group → P m.0

  abbrev IfSample : ℕ → Type 0
  IfSample at = (key : ℕ) → seen_sample seen at ≡ Some key → group_of key ≡ group → P at

  each_keyed : (list : List ℕ) → All IfKeyed (map (keyed kind.Sample seen) list) → All IfSample list
  each_keyed [] all = All-nil IfSample
  each_keyed (x ∷ xs) all =
      All-cons IfSample x xs (All-head IfKeyed (keyed kind.Sample seen x) (map (keyed kind.Sample seen) xs) all)
      (each_keyed xs (All-tail IfKeyed (keyed kind.Sample seen x) (map (keyed kind.Sample seen) xs) all))

-- a group has no more than were visited
few_in : (met : List Met) (group : ℕ) → length (met_in met group) ≤ length met
few_in [] group = omega arith
few_in ((at, None) ∷ rest) group = let few = few_in rest group in omega (arith, few)
few_in ((at, Some own) ∷ rest) group = by (group_of own == group) (few_in rest group)
  where
    by : (b : Bool) → length (met_in rest group) ≤ length rest → length (if b then at ∷ met_in rest group else met_in rest group) ≤ suc (length rest)
    by true few = omega (arith, few)
    by false few = omega (arith, few)

-- on a list without repeats, two places have two records
apart_chain : (chain : List ℕ) → NoRepeats chain → AllPairs (λ x y. x ≢ y) chain
apart_chain chain once i j d lt inside same =
    once (suc i) (suc j) (omega (arith, lt)) (omega (arith, inside))
    (get_or_default chain i 0 d (omega (arith, lt, inside)) ∙ (same ∙ get_or_default chain j d 0 inside))

-- an element of a list without repeats is not among those before it
new_behind : (list : List ℕ) → AllPairs (λ x y. x ≢ y) list → (i at : ℕ) → i < length list → get_or list i 0 ≡ at → ¬ (Contains (take i list) at)
new_behind list apart i at inside is (k, low, here) =
    let long = length-take-le i list (omega (arith, inside)) in
    let below : k < i = omega (arith, low, long) in
    apart k i 0 below inside (sym (get_or-take i list k 0 below) ∙ (get_or_default (take i list) k 0 at low ∙ (here ∙ sym is)))

module _ (size : ℕ) (seen : Seen) (index : RecordIndex) (has : HasPassedAll size seen index) where
  whole : take index.place.given seen.chain ≡ seen.chain
  whole = ap (λ (n : ℕ). take n seen.chain) has.all ∙ take-length seen.chain

  pub all_looked_for : All (HasLookedForSample seen) seen.chain
  all_looked_for = subst (All (HasLookedForSample seen)) whole has.indexed.looked

  pub looked_at : (at : ℕ) → Contains seen.chain at → HasLookedForSample seen at
  looked_at at met = All-contains (HasLookedForSample seen) seen.chain at all_looked_for met

  module _ (histogram : ℕ) where
    samples_are : own_samples index histogram ≡ met_in (map (keyed kind.Sample seen) seen.chain) histogram
    samples_are = has.indexed.holds.all (has.indexed.grouping refl) histogram
        ∙ ap (λ (l : List ℕ). met_in (map (keyed kind.Sample seen) l) histogram) whole

    -- what holds for all that were visited holds for them
    pub said_of_own : (P : ℕ → Type 0) → All P seen.chain → All P (own_samples index histogram)
    said_of_own P all = subst (All P) (sym samples_are)
        (in_group P (map (keyed kind.Sample seen) seen.chain) histogram (subst (All P) (sym (numbers_are seen seen.chain)) all))

    -- they were visited, and lie within the segment
    pub own_met : All (Contains seen.chain) (own_samples index histogram)
    own_met = said_of_own (Contains seen.chain) (All-contains_itself seen.chain)

    pub own_within : All (λ at. (16 ≤ at) × (at + 5 ≤ size)) (own_samples index histogram)
    own_within = said_of_own (λ at. (16 ≤ at) × (at + 5 ≤ size)) (subst (All (λ at. (16 ≤ at) × (at + 5 ≤ size))) whole has.indexed.come.within)

    -- they are no more than the records of the list
    own_few : length (own_samples index histogram) ≤ length seen.chain
    own_few =
        let own = ap length samples_are in
        let few = few_in (map (keyed kind.Sample seen) seen.chain) histogram in
        let all = length-map seen.chain (keyed kind.Sample seen) in omega (arith, own, few, all)

    -- none is among them twice
    own_apart : AllPairs (λ x y. x ≢ y) seen.chain → AllPairs (λ x y. x ≢ y) (own_samples index histogram)
    own_apart apart = subst (AllPairs (λ x y. x ≢ y)) (sym samples_are)
        (pairs_in_group (λ x y. x ≢ y) (map (keyed kind.Sample seen) seen.chain) histogram
        (subst (AllPairs (λ x y. x ≢ y)) (sym (numbers_are seen seen.chain)) apart))

    -- each sample that was visited is among them
    pub own_each : histogram < 2 ^ 32 → (value : ℤ) (sample : ℕ) → Contains seen.chain sample → SawSample seen histogram value sample
        → Contains (own_samples index histogram) sample
    own_each small value sample met (tag, of, word, fits) =
        let keyed_all = each_keyed (Contains (own_samples index histogram)) seen histogram seen.chain
        (of_group (Contains (own_samples index histogram)) (map (keyed kind.Sample seen) seen.chain) histogram
        (subst (All (Contains (own_samples index histogram))) samples_are (All-contains_itself (own_samples index histogram)))) in
        let key : seen_sample seen sample ≡ Some (sample_key histogram (cast_unsigned w64 value)) =
        sample_some seen sample (word_is seen (sample + 2) 3 tag)
        ∙ (λ i. Some (sample_key (word_is seen (sample + 4) histogram of i) (word_is seen (sample + 5) (cast_unsigned w64 value) word i))) in
        All-contains (λ at. (key : ℕ) → seen_sample seen at ≡ Some key → group_of key ≡ histogram → Contains (own_samples index histogram) at) seen.chain sample
        keyed_all met (sample_key histogram (cast_unsigned w64 value)) key (group_is histogram value small fits)

-- it still has them, if only more of the records was seen
pub passed_still : (size : ℕ) (a b : Seen) (index : RecordIndex) → b.chain ≡ a.chain → Grows a.words b.words → HasPassedAll size a index → HasPassedAll size b index
passed_still size a b index chain words has = record {
  indexed = indexed_still kind.Sample a b words size index (subst (Grows a.chain) (sym chain) (grows_not a.chain)) has.indexed;
  all = has.all ∙ ap length (sym chain);
  few = subst (λ (l : List ℕ). 5 * length l + 16 ≤ size) (sym chain) has.few;
}

-- a record that it sees to be a sample it had already seen to be one, if it had looked at it
pub sample_was : (a b : Seen) → Grows a.words b.words → (histogram : ℕ) (value : ℤ) (at : ℕ) → HasLookedForSample a at → SawSample b histogram value at
    → SawSample a histogram value at
sample_was a b words histogram value at looked (tag, of, valued, small) =
    let tag_was = was_seen a b words (at + 2) 3 looked.tag tag in
    let tagged : seen_word a (at + 2) ≡ 3 = word_is a (at + 2) 3 tag_was in (
      tag_was,
      was_seen a b words (at + 4) histogram (looked.histogram tagged) of,
      was_seen a b words (at + 5) (cast_unsigned w64 value) (looked.value tagged) valued,
      small,
    )

-- ---- by their places

module _ (size : ℕ) (seen : Seen) (histogram : ℕ) (samples : List ℕ) (own : AreOwn size seen histogram samples) where
  pub met_own : (i : ℕ) → i < length samples → Contains seen.chain (slice_index samples i)
  met_own i low = let (index, has, are) = own in subst (All (Contains seen.chain)) (sym are) (own_met size seen index has histogram) i 0 low

  pub within_own : (i : ℕ) → i < length samples → (16 ≤ slice_index samples i) × (slice_index samples i + 5 ≤ size)
  within_own i low =
      let (index, has, are) = own in
      subst (All (λ at. (16 ≤ at) × (at + 5 ≤ size))) (sym are) (own_within size seen index has histogram) i 0 low

  -- they fit in the segment, as all records of the list do
  pub few_own : length samples ≤ (size - 16) / 5
  few_own =
      let (index, has, are) = own in
      let all = ap length are in
      let few = own_few size seen index has histogram in
      let fit = has.few in omega (arith, all, few, fit)

  -- each differs from those before it
  pub new_own : NoRepeats seen.chain → (i : ℕ) → i < length samples → ¬ (Contains (take i samples) (slice_index samples i))
  new_own once i low =
      let (index, has, are) = own in
      new_behind samples (subst (AllPairs (λ x y. x ≢ y)) (sym are) (own_apart size seen index has histogram (apart_chain seen.chain once)))
      i (slice_index samples i) low refl
