-- Addends that are added up in turn.
use Rattle.std.proofs.Common.{◌≡◌, ℕ, ◌+◌, List, [], ◌∷◌, ◌++◌, map, sum_by, refl, ap, sym, subst, ◌∙◌, arith, append_assoc}
use Rattle.std.proofs.lemmas.List.{map-append, append-nil}
use Rattle.std.proofs.lemmas.List.Sums.{sum_by-append, sum_by-cons}
use Rattle.reading_sums.specs.declared.sums.Sums.{Sums}
use Rattle.reading_sums.specs.Addends.{Addend, AddsAddend, AddsNumbered, IsSumInTurn, addend_of, addend_of_reading, no_addend, parts_in_turn}
use Rattle.bucket_ranges.specs.Reading.{Histogram, Reading}
use Rattle.reading_sums.specs.Notes.{AreNotesOfBoth}
use Rattle.reading_sums.specs.Sums.{IsSumOfBoth}
use Rattle.reading_sums.specs.Totals.{Part, SameTotals, part_from, raised_part}
use Rattle.reading_sums.specs.Views.{parts_of}
use Rattle.reading_sums.proofs.RaisedSums.{not-raised, same-raised}
use Rattle.reading_sums.proofs.Totals.{same-append, same-equal, same-trans}
use Rattle.sum_commands.specs.Inputs.{images_of}

-- ---- the parts of addends that come after others

twice-raised : (by first : ℕ) (parts : List Part) → map (raised_part by) (map (raised_part first) parts) ≡ map (raised_part (first + by)) parts
twice-raised by first [] = refl
twice-raised by first (part ∷ rest) =
    let e : (part.least + first) + by ≡ part.least + (first + by) = omega arith in
    λ i. (record part { least = e i }) ∷ twice-raised by first rest i

turn-raised : (by first : ℕ) (addends : List Addend) → map (raised_part by) (parts_in_turn first addends) ≡ parts_in_turn (first + by) addends
turn-raised by first [] = refl
turn-raised by first (addend ∷ rest) =
    let e : (first + addend.notes.images) + by ≡ (first + by) + addend.notes.images = omega arith in
    let behind : map (raised_part by) (parts_in_turn (first + addend.notes.images) rest) ≡ parts_in_turn ((first + by) + addend.notes.images) rest =
    turn-raised by (first + addend.notes.images) rest ∙ ap (λ n. parts_in_turn n rest) e in
    map-append (raised_part by) (map (raised_part first) addend.parts) (parts_in_turn (first + addend.notes.images) rest)
    ∙ (λ i. twice-raised by first addend.parts i ++ behind i)

turn-append : (first : ℕ) (xs ys : List Addend) → parts_in_turn first (xs ++ ys) ≡ parts_in_turn first xs ++ parts_in_turn (first + images_of xs) ys
turn-append first [] ys = let e : first ≡ first + 0 = omega arith in ap (λ n. parts_in_turn n ys) e
turn-append first (x ∷ xs) ys =
    let more : images_of (x ∷ xs) ≡ x.notes.images + images_of xs = sum_by-cons (λ (addend : Addend). addend.notes.images) x xs in
    let e : (first + x.notes.images) + images_of xs ≡ first + images_of (x ∷ xs) = omega (arith, more) in
    ap (λ z. map (raised_part first) x.parts ++ z) (turn-append (first + x.notes.images) xs ys ∙ ap (λ n. parts_in_turn (first + x.notes.images) xs ++ parts_in_turn n ys) e)
    ∙ sym (append_assoc (map (raised_part first) x.parts) (parts_in_turn (first + x.notes.images) xs) (parts_in_turn (first + images_of (x ∷ xs)) ys))

-- ---- sums of addends

-- an addend has what addends have in turn
record IsAddendOf (addends : List Addend) (addend : Addend) : Type 0 where
  hists : SameTotals addend.parts (parts_in_turn 0 addends)
  images : addend.notes.images ≡ sum_by (λ (one : Addend). one.notes.images) addends
  full : addend.notes.full ≡ sum_by (λ (one : Addend). one.notes.full) addends
  corrupt : addend.notes.corrupt ≡ sum_by (λ (one : Addend). one.notes.corrupt) addends
  stopped : addend.notes.stopped ≡ sum_by (λ (one : Addend). one.notes.stopped) addends
  bad : addend.notes.bad ≡ sum_by (λ (one : Addend). one.notes.bad) addends

behind-others : (xs ys : List Addend) (more : Addend) (a c : Sums) → IsSumInTurn xs a → IsAddendOf ys more → AddsAddend more a c → IsSumInTurn (xs ++ ys) c
behind-others xs ys more a c first second both =
    let by : ℕ = a.notes.images in
    let turn : parts_in_turn 0 xs ++ map (raised_part by) (parts_in_turn 0 ys) ≡ parts_in_turn 0 (xs ++ ys) =
    ap (λ z. parts_in_turn 0 xs ++ z) (turn-raised by 0 ys ∙ ap (λ n. parts_in_turn (0 + n) ys) first.images) ∙ sym (turn-append 0 xs ys) in record {
      hists = same-trans (parts_of c) (parts_of a ++ map (raised_part by) more.parts) (parts_in_turn 0 (xs ++ ys)) both.hists
          (same-trans (parts_of a ++ map (raised_part by) more.parts) (parts_in_turn 0 xs ++ map (raised_part by) (parts_in_turn 0 ys)) (parts_in_turn 0 (xs ++ ys))
          (same-append (parts_of a) (parts_in_turn 0 xs) (map (raised_part by) more.parts) (map (raised_part by) (parts_in_turn 0 ys))
          first.hists (same-raised more.parts (parts_in_turn 0 ys) by second.hists))
          (same-equal (parts_in_turn 0 xs ++ map (raised_part by) (parts_in_turn 0 ys)) (parts_in_turn 0 (xs ++ ys)) turn));
      images = both.notes.images ∙ ((λ i. first.images i + second.images i) ∙ sym (sum_by-append (λ (one : Addend). one.notes.images) xs ys));
      full = both.notes.full ∙ ((λ i. first.full i + second.full i) ∙ sym (sum_by-append (λ (one : Addend). one.notes.full) xs ys));
      corrupt = both.notes.corrupt ∙ ((λ i. first.corrupt i + second.corrupt i) ∙ sym (sum_by-append (λ (one : Addend). one.notes.corrupt) xs ys));
      stopped = both.notes.stopped ∙ ((λ i. first.stopped i + second.stopped i) ∙ sym (sum_by-append (λ (one : Addend). one.notes.stopped) xs ys));
      bad = both.notes.bad ∙ ((λ i. first.bad i + second.bad i) ∙ sym (sum_by-append (λ (one : Addend). one.notes.bad) xs ys));
    }

alone : (addend : Addend) → IsAddendOf (addend ∷ []) addend
alone addend =
    let parts : addend.parts ≡ parts_in_turn 0 (addend ∷ []) = sym (append-nil (map (raised_part 0) addend.parts) ∙ not-raised addend.parts) in record {
      hists = same-equal addend.parts (parts_in_turn 0 (addend ∷ [])) parts;
      images = omega arith;
      full = omega arith;
      corrupt = omega arith;
      stopped = omega arith;
      bad = omega arith;
    }

-- one more addend, after others
pub next-in-turn : (xs : List Addend) (addend : Addend) (a c : Sums) → IsSumInTurn xs a → AddsAddend addend a c → IsSumInTurn (xs ++ addend ∷ []) c
next-in-turn xs addend a c first more = behind-others xs (addend ∷ []) addend a c first (alone addend) more

-- the sum of addends, after others
pub both-in-turn : (xs ys : List Addend) (a b c : Sums) → IsSumInTurn xs a → IsSumInTurn ys b → AddsAddend (addend_of b) a c → IsSumInTurn (xs ++ ys) c
both-in-turn xs ys a b c first second more =
    behind-others xs ys (addend_of b) a c first
    (record {
      hists = second.hists;
      images = second.images;
      full = second.full;
      corrupt = second.corrupt;
      stopped = second.stopped;
      bad = second.bad;
    }) more

-- ---- what the calls of sums give

-- the parts of another sum were raised by how many images there were, and appended
pub raised-behind : (by : ℕ) (more raised before after : Sums) → by ≡ before.notes.images → parts_of raised ≡ map (raised_part by) (parts_of more)
    → raised.notes ≡ more.notes → IsSumOfBoth before raised after → AddsAddend (addend_of more) before after
raised-behind by more raised before after images parts notes both = record {
  hists = subst (λ z. SameTotals (parts_of after) (parts_of before ++ z)) (parts ∙ ap (λ n. map (raised_part n) (parts_of more)) images) both.hists;
  notes = subst (λ z. AreNotesOfBoth before.notes z after.notes) notes both.notes;
}

pub hists-raised : (by : ℕ) (hists : List Histogram) → map (part_from by) hists ≡ map (raised_part by) (map (part_from 0) hists)
hists-raised by [] = refl
hists-raised by (hist ∷ rest) =
    let e : by ≡ 0 + by = omega arith in λ i. (record (part_from by hist) { least = e i }) ∷ hists-raised by rest i

-- a reading was added that is numbered by how many images there were
pub numbered-behind : (number : ℕ) (reading : Reading) (before after : Sums) → number ≡ before.notes.images → AddsNumbered (number, reading) before after
    → AddsAddend (addend_of_reading reading) before after
numbered-behind number reading before after images more = record {
  hists = subst (λ z. SameTotals (parts_of after) (parts_of before ++ z))
      (hists-raised number reading.hists ∙ ap (λ n. map (raised_part n) (map (part_from 0) reading.hists)) images) more.hists;
  notes = more.notes;
}

-- nothing was added
pub nothing-behind : (sums : Sums) → AddsAddend no_addend sums sums
nothing-behind sums = record {
  hists = same-equal (parts_of sums) (parts_of sums ++ []) (sym (append-nil (parts_of sums)));
  notes = record { images = omega arith; full = omega arith; corrupt = omega arith; stopped = omega arith; bad = omega arith };
}
