-- Sums of lists of numbered readings.
use Rattle.std.proofs.Common.{◌≡◌, ◌&&◌, is_some, ℕ, ◌+◌, ◌+ℤ◌, List, [], ◌∷◌, ◌++◌, length, refl, ap, sym, subst, ◌∙◌, arith}
use Rattle.std.specs.List.{list_any}
use Rattle.std.specs.List.Sorted.{IsPermutation}
use Rattle.std.proofs.lemmas.Grind.{flat_map-append}
use Rattle.std.proofs.lemmas.List.{length-append, append-nil}
use Rattle.std.proofs.lemmas.List.Sums.{sum_by-append}
use Rattle.std.proofs.lemmas.List.Sorted.{list_any-IsPermutation, sum_by-IsPermutation, length_permutation}
use Rattle.bucket_ranges.specs.declared.spec.Spec.{Spec}
use Rattle.bucket_ranges.specs.Reading.{Reading}
use Rattle.reading_sums.specs.declared.notes.Notes.{Notes}
use Rattle.reading_sums.specs.declared.sums.Sums.{Sums}
use Rattle.reading_sums.specs.Addends.{notes_of_one}
use Rattle.reading_sums.specs.Notes.{AreNotesOfBoth, one_if}
use Rattle.reading_sums.specs.Totals.{Part, Quantity, SameTotals, has_feature, total, share_of, is_of}
use Rattle.reading_sums.specs.Sums.{AreNotesIn, HaveSameSum, IsSumOver, IsSumOfBoth, parts_in, parts_of_one}
use Rattle.reading_sums.specs.Views.{parts_of}
use Rattle.reading_sums.proofs.Integers.{isum, isum-flat_map, isum-permutation, any-flat_map}
use Rattle.reading_sums.proofs.Totals.{same-append, same-equal, same-trans, same-sym}

-- ---- in any order

total-isum : (quantity : Quantity) (name : List ℕ) (spec : Spec) (parts : List Part) → total quantity name spec parts ≡ isum (share_of quantity name spec) parts
total-isum quantity name spec [] = refl
total-isum quantity name spec (part ∷ rest) = ap (λ n. share_of quantity name spec part +ℤ n) (total-isum quantity name spec rest)

-- parts in another order
pub same-permutation : (a b : List Part) → IsPermutation a b → SameTotals a b
same-permutation a b moved = record {
  totals = λ quantity name spec. total-isum quantity name spec a
      ∙ (isum-permutation (share_of quantity name spec) a b moved ∙ sym (total-isum quantity name spec b));
  features = λ feature name spec. list_any-IsPermutation (λ part. is_of name spec part && has_feature feature part) a b moved;
}

-- readings in another order
pub readings-permutation : (xs ys : List (ℕ × Reading)) → IsPermutation xs ys → SameTotals (parts_in xs) (parts_in ys)
readings-permutation xs ys moved = record {
  totals = λ quantity name spec.
      let share = share_of quantity name spec in
      (total-isum quantity name spec (parts_in xs) ∙ isum-flat_map share parts_of_one xs)
      ∙ (isum-permutation (λ numbered. isum share (parts_of_one numbered)) xs ys moved
      ∙ sym (total-isum quantity name spec (parts_in ys) ∙ isum-flat_map share parts_of_one ys));
  features = λ feature name spec.
      let test = λ (part : Part). is_of name spec part && has_feature feature part in
      any-flat_map test parts_of_one xs
      ∙ (list_any-IsPermutation (λ numbered. list_any test (parts_of_one numbered)) xs ys moved ∙ sym (any-flat_map test parts_of_one ys));
}

pub notes-permutation : (xs ys : List (ℕ × Reading)) (notes : Notes) → IsPermutation xs ys → AreNotesIn xs notes → AreNotesIn ys notes
notes-permutation xs ys notes moved are = record {
  images = are.images ∙ sym (length_permutation xs ys moved);
  full = are.full ∙ sym (sum_by-IsPermutation (λ numbered. one_if numbered.1.full) xs ys moved);
  corrupt = are.corrupt ∙ sym (sum_by-IsPermutation (λ numbered. one_if numbered.1.corrupt) xs ys moved);
  stopped = are.stopped ∙ sym (sum_by-IsPermutation (λ numbered. one_if (is_some numbered.1.stopped)) xs ys moved);
  bad = are.bad ∙ sym (sum_by-IsPermutation (λ numbered. length numbered.1.bad) xs ys moved);
}

-- ---- one list after the other

pub parts-both : (xs ys : List (ℕ × Reading)) (a b c : List Part) → SameTotals a (parts_in xs) → SameTotals b (parts_in ys)
    → SameTotals c (a ++ b) → SameTotals c (parts_in (xs ++ ys))
parts-both xs ys a b c first second both =
    same-trans c (a ++ b) (parts_in (xs ++ ys)) both
    (same-trans (a ++ b) (parts_in xs ++ parts_in ys) (parts_in (xs ++ ys))
    (same-append a (parts_in xs) b (parts_in ys) first second)
    (same-equal (parts_in xs ++ parts_in ys) (parts_in (xs ++ ys)) (sym (flat_map-append parts_of_one xs ys))))

-- those of one
pub parts-one : (one : ℕ × Reading) (a : List Part) → SameTotals a (parts_of_one one) → SameTotals a (parts_in (one ∷ []))
parts-one one a same = let P : List Part → Type 0 = λ z. SameTotals a z in subst P (sym (append-nil (parts_of_one one))) same

pub notes-both : (xs ys : List (ℕ × Reading)) (a b c : Notes) → AreNotesIn xs a → AreNotesIn ys b → AreNotesOfBoth a b c
    → AreNotesIn (xs ++ ys) c
notes-both xs ys a b c first second both = record {
  images = both.images ∙ ((λ i. first.images i + second.images i) ∙ sym (length-append xs ys));
  full = both.full ∙ ((λ i. first.full i + second.full i) ∙ sym (sum_by-append (λ numbered. one_if numbered.1.full) xs ys));
  corrupt = both.corrupt ∙ ((λ i. first.corrupt i + second.corrupt i) ∙ sym (sum_by-append (λ numbered. one_if numbered.1.corrupt) xs ys));
  stopped = both.stopped ∙ ((λ i. first.stopped i + second.stopped i) ∙ sym (sum_by-append (λ numbered. one_if (is_some numbered.1.stopped)) xs ys));
  bad = both.bad ∙ ((λ i. first.bad i + second.bad i) ∙ sym (sum_by-append (λ numbered. length numbered.1.bad) xs ys));
}

pub notes-one : (number : ℕ) (reading : Reading) → AreNotesIn ((number, reading) ∷ []) (notes_of_one reading)
notes-one number reading = record { images = refl; full = omega arith; corrupt = omega arith; stopped = omega arith; bad = omega arith }

-- ---- laws

pub notes-known : (xs : List (ℕ × Reading)) (a b : Notes) → AreNotesIn xs a → AreNotesIn xs b → a ≡ b
notes-known xs a b first second = λ i. record {
  images = (first.images ∙ sym second.images) i;
  full = (first.full ∙ sym second.full) i;
  corrupt = (first.corrupt ∙ sym second.corrupt) i;
  stopped = (first.stopped ∙ sym second.stopped) i;
  bad = (first.bad ∙ sym second.bad) i;
}

pub sum-known : (xs : List (ℕ × Reading)) (a b : Sums) → IsSumOver xs a → IsSumOver xs b → HaveSameSum a b
sum-known xs a b first second = record {
  hists = same-trans (parts_of a) (parts_in xs) (parts_of b) first.hists (same-sym (parts_of b) (parts_in xs) second.hists);
  notes = notes-known xs a.notes b.notes first.notes second.notes;
}

pub notes-sum : (xs ys : List (ℕ × Reading)) (a b c : Notes) → AreNotesIn xs a → AreNotesIn ys b → AreNotesIn (xs ++ ys) c
    → AreNotesOfBoth a b c
notes-sum xs ys a b c first second both = record {
  images = both.images ∙ (length-append xs ys ∙ sym (λ i. first.images i + second.images i));
  full = both.full ∙ (sum_by-append (λ numbered. one_if numbered.1.full) xs ys ∙ sym (λ i. first.full i + second.full i));
  corrupt = both.corrupt ∙ (sum_by-append (λ numbered. one_if numbered.1.corrupt) xs ys ∙ sym (λ i. first.corrupt i + second.corrupt i));
  stopped = both.stopped ∙ (sum_by-append (λ numbered. one_if (is_some numbered.1.stopped)) xs ys ∙ sym (λ i. first.stopped i + second.stopped i));
  bad = both.bad ∙ (sum_by-append (λ numbered. length numbered.1.bad) xs ys ∙ sym (λ i. first.bad i + second.bad i));
}

pub sum-both : (xs ys : List (ℕ × Reading)) (a b c : Sums) → IsSumOver xs a → IsSumOver ys b → IsSumOfBoth a b c → IsSumOver (xs ++ ys) c
sum-both xs ys a b c first second both = record {
  hists = parts-both xs ys (parts_of a) (parts_of b) (parts_of c) first.hists second.hists both.hists;
  notes = notes-both xs ys a.notes b.notes c.notes first.notes second.notes both.notes;
}

pub both-sum : (xs ys : List (ℕ × Reading)) (a b c : Sums) → IsSumOver xs a → IsSumOver ys b → IsSumOver (xs ++ ys) c → IsSumOfBoth a b c
both-sum xs ys a b c first second both = record {
  hists = same-trans (parts_of c) (parts_in (xs ++ ys)) (parts_of a ++ parts_of b) both.hists
      (same-trans (parts_in (xs ++ ys)) (parts_in xs ++ parts_in ys) (parts_of a ++ parts_of b)
      (same-equal (parts_in (xs ++ ys)) (parts_in xs ++ parts_in ys) (flat_map-append parts_of_one xs ys))
      (same-sym (parts_of a ++ parts_of b) (parts_in xs ++ parts_in ys)
      (same-append (parts_of a) (parts_in xs) (parts_of b) (parts_in ys) first.hists second.hists)));
  notes = notes-sum xs ys a.notes b.notes c.notes first.notes second.notes both.notes;
}
