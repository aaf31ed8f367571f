-- What all parts of a list come to together: what the list comes to.
use Rattle.std.proofs.Common.{◌≡◌, ℕ, zero, suc, ◌+◌, ◌%◌, ◌<◌, ◌≤◌, Bool, true, false, cond, List, [], ◌∷◌, ◌++◌, length, refl, sym, ap, ◌∙◌, subst, arith, eqb-true}
use Rattle.std.specs.Prelude.{◌==◌}
use Rattle.std.specs.List.{flat_map, range_with_len}
use Rattle.std.proofs.lemmas.Bool.Decides.{nat_tests}
use Rattle.segment_invariant.proofs.Lists.Sums.{IsAddition, IsTotal}
use Rattle.persist_commands.specs.Parts.{part_from, part_of}

-- ---- one element more

-- the first element is in the part of its number
pub part_first : {X : Type 0} (first parts part : ℕ) (x : X) (xs : List X) (b : Bool) → (first % parts == part) ≡ b
    → part_from first parts part (x ∷ xs) ≡ cond b (x ∷ part_from (first + 1) parts part xs) (part_from (first + 1) parts part xs)
part_first first parts part x xs true is = rw is refl
part_first first parts part x xs false is = rw is refl

module _ {A M : Type 0} (same : M → M → Type 0) (add : M → M → M) (total : List A → M) (is : IsAddition same add) (sums : IsTotal add total) where
  abbrev all_parts : ℕ → ℕ → List ℕ → List A → List A
  all_parts first parts ks xs = flat_map (λ part. part_from first parts part xs) ks

  equal : (x y : M) → x ≡ y → same x y
  equal x y e = subst (same x) e (is.itself x)

  -- parts that do not have the first element are those of the others
  without : (first parts low n : ℕ) (x : A) (xs : List A) → first % parts < low
      → all_parts first parts (range_with_len low n) (x ∷ xs) ≡ all_parts (first + 1) parts (range_with_len low n) xs
  without first parts low zero x xs below = refl
  without first parts low (suc n) x xs below =
      let other : (first % parts == low) ≡ false = grind (arith, nat_tests) in
      ap (λ (l : List A). l ++ all_parts first parts (range_with_len (low + 1) n) (x ∷ xs)) (part_first first parts low x xs false other)
      ∙ ap (λ (l : List A). part_from (first + 1) parts low xs ++ l) (without first parts (low + 1) n x xs (omega (arith, below)))

  -- the first element is added to what the parts of the others come to
  with_first : (first parts low n : ℕ) (x : A) (xs : List A) → low ≤ first % parts → first % parts < low + n
      → same (total (all_parts first parts (range_with_len low n) (x ∷ xs))) (add (total (x ∷ [])) (total (all_parts (first + 1) parts (range_with_len low n) xs)))
  with_first first parts low zero x xs from below = absurd (omega (arith, from, below))
  with_first first parts low (suc n) x xs from below = by (λ later. with_first first parts (low + 1) n x xs later (omega (arith, below))) (first % parts == low) refl
    where
      mine : List A
      mine = part_from (first + 1) parts low xs

      rest : List A
      rest = all_parts (first + 1) parts (range_with_len (low + 1) n) xs

      by : (low + 1 ≤ first % parts → same (total (all_parts first parts (range_with_len (low + 1) n) (x ∷ xs))) (add (total (x ∷ [])) (total rest)))
          → (b : Bool) → (first % parts == low) ≡ b
          → same (total (all_parts first parts (range_with_len low (suc n)) (x ∷ xs))) (add (total (x ∷ [])) (total (mine ++ rest)))
      by others true it =
          let here : first % parts ≡ low = eqb-true _ _ it in
          equal _ _
          (ap (λ (l : List A). total (l ++ all_parts first parts (range_with_len (low + 1) n) (x ∷ xs))) (part_first first parts low x xs true it)
          ∙ ap (λ (l : List A). total ((x ∷ mine) ++ l)) (without first parts (low + 1) n x xs (omega (arith, here)))
          ∙ sums (x ∷ []) (mine ++ rest))
      by others false it =
          let later : low + 1 ≤ first % parts = grind (arith, nat_tests) in
          let inner = others later in
          let m : M = total mine in
          let o : M = total (x ∷ []) in
          let r : M = total rest in
          is.along _ _ _
          (equal _ _
          (ap (λ (l : List A). total (l ++ all_parts first parts (range_with_len (low + 1) n) (x ∷ xs))) (part_first first parts low x xs false it)
          ∙ sums mine (all_parts first parts (range_with_len (low + 1) n) (x ∷ xs))))
          (is.along _ _ _ (is.both m m _ (add o r) (is.itself m) inner)
          (is.along _ _ _ (equal _ _ (sym (is.brackets m o r)))
          (is.along _ _ _ (is.both _ _ r r (is.order m o) (is.itself r))
          (equal _ _ (is.brackets o m r ∙ ap (add o) (sym (sums mine rest)))))))

  -- no elements, however many parts
  none : (first parts low n : ℕ) → all_parts first parts (range_with_len low n) [] ≡ []
  none first parts low zero = refl
  none first parts low (suc n) = none first parts (low + 1) n

  parts_from : (first parts : ℕ) (xs : List A) → 0 < parts → same (total (all_parts first parts (range_with_len 0 parts) xs)) (total xs)
  parts_from first parts [] some = equal _ _ (ap total (none first parts 0 parts))
  parts_from first parts (x ∷ xs) some =
      is.along _ _ _ (with_first first parts 0 parts x xs (omega arith) (omega (arith, some)))
      (is.along _ _ _ (is.both _ _ _ _ (is.itself (total (x ∷ []))) (parts_from (first + 1) parts xs some)) (equal _ _ (sym (sums (x ∷ []) xs))))

  -- all parts of a list come to what the list comes to
  pub parts_add_up : (parts : ℕ) (xs : List A) → 0 < parts → same (total (flat_map (λ part. part_of parts part xs) (range_with_len 0 parts))) (total xs)
  parts_add_up parts xs some = parts_from 0 parts xs some

-- ---- one element more at the end

-- the parts of two lists in a row
pub part_append : {X : Type 0} (first parts part : ℕ) (xs ys : List X)
    → part_from first parts part (xs ++ ys) ≡ part_from first parts part xs ++ part_from (first + length xs) parts part ys
part_append first parts part [] ys = ap (λ n. part_from n parts part ys) (omega arith)
part_append first parts part (x ∷ xs) ys =
    by (part_append (first + 1) parts part xs ys ∙ ap (λ n. part_from (first + 1) parts part xs ++ part_from n parts part ys) (omega arith)) (first % parts == part) refl
  where
    by : part_from (first + 1) parts part (xs ++ ys) ≡ part_from (first + 1) parts part xs ++ part_from (first + suc (length xs)) parts part ys
        → (b : Bool) → (first % parts == part) ≡ b
        → part_from first parts part (x ∷ (xs ++ ys)) ≡ part_from first parts part (x ∷ xs) ++ part_from (first + suc (length xs)) parts part ys
    by more true it = rw (part_first first parts part x (xs ++ ys) true it, part_first first parts part x xs true it) (ap (λ l. x ∷ l) more)
    by more false it = rw (part_first first parts part x (xs ++ ys) false it, part_first first parts part x xs false it) more
