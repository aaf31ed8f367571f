-- The entries of a batch's items: what they add up to, and that a call which holds their units may continue with one more.
use Rattle.std.proofs.Common.{◌≡◌, ℕ, ◌+◌, ◌*◌, ◌<◌, ◌≤◌, not, Bool, true, false, if◌then◌else◌, ℤ, pos, List, [], ◌∷◌, ◌++◌, map, filter, length, take, get_or, All, refl, sym, ap, ◌∙◌, subst, arith}
use Rattle.std.specs.Prelude.{unsigned_abs, fold, ◌+ℤ◌}
use Rattle.std.specs.Ordering.{int_eq}
use Rattle.std.specs.Str.{bytes_eq}
use Rattle.std.proofs.lemmas.List.{map-append, take_more}
use Rattle.std.proofs.lemmas.List.Elements.{All-nil, All-cons}
use Rattle.std.proofs.lemmas.List.Sums.{sum_by-append, sum_by-cons, sum_by-take-le}
use Rattle.std.proofs.lemmas.Slice.Eq.{bytes_eq-Decides}
use Rattle.bucket_ranges.specs.Tally.{units_of}
use Rattle.segment_machine.specs.declared.entry.Entry.{Entry}
use Rattle.segment_machine.specs.Entry.{AreWithin, item_entry, is_of, tally_noted, tally_sum}

module _ (name boundaries : List ℕ) where
  abbrev pub entries : List (ℤ × ℕ) → List Entry
  entries items = map (item_entry name boundaries) items

  itself : bytes_eq name name ≡ true
  itself = (bytes_eq-Decides name name).1 refl

  of_name : (items : List (ℤ × ℕ)) → All (λ (e : Entry). e.name ≡ name) (entries items)
  of_name [] = All-nil _
  of_name (x ∷ xs) = All-cons (λ (e : Entry). e.name ≡ name) (item_entry name boundaries x) (entries xs) refl (of_name xs)

  -- they have the units of the items
  pub items_noted : (items : List (ℤ × ℕ)) → tally_noted (entries items) name ≡ units_of items
  items_noted [] = refl
  items_noted (x ∷ xs) =
      sum_by-cons (λ (e : Entry). if is_of name e then e.units else 0) (item_entry name boundaries x) (entries xs)
      ∙ ((λ i. (if itself i then x.1 else 0) + items_noted xs i)
      ∙ sym (sum_by-cons (λ (item : ℤ × ℕ). item.1) x xs))

  -- and no amounts
  none : (items : List (ℤ × ℕ)) → filter (λ (e : Entry). not (int_eq e.amount (pos 0))) (entries items) ≡ []
  none [] = refl
  none (x ∷ xs) = none xs

  nothing : (b : Bool) → pos 0 +ℤ (if b then pos 0 else pos 0) ≡ pos 0
  nothing true = refl
  nothing false = refl

  pub items_amount : (items : List (ℤ × ℕ)) → tally_sum (entries items) name ≡ pos 0
  items_amount [] = refl
  items_amount (x ∷ xs) =
      ap (λ (z : ℤ). fold ◌+ℤ◌ z (map (λ (e : Entry). if is_of name e then e.amount else pos 0) (entries xs))) (nothing (bytes_eq name name))
      ∙ items_amount xs

  -- so a call that holds their units has them within its cost
  pub items_within : (items : List (ℤ × ℕ)) → AreWithin name (units_of items) (entries items)
  items_within items = record {
    of_name = of_name items;
    units = let same = items_noted items in omega (arith, same);
    one = subst (λ (l : List Entry). length l ≤ 1) (sym (none items)) (omega arith);
    amount = subst (λ (z : ℤ). unsigned_abs z ≤ 2147483648 * units_of items) (sym (items_amount items)) (omega arith);
  }

  -- one more item adds its units
  pub one_more : (items : List (ℤ × ℕ)) (item : ℤ × ℕ) → units_of (items ++ item ∷ []) ≡ units_of items + item.1
  one_more items item = let both = sum_by-append (λ (x : ℤ × ℕ). x.1) items (item ∷ []) in omega (arith, both)

  -- the first of them have no more than all have
  pub within_all : (items : List (ℤ × ℕ)) (k : ℕ) (d : ℤ × ℕ) → k < length items → units_of (take k items) + (get_or items k d).1 ≤ units_of items
  within_all items k d below =
      let least = sum_by-take-le (λ (x : ℤ × ℕ). x.1) items (k + 1) in
      let more = ap units_of (take_more items k d below) ∙ one_more (take k items) (get_or items k d) in omega (arith, least, more)

  pub within_with : (items : List (ℤ × ℕ)) (item : ℤ × ℕ)
      → AreWithin name (units_of items + item.1) (entries items ++ item_entry name boundaries item ∷ [])
  within_with items item = subst (λ (l : List Entry). AreWithin name (units_of items + item.1) l) (map-append (item_entry name boundaries) items (item ∷ []))
      (subst (λ (n : ℕ). AreWithin name n (entries (items ++ item ∷ []))) (one_more items item) (items_within (items ++ item ∷ [])))
