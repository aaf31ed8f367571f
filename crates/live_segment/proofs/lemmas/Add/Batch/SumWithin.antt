-- A batch's sum after its items: what their entries add up to, and what they cost.
use Rattle.std.proofs.Common.{◌≡◌, ℕ, ◌+◌, ◌-◌, ◌*◌, ◌/◌, ◌≤◌, not, Bool, true, false, if◌then◌else◌, ℤ, pos, List, [], ◌∷◌, ◌++◌, map, filter, length, refl, sym, ap, ◌∙◌, subst, arith}
use Rattle.std.specs.Prelude.{unsigned_abs, fold, ◌+ℤ◌}
use Rattle.std.specs.Ordering.{int_eq}
use Rattle.std.specs.Str.{bytes_eq}
use Rattle.std.proofs.Math.IntN.{+ℤ_idl}
use Rattle.std.proofs.lemmas.List.Elements.{All-nil, All-cons, All-append}
use Rattle.std.proofs.lemmas.List.Sums.{sum_by-append}
use Rattle.std.proofs.lemmas.Slice.Eq.{bytes_eq-Decides}
use Rattle.bucket_ranges.specs.Tally.{units_of}
use Rattle.segment_machine.specs.declared.entry.Entry.{Entry}
use Rattle.segment_machine.specs.Entry.{AreWithin, batch_cost, is_of, sum_entry, tally_sum}
use Rattle.live_segment.proofs.lemmas.Add.Batch.Items.{entries, items_noted, items_within}

-- the units that a sum costs at least
abbrev pub least_for : ℤ → ℕ
least_for sum = (unsigned_abs sum + 2147483647) / 2147483648

pub enough_for : (n : ℕ) (sum : ℤ) → least_for sum ≤ n → unsigned_abs sum ≤ 2147483648 * n
enough_for n sum least = omega (arith, least)

pub is_cost : (items : List (ℤ × ℕ)) (sum : ℤ) → units_of items + (least_for sum - units_of items) ≡ batch_cost items sum
is_cost items sum = omega arith

module _ (name boundaries : List ℕ) (sum : ℤ) where
  nothing : (b : Bool) → pos 0 +ℤ (if b then pos 0 else pos 0) ≡ pos 0
  nothing true = refl
  nothing false = refl

  none_units : (b : Bool) → ◌≡◌ {A = ℕ} (if b then 0 else 0) 0
  none_units true = refl
  none_units false = refl

  alone : (z : ℤ) → pos 0 +ℤ z ≡ z
  alone z = +ℤ_idl z

  amount_behind : (items : List (ℤ × ℕ)) (more : List Entry) → tally_sum (entries name boundaries items ++ more) name ≡ tally_sum more name
  amount_behind [] more = refl
  amount_behind (x ∷ xs) more =
      ap (λ (z : ℤ). fold ◌+ℤ◌ z (map (λ (e : Entry). if is_of name e then e.amount else pos 0) (entries name boundaries xs ++ more))) (nothing (bytes_eq name name))
      ∙ amount_behind xs more

  amounts_behind : (items : List (ℤ × ℕ)) (more : List Entry)
      → filter (λ (e : Entry). not (int_eq e.amount (pos 0))) (entries name boundaries items ++ more) ≡ filter (λ (e : Entry). not (int_eq e.amount (pos 0))) more
  amounts_behind [] more = refl
  amounts_behind (x ∷ xs) more = amounts_behind xs more

  pub sum_within : (items : List (ℤ × ℕ)) (cost : ℕ) → units_of items ≤ cost → unsigned_abs sum ≤ 2147483648 * cost
      → AreWithin name cost (entries name boundaries items ++ sum_entry name sum ∷ [])
  sum_within items cost least small = record {
    of_name = All-append (λ (e : Entry). e.name ≡ name) (entries name boundaries items) (sum_entry name sum ∷ []) (items_within name boundaries items).of_name
        (All-cons (λ (e : Entry). e.name ≡ name) (sum_entry name sum) [] refl (All-nil _));
    units =
        let both = sum_by-append (λ (e : Entry). if is_of name e then e.units else 0) (entries name boundaries items) (sum_entry name sum ∷ []) in
        let first = items_noted name boundaries items in
        let none = none_units (bytes_eq name name) in omega (arith, both, first, none, least);
    one = subst (λ (l : List Entry). length l ≤ 1) (sym (amounts_behind items (sum_entry name sum ∷ []))) (few (int_eq sum (pos 0)));
    amount = subst (λ (z : ℤ). unsigned_abs z ≤ 2147483648 * cost)
        (sym (amount_behind items (sum_entry name sum ∷ [])
        ∙ (ap (λ (b : Bool). pos 0 +ℤ (if b then sum else pos 0)) ((bytes_eq-Decides name name).1 refl) ∙ alone sum))) small;
  }
    where
      few : (b : Bool) → length (if not b then sum_entry name sum ∷ [] else []) ≤ 1
      few true = omega arith
      few false = omega arith
