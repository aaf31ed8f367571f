-- What an actor has loaded of a histogram that it looks at.
use Rattle.segment_invariant.proofs.Prelude.Std.{◌≡◌, ◌≢◌, ◌⊎◌, ℕ, ◌%◌, ◌/◌, ◌^◌, ◌<◌, ◌≤◌, true, false, ◌&&◌, nat_lt, nat_le, Some, None, inl, inr, leb-true, ltb-true, and_parts}
use Rattle.segment_invariant.proofs.Prelude.Machine.{Packed, single_of, is_packed_word}
use Rattle.segment_machine.specs.Form.{is_off}
use Rattle.segment_invariant.proofs.Packing.OffForms.{on_form}

-- a word that is on and has a form is empty, or has units of a bucket
pub record HasUnits (version n word : ℕ) : Type 0 where
  pub inside : word / 2 ^ 32 < n
  pub some : 1 ≤ word % 2 ^ 32
  pub form : single_of version n word ≡ Some (Packed (word / 2 ^ 32) (word % 2 ^ 32))

pub on_units : (version n word : ℕ) → single_of version n word ≢ None → is_off word ≡ false → (word ≡ 0) ⊎ HasUnits version n word
on_units version n word formed on = by (on_form version n word formed on)
  where
    by : (word ≡ 0) ⊎ ((is_packed_word n word ≡ true) × (single_of version n word ≡ Some (Packed (word / 2 ^ 32) (word % 2 ^ 32)))) → (word ≡ 0) ⊎ HasUnits version n word
    by (inl none) = inl none
    by (inr (packed, form)) =
        let first = and_parts (nat_lt (word / 2 ^ 32) n && nat_le 1 (word % 2 ^ 32)) (nat_le (word % 2 ^ 32) 65535) packed in
        let second = and_parts (nat_lt (word / 2 ^ 32) n) (nat_le 1 (word % 2 ^ 32)) first.0 in
        inr (record { inside = ltb-true (word / 2 ^ 32) n second.0; some = leb-true 1 (word % 2 ^ 32) second.1; form = form })
