-- The entries of a batch, and the units of its items.
use Rattle.segment_invariant.proofs.Prelude.Std.{◌≡◌, ◌+◌, ℕ, ℤ, pos, Bool, true, false, not, List, [], ◌∷◌, map, All, refl, sym, ap, ◌∙◌, if◌then◌else◌, int_eq, bytes_eq, All-nil, All-cons, All-head, All-tail, sum_by-cons}
use Rattle.segment_invariant.proofs.Prelude.Machine.{Known, EntryProgress, Entry, fresh, has_ended, is_of, tally_noted, is_untouched}
use Rattle.segment_machine.specs.Entry.{sum_entry}
use Rattle.hist_core.specs.declared.add.Add.{Add}
use Rattle.hist_core.specs.Add.{counted_entry, ended_entry}
use Rattle.hist_core.specs.Batch.{sum_entries, units_among}
use Rattle.hist_core.proofs.AddCall.Entries.{ended_is_over}

module _ (known : Known) where
  -- the entries of items that have ended
  pub ended_are : (items : List Add) → map (λ (c : EntryProgress). c.entry) (map (ended_entry known) items) ≡ map (counted_entry known) items
  ended_are [] = refl
  ended_are (x ∷ items) = ap (λ (l : List Entry). counted_entry known x ∷ l) (ended_are items)

  pub all_over : (items : List Add) → All (λ c. has_ended c ≡ true) (map (ended_entry known) items)
  all_over [] = All-nil (λ c. has_ended c ≡ true)
  all_over (x ∷ items) = All-cons (λ c. has_ended c ≡ true) (ended_entry known x) (map (ended_entry known) items) (ended_is_over known x) (all_over items)

  -- if none has an amount, none has added one
  pub none_summed : (items : List Add) → All (λ (x : Add). x.amount ≡ pos 0) items → All (λ (c : EntryProgress). c.summed ≡ false) (map (ended_entry known) items)
  none_summed [] none = All-nil (λ (c : EntryProgress). c.summed ≡ false)
  none_summed (x ∷ items) none = All-cons (λ (c : EntryProgress). c.summed ≡ false) (ended_entry known x) (map (ended_entry known) items)
      (ap (λ n. not (int_eq n (pos 0))) (All-head (λ (y : Add). y.amount ≡ pos 0) x items none)) (none_summed items (All-tail (λ (y : Add). y.amount ≡ pos 0) x items none))

  -- all are of its name, so their units are those of the items
  pub noted_are : (items : List Add) → bytes_eq known.name known.name ≡ true → tally_noted (map (counted_entry known) items) known.name ≡ units_among items
  noted_are [] same = refl
  noted_are (x ∷ items) same =
      let noted : Entry → ℕ = λ entry. if is_of known.name entry then entry.units else 0 in
      sum_by-cons noted (counted_entry known x) (map (counted_entry known) items)
      ∙ ((λ i. (if same i then x.units else 0) + noted_are items same i) ∙ sym (sum_by-cons (λ (y : Add). y.units) x items))

-- those that begin are the entries, and nothing of them is counted
pub fresh_are : (entries : List Entry) → map (λ (c : EntryProgress). c.entry) (map fresh entries) ≡ entries
fresh_are [] = refl
fresh_are (e ∷ entries) = ap (λ (l : List Entry). e ∷ l) (fresh_are entries)

pub all_untouched : (entries : List Entry) → All (λ c. is_untouched c ≡ true) (map fresh entries)
all_untouched [] = All-nil (λ c. is_untouched c ≡ true)
all_untouched (e ∷ entries) = All-cons (λ c. is_untouched c ≡ true) (fresh e) (map fresh entries) refl (all_untouched entries)

-- the sum is one entry, if it is not 0
pub one_sum : (name : List ℕ) (sum : ℤ) → int_eq sum (pos 0) ≡ false → sum_entries name sum ≡ sum_entry name sum ∷ []
one_sum name sum some = ap (λ (none : Bool). if none then [] else sum_entry name sum ∷ []) some

pub no_sum : (name : List ℕ) (sum : ℤ) → int_eq sum (pos 0) ≡ true → sum_entries name sum ≡ []
no_sum name sum none = ap (λ (b : Bool). if b then [] else sum_entry name sum ∷ []) none
