-- The entry of an `add`, of which one event after the other happens.
use Rattle.segment_invariant.proofs.Prelude.Std.{◌≡◌, ◌==◌, Bool, true, false, cond, not, pos, List, [], ◌∷◌, ◌++◌, filter, All, refl, ap, ◌∙◌, ◌&&◌, ◌||◌, All-head, All-tail, int_eq}
use Rattle.segment_invariant.proofs.Prelude.Machine.{Known, EntryProgress, has_ended, is_counted, is_summed, is_noted}
use Rattle.segment_machine.specs.Calls.{change_next}
use Rattle.hist_core.specs.declared.add.Add.{Add}
use Rattle.hist_core.specs.Add.{counted_entry, ended_entry}

falls : (x y z : Bool) → z ≡ false → (x && y && z) ≡ false
falls true true z is = is
falls true false z is = refl
falls false true z is = refl
falls false false z is = refl

-- it has not ended while it is not noted
pub still_open : (c : EntryProgress) → c.noted ≡ false → (c.entry.units == 0) ≡ false → has_ended c ≡ false
still_open c noted some = falls (is_counted c) (is_summed c) (is_noted c) (ap (λ (b : Bool). b || (c.entry.units == 0)) noted ∙ some)

-- it has ended once all three are done
pub is_over : (c : EntryProgress) → is_counted c ≡ true → is_summed c ≡ true → is_noted c ≡ true → has_ended c ≡ true
is_over c counted summed noted = λ i. counted i && summed i && noted i

-- it comes after entries that have ended, and has not ended itself: it is next
module _ (c : EntryProgress) (behind : List EntryProgress) (goes : has_ended c ≡ false) where
  pub only_open : (before : List EntryProgress) → All (λ x. has_ended x ≡ true) before
      → filter (λ x. not (has_ended x)) (before ++ c ∷ behind) ≡ c ∷ filter (λ x. not (has_ended x)) behind
  only_open [] over = let rest = filter (λ x. not (has_ended x)) behind in ap (λ (b : Bool). cond (not b) (c ∷ rest) rest) goes
  only_open (x ∷ before) over =
      let rest = filter (λ y. not (has_ended y)) (before ++ c ∷ behind) in
      ap (λ (b : Bool). cond (not b) (x ∷ rest) rest) (All-head (λ y. has_ended y ≡ true) x before over)
      ∙ only_open before (All-tail (λ y. has_ended y ≡ true) x before over)

  pub only_changed : (f : EntryProgress → EntryProgress) (before : List EntryProgress) → All (λ x. has_ended x ≡ true) before
      → change_next f (before ++ c ∷ behind) ≡ before ++ f c ∷ behind
  only_changed f [] over = ap (λ (b : Bool). cond (not b) (f c ∷ behind) (c ∷ change_next f behind)) goes
  only_changed f (x ∷ before) over =
      ap (λ (b : Bool). cond (not b) (f x ∷ (before ++ c ∷ behind)) (x ∷ change_next f (before ++ c ∷ behind))) (All-head (λ y. has_ended y ≡ true) x before over)
      ∙ ap (λ (l : List EntryProgress). x ∷ l) (only_changed f before (All-tail (λ y. has_ended y ≡ true) x before over))

-- the entry of an `add` that is counted and summed, or not
abbrev pub counting_of : Known → Add → Bool → Bool → EntryProgress
counting_of known add counted summed = record { entry = counted_entry known add; counted = counted; summed = summed; noted = false }

-- once all of it is done, it has ended
pub ended_is_over : (known : Known) (add : Add) → has_ended (ended_entry known add) ≡ true
ended_is_over known add = is_over (ended_entry known add) refl (by (int_eq add.amount (pos 0))) refl
  where
    by : (none : Bool) → (not none || none) ≡ true
    by true = refl
    by false = refl
