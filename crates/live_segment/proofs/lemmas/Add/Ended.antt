-- Entries that have ended: none of them is open. An open one after them is next, and only that changes.
use Rattle.std.proofs.Common.{◌≡◌, ◌≢◌, ℕ, suc, ◌≤◌, ◌==◌, not, ◌||◌, ◌&&◌, Bool, true, false, if◌then◌else◌, cond, List, [], ◌∷◌, ◌++◌, length, filter, All, refl, ap, ◌∙◌, arith}
use Rattle.std.specs.List.{list_all}
use Rattle.std.proofs.lemmas.Bool.{ne_eqb}
use Rattle.std.proofs.lemmas.List.Elements.{All-head, All-tail}
use Rattle.segment_machine.specs.declared.entry.EntryProgress.{EntryProgress}
use Rattle.segment_machine.specs.declared.entry.Entry.{Entry}
use Rattle.segment_machine.specs.Calls.{change_next}
use Rattle.segment_machine.specs.Entry.{has_ended, is_counted, is_noted, is_summed}
use Rattle.segment_machine.specs.Note.{goes_on}
use Rattle.live_segment.specs.Add.Refusal.{how_many_ended}
use Rattle.live_segment.specs.Steps.GhostNotes.{opening_notes}

-- none of them is open
pub none_open : (before : List EntryProgress) → All (λ c. has_ended c ≡ true) before → filter (λ c. not (has_ended c)) before ≡ []
none_open [] all = refl
none_open (x ∷ xs) all =
    let rest = filter (λ c. not (has_ended c)) xs in
    ap (λ (b : Bool). cond (not b) (x ∷ rest) rest) (All-head (λ c. has_ended c ≡ true) x xs all)
    ∙ none_open xs (All-tail (λ c. has_ended c ≡ true) x xs all)

pub all_ended : (before : List EntryProgress) → All (λ c. has_ended c ≡ true) before → list_all has_ended before ≡ true
all_ended [] all = refl
all_ended (x ∷ xs) all =
    ap (λ (b : Bool). b && list_all has_ended xs) (All-head (λ c. has_ended c ≡ true) x xs all)
    ∙ all_ended xs (All-tail (λ c. has_ended c ≡ true) x xs all)

-- all of them have ended
pub how_many : (before : List EntryProgress) → All (λ c. has_ended c ≡ true) before → how_many_ended before ≡ length before
how_many [] all = refl
how_many (x ∷ xs) all =
    let rest = filter has_ended xs in
    ap (λ (b : Bool). length (cond b (x ∷ rest) rest)) (All-head (λ c. has_ended c ≡ true) x xs all)
    ∙ ap suc (how_many xs (All-tail (λ c. has_ended c ≡ true) x xs all))

-- a call whose entries have ended continues
pub goes_on_with : (running : List EntryProgress) (entry : Entry) (cost : ℕ) → running ≢ [] → All (λ c. has_ended c ≡ true) running
    → opening_notes running entry cost ≡ goes_on entry cost ∷ []
goes_on_with [] entry cost runs all = absurd (runs refl)
goes_on_with (x ∷ xs) entry cost runs all = ap (λ (b : Bool). if b then goes_on entry cost ∷ [] else []) (all_ended (x ∷ xs) all)

-- ---- one that is open

-- it has not ended while it is not noted
pub still_open : (c : EntryProgress) → c.noted ≡ false → 1 ≤ c.entry.units → has_ended c ≡ false
still_open c noted some = falls (is_counted c) (is_summed c) (is_noted c) (λ i. noted i || none i)
  where
    none : (c.entry.units == 0) ≡ false
    none = ne_eqb c.entry.units 0 (λ e. omega (arith, e, some))

    falls : (x y z : Bool) → z ≡ false → (x && y && z) ≡ false
    falls true true z is = is
    falls true false z is = refl
    falls false true z is = refl
    falls false false z is = refl

-- it is next, and only it changes
module _ (c : EntryProgress) (goes : has_ended c ≡ false) where
  pub next_behind : (before : List EntryProgress) → All (λ x. has_ended x ≡ true) before → filter (λ x. not (has_ended x)) (before ++ c ∷ []) ≡ c ∷ []
  next_behind [] all = ap (λ (b : Bool). cond (not b) (c ∷ []) []) goes
  next_behind (x ∷ xs) all =
      let rest = filter (λ y. not (has_ended y)) (xs ++ c ∷ []) in
      ap (λ (b : Bool). cond (not b) (x ∷ rest) rest) (All-head (λ y. has_ended y ≡ true) x xs all)
      ∙ next_behind xs (All-tail (λ y. has_ended y ≡ true) x xs all)

  pub changed_behind : (f : EntryProgress → EntryProgress) (before : List EntryProgress) → All (λ x. has_ended x ≡ true) before
      → change_next f (before ++ c ∷ []) ≡ before ++ f c ∷ []
  changed_behind f [] all = ap (λ (b : Bool). cond (not b) (f c ∷ []) (c ∷ [])) goes
  changed_behind f (x ∷ xs) all =
      ap (λ (b : Bool). cond (not b) (f x ∷ (xs ++ c ∷ [])) (x ∷ change_next f (xs ++ c ∷ []))) (All-head (λ y. has_ended y ≡ true) x xs all)
      ∙ ap (λ (l : List EntryProgress). x ∷ l) (changed_behind f xs (All-tail (λ y. has_ended y ≡ true) x xs all))

-- ---- with an open one after them

module _ (c : EntryProgress) (waits : has_ended c ≡ false) where
  pub how_many_before : (before : List EntryProgress) → All (λ x. has_ended x ≡ true) before → how_many_ended (before ++ c ∷ []) ≡ length before
  how_many_before [] all = ap (λ (b : Bool). length (cond b (c ∷ []) [])) waits
  how_many_before (x ∷ xs) all =
      let rest = filter has_ended (xs ++ c ∷ []) in
      ap (λ (b : Bool). length (cond b (x ∷ rest) rest)) (All-head (λ y. has_ended y ≡ true) x xs all)
      ∙ ap suc (how_many_before xs (All-tail (λ y. has_ended y ≡ true) x xs all))

  not_all : (before : List EntryProgress) → All (λ x. has_ended x ≡ true) before → list_all has_ended (before ++ c ∷ []) ≡ false
  not_all [] all = ap (λ (b : Bool). b && true) waits
  not_all (x ∷ xs) all =
      ap (λ (b : Bool). b && list_all has_ended (xs ++ c ∷ [])) (All-head (λ y. has_ended y ≡ true) x xs all)
      ∙ not_all xs (All-tail (λ y. has_ended y ≡ true) x xs all)

  -- it is not noted again
  pub notes_nothing : (before : List EntryProgress) (entry : Entry) (cost : ℕ) → All (λ x. has_ended x ≡ true) before
      → opening_notes (before ++ c ∷ []) entry cost ≡ []
  notes_nothing [] entry cost all = ap (λ (b : Bool). if b then goes_on entry cost ∷ [] else []) (not_all [] all)
  notes_nothing (x ∷ xs) entry cost all = ap (λ (b : Bool). if b then goes_on entry cost ∷ [] else []) (not_all (x ∷ xs) all)
