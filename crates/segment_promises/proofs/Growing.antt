-- What only grows: lists, the chain that an actor has seen, and what it has seen of records.
use Rattle.segment_invariant.proofs.Prelude.Std.{◌≡◌, ◌≢◌, ℕ, ◌+◌, ◌≤◌, ◌==◌, ◌&&◌, ℤ, Bool, true, false, true≢false, not, if◌then◌else◌, List, [], ◌∷◌, ◌++◌, length, slice_index, inl, inr, refl, sym, ap, subst, ◌∙◌, ⊎_elim, eq-eqb, arith, Some, All, AllByRecursion, get_or, and_parts, eqb-true, leb-true, append-nil, append_assoc}
use Rattle.segment_invariant.proofs.Prelude.Machine.{Dimensions, IsShape, is_reference, stops, Seen, Sighting, word_seen, SawOther}
use Rattle.std.proofs.lemmas.Bool.{or_cases}
use Rattle.segment_machine.specs.Calls.{ended}
use Rattle.segment_machine.specs.Walking.{extended}
use Rattle.segment_invariant.proofs.Walking.Words.{word_still}
use Rattle.segment_promises.specs.Onward.{Grows}

-- ---- lists that grow

pub grows_by : {X : Type 0} (list more : List X) → Grows list (list ++ more)
grows_by list more = (more, refl)

pub grows_not : {X : Type 0} (list : List X) → Grows list list
grows_not [] = ([], refl)
grows_not (x ∷ list) = let (more, is) = grows_not list in (more, ap (λ l. x ∷ l) is)

pub grows_same : {X : Type 0} (old new : List X) → new ≡ old → Grows old new
grows_same old new same = subst (Grows old) (sym same) (grows_not old)

pub grows_on : {X : Type 0} (a b c : List X) → Grows a b → Grows b c → Grows a c
grows_on a b c (more, first) (rest, second) = (more ++ rest, second ∙ (ap (λ l. l ++ rest) first ∙ append_assoc a more rest))

-- something holds of one more
pub all_push : {X : Type 0} (P : X → Type 0) (xs : List X) (x : X) → AllByRecursion P xs → P x → AllByRecursion P (xs ++ x ∷ [])
all_push P [] x all last = (last, all)
all_push P (y ∷ xs) x (first, rest) last = (first, all_push P xs x rest last)

-- ---- references

-- a reference is within a segment of a valid shape
pub reference_within : (shape : Dimensions) (at : ℕ) → IsShape shape → is_reference shape.size at ≡ true → at + 5 ≤ shape.size
reference_within shape at shaped is =
    let from = shaped.wide in
    let to = shaped.one in
    ⊎_elim (λ queue. let e = eqb-true at 12 queue in omega (arith, e, from, to))
    (λ record_is. leb-true (at + 5) shape.size (and_parts _ _ record_is).1) (or_cases _ _ is)

-- one that is not the queue block is after the header
pub reference_behind : (size at : ℕ) → is_reference size at ≡ true → at ≢ 12 → (16 ≤ at) × (at + 5 ≤ size)
reference_behind size at is miss =
    ⊎_elim (λ queue. absurd (miss (eqb-true at 12 queue)))
    (λ record_is. let (low, high) = and_parts _ _ record_is in (leb-true 16 at low, leb-true (at + 5) size high)) (or_cases _ _ is)

-- ---- the chain that it has seen

-- the chain that it has seen only grows
pub extended_grows : (chain : List ℕ) (at found : ℕ) → Grows chain (extended chain at found)
extended_grows chain at found = by ((slice_index (stops chain) (length chain) == at) && not (found == 12))
  where
    by : (b : Bool) → Grows chain (if b then chain ++ found ∷ [] else chain)
    by true = (found ∷ [], refl)
    by false = ([], sym (append-nil chain))

-- at the end of the list nothing is added to the chain
pub extended_end : (chain : List ℕ) (at found : ℕ) → found ≡ 12 → extended chain at found ≡ chain
extended_end chain at found end = by (slice_index (stops chain) (length chain) == at) (found == 12) (eq-eqb found 12 end)
  where
    by : (b e : Bool) → e ≡ true → (if b && not e then chain ++ found ∷ [] else chain) ≡ chain
    by true true is = refl
    by true false is = absurd (true≢false (sym is))
    by false e is = refl

-- and the words that led to no block only become more
pub ended_grows : (ends : List ℕ) (at : ℕ) (none : Bool) → Grows ends (ended ends at none)
ended_grows ends at true = (at ∷ [], refl)
ended_grows ends at false = grows_not ends

-- ---- what was seen stays

pub still : (a b : List Sighting) → Grows a b → (at word : ℕ) → word_seen a at ≡ Some word → word_seen b at ≡ Some word
still a b (more, is) at word seen = ap (λ (l : List Sighting). word_seen l at) is ∙ word_still a at word more seen

pub other_still : (a b : Seen) → Grows a.words b.words → (histogram : ℕ) (value : ℤ) (at : ℕ) → SawOther a histogram value at → SawOther b histogram value at
other_still a b grows histogram value at (inl (tag, seen, other)) = inl (tag, still a.words b.words grows (at + 2) tag seen, other)
other_still a b grows histogram value at (inr (inl (of, seen, other))) = inr (inl (of, still a.words b.words grows (at + 4) of seen, other))
other_still a b grows histogram value at (inr (inr (word, seen, other))) = inr (inr (word, still a.words b.words grows (at + 5) word seen, other))

pub others_still : (a b : Seen) → Grows a.words b.words → (histogram : ℕ) (value : ℤ) (given : List ℕ) → All (SawOther a histogram value) given
    → All (SawOther b histogram value) given
others_still a b grows histogram value given others k d inside = other_still a b grows histogram value (get_or given k d) (others k d inside)
