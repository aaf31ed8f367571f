-- What was taken, as the portions of the deltas that took it: what it comes to, and whose each portion is.
use Rattle.segment_invariant.proofs.Prelude.Std.{◌≡◌, ◌⊎◌, ℕ, ◌+◌, ℤ, pos, ◌+ℤ◌, List, [], ◌∷◌, ◌++◌, map, Contains, inl, inr, ⊎_elim, sym, ap, ◌∙◌, append_assoc, if◌then◌else◌, bytes_eq, map-append, Contains-append_cases, Contains-append_left, Contains-append_right, sum_by-append, contains_map, contains_mapped, IsTotal}
use Rattle.segment_invariant.proofs.Prelude.Machine.{Actor, Portion, Taken, units_listed, portion_of, taken_of, taken_units, taken_sum}
use Rattle.list_lemmas.proofs.Sums.{amounts_total}

-- ---- what it comes to

pub taken_total : (name : List ℕ) (key : ℤ) → IsTotal ◌+◌ (λ list. taken_units list name key)
taken_total name key = sum_by-append (λ (t : Portion). if bytes_eq t.name name then units_listed t.counts key else 0)

pub taken_sum_total : (name : List ℕ) → IsTotal ◌+ℤ◌ (λ list. taken_sum list name)
taken_sum_total name = amounts_total (λ (t : Portion). if bytes_eq t.name name then t.sum else pos 0)

-- ---- one delta more

pub portions_push : (first : List Portion) (front : List Taken) (t : Taken)
    → first ++ map portion_of (front ++ t ∷ []) ≡ (first ++ map portion_of front) ++ portion_of t ∷ []
portions_push first front t =
    ap (λ (list : List Portion). first ++ list) (map-append portion_of front (t ∷ [])) ∙ sym (append_assoc first (map portion_of front) (portion_of t ∷ []))

-- ---- whose it is

pub portion_in : (a : Actor) (t : Taken) → Contains a.deltas.taken t → Contains (taken_of a) (portion_of t)
portion_in a t has = Contains-append_right a.deltas.first_taken (map portion_of a.deltas.taken) (portion_of t) (contains_map portion_of a.deltas.taken t has)

pub portion_from : (first : List Portion) (list : List Taken) (p : Portion) → Contains (first ++ map portion_of list) p
    → Contains first p ⊎ ((t : Taken) × Contains list t × (portion_of t ≡ p))
portion_from first list p has = ⊎_elim
    (λ old. inl old)
    (λ new. inr (contains_mapped portion_of list p new))
    (Contains-append_cases first (map portion_of list) p has)

-- what had been taken before is in the list with any deltas after it
pub portion_first : (first : List Portion) (list : List Taken) (p : Portion) → Contains first p → Contains (first ++ map portion_of list) p
portion_first first list p has = Contains-append_left first (map portion_of list) p has
