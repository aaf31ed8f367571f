-- What the later records of a schedule ask for, one by one.
use Rattle.std.proofs.Common.{◌⊎◌, ◌≡◌, ◌∙◌, ℕ, zero, suc, ◌+◌, ◌<◌, ◌≤◌, List, [], ◌∷◌, ◌++◌, length, map, take, get_or, Some, None, inl, inr, ap, sym, refl, subst, arith}
use Rattle.std.proofs.lemmas.List.{get_or-map, get_or-take, length-map, length-take-le, map-append, take_more}
use Rattle.schedule.specs.declared.order.Order.{Order}
use Rattle.schedule.specs.Order.{WorldOpening, opening_in, order_in, order_view}
use Rattle.schedule.specs.declared.fault.ScheduleFault.{ScheduleFault}
use Rattle.schedule.specs.declared.fault.ScheduleFault.TheVariants.{BadLine, NoMemory}
use Rattle.schedule.specs.Schedule.{AreOrders, IsBadAt, IsFirstBad, IsRowFault}

-- one more
pub AreOrders-more : (rows : List (List (List ℕ))) (orders : List Order) (order : Order) (i : ℕ) → i < length rows → AreOrders (take i rows) orders
    → order_in (get_or rows i []) ≡ Some (order_view order) → AreOrders (take (i + 1) rows) (orders ++ order ∷ [])
AreOrders-more rows orders order i within so_far one =
    rw (take_more rows i [] within, map-append order_in (take i rows) (get_or rows i [] ∷ []), so_far, one, map-append (λ o. Some (order_view o)) orders (order ∷ [])) refl

-- each of them asks for something
lawful-before : (rows : List (List (List ℕ))) (orders : List Order) (i j : ℕ) → i ≤ length rows → j < i → AreOrders (take i rows) orders
    → order_in (get_or rows j []) ≡ None → ⊥
lawful-before rows orders i j within before so_far none =
    let count : length (take i rows) ≡ i = length-take-le i rows within in
    let many : length orders ≡ i =
    sym (length-map orders (λ order. Some (order_view order))) ∙ ap length (sym so_far) ∙ length-map (take i rows) order_in ∙ count in
    let left : get_or (map order_in (take i rows)) j None ≡ None =
    get_or-map order_in (take i rows) j [] None (omega arith) ∙ ap order_in (get_or-take i rows j [] before) ∙ none in
    let same : get_or (map (λ order. Some (order_view order)) orders) j None ≡ None = sym (ap (λ all. get_or all j None) so_far) ∙ left in
    some-there orders j (omega arith) same
  where
    some-there : (all : List Order) (k : ℕ) → k < length all → get_or (map (λ order. Some (order_view order)) all) k None ≡ None → ⊥
    some-there [] k there missing = omega arith
    some-there (one ∷ rest) zero there missing = cc missing
    some-there (one ∷ rest) (suc k) there missing = some-there rest k (omega arith) missing

-- the first that asks for nothing
pub first_bad : (first : List (List ℕ)) (later : List (List (List ℕ))) (opening : WorldOpening) (orders : List Order) (i : ℕ) → i < length later
    → opening_in first ≡ Some opening → AreOrders (take i later) orders → order_in (get_or later i []) ≡ None → IsFirstBad (first ∷ later) (i + 2)
first_bad first later opening orders i within opened so_far none = record {
  place = suc i;
  number_is = omega arith;
  there = inl (omega arith);
  bad = none;
  first = before;
}
  where
    before : (earlier : ℕ) → earlier < suc i → IsBadAt (first ∷ later) earlier → ⊥
    before zero less missing = cc (sym opened ∙ missing)
    before (suc j) less missing = lawful-before later orders i j (omega arith) (omega arith) so_far missing

-- what is reported of it
pub fault_told : (first : List (List ℕ)) (later : List (List (List ℕ))) (opening : WorldOpening) (orders : List Order) (i : ℕ) (fault : ScheduleFault)
    → i < length later → opening_in first ≡ Some opening → AreOrders (take i later) orders
    → (fault ≡ NoMemory) ⊎ ((fault ≡ BadLine (i + 2)) × (order_in (get_or later i []) ≡ None)) → IsRowFault (first ∷ later) fault
fault_told first later opening orders i fault within opened so_far (inl same) = subst (IsRowFault (first ∷ later)) (sym same) tt
fault_told first later opening orders i fault within opened so_far (inr (same, none)) =
    subst (IsRowFault (first ∷ later)) (sym same) (first_bad first later opening orders i within opened so_far none)
