-- The values of a batch, by turns with how often they are counted.
use Rattle.std.proofs.Common.{◌≡◌, ◌<◌, ◌≤◌, ◌-◌, ℕ, ℤ, List, [], ◌∷◌, ◌++◌, length, take, drop, get_or, Bor, Option, Some, None, option_map, append_assoc, ap, sym, refl, arith}
use Rattle.std.proofs.lemmas.List.{append-nil, length-drop, take_all}
use Rattle.persist_report_core.specs.Request.{from_two}
use Rattle.schedule.specs.Call.{item_in, items_in}
use Rattle.schedule.specs.Fields.{texts}

-- the first two fields, and the rest
items_in-two : (rest : List (Bor (List ℕ))) (first second : Bor (List ℕ)) → 2 ≤ length rest
    → items_in (texts rest)
    ≡ from_two (λ item more. item ∷ more) (item_in (get_or rest 0 first).now (get_or rest 1 second).now) (items_in (texts (drop 2 rest)))
items_in-two [] first second more = absurd (omega arith)
items_in-two (a ∷ []) first second more = absurd (omega arith)
items_in-two (a ∷ b ∷ rest) first second more = refl

-- if they are no item, there are no items
pub items_in-none : (so_far : List (ℤ × ℕ)) (rest : List (Bor (List ℕ))) (first second : Bor (List ℕ)) → 2 ≤ length rest
    → item_in (get_or rest 0 first).now (get_or rest 1 second).now ≡ None → option_map (λ more. so_far ++ more) (items_in (texts rest)) ≡ None
items_in-none so_far rest first second more none = rw (items_in-two rest first second more, none) refl

joined : (so_far : List (ℤ × ℕ)) (item : ℤ × ℕ) (more : Option (List (ℤ × ℕ)))
    → option_map (λ more. so_far ++ more) (from_two (λ item more. item ∷ more) (Some item) more) ≡ option_map (λ more. (so_far ++ item ∷ []) ++ more) more
joined so_far item (Some more) = ap Some (sym (append_assoc so_far (item ∷ []) more))
joined so_far item None = refl

-- if they are one, the rest follows it
pub items_in-more : (so_far : List (ℤ × ℕ)) (rest : List (Bor (List ℕ))) (first second : Bor (List ℕ)) (item : ℤ × ℕ) → 2 ≤ length rest
    → item_in (get_or rest 0 first).now (get_or rest 1 second).now ≡ Some item
    → option_map (λ more. so_far ++ more) (items_in (texts rest))
    ≡ option_map (λ more. (so_far ++ item ∷ []) ++ more) (items_in (texts (take (length rest - 2) (drop 2 rest))))
items_in-more so_far rest first second item more one =
    let behind : take (length rest - 2) (drop 2 rest) ≡ drop 2 rest = take_all (length rest - 2) (drop 2 rest) (omega (arith, length-drop 2 rest)) in
    rw (items_in-two rest first second more, one, behind) (joined so_far item (items_in (texts (drop 2 rest))))

-- one field alone leaves no items
pub items_in-one : (so_far : List (ℤ × ℕ)) (rest : List (Bor (List ℕ))) → length rest < 2 → (length rest ≡ 0 → ⊥)
    → option_map (λ more. so_far ++ more) (items_in (texts rest)) ≡ None
items_in-one so_far [] few some = absurd (some refl)
items_in-one so_far (a ∷ []) few some = refl
items_in-one so_far (a ∷ b ∷ rest) few some = absurd (omega arith)

-- and no field leaves those so far
pub items_in-all : (so_far : List (ℤ × ℕ)) (rest : List (Bor (List ℕ))) → length rest ≡ 0 → option_map (λ more. so_far ++ more) (items_in (texts rest)) ≡ Some so_far
items_in-all so_far [] none = ap Some (append-nil so_far)
items_in-all so_far (a ∷ rest) none = absurd (omega arith)

-- before the first two there are none
pub items_in-front : (so_far : List (ℤ × ℕ)) (items : Option (List (ℤ × ℕ))) → so_far ≡ [] → items ≡ option_map (λ more. so_far ++ more) items
items_in-front so_far (Some more) none = rw none refl
items_in-front so_far None none = refl
