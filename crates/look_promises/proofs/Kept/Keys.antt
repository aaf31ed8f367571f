-- Lists of numbers with keys: if one has no more of each key than another, it has no more in all; and if it has no less in all either, both
-- have the same of each.
use Rattle.segment_invariant.proofs.Prelude.Std.{◌≡◌, ℕ, zero, suc, ◌+◌, ◌≤◌, Bool, true, false, not, cond, ℤ, List, [], ◌∷◌, length, refl, sym, ap, ◌∙◌, arith, if◌then◌else◌, sum_by, sum_by-cons, filter, int_eq, Decides-int_eq, ◌&&◌}
use Rattle.segment_invariant.proofs.Prelude.Machine.{Entry, is_of, tally_units}

module _ {X : Type 0} (key : X → ℤ) (weight : X → ℕ) where
  -- what of a list has a key, and all of it
  abbrev pub held : List X → ℤ → ℕ
  held xs k = sum_by (λ x. if int_eq (key x) k then weight x else 0) xs

  abbrev pub all : List X → ℕ
  all xs = sum_by weight xs

  -- what has another key
  abbrev pub without : ℤ → List X → List X
  without k xs = filter (λ x. not (int_eq (key x) k)) xs

  held_more : (x : X) (rest : List X) (k : ℤ) → held (x ∷ rest) k ≡ (if int_eq (key x) k then weight x else 0) + held rest k
  held_more x rest k = sum_by-cons (λ x. if int_eq (key x) k then weight x else 0) x rest

  pub split : (k : ℤ) (xs : List X) → held xs k + all (without k xs) ≡ all xs
  split k [] = refl
  split k (x ∷ rest) = by_key (int_eq (key x) k) refl (split k rest)
    where
      by_key : (b : Bool) → int_eq (key x) k ≡ b → held rest k + all (without k rest) ≡ all rest
          → held (x ∷ rest) k + all (cond (not b) (x ∷ without k rest) (without k rest)) ≡ all (x ∷ rest)
      by_key true is others =
          let more = held_more x rest k in
          let mine : (if int_eq (key x) k then weight x else 0) ≡ weight x = ap (λ (b : Bool). if b then weight x else 0) is in
          let whole = sum_by-cons weight x rest in
          omega (arith, more, mine, whole, others)
      by_key false is others =
          let more = held_more x rest k in
          let mine : (if int_eq (key x) k then weight x else 0) ≡ 0 = ap (λ (b : Bool). if b then weight x else 0) is in
          let whole = sum_by-cons weight x rest in
          let left = sum_by-cons weight x (without k rest) in
          omega (arith, more, mine, whole, left, others)

  -- of another key it leaves all
  pub held_left : (k j : ℤ) (xs : List X) → held (without k xs) j ≡ (if int_eq j k then 0 else held xs j)
  held_left k j [] = by_key (int_eq j k)
    where
      by_key : (b : Bool) → held [] j ≡ (if b then 0 else held [] j)
      by_key true = refl
      by_key false = refl
  held_left k j (x ∷ rest) = by_keys (int_eq (key x) k) (int_eq j k) refl refl (held_left k j rest)
    where
      by_keys : (b d : Bool) → int_eq (key x) k ≡ b → int_eq j k ≡ d → held (without k rest) j ≡ (if int_eq j k then 0 else held rest j)
          → held (cond (not b) (x ∷ without k rest) (without k rest)) j ≡ (if d then 0 else held (x ∷ rest) j)
      by_keys true true mine same others = others ∙ ap (λ (b : Bool). if b then 0 else held rest j) same
      by_keys true false mine same others =
          let other : int_eq (key x) j ≡ false = no_other (int_eq (key x) j) refl in
          let more = held_more x rest j in
          let term : (if int_eq (key x) j then weight x else 0) ≡ 0 = ap (λ (b : Bool). if b then weight x else 0) other in
          let left = others ∙ ap (λ (b : Bool). if b then 0 else held rest j) same in
          omega (arith, more, term, left)
        where
          no_other : (b : Bool) → int_eq (key x) j ≡ b → int_eq (key x) j ≡ false
          no_other false is = is
          no_other true is =
              let at_j : key x ≡ j = (Decides-int_eq (key x) j).0 is in
              let at_k : key x ≡ k = (Decides-int_eq (key x) k).0 mine in
              absurd (cc (sym ((Decides-int_eq j k).1 (sym at_j ∙ at_k)) ∙ same))
      by_keys false true mine same others =
          let other : int_eq (key x) j ≡ false = no_other (int_eq (key x) j) refl in
          let more = held_more x (without k rest) j in
          let term : (if int_eq (key x) j then weight x else 0) ≡ 0 = ap (λ (b : Bool). if b then weight x else 0) other in
          let left = others ∙ ap (λ (b : Bool). if b then 0 else held rest j) same in
          omega (arith, more, term, left)
        where
          no_other : (b : Bool) → int_eq (key x) j ≡ b → int_eq (key x) j ≡ false
          no_other false is = is
          no_other true is =
              let at_j : key x ≡ j = (Decides-int_eq (key x) j).0 is in
              let at_k : j ≡ k = (Decides-int_eq j k).0 same in
              absurd (cc (sym ((Decides-int_eq (key x) k).1 (at_j ∙ at_k)) ∙ mine))
      by_keys false false mine same others =
          let more = held_more x (without k rest) j in
          let whole = held_more x rest j in
          let left = others ∙ ap (λ (b : Bool). if b then 0 else held rest j) same in
          omega (arith, more, whole, left)

  pub fewer : (k : ℤ) (xs : List X) → length (without k xs) ≤ length xs
  fewer k [] = omega arith
  fewer k (x ∷ rest) = by_key (int_eq (key x) k) (fewer k rest)
    where
      by_key : (b : Bool) → length (without k rest) ≤ length rest → length (cond (not b) (x ∷ without k rest) (without k rest)) ≤ length (x ∷ rest)
      by_key true less = omega (arith, less)
      by_key false less = omega (arith, less)

  -- the first one goes
  pub first_goes : (x : X) (rest : List X) → length (without (key x) (x ∷ rest)) ≤ length rest
  first_goes x rest =
      let same : int_eq (key x) (key x) ≡ true = (Decides-int_eq (key x) (key x)).1 refl in
      let less = fewer (key x) rest in
      let is : length (without (key x) (x ∷ rest)) ≡ length (without (key x) rest) =
      ap (λ (b : Bool). length (cond (not b) (x ∷ without (key x) rest) (without (key x) rest))) same in
      omega (arith, less, is)

  -- if there is nothing of each key there is nothing
  pub nothing_held : (xs : List X) → ((k : ℤ) → held xs k ≤ 0) → all xs ≡ 0
  nothing_held [] none_there = refl
  nothing_held (x ∷ rest) none_there =
      let same : int_eq (key x) (key x) ≡ true = (Decides-int_eq (key x) (key x)).1 refl in
      let more = held_more x rest (key x) in
      let mine : (if int_eq (key x) (key x) then weight x else 0) ≡ weight x = ap (λ (b : Bool). if b then weight x else 0) same in
      let here = none_there (key x) in
      let others = nothing_held rest (λ k. let both = held_more x rest k in let less = none_there k in omega (arith, both, less)) in
      let whole = sum_by-cons weight x rest in
      omega (arith, more, mine, here, others, whole)

-- ---- two lists

module _ {X Y : Type 0} (key : X → ℤ) (weight : X → ℕ) (its_key : Y → ℤ) (its_weight : Y → ℕ) where
  abbrev IsBelow : List X → List Y → Type 0
  IsBelow xs ys = (k : ℤ) → held key weight xs k ≤ held its_key its_weight ys k

  below_without : (k : ℤ) (xs : List X) (ys : List Y) → IsBelow xs ys → IsBelow (without key weight k xs) (without its_key its_weight k ys)
  below_without k xs ys below j =
      let left = held_left key weight k j xs in
      let its_left = held_left its_key its_weight k j ys in
      let less = by_key (int_eq j k) (below j) in
      omega (arith, left, its_left, less)
    where
      by_key : (b : Bool) → held key weight xs j ≤ held its_key its_weight ys j
          → (if b then 0 else held key weight xs j) ≤ (if b then 0 else held its_key its_weight ys j)
      by_key true less = omega arith
      by_key false less = less

  pub in_all : (n : ℕ) (xs : List X) (ys : List Y) → length ys ≤ n → IsBelow xs ys → all key weight xs ≤ all its_key its_weight ys
  in_all n xs [] few below = let nothing = nothing_held key weight xs below in omega (arith, nothing)
  in_all zero xs (y ∷ rest) few below = absurd (omega (arith, few))
  in_all (suc n) xs (y ∷ rest) few below =
      let k = its_key y in
      let less = first_goes its_key its_weight y rest in
      let others = in_all n (without key weight k xs) (without its_key its_weight k (y ∷ rest)) (omega (arith, few, less)) (below_without k xs (y ∷ rest) below) in
      let mine = split key weight k xs in
      let its = split its_key its_weight k (y ∷ rest) in
      let here = below k in
      omega (arith, others, mine, its, here)

  pub same_each : (xs : List X) (ys : List Y) → IsBelow xs ys → all its_key its_weight ys ≤ all key weight xs → (k : ℤ)
      → held its_key its_weight ys k ≡ held key weight xs k
  same_each xs ys below most k =
      let others = in_all (length (without its_key its_weight k ys)) (without key weight k xs) (without its_key its_weight k ys) (omega arith) (below_without k xs ys below) in
      let mine = split key weight k xs in
      let its = split its_key its_weight k ys in
      let here = below k in
      omega (arith, others, mine, its, here, most)

-- ---- entries

-- the units of an entry, if it is of a name
abbrev pub units_named : List ℕ → Entry → ℕ
units_named name e = if is_of name e then e.units else 0

flip : (b c : Bool) (n : ℕ) → (if c then (if b then n else 0) else 0) ≡ (if b && c then n else 0)
flip true true n = refl
flip true false n = refl
flip false true n = refl
flip false false n = refl

-- those of a key are its tally
pub as_tally : (name : List ℕ) (entries : List Entry) (k : ℤ) → held (λ (e : Entry). e.key) (units_named name) entries k ≡ tally_units entries name k
as_tally name entries k = λ j. sum_by (λ (e : Entry). flip (is_of name e) (int_eq e.key k) e.units j) entries
