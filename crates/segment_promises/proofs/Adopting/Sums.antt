-- Sums over keys: what is no more for each key is no more in all; and what is counted under keys of which each occurs once.
use Rattle.segment_invariant.proofs.Prelude.Std.{◌≡◌, ◌≢◌, ℕ, zero, suc, ◌+◌, ◌≤◌, ℤ, Bool, true, false, not, cond, if◌then◌else◌, List, [], ◌∷◌, length, filter, sum_by, refl, sym, ap, ◌∙◌, arith, some, get_elem?, int_eq, Decides-int_eq, sum_by-cons}
use Rattle.std.proofs.lemmas.List.Sums.{sum_by-le-sum_by}
use Rattle.segment_invariant.proofs.Lists.FewTerms.{sum_none}
use Rattle.segment_promises.proofs.Readings.Keys.{int_test}

-- ---- by keys

module _ {X : Type 0} (key : X → ℤ) (weight : X → ℕ) where
  -- what is under a key, and the others
  abbrev pub under : List X → ℤ → ℕ
  under list k = sum_by (λ x. if int_eq (key x) k then weight x else 0) list

  abbrev others : ℤ → List X → List X
  others k list = filter (λ x. not (int_eq (key x) k)) list

  -- all are these
  parts : (k : ℤ) (list : List X) → sum_by weight list ≡ under list k + sum_by weight (others k list)
  parts k [] = refl
  parts k (x ∷ rest) =
      let all = sum_by-cons weight x rest in
      let mine = sum_by-cons (λ x. if int_eq (key x) k then weight x else 0) x rest in
      let behind = parts k rest in
      by_test (int_eq (key x) k) all mine behind
    where
      by_test : (b : Bool) → sum_by weight (x ∷ rest) ≡ weight x + sum_by weight rest
          → under (x ∷ rest) k ≡ (if b then weight x else 0) + under rest k → sum_by weight rest ≡ under rest k + sum_by weight (others k rest)
          → sum_by weight (x ∷ rest) ≡ under (x ∷ rest) k + sum_by weight (cond (not b) (x ∷ others k rest) (others k rest))
      by_test true all mine behind = omega (arith, all, mine, behind)
      by_test false all mine behind = let one = sum_by-cons weight x (others k rest) in omega (arith, all, mine, behind, one)

  -- under another key the number is unchanged
  others_else : (k l : ℤ) (list : List X) → k ≢ l → under (others k list) l ≡ under list l
  others_else k l [] ne = refl
  others_else k l (x ∷ rest) ne =
      let counts = λ (x : X). if int_eq (key x) l then weight x else 0 in
      let behind = others_else k l rest ne in
      by_test (int_eq (key x) k) refl (sum_by-cons counts x rest) behind
    where
      by_test : (b : Bool) → int_eq (key x) k ≡ b → under (x ∷ rest) l ≡ (if int_eq (key x) l then weight x else 0) + under rest l
          → under (others k rest) l ≡ under rest l → under (cond (not b) (x ∷ others k rest) (others k rest)) l ≡ under (x ∷ rest) l
      by_test true is whole behind =
          let none = int_test (key x) l (weight x) (λ same. ne (sym ((Decides-int_eq (key x) k).0 is) ∙ same)) in
          omega (arith, whole, behind, none)
      by_test false is whole behind =
          let one = sum_by-cons (λ (x : X). if int_eq (key x) l then weight x else 0) x (others k rest) in
          omega (arith, whole, behind, one)

  -- under that key there is nothing more
  others_none : (k : ℤ) (list : List X) → under (others k list) k ≡ 0
  others_none k [] = refl
  others_none k (x ∷ rest) = by_test (int_eq (key x) k) refl (others_none k rest)
    where
      by_test : (b : Bool) → int_eq (key x) k ≡ b → under (others k rest) k ≡ 0 → under (cond (not b) (x ∷ others k rest) (others k rest)) k ≡ 0
      by_test true is behind = behind
      by_test false is behind =
          let one = sum_by-cons (λ (x : X). if int_eq (key x) k then weight x else 0) x (others k rest) in
          let none = ap (λ (b : Bool). if b then weight x else 0) is in
          omega (arith, behind, one, none)

  fewer : (k : ℤ) (list : List X) → length (others k list) ≤ length list
  fewer k [] = omega arith
  fewer k (x ∷ rest) = by_test (not (int_eq (key x) k)) (fewer k rest)
    where
      by_test : (b : Bool) → length (others k rest) ≤ length rest → length (cond b (x ∷ others k rest) (others k rest)) ≤ suc (length rest)
      by_test true few = omega (arith, few)
      by_test false few = omega (arith, few)

  -- its own key is no other
  first_out : (x : X) (rest : List X) → others (key x) (x ∷ rest) ≡ others (key x) rest
  first_out x rest = ap (λ (b : Bool). cond (not b) (x ∷ others (key x) rest) (others (key x) rest)) ((Decides-int_eq (key x) (key x)).1 refl)

-- what is no more for each key is no more in all
module _ {X Y : Type 0} (key : X → ℤ) (weight : X → ℕ) (lock : Y → ℤ) (value : Y → ℕ) where
  covered_by : (n : ℕ) (xs : List X) (ys : List Y) → length xs ≤ n → ((k : ℤ) → under key weight xs k ≤ under lock value ys k)
      → sum_by weight xs ≤ sum_by value ys
  covered_by n [] ys few each = omega arith
  covered_by zero (x ∷ rest) ys few each = absurd (omega (arith, few))
  covered_by (suc n) (x ∷ rest) ys few each =
      let k : ℤ = key x in
      let mine = parts key weight k (x ∷ rest) in
      let theirs = parts lock value k ys in
      let here = each k in
      let less = fewer key weight k rest in
      let out = ap length (first_out key weight x rest) in
      let behind = covered_by n (others key weight k (x ∷ rest)) (others lock value k ys) (omega (arith, few, less, out)) still in
      omega (arith, mine, theirs, here, behind)
    where
      still : (l : ℤ) → under key weight (others key weight (key x) (x ∷ rest)) l ≤ under lock value (others lock value (key x) ys) l
      still l = by_test (int_eq (key x) l) refl
        where
          by_test : (b : Bool) → int_eq (key x) l ≡ b
              → under key weight (others key weight (key x) (x ∷ rest)) l ≤ under lock value (others lock value (key x) ys) l
          by_test true is =
              let none = ap (under key weight (others key weight (key x) (x ∷ rest))) (sym ((Decides-int_eq (key x) l).0 is))
              ∙ others_none key weight (key x) (x ∷ rest) in
              omega (arith, none)
          by_test false is =
              let ne : key x ≢ l = λ same. cc (sym is ∙ (Decides-int_eq (key x) l).1 same) in
              let mine = others_else key weight (key x) l (x ∷ rest) ne in
              let theirs = others_else lock value (key x) l ys ne in
              let here = each l in
              omega (arith, mine, theirs, here)

  pub covered : (xs : List X) (ys : List Y) → ((k : ℤ) → under key weight xs k ≤ under lock value ys k) → sum_by weight xs ≤ sum_by value ys
  covered xs ys = covered_by (length xs) xs ys (omega arith)

-- ---- by tests of which at most one passes

pub sum_both : {X : Type 0} (f g : X → ℕ) (list : List X) → sum_by (λ x. f x + g x) list ≡ sum_by f list + sum_by g list
sum_both f g [] = refl
sum_both f g (x ∷ rest) =
    let both = sum_by-cons (λ x. f x + g x) x rest in
    let one = sum_by-cons f x rest in
    let two = sum_by-cons g x rest in
    let behind = sum_both f g rest in
    omega (arith, both, one, two, behind)

module _ {K E : Type 0} (test : K → E → Bool) (value : E → ℕ) where
  -- at most one of these passes the test of each
  abbrev pub PassesOnce : List K → Type 0
  PassesOnce keys = (e : E) (i j : ℕ) (k l : K) → get_elem? keys i ≡ some k → get_elem? keys j ≡ some l → test k e ≡ true → test l e ≡ true → i ≡ j

  one_most : (keys : List K) (e : E) → PassesOnce keys → sum_by (λ k. if test k e then value e else 0) keys ≤ value e
  one_most [] e once = omega arith
  one_most (k ∷ rest) e once =
      by_test (test k e) refl (sum_by-cons (λ k. if test k e then value e else 0) k rest)
      (one_most rest e (λ d i j l m at there one other. let same = once d (suc i) (suc j) l m at there one other in omega (arith, same)))
    where
      fails : (b c : Bool) → b ≡ c → c ≡ false → (if b then value e else 0) ≡ 0
      fails b c is not_so = ap (λ (b : Bool). if b then value e else 0) (is ∙ not_so)

      by_test : (b : Bool) → test k e ≡ b → sum_by (λ k. if test k e then value e else 0) (k ∷ rest) ≡ (if b then value e else 0) + sum_by (λ k. if test k e then value e else 0) rest
          → sum_by (λ k. if test k e then value e else 0) rest ≤ value e → sum_by (λ k. if test k e then value e else 0) (k ∷ rest) ≤ value e
      by_test true passes whole behind =
          let none = sum_none (λ k. if test k e then value e else 0) rest (λ j l there _. by_other j l there (test l e) refl) in
          omega (arith, whole, none)
        where
          by_other : (j : ℕ) (l : K) → get_elem? rest j ≡ some l → (b : Bool) → test l e ≡ b → (if test l e then value e else 0) ≡ 0
          by_other j l there true also = let same = once e 0 (suc j) k l refl there passes also in absurd (omega (arith, same))
          by_other j l there false not_so = fails (test l e) false not_so refl
      by_test false not_so whole behind = omega (arith, whole, behind)

  pub spread_out : (keys : List K) (list : List E) → PassesOnce keys
      → sum_by (λ k. sum_by (λ e. if test k e then value e else 0) list) keys ≤ sum_by value list
  spread_out keys [] once = let none = sum_none (λ (k : K). 0) keys (λ j k there _. refl) in omega (arith, none)
  spread_out keys (e ∷ rest) once =
      let here = λ (k : K). if test k e then value e else 0 in
      let behind = λ (k : K). sum_by (λ e. if test k e then value e else 0) rest in
      let each = sum_by-le-sum_by (λ k. sum_by (λ e. if test k e then value e else 0) (e ∷ rest)) (λ k. here k + behind k) keys
      (λ k. let one = sum_by-cons (λ e. if test k e then value e else 0) e rest in omega (arith, one)) in
      let both = sum_both here behind keys in
      let one = one_most keys e once in
      let others = spread_out keys rest once in
      let whole = sum_by-cons value e rest in
      omega (arith, each, both, one, others, whole)
