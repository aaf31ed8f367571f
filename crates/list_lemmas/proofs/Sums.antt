-- Sums over lists, of anything that can be added: numbers, flags, or lists whose order does not matter. Two elements that together have
-- what two others had may take their place; so may one more, with an element, if the two together have what that element had.
use Rattle.std.proofs.Common.{◌≡◌, ℕ, ◌+◌, Bool, true, false, ◌||◌, ℤ, pos, ◌+ℤ◌, List, [], ◌∷◌, ◌++◌, map, sym, refl, ap, ◌∙◌, subst, append_assoc, append-nil, arith}
use Rattle.std.specs.Prelude.{fold, IsPermutation}
use Rattle.std.proofs.Math.Bool.{or_assoc, or_comm}
use Rattle.std.proofs.Math.IntN.{+ℤ_assoc, +ℤ_comm, +ℤ_idl, +ℤ_idr}
use Rattle.std.proofs.lemmas.List.{map-append}
use Rattle.std.proofs.lemmas.List.Sums.{fold-append}
use Rattle.std.proofs.lemmas.List.Sorted.{IsPermutation-refl, IsPermutation-sym, IsPermutation-trans, IsPermutation-append, IsPermutation-append_comm}

-- an addition, up to a relation: neither order nor brackets are of any account
pub record IsAddition {M : Type 0} (same : M → M → Type 0) (add : M → M → M) : Type 0 where
  pub itself : (x : M) → same x x
  pub back : (x y : M) → same x y → same y x
  pub along : (x y z : M) → same x y → same y z → same x z
  pub both : (x x' y y' : M) → same x x' → same y y' → same (add x y) (add x' y')
  pub brackets : (x y z : M) → add (add x y) z ≡ add x (add y z)
  pub order : (x y : M) → same (add x y) (add y x)

-- a sum over lists: that of two lists in a row is the sum of both
abbrev pub IsTotal : {A M : Type 0} → (M → M → M) → (List A → M) → Type 0
IsTotal {A} {M} add total = (xs ys : List A) → total (xs ++ ys) ≡ add (total xs) (total ys)

module _ {A M : Type 0} (same : M → M → Type 0) (add : M → M → M) (total : List A → M) (is : IsAddition same add) (sums : IsTotal add total) where
  equal : (x y : M) → x ≡ y → same x y
  equal x y e = subst (same x) e (is.itself x)

  -- of three summands the last two may change places
  turned : (x y z : M) → same (add x (add y z)) (add x (add z y))
  turned x y z = is.both x x (add y z) (add z y) (is.itself x) (is.order y z)

  -- an element further down the list may as well be second
  second : (a b : A) (mid behind : List A) → same (total (a ∷ (mid ++ b ∷ behind))) (add (total (a ∷ b ∷ [])) (total (mid ++ behind)))
  second a b mid behind =
      let first = sums (a ∷ []) (mid ++ b ∷ behind) in
      let rest = sums mid (b ∷ behind) in
      let last = sums (b ∷ []) behind in
      let two = sums (a ∷ []) (b ∷ []) in
      let others = sums mid behind in
      let x : M = total (a ∷ []) in
      let y : M = total (b ∷ []) in
      let m : M = total mid in
      let n : M = total behind in
      let whole : total (a ∷ (mid ++ b ∷ behind)) ≡ add x (add m (add y n)) = first ∙ ap (add x) (rest ∙ ap (add m) last) in
      let inner : same (add m (add y n)) (add y (add m n)) =
      is.along _ _ _ (equal _ _ (sym (is.brackets m y n)))
      (is.along _ _ _ (is.both _ _ _ _ (is.order m y) (is.itself n)) (equal _ _ (is.brackets y m n))) in
      is.along _ _ _ (equal _ _ whole)
      (is.along _ _ _ (is.both _ _ _ _ (is.itself x) inner)
      (equal _ _ (sym (is.brackets x y (add m n)) ∙ ap (λ (z : M). add z (add m n)) (sym two) ∙ ap (add (total (a ∷ b ∷ []))) (sym others))))

  pub exchanged : (a b a' b' : A) (mid behind : List A) → same (total (a' ∷ b' ∷ [])) (total (a ∷ b ∷ []))
      → same (total (a' ∷ (mid ++ b' ∷ behind))) (total (a ∷ (mid ++ b ∷ behind)))
  exchanged a b a' b' mid behind e =
      is.along _ _ _ (second a' b' mid behind)
      (is.along _ _ _ (is.both _ _ _ _ e (is.itself (total (mid ++ behind)))) (is.back _ _ (second a b mid behind)))

  pub added : (a a' n : A) (rest : List A) → same (total (a' ∷ n ∷ [])) (total (a ∷ []))
      → same (total (a' ∷ (rest ++ n ∷ []))) (total (a ∷ rest))
  added a a' n rest e =
      is.along _ _ _ (second a' n rest [])
      (is.along _ _ _ (is.both _ _ _ _ e (equal _ _ (ap total (append-nil rest))))
      (equal _ _ (sym (sums (a ∷ []) rest))))

-- ---- what is added

pub numbers : IsAddition {M = ℕ} ◌≡◌ ◌+◌
numbers = record {
  itself = λ x. refl;
  back = λ x y e. sym e;
  along = λ x y z e f. e ∙ f;
  both = λ x x' y y' e f. omega (arith, e, f);
  brackets = λ x y z. omega arith;
  order = λ x y. omega arith;
}

pub amounts : IsAddition {M = ℤ} ◌≡◌ ◌+ℤ◌
amounts = record {
  itself = λ x. refl;
  back = λ x y e. sym e;
  along = λ x y z e f. e ∙ f;
  both = λ x x' y y' e f. ap (λ (z : ℤ). z +ℤ y) e ∙ ap (λ (z : ℤ). x' +ℤ z) f;
  brackets = +ℤ_assoc;
  order = +ℤ_comm;
}

pub flags : IsAddition {M = Bool} ◌≡◌ ◌||◌
flags = record {
  itself = λ x. refl;
  back = λ x y e. sym e;
  along = λ x y z e f. e ∙ f;
  both = λ x x' y y' e f. ap (λ (z : Bool). z || y) e ∙ ap (λ (z : Bool). x' || z) f;
  brackets = or_assoc;
  order = or_comm;
}

pub lists : {X : Type 0} → IsAddition {M = List X} IsPermutation ◌++◌
lists {X} = record {
  itself = IsPermutation-refl;
  back = IsPermutation-sym;
  along = IsPermutation-trans;
  both = λ x x' y y' e f. IsPermutation-append x x' y y' e f;
  brackets = append_assoc;
  order = IsPermutation-append_comm;
}

-- ---- sums over lists

pub flags_total : {A : Type 0} (f : A → Bool) → IsTotal ◌||◌ (λ xs. fold ◌||◌ false (map f xs))
flags_total f xs ys = ap (fold ◌||◌ false) (map-append f xs ys) ∙ fold-append ◌||◌ false (map f xs) (map f ys) ∙ onward (fold ◌||◌ false (map f xs)) (map f ys)
  where
    onward : (b : Bool) (zs : List Bool) → fold ◌||◌ b zs ≡ (b || fold ◌||◌ false zs)
    onward true [] = refl
    onward false [] = refl
    onward b (z ∷ zs) = onward (b || z) zs ∙ or_assoc b z (fold ◌||◌ false zs) ∙ ap (λ (x : Bool). b || x) (sym (onward z zs))

pub amounts_total : {X : Type 0} (g : X → ℤ) → IsTotal ◌+ℤ◌ (λ xs. fold ◌+ℤ◌ (pos 0) (map g xs))
amounts_total g xs ys = ap (fold ◌+ℤ◌ (pos 0)) (map-append g xs ys) ∙ fold-append ◌+ℤ◌ (pos 0) (map g xs) (map g ys) ∙ onward (fold ◌+ℤ◌ (pos 0) (map g xs)) (map g ys)
  where
    onward : (c : ℤ) (zs : List ℤ) → fold ◌+ℤ◌ c zs ≡ c +ℤ fold ◌+ℤ◌ (pos 0) zs
    onward c [] = sym (+ℤ_idr c)
    onward c (z ∷ zs) =
        onward (c +ℤ z) zs ∙ +ℤ_assoc c z (fold ◌+ℤ◌ (pos 0) zs)
        ∙ ap (λ (x : ℤ). c +ℤ x) (sym (onward z zs) ∙ ap (λ (x : ℤ). fold ◌+ℤ◌ x zs) (sym (+ℤ_idl z)))
