-- The first element of a list that has a property: if one has it there is a first, there is only one, it stays the first, and a list that
-- is mapped has the same.
use Rattle.std.proofs.Common.{◌≡◌, List, [], ◌∷◌, ◌++◌, map, All, Contains, append_assoc, inl, inr, ◌⊎◌, ⊎_elim, refl, sym, ap, ◌∙◌, subst, arith}
use Rattle.std.proofs.lemmas.List.{map-append}
use Rattle.std.proofs.lemmas.List.Elements.{All-nil, All-cons, All-head, All-tail, All-map, All-contains, Contains-append_left, Contains-append_right}
use Rattle.list_lemmas.specs.Firsts.{ComesFirst, IsFirstThat}
use Rattle.list_lemmas.proofs.Elements.{all_of, at_from, split_at, split_map}
use Rattle.list_lemmas.proofs.Maps.{contains_map}

-- an element at which a list splits is on the list
pub split_among : {X : Type 0} {l : List X} {x : X} (front behind : List X) → l ≡ front ++ x ∷ behind → Contains l x
split_among {X} {l} {x} front behind split =
    subst (λ (l : List X). Contains l x) (sym split) (Contains-append_right front (x ∷ behind) x (0, omega arith, refl))

-- the first stays the first when the list becomes longer
pub first_longer : {X : Type 0} (P : X → Type 0) (l more : List X) (x : X) → IsFirstThat P l x → IsFirstThat P (l ++ more) x
first_longer {X} P l more x (front, behind, split, none, its) =
    (front, behind ++ more, ap (λ (l : List X). l ++ more) split ∙ append_assoc front (x ∷ behind) more, none, its)

-- there is one only
pub first_unique : {X : Type 0} (P : X → Type 0) (l : List X) (x y : X) → IsFirstThat P l x → IsFirstThat P l y → x ≡ y
first_unique {X} P l x y (xs, rest, is, before, here) (ys, more, also, others, there) = by_fronts xs ys (sym is ∙ also) before others
  where
    by_fronts : (xs ys : List X) → xs ++ x ∷ rest ≡ ys ++ y ∷ more → All (λ z. ¬ (P z)) xs → All (λ z. ¬ (P z)) ys → x ≡ y
    by_fronts [] [] e before others = cc e
    by_fronts [] (z ∷ ys) e before others = let same : x ≡ z = cc e in absurd (All-head (λ z. ¬ (P z)) z ys others (subst P same here))
    by_fronts (z ∷ xs) [] e before others = let same : z ≡ y = cc e in absurd (All-head (λ z. ¬ (P z)) z xs before (subst P (sym same) there))
    by_fronts (z ∷ xs) (w ∷ ys) e before others =
        let behind : xs ++ x ∷ rest ≡ ys ++ y ∷ more = cc e in
        by_fronts xs ys behind (All-tail (λ z. ¬ (P z)) z xs before) (All-tail (λ z. ¬ (P z)) w ys others)

-- there is a first one, or none
pub first_or_none : {X : Type 0} (P : X → Type 0) → ((x : X) → P x ⊎ (¬ (P x))) → (l : List X) → ((x : X) × IsFirstThat P l x) ⊎ All (λ x. ¬ (P x)) l
first_or_none P either [] = inr (All-nil _)
first_or_none {X} P either (x ∷ rest) = by_head (either x) (first_or_none P either rest)
  where
    by_head : P x ⊎ (¬ (P x)) → ((y : X) × IsFirstThat P rest y) ⊎ All (λ x. ¬ (P x)) rest
        → ((y : X) × IsFirstThat P (x ∷ rest) y) ⊎ All (λ x. ¬ (P x)) (x ∷ rest)
    by_head (inl here) others = inl (x, ([], rest, refl, All-nil _, here))
    by_head (inr absent) (inl (y, (front, behind, is, before, its))) =
        inl (y, (x ∷ front, behind, ap (λ (l : List X). x ∷ l) is, All-cons (λ x. ¬ (P x)) x front absent before, its))
    by_head (inr absent) (inr nobody) = inr (All-cons (λ x. ¬ (P x)) x rest absent nobody)

-- so if one has the property there is a first
pub first_there : {X : Type 0} (P : X → Type 0) → ((x : X) → P x ⊎ (¬ (P x))) → (l : List X) (x : X) → Contains l x → P x → (y : X) × IsFirstThat P l y
first_there P either l x there this =
    ⊎_elim (λ found. found) (λ nobody. absurd (All-contains (λ x. ¬ (P x)) l x nobody there this)) (first_or_none P either l)

-- ---- lists and what they map to

-- a property holds of an element, or of one before it
abbrev pub OrBefore : {X : Type 0} → (X → Type 0) → List X → X → Type 0
OrBefore {X} P front x = P x ⊎ ((y : X) × Contains front y × P y)

-- A property that holds of an image holds of its element, or of one before that.
module _ {X Y : Type 0} (f : X → Y) (l : List X) (P : X → Type 0) (Q : Y → Type 0)
    (from : (front behind : List X) (x : X) → l ≡ front ++ x ∷ behind → Q (f x) → OrBefore P front x) where
  -- So the image of the first element is the first image, if the property holds of that image.
  pub first_image : (x : X) → IsFirstThat P l x → Q (f x) → IsFirstThat Q (map f l) (f x)
  first_image x (xs, ys, split, none, its) told = (
    map f xs,
    map f ys,
    ap (map f) split ∙ map-append f xs (x ∷ ys),
    All-map (λ other. ¬ (Q other)) f xs (all_of (λ z. ¬ (Q (f z))) xs absent),
    told,
  )
    where
      absent : (z : X) → Contains xs z → Q (f z) → ⊥
      absent z there holds =
          let (i, place) = at_from xs z there in
          let (front, behind, is, others) = split_at xs i z place in
          ⊎_elim
          (λ here. All-contains (λ x. ¬ (P x)) xs z none there here)
          (λ (y, before, here). All-contains (λ x. ¬ (P x)) xs y none (subst (λ (list : List X). Contains list y) (sym is) (Contains-append_left front (z ∷ behind) y before)) here)
          (from front (behind ++ x ∷ ys) z (split ∙ (ap (λ (list : List X). list ++ x ∷ ys) is ∙ append_assoc front (z ∷ behind) (x ∷ ys))) holds)

  -- And the first image, before which the other property holds of each, is that of the first element.
  pub first_from : (Other : Y → Type 0) → ((x : X) → Contains l x → P x → Other (f x) → ⊥) → (y : Y) → ComesFirst Other Q (map f l) y
      → (x : X) × IsFirstThat P l x × (f x ≡ y)
  first_from Other apart y (front, behind, is, others, this) =
      let (xs, ys, x, split, before, here) = split_map f l front behind y is in
      let absent : All (λ x. ¬ (P x)) xs = all_of (λ x. ¬ (P x)) xs (λ z there holds.
      apart z (subst (λ (list : List X). Contains list z) (sym split) (Contains-append_left xs (x ∷ ys) z there)) holds
      (All-contains Other front (f z) others (subst (λ (list : List Y). Contains list (f z)) before (contains_map f xs z there)))) in
      let its = ⊎_elim (λ holds. holds) (λ (z, there, holds). absurd (All-contains (λ x. ¬ (P x)) xs z absent there holds))
      (from xs ys x split (subst Q (sym here) this)) in
      (x, (xs, ys, split, absent, its), here)
