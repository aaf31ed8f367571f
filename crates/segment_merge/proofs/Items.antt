-- What is left of the keys of a histogram, key by key.
use Rattle.std.proofs.Common.{◌≡◌, ◌∙◌, ℕ, ◌+◌, ◌-◌, ◌<◌, ℤ, List, [], ◌∷◌, ◌++◌, length, replicate, take, drop, get_or, true, false, inl, inr, ap, refl, sym, subst, arith}
use Rattle.std.specs.Prelude.{nat_lt}
use Rattle.std.specs.List.{Contains, filter_map}
use Rattle.std.proofs.Math.ListN.{get_or-append, get_or-eq_default}
use Rattle.std.proofs.Math.Seq.{get_or-append_right}
use Rattle.std.proofs.lemmas.Bool.{cases_lt}
use Rattle.std.proofs.lemmas.List.{append-nil, get_or-replicate, length-append, length-replicate, take-append-drop, take_more}
use Rattle.std.proofs.lemmas.List.Elements.{Contains-append_left, Contains-append_right, filter_map-append}
use Rattle.std.proofs.lemmas.Slice.Zip.{get_or-zip, length-zip}
use Rattle.segment_merge.specs.Remainder.{items_of, left_of, marked}

-- each key is paired with a mark
pub length-marked : (counts : List (ℤ × ℕ)) (marks : List ℕ) → length (marked counts marks) ≡ length counts
length-marked counts marks =
    let zeros : List ℕ = replicate (length counts) 0 in
    let both = length-append marks zeros in
    let many : length (replicate {A = ℕ} (length counts) 0) ≡ length counts = length-replicate (length counts) 0 in
    omega (arith, length-zip counts (marks ++ zeros), both, many)

-- which is 0 if there are no more
mark_at : (counts : List (ℤ × ℕ)) (marks : List ℕ) (i : ℕ) → i < length counts → get_or (marks ++ replicate (length counts) 0) i 0 ≡ get_or marks i 0
mark_at counts marks i near = elim (cases_lt i (length marks)) [
  | inl beside ↦ get_or-append marks (replicate (length counts) 0) 0 i beside
  | inr past ↦ get_or-append_right marks (replicate (length counts) 0) i 0 past
      ∙ get_or-replicate (length counts) (i - length marks) 0 0 (omega (arith, near, past))
      ∙ sym (get_or-eq_default marks 0 past)
]

-- what is left of the first keys
abbrev pub items_before : List (ℤ × ℕ) → List ℕ → ℕ → List (ℤ × ℕ)
items_before counts marks i = filter_map left_of (take i (marked counts marks))

-- one key more
next : (counts : List (ℤ × ℕ)) (marks : List ℕ) (i : ℕ) (d : ℤ × ℕ) → i < length counts
    → items_before counts marks (i + 1) ≡ items_before counts marks i ++ filter_map left_of ((get_or counts i d, get_or marks i 0) ∷ [])
next counts marks i d near =
    let all : List ℕ = marks ++ replicate (length counts) 0 in
    let long = length-append marks (replicate (length counts) 0) in
    let many : length (replicate {A = ℕ} (length counts) 0) ≡ length counts = length-replicate (length counts) 0 in
    ap (filter_map left_of) (take_more (marked counts marks) i (d, 0) (omega (arith, length-marked counts marks, near)))
    ∙ filter_map-append left_of (take i (marked counts marks)) (get_or (marked counts marks) i (d, 0) ∷ [])
    ∙ ap (λ last. items_before counts marks i ++ filter_map left_of (last ∷ [])) (get_or-zip counts all i (d, 0) near (omega (arith, long, many, near)))
    ∙ ap (λ mark. items_before counts marks i ++ filter_map left_of ((get_or counts i d, mark) ∷ [])) (mark_at counts marks i near)

-- of which something is left
pub items_before-some : (counts : List (ℤ × ℕ)) (marks : List ℕ) (i : ℕ) (d : ℤ × ℕ) (key : ℤ) (units mark : ℕ) → i < length counts
    → get_or counts i d ≡ (key, units) → get_or marks i 0 ≡ mark → nat_lt mark units ≡ true
    → items_before counts marks (i + 1) ≡ items_before counts marks i ++ (key, units - mark) ∷ []
items_before-some counts marks i d key units mark near count-is mark-is more =
    next counts marks i d near ∙ rw (count-is, mark-is, more) refl

-- of which nothing is left
pub items_before-none : (counts : List (ℤ × ℕ)) (marks : List ℕ) (i : ℕ) (d : ℤ × ℕ) (key : ℤ) (units mark : ℕ) → i < length counts
    → get_or counts i d ≡ (key, units) → get_or marks i 0 ≡ mark → nat_lt mark units ≡ false
    → items_before counts marks (i + 1) ≡ items_before counts marks i
items_before-none counts marks i d key units mark near count-is mark-is none =
    next counts marks i d near ∙ rw (count-is, mark-is, none) (append-nil (items_before counts marks i))

-- what is left of a key is left of all
pub item_among : (counts : List (ℤ × ℕ)) (marks : List ℕ) (i : ℕ) (d : ℤ × ℕ) (key : ℤ) (units mark : ℕ) → i < length counts
    → get_or counts i d ≡ (key, units) → get_or marks i 0 ≡ mark → nat_lt mark units ≡ true → Contains (items_of counts marks) (key, units - mark)
item_among counts marks i d key units mark near count-is mark-is more =
    let all : List ((ℤ × ℕ) × ℕ) = marked counts marks in
    let item : ℤ × ℕ = (key, units - mark) in
    let so_far : List (ℤ × ℕ) = items_before counts marks (i + 1) in
    let whole : items_of counts marks ≡ so_far ++ filter_map left_of (drop (i + 1) all) =
    ap (filter_map left_of) (sym (take-append-drop (i + 1) all)) ∙ filter_map-append left_of (take (i + 1) all) (drop (i + 1) all) in
    let last : Contains so_far item = subst (λ (list : List (ℤ × ℕ)). Contains list item)
    (sym (items_before-some counts marks i d key units mark near count-is mark-is more))
    (Contains-append_right (items_before counts marks i) (item ∷ []) item (0, omega arith, refl)) in
    subst (λ (list : List (ℤ × ℕ)). Contains list item) (sym whole) (Contains-append_left so_far (filter_map left_of (drop (i + 1) all)) item last)

-- a key with its units and its mark, which is 0 if there are no more
pub marked_at : (counts : List (ℤ × ℕ)) (marks : List ℕ) (i : ℕ) (d : ℤ × ℕ) → i < length counts
    → get_or (marked counts marks) i (d, 0) ≡ (get_or counts i d, get_or marks i 0)
marked_at counts marks i d near =
    let all : List ℕ = marks ++ replicate (length counts) 0 in
    let long = length-append marks (replicate (length counts) 0) in
    let many : length (replicate {A = ℕ} (length counts) 0) ≡ length counts = length-replicate (length counts) 0 in
    get_or-zip counts all i (d, 0) near (omega (arith, near, long, many))
    ∙ ap (λ (mark : ℕ). (get_or counts i d, mark)) (mark_at counts marks i near)
