-- Lists of units that have the same of each key have the same in all.
use Rattle.std.proofs.Common.{◌≡◌, ◌∙◌, ℕ, zero, suc, ◌+◌, ◌≤◌, ℤ, Bool, true, false, if◌then◌else◌, List, [], ◌∷◌, ◌++◌, map, length, refl, ap, subst, arith}
use Rattle.std.specs.Prelude.{◌&&◌, sum_by}
use Rattle.std.specs.Bool.{Decides}
use Rattle.std.specs.Ordering.{int_eq}
use Rattle.std.specs.Str.{bytes_eq}
use Rattle.std.proofs.lemmas.Bool.{and_parts}
use Rattle.std.proofs.lemmas.Bool.Decides.{Decides-int_eq}
use Rattle.std.proofs.lemmas.List.Sums.{sum_by-append, sum_by-cons}
use Rattle.std.proofs.lemmas.Slice.Eq.{bytes_eq-Decides}
use Rattle.bucket_ranges.specs.Tally.{units_of}
use Rattle.segment_machine.specs.Actor.{units_listed}

module _ {K : Type 0} (same : K → K → Bool) (decides : (x y : K) → Decides (same x y) (x ≡ y)) where
  -- the units of a key
  abbrev pub of_key : List (K × ℕ) → K → ℕ
  of_key list key = sum_by (λ (each : K × ℕ). if same each.0 key then each.1 else 0) list

  -- all units
  abbrev pub in_all : List (K × ℕ) → ℕ
  in_all list = sum_by (λ (each : K × ℕ). each.1) list

  -- those of other keys
  abbrev others : K → List (K × ℕ) → List (K × ℕ)
  others key [] = []
  others key (each ∷ list) = if same each.0 key then others key list else each ∷ others key list

  others_fit : (key : K) (list : List (K × ℕ)) → length (others key list) ≤ length list
  others_fit key [] = omega arith
  others_fit key (each ∷ list) = one (same each.0 key) (others_fit key list)
    where
      one : (b : Bool) → length (others key list) ≤ length list → length (if b then others key list else each ∷ others key list) ≤ length (each ∷ list)
      one true fit = omega (arith, fit)
      one false fit = omega (arith, fit)

  -- all are those of a key and those of other keys
  parted : (key : K) (list : List (K × ℕ)) → in_all list ≡ of_key list key + in_all (others key list)
  parted key [] = refl
  parted key (each ∷ list) =
      let rest = parted key list in
      let all = sum_by-cons (λ (one : K × ℕ). one.1) each list in
      let its = sum_by-cons (λ (one : K × ℕ). if same one.0 key then one.1 else 0) each list in
      let either = one (same each.0 key) in
      omega (arith, rest, all, its, either)
    where
      one : (b : Bool) → each.1 + in_all (others key list) ≡ (if b then each.1 else 0) + in_all (if b then others key list else each ∷ others key list)
      one true = refl
      one false = let cons = sum_by-cons (λ (one : K × ℕ). one.1) each (others key list) in omega (arith, cons)

  -- there the key has none
  none_left : (key : K) (list : List (K × ℕ)) → of_key (others key list) key ≡ 0
  none_left key [] = refl
  none_left key (each ∷ list) = one (same each.0 key) refl (none_left key list)
    where
      one : (b : Bool) → same each.0 key ≡ b → of_key (others key list) key ≡ 0 → of_key (if b then others key list else each ∷ others key list) key ≡ 0
      one true is rest = rest
      one false is rest =
          let cons = sum_by-cons (λ (one : K × ℕ). if same one.0 key then one.1 else 0) each (others key list) in
          let its : (if same each.0 key then each.1 else 0) ≡ 0 = ap (λ (b : Bool). if b then each.1 else 0) is in
          omega (arith, cons, its, rest)

  -- and another key has its units
  all_left : (key other : K) (list : List (K × ℕ)) → same key other ≡ false → of_key (others key list) other ≡ of_key list other
  all_left key other [] not_same = refl
  all_left key other (each ∷ list) not_same = one (same each.0 key) refl (all_left key other list not_same)
    where
      cons : of_key (each ∷ list) other ≡ (if same each.0 other then each.1 else 0) + of_key list other
      cons = sum_by-cons (λ (one : K × ℕ). if same one.0 other then one.1 else 0) each list

      one : (b : Bool) → same each.0 key ≡ b → of_key (others key list) other ≡ of_key list other
          → of_key (if b then others key list else each ∷ others key list) other ≡ of_key (each ∷ list) other
      one true is rest =
          let its : (if same each.0 other then each.1 else 0) ≡ 0 =
          ap (λ (k : K). if same k other then each.1 else 0) ((decides each.0 key).0 is) ∙ ap (λ (b : Bool). if b then each.1 else 0) not_same in
          omega (arith, cons, its, rest)
      one false is rest =
          let kept = sum_by-cons (λ (one : K × ℕ). if same one.0 other then one.1 else 0) each (others key list) in
          omega (arith, cons, kept, rest)

  -- where no key has more, there are no more in all
  no_more : (n : ℕ) (list more : List (K × ℕ)) → length list ≤ n → ((key : K) → of_key list key ≤ of_key more key) → in_all list ≤ in_all more
  no_more n [] more room each = omega arith
  no_more zero (first ∷ list) more room each = absurd (omega (arith, room))
  no_more (suc n) (first ∷ list) more room each =
      let key : K = first.0 in
      let itself = (decides key key).1 refl in
      let one = parted key (first ∷ list) in
      let two = parted key more in
      let its = each key in
      let gone : in_all (others key (first ∷ list)) ≡ in_all (others key list) =
      ap (λ (b : Bool). in_all (if b then others key list else first ∷ others key list)) itself in
      let rest = no_more n (others key list) (others key more) (omega (arith, room, others_fit key list)) (still key itself) in
      omega (arith, one, two, its, gone, rest)
    where
      still : (key : K) → same first.0 key ≡ true → (other : K) → of_key (others key list) other ≤ of_key (others key more) other
      still key itself other = case (same key other) refl
        where
          case : (b : Bool) → same key other ≡ b → of_key (others key list) other ≤ of_key (others key more) other
          case true is =
              let none : of_key (others key list) other ≡ 0 = subst (λ (k : K). of_key (others key list) k ≡ 0) ((decides key other).0 is) (none_left key list) in
              omega (arith, none)
          case false is =
              let mine = all_left key other list is in
              let its = all_left key other more is in
              let cons = sum_by-cons (λ (one : K × ℕ). if same one.0 other then one.1 else 0) first list in
              let not_first : (if same first.0 other then first.1 else 0) ≡ 0 =
              ap (λ (k : K). if same k other then first.1 else 0) ((decides first.0 key).0 itself) ∙ ap (λ (b : Bool). if b then first.1 else 0) is in
              let whole = each other in
              omega (arith, mine, its, cons, not_first, whole)

  pub same_in_all : (list more : List (K × ℕ)) → ((key : K) → of_key list key ≡ of_key more key) → in_all list ≡ in_all more
  same_in_all list more each =
      let up = no_more (length list) list more (omega arith) (λ key. let its = each key in omega (arith, its)) in
      let down = no_more (length more) more list (omega arith) (λ key. let its = each key in omega (arith, its)) in
      omega (arith, up, down)

-- ---- of names and keys

-- whether two names and keys are the same
abbrev same_named : List ℕ × ℤ → List ℕ × ℤ → Bool
same_named one other = bytes_eq one.0 other.0 && int_eq one.1 other.1

named_decides : (x y : List ℕ × ℤ) → Decides (same_named x y) (x ≡ y)
named_decides x y = (
  (λ both.
      let parts = and_parts (bytes_eq x.0 y.0) (int_eq x.1 y.1) both in
      let name = (bytes_eq-Decides x.0 y.0).0 parts.0 in
      let key = (Decides-int_eq x.1 y.1).0 parts.1 in
      (λ i. (name i, key i))),
  (λ same. (λ i. (bytes_eq-Decides x.0 y.0).1 (ap (λ (one : List ℕ × ℤ). one.0) same) i && (Decides-int_eq x.1 y.1).1 (ap (λ (one : List ℕ × ℤ). one.1) same) i)),
)

-- under a name, the units of each key
abbrev under : List ℕ → List (ℤ × ℕ) → List ((List ℕ × ℤ) × ℕ)
under name counts = map (λ (count : ℤ × ℕ). ((name, count.0), count.1)) counts

under_of_key : (name other : List ℕ) (key : ℤ) (counts : List (ℤ × ℕ))
    → of_key same_named named_decides (under name counts) (other, key) ≡ (if bytes_eq name other then units_listed counts key else 0)
under_of_key name other key [] = by (bytes_eq name other)
  where
    by : (b : Bool) → ◌≡◌ {A = ℕ} 0 (if b then 0 else 0)
    by true = refl
    by false = refl
under_of_key name other key (count ∷ counts) =
    let rest = under_of_key name other key counts in
    let cons = sum_by-cons (λ (one : (List ℕ × ℤ) × ℕ). if same_named one.0 (other, key) then one.1 else 0) ((name, count.0), count.1) (under name counts) in
    let its = sum_by-cons (λ (one : ℤ × ℕ). if int_eq one.0 key then one.1 else 0) count counts in
    let both = by (bytes_eq name other) (int_eq count.0 key) count.1 (units_listed counts key) in
    let whole : (if bytes_eq name other then units_listed (count ∷ counts) key else 0)
    ≡ (if bytes_eq name other then (if int_eq count.0 key then count.1 else 0) + units_listed counts key else 0) =
    ap (λ (n : ℕ). if bytes_eq name other then n else 0) its in
    omega (arith, rest, cons, both, whole)
  where
    by : (b c : Bool) (n m : ℕ) → (if b then (if c then n else 0) + m else 0) ≡ (if b && c then n else 0) + (if b then m else 0)
    by true c n m = refl
    by false c n m = refl

under_in_all : (name : List ℕ) (counts : List (ℤ × ℕ)) → in_all same_named named_decides (under name counts) ≡ units_of counts
under_in_all name [] = refl
under_in_all name (count ∷ counts) =
    let rest = under_in_all name counts in
    let cons = sum_by-cons (λ (one : (List ℕ × ℤ) × ℕ). one.1) ((name, count.0), count.1) (under name counts) in
    let its = sum_by-cons (λ (one : ℤ × ℕ). one.1) count counts in
    omega (arith, rest, cons, its)

module _ {H : Type 0} (name : H → List ℕ) (counts : H → List (ℤ × ℕ)) where
  -- the units of each name and key
  abbrev pub entries : List H → List ((List ℕ × ℤ) × ℕ)
  entries [] = []
  entries (h ∷ hists) = under (name h) (counts h) ++ entries hists

  -- what all have of a name and a key
  abbrev pub among : List H → List ℕ → ℤ → ℕ
  among hists other key = sum_by (λ (h : H). if bytes_eq (name h) other then units_listed (counts h) key else 0) hists

  entries_of_key : (other : List ℕ) (key : ℤ) (hists : List H) → of_key same_named named_decides (entries hists) (other, key) ≡ among hists other key
  entries_of_key other key [] = refl
  entries_of_key other key (h ∷ hists) =
      let rest = entries_of_key other key hists in
      let parts = sum_by-append (λ (one : (List ℕ × ℤ) × ℕ). if same_named one.0 (other, key) then one.1 else 0) (under (name h) (counts h)) (entries hists) in
      let first = under_of_key (name h) other key (counts h) in
      let cons = sum_by-cons (λ (one : H). if bytes_eq (name one) other then units_listed (counts one) key else 0) h hists in
      omega (arith, rest, parts, first, cons)

  entries_in_all : (hists : List H) → in_all same_named named_decides (entries hists) ≡ sum_by (λ (h : H). units_of (counts h)) hists
  entries_in_all [] = refl
  entries_in_all (h ∷ hists) =
      let rest = entries_in_all hists in
      let parts = sum_by-append (λ (one : (List ℕ × ℤ) × ℕ). one.1) (under (name h) (counts h)) (entries hists) in
      let first = under_in_all (name h) (counts h) in
      let cons = sum_by-cons (λ (one : H). units_of (counts one)) h hists in
      omega (arith, rest, parts, first, cons)

-- Where of each name and key these have what two others have together, so they have in all.
pub together_in_all : {A B C : Type 0} (name : A → List ℕ) (counts : A → List (ℤ × ℕ)) (its_name : B → List ℕ) (its_counts : B → List (ℤ × ℕ))
    (further_name : C → List ℕ) (further : C → List (ℤ × ℕ)) (all : List A) (ones : List B) (others : List C)
    → ((other : List ℕ) (key : ℤ) → among name counts all other key ≡ among its_name its_counts ones other key + among further_name further others other key)
    → sum_by (λ (a : A). units_of (counts a)) all ≡ sum_by (λ (b : B). units_of (its_counts b)) ones + sum_by (λ (c : C). units_of (further c)) others
together_in_all name counts its_name its_counts further_name further all ones others each =
    let list = entries name counts all in
    let front = entries its_name its_counts ones in
    let back = entries further_name further others in
    let total = same_in_all same_named named_decides list (front ++ back) (λ key.
    let whole = entries_of_key name counts key.0 key.1 all in
    let one = entries_of_key its_name its_counts key.0 key.1 ones in
    let two = entries_of_key further_name further key.0 key.1 others in
    let parts = sum_by-append (λ (one : (List ℕ × ℤ) × ℕ). if same_named one.0 key then one.1 else 0) front back in
    let its = each key.0 key.1 in
    omega (arith, whole, one, two, parts, its)) in
    let whole = entries_in_all name counts all in
    let one = entries_in_all its_name its_counts ones in
    let two = entries_in_all further_name further others in
    let parts = sum_by-append (λ (one : (List ℕ × ℤ) × ℕ). one.1) front back in
    omega (arith, total, whole, one, two, parts)
