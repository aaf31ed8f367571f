-- What is held of numbers that were visited along a list.
use Rattle.std.proofs.Common.{◌≡◌, ◌≢◌, ◌∙◌, ◌==◌, ℕ, Bool, true, false, List, [], ◌∷◌, ◌++◌, suc, map, Option, Some, None, if◌then◌else◌, refl, sym, ap, subst, arith, eq-eqb, ne_eqb}
use Rattle.std.specs.List.{All, AllPairs}
use Rattle.std.specs.Option.{option_or, unwrap_or}
use Rattle.std.proofs.lemmas.List.Elements.{All-nil, All-cons, All-head, All-tail}
use Rattle.std.proofs.lemmas.List.Kept.{AllPairs-cons}
use mathlib.Core.Logic.{dite}
use native.Mathlib.Decide.{ℕ_discrete}
use Rattle.list_index.specs.declared.firsts.Firsts.{Firsts}
use Rattle.list_index.specs.Firsts.{Met, IsUnchanged, Holds, all_of, first_met, first_of, is_grouping, met_in}
use Rattle.list_index.specs.Groups.{group_of}

-- ---- one more

first_more : (met : List Met) (at own key : ℕ)
    → first_met (met ++ (at, Some own) ∷ []) key ≡ option_or (first_met met key) (if own == key then Some at else None)
first_more [] at own key = refl
first_more ((r, None) ∷ rest) at own key = first_more rest at own key
first_more ((r, Some mine) ∷ rest) at own key = by (mine == key) (first_more rest at own key)
  where
    by : (b : Bool) → first_met (rest ++ (at, Some own) ∷ []) key ≡ option_or (first_met rest key) (if own == key then Some at else None)
        → (if b then Some r else first_met (rest ++ (at, Some own) ∷ []) key)
        ≡ option_or (if b then Some r else first_met rest key) (if own == key then Some at else None)
    by true behind = refl
    by false behind = behind

first_passed : (met : List Met) (at key : ℕ) → first_met (met ++ (at, None) ∷ []) key ≡ first_met met key
first_passed [] at key = refl
first_passed ((r, None) ∷ rest) at key = first_passed rest at key
first_passed ((r, Some mine) ∷ rest) at key = ap (λ (o : Option ℕ). if mine == key then Some r else o) (first_passed rest at key)

all_more : (met : List Met) (at own group : ℕ) → met_in (met ++ (at, Some own) ∷ []) group ≡ met_in met group ++ (if group_of own == group then at ∷ [] else [])
all_more [] at own group = refl
all_more ((r, None) ∷ rest) at own group = all_more rest at own group
all_more ((r, Some mine) ∷ rest) at own group = by (group_of mine == group) (all_more rest at own group)
  where
    by : (b : Bool) → met_in (rest ++ (at, Some own) ∷ []) group ≡ met_in rest group ++ (if group_of own == group then at ∷ [] else [])
        → (if b then r ∷ met_in (rest ++ (at, Some own) ∷ []) group else met_in (rest ++ (at, Some own) ∷ []) group)
        ≡ (if b then r ∷ met_in rest group else met_in rest group) ++ (if group_of own == group then at ∷ [] else [])
    by true behind = ap (λ (l : List ℕ). r ∷ l) behind
    by false behind = behind

all_passed : (met : List Met) (at group : ℕ) → met_in (met ++ (at, None) ∷ []) group ≡ met_in met group
all_passed [] at group = refl
all_passed ((r, None) ∷ rest) at group = all_passed rest at group
all_passed ((r, Some mine) ∷ rest) at group = ap (λ (l : List ℕ). if group_of mine == group then r ∷ l else l) (all_passed rest at group)

-- one with a key was entered
pub holds_more : (met : List Met) (old new : Firsts) (at own : ℕ) → Holds met old
    → ((other : ℕ) → first_of new other ≡ option_or (first_of old other) (if own == other then Some at else None))
    → (is_grouping old ≡ true → (other : ℕ) → all_of new other ≡ all_of old other ++ (if group_of own == other then at ∷ [] else []))
    → is_grouping new ≡ is_grouping old → Holds (met ++ (at, Some own) ∷ []) new
holds_more met old new at own holds entered listed same = record {
  first = λ key.
      entered key ∙ (ap (λ (o : Option ℕ). option_or o (if own == key then Some at else None)) (holds.first key) ∙ sym (first_more met at own key));
  all = λ grouping group.
      let was = sym same ∙ grouping in
      listed was group
      ∙ (ap (λ (l : List ℕ). l ++ (if group_of own == group then at ∷ [] else [])) (holds.all was group) ∙ sym (all_more met at own group));
}

-- one without a key needs no entry
pub holds_passed : (met : List Met) (firsts : Firsts) (at : ℕ) → Holds met firsts → Holds (met ++ (at, None) ∷ []) firsts
holds_passed met firsts at holds = record {
  first = λ key. holds.first key ∙ sym (first_passed met at key);
  all = λ grouping group. holds.all grouping group ∙ sym (all_passed met at group);
}

-- if nothing has changed
pub holds_still : (met : List Met) (old new : Firsts) → Holds met old → IsUnchanged old new → is_grouping new ≡ is_grouping old → Holds met new
holds_still met old new holds still same = record {
  first = λ key. still.first key ∙ holds.first key;
  all = λ grouping group. still.all group ∙ holds.all (sym same ∙ grouping) group;
}

-- ---- what is asked for

some_apart : (mine key : ℕ) → mine ≢ key → Some mine ≢ Some key
some_apart mine key apart same = apart (ap (λ (o : Option ℕ). unwrap_or o mine) same)

-- none has the key
pub none_met : (met : List Met) (key : ℕ) → first_met met key ≡ None → All (λ (m : Met). m.1 ≢ Some key) met
none_met [] key none = All-nil (λ (m : Met). m.1 ≢ Some key)
none_met ((r, None) ∷ rest) key none =
    All-cons (λ (m : Met). m.1 ≢ Some key) (r, None) rest (λ same. absurd (cc same)) (none_met rest key none)
none_met ((r, Some mine) ∷ rest) key none = dite (ℕ_discrete mine key)
    (λ is. absurd (cc (sym (ap (λ (b : Bool). if b then Some r else first_met rest key) (eq-eqb mine key is)) ∙ none)))
    (λ apart. All-cons (λ (m : Met). m.1 ≢ Some key) (r, Some mine) rest (some_apart mine key apart)
    (none_met rest key (sym (ap (λ (b : Bool). if b then Some r else first_met rest key) (ne_eqb mine key apart)) ∙ none)))

-- the first that has it, after others that have not
pub one_met : (met : List Met) (key at : ℕ) → first_met met key ≡ Some at
    → (front behind : List Met) × (met ≡ front ++ (at, Some key) ∷ behind) × All (λ (m : Met). m.1 ≢ Some key) front
one_met [] key at one = absurd (cc one)
one_met ((r, None) ∷ rest) key at one =
    let (front, behind, is, others) = one_met rest key at one in (
      (r, None) ∷ front,
      behind,
      ap (λ (l : List Met). (r, None) ∷ l) is,
      All-cons (λ (m : Met). m.1 ≢ Some key) (r, None) front (λ same. absurd (cc same)) others,
    )
one_met ((r, Some mine) ∷ rest) key at one = dite (ℕ_discrete mine key)
    (λ is.
    let there : r ≡ at =
    ap (λ (o : Option ℕ). unwrap_or o r) (sym (ap (λ (b : Bool). if b then Some r else first_met rest key) (eq-eqb mine key is)) ∙ one) in (
      [],
      rest,
      (λ i. (there i, Some (is i)) ∷ rest),
      All-nil (λ (m : Met). m.1 ≢ Some key),
    ))
    (λ apart.
    let (front, behind, is, others) =
    one_met rest key at (sym (ap (λ (b : Bool). if b then Some r else first_met rest key) (ne_eqb mine key apart)) ∙ one) in (
      (r, Some mine) ∷ front,
      behind,
      ap (λ (l : List Met). (r, Some mine) ∷ l) is,
      All-cons (λ (m : Met). m.1 ≢ Some key) (r, Some mine) front (some_apart mine key apart) others,
    ))

-- ---- what a group has

-- what holds of all that were visited holds of those of a group
pub in_group : (P : ℕ → Type 0) (met : List Met) (group : ℕ) → All P (map (λ (m : Met). m.0) met) → All P (met_in met group)
in_group P [] group all = All-nil P
in_group P ((at, None) ∷ rest) group all = in_group P rest group (All-tail P at (map (λ (m : Met). m.0) rest) all)
in_group P ((at, Some own) ∷ rest) group all = by (group_of own == group) (in_group P rest group (All-tail P at (map (λ (m : Met). m.0) rest) all))
  where
    by : (b : Bool) → All P (met_in rest group) → All P (if b then at ∷ met_in rest group else met_in rest group)
    by true later = All-cons P at (met_in rest group) (All-head P at (map (λ (m : Met). m.0) rest) all) later
    by false later = later

-- what holds of each visited number and each later one holds of those of a group
pub pairs_in_group : (R : ℕ → ℕ → Type 0) (met : List Met) (group : ℕ) → AllPairs R (map (λ (m : Met). m.0) met) → AllPairs R (met_in met group)
pairs_in_group R [] group all = λ i j d lt inside. absurd (omega (arith, inside))
pairs_in_group R ((at, None) ∷ rest) group all = pairs_in_group R rest group (λ i j d lt inside. all (suc i) (suc j) d (omega (arith, lt)) (omega (arith, inside)))
pairs_in_group R ((at, Some own) ∷ rest) group all =
    by (group_of own == group) (pairs_in_group R rest group (λ i j d lt inside. all (suc i) (suc j) d (omega (arith, lt)) (omega (arith, inside))))
  where
    others : All (R at) (met_in rest group)
    others = in_group (R at) rest group (λ k d inside. all 0 (suc k) d (omega arith) (omega (arith, inside)))

    by : (b : Bool) → AllPairs R (met_in rest group) → AllPairs R (if b then at ∷ met_in rest group else met_in rest group)
    by true later = AllPairs-cons R at (met_in rest group) others later
    by false later = later

-- what holds of those of a group holds of each visited number with a key of it
pub of_group : (P : ℕ → Type 0) (met : List Met) (group : ℕ) → All P (met_in met group)
    → All (λ (m : Met). (key : ℕ) → m.1 ≡ Some key → group_of key ≡ group → P m.0) met
of_group P [] group all = All-nil (λ (m : Met). (key : ℕ) → m.1 ≡ Some key → group_of key ≡ group → P m.0)
of_group P ((at, None) ∷ rest) group all =
    All-cons (λ (m : Met). (key : ℕ) → m.1 ≡ Some key → group_of key ≡ group → P m.0) (at, None) rest (λ key is. absurd (cc is)) (of_group P rest group all)
of_group P ((at, Some own) ∷ rest) group all = dite (ℕ_discrete (group_of own) group)
    (λ is.
    let here : All P (at ∷ met_in rest group) =
    subst (λ (b : Bool). All P (if b then at ∷ met_in rest group else met_in rest group)) (eq-eqb (group_of own) group is) all in
    All-cons (λ (m : Met). (key : ℕ) → m.1 ≡ Some key → group_of key ≡ group → P m.0) (at, Some own) rest
    (λ key same in_it. All-head P at (met_in rest group) here)
    (of_group P rest group (All-tail P at (met_in rest group) here)))
    (λ apart.
    let here : All P (met_in rest group) =
    subst (λ (b : Bool). All P (if b then at ∷ met_in rest group else met_in rest group)) (ne_eqb (group_of own) group apart) all in
    All-cons (λ (m : Met). (key : ℕ) → m.1 ≡ Some key → group_of key ≡ group → P m.0) (at, Some own) rest
    (λ key same in_it. absurd (apart (ap (λ (o : Option ℕ). group_of (unwrap_or o own)) same ∙ in_it)))
    (of_group P rest group here))
