-- What a tally says of the entries that are in it.
use Rattle.segment_invariant.proofs.Prelude.Std.{◌≡◌, ℕ, zero, suc, ◌<◌, Bool, true, false, ◌&&◌, ℤ, List, [], ◌∷◌, refl, ◌∙◌, arith, if◌then◌else◌, Contains, bytes_eq, int_eq, Decides-int_eq, bytes_eq-Decides, Contains-append_right, sum_by-cons, at_from, sum_at_least}
use Rattle.segment_invariant.proofs.Prelude.Machine.{Entry, is_of, tally_units}

-- the units of an entry in a tally of a name and a key
abbrev part : List ℕ → ℤ → Entry → ℕ
part name key entry = if is_of name entry && int_eq entry.key key then entry.units else 0

-- an entry that has units is in the tally of its name and key
pub tally_from : (entries : List Entry) (e : Entry) → Contains entries e → 0 < e.units → 0 < tally_units entries e.name e.key
tally_from entries e there some_units =
    let (i, at) = at_from entries e there in
    let least = sum_at_least (part e.name e.key) entries i e at in
    let named : bytes_eq e.name e.name ≡ true = (bytes_eq-Decides e.name e.name).1 refl in
    let keyed : int_eq e.key e.key ≡ true = (Decides-int_eq e.key e.key).1 refl in
    let mine : part e.name e.key e ≡ e.units = (λ i. if named i && keyed i then e.units else 0) in
    omega (arith, least, mine, some_units)

-- among entries there is one of a name and a key that has units
abbrev pub HasUnits : List Entry → List ℕ → ℤ → Type 0
HasUnits entries name key = (e : Entry) × Contains entries e × (e.name ≡ name) × (e.key ≡ key) × (0 < e.units)

-- if a tally is not 0, there is one
pub tally_at : (entries : List Entry) (name : List ℕ) (key : ℤ) → 0 < tally_units entries name key → HasUnits entries name key
tally_at [] name key more = absurd (omega (arith, more))
tally_at (e ∷ es) name key more = by_first (bytes_eq e.name name) (int_eq e.key key) refl refl (tally_at es name key)
  where
    behind : part name key e ≡ 0 → (0 < tally_units es name key → HasUnits es name key) → HasUnits (e ∷ es) name key
    behind nothing rest =
        let all = sum_by-cons (part name key) e es in
        let (f, there, named, keyed, units) = rest (omega (arith, all, nothing, more)) in
        (f, Contains-append_right (e ∷ []) es f there, named, keyed, units)

    by_units : (n : ℕ) → e.units ≡ n → e.name ≡ name → e.key ≡ key → part name key e ≡ e.units
        → (0 < tally_units es name key → HasUnits es name key) → HasUnits (e ∷ es) name key
    by_units zero are named keyed mine rest = behind (mine ∙ are) rest
    by_units (suc n) are named keyed mine rest = (e, (0, omega arith, refl), named, keyed, omega (arith, are))

    by_first : (b c : Bool) → bytes_eq e.name name ≡ b → int_eq e.key key ≡ c
        → (0 < tally_units es name key → HasUnits es name key) → HasUnits (e ∷ es) name key
    by_first true true p q rest =
        by_units e.units refl ((bytes_eq-Decides e.name name).0 p) ((Decides-int_eq e.key key).0 q) (λ i. if p i && q i then e.units else 0) rest
    by_first true false p q rest = behind (λ i. if p i && q i then e.units else 0) rest
    by_first false c p q rest = behind (λ i. if p i && q i then e.units else 0) rest
