-- Lists without a block that leaves them, and with one element more at the end.
use Rattle.segment_invariant.proofs.Prelude.Std.{◌≡◌, ◌≢◌, ◌⊎◌, ℕ, zero, suc, ◌==◌, not, cond, Bool, true, false, List, [], ◌∷◌, ◌++◌, length, filter, All, inl, inr, ⊎_elim, refl, sym, ap, ◌∙◌, arith, length-append, eq-eqb, ne_eqb, if◌then◌else◌, Some, some, some-injective, some-ne-none, get_elem?}
use Rattle.segment_invariant.proofs.Prelude.Machine.{Made, Own}
use Rattle.std.specs.Prelude as std
use Rattle.std.proofs.lemmas.List.Elements.{All-filter, filter_passes}
use Rattle.segment_machine.specs.Calls.{without}
use Rattle.segment_machine.specs.Publishing.{own_at, published_as}

-- ---- an element more at the end

-- if a list with one element more has an element, the list has it, or it is the new one
pub snoc_split : {X : Type 0} (old front behind : List X) (l x : X) → old ++ l ∷ [] ≡ front ++ x ∷ behind
    → ((left : List X) × (old ≡ front ++ x ∷ left)) ⊎ ((l ≡ x) × (old ≡ front))
snoc_split [] [] behind l x e = inr (cc e, refl)
snoc_split [] (y ∷ front) behind l x e =
    let n = ap length e in let m = length-append front (x ∷ behind) in absurd (omega (arith, n, m))
snoc_split (o ∷ old) [] behind l x e = let same : o ≡ x = cc e in inl (old, ap (λ z. z ∷ old) same)
snoc_split (o ∷ old) (y ∷ front) behind l x e =
    let same : o ≡ y = cc e in
    let rest : old ++ l ∷ [] ≡ front ++ x ∷ behind = cc e in
    ⊎_elim
    (λ t. inl (t.0, λ i. same i ∷ t.1 i))
    (λ t. inr (t.0, λ i. same i ∷ t.1 i))
    (snoc_split old front behind l x rest)

-- ---- blocks that leave a list

-- no two blocks begin at one word
abbrev pub AreDistinct : List Own → Type 0
AreDistinct list = (i j : ℕ) (x y : Own) → get_elem? list i ≡ some x → get_elem? list j ≡ some y → x.at ≡ y.at → i ≡ j

-- what passes a test was there
from_filter : (test : Own → Bool) (list : List Own) (i : ℕ) (x : Own) → get_elem? (filter test list) i ≡ some x → (j : ℕ) × (get_elem? list j ≡ some x)
from_filter test [] i x there = absurd (some-ne-none x (sym there))
from_filter test (z ∷ zs) i x there = by (λ i e. from_filter test zs i x e) (test z) i there
  where
    by : ((i : ℕ) → get_elem? (filter test zs) i ≡ some x → (j : ℕ) × (get_elem? zs j ≡ some x)) → (b : Bool) (i : ℕ)
        → get_elem? (cond b (z ∷ filter test zs) (filter test zs)) i ≡ some x → (j : ℕ) × (get_elem? (z ∷ zs) j ≡ some x)
    by again true zero e = (0, e)
    by again true (suc i) e = let (j, here) = again i e in (suc j, here)
    by again false i e = let (j, here) = again i e in (suc j, here)

pub distinct_filter : (test : Own → Bool) (list : List Own) → AreDistinct list → AreDistinct (filter test list)
distinct_filter test [] apart i j x y one two same = absurd (some-ne-none x (sym one))
distinct_filter test (z ∷ zs) apart i j x y one two same =
    by (λ i j one two. distinct_filter test zs (λ k m v w here there at. let e = apart (suc k) (suc m) v w here there at in omega (arith, e)) i j x y one two same)
    (test z) i j one two
  where
    by : ((i j : ℕ) → get_elem? (filter test zs) i ≡ some x → get_elem? (filter test zs) j ≡ some y → i ≡ j) → (b : Bool) (i j : ℕ)
        → get_elem? (cond b (z ∷ filter test zs) (filter test zs)) i ≡ some x
        → get_elem? (cond b (z ∷ filter test zs) (filter test zs)) j ≡ some y → i ≡ j
    by again true zero zero one two = refl
    by again true zero (suc j) one two = let (k, here) = from_filter test zs j y two in let e = apart 0 (suc k) x y one here same in absurd (omega (arith, e))
    by again true (suc i) zero one two = let (k, here) = from_filter test zs i x one in let e = apart (suc k) 0 x y here two same in absurd (omega (arith, e))
    by again true (suc i) (suc j) one two = ap suc (again i j one two)
    by again false i j one two = again i j one two

-- those that are left do not begin at the word
pub all_without : (P : Own → Type 0) (at : ℕ) (list : List Own) → All P list → All (λ x. P x × (x.at ≢ at)) (without at list)
all_without P at list all k d lt = (
  All-filter (λ own. not (own.at == at)) P list all k d lt,
  λ same. let passes = filter_passes (λ (own : Own). not (own.at == at)) list k d lt in
      absurd (cc (sym (ap not (eq-eqb _ at same)) ∙ passes)),
)

-- a block is found if no other begins at its word
pub own_found : (list : List Own) (i : ℕ) (x : Own) → AreDistinct list → get_elem? list i ≡ some x → own_at list x.at ≡ Some x
own_found [] i x apart there = absurd (some-ne-none x (sym there))
own_found (z ∷ zs) zero x apart there =
    let same : z ≡ x = some-injective z x there in
    ap (λ (b : Bool). if b then Some z else own_at zs x.at) (eq-eqb z.at x.at (ap (λ (w : Own). w.at) same)) ∙ ap (λ (w : Own). Some w) same
own_found (z ∷ zs) (suc i) x apart there =
    ap (λ (b : Bool). if b then Some z else own_at zs x.at)
    (ne_eqb z.at x.at (λ same. let e = apart 0 (suc i) z x refl there same in omega (arith, e)))
    ∙ own_found zs i x (λ j k y w one two same. let e = apart (suc j) (suc k) y w one two same in omega (arith, e)) there

-- it is published as what it is to hold
pub published_is : (found : std.Option Own) (own : Own) (made : Made) (at : ℕ) → found ≡ Some own → own.made ≡ Some made
    → published_as found at ≡ record { reference = at; made = made } ∷ []
published_is found own made at is asked =
    ap (λ (f : std.Option Own). published_as f at) is
    ∙ ap (λ (m : std.Option Made). published_as (Some (record own { made = m })) at) asked
