-- The marks of what a walk has visited.
use Rattle.std.proofs.Common.{◌≡◌, Bool, true, false, ◌||◌, ◌==◌, if◌then◌else◌, ℕ, zero, suc, ◌<◌, List, [], ◌∷◌, ◌++◌, length, get_or, set, replicate, add-one, refl, arith, ap, inl, inr, sym, ◌∙◌, get_or-set_other, get_or-set_same}
use Rattle.std.specs.List.{list_any, sum_by}
use Rattle.std.proofs.lemmas.Bool.{cases_eq, eq-eqb, ne_eqb}
use Rattle.std.proofs.lemmas.List.{get_or_default, get_or_push, length_push}
use Rattle.std.proofs.Math.Bool.{or-false, or-true}
use Rattle.std.proofs.lemmas.List.Folds.{list_any-append}
use Rattle.std.proofs.lemmas.List.Sums.{sum_by-set}
use Rattle.bucket_ranges.specs.Reading.{before}

-- how many words are not visited yet
abbrev pub unmet : List Bool → ℕ
unmet met = sum_by (λ is_met. if is_met then 0 else 1) met

-- one more mark leaves fewer words that are not visited
pub unmet-set : (met : List Bool) (reference : ℕ) → reference < length met → get_or met reference false ≡ false
    → unmet (set met reference true) < unmet met
unmet-set met reference within new =
    let here : ℕ = if get_or met reference false then 0 else 1 in
    let before : here ≡ 1 = rw new refl in
    omega (arith, sum_by-set (λ is_met. if is_met then 0 else 1) met reference true false within, before)

-- what one more element at the end adds to a test
pub list_any-push : {X : Type 0} (p : X → Bool) (xs : List X) (y : X) → list_any p (xs ++ y ∷ []) ≡ (list_any p xs || p y)
list_any-push p xs y = list_any-append p xs (y ∷ []) ∙ ap (λ b. list_any p xs || b) (or-false (p y))

-- marks that say of each reference whether it is in a list still do with one more reference, once that is marked
pub marks-push : (met : List Bool) (references : List ℕ) (reference : ℕ) → reference < length met
    → ((r : ℕ) → get_or met r false ≡ list_any (λ other. other == r) references)
    → (r : ℕ) → get_or (set met reference true) r false ≡ list_any (λ other. other == r) (references ++ reference ∷ [])
marks-push met references reference within marks r =
    let more = list_any-push (λ other. other == r) references reference in
    elim (cases_eq r reference) [
      | inl same ↦
          let mine : (reference == r) ≡ true = eq-eqb reference r (sym same) in
          let marked : get_or (set met reference true) r false ≡ true = rw same (get_or-set_same met reference true false within) in
          marked ∙ sym (more ∙ (ap (λ b. list_any (λ other. other == r) references || b) mine ∙ or-true _))
      | inr other ↦
          let mine : (reference == r) ≡ false = ne_eqb reference r (λ e. other (sym e)) in
          let kept : get_or (set met reference true) r false ≡ get_or met r false = get_or-set_other met reference r true false other in
          kept ∙ (marks r ∙ sym (more ∙ (ap (λ b. list_any (λ other. other == r) references || b) mine ∙ or-false _)))
    ]

-- before the walk nothing is marked
pub unmarked_at : (n r : ℕ) → get_or (replicate n false) r false ≡ false
unmarked_at zero r = refl
unmarked_at (suc n) zero = refl
unmarked_at (suc n) (suc r) = unmarked_at n r

-- what the mark of a word that was read is
pub read_mark : (met : List Bool) (reference : ℕ) (mark : Bool) → reference < length met → mark ≡ get_or met reference mark
    → mark ≡ get_or met reference false
read_mark met reference mark within e = e ∙ get_or_default met reference mark false within

-- the block before the end of a list is its last
pub before-last : (references : List ℕ) (reference : ℕ)
    → before (references ++ reference ∷ []) (length (references ++ reference ∷ [])) ≡ reference
before-last references reference =
    ap (before (references ++ reference ∷ [])) (length_push references reference ∙ add-one (length references))
    ∙ get_or_push references reference 0 (length references) refl
