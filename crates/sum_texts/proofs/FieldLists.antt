-- The fields of a line, one after the other.
use Rattle.std.proofs.Common.{◌≡◌, ℕ, suc, ◌<◌, ◌≤◌, Bool, true, false, not, List, [], ◌∷◌, length, map, get_or, drop, refl, ap, sym, ◌∙◌, arith, drop-cons, Bor, zero}
use Rattle.std.specs.List.{AllByRecursion}
use Rattle.std.specs.Fmt.{decimal}
use Rattle.std.specs.Str.{bytes_eq}
use Rattle.sum_texts.specs.Runs.{bytes_of}
use Rattle.std.proofs.lemmas.Slice.Eq.{bytes_eq-Decides}
use Rattle.std.proofs.lemmas.List.{drop_all, get_or-map, length-map}
use Rattle.std.proofs.lemmas.Bool.{false≢true}

-- a field, and those after it
pub one_more : (fields : List (Bor (List ℕ))) (i : ℕ) (d : Bor (List ℕ)) (text : List ℕ) (texts : List (List ℕ)) → i < length fields
    → (get_or fields i d).now ≡ text → bytes_of (drop (suc i) fields) ≡ texts → bytes_of (drop i fields) ≡ text ∷ texts
one_more fields i d text texts within here behind =
    ap bytes_of (drop-cons fields i d within) ∙ cc (here, behind)

-- no field is left
pub none_left : (fields : List (Bor (List ℕ))) (i : ℕ) → length fields ≤ i → bytes_of (drop i fields) ≡ []
none_left fields i past = ap bytes_of (drop_all i fields past)

-- a test that does not fail succeeds
not_false : (b : Bool) → false ≡ not b → b ≡ true
not_false true same = refl
not_false false same = absurd (false≢true same)

pub word_is : (field word : List ℕ) → false ≡ not (bytes_eq field word) → field ≡ word
word_is field word same = (bytes_eq-Decides field word).0 (not_false (bytes_eq field word) same)

-- the bytes of a field
pub text_at : (fields : List (Bor (List ℕ))) (texts : List (List ℕ)) (i : ℕ) (d : Bor (List ℕ)) → bytes_of fields ≡ texts → i < length fields
    → (get_or fields i d).now ≡ get_or texts i d.now
text_at fields texts i d is within = sym (get_or-map (λ field. field.now) fields i d d.now within) ∙ ap (λ all. get_or all i d.now) is

-- a number of a list whose numbers fit
pub fit_at : (P : ℕ → Type 0) (numbers : List ℕ) (i : ℕ) → AllByRecursion P numbers → i < length numbers → P (get_or numbers i 0)
fit_at P [] i all within = absurd (omega arith)
fit_at P (number ∷ numbers) zero all within = all.0
fit_at P (number ∷ numbers) (suc i) all within = fit_at P numbers i all.1 (omega arith)

-- a field of a list of numbers
pub number_at : (fields : List (Bor (List ℕ))) (numbers : List ℕ) (i : ℕ) (d : Bor (List ℕ)) → bytes_of fields ≡ map decimal numbers → i < length fields
    → (i < length numbers) × ((get_or fields i d).now ≡ decimal (get_or numbers i 0))
number_at fields numbers i d is within =
    let many : length fields ≡ length numbers = sym (length-map fields (λ field. field.now)) ∙ (ap length is ∙ length-map numbers decimal) in
    let here : i < length numbers = omega arith in
    (here, text_at fields (map decimal numbers) i d is within ∙ get_or-map decimal numbers i 0 d.now here)
