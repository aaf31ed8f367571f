-- The fields of a record by their places.
use Rattle.std.proofs.Common.{◌≡◌, ◌∙◌, ℕ, zero, suc, ◌+◌, ◌<◌, ◌≤◌, List, [], ◌∷◌, length, drop, Option, Some, None, option_map, ◌++◌, append_assoc, ap, refl, sym, arith, add-one}
use Rattle.std.proofs.lemmas.List.{append-nil, drop_all}
use Rattle.csv.specs.Records.{field_at}
use Rattle.persist_report_core.specs.Number.{unsigned_number}
use Rattle.bucket_ranges.specs.declared.spec.Spec.{Spec}
use Rattle.bucket_ranges.specs.declared.spec.Spec.TheVariants.{Custom}
use Rattle.persist_report_core.specs.Request.{Hist, alone, custom_in, from_two, numbers_in, spec_in, hist_in}

-- a field that is there, and those after it
pub drop-field_at : (fields : List (List ℕ)) (i : ℕ) (field : List ℕ) → field_at fields i ≡ Some field
    → drop i fields ≡ field ∷ drop (i + 1) fields
unfolding field_at
drop-field_at [] i field there = cc there
drop-field_at (first ∷ rest) zero field there = ap (λ x. x ∷ rest) (cc there)
drop-field_at (first ∷ rest) (suc i) field there = rw add-one (drop-field_at rest i field there ∙ rw add-one refl)

-- a field that is not there
pub length-field_at : (fields : List (List ℕ)) (i : ℕ) → field_at fields i ≡ None → length fields ≤ i
unfolding field_at
length-field_at [] i missing = omega arith
length-field_at (first ∷ rest) zero missing = cc missing
length-field_at (first ∷ rest) (suc i) missing = let fewer = length-field_at rest i missing in omega arith

-- a field before the end is there
pub field_at-missing : (fields : List (List ℕ)) (i : ℕ) {P : Type 0} → i < length fields → field_at fields i ≡ None → P
field_at-missing fields i within missing = let fewer = length-field_at fields i missing in absurd (omega arith)

-- the last three fields
pub three_fields : (fields : List (List ℕ)) (start : ℕ) (a b c : List ℕ) → length fields ≡ start + 3
    → field_at fields start ≡ Some a → field_at fields (start + 1) ≡ Some b → field_at fields (start + 2) ≡ Some c
    → drop start fields ≡ a ∷ b ∷ c ∷ []
three_fields fields start a b c count first second third =
    let behind : drop (start + 3) fields ≡ [] = drop_all (start + 3) fields (omega arith) in
    let last : drop (start + 2) fields ≡ c ∷ drop (start + 3) fields =
    drop-field_at fields (start + 2) c third ∙ ap (λ k. c ∷ drop k fields) (omega arith) in
    let middle : drop (start + 1) fields ≡ b ∷ drop (start + 2) fields =
    drop-field_at fields (start + 1) b second ∙ ap (λ k. b ∷ drop k fields) (omega arith) in
    drop-field_at fields start a first ∙ ap (λ rest. a ∷ rest) (middle ∙ ap (λ rest. b ∷ rest) (last ∙ ap (λ rest. c ∷ rest) behind))

-- the second of two fields
pub one_field : (fields : List (List ℕ)) (field : List ℕ) → length fields ≡ 2 → field_at fields 1 ≡ Some field
    → drop 1 fields ≡ field ∷ []
one_field fields field count there =
    drop-field_at fields 1 field there ∙ ap (λ rest. field ∷ rest) (drop_all 2 fields (omega arith))

-- ---- the numbers in fields

-- a field that is no number leaves no numbers
pub numbers_in-none : (fields : List (List ℕ)) (i : ℕ) (field so_far : List ℕ) → field_at fields i ≡ Some field → unsigned_number field ≡ None
    → option_map (λ more. so_far ++ more) (numbers_in (drop i fields)) ≡ None
numbers_in-none fields i field so_far there none =
    ap (λ rest. option_map (λ more. so_far ++ more) (numbers_in rest)) (drop-field_at fields i field there) ∙ by none (numbers_in (drop (i + 1) fields))
  where
    by : (number : unsigned_number field ≡ None) (rest : Option (List ℕ))
        → option_map (λ more. so_far ++ more) (from_two (λ number more. number ∷ more) (unsigned_number field) rest) ≡ None
    by number None = rw number refl
    by number (Some more) = rw number refl

-- one more number
pub numbers_in-more : (fields : List (List ℕ)) (i : ℕ) (field so_far : List ℕ) (number : ℕ) → field_at fields i ≡ Some field
    → unsigned_number field ≡ Some number
    → option_map (λ more. so_far ++ more) (numbers_in (drop i fields))
    ≡ option_map (λ more. (so_far ++ number ∷ []) ++ more) (numbers_in (drop (i + 1) fields))
numbers_in-more fields i field so_far number there is =
    ap (λ rest. option_map (λ more. so_far ++ more) (numbers_in rest)) (drop-field_at fields i field there) ∙ by is (numbers_in (drop (i + 1) fields))
  where
    by : (one : unsigned_number field ≡ Some number) (rest : Option (List ℕ))
        → option_map (λ more. so_far ++ more) (from_two (λ number more. number ∷ more) (unsigned_number field) rest)
        ≡ option_map (λ more. (so_far ++ number ∷ []) ++ more) rest
    by one None = rw one refl
    by one (Some more) = rw one (ap Some (sym (append_assoc so_far (number ∷ []) more)))

-- no fields are left
pub numbers_in-end : (fields : List (List ℕ)) (i : ℕ) (so_far : List ℕ) → length fields ≤ i
    → option_map (λ more. so_far ++ more) (numbers_in (drop i fields)) ≡ Some so_far
numbers_in-end fields i so_far past =
    ap (λ rest. option_map (λ more. so_far ++ more) (numbers_in rest)) (drop_all i fields past) ∙ ap Some (append-nil so_far)

-- ---- the fields of a `hist` record

-- a field that is there is before the end
pub within-field_at : (fields : List (List ℕ)) (i : ℕ) (field : List ℕ) → field_at fields i ≡ Some field → i < length fields
unfolding field_at
within-field_at [] i field there = cc there
within-field_at (first ∷ rest) zero field there = omega arith
within-field_at (first ∷ rest) (suc i) field there = let fewer = within-field_at rest i field there in omega arith

-- too few fields for a name and a kind
pub hist_in-few : (fields : List (List ℕ)) → length fields ≤ 2 → hist_in (drop 1 fields) ≡ None
hist_in-few [] few = refl
hist_in-few (word ∷ []) few = refl
hist_in-few (word ∷ name ∷ []) few = refl
hist_in-few (word ∷ name ∷ kind ∷ behind) few = absurd (omega arith)

-- a name and a kind, and what follows them
pub hist_in-fields : (fields : List (List ℕ)) (name kind : List ℕ) (spec : Option Spec) → field_at fields 1 ≡ Some name → field_at fields 2 ≡ Some kind
    → spec ≡ spec_in kind (drop 3 fields) → hist_in (drop 1 fields) ≡ option_map (Hist name) spec
hist_in-fields fields name kind spec first second is =
    ap hist_in (drop-field_at fields 1 name first ∙ ap (λ rest. name ∷ rest) (drop-field_at fields 2 kind second))
    ∙ ap (option_map (Hist name)) (sym is)

-- ---- what follows a kind

-- one more field, after a kind that has none
pub alone-more : (spec : Spec) (fields : List (List ℕ)) (start : ℕ) → start < length fields → alone spec (drop start fields) ≡ None
alone-more spec [] start within = absurd (omega arith)
alone-more spec (first ∷ rest) zero within = refl
alone-more spec (first ∷ rest) (suc start) within = alone-more spec rest start (omega arith)

-- one value or more, after the kind that has values
pub custom_in-more : (fields : List (List ℕ)) (start : ℕ) → start < length fields
    → custom_in (drop start fields) ≡ option_map Custom (numbers_in (drop start fields))
custom_in-more [] start within = absurd (omega arith)
custom_in-more (first ∷ rest) zero within = refl
custom_in-more (first ∷ rest) (suc start) within = custom_in-more rest start (omega arith)
