-- Lines of the histograms of one family.
use Rattle.std.proofs.Common.{◌≡◌, ℕ, ◌≤◌, Bool, true, false, cond, ◌&&◌, nat_eq, List, [], ◌∷◌, ◌++◌, length, map, take, drop, get_or, ◌<◌, ◌+◌, refl, ap, sym, ◌∙◌, arith}
use Rattle.std.specs.Prelude.{if◌then◌else◌}
use Rattle.std.proofs.lemmas.List.{append-nil, take_more, map-append}
use Rattle.std.proofs.lemmas.List.Concat.{flat_map-append}
use Rattle.bucket_ranges.specs.Reading.{first_of_each}
use Rattle.bucket_ranges.proofs.Firsts.{first_of_each-push}
use Rattle.reading_texts.proofs.Adding.{written-both}
use Rattle.std.specs.Str.{bytes_eq}
use Rattle.std.specs.List.{flat_map, filter, list_any}
use Rattle.reading_texts.specs.Families.{FamilyMember, same_family}
use Rattle.reading_texts.specs.FamilyLines.{of_family}

-- the text of one more, which passes or has an empty text
kept-step : {X : Type 0} (p : X → Bool) (f : X → List ℕ) (x : X) (xs : List X) (b : Bool) {rest : List ℕ} → rest ≡ flat_map f (filter p xs)
    → cond b (f x) [] ++ rest ≡ flat_map f (cond b (x ∷ filter p xs) (filter p xs))
kept-step p f x xs true same = ap (λ s. f x ++ s) same
kept-step p f x xs false same = same

-- the text of those that pass is that of all, if the others have none
flat_map-kept : {X : Type 0} (p : X → Bool) (f : X → List ℕ) (xs : List X)
    → flat_map (λ x. cond (p x) (f x) []) xs ≡ flat_map f (filter p xs)
flat_map-kept p f [] = refl
flat_map-kept p f (x ∷ xs) = kept-step p f x xs (p x) (flat_map-kept p f xs)

pub of_family-all : (one : FamilyMember) (lines : FamilyMember → List ℕ) (members : List FamilyMember)
    → flat_map (of_family one lines) members ≡ flat_map lines (filter (same_family one) members)
of_family-all one lines members = flat_map-kept (same_family one) lines members

-- ---- a text that is another and then a third

parts-step : (b x y z : Bool) → x ≡ (y && z) → (b && x) ≡ ((b && y) && z)
parts-step true x y z same = same
parts-step false x y z same = refl

-- a text is two others in order if it begins with the first and continues with the second
pub with-parts : (text front behind : List ℕ) → length front ≤ length text
    → bytes_eq text (front ++ behind) ≡ (bytes_eq (take (length front) text) front && bytes_eq (drop (length front) text) behind)
with-parts text [] behind within = refl
with-parts [] (first ∷ front) behind within = absurd (omega (arith, within))
with-parts (byte ∷ text) (first ∷ front) behind within =
    parts-step (nat_eq byte first) _ _ _ (with-parts text front behind (omega (arith, within)))

-- ---- the first of each family

-- the text of one more, which is the first of its family or not
first-step : (f : FamilyMember → List ℕ) (one : FamilyMember) (found : Bool) → flat_map f (if found then [] else one ∷ []) ≡ (if found then [] else f one)
first-step f one true = refl
first-step f one false = append-nil (f one)

pub firsts-written : {X : Type 0} (g : X → FamilyMember) (f : FamilyMember → List ℕ) (xs : List X) (i : ℕ) (x : X) (found : Bool) (start : List ℕ)
    {before after : List ℕ} → i < length xs → x ≡ get_or xs i x → found ≡ list_any (λ member. same_family member (g x)) (map g (take i xs))
    → before ≡ start ++ flat_map f (first_of_each same_family (map g (take i xs))) → after ≡ before ++ (if found then [] else f (g x))
    → after ≡ start ++ flat_map f (first_of_each same_family (map g (take (i + 1) xs)))
firsts-written g f xs i x found start {before} {after} within is has old new =
    let some : List FamilyMember = map g (take i xs) in
    let firsts : List FamilyMember = first_of_each same_family some in
    let new_one : List FamilyMember = if found then [] else g x ∷ [] in
    let longer : map g (take (i + 1) xs) ≡ some ++ g x ∷ [] =
    ap (map g) (take_more xs i x within ∙ ap (λ y. take i xs ++ y ∷ []) (sym is)) ∙ map-append g (take i xs) (x ∷ []) in
    let all : first_of_each same_family (map g (take (i + 1) xs)) ≡ firsts ++ new_one =
    ap (first_of_each same_family) longer
    ∙ (first_of_each-push same_family some (g x) ∙ ap (λ b. firsts ++ (if b then [] else g x ∷ [])) (sym has)) in
    let text : flat_map f (firsts ++ new_one) ≡ flat_map f firsts ++ (if found then [] else f (g x)) =
    flat_map-append f firsts new_one ∙ ap (λ s. flat_map f firsts ++ s) (first-step f (g x) found) in
    written-both start (flat_map f firsts) (if found then [] else f (g x)) old new
    ∙ ap (λ s. start ++ s) (sym (ap (flat_map f) all ∙ text))
