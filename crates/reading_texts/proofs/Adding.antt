-- Texts that are written one after the other.
use Rattle.std.proofs.Common.{◌≡◌, ◌∙◌, ℕ, ◌+◌, ◌<◌, ◌≤◌, List, [], ◌∷◌, ◌++◌, length, take, get_or, map, ap, sym, subst, append_assoc, All}
use Rattle.std.specs.List.{flat_map, join_with_byte}
use Rattle.std.proofs.lemmas.List.{append-nil, get_or-map, length-map, take_more, take_all}
use Rattle.std.proofs.lemmas.List.Folds.{flat_map-map}
use Rattle.std.proofs.lemmas.List.Concat.{flat_map-append}
use Rattle.reading_texts.specs.Text.{line}
use Rattle.reading_texts.specs.Exporting.{joined}

-- the text with one more element
flat_map-take : {X Y : Type 0} (f : X → List Y) (xs : List X) (i : ℕ) (d : X) → i < length xs
    → flat_map f (take (i + 1) xs) ≡ flat_map f (take i xs) ++ f (get_or xs i d)
flat_map-take f xs i d h =
    ap (flat_map f) (take_more xs i d h) ∙ flat_map-append f (take i xs) (get_or xs i d ∷ []) ∙ ap (λ s. flat_map f (take i xs) ++ s) (append-nil (f (get_or xs i d)))

-- one text and then another
pub written-both : (first a b : List ℕ) {second third : List ℕ} → second ≡ first ++ a → third ≡ second ++ b → third ≡ first ++ (a ++ b)
written-both first a b before after = after ∙ (ap (λ s. s ++ b) before ∙ append_assoc first a b)

-- one more text after a text that is known
pub written-behind : (a b : List ℕ) {second third : List ℕ} → second ≡ a → third ≡ second ++ b → third ≡ a ++ b
written-behind a b before after = after ∙ ap (λ s. s ++ b) before

-- parts that are joined, the first of which are joined already
pub joined-both : (some others : List (List ℕ)) → joined (joined some ∷ others) ≡ joined (some ++ others)
joined-both some others = sym (flat_map-append (λ part. part) some others)

-- lines that begin with the same joined parts
pub lines-joined : {X : Type 0} (some : List (List ℕ)) (others : X → List (List ℕ)) (xs : List X)
    → flat_map (λ x. joined (joined some ∷ others x)) xs ≡ flat_map (λ x. joined (some ++ others x)) xs
lines-joined some others xs i = flat_map (λ x. joined-both some (others x) i) xs

-- one more part after joined ones
pub joined-more : (first : List ℕ) (parts : List (List ℕ)) (part : List ℕ) {second third : List ℕ} → second ≡ first ++ joined parts → third ≡ second ++ part
    → third ≡ first ++ joined (parts ++ part ∷ [])
joined-more first parts part before after =
    written-both first (joined parts) part before after
    ∙ ap (λ s. first ++ s) (sym (flat_map-append (λ part. part) parts (part ∷ []) ∙ ap (λ s. joined parts ++ s) (append-nil part)))

-- the step of a loop that writes the text of each element
pub written-more : {X : Type 0} (f : X → List ℕ) (xs : List X) (i : ℕ) (d : X) (first : List ℕ) {second third : List ℕ} → i < length xs
    → second ≡ first ++ flat_map f (take i xs) → third ≡ second ++ f (get_or xs i d) → third ≡ first ++ flat_map f (take (i + 1) xs)
written-more f xs i d first {second} {third} h before after =
    written-both first (flat_map f (take i xs)) (f (get_or xs i d)) before after ∙ ap (λ s. first ++ s) (sym (flat_map-take f xs i d h))

-- the end of such a loop
pub written-all : {X Y : Type 0} (f : Y → List ℕ) (g : X → Y) (xs : List X) (i : ℕ) (first : List ℕ) {last : List ℕ} → length xs ≤ i
    → last ≡ first ++ flat_map (λ x. f (g x)) (take i xs) → last ≡ first ++ flat_map f (map g xs)
written-all f g xs i first {last} h written =
    written ∙ ap (λ s. first ++ s) (ap (flat_map (λ x. f (g x))) (take_all i xs h) ∙ sym (flat_map-map f g xs))

-- the end of such a loop over what is written itself
pub written-each : {X : Type 0} (f : X → List ℕ) (xs : List X) (i : ℕ) (first : List ℕ) {last : List ℕ} → length xs ≤ i
    → last ≡ first ++ flat_map f (take i xs) → last ≡ first ++ flat_map f xs
written-each f xs i first {last} h written = written ∙ ap (λ one. first ++ flat_map f one) (take_all i xs h)

-- a line is its first field, the others with a comma before each, and a line feed
pub line-written : (old first : List ℕ) (others : List (List ℕ)) {a b c : List ℕ} → a ≡ old ++ first → b ≡ a ++ flat_map (λ field. 44 ∷ field) others
    → c ≡ b ++ 10 ∷ [] → c ≡ old ++ line (first ∷ others)
line-written old first others {a} {b} {c} begun joined ended =
    let all : (old ++ first) ++ flat_map (λ field. 44 ∷ field) others ≡ old ++ join_with_byte 44 (first ∷ others) =
    append_assoc old first (flat_map (λ field. 44 ∷ field) others) ∙ ap (λ s. old ++ s) (by first others) in
    ended
    ∙ (ap (λ s. s ++ 10 ∷ []) (joined ∙ (ap (λ s. s ++ flat_map (λ field. 44 ∷ field) others) begun ∙ all))
    ∙ append_assoc old (join_with_byte 44 (first ∷ others)) (10 ∷ []))
  where
    by : (first : List ℕ) (others : List (List ℕ)) → first ++ flat_map (λ field. 44 ∷ field) others ≡ join_with_byte 44 (first ∷ others)
    by first [] = append-nil first
    by first (next ∷ others) = ap (λ s. first ++ 44 ∷ s) (by next others)

-- what holds of each image holds of the image of an element
pub All-image_at : {X Y : Type 0} (P : Y → Type 0) (g : X → Y) (xs : List X) (i : ℕ) (x : X) → All P (map g xs) → i < length xs → x ≡ get_or xs i x → P (g x)
All-image_at P g xs i x all h is =
    subst P (get_or-map g xs i x (g x) h ∙ ap g (sym is)) (all i (g x) (rw length-map h))
