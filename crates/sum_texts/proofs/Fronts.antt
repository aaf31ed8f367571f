-- Elements at the front of lines, read one after the other.
use Rattle.std.proofs.Common.{◌≡◌, ◌∙◌, ℕ, suc, ◌+◌, ◌<◌, true, false, List, [], ◌∷◌, ◌++◌, map, length, get_or, drop, refl, ap, sym, append_assoc, arith, zero, add-one, drop-cons, Option, Some, IfSome, Result, Err, subst, Bor}
use Rattle.std.specs.Bool.{⊤}
use Rattle.std.specs.List.{flat_map, AllByRecursion}
use Rattle.std.proofs.lemmas.Bool.{false≢true}
use Rattle.std.proofs.lemmas.List.{append-nil}
use Rattle.std.proofs.lemmas.List.Concat.{flat_map-append}
use Rattle.reading_sums.specs.declared.key.KeySum.{KeySum}
use Rattle.reading_sums.specs.Totals.{Part}
use Rattle.sum_texts.specs.declared.wrong.Wrong.{Wrong}
use Rattle.sum_texts.specs.declared.wrong.Wrong.TheVariants.{NoMemory, Line}
use Rattle.sum_texts.specs.Lines.{line_bytes, key_fields}
use Rattle.sum_texts.specs.Runs.{bytes_of, begins, key_block, part_block, Gives}

-- Lines begin with the blocks of elements, the first of which are read. If the lines are the blocks of any elements that fit, and then an
-- end, those that are read are the first of these elements, and the rest of the lines are the blocks of the others.
abbrev pub Left : (X : Type 0) → (X → List (List ℕ)) → (X → Type 0) → (List (List ℕ) → Type 0) → List (List ℕ) → List X → List (List ℕ) → Type 0
Left X block Fits Ends start done rest =
    (xs : List X) (behind : List (List ℕ)) → AllByRecursion Fits xs → Ends behind → start ≡ flat_map block xs ++ behind
    → (todo : List X) × (xs ≡ done ++ todo) × AllByRecursion Fits todo × (rest ≡ flat_map block todo ++ behind)

pub left_begun : (X : Type 0) (block : X → List (List ℕ)) (Fits : X → Type 0) (Ends : List (List ℕ) → Type 0) (start : List (List ℕ))
    → Left X block Fits Ends start [] start
left_begun X block Fits Ends start xs behind fit ends is = (xs, refl, fit, is)

step : (X : Type 0) (block : X → List (List ℕ)) (Fits : X → Type 0) (done : List X) (rest : List (List ℕ)) (letter : ℕ) (y : X) (next : List (List ℕ))
    (xs : List X) (behind : List (List ℕ)) → begins letter behind ≡ false → begins letter rest ≡ true
    → ((x : X) (more : List X) → Fits x → AllByRecursion Fits more → rest ≡ block x ++ (flat_map block more ++ behind) → (y ≡ x) × (next ≡ flat_map block more ++ behind))
    → (todo : List X) → xs ≡ done ++ todo → AllByRecursion Fits todo → rest ≡ flat_map block todo ++ behind
    → (more : List X) × (xs ≡ (done ++ y ∷ []) ++ more) × AllByRecursion Fits more × (next ≡ flat_map block more ++ behind)
step X block Fits done rest letter y next xs behind not_behind begun reads [] same fits is =
    absurd (false≢true (sym (ap (begins letter) is ∙ not_behind) ∙ begun))
step X block Fits done rest letter y next xs behind not_behind begun reads (x ∷ todo) same fits is =
    let both : (y ≡ x) × (next ≡ flat_map block todo ++ behind) = reads x todo fits.0 fits.1 (is ∙ append_assoc (block x) (flat_map block todo) behind) in
    (todo, same ∙ (ap (λ z. done ++ z ∷ todo) (sym both.0) ∙ sym (append_assoc done (y ∷ []) todo)), fits.1, both.1)

-- one more element is read
pub left_more : (X : Type 0) (block : X → List (List ℕ)) (Fits : X → Type 0) (Ends : List (List ℕ) → Type 0) (start : List (List ℕ)) (done : List X)
    (rest : List (List ℕ)) (letter : ℕ) (y : X) (next : List (List ℕ)) → Left X block Fits Ends start done rest
    → ((behind : List (List ℕ)) → Ends behind → begins letter behind ≡ false) → begins letter rest ≡ true
    → ((x : X) (more : List X) (behind : List (List ℕ)) → Fits x → AllByRecursion Fits more → Ends behind → rest ≡ block x ++ (flat_map block more ++ behind)
    → (y ≡ x) × (next ≡ flat_map block more ++ behind))
    → Left X block Fits Ends start (done ++ y ∷ []) next
left_more X block Fits Ends start done rest letter y next left never begun reads xs behind fit ends is =
    let known = left xs behind fit ends is in
    step X block Fits done rest letter y next xs behind (never behind ends) begun (λ x more fits all is'. reads x more behind fits all ends is') known.0 known.1 known.2 known.3

stop : (X : Type 0) (block : X → List (List ℕ)) (Fits : X → Type 0) (done : List X) (rest : List (List ℕ)) (letter : ℕ) (xs : List X) (behind : List (List ℕ))
    → ((x : X) (lines : List (List ℕ)) → begins letter (block x ++ lines) ≡ true) → begins letter rest ≡ false
    → (todo : List X) → xs ≡ done ++ todo → rest ≡ flat_map block todo ++ behind → (done ≡ xs) × (rest ≡ behind)
stop X block Fits done rest letter xs behind begun ended [] same is = (sym (same ∙ append-nil done), is)
stop X block Fits done rest letter xs behind begun ended (x ∷ todo) same is =
    absurd (false≢true (sym ended ∙ (ap (begins letter) (is ∙ append_assoc (block x) (flat_map block todo) behind) ∙ begun x (flat_map block todo ++ behind))))

-- there are no more elements
pub left_done : (X : Type 0) (block : X → List (List ℕ)) (Fits : X → Type 0) (Ends : List (List ℕ) → Type 0) (start : List (List ℕ)) (done : List X)
    (rest : List (List ℕ)) (letter : ℕ) → Left X block Fits Ends start done rest
    → ((x : X) (lines : List (List ℕ)) → begins letter (block x ++ lines) ≡ true) → begins letter rest ≡ false
    → (xs : List X) (behind : List (List ℕ)) → AllByRecursion Fits xs → Ends behind → start ≡ flat_map block xs ++ behind → (done ≡ xs) × (rest ≡ behind)
left_done X block Fits Ends start done rest letter left begun ended xs behind fit ends is =
    let known = left xs behind fit ends is in
    stop X block Fits done rest letter xs behind begun ended known.0 known.1 known.3

halt : (X : Type 0) (block : X → List (List ℕ)) (Fits : X → Type 0) (rest : List (List ℕ)) (letter : ℕ) (behind : List (List ℕ))
    → begins letter behind ≡ false → begins letter rest ≡ true
    → ((x : X) (more : List X) → Fits x → AllByRecursion Fits more → rest ≡ block x ++ (flat_map block more ++ behind) → ⊥)
    → (todo : List X) → AllByRecursion Fits todo → rest ≡ flat_map block todo ++ behind → ⊥
halt X block Fits rest letter behind not_behind begun wrong [] fits is = false≢true (sym (ap (begins letter) is ∙ not_behind) ∙ begun)
halt X block Fits rest letter behind not_behind begun wrong (x ∷ todo) fits is = wrong x todo fits.0 fits.1 (is ∙ append_assoc (block x) (flat_map block todo) behind)

-- an element that no reader reads does not fit
pub left_wrong : (X : Type 0) (block : X → List (List ℕ)) (Fits : X → Type 0) (Ends : List (List ℕ) → Type 0) (start : List (List ℕ)) (done : List X)
    (rest : List (List ℕ)) (letter : ℕ) → Left X block Fits Ends start done rest
    → ((behind : List (List ℕ)) → Ends behind → begins letter behind ≡ false) → begins letter rest ≡ true
    → ((x : X) (more : List X) (behind : List (List ℕ)) → Fits x → AllByRecursion Fits more → Ends behind → rest ≡ block x ++ (flat_map block more ++ behind) → ⊥)
    → (xs : List X) (behind : List (List ℕ)) → AllByRecursion Fits xs → Ends behind → start ≡ flat_map block xs ++ behind → ⊥
left_wrong X block Fits Ends start done rest letter left never begun wrong xs behind fit ends is =
    let known = left xs behind fit ends is in
    halt X block Fits rest letter behind (never behind ends) begun (λ x more fits all is'. wrong x more behind fits all ends is') known.0 known.2 known.3

-- ---- the line at an index, and those after it

-- if a line begins with a letter there is one
pub begins_within : (letter : ℕ) (lines : List (Bor (List ℕ))) (i : ℕ) → begins letter (bytes_of (drop i lines)) ≡ true → i < length lines
begins_within letter [] zero begun = absurd (false≢true begun)
begins_within letter [] (suc i) begun = absurd (false≢true begun)
begins_within letter (line ∷ lines) zero begun = omega arith
begins_within letter (line ∷ lines) (suc i) begun = omega (arith, begins_within letter lines i begun)

-- the line at an index, and the lines after it
pub line_at : (lines : List (Bor (List ℕ))) (i : ℕ) (d : Bor (List ℕ)) → i < length lines
    → bytes_of (drop i lines) ≡ (get_or lines i d).now ∷ bytes_of (drop (i + 1) lines)
line_at lines i d within = rw add-one (ap bytes_of (drop-cons lines i d within))

-- what the line at an index is, and the lines after it
pub line_is : (lines : List (Bor (List ℕ))) (i : ℕ) (d : Bor (List ℕ)) (line : List ℕ) (rest : List (List ℕ)) → i < length lines
    → bytes_of (drop i lines) ≡ line ∷ rest → ((get_or lines i d).now ≡ line) × (bytes_of (drop (i + 1) lines) ≡ rest)
line_is lines i d line rest within is =
    let both = sym (line_at lines i d within) ∙ is in (ap (λ z. get_or z 0 []) both, ap (drop 1) both)

-- one more block is found
pub found_more : (X : Type 0) (block : X → List (List ℕ)) (start : List (List ℕ)) (done : List X) (rest : List (List ℕ)) (y : X) (next : List (List ℕ))
    → start ≡ flat_map block done ++ rest → rest ≡ block y ++ next → start ≡ flat_map block (done ++ y ∷ []) ++ next
found_more X block start done rest y next found here =
    found ∙ (ap (λ s. flat_map block done ++ s) here ∙ (sym (append_assoc (flat_map block done) (block y) next)
    ∙ ap (λ s. s ++ next) (sym (flat_map-append block done (y ∷ []) ∙ ap (λ s. flat_map block done ++ s) (append-nil (block y))))))

-- what is known of an option that is `Some`
pub some_at : {X : Type 0} (P : X → Type 0) (o : Option X) (x : X) → o ≡ Some x → IfSome o P → P x
some_at P o x is known = subst (λ one. IfSome one P) is known

-- the lines of keys
pub key_blocks : (keys : List KeySum) → map line_bytes (map key_fields keys) ≡ flat_map key_block keys
key_blocks [] = refl
key_blocks (key ∷ keys) = ap (λ lines. line_bytes (key_fields key) ∷ lines) (key_blocks keys)

-- what holds of some elements and of one more
pub all_more : {X : Type 0} (P : X → Type 0) (xs : List X) (x : X) → AllByRecursion P xs → P x → AllByRecursion P (xs ++ x ∷ [])
all_more P [] x all more = (more, tt)
all_more P (y ∷ xs) x all more = (all.0, all_more P xs x all.1 more)

-- ---- readers that fail

-- because memory ran out
abbrev pub IsMemory : Wrong → Type 0
IsMemory NoMemory = ⊤
IsMemory (Line at) = ⊥

pub of_memory : {A : Type 0} (e : Wrong) (P : A → Type 0) → Gives {A = A} (Err e) P → IsMemory e
of_memory NoMemory P given = given
of_memory (Line at) P given = given

pub gives_memory : {B : Type 0} (e : Wrong) (r : Result B Wrong) (Q : B → Type 0) → r ≡ Err e → IsMemory e → Gives r Q
gives_memory {B} e r Q is memory = subst (λ one. Gives {A = B} one Q) (sym is) (by e memory)
  where
    by : (e : Wrong) → IsMemory e → Gives {A = B} (Err e) Q
    by NoMemory memory = memory
    by (Line at) memory = memory

pub no_line : (e : Wrong) → ((at : ℕ) → e ≡ Line at → ⊥) → IsMemory e
no_line NoMemory never = tt
no_line (Line at) never = never at refl

-- a part with other keys
abbrev pub part_with : List KeySum → Part → Part
part_with keys part = record part { keys = keys }

-- after the lines of a name come those of another, or what follows them all
pub no_key_behind : (parts : List Part) (behind : List (List ℕ)) → begins 107 behind ≡ false → begins 107 (flat_map part_block parts ++ behind) ≡ false
no_key_behind [] behind ends = ends
no_key_behind (part ∷ parts) behind ends = refl
