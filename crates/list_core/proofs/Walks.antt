-- What a walk gives.
use Rattle.std.proofs.Common.{◌≡◌, ℕ, suc, ◌+◌, ◌-◌, ◌<◌, ◌≤◌, ◌==◌, Bool, true, false, List, [], ◌∷◌, ◌++◌, length, get_or, inl, inr, sym, refl, ap, ◌∙◌, subst, arith, length-append, append_assoc}
use Rattle.std.specs.Prelude.{slice_index, if◌then◌else◌}
use Rattle.std.proofs.lemmas.List.{append-nil, get_or_append_left, get_or-append_right}
use Rattle.segment_image.specs.Words.{word_at}
use Rattle.list_core.specs.declared.walk.WalkStep.{WalkStep}
use Rattle.list_core.specs.declared.walk.WalkStep.TheVariants.{Record, End, Stray}
use Rattle.segment_image.specs.declared.head.SegmentHead.{SegmentHead}
use Rattle.list_core.specs.Chain.{is_reference, stops, IsChain, IsList}
use Rattle.list_core.specs.Walk.{said_of, stands_after, GivesNext, IsPrefix, IsGiven, stands_behind}
use Rattle.list_core.proofs.EventKinds.{next_loaded}
use Rattle.list_core.proofs.References.{block_reference}
use Rattle.list_core.proofs.Chains.{linked_of}

-- a walk at a place of the chain
pub gives_next : (words chain : List ℕ) (head : SegmentHead) (k at : ℕ) → head.free ≤ length words → IsChain words head chain → k ≤ length chain
    → slice_index (stops chain) k ≡ at → GivesNext chain k (said_of (length words) (word_at words (at + 3)))
gives_next words chain head k at free is le place =
    next_loaded words chain k at (linked_of words chain head is) le place
    (λ inside. block_reference words head (slice_index chain k) (is.walk.lawful k inside) free)

reach_by : (n next at : ℕ) (ends good : Bool) → is_reference n at ≡ true → is_reference n next ≡ good
    → is_reference n (stands_after at (if ends then End else if good then Record next else Stray)) ≡ true
reach_by n next at true good old is = old
reach_by n next at false true old is = is
reach_by n next at false false old is = old

-- a walk is where a list can have a record
pub reaches : (n next at : ℕ) → is_reference n at ≡ true → is_reference n (stands_after at (said_of n next)) ≡ true
reaches n next at old = reach_by n next at (next == 12) (is_reference n next) old refl

-- the record after a prefix, by what comes after it
pub record_behind : (given rest chain : List ℕ) → chain ≡ given ++ rest → length given < length chain → IsPrefix (given ++ slice_index chain (length given) ∷ []) chain
record_behind given [] chain is lt = absurd (omega (arith, ap length is, length-append given [], lt))
record_behind given (r ∷ rs) chain is lt =
    let none : length given - length given ≡ 0 = omega arith in
    let here : slice_index chain (length given) ≡ r = ap (λ (l : List ℕ). get_or l (length given) 0) is ∙ (get_or-append_right given (r ∷ rs) (length given) (length given) 0 refl (omega arith)
    ∙ ap (λ (i : ℕ). get_or (r ∷ rs) i 0) none) in
    (rs, is ∙ (sym (append_assoc given (r ∷ []) rs) ∙ ap (λ (n : ℕ). (given ++ n ∷ []) ++ rs) (sym here)))

-- nothing comes after a prefix as long as the whole
pub nothing_behind : (given rest chain : List ℕ) → chain ≡ given ++ rest → length given ≡ length chain → given ≡ chain
nothing_behind given [] chain is same = sym (is ∙ append-nil given)
nothing_behind given (r ∷ rs) chain is same = absurd (omega (arith, ap length is, length-append given (r ∷ rs), same))

-- a prefix of the chain with the record after it, or all of the chain where the walk ends
prefix_goes : (chain given : List ℕ) (said : WalkStep) → IsPrefix given chain → GivesNext chain (length given) said → IsGiven given chain said
prefix_goes chain given said (rest, is) (inl (lt, says)) = subst (IsGiven given chain) (sym says) (record_behind given rest chain is lt)
prefix_goes chain given said (rest, is) (inr (same, says)) = subst (IsGiven given chain) (sym says) (nothing_behind given rest chain is same)

-- the place of a walk that gave a prefix
pub place_of : (given rest chain : List ℕ) → chain ≡ given ++ rest → slice_index (stops chain) (length given) ≡ stands_behind given
place_of [] rest chain is = refl
place_of (x ∷ xs) rest chain is = ap (λ (l : List ℕ). get_or l (length xs) 0) is ∙ get_or_append_left (x ∷ xs) rest 0 (length xs) (omega arith)

-- what a walk from the start gives is a prefix of the chain, and all of it at the end
pub walk_goes : (words chain given : List ℕ) → IsList words chain → IsPrefix given chain
    → IsGiven given chain (said_of (length words) (word_at words (stands_behind given + 3)))
walk_goes words chain given is (rest, whole) =
    let within : length given ≤ length chain = omega (arith, ap length whole, length-append given rest) in
    prefix_goes chain given _ (rest, whole)
    (next_loaded words chain (length given) (stands_behind given) is.linked within (place_of given rest chain whole)
    (λ inside. is.references (slice_index chain (length given)) (suc (length given), omega (arith, inside), refl)))
