-- An actor follows a walk.
use Rattle.std.proofs.Common.{◌≡◌, ℕ, ◌-◌, ◌<◌, ◌==◌, Bool, true, false, not, ◌&&◌, List, [], ◌∷◌, ◌++◌, length, get_or, ◌⊎◌, ⊎_elim, inl, inr, refl, sym, ap, ◌∙◌, subst, arith, length-append, append_assoc, Contains}
use Rattle.std.specs.Prelude.{slice_index, if◌then◌else◌}
use Rattle.std.proofs.lemmas.List.{append-nil, get_or-append_right}
use Rattle.std.proofs.lemmas.List.Elements.{Contains-get_or, Contains-append_left}
use Rattle.std.proofs.lemmas.Bool.{eq-eqb}
use Rattle.list_core.specs.declared.walk.WalkStep.TheVariants.{Record, End, Stray}
use Rattle.list_core.specs.Chain.{is_reference, stops}
use Rattle.list_core.specs.Walk.{IsPrefix, given_after, stands_behind}
use Rattle.list_core.proofs.Prefixes.{prefix_of_prefix}
use Rattle.list_core.proofs.Walks.{place_of}
use Rattle.segment_machine.specs.declared.place.Place.{Place}
use Rattle.segment_machine.specs.declared.place.Place.TheVariants.{Idle, CursorLoaded, BehindCursor}
use Rattle.segment_machine.specs.Actor.{is_bound}
use Rattle.segment_machine.specs.Walking.{extended, behind}
use Rattle.segment_machine.specs.Stages.{WalksAgree}

-- a walk that has given something is at a record that it gave
stands_among : (given : List ℕ) → (stands_behind given ≡ 12) ⊎ Contains given (stands_behind given)
stands_among [] = inl refl
stands_among (x ∷ xs) = inr (Contains-get_or (x ∷ xs) (length xs) 0 (omega arith))

-- the chain that is seen only grows
grows : (chain : List ℕ) (found : ℕ) (more : Bool) → IsPrefix chain (if more then chain ++ found ∷ [] else chain)
grows chain found true = (found ∷ [], refl)
grows chain found false = ([], sym (append-nil chain))

-- what the walk gave and what it visits now is a front of the chain that is seen then
meets : (given rest chain : List ℕ) (found : ℕ) → chain ≡ given ++ rest → (length given < length chain → found ≡ slice_index chain (length given))
    → (found == 12) ≡ false → IsPrefix (given ++ found ∷ []) (extended chain (stands_behind given) found)
meets given [] chain found is again goes =
    let all : chain ≡ given = is ∙ append-nil given in
    let here : (slice_index (stops chain) (length chain) == stands_behind given) ≡ true =
    ap (λ (l : List ℕ). stands_behind l == stands_behind given) all ∙ eq-eqb (stands_behind given) (stands_behind given) refl in (
      [],
      ap (λ (both : Bool × Bool). if both.0 && not both.1 then chain ++ found ∷ [] else chain) (λ i. (here i, goes i))
          ∙ (ap (λ (l : List ℕ). l ++ found ∷ []) all ∙ sym (append-nil (given ++ found ∷ []))),
    )
meets given (r ∷ rs) chain found is again goes =
    let longer : length given < length chain = let n = ap length is in let m = length-append given (r ∷ rs) in omega (arith, n, m) in
    let none : length given - length given ≡ 0 = omega arith in
    let here : slice_index chain (length given) ≡ r =
    ap (λ (l : List ℕ). get_or l (length given) 0) is
    ∙ (get_or-append_right given (r ∷ rs) (length given) (length given) 0 refl (omega arith) ∙ ap (λ (i : ℕ). get_or (r ∷ rs) i 0) none) in
    let met : found ≡ r = again longer ∙ here in
    prefix_of_prefix (given ++ found ∷ []) chain _
    (rs, is ∙ (sym (append_assoc given (r ∷ []) rs) ∙ ap (λ (n : ℕ). (given ++ n ∷ []) ++ rs) (sym met)))
    (grows chain found _)

-- the same by what the walk says
gives : (given rest chain : List ℕ) (n found : ℕ) (ends good : Bool) → chain ≡ given ++ rest
    → (length given < length chain → found ≡ slice_index chain (length given)) → (found == 12) ≡ ends
    → IsPrefix (given_after given (if ends then End else if good then Record found else Stray)) (extended chain (stands_behind given) found)
gives given rest chain n found true good is again e = prefix_of_prefix given chain _ (rest, is) (grows chain found _)
gives given rest chain n found false true is again e = meets given rest chain found is again e
gives given rest chain n found false false is again e = prefix_of_prefix given chain _ (rest, is) (grows chain found _)

-- an actor that may turn still may after a next
by_end : (ends : Bool) (cursor at found : ℕ) → is_bound (if ends then Idle else BehindCursor cursor at found) ≡ false
by_end true cursor at found = refl
by_end false cursor at found = refl

at_cursor : (here ends : Bool) (cursor at found : ℕ)
    → is_bound (if here then (if ends then Idle else BehindCursor cursor at found) else CursorLoaded cursor at) ≡ false
at_cursor true ends cursor at found = by_end ends cursor at found
at_cursor false ends cursor at found = refl

may_turn : (place : Place) (from found : ℕ) → is_bound place ≡ false → is_bound (behind place from found) ≡ false
may_turn (CursorLoaded cursor at) from found free = at_cursor (from == at) (found == 12) cursor at found
may_turn place from found free = free

pub walks_agree : WalksAgree
walks_agree size version a given (turns, (rest, is)) = (
  refl,
  (
    turns,
    ⊎_elim inl (λ met. inr (inl (subst (λ (l : List ℕ). Contains l (stands_behind given)) (sym is) (Contains-append_left given rest _ met)))) (stands_among given),
  ),
  λ found learned. (
    may_turn a.hand.place (stands_behind given) found turns,
    gives given rest a.seen.chain a.segment.shape.size found (found == 12) (is_reference a.segment.shape.size found) is
        (λ passed. learned.again (length given) passed (place_of given rest a.seen.chain is)) refl,
  ),
)
