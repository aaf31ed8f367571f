-- Moves one after the other.
use Rattle.std.proofs.Common.{true≢false, ◌≡◌, ◌⊎◌, inl, ℕ, ◌+◌, ◌<◌, List, [], ◌∷◌, ◌++◌, take, drop, get_or, length, refl, sym, ap, subst, ◌∙◌}
use Rattle.std.proofs.lemmas.List.{drop_more, take_more, take-append-drop}
use Rattle.std.specs.Prelude.{Option, Some, None, Result, Ok, Err, IfOk, MatchOption, MatchResult, is_ok}
use Rattle.hist_core.specs.declared.world_state.WorldState.{WorldState}
use Rattle.hist_core.specs.declared.call.Move.{Move}
use Rattle.hist_core.specs.declared.fault.WorldFault.{WorldFault}
use Rattle.image_adoption.specs.Checking.{IsFaultOf}
use Rattle.segment_calls.specs.declared.adopt_fault.AdoptFault.{AdoptFault}
use Rattle.segment_calls.specs.declared.adopt_fault.AdoptFault.TheVariants as adopt
use Rattle.hist_core.specs.WorldFault.{fault_of_adoption}
use Rattle.hist_core.specs.World.{IsAdoptFault}
use Rattle.hist_core.specs.Moves.{FaultsAt, Makes, MakesAll, StopsAtMove}

-- one move more
makes_more : (moves : List Move) (move : Move) (old mid new : WorldState) → MakesAll moves old mid → Makes move mid new → MakesAll (moves ++ move ∷ []) old new
makes_more [] move old mid new all one = (new, subst (λ (b : WorldState). Makes move b new) all one, refl)
makes_more (first ∷ moves) move old mid new all one = (all.0, all.1, makes_more moves move all.0 mid new all.2 one)

-- the moves so far and the next one
pub made_next : (moves : List Move) (i : ℕ) (move : Move) (old mid new : WorldState) → i < length moves → move ≡ get_or moves i move
    → MakesAll (take i moves) old mid → Makes move mid new → MakesAll (take (i + 1) moves) old new
made_next moves i move old mid new near is all one =
    subst (λ (l : List Move). MakesAll l old new) (sym (take_more moves i move near ∙ ap (λ (m : Move). take i moves ++ m ∷ []) (sym is)))
    (makes_more (take i moves) move old mid new all one)

-- a list is what comes before an element, the element, and what comes after it
pub split_there : {X : Type 0} (xs : List X) (i : ℕ) (x : X) → i < length xs → x ≡ get_or xs i x → xs ≡ take i xs ++ x ∷ drop (i + 1) xs
split_there {X} xs i x near is = sym (take-append-drop i xs)
    ∙ ap (λ (l : List X). take i xs ++ l) (drop_more xs i x near ∙ ap (λ (y : X). y ∷ drop (i + 1) xs) (sym is))

-- the next one has a fault
pub stops_next : (moves : List Move) (i : ℕ) (move : Move) (old mid : WorldState) (fault : WorldFault) → i < length moves → move ≡ get_or moves i move
    → MakesAll (take i moves) old mid → FaultsAt move mid fault → StopsAtMove moves old fault
stops_next moves i move old mid fault near is all faults = record {
  before = take i moves;
  move = move;
  rest = drop (i + 1) moves;
  are = split_there moves i move near is;
  world_state = mid;
  leads = all;
  faults = faults;
}

-- what is Ok has no fault
pub no_fault : {A : Type 0} (first : Option WorldFault) (a : A) (fine : Type 0) → MatchOption first fine (λ fault. Ok a ≡ Err fault) → first ≡ None
no_fault None a fine is = refl
no_fault (Some fault) a fine is = absurd (cc is)

-- and is fine
pub is_fine : {A : Type 0} (first : Option WorldFault) (a : A) (fine : Type 0) → MatchOption first fine (λ fault. Ok a ≡ Err fault) → fine
is_fine None a fine is = is
is_fine (Some fault) a fine is = absurd (cc is)

-- what stops after a beginning without fault
pub stops_behind : (first : Option WorldFault) (fault : WorldFault) (Stops : Type 0) → first ≡ None → Stops → MatchOption first Stops (λ why. fault ≡ why)
stops_behind first fault Stops none stops = subst (λ (f : Option WorldFault). MatchOption f Stops (λ why. fault ≡ why)) (sym none) stops

-- what stops before the first move
pub stops_before : {A : Type 0} (first : Option WorldFault) (made : Result A WorldFault) (fault : WorldFault) (Fails Stops : Type 0) → made ≡ Err fault
    → MatchOption first Fails (λ why. made ≡ Err why) → MatchOption first (Fails ⊎ Stops) (λ why. fault ≡ why)
stops_before None made fault Fails Stops so is = inl is
stops_before (Some why) made fault Fails Stops so is = cc (sym so ∙ is)

-- ---- from an image on

-- what a fault of it becomes
pub image_faults : (words : List ℕ) (fault : AdoptFault) → IsFaultOf words 0 fault → IsAdoptFault words (fault_of_adoption fault)
image_faults words (adopt.Image why) is = is
image_faults words adopt.OldVersion is = is
image_faults words adopt.Corrupt is = is
image_faults words adopt.Damaged is = is
image_faults words adopt.NoUnits is = is
image_faults words adopt.BadCursors is = is
image_faults words adopt.NoMemory is = tt

-- ---- results

-- what holds of a value that is Ok still holds if the type of the error is another
pub ok_still : {A E F : Type 0} (P : A → Type 0) (made : Result A E) (told : Result A F) (Fails : E → Type 0) → IfOk made P
    → MatchResult made (λ x. told ≡ Ok x) Fails → is_ok told ≡ is_ok made → IfOk told P
ok_still P (Ok x) told Fails holds same alike = subst (λ r. IfOk r P) (sym same) holds
ok_still P (Err e) (Ok x) Fails holds same alike = absurd (true≢false alike)
ok_still P (Err e) (Err f) Fails holds same alike = tt
