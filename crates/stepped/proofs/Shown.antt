-- What a replay writes, and what its events change.
use Rattle.std.proofs.Common.{◌≡◌, ℕ, zero, suc, ℤ, ◌+◌, ◌<◌, List, [], ◌∷◌, ◌++◌, length, take, drop, get_or, slice_index, refl, sym, ap, subst, ◌∙◌, append_assoc, add-one, arith, length-set}
use Rattle.std.proofs.lemmas.List.{append-nil, get_or-set_same, get_or-set_other, length-take-le, map-append, take-append-drop, take_more}
use Rattle.std.proofs.lemmas.List.Concat.{flat_map-append}
use Rattle.std.proofs.Math.Logic.{∥∥₁_elim}
use Rattle.std.proofs.Props.{props}
use Rattle.std.specs.Prelude.{Option, Some, None, Result, Ok, Err, MatchOption, MatchResult, OnOk, IfOk, IfErr, IsOk, slice_set}
use Rattle.std.specs.Fmt.{decimal, signed_decimal}
use Rattle.std.specs.Io.KnownBytes.{Appends}
use mathlib.Core.Logic.{dite}
use native.Mathlib.Decide.{ℕ_discrete}
use Rattle.segment_image.specs.Checks.{first_fault}
use Rattle.segment_machine.specs.State.{State}
use Rattle.hist_core.specs.declared.world_state.WorldState.{WorldState}
use Rattle.hist_core.specs.declared.call.Begun.{Begun}
use Rattle.segment_calls.specs.declared.call.Call.{Call}
use Rattle.hist_core.specs.declared.call.Move.TheVariants.{Step}
use Rattle.hist_core.specs.declared.call.Stepped.{Stepped}
use Rattle.hist_core.specs.declared.fault.WorldFault.{WorldFault}
use Rattle.hist_core.specs.declared.fault.WorldFault.TheVariants.{NoMemory}
use Rattle.hist_core.specs.Start.{Start}
use Rattle.hist_core.specs.WorldState.{BeginsFrom, IsReachedAs, OthersStay, Says, StepsTo}
use Rattle.hist_core.specs.Moves.{IsBegun, IsStepped}
use Rattle.hist_core.specs.World.{BeginSays, ChangesOneWord, TakesMemory, begin_checks, step_checks}
use Rattle.hist_core.proofs.Worlds.Scheduling.{no_fault, split_there}
use Rattle.schedule.specs.declared.order.Order.{Order}
use Rattle.stepped.specs.declared.lines.Change.{Change}
use Rattle.stepped.specs.declared.lines.LinePlace.{LinePlace}
use Rattle.stepped.specs.declared.form.Form.{Form}
use Rattle.stepped.specs.Form.{Writes, form_after, form_behind, text_of, texts}
use Rattle.stepped.specs.Lines.{Deed, behind, units_fields}
use Rattle.stepped.specs.Lines.Deed.{Ends}
use Rattle.stepped.specs.Replay.{DoesOrder, EndsCall, FailsAt, GoesBy, IsDifference, Replays, ShowsMove, StopsAtOrder, placed}

-- ---- bytes

-- bytes that are appended one after the other
pub appends_both : (a b c : Option (List ℕ)) (xs ys : List ℕ) → Appends a b xs → Appends b c ys → Appends a c (xs ++ ys)
appends_both None b c xs ys first second = tt
appends_both (Some old) None c xs ys first second = absurd first
appends_both (Some old) (Some mid) None xs ys first second = absurd second
appends_both (Some old) (Some mid) (Some new) xs ys first second = second ∙ (ap (λ s. s ++ ys) first ∙ append_assoc old xs ys)

-- none are
pub appends_none : (a : Option (List ℕ)) → Appends a a []
appends_none None = tt
appends_none (Some old) = sym (append-nil old)

-- what holds if a result is Ok leads to more then
pub on_ok : {X E : Type 0} (made : Result X E) {A B : Type 0} → (A → B) → OnOk made A → OnOk made B
on_ok (Ok x) f held = f held
on_ok (Err e) f held = tt

-- fields that are written one after the other
pub fields_both : (a b c : Option (List ℕ)) (xs ys : List (List ℕ)) → Appends a b (behind xs) → Appends b c (behind ys) → Appends a c (behind (xs ++ ys))
fields_both a b c xs ys first second =
    subst (Appends a c) (sym (flat_map-append (λ (field : List ℕ). 44 ∷ field) xs ys)) (appends_both a b c (behind xs) (behind ys) first second)

-- what comes after all that was done
pub form_both : (form : Form) (xs ys : List (LinePlace × Deed)) → form_behind form (xs ++ ys) ≡ form_behind (form_behind form xs) ys
form_both form [] ys = refl
form_both form (x ∷ xs) ys = form_both (form_after x.1 form) xs ys

pub texts_both : (form : Form) (xs ys : List (LinePlace × Deed)) → texts form (xs ++ ys) ≡ texts form xs ++ texts (form_behind form xs) ys
texts_both form [] ys = refl
texts_both form (x ∷ xs) ys =
    ap (λ (s : List ℕ). text_of form x.0 x.1 ++ s) (texts_both (form_after x.1 form) xs ys)
    ∙ sym (append_assoc (text_of form x.0 x.1) (texts (form_after x.1 form) xs) (texts (form_behind (form_after x.1 form) xs) ys))

-- what is written after what was done is the text of both
pub texts_behind : (f g : Form) (a b c : Option (List ℕ)) (xs ys : List (LinePlace × Deed)) → Writes f g a b xs → Appends b c (texts g ys)
    → Appends a c (texts f (xs ++ ys))
texts_behind f g a b c xs ys (is, first) second =
    subst (Appends a c) (sym (texts_both f xs ys))
    (appends_both a b c (texts f xs) (texts (form_behind f xs) ys) first (subst (λ (form : Form). Appends b c (texts form ys)) is second))

-- what is done one after the other
pub writes_both : (f g h : Form) (a b c : Option (List ℕ)) (xs ys : List (LinePlace × Deed)) → Writes f g a b xs → Writes g h b c ys → Writes f h a c (xs ++ ys)
writes_both f g h a b c xs ys first second = (
  second.0 ∙ (ap (λ (form : Form). form_behind form ys) first.0 ∙ sym (form_both f xs ys)),
  texts_behind f g a b c xs ys first second.1,
)

-- the same at one place
pub writes_placed : (number actor : ℕ) (f g h : Form) (a b c : Option (List ℕ)) (xs ys : List Deed) → Writes f g a b (placed number actor xs)
    → Writes g h b c (placed number actor ys) → Writes f h a c (placed number actor (xs ++ ys))
writes_placed number actor f g h a b c xs ys first second =
    subst (Writes f h a c) (sym (map-append (λ (deed : Deed). (record { number = number; actor = actor }, deed)) xs ys))
    (writes_both f g h a b c (placed number actor xs) (placed number actor ys) first second)

-- one thing is done
pub writes_one : (place : LinePlace) (f g : Form) (a b : Option (List ℕ)) (deed : Deed) → g ≡ form_after deed f → Appends a b (text_of f place deed)
    → Writes f g a b (placed place.number place.actor (deed ∷ []))
writes_one place f g a b deed is shown = (is, subst (Appends a b) (sym (append-nil (text_of f place deed))) shown)

-- the fields of one key more
pub units_more : (counts : List (ℤ × ℕ)) (i : ℕ) (one : ℤ × ℕ) → i < length counts → one ≡ get_or counts i one
    → behind (units_fields (take (i + 1) counts))
    ≡ behind (units_fields (take i counts)) ++ (behind (signed_decimal one.0 ∷ []) ++ behind (decimal one.1 ∷ []))
units_more counts i one near is =
    let fields : ℤ × ℕ → List (List ℕ) = λ count. signed_decimal count.0 ∷ decimal count.1 ∷ [] in
    let sofar = units_fields (take i counts) in
    ap (λ (l : List (ℤ × ℕ)). behind (units_fields l)) (take_more counts i one near ∙ ap (λ (x : ℤ × ℕ). take i counts ++ x ∷ []) (sym is))
    ∙ (ap behind (flat_map-append fields (take i counts) (one ∷ []))
    ∙ (flat_map-append (λ (field : List ℕ). 44 ∷ field) sofar (fields one)
    ∙ ap (λ s. behind sofar ++ s) (flat_map-append (λ (field : List ℕ). 44 ∷ field) (signed_decimal one.0 ∷ []) (decimal one.1 ∷ []))))

-- ---- words

-- if at most one of some words has changed, a word that differs is that one
one_differs : (old new : List ℕ) (change : Change) → ChangesOneWord old new → IsDifference old new change → new ≡ slice_set old change.at change.new
one_differs old new change (at, word, is) differs =
    let found : slice_index (slice_set old at word) change.at ≡ change.new = ap (λ (l : List ℕ). slice_index l change.at) (sym is) ∙ differs.is in
    dite (ℕ_discrete at change.at)
    (λ same.
    let here : word ≡ change.new = sym (get_or-set_same old change.at word 0 differs.near)
    ∙ (ap (λ (n : ℕ). slice_index (slice_set old n word) change.at) (sym same) ∙ found) in
    is ∙ (ap (λ (n : ℕ). slice_set old n word) same ∙ ap (slice_set old change.at) here))
    (λ apart. absurd (differs.other (sym differs.was ∙ (sym (get_or-set_other old at change.at word 0 (λ e. apart (sym e))) ∙ found))))

-- the lists may be others that are the same
pub differs_in : (a b old new : List ℕ) (change : Change) → a ≡ old → b ≡ new → IsDifference a b change → IsDifference old new change
differs_in a b old new change is_old is_new differs =
    subst (λ (l : List ℕ). IsDifference old l change) is_new (subst (λ (l : List ℕ). IsDifference l b change) is_old differs)

pub new_words : (old new : List ℕ) (change : Change) → ∥ ChangesOneWord old new ∥₁ → IsDifference old new change → new ≡ slice_set old change.at change.new
new_words old new change changes differs = ∥∥₁_elim changes (hlevel props) (λ one. one_differs old new change one differs)

-- the number of words does not change
pub same_length : (old new : List ℕ) → ∥ ChangesOneWord old new ∥₁ → length old ≡ length new
same_length old new changes = ∥∥₁_elim changes (hlevel props) (λ (at, word, is). sym (ap length is ∙ length-set old at word))

-- ---- moves

-- it is Ok, whatever the errors are
abbrev pub ok_beside : {A : Type 0} (F : Type 0) → A → Result A F
ok_beside F said = Ok said

-- if one of two results with other errors is Ok, so is the other
pub same_ok : {A E : Type 0} (F : Type 0) (made : Result A E) (said : A) → MatchResult made (λ x. ok_beside F said ≡ Ok x) (λ e. ⊥) → made ≡ Ok said
same_ok {A} F (Ok x) said is = ap Ok (sym (ap value_or is))
  where
    value_or : Result A F → A
    value_or (Ok a) = a
    value_or (Err e) = said
same_ok F (Err e) said is = absurd is

-- what `World::step` promises of its answer
abbrev pub StepPromises : ℕ → WorldState → WorldState → Result Stepped WorldFault → Type 0
StepPromises actor old new made =
    MatchOption (first_fault (step_checks old actor)) (IsOk made) (λ fault. made ≡ Err fault) × OnOk made (OthersStay actor old new)
    × IfOk made (λ said. Says actor old new said) × IfOk made (λ said. (start : Start) (state : State) → IsReachedAs start old state → StepsTo old actor start state new said)

pub is_stepped : (actor : ℕ) (old new : WorldState) (made : Result Stepped WorldFault) (said : Stepped) → made ≡ Ok said → StepPromises actor old new made
    → IsStepped actor old new said
is_stepped actor old new made said is promises =
    let here : StepPromises actor old new (Ok said) = subst (StepPromises actor old new) is promises in record {
      lawful = no_fault (first_fault (step_checks old actor)) said _ here.0;
      others = here.1;
      says = here.2;
      leads = here.3;
    }

-- what `World::begin` promises of its answer
abbrev pub BeginPromises : ℕ → Call → WorldState → WorldState → Result Begun WorldFault → Type 0
BeginPromises actor call old new made =
    MatchOption (first_fault (begin_checks old actor call)) (IfErr made (λ fault. (fault ≡ NoMemory) × TakesMemory call)) (λ fault. made ≡ Err fault)
    × IfOk made (λ said. BeginSays actor call old new said)

pub is_begun : (actor : ℕ) (call : Call) (old new : WorldState) (made : Result Begun WorldFault) (said : Begun) → made ≡ Ok said
    → BeginPromises actor call old new made → OthersStay actor old new → ((start : Start) (state : State) → IsReachedAs start old state → BeginsFrom start state actor new)
    → IsBegun actor call old new said
is_begun actor call old new made said is promises others leads =
    let here : BeginPromises actor call old new (Ok said) = subst (BeginPromises actor call old new) is promises in record {
      lawful = no_fault (first_fault (begin_checks old actor call)) said _ here.0;
      others = others;
      says = here.1;
      leads = leads;
    }

-- ---- events

-- one event more
pub goes_next : (actor events : ℕ) (old mid new : WorldState) (before last : List Deed) → GoesBy actor events old mid before → ShowsMove (Step actor) mid new last
    → GoesBy actor (events + 1) old new (before ++ last)
goes_next actor events old mid new before last goes shows =
    subst (λ (n : ℕ). GoesBy actor n old new (before ++ last)) (sym (add-one events)) (mid, before, last, goes, shows, refl)

-- the answer that is last is last after others
pub ends_behind : (before last : List Deed) → EndsCall last → EndsCall (before ++ last)
ends_behind before last (its, answer, is) =
    (before ++ its, answer, ap (λ (l : List Deed). before ++ l) is ∙ sym (append_assoc before its (Ends answer ∷ [])))

-- ---- records

-- one record more
pub replays_more : (number at : ℕ) (done : List Order) (order : Order) (left : ℕ) (old mid new : WorldState) (left_then then_left : ℕ) (shown : List (LinePlace × Deed))
    (deeds : List Deed) → at ≡ number + length done → Replays number done left old mid left_then shown → 0 < left_then
    → DoesOrder order.actor order.kind left_then mid new then_left deeds
    → Replays number (done ++ order ∷ []) left old new then_left (shown ++ placed at order.actor deeds)
replays_more number at [] order left old mid new zero then_left shown deeds here (same, all, none) some does = absurd (omega (arith, some))
replays_more number at [] order left old mid new (suc n) then_left shown deeds here (same, all, none) some does =
    let number_is : at ≡ number = omega (arith, here) in
    subst (λ (l : ℕ). Replays number (order ∷ []) l old new then_left (shown ++ placed at order.actor deeds)) all (
      new,
      then_left,
      deeds,
      [],
      subst (λ (b : WorldState). DoesOrder order.actor order.kind (suc n) b new then_left deeds) same does,
      (refl, refl, refl),
      ap (λ (s : List (LinePlace × Deed)). s ++ placed at order.actor deeds) none
          ∙ (ap (λ (k : ℕ). placed k order.actor deeds) number_is ∙ sym (append-nil (placed number order.actor deeds))),
    )
replays_more number at (first ∷ done) order zero old mid new left_then then_left shown deeds here (same, none_left, none) some does =
    absurd (omega (arith, some, none_left))
replays_more number at (first ∷ done) order (suc left) old mid new left_then then_left shown deeds here (b, n, its, later, did, rest, is) some does = (
  b,
  n,
  its,
  later ++ placed at order.actor deeds,
  did,
  replays_more (number + 1) at done order n b mid new left_then then_left later deeds (omega (arith, here)) rest some does,
  ap (λ (s : List (LinePlace × Deed)). s ++ placed at order.actor deeds) is ∙ append_assoc (placed number first.actor its) later (placed at order.actor deeds),
)

-- if no event is left, later records do nothing
pub replays_no_more : (number : ℕ) (done rest : List Order) (left : ℕ) (old mid : WorldState) (shown : List (LinePlace × Deed)) → Replays number done left old mid 0 shown
    → Replays number (done ++ rest) left old mid 0 shown
replays_no_more number [] [] left old mid shown replays = replays
replays_no_more number [] (next ∷ rest) left old mid shown (same, all, none) =
    subst (λ (l : ℕ). Replays number (next ∷ rest) l old mid 0 shown) all (same, refl, none)
replays_no_more number (first ∷ done) rest zero old mid shown replays = replays
replays_no_more number (first ∷ done) rest (suc left) old mid shown (b, n, its, later, did, replays, is) =
    (b, n, its, later, did, replays_no_more (number + 1) done rest n b mid later replays, is)

-- the next record is done too
pub replays_next : (orders : List Order) (i : ℕ) (order : Order) (left : ℕ) (old mid new : WorldState) (left_then then_left : ℕ) (shown : List (LinePlace × Deed)) (deeds : List Deed)
    → i < length orders → order ≡ get_or orders i order → Replays 2 (take i orders) left old mid left_then shown → 0 < left_then
    → DoesOrder order.actor order.kind left_then mid new then_left deeds
    → Replays 2 (take (i + 1) orders) left old new then_left (shown ++ placed (i + 2) order.actor deeds)
replays_next orders i order left old mid new left_then then_left shown deeds near is replays some does =
    subst (λ (l : List Order). Replays 2 l left old new then_left (shown ++ placed (i + 2) order.actor deeds))
    (sym (take_more orders i order near ∙ ap (λ (o : Order). take i orders ++ o ∷ []) (sym is)))
    (replays_more 2 (i + 2) (take i orders) order left old mid new left_then then_left shown deeds
    (omega (arith, length-take-le i orders (omega (arith, near)))) replays some does)

-- no event is left, so all is done
pub replays_all : (orders : List Order) (i left : ℕ) (old mid : WorldState) (then_left : ℕ) (shown : List (LinePlace × Deed)) → then_left ≡ 0
    → Replays 2 (take i orders) left old mid then_left shown → Replays 2 orders left old mid then_left shown
replays_all orders i left old mid then_left shown none replays =
    subst (λ (n : ℕ). Replays 2 orders left old mid n shown) (sym none)
    (subst (λ (l : List Order). Replays 2 l left old mid 0 shown) (take-append-drop i orders)
    (replays_no_more 2 (take i orders) (drop i orders) left old mid shown
    (subst (λ (n : ℕ). Replays 2 (take i orders) left old mid n shown) none replays)))

-- the next record has a fault
pub stops_next : (orders : List Order) (i : ℕ) (order : Order) (left : ℕ) (old mid : WorldState) (left_then : ℕ) (shown : List (LinePlace × Deed)) (why : WorldFault)
    (deeds : List Deed) → i < length orders → order ≡ get_or orders i order → Replays 2 (take i orders) left old mid left_then shown → 0 < left_then
    → FailsAt order.actor order.kind mid why deeds → StopsAtOrder orders left old (i + 2) why (shown ++ placed (i + 2) order.actor deeds)
stops_next orders i order left old mid left_then shown why deeds near is replays some fails = record {
  before = take i orders;
  order = order;
  rest = drop (i + 1) orders;
  are = split_there orders i order near is;
  number_is = omega (arith, length-take-le i orders (omega (arith, near)));
  mid = mid;
  left_then = left_then;
  some = some;
  done = shown;
  replays = replays;
  deeds = deeds;
  fails = fails;
  shown_is = refl;
}
