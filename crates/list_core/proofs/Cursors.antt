-- What cursors of one word give.
use Rattle.std.proofs.Common.{◌≡◌, ◌≢◌, ℕ, zero, suc, ◌+◌, ◌<◌, ◌≤◌, eq-eqb, ne_eqb, Bool, true, List, [], ◌∷◌, ◌++◌, length, get_or, sym, refl, ap, ◌∙◌, subst, arith, length-append}
use Rattle.std.specs.Prelude.{slice_index, if◌then◌else◌}
use Rattle.std.proofs.lemmas.List.{get_or_append_left}
use mathlib.Core.Logic.{dite}
use native.Mathlib.Decide.{ℕ_discrete}
use Rattle.segment_image.specs.Words.{word_at}
use Rattle.list_core.specs.declared.cursor.CursorStage.{CursorStage}
use Rattle.list_core.specs.declared.cursor.CursorStage.TheVariants.{LoadCursor, LoadNext, MoveCursor}
use Rattle.list_core.specs.declared.cursor.CursorStep.{CursorStep}
use Rattle.list_core.specs.declared.cursor.CursorStep.TheVariants.{More, Record, End, Stray}
use Rattle.list_core.specs.Chain.{is_reference, stops, IsList}
use Rattle.list_core.specs.Walk.{IsPrefix}
use Rattle.list_core.specs.Cursor.{found_by, said_of, stage_after, shared_after, IsStep, IsShared, CursorStands, MaySay, given_after, Sharing, AreSharing, GivesFront}
use Rattle.list_core.specs.Cursor.AreSharing.{opened, grown, stepped}
use Rattle.list_core.proofs.Chains.{one_place, no_queue, next_inside, next_last, stops_last, length-longer}
use Rattle.list_core.proofs.Prefixes.{prefix_of_prefix}
use Rattle.list_core.proofs.Walks.{record_behind, nothing_behind, place_of}

-- ---- where cursors are

-- a cursor keeps its place when one more record was given
stands_longer : (chain given : List ℕ) (reference : ℕ) (stage : CursorStage) → CursorStands chain given stage → CursorStands chain (given ++ reference ∷ []) stage
stands_longer chain given reference LoadCursor on = tt
stands_longer chain given reference (LoadNext at) (k, le, is) = (k, omega (arith, le, length-longer given reference), is)
stands_longer chain given reference (MoveCursor at next) (k, le, lt, is, behind) =
    (k, omega (arith, le, length-longer given reference), lt, is, behind)

-- whatever one of them says
pub stands_on : (chain given : List ℕ) (step : CursorStep) (stage : CursorStage) → CursorStands chain given stage → CursorStands chain (given_after given step) stage
stands_on chain given (Record reference) stage on = stands_longer chain given reference stage on
stands_on chain given More stage on = on
stands_on chain given End stage on = on
stands_on chain given Stray stage on = on

-- the stops of a chain are stops of a longer one
stop_left : (chain rest : List ℕ) (k : ℕ) → k ≤ length chain → slice_index (stops (chain ++ rest)) k ≡ slice_index (stops chain) k
stop_left chain rest zero le = refl
stop_left chain rest (suc k) le = get_or_append_left chain rest 0 k (omega (arith, le))

-- a cursor keeps its place when the chain grows
stands_grown : (chain given rest : List ℕ) (stage : CursorStage) → length given ≤ length chain → CursorStands chain given stage → CursorStands (chain ++ rest) given stage
stands_grown chain given rest LoadCursor few on = tt
stands_grown chain given rest (LoadNext at) few (k, le, is) = (k, le, stop_left chain rest k (omega (arith, le, few)) ∙ is)
stands_grown chain given rest (MoveCursor at next) few (k, le, lt, is, behind) = (
  k,
  le,
  omega (arith, lt, length-append chain rest),
  stop_left chain rest k (omega (arith, lt)) ∙ is,
  get_or_append_left chain rest 0 k lt ∙ behind,
)

-- a front is no longer than the whole
pub front_within : (given chain : List ℕ) → IsPrefix given chain → length given ≤ length chain
front_within given chain (rest, is) = omega (arith, ap length is, length-append given rest)

-- ---- one step

-- what holds after a step of a cursor
pub record Goes (words chain given : List ℕ) (shared : ℕ) (stage : CursorStage) (step : CursorStep) : Type 0 where
  pub says : MaySay chain given step
  pub word : IsShared words chain (given_after given step) (shared_after shared step)
  pub stands : CursorStands chain (given_after given step) stage

module _ (words chain given : List ℕ) (shared : ℕ) (is : IsShared words chain given shared) where
  few : length given ≤ length chain
  few = front_within given chain is.front

  -- the shared word is a stop of the chain, at the end of what was given
  here : slice_index (stops chain) (length given) ≡ shared
  here = place_of given is.front.0 chain is.front.1 ∙ sym is.behind

  good : is_reference (length words) shared ≡ true
  good = is.list.references shared (length given, few, here)

  loads : Goes words chain given shared (stage_after (length words) shared LoadCursor) (said_of (length words) shared LoadCursor)
  loads = subst (λ (b : Bool). Goes words chain given shared (if b then LoadNext shared else LoadCursor) (if b then More else Stray)) (sym good)
      record { says = tt; word = is; stands = (length given, omega arith, here) }

  -- the next of a block where a cursor is: the record after it, or the end
  loads_next : (at : ℕ) → CursorStands chain given (LoadNext at)
      → Goes words chain given shared (stage_after (length words) (word_at words (at + 3)) (LoadNext at)) (said_of (length words) (word_at words (at + 3)) (LoadNext at))
  loads_next at (k, le, place) =
      let found : ℕ = word_at words (at + 3) in
      let by_end : Bool → Type 0 = λ b. Goes words chain given shared
      (if b then LoadCursor else if is_reference (length words) found then MoveCursor at found else LoadNext at)
      (if b then End else if is_reference (length words) found then More else Stray) in
      let by_good : Bool → Type 0 = λ b. Goes words chain given shared (if b then MoveCursor at found else LoadNext at) (if b then More else Stray) in
      dite (ℕ_discrete k (length chain))
      (λ last.
      let ends : found ≡ 12 = ap (λ (n : ℕ). word_at words (n + 3)) (sym place ∙ ap (slice_index (stops chain)) last) ∙ next_last words chain is.list.linked in
      let same : length given ≡ length chain = omega (arith, le, few, last) in
      subst by_end (sym (eq-eqb found 12 ends))
      record { says = nothing_behind given is.front.0 chain is.front.1 same; word = is; stands = tt })
      (λ ne.
      let inside : k < length chain = omega (arith, ne, le, few) in
      let next : slice_index chain k ≡ found = sym (next_inside words chain k is.list.linked inside) ∙ ap (λ (n : ℕ). word_at words (n + 3)) place in
      let on : is_reference (length words) found ≡ true = is.list.references found (suc k, omega (arith, inside), next) in
      subst by_end (sym (ne_eqb found 12 (λ e. no_queue words chain k is.list.linked inside (next ∙ e))))
      (subst by_good (sym on) record { says = tt; word = is; stands = (k, le, inside, place, next) }))

  -- an exchange that goes through gives the record after all that was given
  moves : (at next : ℕ) → CursorStands chain given (MoveCursor at next)
      → Goes words chain given shared (stage_after (length words) shared (MoveCursor at next)) (said_of (length words) shared (MoveCursor at next))
  moves at next (k, le, inside, place, behind) =
      let by : Bool → Type 0 = λ b. Goes words chain given shared LoadCursor (if b then Record next else More) in
      dite (ℕ_discrete shared at)
      (λ hit.
      let same : k ≡ length given = one_place words chain k (length given) is.list.linked (omega (arith, le, few)) few (place ∙ (sym hit ∙ sym here)) in
      let front : IsPrefix (given ++ next ∷ []) chain = subst (λ (r : ℕ). IsPrefix (given ++ r ∷ []) chain) (ap (slice_index chain) (sym same) ∙ behind)
      (record_behind given is.front.0 chain is.front.1 (omega (arith, same, inside))) in
      subst by (sym (eq-eqb shared at hit))
      record {
        says = front;
        word = record {
          list = is.list;
          front = front;
          behind = sym (ap (slice_index (stops (given ++ next ∷ []))) (length-longer given next) ∙ stops_last given next);
        };
        stands = tt;
      })
      (λ miss. subst by (sym (ne_eqb shared at miss)) record { says = tt; word = is; stands = tt })

  -- whatever it does next
  pub goes : (stage : CursorStage) → CursorStands chain given stage
      → Goes words chain given shared (stage_after (length words) (found_by words shared stage) stage) (said_of (length words) (found_by words shared stage) stage)
  goes LoadCursor on = loads
  goes (LoadNext at) on = loads_next at on
  goes (MoveCursor at next) on = moves at next on

-- so does a step
pub step_goes : (words chain given : List ℕ) (shared shared' : ℕ) (old new : CursorStage) (step : CursorStep) → IsStep old words shared new shared' step
    → IsShared words chain given shared → CursorStands chain given old
    → MaySay chain given step × IsShared words chain (given_after given step) shared' × CursorStands chain (given_after given step) new
step_goes words chain given shared shared' old new step is word on =
    let went = goes words chain given shared word old on in
    let same : said_of (length words) (found_by words shared old) old ≡ step = sym is.says in (
      subst (MaySay chain given) same went.says,
      subst (IsShared words chain (given_after given step)) (sym is.shared_is)
          (subst (λ (s : CursorStep). IsShared words chain (given_after given s) (shared_after shared s)) same went.word),
      subst (CursorStands chain (given_after given step)) (sym is.stage)
          (subst (λ (s : CursorStep). CursorStands chain (given_after given s) (stage_after (length words) (found_by words shared old) old)) same went.stands),
    )

-- ---- many steps

-- what is kept of cursors that share a word
record Kept (state : Sharing) : Type 0 where
  word : IsShared state.words state.chain state.given state.shared
  each : (id : ℕ) → CursorStands state.chain state.given (state.cursors id)

kept : (state : Sharing) → AreSharing state → Kept state
kept _ (opened words chain list) = record {
  word = record { list = list; front = (chain, refl); behind = refl };
  each = λ id. tt;
}
kept _ (grown old words chain before list front) =
    let was = kept old before in record {
      word = record { list = list; front = prefix_of_prefix old.given old.chain chain was.word.front front; behind = was.word.behind };
      each = λ id. subst (λ (longer : List ℕ). CursorStands longer old.given (old.cursors id)) (sym front.1)
          (stands_grown old.chain old.given front.0 (old.cursors id) (front_within old.given old.chain was.word.front) (was.each id));
    }
kept _ (stepped old id shared cursors step before is others) =
    let was = kept old before in
    let (says, word, on) = step_goes old.words old.chain old.given old.shared shared (old.cursors id) (cursors id) step is was.word (was.each id) in
    record {
      word = word;
      each = λ other. dite (ℕ_discrete other id)
          (λ same. subst (λ (n : ℕ). CursorStands old.chain (given_after old.given step) (cursors n)) (sym same) on)
          (λ ne. subst (CursorStands old.chain (given_after old.given step)) (sym (others other ne))
          (stands_on old.chain old.given step (old.cursors other) (was.each other)));
    }

-- a front of a chain has each record once
front_once : (words chain given : List ℕ) → IsList words chain → IsPrefix given chain → (i j : ℕ) → i < j → j < length given
    → slice_index given i ≢ slice_index given j
front_once words chain given list (rest, is) i j lt within same =
    let at : (k : ℕ) → k < length given → slice_index chain k ≡ slice_index given k = λ k inside.
    ap (λ (l : List ℕ). get_or l k 0) is ∙ get_or_append_left given rest 0 k inside in
    list.linked.distinct (suc i) (suc j) (omega (arith, lt)) (omega (arith, within, front_within given chain (rest, is)))
    (at i (omega (arith, lt, within)) ∙ (same ∙ sym (at j within)))

-- cursors that share a word give a front of the chain
pub give_front : (state : Sharing) → AreSharing state → GivesFront state
give_front state is =
    let now = kept state is in record {
      front = now.word.front;
      once = front_once state.words state.chain state.given now.word.list now.word.front;
      behind = now.word.behind;
      says = λ id. (goes state.words state.chain state.given state.shared now.word (state.cursors id) (now.each id)).says;
    }
