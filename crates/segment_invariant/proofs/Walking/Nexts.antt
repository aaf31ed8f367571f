-- A next is loaded: the state is kept, and the actor learns that it found the end or a record.
use Rattle.segment_invariant.proofs.Prelude.Std.{◌≡◌, ◌≢◌, ℕ, suc, ◌+◌, ◌<◌, ◌≤◌, ◌==◌, ◌&&◌, not, Bool, true, false, List, [], ◌∷◌, ◌++◌, length, Contains, inl, inr, refl, sym, ap, ◌∙◌, subst, arith, append_assoc, length-append, eq-eqb, ne_eqb, slice_index, if◌then◌else◌, Contains-append_left, some, dite, ℕ_discrete, get_elem?, at_longer, at_from, below_length, index_at}
use Rattle.segment_invariant.proofs.Prelude.Machine.{Dimensions, word_at, stops, IsStop, IsLinked, IsPrefix, Actor, Place, Spent, Idle, is_bound, is_opener, State, walking_event, next, Ready, load_next}
use Rattle.segment_invariant.proofs.Prelude.Invariant.{Anatomy, order_of, IsNoLater, StandsRight, Invariant}
use lib.Seq.{get_or-append_seam}
use Rattle.list_core.specs.Chain.{AreNeighbours}
use Rattle.list_core.proofs.Chains.{one_place}
use Rattle.list_core.proofs.EventKinds.{link_missed, behind_stop}
use Rattle.segment_machine.specs.declared.place.Place.TheVariants.{CursorLoaded, BehindCursor}
use Rattle.segment_machine.specs.Calls.{ended}
use Rattle.segment_machine.specs.Walking.{behind, extended, MayFollow}
use Rattle.segment_invariant.proofs.Walking.Learned.{next_learned}
use Rattle.segment_invariant.proofs.Frames.Ahead.{ahead_at, unbound_unbeaten, reached_stop}
use Rattle.segment_invariant.proofs.Frames.OneActor.{Doing, doing, TurnsTo, is_plain, turns_plain, turns_not}
use Rattle.segment_invariant.proofs.Frames.GoesOn.{happens}
use Rattle.segment_invariant.proofs.Frames.Shown.{Goes, loaded}
use Rattle.segment_invariant.proofs.Frames.Growth.{stop_at}
use Rattle.segment_invariant.proofs.Frames.GrowthOfActors.{SawMore}
use Rattle.segment_invariant.proofs.Frames.Standing.{grounds_itself, Follows, stands_on}
use Rattle.segment_invariant.proofs.Walking.Walks.{stop_within, walking, reference_is, looks_on}

-- ---- fronts of the list

-- what is on a list is on the chain that it is a front of
pub front_stop : (front chain : List ℕ) (at : ℕ) → IsPrefix front chain → Contains front at → IsStop chain at
front_stop front chain at (rest, is) has =
    let (i, here) = at_from front at has in
    let there : get_elem? chain i ≡ some at = subst (λ (l : List ℕ). get_elem? l i ≡ some at) (sym is) (at_longer front rest i at here) in
    (suc i, below_length chain i at there, index_at chain i at 0 there)

-- a front with the next record of the chain is one
prefix_longer : (front chain : List ℕ) (found : ℕ) → IsPrefix front chain → length front < length chain
    → slice_index chain (length front) ≡ found → IsPrefix (front ++ found ∷ []) chain
prefix_longer front chain found ([], is) lt next = let long = ap length is in let e = length-append front [] in absurd (omega (arith, long, e, lt))
prefix_longer front chain found (r ∷ rest, is) lt next =
    let same : r ≡ found = sym (get_or-append_seam front r rest 0) ∙ (ap (λ (l : List ℕ). slice_index l (length front)) (sym is) ∙ next) in
    (rest, is ∙ (ap (λ (n : ℕ). front ++ n ∷ rest) same ∙ sym (append_assoc front (found ∷ []) rest)))

-- so is what an actor has seen of the chain, when it loaded a next
extended_front : (words chain front : List ℕ) (at : ℕ) → IsLinked words chain → IsStop chain at → IsPrefix front chain
    → IsPrefix (extended front at (word_at words (at + 3))) chain
extended_front words chain front at linked stop (rest, is) =
    let found : ℕ = word_at words (at + 3) in
    let last : ℕ = slice_index (stops front) (length front) in
    let by : Bool → Bool → Type 0 = λ b c. IsPrefix (if b && not c then front ++ found ∷ [] else front) chain in
    dite (ℕ_discrete last at)
    (λ here. dite (ℕ_discrete found 12)
    (λ ends. subst (λ (b : Bool × Bool). by b.0 b.1) (λ i. (sym (eq-eqb last at here) i, sym (eq-eqb found 12 ends) i)) (rest, is))
    (λ goes.
    let near = link_missed words chain at linked stop goes in
    let (k, lt, stands, next) = near in
    let long : length front ≤ length chain = let n = ap length is in let e = length-append front rest in omega (arith, n, e) in
    let place : slice_index (stops chain) (length front) ≡ at =
    ap (λ (l : List ℕ). slice_index (stops l) (length front)) is ∙ (stop_at front rest (length front) (omega arith) ∙ here) in
    let same : k ≡ length front = one_place words chain k (length front) linked (omega (arith, lt)) long (stands ∙ sym place) in
    subst (λ (b : Bool × Bool). by b.0 b.1) (λ i. (sym (eq-eqb last at here) i, sym (ne_eqb found 12 goes) i))
    (prefix_longer front chain found (rest, is) (omega (arith, lt, same)) (ap (slice_index chain) (sym same) ∙ next))))
    (λ other. subst (λ (b : Bool). by b (found == 12)) (sym (ne_eqb last at other)) (rest, is))

extended_has : (b : Bool) (front : List ℕ) (found x : ℕ) → Contains front x → Contains (if b then front ++ found ∷ [] else front) x
extended_has true front found x has = Contains-append_left front (found ∷ []) x has
extended_has false front found x has = has

-- ---- places after a load

plain_behind : (b c : Bool) (cursor at found : ℕ) → is_plain (if b then (if c then Idle else BehindCursor cursor at found) else CursorLoaded cursor at) ≡ true
plain_behind true true cursor at found = refl
plain_behind true false cursor at found = refl
plain_behind false c cursor at found = refl

turns_behind : (a : Actor) (from found : ℕ) (place : Place) → a.hand.place ≡ place → a.hand.place ≢ Spent → TurnsTo a (behind place from found)
turns_behind a from found (CursorLoaded cursor at) is lives =
    turns_plain a _ (ap is_plain is) (plain_behind (from == at) (found == 12) cursor at found)
turns_behind a from found place is lives = subst (TurnsTo a) is (turns_not a lives)

-- a stop is no later than itself
pub no_later_itself : (chain : List ℕ) (at : ℕ) → IsStop chain at → IsNoLater chain at at
no_later_itself chain at (k, le, is) = (k, k, omega arith, le, is, is)

module _ (shape : Dimensions) (opened : Anatomy) (state : State) (kept : Invariant shape opened state) (id : ℕ) (a : Actor)
    (mine : get_elem? state.actors id ≡ some a) (records : is_opener a.role ≡ false) where
  abbrev order : List ℕ
  order = order_of kept.anatomy

  -- ---- a next is loaded

  follows_stop : (at : ℕ) → a.hand.place ≢ Spent → MayFollow a at → IsStop order at
  follows_stop at lives (inl queue) = (0, omega arith, sym queue)
  follows_stop at lives (inr (inl seen)) = front_stop a.seen.chain order at (kept.each id a mine lives).sees.walked seen
  follows_stop at lives (inr (inr (cursor, placed))) =
      reached_stop order (slice_index a.done.lost cursor) at (subst (StandsRight shape kept.anatomy id a) placed (kept.standing id a mine)).0

  -- what a load finds after a stop
  found_stop : (at : ℕ) → IsStop order at → IsStop order (word_at state.words (at + 3))
  found_stop at stop = dite (ℕ_discrete (word_at state.words (at + 3)) 12)
      (λ ends. (0, omega arith, sym ends))
      (λ goes. behind_stop order at _ (link_missed state.words order at kept.list.linked stop goes))

  module _ (d : Doing) (follows : Follows a (doing a d)) (from found : ℕ) (near : found ≢ 12 → AreNeighbours order from found) where
    stands_behind : (place : Place) → StandsRight shape kept.anatomy id a place → StandsRight shape kept.anatomy id (doing a d) (behind place from found)
    stands_behind (CursorLoaded cursor at) (reached, saw) =
        let by : Bool → Bool → Type 0 =
        λ b c. StandsRight shape kept.anatomy id (doing a d) (if b then (if c then Idle else BehindCursor cursor at found) else CursorLoaded cursor at) in
        dite (ℕ_discrete from at)
        (λ here. dite (ℕ_discrete found 12)
        (λ ends. subst (λ (b : Bool × Bool). by b.0 b.1) (λ i. (sym (eq-eqb from at here) i, sym (eq-eqb found 12 ends) i)) tt)
        (λ goes. subst (λ (b : Bool × Bool). by b.0 b.1) (λ i. (sym (eq-eqb from at here) i, sym (ne_eqb found 12 goes) i))
        (subst (λ (n : ℕ). AreNeighbours order n found) here (near goes), saw, reached)))
        (λ apart. subst (λ (b : Bool). by b (found == 12)) (sym (ne_eqb from at apart)) (reached, saw))
    stands_behind place stands =
        stands_on shape kept.anatomy kept.anatomy id a (doing a d) (grounds_itself kept.anatomy id) follows place stands

  pub next_loaded : (at : ℕ) → Ready a (walking_event (load_next at)) → Goes shape opened state kept id a mine records (walking_event (load_next at))
  next_loaded at (unbound, follow) =
      let found : ℕ = word_at state.words (at + 3) in
      let lives : a.hand.place ≢ Spent = λ spent. cc (unbound, ap is_bound spent) in
      let place : Place = behind a.hand.place at found in
      let chain : List ℕ = extended a.seen.chain at found in
      let ends : List ℕ = ended a.seen.ends (at + 3) (found == 12) in
      let stop = follows_stop at lives follow in
      let turns = turns_behind a at found a.hand.place refl lives in
      let fits = kept.each id a mine lives in
      let d : Doing = walking shape opened state kept id a mine records place a.done.beaten a.hand.own a.seen.tails chain ends a.seen.words in
      let follows : Follows a (doing a d) = record {
        saw = (refl, refl, refl, refl, refl);
        late = (refl, refl);
        names = λ known has. has;
        words = λ s has. has;
        seen = λ x word has. has;
        chain = λ x has. extended_has ((slice_index (stops a.seen.chain) (length a.seen.chain) == at) && not (found == 12)) a.seen.chain found x has;
        own = λ block has. (block, has, refl, refl);
        spent = λ spent. absurd (lives (ap (λ (b : Actor). b.hand.place) spent));
      } in
      let more : SawMore a d = record {
        chain = λ x has. extended_has ((slice_index (stops a.seen.chain) (length a.seen.chain) == at) && not (found == 12)) a.seen.chain found x has;
        words = λ x word has. has;
        counts = λ known word named has. has;
        loaded = turns.sums;
      } in
      happens opened.version state id a (walking_event (load_next at)) (stop_within shape opened state kept at stop) shape opened kept (
        loaded shape opened state kept id a mine records (at + 3) (next a (walking_event (load_next at)) found)
            (looks_on shape opened state kept id a mine records place a.done.beaten a.seen.tails chain ends a.seen.words turns more kept.anatomy.tail state.words
            kept.shown kept.list.linked kept.list.tail (λ seen before. before)
            (ahead_at order kept.anatomy.tail state.cursors a.hand.place a.done.beaten a.done.lost fits.ahead place (λ no. unbound_unbeaten a.hand.place unbound))
            (stands_behind d follows at found (λ goes. link_missed state.words order at kept.list.linked stop goes) a.hand.place (kept.standing id a mine))
            (extended_front state.words order a.seen.chain at kept.list.linked stop fits.sees.walked) fits.sees.tails fits.sees.fixed),
        next_learned shape opened state kept id a mine lives at stop
            (reference_is shape opened state kept id a mine records found lives (found_stop at stop)) fits.sees.walked
            (extended_front state.words order a.seen.chain at kept.list.linked stop fits.sees.walked),
      )
