-- A state is kept when one actor moves on to a place, sees more, and no word of the segment changes.
use Rattle.segment_invariant.proofs.Prelude.Std.{◌≡◌, ◌≢◌, ℕ, ◌+◌, ◌-◌, ◌<◌, ◌≤◌, ℤ, List, ◌++◌, length, set, take, drop, Contains, inl, inr, refl, sym, ap, ◌∙◌, subst, arith, false, true, take-append_seam, slice_index, IsPermutation, Some, All-weaker, some, get_elem?, at_set, set_else, rows, column, sum_same}
use Rattle.segment_invariant.proofs.Prelude.Machine.{Dimensions, IsLinked, Actor, Portion, Claim, Given, Entry, Place, Spent, SumLoaded, Seen, tally_units, tally_sum, tally_noted, counted_of, summed_of, noted_of, units_of, all_counted, all_taken, taken_units, taken_sum, word_seen, taken_of, is_opener, State, Event, spot, next, Learned}
use Rattle.segment_invariant.proofs.Prelude.Invariant.{found_at, Anatomy, order_of, claims_of, moving_at, IsNoLater, Sees, SumsAreNear, CallsRight, LooksBack, IsSetBy, StandsRight, IsAhead, Fits, Invariant, KeptOn, summed_cost}
use Rattle.std.proofs.Math.Seq.{drop-append_seam}
use Rattle.std.proofs.lemmas.List.{set-append_right, get_or-append_right}
use Rattle.segment_machine.specs.State.{memory}
use Rattle.segment_machine.specs.Event.{change}
use Rattle.segment_invariant.specs.Keeps.{happened}
use Rattle.segment_invariant.specs.Invariant.{CursorsAreKept}
use Rattle.segment_invariant.proofs.Frames.Ahead.{reached_later}
use Rattle.segment_invariant.proofs.Frames.Answers.{answered_set}
use Rattle.segment_invariant.proofs.Frames.Books.{cursors_set, listed_set, noticed_set}
use Rattle.segment_invariant.proofs.Frames.Deeds.{SameSums}
use Rattle.segment_invariant.proofs.Frames.GoesOn.{not_opener}
use Rattle.segment_invariant.proofs.Frames.OneActor.{living_at}
use Rattle.segment_invariant.proofs.Frames.Rises.{rises_itself}
use Rattle.segment_invariant.proofs.Frames.SumsRise.{sums_rest}
use Rattle.segment_invariant.proofs.Frames.Roles.{SameRole, role_kept, stood_set, roles_set, fits_beside}
use Rattle.segment_invariant.proofs.Frames.Together.{balanced, sums_near, loaded_set}
use Rattle.segment_invariant.proofs.Frames.Anew.{calls_anew, sees_anew}

-- ---- the actor

-- it is there, has seen that, was given that by shared cursors, and came too late there this often
abbrev pub seer : Actor → Place → Seen → List Given → List ℕ → Actor
seer a place seen given lost = record a { hand = record a.hand { place = place }; seen = seen; done = record a.done { given = given; lost = lost } }

-- its calls are right, if it has walked no less and has seen no other words
pub calls_more : (anatomy : Anatomy) (a : Actor) (place : Place) (seen : Seen) (given : List Given) (lost : List ℕ)
    → ((at : ℕ) → Contains a.seen.chain at → Contains seen.chain at)
    → ((at word : ℕ) → word_seen a.seen.words at ≡ Some word → word_seen seen.words at ≡ Some word)
    → CallsRight anatomy a → CallsRight anatomy (seer a place seen given lost)
calls_more anatomy a place seen given lost chain words calls = calls_anew anatomy anatomy a seen calls
    (λ entry of counted units first.
    let (at, sampled, met, (tag, of_it, value, small)) = calls.met entry of counted units first in
    (at, sampled, chain at met, (words _ _ tag, words _ _ of_it, words _ _ value, small)))

-- ---- the shared cursors

-- there are as many, and each is where it was or later
pub record AreLater (chain old new : List ℕ) : Type 0 where
  pub many : length new ≡ length old
  pub later : (k at : ℕ) → k < length new → IsNoLater chain at (slice_index old k) → IsNoLater chain at (slice_index new k)

pub later_itself : (chain cursors : List ℕ) → AreLater chain cursors cursors
later_itself chain cursors = record { many = refl; later = λ k at below seen. seen }

-- what was seen of them is still no later than they are
pub sees_later : (anatomy : Anatomy) (old new : List ℕ) (seen : Seen) → AreLater (order_of anatomy) old new → Sees anatomy old seen → Sees anatomy new seen
sees_later anatomy old new seen are sees = sees_anew anatomy old new seen seen.free seen.ends seen.cursors sees sees.free
    (All-weaker
    (λ s. (s.at < length old) × IsNoLater (order_of anatomy) s.word (slice_index old s.at))
    (λ s. (s.at < length new) × IsNoLater (order_of anatomy) s.word (slice_index new s.at))
    (λ s t. let many = are.many in let below : s.at < length new = omega (arith, many, t.0) in (below, are.later s.at s.word below t.1))
    seen.cursors sees.shared)

-- and the list is still ahead of what came too late
pub ahead_behind : (words chain : List ℕ) (present : ℕ) (old new : List ℕ) (place : Place) (beaten : ℕ) (lost : List ℕ) → IsLinked words chain
    → AreLater chain old new → IsAhead chain present old place beaten lost → IsAhead chain present new place beaten lost
ahead_behind words chain present old new place beaten lost linked are ahead = record {
  links = ahead.links;
  many = ahead.many ∙ sym are.many;
  exchanges = λ k below.
      let many = are.many in
      reached_later words chain (slice_index lost k) (slice_index old k) (slice_index new k) linked (λ at. are.later k at below) (ahead.exchanges k (omega (arith, many, below)));
}

pub fits_later : (shape : Dimensions) (words : List ℕ) (anatomy : Anatomy) (old new : List ℕ) (actors : List Actor) (opener : Actor) (id : ℕ) (a : Actor)
    → IsLinked words (order_of anatomy) → AreLater (order_of anatomy) old new → Fits shape anatomy old actors opener id a → Fits shape anatomy new actors opener id a
fits_later shape words anatomy old new actors opener id a linked are fits = record {
  shaped = fits.shaped;
  versioned = fits.versioned;
  numbered = fits.numbered ∙ sym are.many;
  sees = sees_later anatomy old new a.seen are fits.sees;
  ahead = ahead_behind words (order_of anatomy) anatomy.tail old new a.hand.place a.done.beaten a.done.lost linked are fits.ahead;
  names = fits.names;
  own = fits.own;
  apart = fits.apart;
  owes = fits.owes;
  calls = fits.calls;
  looks = fits.looks;
  finals = fits.finals;
  snapshots = fits.snapshots;
}

-- ---- the state

module _ (shape : Dimensions) (opened : Anatomy) (state : State) (kept : Invariant shape opened state) (id : ℕ) (a : Actor)
    (mine : get_elem? state.actors id ≡ some a) (records : is_opener a.role ≡ false) (place : Place) (seen : Seen) (given : List Given) (lost : List ℕ)
    (lived : a.hand.place ≢ Spent) (lives : place ≢ Spent) (moves : (name : List ℕ) (key : ℤ) → moving_at a name key place ≡ moving_at a name key a.hand.place) where
  abbrev b : Actor
  b = seer a place seen given lost

  abbrev actors : List Actor
  actors = set state.actors id b

  role : SameRole b a
  role = role_kept a b (living_at a place lives ∙ sym (living_at a a.hand.place lived)) refl refl refl refl refl

  counted : all_counted actors ≡ all_counted state.actors
  counted = rows counted_of state.actors id a b mine refl

  taken : all_taken actors ≡ all_taken state.actors
  taken = rows taken_of state.actors id a b mine refl

  same : SameSums state.actors actors
  same = record {
    counted = λ name key. ap (λ entries. tally_units entries name key) counted;
    summed = λ name. ap (λ entries. tally_sum entries name) (rows summed_of state.actors id a b mine refl);
    noted = λ name. ap (λ entries. tally_noted entries name) (rows noted_of state.actors id a b mine refl);
    taken = λ name key. ap (λ taken. taken_units taken name key) taken;
    taken_sums = λ name. ap (λ taken. taken_sum taken name) taken;
    moving = λ name key. sum_same (λ a. moving_at a name key a.hand.place) state.actors id a b mine (moves name key);
    costs = λ name. let costs = sum_same (summed_cost name) state.actors id a b mine refl in omega (arith, costs);
  }

  not_first : id ≢ 0
  not_first = not_opener shape opened state kept id a mine records

  -- sums are still near, if it has loaded none but the one that it had
  pub near_on : ((at : ℕ) (sum : ℤ) → place ≡ SumLoaded at sum → a.hand.place ≡ SumLoaded at sum) → SumsAreNear kept.anatomy.pieces actors
  near_on sums = sums_near kept.anatomy.pieces state.actors actors same (loaded_set state.actors id a b mine sums) kept.sums

  -- cursors are still kept, if it was given nothing
  pub given_on : given ≡ a.done.given → CursorsAreKept (order_of kept.anatomy) state.cursors actors
  given_on none_more = cursors_set (order_of kept.anatomy) state.cursors state.actors id a b mine records none_more kept.cursors

  module _ (cursors : List ℕ) (are : AreLater (order_of kept.anatomy) state.cursors cursors) (near : SumsAreNear kept.anatomy.pieces actors)
      (gave : CursorsAreKept (order_of kept.anatomy) cursors actors) (sees : Sees kept.anatomy cursors seen)
      (ahead : IsAhead (order_of kept.anatomy) kept.anatomy.tail cursors place a.done.beaten lost) (stands : StandsRight shape kept.anatomy id b place)
      (notices : seen.corrupt ≡ true → kept.anatomy.corrupt ≡ true) (calls : CallsRight kept.anatomy b) (looks : LooksBack kept.anatomy state.actors kept.roles.opener b) where
    fits_mine : Fits shape kept.anatomy cursors state.actors kept.roles.opener id b
    fits_mine =
        let fits = kept.each id a mine lived in record {
          shaped = fits.shaped;
          versioned = fits.versioned;
          numbered = fits.numbered ∙ sym are.many;
          sees = sees;
          ahead = ahead;
          names = fits.names;
          own = fits.own;
          apart = fits.apart;
          owes = fits.owes;
          calls = calls;
          looks = λ recorder. looks;
          finals = fits.finals;
          snapshots = fits.snapshots;
        }

    fits_all : (other : ℕ) (c : Actor) → get_elem? actors other ≡ some c → c.hand.place ≢ Spent → Fits shape kept.anatomy cursors actors kept.roles.opener other c
    fits_all other c there alive =
        fits_beside shape kept.anatomy cursors state.actors actors kept.roles.opener kept.roles.opener other c kept.roles.stands
        (set_else state.actors id 0 b (λ first. not_first (sym first)) ∙ kept.roles.stands) refl (refl, refl) same (stood_set state.actors id a b mine role)
        (elim (at_set state.actors id other b c there) [
          | inl t ↦ subst (λ (p : ℕ × Actor). Fits shape kept.anatomy cursors state.actors kept.roles.opener p.0 p.1) (λ i. (sym t.0 i, t.1 i)) fits_mine
          | inr t ↦ fits_later shape state.words kept.anatomy state.cursors cursors state.actors kept.roles.opener other c kept.list.linked are (kept.each other c t.1 alive)
        ])

    stands_all : (other : ℕ) (c : Actor) → get_elem? actors other ≡ some c → StandsRight shape kept.anatomy other c c.hand.place
    stands_all other c there = elim (at_set state.actors id other b c there) [
      | inl t ↦ subst (λ (p : ℕ × Actor). StandsRight shape kept.anatomy p.0 p.1 p.1.hand.place) (λ i. (sym t.0 i, t.1 i)) stands
      | inr t ↦ kept.standing other c t.1
    ]

    -- the state that is left is kept
    pub sees_more : KeptOn shape opened kept (record { words = state.words; cursors = cursors; actors = actors })
    sees_more = (
      record {
        anatomy = kept.anatomy;
        shown = kept.shown;
        same = kept.same;
        versions = kept.versions;
        still = kept.still;
        blocks = kept.blocks;
        list = listed_set state.words opened kept.anatomy state.actors id a b mine refl kept.list;
        claims = subst (λ (claims : List Claim). IsPermutation (claims_of kept.anatomy.pieces) (claims_of opened.pieces ++ claims))
            (sym (rows (λ (a : Actor). a.done.claimed) state.actors id a b mine refl)) kept.claims;
        records = kept.records;
        passed_over = kept.passed_over;
        balanced = balanced kept.anatomy.version opened.pieces kept.anatomy.pieces state.actors actors same kept.balanced;
        keys = λ entry there. kept.keys entry (subst (λ (entries : List Entry). Contains entries entry) counted there);
        taken_keys = λ t count there. kept.taken_keys t count (subst (λ (list : List Portion). Contains list t) taken there);
        sums = near;
        pool = sum_same units_of state.actors id a b mine refl ∙ kept.pool;
        corrupt = subst (IsSetBy kept.anatomy.corrupt opened.corrupt) (sym (column (λ (a : Actor). a.done.spoiled) state.actors id a b mine refl)) kept.corrupt;
        full = subst (IsSetBy kept.anatomy.full opened.full) (sym (column (λ (a : Actor). a.done.filled) state.actors id a b mine refl)) kept.full;
        noticed = noticed_set kept.anatomy.corrupt state.actors id b notices kept.noticed;
        roles = roles_set state.actors id a b mine role not_first kept.roles;
        first_noted = kept.first_noted;
        answered = answered_set kept.anatomy.records state.actors id a b mine refl refl kept.answered;
        cursors = gave;
        standing = stands_all;
        each = fits_all;
      },
      rises_itself kept.anatomy,
      sums_rest shape state.words kept.anatomy kept.shown state.actors actors same.costs,
    )

-- ---- an event at a shared cursor

-- the state after an event that acts on a shared cursor
abbrev pub after_cursor_word : ℕ → State → ℕ → Actor → Event → ℕ → State
after_cursor_word version state id a event cursor =
    let found = slice_index state.cursors cursor in record {
      words = state.words;
      cursors = set state.cursors cursor (change version event found);
      actors = set state.actors id (next a event found);
    }

module _ (version : ℕ) (state : State) (id : ℕ) (a : Actor) (event : Event) (cursor : ℕ)
    (spots : spot (length state.words) event ≡ length state.words + cursor) where
  abbrev size : ℕ
  size = length state.words

  found_cursor : found_at state event ≡ slice_index state.cursors cursor
  found_cursor =
      let from : size ≤ spot size event = omega (arith, spots) in
      let behind : spot size event - size ≡ cursor = omega (arith, spots) in
      get_or-append_right state.words state.cursors size (spot size event) 0 refl from ∙ ap (slice_index state.cursors) behind

  memory_is : (v : ℕ) → set (memory state) (spot size event) v ≡ state.words ++ set state.cursors cursor v
  memory_is v =
      let from : size ≤ spot size event = omega (arith, spots) in
      let behind : spot size event - size ≡ cursor = omega (arith, spots) in
      set-append_right state.words state.cursors size (spot size event) v refl from
      ∙ ap (λ (n : ℕ). state.words ++ set state.cursors n v) behind

  state_is : happened version state id a event ≡ after_cursor_word version state id a event cursor
  state_is =
      let v : ℕ → ℕ = λ n. change version event n in
      let words = λ (n : ℕ). ap (take size) (memory_is (v n)) ∙ take-append_seam state.words (set state.cursors cursor (v n)) in
      let cursors = λ (n : ℕ). ap (drop size) (memory_is (v n)) ∙ drop-append_seam state.words (set state.cursors cursor (v n)) in
      λ i. record {
        words = words (found_at state event) i;
        cursors = (cursors (found_at state event) ∙ ap (λ (n : ℕ). set state.cursors cursor (v n)) found_cursor) i;
        actors = set state.actors id (next a event (found_cursor i));
      }

  -- so what is kept after it is kept
  pub happens_there : (shape : Dimensions) (opened : Anatomy) (was : Invariant shape opened state)
      → KeptOn shape opened was (after_cursor_word version state id a event cursor) × Learned a event (slice_index state.cursors cursor)
      → KeptOn shape opened was (happened version state id a event) × Learned a event (found_at state event)
  happens_there shape opened was (kept, learned) = (
    subst (KeptOn shape opened was) (sym state_is) kept,
    subst (Learned a event) (sym found_cursor) learned,
  )
