-- One word of a published block becomes another, and the block continues: what has then to be shown of the blocks.
use Rattle.segment_invariant.proofs.Prelude.Std.{◌≡◌, ◌≢◌, ◌⊎◌, ℕ, ◌+◌, ◌<◌, ◌≤◌, ℤ, true, List, length, set, All, Contains, inl, inr, ⊎_elim, refl, sym, ap, ◌∙◌, subst, arith, length-set, false, slice_index, dite, ℕ_discrete, some, none, some-injective, some-ne-none, get_elem?, at_set, set_else, sum_same}
use Rattle.segment_invariant.proofs.Prelude.Machine.{Dimensions, IsShown, stops, IsLinked, Entry, Actor, Portion, Own, Spent, SumLoaded, Seen, Behind, tally_units, counted_of, all_counted, all_taken, taken_units, taken_of, is_opener, State}
use Rattle.segment_invariant.proofs.Prelude.Invariant.{Body, held, words_of, is_claimed, Piece, extent_of, Anatomy, layout_of, order_of, claims_of, free_of, Record, histogram, Stands, Sees, HasRecord, RecordsAreKept, StandsRight, HoldsOwn, CallsRight, HasKey, LooksBack, FinalsAreExact, StandStill, Invariant, KeptOn, summed_cost}
use Rattle.std.proofs.lemmas.List.{get_or-set_other}
use Rattle.list_core.proofs.Chains.{linked_beside}
use Rattle.segment_invariant.proofs.Frames.Ahead.{KeepsUp}
use Rattle.segment_invariant.proofs.Allocating.Claimers.{still_put, AllClaimedRight, right_put}
use Rattle.segment_invariant.proofs.Blocks.Pieces.{one_index, one_piece, first_piece, piece_stored, free_with, claims_same, stands_beside, stands_here}
use Rattle.segment_invariant.proofs.Blocks.Stops.{stop_open}
use Rattle.segment_invariant.specs.Rises.{GoesAs}
use Rattle.segment_invariant.proofs.Frames.Onward.{goes_itself, Onward, sees_on}
use Rattle.segment_invariant.proofs.Frames.Standing.{own_stays}
use Rattle.segment_invariant.proofs.Changes.Changes.{changes_on}
use Rattle.segment_invariant.proofs.Changes.Ledgers.{Balances, balanced_beside}
use Rattle.segment_invariant.proofs.Changes.Others.{Deed, changed, changed_roles, alone_was, sees_no_more, looks_on}
use Rattle.segment_invariant.proofs.Changes.Sums.{SameSum, SumsGoOn, sums_on}
use Rattle.segment_invariant.proofs.Counting.Seen.{known_stands}
use Rattle.segment_invariant.proofs.Frames.Together.{loaded_set}

-- What a block is when its word j becomes v: it continues.
pub record Turns (version : ℕ) (body then_is : Body) (j v : ℕ) : Type 0 where
  pub claimed : is_claimed body ≡ true
  pub still : is_claimed then_is ≡ true
  pub is : words_of then_is ≡ set (words_of body) j v
  pub within : j < length (words_of body)
  pub inside : (j ≢ 0) × (j ≢ 3)
  pub goes : GoesAs version body then_is

-- what is enough if the word comes after the next of the block
pub word_turns : (version : ℕ) (body then_is : Body) (j v : ℕ) → is_claimed body ≡ true → is_claimed then_is ≡ true → words_of then_is ≡ set (words_of body) j v
    → j < length (words_of body) → 4 ≤ j → GoesAs version body then_is → Turns version body then_is j v
word_turns version body then_is j v claimed still is within from goes = record {
  claimed = claimed;
  still = still;
  is = is;
  within = within;
  inside = (λ e. omega (arith, from, e), λ e. omega (arith, from, e));
  goes = goes;
}

module _ (shape : Dimensions) (opened : Anatomy) (state : State) (kept : Invariant shape opened state) (at : ℕ) (body then_is : Body) (j v : ℕ)
    (stands : Stands kept.anatomy.pieces at none body) (turns : Turns kept.anatomy.version body then_is j v) where
  abbrev k : ℕ
  k = stands.0

  abbrev p : Piece
  p = record { at = at; owner = none; body = body }

  abbrev q : Piece
  q = record { at = at; owner = none; body = then_is }

  abbrev pub turned : List Piece
  turned = set kept.anatomy.pieces k q

  abbrev pub behind : Anatomy
  behind = record kept.anatomy { pieces = turned }

  -- the new block is there then
  pub stands_then : Stands turned at none then_is
  stands_then = stands_here kept.anatomy.pieces k p q stands.1

  -- the others stay
  pub stands_still : (place : ℕ) (owner : _) (b : Body) → Stands kept.anatomy.pieces place owner b → (place ≢ at) ⊎ (b ≢ body) → Stands turned place owner b
  stands_still place owner b there apart = stands_beside kept.anatomy.pieces k p q stands.1 place owner b
      (λ same. ⊎_elim (λ ne. ne (ap (λ (z : Piece). z.at) same)) (λ ne. ne (ap (λ (z : Piece). z.body) same)) apart) there

  -- and nothing else comes
  pub came_from : (place : ℕ) (owner : _) (b : Body) → Stands turned place owner b
      → (Stands kept.anatomy.pieces place owner b × (place ≢ at)) ⊎ ((place ≡ at) × (b ≡ then_is))
  came_from place owner b (i, here) = ⊎_elim
      (λ t. inr (sym (ap (λ (z : Piece). z.at) t.1), sym (ap (λ (z : Piece). z.body) t.1)))
      (λ t. inl ((i, t.1), λ same. t.0 (one_piece shape state.words kept.anatomy kept.shown i k _ p t.1 stands.1 same).0))
      (at_set kept.anatomy.pieces k i q (record { at = place; owner = owner; body = b }) here)

  -- no sum becomes another, if the block is no record then
  pub sums_beside : ((s : Record) → then_is ≢ histogram s) → SameSum kept.anatomy.pieces turned
  sums_beside apart place s there = ⊎_elim
      (λ was. (s, was.0, refl, refl, refl))
      (λ is. absurd (apart s (sym is.1)))
      (came_from place none (histogram s) there)

  long : extent_of q ≡ extent_of p
  long = ap length turns.is ∙ length-set (words_of body) j v

  pub turned_onward : Onward kept.anatomy behind (λ at body. ⊥)
  turned_onward = record {
    version = refl;
    goes = λ place other claimed (i, here). ⊎_elim
        (λ same.
        let e = some-injective _ _ (sym here ∙ (ap (get_elem? kept.anatomy.pieces) same ∙ stands.1)) in (
          then_is,
          subst (λ (n : ℕ). Stands turned n none then_is) (sym (ap (λ (z : Piece). z.at) e)) stands_then,
          subst (λ (b : Body). GoesAs kept.anatomy.version b then_is) (sym (ap (λ (z : Piece). z.body) e)) turns.goes,
        ))
        (λ ne. (other, (i, set_else kept.anatomy.pieces k i q ne ∙ here), goes_itself kept.anatomy.version other))
        (either i);
    came = λ place other claimed there. inl (⊎_elim
        (λ t. (other, t.0, goes_itself kept.anatomy.version other))
        (λ t. (
          body,
          subst (λ (n : ℕ). Stands kept.anatomy.pieces n none body) (sym t.0) stands,
          subst (GoesAs kept.anatomy.version body) (sym t.1) turns.goes,
        ))
        (came_from place none other there));
    apart = λ place other i l b before new_one. absurd new_one;
  }
    where
      either : (i : ℕ) → (i ≡ k) ⊎ (i ≢ k)
      either i = dite (ℕ_discrete i k) inl inr

  -- the free pointer stays
  pub turned_free : free_of behind ≡ free_of kept.anatomy
  turned_free = free_with kept.anatomy k p q stands.1 long

  -- what a recorder saw is no later than the present
  pub sees_turned : (seen : Seen) → Sees kept.anatomy state.cursors seen → Sees behind state.cursors seen
  sees_turned seen sees = sees_on kept.anatomy behind (λ at body. ⊥) turned_onward state.cursors seen (subst (Behind seen.free) (sym turned_free) sees.free)
      sees.walked sees.tails sees.shared sees

  -- Of a recorder that moves on with no sum loaded
  module _ (id : ℕ) (a : Actor) (mine : get_elem? state.actors id ≡ some a) (recorder : is_opener a.role ≡ false) (lived : a.hand.place ≢ Spent)
      (d : Deed) (lives : d.place ≢ Spent) (unsummed : (reference : ℕ) (sum : ℤ) → d.place ≢ SumLoaded reference sum) where
    -- what it looks back at stays, if no less was counted
    pub looks_turned : RecordsAreKept shape.page behind
        → ((name : List ℕ) (key : ℤ) → tally_units (all_counted state.actors) name key ≤ tally_units (all_counted (set state.actors id (changed a d))) name key)
        → LooksBack behind (set state.actors id (changed a d)) kept.roles.opener (changed a (sees_no_more a d))
    looks_turned records more =
        let fits = kept.each id a mine lived in
        let beside = changed_roles shape opened state kept id a mine recorder lived d lives in
        looks_on shape state.words kept.anatomy behind kept.shown (λ at body. ⊥) turned_onward refl shape.page kept.records records a fits.sees.counters fits.sees.in_use
        state.actors (set state.actors id (changed a d)) kept.roles.opener d more
        (alone_was state.actors (set state.actors id (changed a d)) kept.roles beside a a refl refl)
        (λ known has. let (r, there, named, bounds, many) = known_stands shape opened state kept id a mine lived known has in (r, there, many))
        (fits.looks recorder) (λ reference sum s loaded. absurd (unsummed reference sum loaded)) (λ at s new_one. new_one)

    -- and sums are still near, if none becomes another
    pub sums_turned : SameSum kept.anatomy.pieces turned → ((name : List ℕ) → summed_cost name (changed a d) ≡ summed_cost name a)
        → SumsGoOn kept.anatomy.pieces turned state.actors (set state.actors id (changed a d))
    sums_turned same costs = sums_on shape state.words kept.anatomy kept.shown turned state.actors (set state.actors id (changed a d)) same
        (loaded_set state.actors id a (changed a d) mine (λ reference sum loaded. absurd (unsummed reference sum loaded)))
        (λ name. let cost = sum_same (summed_cost name) state.actors id a (changed a d) mine (costs name) in omega (arith, cost)) kept.sums

  -- it is not the queue block
  not_queue : k ≢ 0
  not_queue first =
      let five = (kept.blocks k p stands.1 turns.claimed).1 in
      let four = (first_piece shape state.words kept.anatomy kept.shown p (subst (λ (m : ℕ). get_elem? kept.anatomy.pieces m ≡ some p) first stands.1)).2 in
      omega (arith, five, four)

  -- its words are shown, it stays where it is, and as it was claimed; the list continues
  pub turned_shown : IsShown shape (set state.words (at + j) v) (layout_of behind)
  turned_shown = piece_stored shape state.words kept.anatomy k p q j v kept.shown stands.1 not_queue turns.within turns.is refl

  pub turned_still : StandStill kept.anatomy.pieces turned
  turned_still = still_put kept.anatomy.pieces k p q stands.1 refl

  pub turned_right : AllClaimedRight turned
  turned_right = right_put kept.anatomy.pieces k q (λ claimed.
      let right = kept.blocks k p stands.1 turns.claimed in (
        ap (λ (ws : List ℕ). slice_index ws 0) turns.is ∙ (get_or-set_other (words_of body) j 0 v 0 (λ e. turns.inside.0 (sym e)) ∙ (right.0 ∙ sym long)),
        subst (λ (n : ℕ). 5 ≤ n) (sym long) right.1,
        inl refl,
      )) kept.blocks

  pub turned_linked : IsLinked (set state.words (at + j) v) (order_of kept.anatomy)
  turned_linked = linked_beside state.words (order_of kept.anatomy) (at + j) v kept.list.linked (λ i le same.
      let stop = stop_open shape state.words kept.anatomy kept.shown kept.list.standing (slice_index (stops (order_of kept.anatomy)) i) (i, le, refl) in
      let wide = stop.long in
      let begins = stop.begins in
      let index = one_index shape state.words kept.anatomy kept.shown stop.index k stop.piece p 3 j stop.there stands.1 (omega (arith, wide)) turns.within
      (omega (arith, begins, same)) in
      let place = ap (λ (z : Piece). z.at) (some-injective _ _ (sym stop.there ∙ (ap (get_elem? kept.anatomy.pieces) index ∙ stands.1))) in
      turns.inside.1 (omega (arith, same, begins, place)))

  pub turned_claims : claims_of turned ≡ claims_of kept.anatomy.pieces
  turned_claims = claims_same kept.anatomy.pieces k p q stands.1 (turns.still ∙ sym turns.claimed) refl long

  -- What else has to be shown: of the records, the ledger, the keys and the sums, and of the recorder, which keeps its blocks.
  pub record Turned (opener : Actor) (id : ℕ) (a : Actor) (d : Deed) : Type 0 where
    pub records : RecordsAreKept shape.page behind
    pub balances : Balances kept.anatomy.version body then_is a (changed a d)
    pub taken : (name : List ℕ) (key : ℤ)
        → taken_units (all_taken (set state.actors id (changed a d))) name key ≤ tally_units (all_counted (set state.actors id (changed a d))) name key
    pub counted : (name : List ℕ) (key : ℤ) → tally_units (counted_of a) name key ≤ tally_units (counted_of (changed a d)) name key
    pub keys : (entry : Entry) → Contains (counted_of (changed a d)) entry → 0 < entry.units → HasKey kept.anatomy.records entry.name entry.key
    pub taken_keys : (t : Portion) (count : ℤ × ℕ) → Contains (taken_of (changed a d)) t → Contains t.counts count → HasKey kept.anatomy.records t.name count.0
    pub sums : SumsGoOn kept.anatomy.pieces turned state.actors (set state.actors id (changed a d))
    pub lives : d.place ≢ Spent
    pub stood : StandsRight shape behind id (changed a d) d.place
    pub sees : Sees behind state.cursors d.seen
    pub noticed : d.seen.corrupt ≡ true → a.seen.corrupt ≡ true
    pub up : KeepsUp a.hand.place d.place
    pub own : d.own ≡ a.hand.own
    pub calls : CallsRight behind (changed a d)
    pub looks : LooksBack behind (set state.actors id (changed a d)) opener (changed a d)
    pub finals : FinalsAreExact (set state.actors id (changed a d)) opener id (changed a d)

  -- so the state that is left is kept
  pub turned_on : (id : ℕ) (a : Actor) → get_elem? state.actors id ≡ some a → is_opener a.role ≡ false → a.hand.place ≢ Spent → (d : Deed) → Turned kept.roles.opener id a d
      → KeptOn shape opened kept (record { words = set state.words (at + j) v; cursors = state.cursors; actors = set state.actors id (changed a d) })
  turned_on id a mine recorder lived d shows =
      let fits = kept.each id a mine lived in
      changes_on shape opened state kept id a mine recorder lived d turned (set state.words (at + j) v) (λ at body. ⊥) (record {
        shown = turned_shown;
        onward = turned_onward;
        bare = λ place s new_one. new_one;
        listed = λ place other new_one. absurd new_one;
        others = λ other place b ne. stands_owned other place b;
        still = turned_still;
        blocks = turned_right;
        linked = turned_linked;
        claims = turned_claims;
        free = turned_free;
        records = shows.records;
        balanced = balanced_beside kept.anatomy.pieces k p q stands.1 state.actors id a (changed a d) mine kept.anatomy.version opened.pieces shows.balances shows.taken
            kept.balanced;
        counted = shows.counted;
        keys = shows.keys;
        taken_keys = shows.taken_keys;
        sums = shows.sums;
        lives = shows.lives;
        stands = shows.stood;
        sees = shows.sees;
        noticed = shows.noticed;
        up = shows.up;
        own = subst (All (HoldsOwn shape turned id)) (sym shows.own)
            (own_stays shape kept.anatomy behind id (λ own. stands_owned id own.at (held own)) a.hand.own fits.own);
        apart = subst (λ (list : List Own). (i j : ℕ) (x y : Own) → get_elem? list i ≡ some x → get_elem? list j ≡ some y → x.at ≡ y.at → i ≡ j)
            (sym shows.own) fits.apart;
        calls = shows.calls;
        looks = shows.looks;
        finals = shows.finals;
      })
    where
      stands_owned : (who place : ℕ) (b : Body) → Stands kept.anatomy.pieces place (some who) b → Stands turned place (some who) b
      stands_owned who place b = stands_beside kept.anatomy.pieces k p q stands.1 place (some who) b (λ same. some-ne-none who (ap (λ (z : Piece). z.owner) same))

-- no sum becomes another if a record keeps its name and its sums
pub record_sums : (shape : Dimensions) (opened : Anatomy) (state : State) (kept : Invariant shape opened state) (at : ℕ) (r s : Record) (j v : ℕ)
    (stands : HasRecord kept.anatomy.pieces at r) (turns : Turns kept.anatomy.version (histogram r) (histogram s) j v) → r.name ≡ s.name → r.sum ≡ s.sum
    → r.sum_mark ≡ s.sum_mark → SameSum kept.anatomy.pieces (turned shape opened state kept at (histogram r) (histogram s) j v stands turns)
record_sums shape opened state kept at r s j v stands turns named sum mark place z there = ⊎_elim
    (λ was. (z, was.0, refl, refl, refl))
    (λ is.
    let one : s ≡ z = cc (sym is.1) in (
      r,
      subst (λ (n : ℕ). HasRecord kept.anatomy.pieces n r) (sym is.0) stands,
      named ∙ ap (λ (w : Record). w.name) one,
      sum ∙ ap (λ (w : Record). w.sum) one,
      mark ∙ ap (λ (w : Record). w.sum_mark) one,
    ))
    (came_from shape opened state kept at (histogram r) (histogram s) j v stands turns place none (histogram z) there)
