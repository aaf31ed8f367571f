-- A state is kept when one actor moves on, and at most one of the blocks in the making changes.
use Rattle.segment_invariant.proofs.Prelude.Std.{true≢false, ◌≡◌, ◌≢◌, ℕ, ◌<◌, Bool, List, ◌++◌, map, length, set, take, drop, All, Contains, inl, inr, refl, sym, ap, ◌∙◌, subst, subst₂, length-set, false, true, take-append_seam, get_or_append_left, IsPermutation, flat_map, All-weaker, some, some-injective, get_elem?, at_set}
use Rattle.segment_invariant.proofs.Prelude.Machine.{Dimensions, word_at, IsShown, Behind, IsStop, IsLinked, Actor, Own, Spent, State, Event, spot, next, Learned, is_opener}
use Rattle.segment_invariant.proofs.Prelude.Invariant.{found_at, Body, plain, histogram, Piece, Anatomy, layout_of, order_of, free_of, claims_of, Stands, IsNoLater, Sees, StandsRight, HoldsOwn, CallsRight, LooksBack, Fits, IsSetBy, ClaimedRight, StandStill, Invariant, KeptOn, IsAhead}
use Rattle.std.proofs.Math.Seq.{drop-append_seam}
use Rattle.std.proofs.lemmas.List.{set-append_left}
use Rattle.segment_invariant.proofs.Frames.Ahead.{ahead_later}
use Rattle.segment_invariant.proofs.Frames.Answers.{answered_set}
use Rattle.segment_machine.specs.State.{memory}
use Rattle.segment_machine.specs.Event.{change}
use Rattle.segment_invariant.specs.Keeps.{happened}
use Rattle.segment_invariant.specs.Invariant.{OwesPublished}
use Rattle.segment_invariant.proofs.Frames.Standing.{follows_itself, stands_on}
use Rattle.segment_invariant.proofs.Frames.Together.{balanced, sums_near}
use Rattle.segment_invariant.proofs.Frames.Books.{cursors_set, listed_set, noticed_there, noticed_set}
use Rattle.segment_invariant.proofs.Frames.Roles.{roles_set}
use Rattle.segment_invariant.proofs.Frames.OneActor.{Doing, doing, TurnsTo, SameDeeds, same_role, same_deeds, same_sums, fits_same}
use Rattle.segment_invariant.proofs.Frames.Anatomies.{balanced_along, list_along, records_along, sums_along, names_along, fits_along, grounds_along}
use Rattle.segment_invariant.proofs.Frames.Growth.{reshaped, Stays}
use Rattle.segment_invariant.proofs.Frames.PassedOver.{still_there, passed_on}
use Rattle.segment_invariant.proofs.Frames.Rises.{rises_reshaped}
use Rattle.segment_invariant.proofs.Frames.SumsRise.{sums_come}

-- What has to be shown when an actor moves on with a doing: of the blocks and the words that are then there, and of the actor itself.
pub record Goes (shape : Dimensions) (opened : Anatomy) (state : State) (old new : Anatomy) (opener : Actor) (id : ℕ) (a : Actor) (d : Doing) (words : List ℕ) : Type 0 where
  pub shown : IsShown shape words (layout_of new)
  pub stays : Stays old.pieces new.pieces
  pub others : (other at : ℕ) (body : Body) → other ≢ id → Stands old.pieces at (some other) body → Stands new.pieces at (some other) body
  pub still : StandStill old.pieces new.pieces
  pub blocks : (k : ℕ) (piece : Piece) → get_elem? new.pieces k ≡ some piece → ClaimedRight piece
  pub linked : IsLinked words (order_of old)
  pub published : d.published ≡ a.done.published
  pub owed : d.owed ≡ a.answers.owed
  pub claims : IsPermutation (claims_of new.pieces) (claims_of opened.pieces ++ flat_map (λ a. a.done.claimed) (set state.actors id (doing a d)))
  pub free : (seen : ℕ) → Behind seen (free_of old) → Behind seen (free_of new)
  pub tail : IsStop (order_of old) new.tail
  pub tail_later : (seen : ℕ) → IsNoLater (order_of old) seen old.tail → IsNoLater (order_of old) seen new.tail
  pub corrupt : IsSetBy new.corrupt opened.corrupt (map (λ a. a.done.spoiled) (set state.actors id (doing a d)))
  pub full : IsSetBy new.full opened.full (map (λ a. a.done.filled) (set state.actors id (doing a d)))
  pub flagged : old.corrupt ≡ true → new.corrupt ≡ true
  pub filled : old.full ≡ true → new.full ≡ true
  pub stands : StandsRight shape new id (doing a d) d.place
  pub sees : Sees new state.cursors (doing a d).seen
  pub ahead : IsAhead (order_of new) new.tail state.cursors d.place d.beaten a.done.lost
  pub own : All (HoldsOwn shape new.pieces id) d.own
  pub apart : (i j : ℕ) (x y : Own) → get_elem? d.own i ≡ some x → get_elem? d.own j ≡ some y → x.at ≡ y.at → i ≡ j
  pub calls : CallsRight new (doing a d)
  pub looks : LooksBack new state.actors opener (doing a d)

module _ (shape : Dimensions) (opened : Anatomy) (state : State) (kept : Invariant shape opened state) (id : ℕ) (a : Actor)
    (mine : get_elem? state.actors id ≡ some a) (records : is_opener a.role ≡ false) where
  -- a recorder is not the first actor
  pub not_opener : id ≢ 0
  not_opener zero_is =
      let opener : kept.roles.opener ≡ a = some-injective _ _ (sym kept.roles.stands ∙ (ap (get_elem? state.actors) (sym zero_is) ∙ mine)) in
      let one = ap (λ (b : Actor). is_opener b.role) opener in
      let opens = kept.roles.opens in
      true≢false (sym opens ∙ (one ∙ records))

  module _ (d : Doing) (turns : TurnsTo a d.place) (pieces : List Piece) (spare : ℕ) (corrupt full : Bool) (tail : ℕ) (words : List ℕ)
      (goes : Goes shape opened state kept.anatomy (reshaped kept.anatomy pieces spare corrupt full tail) kept.roles.opener id a d words) where
    abbrev before : Anatomy
    before = kept.anatomy

    abbrev behind : Anatomy
    behind = reshaped kept.anatomy pieces spare corrupt full tail

    abbrev actors : List Actor
    actors = set state.actors id (doing a d)

    same : SameDeeds state.actors actors
    same = same_deeds state.actors id a mine d turns not_opener

    -- another actor
    fits_else : (other : ℕ) (b : Actor) → other ≢ id → Fits shape before state.cursors state.actors kept.roles.opener other b
        → Fits shape behind state.cursors state.actors kept.roles.opener other b
    fits_else other b ne fits = fits_along before pieces spare corrupt full tail goes.stays shape state.cursors state.actors kept.roles.opener other b
        (λ at body. goes.others other at body ne) (goes.free b.seen.free fits.sees.free) (All-weaker (λ place. IsNoLater (order_of before) place before.tail) (λ place. IsNoLater (order_of before) place tail)
        goes.tail_later b.seen.tails fits.sees.tails)
        (ahead_later (order_of before) before.tail state.cursors b.hand.place b.done.beaten b.done.lost fits.ahead state.words tail kept.list.linked goes.tail_later) fits

    -- the actor that moves on
    fits_mine : Fits shape behind state.cursors state.actors kept.roles.opener id (doing a d)
    fits_mine =
        let fits = kept.each id a mine turns.lived in record {
          shaped = fits.shaped;
          versioned = fits.versioned;
          numbered = fits.numbered;
          sees = goes.sees;
          ahead = goes.ahead;
          names = names_along before pieces spare corrupt full tail goes.stays a.answers.names fits.names;
          own = goes.own;
          apart = goes.apart;
          owes = subst₂ OwesPublished (sym goes.published) (sym goes.owed) fits.owes;
          calls = goes.calls;
          looks = λ recorder. goes.looks;
          finals = fits.finals;
          snapshots = fits.snapshots;
        }

    fits_all : (other : ℕ) (b : Actor) → get_elem? actors other ≡ some b → b.hand.place ≢ Spent
        → Fits shape behind state.cursors actors kept.roles.opener other b
    fits_all other b there lives = fits_same state.actors actors same shape behind state.cursors kept.roles.opener other b kept.roles.stands
        (elim (at_set state.actors id other (doing a d) b there) [
          | inl t ↦ subst (λ (p : ℕ × Actor). Fits shape behind state.cursors state.actors kept.roles.opener p.0 p.1) (λ i. (sym t.0 i, t.1 i)) fits_mine
          | inr t ↦ fits_else other b t.0 (kept.each other b t.1 lives)
        ])

    stands_all : (other : ℕ) (b : Actor) → get_elem? actors other ≡ some b → StandsRight shape behind other b b.hand.place
    stands_all other b there = elim (at_set state.actors id other (doing a d) b there) [
      | inl t ↦ subst (λ (p : ℕ × Actor). StandsRight shape behind p.0 p.1 p.1.hand.place) (λ i. (sym t.0 i, t.1 i)) goes.stands
      | inr t ↦ stands_on shape before behind other b b
          (grounds_along before pieces spare corrupt full tail goes.stays other (λ at words. goes.others other at (plain words) t.0)) (follows_itself b)
          b.hand.place (kept.standing other b t.1)
    ]

    still_all : StandStill opened.pieces pieces
    still_all k p there =
        let (q, here, same_at) = kept.still k p there in
        let (r, now, still_at) = goes.still k q here in
        (r, now, still_at ∙ same_at)

    -- the state that is left is kept
    pub goes_on : KeptOn shape opened kept (record { words = words; cursors = state.cursors; actors = actors })
    goes_on = (
      record {
        anatomy = behind;
        shown = goes.shown;
        same = kept.same;
        versions = kept.versions;
        still = still_all;
        blocks = goes.blocks;
        list = listed_set words opened behind state.actors id a (doing a d) mine goes.published
            (list_along before pieces spare corrupt full tail goes.stays state.words words opened state.actors goes.linked goes.tail kept.list);
        claims = goes.claims;
        records = records_along before pieces spare corrupt full tail goes.stays shape.page kept.records;
        passed_over = passed_on shape.page opened before.pieces pieces (still_there before.pieces pieces goes.stays) kept.passed_over;
        balanced = balanced before.version opened.pieces pieces state.actors actors (same_sums state.actors actors same)
            (balanced_along before pieces spare corrupt full tail goes.stays opened.pieces state.actors kept.balanced);
        keys = λ entry there. kept.keys entry (subst (λ entries. Contains entries entry) same.counted there);
        taken_keys = λ t count there. kept.taken_keys t count (subst (λ taken. Contains taken t) same.taken there);
        sums = sums_near pieces state.actors actors (same_sums state.actors actors same) same.loaded
            (sums_along before pieces spare corrupt full tail goes.stays state.actors kept.sums);
        pool = same.units ∙ kept.pool;
        corrupt = goes.corrupt;
        full = goes.full;
        noticed = λ seen. goes.flagged
            (noticed_set before.corrupt state.actors id (doing a d) (noticed_there before.corrupt state.actors id a mine kept.noticed) kept.noticed seen);
        roles = roles_set state.actors id a (doing a d) mine (same_role a d turns) not_opener kept.roles;
        first_noted = kept.first_noted;
        answered = answered_set before.records state.actors id a (doing a d) mine refl goes.owed kept.answered;
        cursors = cursors_set (order_of before) state.cursors state.actors id a (doing a d) mine records refl kept.cursors;
        standing = stands_all;
        each = fits_all;
      },
      rises_reshaped before pieces spare corrupt full tail goes.stays (goes.free (free_of before) (inl refl)) goes.tail_later goes.flagged goes.filled,
      sums_come shape state.words before kept.shown pieces state.actors actors (same_sums state.actors actors same).costs
          (λ at s there. (s, goes.stays.back at (histogram s) there, refl)),
    )

-- ---- an event at a word of the segment

-- the state after an event that acts on a word of the segment
abbrev pub after_word : ℕ → State → ℕ → Actor → Event → State
after_word version state id a event =
    let at = spot (length state.words) event in
    let found = word_at state.words at in
    record { words = set state.words at (change version event found); cursors = state.cursors; actors = set state.actors id (next a event found) }

module _ (version : ℕ) (state : State) (id : ℕ) (a : Actor) (event : Event) (within : spot (length state.words) event < length state.words) where
  abbrev size : ℕ
  size = length state.words

  abbrev at : ℕ
  at = spot size event

  -- it finds that word
  pub found_word : found_at state event ≡ word_at state.words at
  found_word = get_or_append_left state.words state.cursors 0 at within

  memory_is : (v : ℕ) → set (memory state) at v ≡ set state.words at v ++ state.cursors
  memory_is v = set-append_left state.words state.cursors at v within

  words_are : (v : ℕ) → take size (set (memory state) at v) ≡ set state.words at v
  words_are v =
      ap (λ (n : ℕ). take n (set (memory state) at v)) (sym (length-set state.words at v))
      ∙ (ap (take (length (set state.words at v))) (memory_is v) ∙ take-append_seam (set state.words at v) state.cursors)

  cursors_are : (v : ℕ) → drop size (set (memory state) at v) ≡ state.cursors
  cursors_are v =
      ap (λ (n : ℕ). drop n (set (memory state) at v)) (sym (length-set state.words at v))
      ∙ (ap (drop (length (set state.words at v))) (memory_is v) ∙ drop-append_seam (set state.words at v) state.cursors)

  state_is : happened version state id a event ≡ after_word version state id a event
  state_is = λ i. record {
    words = (words_are (change version event (found_at state event)) ∙ ap (λ (n : ℕ). set state.words at (change version event n)) found_word) i;
    cursors = cursors_are (change version event (found_at state event)) i;
    actors = set state.actors id (next a event (found_word i));
  }

  -- so what is kept after it is kept
  pub happens : (shape : Dimensions) (opened : Anatomy) (was : Invariant shape opened state)
      → KeptOn shape opened was (after_word version state id a event) × Learned a event (word_at state.words at)
      → KeptOn shape opened was (happened version state id a event) × Learned a event (found_at state event)
  happens shape opened was (kept, learned) = (
    subst (KeptOn shape opened was) (sym state_is) kept,
    subst (Learned a event) (sym found_word) learned,
  )
