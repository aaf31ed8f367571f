-- A state is kept when an actor that allocates moves on: it sees nothing but the free pointer, and publishes nothing.
use Rattle.segment_invariant.proofs.Prelude.Std.{◌≡◌, ◌≢◌, ℕ, pos, Bool, List, [], ◌∷◌, ◌++◌, map, set, All, inl, inr, refl, sym, ap, ◌∙◌, subst, false, true, IsPermutation, ⊤, flat_map, dite, some, none, some-injective, some-ne-none, ℕ_discrete, get_elem?, at_set, set_else, at_longer}
use Rattle.segment_invariant.proofs.Prelude.Machine.{Dimensions, IsShown, Behind, IsLinked, Actor, Own, State, is_opener}
use Rattle.segment_invariant.proofs.Prelude.Invariant.{Body, queue, plain, held, Piece, Anatomy, layout_of, order_of, free_of, claims_of, Stands, StandsRight, HoldsOwn, IsSetBy, ClaimedRight, StandStill, Invariant, KeptOn}
use Rattle.atomic_table.proofs.Lists.{at_snoc}
use Rattle.alloc_core.proofs.Owners.{set_at}
use Rattle.segment_invariant.proofs.Frames.Ahead.{KeepsUp, ahead_at}
use Rattle.segment_invariant.proofs.Blocks.Pieces.{stands_beside, stood_beside, stands_longer, stood_longer, held_same, amounts_same, held_grown, amounts_grown}
use Rattle.segment_invariant.proofs.Frames.OneActor.{Doing, doing, TurnsTo}
use Rattle.segment_invariant.proofs.Frames.Anatomies.{sees_along, calls_along, looks_along, sees_no_more, sees_doing, looks_doing}
use Rattle.segment_invariant.proofs.Frames.GoesOn.{goes_on}
use Rattle.segment_invariant.proofs.Frames.Growth.{reshaped, IsSilent, Stays}

-- ---- blocks in the making

-- a block in the making, or one's own
abbrev pub IsMaking : Body → Type 0
IsMaking (plain words) = ⊤
IsMaking (held block) = ⊤
IsMaking _ = ⊥

-- it has nothing of what is published
making_silent : {X : Type 0} (nothing : X) (holds : Body → X) (body : Body) → IsSilent nothing holds → IsMaking body → holds body ≡ nothing
making_silent nothing holds (plain words) silent making = silent.0 words
making_silent nothing holds (held block) silent making = silent.1 block
making_silent nothing holds (queue next) silent making = absurd making
making_silent nothing holds body silent making = absurd making

-- nothing changes
pub stays_same : (pieces : List Piece) → Stays pieces pieces
stays_same pieces = record {
  there = λ at body has. has;
  back = λ at body has. has;
  held = λ holds silent. refl;
  amounts = λ holds silent. refl;
}

-- a block in the making in the place of another of the same owner
module _ (pieces : List Piece) (k id : ℕ) (p q : Piece) (there : get_elem? pieces k ≡ some p) (mine : p.owner ≡ some id) (still_mine : q.owner ≡ some id)
    (making : IsMaking p.body) (still_making : IsMaking q.body) where
  pub stays_put : Stays pieces (set pieces k q)
  stays_put = record {
    there = λ at body. stands_beside pieces k p q there at none body
        (λ same. some-ne-none id (sym mine ∙ ap (λ (x : Piece). x.owner) (sym same)));
    back = λ at body. stood_beside pieces k p q there at none body
        (λ same. some-ne-none id (sym still_mine ∙ ap (λ (x : Piece). x.owner) (sym same)));
    held = λ holds silent. held_same holds pieces k p q there
        (making_silent 0 holds q.body silent still_making ∙ sym (making_silent 0 holds p.body silent making));
    amounts = λ holds silent. amounts_same holds pieces k p q there
        (making_silent (pos 0) holds q.body silent still_making ∙ sym (making_silent (pos 0) holds p.body silent making));
  }

  pub others_put : (other at : ℕ) (body : Body) → other ≢ id → Stands pieces at (some other) body → Stands (set pieces k q) at (some other) body
  others_put other at body ne = stands_beside pieces k p q there at (some other) body
      (λ same. ne (some-injective other id (ap (λ (x : Piece). x.owner) same ∙ mine)))

-- a block more
module _ (pieces : List Piece) (id : ℕ) (q : Piece) (mine : q.owner ≡ some id) (making : IsMaking q.body) where
  pub stays_longer : Stays pieces (pieces ++ q ∷ [])
  stays_longer = record {
    there = λ at body. stands_longer pieces q at none body;
    back = λ at body. stood_longer pieces q at none body
        (λ same. some-ne-none id (sym mine ∙ ap (λ (x : Piece). x.owner) (sym same)));
    held = λ holds silent. held_grown holds pieces q (making_silent 0 holds q.body silent making);
    amounts = λ holds silent. amounts_grown holds pieces q (making_silent (pos 0) holds q.body silent making);
  }

-- blocks are where they were
pub still_same : (pieces : List Piece) → StandStill pieces pieces
still_same pieces k p there = (p, there, refl)

pub still_put : (pieces : List Piece) (k : ℕ) (p q : Piece) → get_elem? pieces k ≡ some p → q.at ≡ p.at → StandStill pieces (set pieces k q)
still_put pieces k p q there same i x here = dite (ℕ_discrete i k)
    (λ is. (
      q,
      ap (get_elem? (set pieces k q)) is ∙ set_at pieces k p q there,
      same ∙ ap (λ (z : Piece). z.at) (some-injective p x (sym there ∙ (ap (get_elem? pieces) (sym is) ∙ here))),
    ))
    (λ ne. (x, set_else pieces k i q ne ∙ here, refl))

pub still_longer : (pieces : List Piece) (q : Piece) → StandStill pieces (pieces ++ q ∷ [])
still_longer pieces q i x here = (x, at_longer pieces (q ∷ []) i x here, refl)

-- each claimed block says its size
abbrev pub AllClaimedRight : List Piece → Type 0
AllClaimedRight pieces = (k : ℕ) (piece : Piece) → get_elem? pieces k ≡ some piece → ClaimedRight piece

pub right_put : (pieces : List Piece) (k : ℕ) (q : Piece) → ClaimedRight q → AllClaimedRight pieces → AllClaimedRight (set pieces k q)
right_put pieces k q right all i x here = elim (at_set pieces k i q x here) [
  | inl t ↦ subst ClaimedRight t.1 right
  | inr t ↦ all i x t.1
]

pub right_longer : (pieces : List Piece) (q : Piece) → ClaimedRight q → AllClaimedRight pieces → AllClaimedRight (pieces ++ q ∷ [])
right_longer pieces q right all i x here = elim (at_snoc pieces q x i here) [
  | inl old ↦ all i x old
  | inr new ↦ subst ClaimedRight new right
]

-- ---- what an actor does that allocates

-- What has to be shown when such an actor moves on with a doing.
pub record Acts (shape : Dimensions) (opened : Anatomy) (state : State) (old new : Anatomy) (id : ℕ) (a : Actor) (d : Doing) (words : List ℕ) : Type 0 where
  pub shown : IsShown shape words (layout_of new)
  pub stays : Stays old.pieces new.pieces
  pub others : (other at : ℕ) (body : Body) → other ≢ id → Stands old.pieces at (some other) body → Stands new.pieces at (some other) body
  pub still : StandStill old.pieces new.pieces
  pub blocks : AllClaimedRight new.pieces
  pub linked : IsLinked words (order_of old)
  pub claims : IsPermutation (claims_of new.pieces) (claims_of opened.pieces ++ flat_map (λ a. a.done.claimed) (set state.actors id (doing a d)))
  pub free : (seen : ℕ) → Behind seen (free_of old) → Behind seen (free_of new)
  pub corrupt : IsSetBy new.corrupt opened.corrupt (map (λ a. a.done.spoiled) (set state.actors id (doing a d)))
  pub full : IsSetBy new.full opened.full (map (λ a. a.done.filled) (set state.actors id (doing a d)))
  pub flagged : old.corrupt ≡ true → new.corrupt ≡ true
  pub filled : old.full ≡ true → new.full ≡ true
  pub stands : StandsRight shape new id (doing a d) d.place
  pub seen : Behind d.seen_free (free_of new)
  pub own : All (HoldsOwn shape new.pieces id) d.own
  pub apart : (i j : ℕ) (x y : Own) → get_elem? d.own i ≡ some x → get_elem? d.own j ≡ some y → x.at ≡ y.at → i ≡ j

-- such a doing: it sees nothing of the list, and publishes nothing
abbrev pub unlisted : Actor → Doing → Doing
unlisted a d = sees_no_more a (record d { published = a.done.published; owed = a.answers.owed; beaten = a.done.beaten })

module _ (shape : Dimensions) (opened : Anatomy) (state : State) (kept : Invariant shape opened state) (id : ℕ) (a : Actor)
    (mine : get_elem? state.actors id ≡ some a) (records : is_opener a.role ≡ false) where
  abbrev before : Anatomy
  before = kept.anatomy

  module _ (d : Doing) (turns : TurnsTo a d.place) (up : KeepsUp a.hand.place d.place) (pieces : List Piece) (spare : ℕ) (corrupt full : Bool) (words : List ℕ)
      (acts : Acts shape opened state before (reshaped before pieces spare corrupt full before.tail) id a (unlisted a d) words) where
    -- it moves on, and the state is kept
    pub acts_on : KeptOn shape opened kept (record { words = words; cursors = state.cursors; actors = set state.actors id (doing a (unlisted a d)) })
    acts_on =
        let fits = kept.each id a mine turns.lived in
        let new : Anatomy = reshaped before pieces spare corrupt full before.tail in
        goes_on shape opened state kept id a mine records (unlisted a d) turns pieces spare corrupt full before.tail words
        (record {
          shown = acts.shown;
          stays = acts.stays;
          others = acts.others;
          still = acts.still;
          blocks = acts.blocks;
          linked = acts.linked;
          published = refl;
          owed = refl;
          claims = acts.claims;
          free = acts.free;
          tail = kept.list.tail;
          tail_later = λ seen no_later. no_later;
          corrupt = acts.corrupt;
          full = acts.full;
          flagged = acts.flagged;
          filled = acts.filled;
          stands = acts.stands;
          sees = sees_doing new a (unlisted a d) state.cursors acts.seen
              (sees_along before pieces spare corrupt full before.tail acts.stays state.cursors a.seen (acts.free a.seen.free fits.sees.free)
              fits.sees.tails fits.sees);
          ahead = ahead_at (order_of before) before.tail state.cursors a.hand.place a.done.beaten a.done.lost fits.ahead d.place up;
          own = acts.own;
          apart = acts.apart;
          calls = (calls_along before pieces spare corrupt full before.tail acts.stays a fits.calls);
          looks = looks_doing new a (unlisted a d) state.actors kept.roles.opener turns
              (looks_along before pieces spare corrupt full before.tail acts.stays state.actors kept.roles.opener a (fits.looks records));
        })
