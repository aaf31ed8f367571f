-- A state is kept when an actor that allocates changes nothing, stores into a block in its making, takes words for one, or sets a flag.
use Rattle.segment_invariant.proofs.Prelude.Std.{◌≡◌, ℕ, ◌+◌, ◌-◌, ◌≤◌, Bool, false, true≢false, List, [], ◌∷◌, ◌++◌, map, set, All, inl, inr, refl, sym, ap, ◌∙◌, subst, append_assoc, arith, true, IsPermutation, fold, ◌||◌, flat_map, All-weaker, IsPermutation-refl, some, get_elem?, rows, column}
use Rattle.segment_invariant.proofs.Prelude.Machine.{Dimensions, IsShown, Behind, IsLinked, Actor, Claim, Own, Place, State, is_opener}
use Rattle.segment_invariant.proofs.Prelude.Invariant.{held, is_claimed, Piece, extent_of, Anatomy, layout_of, order_of, free_of, claims_of, StandsRight, HoldsOwn, IsSetBy, ClaimedRight, Invariant, KeptOn}
use Rattle.std.proofs.lemmas.List.Sorted.{IsPermutation-sym, IsPermutation-trans, IsPermutation-append}
use Rattle.alloc_core.specs.Alloc.{IsRise}
use Rattle.alloc_core.proofs.Layouts.{shown_grown}
use Rattle.segment_machine.specs.declared.actor.Rise.{Rise}
use Rattle.segment_invariant.proofs.Frames.Ahead.{KeepsUp}
use Rattle.list_lemmas.proofs.Elements.{rows_more}
use Rattle.segment_invariant.proofs.Blocks.Pieces.{stands_beside, stands_longer, claims_same, claims_grown, with_piece, free_with, raw_piece, grown_by, layout_grown, free_more}
use Rattle.segment_invariant.proofs.Blocks.Stops.{linked_beside_head}
use Rattle.segment_invariant.proofs.Frames.OneActor.{Doing, doing, doing_of, TurnsTo}
use Rattle.segment_invariant.proofs.Allocating.Claimers.{IsMaking, stays_same, stays_put, others_put, stays_longer, still_same, still_put, still_longer, right_put, right_longer, unlisted, acts_on}

-- A block in the making, or one's own, becomes another of the same place, extent and owner, and the words are those with it.
pub record IsStore (shape : Dimensions) (anatomy : Anatomy) (id k : ℕ) (p q : Piece) (words : List ℕ) : Type 0 where
  pub there : get_elem? anatomy.pieces k ≡ some p
  pub mine : p.owner ≡ some id
  pub still_mine : q.owner ≡ some id
  pub making : IsMaking p.body
  pub still_making : IsMaking q.body
  pub place : q.at ≡ p.at
  pub long : extent_of q ≡ extent_of p
  pub right : ClaimedRight q
  pub shown : IsShown shape words (layout_of (with_piece anatomy k q))
  pub linked : IsLinked words (order_of anatomy)

-- what is no later than a free pointer is no later than a later one
behind_on : (seen old new : ℕ) → old + 5 ≤ new → Behind seen old → Behind seen new
behind_on seen old new five (inl same) = inr (omega (arith, same, five))
behind_on seen old new five (inr less) = inr (omega (arith, less, five))

module _ (shape : Dimensions) (opened : Anatomy) (state : State) (kept : Invariant shape opened state) (id : ℕ) (a : Actor)
    (mine : get_elem? state.actors id ≡ some a) (records : is_opener a.role ≡ false) where
  abbrev anatomy : Anatomy
  anatomy = kept.anatomy

  -- the state with these words, and with the actor that has moved on
  abbrev pub GoesTo : List ℕ → Doing → Type 0
  GoesTo words d = KeptOn shape opened kept (record { words = words; cursors = state.cursors; actors = set state.actors id (doing a (unlisted a d)) })

  abbrev Claims : List Piece → Doing → Type 0
  Claims pieces d =
      IsPermutation (claims_of pieces) (claims_of opened.pieces ++ flat_map (λ (a : Actor). a.done.claimed) (set state.actors id (doing a (unlisted a d))))

  -- the claims are those that they were
  pub claims_kept : (pieces : List Piece) (d : Doing) → claims_of pieces ≡ claims_of anatomy.pieces → d.claimed ≡ a.done.claimed → Claims pieces d
  claims_kept pieces d same claimed =
      subst (λ (c : List Claim × List Claim). IsPermutation c.0 (claims_of opened.pieces ++ c.1))
      (λ i. (sym same i, sym (rows (λ (a : Actor). a.done.claimed) state.actors id a (doing a (unlisted a d)) mine claimed) i)) kept.claims

  -- or one more
  pub claims_longer : (pieces : List Piece) (d : Doing) (claim : Claim) → IsPermutation (claims_of pieces) (claims_of anatomy.pieces ++ claim ∷ [])
      → d.claimed ≡ a.done.claimed ++ claim ∷ [] → Claims pieces d
  claims_longer pieces d claim more claimed =
      let all : List Claim = flat_map (λ (a : Actor). a.done.claimed) state.actors in
      let opening : List Claim = claims_of opened.pieces in
      IsPermutation-trans _ _ _ more
      (IsPermutation-trans _ _ _ (IsPermutation-append _ _ (claim ∷ []) (claim ∷ []) kept.claims (IsPermutation-refl (claim ∷ [])))
      (subst (λ l. IsPermutation l (opening ++ flat_map (λ (a : Actor). a.done.claimed) (set state.actors id (doing a (unlisted a d)))))
      (sym (append_assoc opening all (claim ∷ [])))
      (IsPermutation-append opening opening _ _ (IsPermutation-refl opening)
      (IsPermutation-sym _ _ (rows_more (λ (a : Actor). a.done.claimed) state.actors id a (doing a (unlisted a d)) (claim ∷ []) mine claimed)))))

  -- the flags are those that they were
  corrupt_kept : (d : Doing) → d.spoiled ≡ a.done.spoiled → IsSetBy anatomy.corrupt opened.corrupt (map (λ a. a.done.spoiled) (set state.actors id (doing a (unlisted a d))))
  corrupt_kept d same =
      kept.corrupt ∙ ap (λ set. opened.corrupt || fold ◌||◌ false set) (sym (column (λ (a : Actor). a.done.spoiled) state.actors id a (doing a (unlisted a d)) mine same))

  full_kept : (d : Doing) → d.filled ≡ a.done.filled → IsSetBy anatomy.full opened.full (map (λ a. a.done.filled) (set state.actors id (doing a (unlisted a d))))
  full_kept d same =
      kept.full ∙ ap (λ set. opened.full || fold ◌||◌ false set) (sym (column (λ (a : Actor). a.done.filled) state.actors id a (doing a (unlisted a d)) mine same))

  -- ---- nothing changes but its place, and what it saw of the free pointer

  pub waits : (p : Place) (seen : ℕ) → TurnsTo a p → KeepsUp a.hand.place p → Behind seen (free_of anatomy)
      → StandsRight shape anatomy id (record a { hand = record a.hand { place = p }; seen = record a.seen { free = seen } }) p
      → GoesTo state.words (record (doing_of a) { place = p; seen_free = seen })
  waits p seen turns up behind stands =
      let d : Doing = record (doing_of a) { place = p; seen_free = seen } in
      let fits = kept.each id a mine turns.lived in
      acts_on shape opened state kept id a mine records d turns up anatomy.pieces anatomy.spare anatomy.corrupt anatomy.full state.words
      (record {
        shown = kept.shown;
        stays = stays_same anatomy.pieces;
        others = λ other at body ne has. has;
        still = still_same anatomy.pieces;
        blocks = kept.blocks;
        linked = kept.list.linked;
        claims = claims_kept anatomy.pieces d refl refl;
        free = λ seen behind. behind;
        corrupt = corrupt_kept d refl;
        full = full_kept d refl;
        flagged = λ set. set;
        filled = λ set. set;
        stands = stands;
        seen = behind;
        own = fits.own;
        apart = fits.apart;
      })

  -- ---- a block in its making changes

  module _ (k : ℕ) (p q : Piece) (words : List ℕ) (store : IsStore shape anatomy id k p q words) where
    abbrev after : Anatomy
    after = with_piece anatomy k q

    free_stays : (seen : ℕ) → Behind seen (free_of anatomy) → Behind seen (free_of after)
    free_stays seen = subst (Behind seen) (sym (free_with anatomy k p q store.there store.long))

    -- with what it has of blocks then
    pub stores : (d : Doing) → TurnsTo a d.place → KeepsUp a.hand.place d.place → Claims after.pieces d → d.spoiled ≡ a.done.spoiled → d.filled ≡ a.done.filled → d.seen_free ≡ a.seen.free
        → StandsRight shape after id (doing a (unlisted a d)) d.place → All (HoldsOwn shape after.pieces id) d.own
        → ((i j : ℕ) (x y : Own) → get_elem? d.own i ≡ some x → get_elem? d.own j ≡ some y → x.at ≡ y.at → i ≡ j)
        → GoesTo words d
    stores d turns up claims spoiled filled seen stands own apart =
        let fits = kept.each id a mine turns.lived in
        acts_on shape opened state kept id a mine records d turns up after.pieces anatomy.spare anatomy.corrupt anatomy.full words
        (record {
          shown = store.shown;
          stays = stays_put anatomy.pieces k id p q store.there store.mine store.still_mine store.making store.still_making;
          others = others_put anatomy.pieces k id p q store.there store.mine store.still_mine store.making store.still_making;
          still = still_put anatomy.pieces k p q store.there store.place;
          blocks = right_put anatomy.pieces k q store.right kept.blocks;
          linked = store.linked;
          claims = claims;
          free = free_stays;
          corrupt = corrupt_kept d spoiled;
          full = full_kept d filled;
          flagged = λ set. set;
          filled = λ set. set;
          stands = stands;
          seen = subst (λ n. Behind n (free_of after)) (sym seen) (free_stays a.seen.free fits.sees.free);
          own = own;
          apart = apart;
        })

    -- what it has of other blocks
    pub own_beside : is_claimed p.body ≡ false → All (HoldsOwn shape anatomy.pieces id) a.hand.own → All (HoldsOwn shape after.pieces id) a.hand.own
    own_beside unclaimed own =
        All-weaker (HoldsOwn shape anatomy.pieces id) (HoldsOwn shape after.pieces id)
        (λ block is. record {
          stands = stands_beside anatomy.pieces k p q store.there block.at (some id) (held block)
              (λ same. true≢false (ap (λ (x : Piece). is_claimed x.body) same ∙ unclaimed)) is.stands;
          placed = is.placed;
          room = is.room;
          tagged = is.tagged;
          ends = is.ends;
        })
        a.hand.own own

    -- words that nobody has claimed become others, and the actor is at another place
    pub makes : is_claimed p.body ≡ false → is_claimed q.body ≡ false → (place : Place) → TurnsTo a place → KeepsUp a.hand.place place
        → StandsRight shape after id (record a { hand = record a.hand { place = place } }) place → GoesTo words (record (doing_of a) { place = place })
    makes was is place turns up stands =
        let d : Doing = record (doing_of a) { place = place } in
        let fits = kept.each id a mine turns.lived in
        stores d turns up
        (claims_kept after.pieces d (claims_same anatomy.pieces k p q store.there (is ∙ sym was) store.place store.long) refl)
        refl refl refl stands (own_beside was fits.own) fits.apart

  -- ---- words are taken for a block

  abbrev Taken : ℕ → Anatomy
  Taken new = grown_by anatomy id (new - free_of anatomy)

  pub takes : (new : ℕ) (place : Place) (raised : List Rise) → TurnsTo a place → KeepsUp a.hand.place place → IsRise shape (free_of anatomy) new
      → StandsRight shape (Taken new) id
      (record a { hand = record a.hand { place = place }; done = record a.done { raised = raised }; seen = record a.seen { free = new } }) place
      → GoesTo (set state.words 7 new) (record (doing_of a) { place = place; raised = raised; seen_free = new })
  takes new place raised turns up rise stands =
      let d : Doing = record (doing_of a) { place = place; raised = raised; seen_free = new } in
      let fits = kept.each id a mine turns.lived in
      let size : ℕ = new - free_of anatomy in
      let q : Piece = raw_piece (free_of anatomy) id size in
      let five = rise.five in
      let ends : free_of (Taken new) ≡ new = omega (arith, free_more anatomy id size, five) in
      acts_on shape opened state kept id a mine records d turns up (Taken new).pieces (anatomy.spare - size) anatomy.corrupt anatomy.full (set state.words 7 new)
      (record {
        shown = subst (IsShown shape (set state.words 7 new)) (layout_grown anatomy id size)
            (shown_grown shape state.words (layout_of anatomy) id new kept.shown rise);
        stays = stays_longer anatomy.pieces id q refl tt;
        others = λ other at body ne. stands_longer anatomy.pieces q at (some other) body;
        still = still_longer anatomy.pieces q;
        blocks = right_longer anatomy.pieces q (λ claimed. cc claimed) kept.blocks;
        linked = linked_beside_head shape state.words anatomy kept.shown kept.list.standing 7 new (omega arith) kept.list.linked;
        claims = claims_kept (Taken new).pieces d (claims_grown anatomy.pieces q refl) refl;
        free = λ seen behind. subst (Behind seen) (sym ends) (behind_on seen (free_of anatomy) new five behind);
        corrupt = corrupt_kept d refl;
        full = full_kept d refl;
        flagged = λ set. set;
        filled = λ set. set;
        stands = stands;
        seen = inl (sym ends);
        own = All-weaker (HoldsOwn shape anatomy.pieces id) (HoldsOwn shape (Taken new).pieces id)
            (λ block is. record {
              stands = stands_longer anatomy.pieces q block.at (some id) (held block) is.stands;
              placed = is.placed;
              room = is.room;
              tagged = is.tagged;
              ends = is.ends;
            })
            a.hand.own fits.own;
        apart = fits.apart;
      })

  -- ---- a flag is set

  pub flags_set : (corrupt full : Bool) (v : ℕ) (place : Place) (spoiled filled : Bool) (lacked : List ℕ) → TurnsTo a place → KeepsUp a.hand.place place
      → IsShown shape (set state.words 6 v) (layout_of (record anatomy { corrupt = corrupt; full = full }))
      → IsSetBy corrupt opened.corrupt (map (λ a. a.done.spoiled) (set state.actors id (record a { hand = record a.hand { place = place }; done = record a.done { spoiled = spoiled; filled = filled; lacked = lacked } })))
      → IsSetBy full opened.full (map (λ a. a.done.filled) (set state.actors id (record a { hand = record a.hand { place = place }; done = record a.done { spoiled = spoiled; filled = filled; lacked = lacked } })))
      → (anatomy.corrupt ≡ true → corrupt ≡ true) → (anatomy.full ≡ true → full ≡ true)
      → StandsRight shape (record anatomy { corrupt = corrupt; full = full }) id (record a { hand = record a.hand { place = place }; done = record a.done { spoiled = spoiled; filled = filled; lacked = lacked } }) place
      → GoesTo (set state.words 6 v) (record (doing_of a) { place = place; spoiled = spoiled; filled = filled; lacked = lacked })
  flags_set corrupt full v place spoiled filled lacked turns up shown is_corrupt is_full flagged fills stands =
      let d : Doing = record (doing_of a) { place = place; spoiled = spoiled; filled = filled; lacked = lacked } in
      let fits = kept.each id a mine turns.lived in
      acts_on shape opened state kept id a mine records d turns up anatomy.pieces anatomy.spare corrupt full (set state.words 6 v)
      (record {
        shown = shown;
        stays = stays_same anatomy.pieces;
        others = λ other at body ne has. has;
        still = still_same anatomy.pieces;
        blocks = kept.blocks;
        linked = linked_beside_head shape state.words anatomy kept.shown kept.list.standing 6 v (omega arith) kept.list.linked;
        claims = claims_kept anatomy.pieces d refl refl;
        free = λ seen behind. behind;
        corrupt = is_corrupt;
        full = is_full;
        flagged = flagged;
        filled = fills;
        stands = stands;
        seen = fits.sees.free;
        own = fits.own;
        apart = fits.apart;
      })
