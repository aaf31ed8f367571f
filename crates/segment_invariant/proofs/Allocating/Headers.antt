-- Each store into the header of a block in its making keeps what holds: its size, its cookie, and its type, which claims it.
use Rattle.segment_invariant.proofs.Prelude.Std.{◌≡◌, ◌≢◌, ℕ, suc, ◌+◌, ◌-◌, ◌<◌, ◌≤◌, ◌==◌, Bool, true, true≢false, List, [], ◌∷◌, ◌++◌, length, replicate, set, All, inl, inr, refl, sym, ap, ◌∙◌, subst, arith, false, nat_lt, if◌then◌else◌, IsPermutation, length-replicate, All-push, some, get_elem?, at_map, all_at}
use Rattle.segment_invariant.proofs.Prelude.Machine.{Dimensions, IsShown, Actor, Claim, Own, Place, Idle, State, store_size, store_cookie, store_type, allocating_event, Ready, is_opener}
use Rattle.segment_invariant.proofs.Prelude.Invariant.{plain, held, is_claimed, Piece, Anatomy, layout_of, claims_of, Stands, StandsRight, HoldsOwn, Invariant, KeptOn, is_beaten}
use Rattle.alloc_core.specs.Layout.{put}
use Rattle.alloc_core.specs.Laws.{own, claimed_words}
use Rattle.alloc_core.specs.Alloc.{IsPlace}
use Rattle.alloc_core.proofs.EventKinds.{sized, marked, length-sized, length-marked, length-claimed, size_stored, cookie_stored, type_stored}
use Rattle.segment_machine.specs.declared.place.Place.TheVariants.{Sized, Marked}
use Rattle.segment_machine.specs.Allocating.{size_at, wanted_at, new_own}
use Rattle.segment_invariant.specs.Body.{own_words, block_of}
use Rattle.segment_invariant.specs.Seen.{HasPlain}
use Rattle.list_lemmas.proofs.Elements.{at_snoc_index}
use Rattle.segment_invariant.proofs.Blocks.Pieces.{shown_with, stands_here, one_stands, claims_more}
use Rattle.segment_invariant.proofs.Blocks.Stops.{linked_beside_own}
use Rattle.segment_invariant.proofs.Frames.OneActor.{Doing, doing_of, is_plain, turns_plain}
use Rattle.segment_invariant.proofs.Allocating.Blocks.{IsStore, makes, stores, own_beside, claims_longer}
use Rattle.segment_invariant.proofs.Allocating.Events.{Keeps}

-- blocks at places of their own, and one more at another place
apart_longer : (own : List Own) (block : Own)
    → ((i j : ℕ) (x y : Own) → get_elem? own i ≡ some x → get_elem? own j ≡ some y → x.at ≡ y.at → i ≡ j)
    → ((i : ℕ) (x : Own) → get_elem? own i ≡ some x → x.at ≢ block.at)
    → (i j : ℕ) (x y : Own) → get_elem? (own ++ block ∷ []) i ≡ some x → get_elem? (own ++ block ∷ []) j ≡ some y → x.at ≡ y.at → i ≡ j
apart_longer own block apart others i j x y one two same = elim (at_snoc_index own block x i one) [
  | inl old ↦ elim (at_snoc_index own block y j two) [
    | inl older ↦ apart i j x y old older same
    | inr new ↦ absurd (others i x old (same ∙ ap (λ (z : Own). z.at) (sym new.1)))
  ]
  | inr new ↦ elim (at_snoc_index own block y j two) [
    | inl old ↦ absurd (others j y old (sym same ∙ ap (λ (z : Own). z.at) (sym new.1)))
    | inr newer ↦ new.0 ∙ sym newer.0
  ]
]

module _ (shape : Dimensions) (opened : Anatomy) (state : State) (kept : Invariant shape opened state) (id : ℕ) (a : Actor)
    (mine : get_elem? state.actors id ≡ some a) (records : is_opener a.role ≡ false) where
  abbrev anatomy : Anatomy
  anatomy = kept.anatomy

  abbrev Goes : ℕ → ℕ → Actor → Type 0
  Goes at v b = KeptOn shape opened kept (record { words = set state.words at v; cursors = state.cursors; actors = set state.actors id b })

  -- the piece of words in the making
  abbrev raw : ℕ → List ℕ → Piece
  raw at words = record { at = at; owner = some id; body = plain words }

  -- a word of a block in the making is stored, so that its words are others
  module _ (at j v : ℕ) (old new : List ℕ) (there : HasPlain anatomy.pieces id at old) (within : j < length old) (long : length new ≡ length old)
      (shown : IsShown shape (set state.words (at + j) v) (put (layout_of anatomy) there.0 (own id at new))) where
    raw_store : IsStore shape anatomy id there.0 (raw at old) (raw at new) (set state.words (at + j) v)
    raw_store = record {
      there = there.1;
      mine = refl;
      still_mine = refl;
      making = tt;
      still_making = tt;
      place = refl;
      long = long;
      right = λ claimed. cc claimed;
      shown = shown_with shape (set state.words (at + j) v) anatomy there.0 (raw at new) shown;
      linked = linked_beside_own shape state.words anatomy kept.shown kept.list.standing there.0 id j v (raw at old) there.1 refl within kept.list.linked;
    }

    -- and the actor is at the place after that
    made : (place : Place) → is_plain a.hand.place ≡ true → is_beaten a.hand.place ≡ false → is_plain place ≡ true
        → (HasPlain (set anatomy.pieces there.0 (raw at new)) id at new → StandsRight shape (record anatomy { pieces = set anatomy.pieces there.0 (raw at new) }) id (record a { hand = record a.hand { place = place } }) place)
        → Goes (at + j) v (record a { hand = record a.hand { place = place } })
    made place was unbeaten is stands =
        makes shape opened state kept id a mine records there.0 (raw at old) (raw at new) (set state.words (at + j) v) raw_store refl refl place
        (turns_plain a place was is) (λ no. unbeaten) (stands (stands_here anatomy.pieces there.0 (raw at old) (raw at new) there.1))

  -- its size
  pub size_kept : (at size : ℕ) → Ready a (allocating_event (store_size at size)) → Keeps shape opened state kept id a mine records (allocating_event (store_size at size))
  size_kept at size (wanted, ready) =
      let (placed, (k, there)) = subst (StandsRight shape anatomy id a) ready (kept.standing id a mine) in
      let five = placed.five in
      let long : length (replicate {A = ℕ} size 0) ≡ size = length-replicate {A = ℕ} size 0 in
      let none_on : at + 0 ≡ at = omega arith in
      let shown = size_stored shape state.words (layout_of anatomy) id at size k kept.shown (at_map block_of anatomy.pieces k (raw at (replicate size 0)) there) five in (
        subst (λ place. Goes at size (record a { hand = record a.hand { place = place } })) (ap (λ (p : Place). Sized at size (wanted_at p)) (sym ready))
            (subst (λ n. Goes n size (record a { hand = record a.hand { place = Sized at size wanted } })) none_on
            (made at 0 size (replicate size 0) (sized size) (k, there) (omega (arith, long, five)) (omega (arith, long, length-sized size five))
            (subst (λ n. IsShown shape (set state.words n size) (put (layout_of anatomy) k (own id at (sized size)))) (sym none_on) shown)
            (Sized at size wanted) (ap is_plain ready) (ap is_beaten ready) refl (λ has. (placed, has)))),
        tt,
      )

  -- its cookie
  cookie_put : (at size wanted cookie : ℕ) (place : Place) → a.hand.place ≡ Sized at size wanted → is_plain place ≡ true
      → ((pieces : List Piece) → IsPlace shape at size → HasPlain pieces id at (marked size cookie)
      → StandsRight shape (record anatomy { pieces = pieces }) id (record a { hand = record a.hand { place = place } }) place)
      → Goes (at + 1) cookie (record a { hand = record a.hand { place = place } })
  cookie_put at size wanted cookie place ready plain_place stands =
      let (placed, (k, there)) = subst (StandsRight shape anatomy id a) ready (kept.standing id a mine) in
      let five = placed.five in
      let long = length-sized size five in
      made at 1 cookie (sized size) (marked size cookie) (k, there) (omega (arith, long, five)) (omega (arith, long, length-marked size cookie five))
      (cookie_stored shape state.words (layout_of anatomy) id at size cookie k kept.shown (at_map block_of anatomy.pieces k (raw at (sized size)) there) five)
      place (ap is_plain ready) (ap is_beaten ready) plain_place (λ has. stands _ placed has)

  -- that of a wasted rest of a page, or that of a block
  cookie_as : (at cookie size wanted : ℕ) → a.hand.place ≡ Sized at size wanted → (few : Bool) → cookie ≡ (if few then 0xFFFFFFFFFFFFFFFF else 0xC8799269)
      → Keeps shape opened state kept id a mine records (allocating_event (store_cookie at cookie))
  cookie_as at cookie size wanted ready true waste = (
    subst (λ n. Goes (at + 1) n (record a { hand = record a.hand { place = if n == 0xC8799269 then Marked at (size_at a.hand.place) else Idle } })) (sym waste)
        (cookie_put at size wanted 0xFFFFFFFFFFFFFFFF Idle ready refl (λ pieces placed has. tt)),
    tt,
  )
  cookie_as at cookie size wanted ready false block =
      let here : Goes (at + 1) 0xC8799269 (record a { hand = record a.hand { place = Marked at size } }) =
      cookie_put at size wanted 0xC8799269 (Marked at size) ready refl (λ pieces placed has. (placed, has)) in
      let same : size ≡ size_at a.hand.place = sym (ap size_at ready) in (
        subst (λ n. Goes (at + 1) n (record a { hand = record a.hand { place = if n == 0xC8799269 then Marked at (size_at a.hand.place) else Idle } })) (sym block)
            (subst (λ n. Goes (at + 1) 0xC8799269 (record a { hand = record a.hand { place = Marked at n } })) same here),
        tt,
      )

  -- its cookie is what its size asks for
  pub cookie_kept : (at cookie : ℕ) → Ready a (allocating_event (store_cookie at cookie)) → Keeps shape opened state kept id a mine records (allocating_event (store_cookie at cookie))
  cookie_kept at cookie (size, wanted, ready, is) = cookie_as at cookie size wanted ready (nat_lt size wanted) is

  -- ---- its type claims it

  -- the words of a block that is claimed
  claimed_are : (at size tag : ℕ) → 5 ≤ size → claimed_words size tag ≡ own_words (new_own at size tag)
  claimed_are at size tag five =
      let e : size - 3 ≡ suc (size - 4 - 0) = omega arith in ap (λ (n : ℕ). size ∷ 0xC8799269 ∷ tag ∷ replicate {A = ℕ} n 0) e

  module _ (at size tag : ℕ) (ready : a.hand.place ≡ Marked at size) (some_tag : tag ≤ 3) where
    abbrev block : Own
    block = new_own at size tag

    abbrev claim : Claim
    claim = record { at = at; size = size }

    abbrev words : List ℕ
    words = set state.words (at + 2) tag

    module _ (placed : IsPlace shape at size) (k : ℕ) (there : get_elem? anatomy.pieces k ≡ some (raw at (marked size 0xC8799269))) where
      abbrev p : Piece
      p = raw at (marked size 0xC8799269)

      abbrev q : Piece
      q = record { at = at; owner = some id; body = held block }

      abbrev pieces : List Piece
      pieces = set anatomy.pieces k q

      long : length (own_words block) ≡ size
      long = sym (ap length (claimed_are at size tag placed.five)) ∙ length-claimed size tag placed.five

      claim_shown : IsShown shape words (layout_of (record anatomy { pieces = pieces }))
      claim_shown =
          shown_with shape words anatomy k q
          (subst (λ ws. IsShown shape words (put (layout_of anatomy) k (own id at ws))) (claimed_are at size tag placed.five)
          (type_stored shape state.words (layout_of anatomy) id at size tag k kept.shown (at_map block_of anatomy.pieces k p there) placed.five))

      claim_store : IsStore shape anatomy id k p q words
      claim_store =
          let five = placed.five in
          let before = length-marked size 0xC8799269 five in record {
            there = there;
            mine = refl;
            still_mine = refl;
            making = tt;
            still_making = tt;
            place = refl;
            long = omega (arith, long, before);
            right = λ is. (sym long, omega (arith, long, five), inr (block, refl));
            shown = claim_shown;
            linked = linked_beside_own shape state.words anatomy kept.shown kept.list.standing k id 2 tag p there refl
                (omega (arith, before, five)) kept.list.linked;
          }

      -- none of its own blocks is there yet
      none_there : All (HoldsOwn shape anatomy.pieces id) a.hand.own → (i : ℕ) (x : Own) → get_elem? a.hand.own i ≡ some x → x.at ≢ at
      none_there holds i x is same =
          true≢false (ap is_claimed (one_stands shape state.words anatomy kept.shown at (some id) (some id) (held x) p.body
          (subst (λ n. Stands anatomy.pieces n (some id) (held x)) same (all_at (HoldsOwn shape anatomy.pieces id) a.hand.own i x holds is).stands)
          (k, there)).1)

      new_holds : HoldsOwn shape pieces id block
      new_holds =
          let five = placed.five in record {
            stands = stands_here anatomy.pieces k p q there;
            placed = placed;
            room = omega (arith, five);
            tagged = some_tag;
            ends = inl refl;
          }

      claim_more : IsPermutation (claims_of pieces) (claims_of anatomy.pieces ++ claim ∷ [])
      claim_more =
          subst (λ n. IsPermutation (claims_of pieces) (claims_of anatomy.pieces ++ record { at = at; size = n } ∷ [])) long
          (claims_more anatomy.pieces k p q there refl refl)

    claimed : Goes (at + 2) tag (record a { hand = record { place = Idle; own = a.hand.own ++ block ∷ [] }; done = record a.done { claimed = a.done.claimed ++ claim ∷ [] } })
    claimed =
        let (placed, (k, there)) = subst (StandsRight shape anatomy id a) ready (kept.standing id a mine) in
        let turns = turns_plain a Idle (ap is_plain ready) refl in
        let fits = kept.each id a mine turns.lived in
        let d : Doing = record (doing_of a) { place = Idle; own = a.hand.own ++ block ∷ []; claimed = a.done.claimed ++ claim ∷ [] } in
        let store = claim_store placed k there in
        stores shape opened state kept id a mine records k (p placed k there) (q placed k there) words store d turns (λ no. ap is_beaten ready)
        (claims_longer shape opened state kept id a mine records (pieces placed k there) d claim (claim_more placed k there) refl)
        refl refl refl tt
        (All-push (HoldsOwn shape (pieces placed k there) id) a.hand.own block
        (own_beside shape opened state kept id a mine records k (p placed k there) (q placed k there) words store refl fits.own) (new_holds placed k there))
        (apart_longer a.hand.own block fits.apart (none_there placed k there fits.own))

  pub type_kept : (at tag : ℕ) → Ready a (allocating_event (store_type at tag)) → Keeps shape opened state kept id a mine records (allocating_event (store_type at tag))
  type_kept at tag ((size, ready), least, most) =
      let same : size ≡ size_at a.hand.place = sym (ap size_at ready) in (
        subst (λ n. Goes (at + 2) tag (record a {
          hand = record { place = Idle; own = a.hand.own ++ new_own at n tag ∷ [] };
          done = record a.done { claimed = a.done.claimed ++ record { at = at; size = n } ∷ [] };
        })) same (claimed at size tag ready most),
        tt,
      )
