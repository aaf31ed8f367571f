-- An actor stores a word into a block of its own: what holds is kept. So each word of a payload.
use Rattle.segment_invariant.proofs.Prelude.Std.{◌≡◌, ◌≢◌, ◌⊎◌, ℕ, zero, suc, ◌+◌, ◌-◌, ◌<◌, ◌≤◌, ◌==◌, Bool, true, false, true≢false, List, [], ◌∷◌, ◌++◌, length, replicate, set, All, Contains, inl, inr, refl, sym, ap, ◌∙◌, subst, append_assoc, eq-eqb, eqb-true, length-set, length-append, arith, if◌then◌else◌, length-replicate, dite, some, some-injective, some-ne-none, ℕ_discrete, get_elem?, at_set, set_else, at_from, contains_at, all_at}
use Rattle.segment_invariant.proofs.Prelude.Machine.{Dimensions, Actor, Own, Place, Spent, State, purse, store_payload, allocating_event, Ready, is_opener}
use Rattle.segment_invariant.proofs.Prelude.Invariant.{plain, held, is_claimed, Piece, Anatomy, StandsRight, HoldsOwn, Invariant, KeptOn}
use Rattle.std.proofs.lemmas.List.{set-append_right}
use Rattle.alloc_core.proofs.Owners.{set_at}
use Rattle.alloc_core.specs.Alloc.{IsPlace}
use Rattle.segment_machine.specs.Allocating.{stored}
use Rattle.segment_machine.specs.Calls.{change_first, change_own}
use Rattle.segment_invariant.specs.Body.{own_words}
use Rattle.list_lemmas.proofs.Elements.{all_from}
use Rattle.segment_invariant.proofs.Blocks.Pieces.{stands_here, stands_beside, not_first, piece_stored, claims_same, with_piece}
use Rattle.segment_invariant.proofs.Blocks.Stops.{linked_beside_own}
use Rattle.segment_invariant.proofs.Frames.OneActor.{Doing, doing_of, TurnsTo, turns_not, doing}
use Rattle.segment_invariant.proofs.Frames.Ahead.{KeepsUp}
use Rattle.segment_invariant.proofs.Frames.Anatomies.{grounds_along}
use Rattle.segment_invariant.proofs.Frames.Standing.{stands_on}
use Rattle.segment_invariant.proofs.Allocating.Claimers.{stays_put}
use Rattle.segment_invariant.proofs.Allocating.Blocks.{IsStore, stores, claims_kept}
use Rattle.segment_invariant.proofs.Allocating.Events.{Keeps}
use Rattle.segment_invariant.proofs.Frames.Growth.{Stays}

-- ---- lists

-- the one element that passes a test is changed
pub change_one : {A : Type 0} (test : A → Bool) (f : A → A) (l : List A) (i : ℕ) (x : A) → get_elem? l i ≡ some x → test x ≡ true
    → ((j : ℕ) (y : A) → get_elem? l j ≡ some y → test y ≡ true → j ≡ i) → change_first test f l ≡ set l i (f x)
change_one test f [] i x there passes alone = refl
change_one test f (z ∷ zs) zero x there passes alone =
    let same : z ≡ x = some-injective z x there in
    ap (λ b. if b then f z ∷ zs else z ∷ change_first test f zs) (ap test same ∙ passes) ∙ ap (λ y. f y ∷ zs) same
change_one test f (z ∷ zs) (suc i) x there passes alone =
    fails (test z) refl (λ is. change_one test f zs i x there passes (λ m y at held. let e = alone (suc m) y at held in omega (arith, e)))
  where
    fails : (b : Bool) → test z ≡ b → (test z ≡ false → change_first test f zs ≡ set zs i (f x))
        → (if b then f z ∷ zs else z ∷ change_first test f zs) ≡ z ∷ set zs i (f x)
    fails true is rest = absurd (let e = alone 0 z refl is in omega (arith, e))
    fails false is rest = ap (λ rest. z ∷ rest) (rest is)

-- one of zeros becomes another number
set_zeros : (n m v : ℕ) → m < n → set (replicate n 0) m v ≡ replicate m 0 ++ v ∷ replicate (n - m - 1) 0
set_zeros zero m v lt = absurd (omega (arith, lt))
set_zeros (suc n) zero v lt = let e : n ≡ suc n - 0 - 1 = omega arith in ap (λ (k : ℕ). v ∷ replicate {A = ℕ} k 0) e
set_zeros (suc n) (suc m) v lt =
    let e : n - m - 1 ≡ suc n - suc m - 1 = omega arith in
    ap (λ (l : List ℕ). 0 ∷ l) (set_zeros n m v (omega (arith, lt)) ∙ ap (λ (k : ℕ). replicate {A = ℕ} m 0 ++ v ∷ replicate {A = ℕ} k 0) e)

-- a payload followed by zeros, with another word stored after it
payload_stored : (payload : List ℕ) (n index v : ℕ) → length payload ≤ index → index < n
    → stored payload index v ++ replicate (n - length (stored payload index v)) 0 ≡ set (payload ++ replicate (n - length payload) 0) index v
payload_stored payload n index v from to =
    let m : ℕ = index - length payload in
    let r : ℕ = n - length payload in
    let zeros : List ℕ = replicate {A = ℕ} m 0 in
    let inner = length-append payload zeros in
    let outer = length-append (payload ++ zeros) (v ∷ []) in
    let long = length-replicate {A = ℕ} m 0 in
    let left : n - length (stored payload index v) ≡ r - m - 1 = omega (arith, inner, outer, long, from, to) in
    ap (λ (k : ℕ). stored payload index v ++ replicate {A = ℕ} k 0) left
    ∙ (append_assoc (payload ++ zeros) (v ∷ []) (replicate (r - m - 1) 0)
    ∙ (append_assoc payload zeros (v ∷ replicate (r - m - 1) 0)
    ∙ (ap (λ (l : List ℕ). payload ++ l) (sym (set_zeros r m v (omega (arith, from, to))))
    ∙ sym (set-append_right payload (replicate r 0) (length payload) index v refl from))))

-- ---- a word of a block of its own

module _ (shape : Dimensions) (opened : Anatomy) (state : State) (kept : Invariant shape opened state) (id : ℕ) (a : Actor)
    (mine : get_elem? state.actors id ≡ some a) (records : is_opener a.role ≡ false) where
  abbrev anatomy : Anatomy
  anatomy = kept.anatomy

  -- an actor with a block lives
  pub has_lived : (i : ℕ) (x : Own) → get_elem? a.hand.own i ≡ some x → a.hand.place ≢ Spent
  has_lived i x there is_spent =
      let nobody : a ≡ purse a.units.share = subst (StandsRight shape anatomy id a) is_spent (kept.standing id a mine) in
      some-ne-none x (sym there ∙ ap (λ (b : Actor). get_elem? b.hand.own i) nobody)

  module _ (i : ℕ) (x y : Own) (j v : ℕ) (there : get_elem? a.hand.own i ≡ some x) (same_at : y.at ≡ x.at) (same_size : y.size ≡ x.size) (tagged : y.tag ≤ 3)
      (words_are : own_words y ≡ set (own_words x) j v) (within : j < length (own_words x)) (room : length y.payload + 4 ≤ y.size)
      (ends : (y.next ≡ 0) ⊎ (y.next ≡ 12)) where
    lived : a.hand.place ≢ Spent
    lived = has_lived i x there

    pub holds : HoldsOwn shape anatomy.pieces id x
    holds = all_at (HoldsOwn shape anatomy.pieces id) a.hand.own i x (kept.each id a mine lived).own there

    abbrev k : ℕ
    k = holds.stands.0

    abbrev p : Piece
    p = record { at = x.at; owner = some id; body = held x }

    abbrev q : Piece
    q = record { at = y.at; owner = some id; body = held y }

    abbrev pieces : List Piece
    pieces = set anatomy.pieces k q

    abbrev words : List ℕ
    words = set state.words (x.at + j) v

    at_k : get_elem? anatomy.pieces k ≡ some p
    at_k = holds.stands.1

    long : length (own_words y) ≡ length (own_words x)
    long = ap length words_are ∙ length-set (own_words x) j v

    store : IsStore shape anatomy id k p q words
    store =
        let right = kept.blocks k p at_k refl in
        record {
          there = at_k;
          mine = refl;
          still_mine = refl;
          making = tt;
          still_making = tt;
          place = same_at;
          long = long;
          right = λ is. (same_size ∙ (right.0 ∙ sym long), subst (λ n. 5 ≤ n) (sym long) right.1, inr (y, refl));
          shown = piece_stored shape state.words anatomy k p q j v kept.shown at_k
              (not_first shape state.words anatomy kept.shown k p id at_k refl) within words_are same_at;
          linked = linked_beside_own shape state.words anatomy kept.shown kept.list.standing k id j v p at_k refl within kept.list.linked;
        }

    -- its other blocks
    another : (m : ℕ) (z : Own) → m ≢ i → get_elem? a.hand.own m ≡ some z → z.at ≢ x.at
    another m z ne is same = ne ((kept.each id a mine lived).apart m i z x is there same)

    own_holds : All (HoldsOwn shape pieces id) (set a.hand.own i y)
    own_holds = all_from (HoldsOwn shape pieces id) (set a.hand.own i y) (λ m z is. elim (at_set a.hand.own i m y z is) [
      | inl t ↦ subst (HoldsOwn shape pieces id) t.1 (record {
        stands = stands_here anatomy.pieces k p q at_k;
        placed = subst (λ (n : ℕ × ℕ). IsPlace shape n.0 n.1) (λ e. (sym same_at e, sym same_size e)) holds.placed;
        room = room;
        tagged = tagged;
        ends = ends;
      })
      | inr t ↦
          let old = all_at (HoldsOwn shape anatomy.pieces id) a.hand.own m z (kept.each id a mine lived).own t.1 in record {
            stands = stands_beside anatomy.pieces k p q at_k z.at (some id) (held z)
                (λ same. another m z t.0 t.1 (ap (λ (piece : Piece). piece.at) same)) old.stands;
            placed = old.placed;
            room = old.room;
            tagged = old.tagged;
            ends = old.ends;
          }
    ])

    own_apart : (m n : ℕ) (z w : Own) → get_elem? (set a.hand.own i y) m ≡ some z → get_elem? (set a.hand.own i y) n ≡ some w → z.at ≡ w.at → m ≡ n
    own_apart m n z w one two same = elim (at_set a.hand.own i m y z one) [
      | inl s ↦ elim (at_set a.hand.own i n y w two) [
        | inl t ↦ s.0 ∙ sym t.0
        | inr t ↦ absurd (another n w t.0 t.1 (sym same ∙ (ap (λ (o : Own). o.at) (sym s.1) ∙ same_at)))
      ]
      | inr s ↦ elim (at_set a.hand.own i n y w two) [
        | inl t ↦ absurd (another m z s.0 s.1 (same ∙ (ap (λ (o : Own). o.at) (sym t.1) ∙ same_at)))
        | inr t ↦ (kept.each id a mine lived).apart m n z w s.1 t.1 same
      ]
    ]

    own_others : y.tag ≡ x.tag → (z : Own) → Contains a.hand.own z → (w : Own) × Contains (set a.hand.own i y) w × (w.at ≡ z.at) × (w.tag ≡ z.tag)
    own_others same_tag z has =
        let (m, is) = at_from a.hand.own z has in
        dite (ℕ_discrete m i)
        (λ same.
        let one : x ≡ z = some-injective x z (sym there ∙ (ap (get_elem? a.hand.own) (sym same) ∙ is)) in
        (y, contains_at (set a.hand.own i y) i y (set_at a.hand.own i x y there), same_at ∙ ap (λ (o : Own). o.at) one, same_tag ∙ ap (λ (o : Own). o.tag) one))
        (λ ne. (z, contains_at (set a.hand.own i y) m z (set_else a.hand.own i m y ne ∙ is), refl, refl))

    abbrev after : Anatomy
    after = with_piece anatomy k q

    abbrev pub filling : Place → Doing
    filling place = record (doing_of a) { place = place; own = set a.hand.own i y }

    -- the state is kept with that block, at whatever place the actor is then
    pub fills_at : (place : Place) → TurnsTo a place → KeepsUp a.hand.place place → StandsRight shape after id (doing a (filling place)) place
        → KeptOn shape opened kept (record { words = words; cursors = state.cursors; actors = set state.actors id (record a { hand = record { place = place; own = set a.hand.own i y } }) })
    fills_at place turns up stands =
        stores shape opened state kept id a mine records k p q words store (filling place) turns up
        (claims_kept shape opened state kept id a mine records pieces (filling place) (claims_same anatomy.pieces k p q at_k refl same_at long) refl)
        refl refl refl stands own_holds own_apart

    -- the actor stays at its place, if the block is still of the type that it was
    pub fills : y.tag ≡ x.tag → KeptOn shape opened kept (record { words = words; cursors = state.cursors; actors = set state.actors id (record a { hand = record a.hand { own = set a.hand.own i y } }) })
    fills same_tag =
        let stays : Stays anatomy.pieces pieces = stays_put anatomy.pieces k id p q at_k refl refl tt tt in
        fills_at a.hand.place (turns_not a lived) (λ no. no)
        (stands_on shape anatomy after id a (doing a (filling a.hand.place))
        (grounds_along anatomy pieces anatomy.spare anatomy.corrupt anatomy.full anatomy.tail stays id (λ at ws.
        stands_beside anatomy.pieces k p q at_k at (some id) (plain ws) (λ same. true≢false (sym (ap (λ (piece : Piece). is_claimed piece.body) same)))))
        (record {
          saw = (refl, refl, refl, refl, refl);
          late = (refl, refl);
          names = λ known has. has;
          words = λ s has. has;
          seen = λ at word has. has;
          chain = λ at has. has;
          own = own_others same_tag;
          spent = λ is. absurd (lived (ap (λ (b : Actor). b.hand.place) is));
        })
        a.hand.place (kept.standing id a mine))

  -- ---- a word of a payload

  -- the words of a block with a longer payload
  filled_words : (x : Own) (index value : ℕ) → length x.payload ≤ index → 4 + index < x.size
      → own_words (record x { payload = stored x.payload index value }) ≡ set (own_words x) (4 + index) value
  filled_words x index value from to =
      let four : suc (suc (suc (suc index))) ≡ 4 + index = omega arith in
      ap (λ (l : List ℕ). x.size ∷ 0xC8799269 ∷ x.tag ∷ x.next ∷ l) (payload_stored x.payload (x.size - 4) index value from (omega (arith, to)))
      ∙ ap (λ (j : ℕ). set (own_words x) j value) four

  pub payload_kept : (at index value : ℕ) → Ready a (allocating_event (store_payload at index value)) → Keeps shape opened state kept id a mine records (allocating_event (store_payload at index value))
  payload_kept at index value (x, (has, unended), place, from, to) =
      let (i, there) = at_from a.hand.own x has in
      let fits = kept.each id a mine (has_lived i x there) in
      let is = all_at (HoldsOwn shape anatomy.pieces id) a.hand.own i x fits.own there in
      let y : Own = record x { payload = stored x.payload index value } in
      let zeros = length-replicate {A = ℕ} (x.size - 4 - length x.payload) 0 in
      let all = length-append x.payload (replicate (x.size - 4 - length x.payload) 0) in
      let made = length-replicate {A = ℕ} (index - length x.payload) 0 in
      let inner = length-append x.payload (replicate (index - length x.payload) 0) in
      let outer = length-append (x.payload ++ replicate (index - length x.payload) 0) (value ∷ []) in
      let changed : change_own at (λ own. record own { payload = stored own.payload index value }) a.hand.own ≡ set a.hand.own i y =
      change_one (λ (own : Own). own.at == at) (λ (own : Own). record own { payload = stored own.payload index value }) a.hand.own i x there
      (eq-eqb x.at at place) (λ j z here passes. fits.apart j i z x here there (eqb-true z.at at passes ∙ sym place)) in (
        subst (λ (s : ℕ × List Own). KeptOn shape opened kept (record {
          words = set state.words (s.0 + (4 + index)) value;
          cursors = state.cursors;
          actors = set state.actors id (record a { hand = record a.hand { own = s.1 } });
        })) (λ e. (place e, sym changed e))
            (fills i x y (4 + index) value there refl refl is.tagged (filled_words x index value from to)
            (let room = is.room in omega (arith, zeros, all, from, to, room)) (omega (arith, made, inner, outer, from, to)) is.ends refl),
        tt,
      )
