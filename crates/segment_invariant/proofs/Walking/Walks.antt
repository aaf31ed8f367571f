-- Events that put nothing on the list: the tail is loaded and moved on, a next is loaded, and a link finds another record.
use Rattle.segment_invariant.proofs.Prelude.Std.{◌≡◌, ◌≢◌, ◌⊎◌, ℕ, zero, suc, ◌+◌, ◌<◌, ◌≤◌, ◌==◌, true, List, ◌++◌, length, set, get_or, All, inl, inr, refl, sym, ap, ◌∙◌, subst, arith, eq-eqb, false, Some, None, nat_le, IsPermutation, le-leb, and_from, length-map, All-weaker, some, none, get_elem?, at_map, rows, column, index_at, all_at}
use Rattle.segment_invariant.proofs.Prelude.Machine.{Dimensions, word_at, IsShown, Behind, is_reference, IsStop, IsLinked, IsPrefix, Actor, Claim, Own, Made, Sighting, Place, Spent, State, is_opener}
use Rattle.segment_invariant.proofs.Prelude.Invariant.{Body, histogram, sample, other, words_of, is_claimed, Piece, Listed, Anatomy, layout_of, order_of, free_of, claims_of, Stands, WasFixed, IsNoLater, Sees, WasMet, StandsAs, StandsRight, HoldsOwn, IsSetBy, StandStill, Invariant, KeptOn, IsAhead}
use Rattle.std.specs.Prelude as std
use Rattle.std.proofs.lemmas.Bool.{or_left, or_right}
use Rattle.alloc_core.proofs.Layouts.{length_shown}
use Rattle.segment_machine.specs.declared.actor.Made.TheVariants as made
use Rattle.segment_machine.specs.Calls.{IsReference}
use Rattle.segment_invariant.specs.Seen.{AreNoLater}
use Rattle.list_lemmas.proofs.Elements.{there_below}
use Rattle.segment_invariant.proofs.Blocks.Pieces.{piece_from, piece_ends, free_within}
use Rattle.segment_invariant.proofs.Frames.OneActor.{Doing, doing, doing_of, TurnsTo}
use Rattle.segment_invariant.proofs.Frames.Anatomies.{sees_along}
use Rattle.segment_invariant.proofs.Frames.GoesOn.{goes_on}
use Rattle.segment_invariant.proofs.Allocating.Claimers.{AllClaimedRight, stays_same, still_same}
use Rattle.segment_invariant.proofs.Frames.Growth.{reshaped, Stays, with_next, grows_not}
use Rattle.segment_invariant.proofs.Frames.GrowthOfActors.{SawMore}
use Rattle.segment_invariant.proofs.Frames.GrowthOfStates.{fits_on}
use Rattle.segment_invariant.proofs.Frames.Standing.{met_more}

-- ---- the stops of a kept list

-- a listed record is there as a claimed block without owner, whose fourth word is its next
pub listed_stands : (pieces : List Piece) (l : Listed) (given : std.Option Made) → StandsAs pieces l given
    → (body : Body) × Stands pieces l.reference none body × (is_claimed body ≡ true)
    × ((n : ℕ) → words_of (with_next body n) ≡ set (words_of body) 3 n)
listed_stands pieces l (Some (made.Histogram name spec)) s = (histogram s.0, s.1, refl, λ n. refl)
listed_stands pieces l (Some (made.Sample of value)) s = (sample s.0, s.1, refl, λ n. refl)
listed_stands pieces l None s = (other s.0 s.1 s.2 s.3, s.4, refl, λ n. refl)

module _ (shape : Dimensions) (opened : Anatomy) (state : State) (kept : Invariant shape opened state) where
  abbrev anatomy : Anatomy
  anatomy = kept.anatomy

  abbrev order : List ℕ
  order = order_of kept.anatomy

  -- a stop is the queue block, or such a block
  pub stop_stands : (at : ℕ) → IsStop order at → (at ≡ 12) ⊎ ((body : Body) × Stands anatomy.pieces at none body × (is_claimed body ≡ true)
      × ((n : ℕ) → words_of (with_next body n) ≡ set (words_of body) 3 n))
  stop_stands at (zero, le, is) = inl (sym is)
  stop_stands at (suc k, le, is) =
      let (l, there) = there_below anatomy.records k (omega (arith, le, length-map anatomy.records (λ (l : Listed). l.reference))) in
      let named : l.reference ≡ at = sym (index_at order k l.reference 0 (at_map (λ (l : Listed). l.reference) anatomy.records k l there)) ∙ is in
      let (body, stands, claimed, nexts) = listed_stands anatomy.pieces l l.made (all_at (λ l. StandsAs anatomy.pieces l l.made) anatomy.records k l kept.list.standing there) in
      inr (body, subst (λ (n : ℕ). Stands anatomy.pieces n none body) named stands, claimed, nexts)

  -- such a block ends within the words
  pub block_within : (at : ℕ) (body : Body) → Stands anatomy.pieces at none body → is_claimed body ≡ true
      → ((at ≡ 12) ⊎ (16 ≤ at)) × (5 ≤ length (words_of body)) × (at + length (words_of body) ≤ shape.size)
  block_within at body (k, there) claimed =
      let ends = piece_ends shape state.words anatomy kept.shown k _ there in
      let free = free_within shape state.words anatomy kept.shown in
      let five = (kept.blocks k _ there claimed).1 in
      (piece_from shape state.words anatomy kept.shown k _ there, five, omega (arith, ends, free))

  -- it is a reference that a list can have
  pub stop_reference : (at : ℕ) → IsStop order at → is_reference shape.size at ≡ true
  stop_reference at stop = elim (stop_stands at stop) [
    | inl queue ↦ or_left (at == 12) _ (eq-eqb at 12 queue)
    | inr stands ↦
        let (from, five, within) = block_within at stands.0 stands.1 stands.2 in
        elim from [
          | inl queue ↦ or_left (at == 12) _ (eq-eqb at 12 queue)
          | inr least ↦ or_right (at == 12) _
              (and_from (nat_le 16 at) _ (le-leb 16 at least) (le-leb (at + 5) shape.size (omega (arith, five, within))))
        ]
  ]

  -- its next lies within the words
  pub stop_within : (at : ℕ) → IsStop order at → at + 3 < length state.words
  stop_within at stop =
      let size = length_shown shape state.words (layout_of anatomy) kept.shown in
      let wide = kept.shown.sound.lawful.wide in
      let one = kept.shown.sound.lawful.one in
      elim (stop_stands at stop) [
        | inl queue ↦ omega (arith, queue, size, wide, one)
        | inr stands ↦ let (from, five, within) = block_within at stands.0 stands.1 stands.2 in omega (arith, five, within, size)
      ]

  -- the word of the tail
  pub tail_word : word_at state.words 8 ≡ anatomy.tail
  tail_word = ap (λ (ws : List ℕ). get_or ws 8 0) kept.shown.shows

  -- ---- an actor that sees more of the list

  module _ (id : ℕ) (a : Actor) (mine : get_elem? state.actors id ≡ some a) (records : is_opener a.role ≡ false) where
    -- its place, how often its link came too late, its blocks, the tail, the chain, the ends and the words that it saw
    abbrev pub walking : Place → ℕ → List Own → List ℕ → List ℕ → List ℕ → List Sighting → Doing
    walking place beaten own tails chain ends words =
        record (doing_of a) { place = place; beaten = beaten; own = own; seen_tails = tails; seen_chain = chain; seen_ends = ends; seen_words = words }

    -- a stop is a reference that it may find
    pub reference_is : (at : ℕ) → a.hand.place ≢ Spent → IsStop order at → IsReference a at
    reference_is at lives stop =
        subst (λ (s : Dimensions). is_reference s.size at ≡ true) (sym (kept.each id a mine lives).shaped) (stop_reference at stop)

    -- the actor moves on like this, if the words of the header but the tail stay, and all blocks but its own
    pub walks_on : (place : Place) (beaten : ℕ) (own : List Own) (tails chain ends : List ℕ) (words : List Sighting) → TurnsTo a place
        → SawMore a (walking place beaten own tails chain ends words)
        → (pieces : List Piece) (present : ℕ) (words' : List ℕ)
        → Stays anatomy.pieces pieces
        → ((who at : ℕ) (body : Body) → who ≢ id → Stands anatomy.pieces at (some who) body → Stands pieces at (some who) body)
        → StandStill anatomy.pieces pieces
        → AllClaimedRight pieces
        → claims_of pieces ≡ claims_of anatomy.pieces
        → free_of (reshaped anatomy pieces anatomy.spare anatomy.corrupt anatomy.full present) ≡ free_of anatomy
        → IsShown shape words' (layout_of (reshaped anatomy pieces anatomy.spare anatomy.corrupt anatomy.full present))
        → IsLinked words' order
        → IsStop order present
        → ((seen : ℕ) → IsNoLater order seen anatomy.tail → IsNoLater order seen present)
        → IsAhead order present state.cursors place beaten a.done.lost
        → StandsRight shape (reshaped anatomy pieces anatomy.spare anatomy.corrupt anatomy.full present) id (doing a (walking place beaten own tails chain ends words)) place
        → IsPrefix chain order
        → AreNoLater order tails present
        → All (WasFixed pieces) words
        → All (HoldsOwn shape pieces id) own
        → ((i j : ℕ) (x y : Own) → get_elem? own i ≡ some x → get_elem? own j ≡ some y → x.at ≡ y.at → i ≡ j)
        → KeptOn shape opened kept (record { words = words'; cursors = state.cursors; actors = set state.actors id (doing a (walking place beaten own tails chain ends words)) })
    walks_on place beaten own tails chain ends words turns more pieces present words' stays others still blocks claims free shown linked stop later ahead stands prefix no_later fixed holds apart =
        let d : Doing = walking place beaten own tails chain ends words in
        let new : Anatomy = reshaped anatomy pieces anatomy.spare anatomy.corrupt anatomy.full present in
        let fits = kept.each id a mine turns.lived in
        let old_sees : Sees new state.cursors a.seen =
        sees_along anatomy pieces anatomy.spare anatomy.corrupt anatomy.full present stays state.cursors a.seen
        (subst (Behind a.seen.free) (sym free) fits.sees.free) (All-weaker (λ place. IsNoLater order place anatomy.tail) (λ place. IsNoLater order place present) later a.seen.tails fits.sees.tails) fits.sees in
        let sees : Sees new state.cursors (doing a d).seen = record {
          free = old_sees.free;
          walked = prefix;
          tails = no_later;
          singles = old_sees.singles;
          counters = old_sees.counters;
          in_use = old_sees.in_use;
          met = All-weaker (WasMet pieces a.seen) (WasMet pieces (doing a d).seen) (λ s. met_more pieces a.seen (doing a d).seen more.chain more.words s) a.seen.counts old_sees.met;
          fixed = fixed;
          shared = old_sees.shared;
        } in
        let on = fits_on shape opened state kept new (λ at body. ⊥)
        (grows_not anatomy pieces anatomy.spare anatomy.corrupt anatomy.full present stays) id a d mine turns.lived more sees ahead holds apart fits.owes in
        goes_on shape opened state kept id a mine records d turns pieces anatomy.spare anatomy.corrupt anatomy.full present words'
        (record {
          shown = shown;
          stays = stays;
          others = others;
          still = still;
          blocks = blocks;
          linked = linked;
          published = refl;
          owed = refl;
          claims = subst (λ (p : List Claim × List Claim). IsPermutation p.0 (claims_of opened.pieces ++ p.1))
              (λ i. (sym claims i, sym (rows (λ (b : Actor). b.done.claimed) state.actors id a (doing a d) mine refl) i)) kept.claims;
          free = λ seen behind_it. subst (Behind seen) (sym free) behind_it;
          tail = stop;
          tail_later = later;
          corrupt = subst (IsSetBy anatomy.corrupt opened.corrupt) (sym (column (λ (b : Actor). b.done.spoiled) state.actors id a (doing a d) mine refl)) kept.corrupt;
          full = subst (IsSetBy anatomy.full opened.full) (sym (column (λ (b : Actor). b.done.filled) state.actors id a (doing a d) mine refl)) kept.full;
          flagged = λ set. set;
          filled = λ set. set;
          stands = stands;
          sees = sees;
          ahead = ahead;
          own = holds;
          apart = apart;
          calls = on.calls;
          looks = on.looks records;
        })

    -- if no block changes
    pub looks_on : (place : Place) (beaten : ℕ) (tails chain ends : List ℕ) (words : List Sighting) → TurnsTo a place
        → SawMore a (walking place beaten a.hand.own tails chain ends words)
        → (present : ℕ) (words' : List ℕ)
        → IsShown shape words' (layout_of (record anatomy { tail = present }))
        → IsLinked words' order
        → IsStop order present
        → ((seen : ℕ) → IsNoLater order seen anatomy.tail → IsNoLater order seen present)
        → IsAhead order present state.cursors place beaten a.done.lost
        → StandsRight shape (record anatomy { tail = present }) id (doing a (walking place beaten a.hand.own tails chain ends words)) place
        → IsPrefix chain order
        → AreNoLater order tails present
        → All (WasFixed anatomy.pieces) words
        → KeptOn shape opened kept (record { words = words'; cursors = state.cursors; actors = set state.actors id (doing a (walking place beaten a.hand.own tails chain ends words)) })
    looks_on place beaten tails chain ends words turns more present words' shown linked stop later ahead stands prefix no_later fixed =
        let fits = kept.each id a mine turns.lived in
        walks_on place beaten a.hand.own tails chain ends words turns more anatomy.pieces present words' (stays_same anatomy.pieces)
        (λ who at body ne has. has) (still_same anatomy.pieces) kept.blocks refl refl shown linked stop later ahead stands prefix no_later fixed fits.own fits.apart
