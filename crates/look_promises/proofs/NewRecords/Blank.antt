-- Before a record is on the list its counts reference, its single word, its marks, its sums and its counts are 0: it is linked with these,
-- and what was stored of a block stays.
use Rattle.segment_invariant.proofs.Prelude.Std.{◌≡◌, ◌≢◌, ◌⊎◌, ℕ, ◌+◌, ◌-◌, ◌<◌, ◌≤◌, Bool, List, [], ◌∷◌, ◌++◌, length, inl, inr, ⊎_elim, refl, sym, ap, subst, ◌∙◌, arith, if◌then◌else◌, eq-eqb, slice_index, get_or_append_left, replicate, length-append, length-replicate, some, none, some-ne-none, some-injective, get_elem?, All, all_at, All-contains, All-weaker, Contains, Contains-append_right, Contains-push, All-nil, at_from, index_at, below_length}
use Rattle.segment_invariant.proofs.Prelude.Machine.{Actor, Own, Place, Spent, purse, Event, publishing_event, link, State, Dimensions, word_at, head_of}
use Rattle.segment_invariant.proofs.Prelude.Invariant.{Anatomy, Piece, Body, queue, plain, held, histogram, counts, sample, other, words_of, layout_of, order_of, Stands, StandsRight, HoldsOwn, Invariant}
use Rattle.std.proofs.Math.Decide.{dec_lt}
use Rattle.std.proofs.lemmas.List.{get_or-append_right, get_or-set_other, get_or-replicate}
use Rattle.alloc_core.proofs.Layouts.{free_word, length_shown, behind_shown}
use Rattle.alloc_core.proofs.Owners.{set_at}
use Rattle.bucket_ranges.proofs.Walks.{IsListed-from_end, listed_agree}
use Rattle.segment_machine.specs.declared.place.Place.TheVariants.{TailLoaded}
use Rattle.segment_machine.specs.declared.place.Place.TheVariants as place
use Rattle.segment_machine.specs.Allocating.{size_at}
use Rattle.list_lemmas.proofs.Elements.{all_from}
use Rattle.segment_machine.specs.Reached.{IsReached, stepped}
use Rattle.segment_machine.specs.State.{IsStep, memory}
use Rattle.segment_invariant.proofs.Blocks.Pieces.{piece_word, one_index}
use Rattle.segment_invariant.proofs.Notes.Announcements.{with_actor, notes_follow}
use Rattle.segment_invariant.proofs.Walking.Walks.{stop_stands}
use Rattle.segment_promises.specs.Lists.{links_of}
use Rattle.segment_promises.proofs.Chains.{chains_are_links}
use Rattle.segment_promises.proofs.Reached.{states_rise, reached_states_follow}
use Rattle.segment_promises.proofs.Readings.Lists.{is_chain}
use Rattle.look_promises.proofs.NewRecords.Linking.{LinksAt}
use Rattle.look_promises.proofs.Moments.Listed.{listed_in}
use Rattle.look_promises.proofs.NewRecords.Hands.{handled}
use Rattle.look_promises.proofs.NewRecords.Carried.{OfHand, all_carried, at_event, linker_has}
use Rattle.look_promises.proofs.NewRecords.Unlinked.{spent_or_not}
use Rattle.look_promises.proofs.NewRecords.Payloads.{HasStored, Stores, stores_carried}
use Rattle.look_promises.proofs.Moments.Unchanged.{IsOfList, IsUnchanging, list_claimed, list_long, goes_unchanged}

module _ (shape : Dimensions) (opened : Anatomy) (start state : State) (kept : Invariant shape opened start) (x : ℕ) (links : LinksAt opened.version start x state) where
  abbrev a : Actor
  a = links.step.at

  abbrev own : Own
  own = links.step.ready.0

  -- ---- the state in which it is linked

  kept_old : Invariant shape opened links.old
  kept_old = reached_states_follow shape opened start links.old kept links.before

  abbrev mid : State
  mid = with_actor links.old links.id a

  pub kept_mid : Invariant shape opened mid
  kept_mid = (notes_follow shape opened links.step.before links.old links.id links.step.actor a kept_old links.step.there links.step.is_recorder links.step.notes_before).0.0

  stands_a : get_elem? mid.actors links.id ≡ some a
  stands_a = set_at links.old.actors links.id links.step.actor a links.step.there

  placed : a.hand.place ≡ TailLoaded links.tail
  placed = links.step.ready.2

  pub holds : HoldsOwn shape kept_mid.anatomy.pieces links.id own
  holds = All-contains (HoldsOwn shape kept_mid.anatomy.pieces links.id) a.hand.own own
      (kept_mid.each links.id a stands_a (λ e. cc (sym placed ∙ e))).own links.step.ready.3.0

  -- a word of the block then
  own_word : (i : ℕ) → i < 4 → word_at links.old.words (x + i) ≡ slice_index (own.size ∷ 0xC8799269 ∷ own.tag ∷ own.next ∷ []) i
  own_word i lt =
      let (k, there) = holds.stands in
      ap (λ (n : ℕ). word_at links.old.words (n + i)) (sym links.step.ready.4)
      ∙ (piece_word shape links.old.words kept_mid.anatomy kept_mid.shown k (record { at = own.at; owner = some links.id; body = held own }) i there (omega (arith, lt))
      ∙ get_or_append_left (own.size ∷ 0xC8799269 ∷ own.tag ∷ own.next ∷ []) _ 0 i (omega (arith, lt)))

  -- the link changes none of its first words
  from : 16 ≤ x
  from = let least = holds.placed.from in let here = links.step.ready.4 in omega (arith, least, here)

  not_tail : (i : ℕ) → i < 3 → x + i ≢ links.tail + 3
  not_tail i lt same =
      let (chain_has, (k, least, le, is)) = subst (StandsRight shape kept_mid.anatomy links.id a) placed (kept_mid.standing links.id a stands_a) in
      ⊎_elim
      (λ queue. let low = from in omega (arith, queue, same, low))
      (λ t.
      let (body, (j, there), claimed, nexts) = t in
      let (m, here) = holds.stands in
      let five = (kept_mid.blocks j (record { at = links.tail; owner = none; body = body }) there claimed).1 in
      let place = links.step.ready.4 in
      let index = one_index shape links.old.words kept_mid.anatomy kept_mid.shown m j (record { at = own.at; owner = some links.id; body = held own })
      (record { at = links.tail; owner = none; body = body }) i 3 here there (omega (arith, lt)) (omega (arith, five)) (omega (arith, same, place)) in
      some-ne-none links.id (ap (λ (q : Piece). q.owner) (some-injective _ _ (sym here ∙ (ap (get_elem? kept_mid.anatomy.pieces) index ∙ there)))))
      (stop_stands shape opened mid kept_mid links.tail (k, le, is))

  event : Event
  event = publishing_event (link links.tail x)

  reached_new : IsReached opened.version start links.new
  reached_new = stepped links.old links.new links.id (publishing_event (link links.tail x)) links.before links.step

  kept_new : Invariant shape opened links.new
  kept_new = reached_states_follow shape opened start links.new kept reached_new

  within_old : (i : ℕ) → i < 3 → x + i < length links.old.words
  within_old i lt =
      let long = length_shown shape links.old.words (layout_of kept_old.anatomy) kept_old.shown in
      let ends = holds.placed.within in
      let five = holds.placed.five in
      let place = links.step.ready.4 in
      omega (arith, lt, long, ends, five, place)

  same_word : (i : ℕ) → i < 3 → word_at links.new.words (x + i) ≡ word_at links.old.words (x + i)
  same_word i lt =
      let size = links.step.size in
      let below = within_old i lt in
      sym (get_or_append_left links.new.words links.new.cursors 0 (x + i) (omega (arith, size, below)))
      ∙ (ap (λ (m : List ℕ). word_at m (x + i)) links.step.memory_is
      ∙ (get_or-set_other (memory links.old) (links.tail + 3) (x + i) _ 0 (not_tail i lt)
      ∙ get_or_append_left links.old.words links.old.cursors 0 (x + i) below))

  -- ---- the state after it, and later

  on_list : Contains (order_of kept_new.anatomy) x
  unfolding reached_new
  on_list =
      let earlier = links_of opened.version start links.old links.before in
      let chain = chains_are_links shape opened start links.new (order_of kept.anatomy) kept reached_new (is_chain shape opened start kept) in
      let new_chain = is_chain shape opened links.new kept_new in
      let same = listed_agree links.new.words (head_of links.new.words) (order_of kept_new.anatomy) _
      (IsListed-from_end links.new.words (head_of links.new.words) (order_of kept_new.anatomy) new_chain.walk (eq-eqb _ 12 new_chain.ended))
      (IsListed-from_end links.new.words (head_of links.new.words) _ chain.walk (eq-eqb _ 12 chain.ended)) in
      subst (λ (list : List ℕ). Contains list x) (sym same)
      (Contains-append_right (order_of kept.anatomy) _ x
      (subst (λ (b : Bool). Contains (if b then earlier ++ x ∷ [] else earlier) x) (sym (eq-eqb _ 12 links.ends)) (Contains-push earlier x)))

  listed_new : (body : Body) × Stands kept_new.anatomy.pieces x none body × IsOfList body
  listed_new =
      let (k, there) = at_from (order_of kept_new.anatomy) x on_list in
      let (body, stands, list) = listed_in shape opened links.new kept_new k (below_length (order_of kept_new.anatomy) k x there) in
      (body, subst (λ (n : ℕ). Stands kept_new.anatomy.pieces n none body) (index_at (order_of kept_new.anatomy) k x 0 there) stands, list)

  four : (body : Body) → IsOfList body → 4 ≤ length (words_of body)
  four (histogram r) list = omega arith
  four (sample s) list = omega arith
  four (other size tag next payload) list = omega arith
  four (queue next) list = absurd list
  four (plain words) list = absurd list
  four (held block) list = absurd list
  four (counts c) list = absurd list

  first_three : (body : Body) (i : ℕ) → IsOfList body → i < 3 → IsUnchanging body i
  first_three (histogram r) i list lt = inl lt
  first_three (sample s) i list lt = inl lt
  first_three (other size tag next payload) i list lt = inl lt
  first_three (queue next) i list lt = absurd list
  first_three (plain words) i list lt = absurd list
  first_three (held block) i list lt = absurd list
  first_three (counts c) i list lt = absurd list

  -- its size and its type are what its maker had in hand
  pub word_later : (i : ℕ) → i < 3 → word_at state.words (x + i) ≡ slice_index (own.size ∷ 0xC8799269 ∷ own.tag ∷ own.next ∷ []) i
  word_later i lt =
      let (body, (k, there), list) = listed_new in
      let (next, rises, sums) = states_rise shape opened links.new state kept_new links.behind in
      let (then_is, (m, here), goes) = rises.goes x body (list_claimed body list) (k, there) in
      let long = four body list in
      let same_long = list_long kept_new.anatomy.version body then_is list goes in
      piece_word shape state.words next.anatomy next.shown m (record { at = x; owner = none; body = then_is }) i here (omega (arith, lt, long, same_long))
      ∙ (goes_unchanged kept_new.anatomy.version body then_is i goes (first_three body i list lt)
      ∙ (sym (piece_word shape links.new.words kept_new.anatomy kept_new.shown k (record { at = x; owner = none; body = body }) i there (omega (arith, lt, long)))
      ∙ (same_word i lt ∙ own_word i (omega (arith, lt)))))

-- ---- before it is linked

module _ (shape : Dimensions) (opened : Anatomy) (start : State) (kept : Invariant shape opened start) (x p v : ℕ) (some_word : v ≢ 0)
    (is : word_at start.words (x + (4 + p)) ≡ v) where
  -- a word of words that are 0 would be 0
  never : word_at start.words (x + (4 + p)) ≡ 0 → ⊥
  never none_there = some_word (sym is ∙ none_there)

  claimed_before : x < word_at start.words 7
  claimed_before = elim (dec_lt x (word_at start.words 7)) [
    | yes below ↦ below
    | no far ↦
        let free = free_word shape start.words (layout_of kept.anatomy) kept.shown in
        absurd (never (behind_shown shape start.words (layout_of kept.anatomy) (x + (4 + p)) kept.shown (omega (arith, far, free))))
  ]

  -- a word of somebody's block at the place
  in_block : (at id : ℕ) (body : Body) → Stands kept.anatomy.pieces at (some id) body → 4 + p < length (words_of body) → at ≡ x
      → word_at start.words (x + (4 + p)) ≡ slice_index (words_of body) (4 + p)
  in_block at id body (k, there) long here =
      ap (λ (n : ℕ). word_at start.words (n + (4 + p))) (sym here)
      ∙ piece_word shape start.words kept.anatomy kept.shown k (record { at = at; owner = some id; body = body }) (4 + p) there long

  -- words of which only the first were stored
  raw_short : (id at size k : ℕ) (front : List ℕ) → length front ≤ 4 → k ≡ size - length front → length front ≤ size
      → Stands kept.anatomy.pieces at (some id) (plain (front ++ replicate {A = ℕ} k 0)) → at ≡ x → size ≤ 4 + p
  raw_short id at size k front few rest fits has here = elim (dec_lt (4 + p) size) [
    | yes long ↦
        let all = length-append front (replicate {A = ℕ} k 0) in
        let zeros = length-replicate {A = ℕ} k 0 in
        absurd (never (in_block at id (plain (front ++ replicate {A = ℕ} k 0)) has (omega (arith, long, all, zeros, rest, fits)) here
        ∙ (get_or-append_right front (replicate {A = ℕ} k 0) (length front) (4 + p) 0 refl (omega (arith, few))
        ∙ get_or-replicate k (4 + p - length front) 0 0 (omega (arith, long, rest, few)))))
    | no short ↦ omega (arith, short)
  ]

  -- of a block whose header is being stored
  short_place : (id : ℕ) (b : Actor) (q : Place) → StandsRight shape kept.anatomy id b q → handled q x → size_at q ≤ 4 + p
  short_place id b (place.Raised at size wanted) (placed, has) here = raw_short id at size size [] (omega arith) (omega arith) (omega arith) has here
  short_place id b (place.Sized at size wanted) (placed, has) here =
      let five = placed.five in raw_short id at size (size - 1) (size ∷ []) (omega arith) (omega arith) (omega (arith, five)) has here
  short_place id b (place.Marked at size) (placed, has) here =
      let five = placed.five in raw_short id at size (size - 2) (size ∷ 0xC8799269 ∷ []) (omega arith) (omega arith) (omega (arith, five)) has here
  short_place id b q right here = absurd here

  -- of a block in somebody's hand
  stored_own : (id : ℕ) (o : Own) → HoldsOwn shape kept.anatomy.pieces id o → HasStored x p v some_word o
  stored_own id o holds here = elim (dec_lt (4 + p) o.size) [
    | no short ↦ inl (omega (arith, short))
    | yes long ↦
        let room = holds.room in
        let zeros : List ℕ = replicate {A = ℕ} (o.size - 4 - length o.payload) 0 in
        let many = length-replicate {A = ℕ} (o.size - 4 - length o.payload) 0 in
        let all = length-append o.payload zeros in
        let word : word_at start.words (x + (4 + p)) ≡ slice_index (o.payload ++ zeros) p =
        in_block o.at id (held o) holds.stands (omega (arith, long, room, many, all)) here
        ∙ get_or-append_right (o.size ∷ 0xC8799269 ∷ o.tag ∷ o.next ∷ []) (o.payload ++ zeros) 4 (4 + p) 0 refl (omega arith)
        ∙ ap (slice_index (o.payload ++ zeros)) (omega arith) in
        elim (dec_lt p (length o.payload)) [
          | yes inside ↦ inr (sym (get_or_append_left o.payload zeros 0 p inside) ∙ (sym word ∙ is))
          | no behind ↦ absurd (never (word ∙ (get_or-append_right o.payload zeros (length o.payload) p 0 refl (omega (arith, behind))
              ∙ get_or-replicate (o.size - 4 - length o.payload) (p - length o.payload) 0 0 (omega (arith, long, behind, room)))))
        ]
  ]

  stores : (id : ℕ) (b : Actor) → get_elem? start.actors id ≡ some b → OfHand (Stores x p v some_word) b
  stores id b there = (short_place id b b.hand.place (kept.standing id b there), ⊎_elim gone lives (spent_or_not b.hand.place))
    where
      gone : b.hand.place ≡ Spent → All (HasStored x p v some_word) b.hand.own
      gone spent =
          let purse_is : b ≡ purse b.units.share = subst (StandsRight shape kept.anatomy id b) spent (kept.standing id b there) in
          subst (λ (c : Actor). All (HasStored x p v some_word) c.hand.own) (sym purse_is) (All-nil (HasStored x p v some_word))

      lives : b.hand.place ≢ Spent → All (HasStored x p v some_word) b.hand.own
      lives ne = All-weaker (HoldsOwn shape kept.anatomy.pieces id) (HasStored x p v some_word) (stored_own id) b.hand.own (kept.each id b there ne).own

  -- so the block is linked with the word, or has no room for it
  pub linked_with : (state : State) (links : LinksAt opened.version start x state)
      → (links.step.ready.0.size ≤ 4 + p) ⊎ (slice_index links.step.ready.0.payload p ≡ v)
  linked_with state links =
      let hand = linker_has x (Stores x p v some_word) (stores_carried x p v some_word) shape opened start kept claimed_before
      (all_from (OfHand (Stores x p v some_word)) start.actors stores) state links in
      All-contains (HasStored x p v some_word) links.step.at.hand.own links.step.ready.0 hand.1 links.step.ready.3.0 links.step.ready.4

  -- and an actor that does a step later has it so in hand at its event
  pub hand_at : (old new : State) (id : ℕ) (event : Event) → IsReached opened.version start old → (step : IsStep opened.version old id event new)
      → OfHand (Stores x p v some_word) step.at
  hand_at old new id event before step =
      let all = all_carried x (Stores x p v some_word) (stores_carried x p v some_word) shape opened start kept claimed_before
      (all_from (OfHand (Stores x p v some_word)) start.actors stores) old before in
      at_event x (Stores x p v some_word) (stores_carried x p v some_word) shape opened start kept claimed_before
      (all_from (OfHand (Stores x p v some_word)) start.actors stores) old new id event step
      (all_at (OfHand (Stores x p v some_word)) old.actors id step.actor all step.there)
