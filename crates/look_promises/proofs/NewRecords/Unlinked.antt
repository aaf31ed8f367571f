-- A record that is linked later: its next is 0 or the end of the list until then, since it is in somebody's hand, or was never claimed.
use Rattle.segment_invariant.proofs.Prelude.Std.{◌≡◌, ◌≢◌, ◌⊎◌, ℕ, ◌+◌, ◌-◌, ◌<◌, ◌≤◌, List, ◌∷◌, length, inl, inr, ⊎_elim, refl, sym, ap, subst, ◌∙◌, arith, none_in, replicate, length-replicate, slice_index, some, get_elem?, All, all_at, Contains, Contains-append_cases, contains_map, at_from, from_map, map-append}
use Rattle.segment_invariant.proofs.Prelude.Machine.{Actor, Own, Place, Spent, Ready, next, publishing_event, link, purse, State, Dimensions, word_at}
use Rattle.segment_invariant.proofs.Prelude.Invariant.{Anatomy, Body, plain, held, words_of, layout_of, Stands, StandsRight, HoldsOwn, Invariant}
use Rattle.std.proofs.lemmas.List.{get_or-replicate}
use Rattle.alloc_core.proofs.Layouts.{free_word, behind_shown}
use Rattle.segment_machine.specs.declared.place.Place.TheVariants as place
use Rattle.segment_machine.specs.Reached.{IsReached}
use Rattle.segment_invariant.proofs.Blocks.Pieces.{piece_word}
use Rattle.segment_promises.specs.Lists.{links_of}
use Rattle.look_promises.proofs.NewRecords.Hands.{handled, places, InHand, Handles, had, noted_had}
use Rattle.look_promises.proofs.NewRecords.Carried.{OfHand, IsCarried, linker_has}
use Rattle.look_promises.proofs.NewRecords.Linking.{linking}

-- ---- what nobody has in hand

-- an actor has no block at a word in hand
abbrev pub Lacks : ℕ → Place → List Own → Type 0
Lacks x p own = InHand x p (places own) → ⊥

-- an actor that has none in hand gets none, unless the words are taken
lacks_carried : (x : ℕ) → IsCarried x (Lacks x)
lacks_carried x = record {
  event_on = λ a event found ready free lacks has. ⊎_elim lacks free (had a x event found ready has);
  note_on = λ a note lacks has. lacks (noted_had a note x has);
  idle = λ has. ⊎_elim (λ here. here) (λ own. none_in x own) has;
  spent = λ has. ⊎_elim (λ here. here) (λ own. none_in x own) has;
  both = λ p q own more one other has. ⊎_elim
      (λ here. one (inl here))
      (λ all. ⊎_elim
      (λ mine. one (inr mine))
      (λ its. other (inr its))
      (Contains-append_cases (places own) (places more) x (subst (λ (list : List ℕ). Contains list x) (map-append (λ (own : Own). own.at) own more) all)))
      has;
}

-- an actor that links a block has it in hand
linker : (x : ℕ) (a : Actor) (tail : ℕ) → Ready a (publishing_event (link tail x)) → Handles a x
linker x a tail ready = inr (subst (Contains (places a.hand.own)) ready.4 (contains_map (λ (own : Own). own.at) a.hand.own ready.0 ready.3.0))

-- so what nobody has in hand, nobody links
pub lacking_unlinked : (shape : Dimensions) (opened : Anatomy) (start : State) (kept : Invariant shape opened start) (x : ℕ) → x < word_at start.words 7
    → All (OfHand (Lacks x)) start.actors → (state : State) (reached : IsReached opened.version start state)
    → Contains (links_of opened.version start state reached) x → ⊥
lacking_unlinked shape opened start kept x below lack state reached has =
    let links = linking opened.version start x state reached has in
    linker_has x (Lacks x) (lacks_carried x) shape opened start kept below lack state links (linker x links.step.at links.tail links.step.ready)

-- ---- the next of what somebody has in hand

-- the list ends at a next
abbrev pub IsEnd : ℕ → Type 0
IsEnd next = (next ≡ 0) ⊎ (next ≡ 12)

-- an actor is spent, or is not
pub spent_or_not : (p : Place) → (p ≡ Spent) ⊎ (p ≢ Spent)
spent_or_not place.Spent = inl refl
spent_or_not p = inr (λ e. cc e)

module _ (shape : Dimensions) (opened : Anatomy) (state : State) (kept : Invariant shape opened state) (x : ℕ) where
  abbrev pub next_word : ℕ
  next_word = word_at state.words (x + 3)

  -- nobody has claimed the words
  pub ends_unclaimed : word_at state.words 7 ≤ x → IsEnd next_word
  ends_unclaimed le =
      let free = free_word shape state.words (layout_of kept.anatomy) kept.shown in
      inl (behind_shown shape state.words (layout_of kept.anatomy) (x + 3) kept.shown (omega (arith, le, free)))

  -- a word of a block
  in_block : (at id : ℕ) (body : Body) → Stands kept.anatomy.pieces at (some id) body → 3 < length (words_of body) → at ≡ x
      → next_word ≡ slice_index (words_of body) 3
  in_block at id body (k, there) long here =
      ap (λ (n : ℕ). word_at state.words (n + 3)) (sym here)
      ∙ piece_word shape state.words kept.anatomy kept.shown k (record { at = at; owner = some id; body = body }) 3 there long

  -- an allocation has not come to it
  ends_allocating : (id : ℕ) (a : Actor) (p : Place) → StandsRight shape kept.anatomy id a p → handled p x → IsEnd next_word
  ends_allocating id a (place.Raised at size wanted) (placed, has) here =
      let five = placed.five in
      let long = length-replicate {A = ℕ} size 0 in
      inl (in_block at id (plain (replicate size 0)) has (omega (arith, five, long)) here ∙ get_or-replicate size 3 0 0 (omega (arith, five)))
  ends_allocating id a (place.Sized at size wanted) (placed, has) here =
      let five = placed.five in
      let long = length-replicate {A = ℕ} (size - 1) 0 in
      inl (in_block at id (plain (size ∷ replicate (size - 1) 0)) has (omega (arith, five, long)) here
      ∙ get_or-replicate (size - 1) 2 0 0 (omega (arith, five)))
  ends_allocating id a (place.Marked at size) (placed, has) here =
      let five = placed.five in
      let long = length-replicate {A = ℕ} (size - 2) 0 in
      inl (in_block at id (plain (size ∷ 0xC8799269 ∷ replicate (size - 2) 0)) has (omega (arith, five, long)) here
      ∙ get_or-replicate (size - 2) 1 0 0 (omega (arith, five)))
  ends_allocating id a p right here = absurd here

  -- its own block is not linked yet
  ends_own : (id : ℕ) (a : Actor) → get_elem? state.actors id ≡ some a → Contains (places a.hand.own) x → IsEnd next_word
  ends_own id a there has = ⊎_elim (gone) (mine) (spent_or_not a.hand.place)
    where
      gone : a.hand.place ≡ Spent → IsEnd next_word
      gone is =
          let purse_is : a ≡ purse a.units.share = subst (StandsRight shape kept.anatomy id a) is (kept.standing id a there) in
          absurd (none_in x (subst (λ (b : Actor). Contains (places b.hand.own) x) purse_is has))

      mine : a.hand.place ≢ Spent → IsEnd next_word
      mine lives =
          let (i, at) = at_from (places a.hand.own) x has in
          let (own, here, place) = from_map (λ (own : Own). own.at) a.hand.own i x at in
          let holds = all_at (HoldsOwn shape kept.anatomy.pieces id) a.hand.own i own (kept.each id a there lives).own here in
          let word : next_word ≡ own.next = in_block own.at id (held own) holds.stands (omega arith) place in
          ⊎_elim (λ none. inl (word ∙ none)) (λ end. inr (word ∙ end)) holds.ends

  pub ends_in_hand : (id : ℕ) (a : Actor) → get_elem? state.actors id ≡ some a → Handles a x → IsEnd next_word
  ends_in_hand id a there (inl here) = ends_allocating id a a.hand.place (kept.standing id a there) here
  ends_in_hand id a there (inr has) = ends_own id a there has
