-- The list grows at its end, and by links alone. What shows it is an opener that has walked along the whole list before the event: what
-- an actor has walked stays the front of the list.
use Rattle.segment_invariant.proofs.Prelude.Std.{◌≡◌, ◌≢◌, ◌⊎◌, ℕ, ◌+◌, ◌≤◌, ◌==◌, Bool, true, false, List, [], ◌∷◌, ◌++◌, map, length, set, inl, inr, refl, sym, ap, ◌∙◌, subst, subst₂, arith, length-append, eq-eqb, slice_index, Some, None, if◌then◌else◌, Option, append-nil, length-map, eqb-true, some, get_elem?, set_else, set_here, sum_beside, below_length}
use Rattle.segment_invariant.proofs.Prelude.Machine.{Dimensions, word_at, head_of, stops, IsStop, IsChain, IsPrefix, Actor, Own, Made, all_published, is_opener, Event, Ready, next, allocating_event, publishing_event, walking_event, counting_event, taking_event, packing_event, load_flags, load_free, exchange_free, store_size, store_cookie, store_type, store_payload, set_corrupt, set_full, store_own_next, load_tail, link, move_tail, after_link, load_next, load_published, load_counts, add_count, add_sum, load_count, raise_mark, load_sum, swap_sum_mark, load_redundant, raise_single_mark, load_single, pack, mount_counts, purge_block, disable, add_moved, after_pack, after_mount, after_disable, State}
use Rattle.segment_invariant.proofs.Prelude.Invariant.{Anatomy, Listed, listed, order_of, StandsRight, Invariant, found_at}
use Rattle.std.proofs.lemmas.List.Concat.{length-flat_map}
use Rattle.std.proofs.lemmas.List.Sorted.{length_permutation}
use Rattle.alloc_core.proofs.Owners.{set_at}
use Rattle.list_core.specs.Chain.{AreNeighbours}
use Rattle.list_core.proofs.Chains.{one_place, last_stop}
use Rattle.segment_machine.specs.declared.place.Place.TheVariants.{Linked}
use Rattle.segment_machine.specs.Event.{after, cursor_event}
use Rattle.segment_machine.specs.Allocating.{after_free}
use Rattle.segment_machine.specs.Publishing.{own_at, published_as}
use Rattle.segment_machine.specs.Counting.{add_redundant}
use Rattle.segment_machine.specs.Cursors.{load_cursor, move_cursor, after_cursor}
use Rattle.segment_machine.specs.State.{memory}
use Rattle.segment_invariant.specs.Keeps.{happened}
use Rattle.segment_invariant.proofs.Events.{events_keep}
use Rattle.segment_invariant.proofs.Frames.Ahead.{reached_stop}
use Rattle.segment_invariant.proofs.Frames.GoesOn.{not_opener, found_word}
use Rattle.segment_invariant.proofs.Frames.Growth.{stop_at}
use Rattle.segment_invariant.proofs.Notes.Announcements.{with_actor, notes_follow}
use Rattle.segment_invariant.proofs.Walking.Walks.{stop_within}
use Rattle.segment_promises.specs.Lists.{chain_behind, LinksAppend}
use Rattle.segment_promises.proofs.Lists.{chain_is}
use Rattle.segment_promises.proofs.Readings.Lists.{is_chain}
use Rattle.segment_promises.proofs.Steps.{words_of_memory}
use Rattle.segment_promises.proofs.Walkers.{opener, walker, beside, lives, stands_first, walker_kept}

-- ---- what an event publishes

-- what an event that found a number adds to the chain: a link's record, if the link succeeded
abbrev gain : Event → ℕ → List ℕ
gain event found = chain_behind event found []

-- what is published is one record at most
one_at_most : (own : Option Own) (at : ℕ) → length (published_as own at) ≤ 1
one_at_most None at = omega arith
one_at_most (Some own) at = by_made own.made
  where
    by_made : (made : Option Made) → length (published_as (Some (record own { made = made })) at) ≤ 1
    by_made None = omega arith
    by_made (Some made) = omega arith

module _ (a : Actor) where
  abbrev Grows : Actor → List ℕ → Type 0
  Grows b more = length b.done.published ≤ length a.done.published + length more

  same : length a.done.published ≤ length a.done.published + 0
  same = omega arith

  freed : (b : Bool) (old new wanted found : ℕ) → Grows (after_free b a old new wanted found) []
  freed true old new wanted found = same
  freed false old new wanted found = same

  linked : (b : Bool) (tail at found : ℕ) → Grows (after_link b a tail at found) (if b then at ∷ [] else [])
  linked true tail at found =
      let one = one_at_most (own_at a.hand.own at) at in
      let long = length-append a.done.published (published_as (own_at a.hand.own at) at) in
      omega (arith, one, long)
  linked false tail at found = same

  packed : (b : Bool) (histogram new found : ℕ) → Grows (after_pack b a histogram new found) []
  packed true histogram new found = same
  packed false histogram new found = same

  mounted : (b : Bool) (histogram at found : ℕ) → Grows (after_mount b a histogram at found) []
  mounted true histogram at found = same
  mounted false histogram at found = same

  disabled : (b : Bool) (histogram old found : ℕ) → Grows (after_disable b a histogram old found) []
  disabled true histogram old found = same
  disabled false histogram old found = same

  gave : (b : Bool) (cursor new found : ℕ) → Grows (after_cursor b a cursor new found) []
  gave true cursor new found = same
  gave false cursor new found = same

  publishes : (event : Event) (found : ℕ) → Grows (next a event found) (gain event found)
  publishes (allocating_event load_flags) found = same
  publishes (allocating_event load_free) found = same
  publishes (allocating_event (exchange_free old new wanted)) found = freed (found == old) old new wanted found
  publishes (allocating_event (store_size at size)) found = same
  publishes (allocating_event (store_cookie at cookie)) found = same
  publishes (allocating_event (store_type at tag)) found = same
  publishes (allocating_event (store_payload at index value)) found = same
  publishes (allocating_event set_corrupt) found = same
  publishes (allocating_event (set_full wanted)) found = same
  publishes (publishing_event (store_own_next at)) found = same
  publishes (publishing_event load_tail) found = same
  publishes (publishing_event (link tail at)) found = linked (found == 12) tail at found
  publishes (publishing_event (move_tail old new)) found = same
  publishes (walking_event (load_next at)) found = same
  publishes (walking_event (load_published at index)) found = same
  publishes (counting_event (load_counts histogram)) found = same
  publishes (counting_event (add_count at units)) found = same
  publishes (counting_event (add_sum histogram amount)) found = same
  publishes (counting_event (add_redundant histogram units)) found = same
  publishes (taking_event (load_count at)) found = same
  publishes (taking_event (raise_mark at least)) found = same
  publishes (taking_event (load_sum histogram)) found = same
  publishes (taking_event (swap_sum_mark histogram sum)) found = same
  publishes (taking_event (load_redundant histogram)) found = same
  publishes (taking_event (raise_single_mark histogram least)) found = same
  publishes (packing_event (load_single histogram)) found = same
  publishes (packing_event (pack histogram old new)) found = packed (found == old) histogram new found
  publishes (packing_event (mount_counts histogram at)) found = mounted (found == 0) histogram at found
  publishes (packing_event (purge_block at)) found = same
  publishes (packing_event (disable histogram old)) found = disabled (found == old) histogram old found
  publishes (packing_event (add_moved counts bucket units)) found = same
  publishes (cursor_event (load_cursor cursor)) found = same
  publishes (cursor_event (move_cursor cursor old new)) found = gave (found == old) cursor new found

-- an event is a link that succeeds, or leaves the chain unchanged
pub links_or_not : (event : Event) (found : ℕ) → ((tail at : ℕ) × (event ≡ publishing_event (link tail at)) × (found ≡ 12))
    ⊎ ((chain : List ℕ) → chain_behind event found chain ≡ chain)
links_or_not (publishing_event (link tail at)) found = by_test (found == 12) refl
  where
    by_test : (b : Bool) → (found == 12) ≡ b → ((from to : ℕ) × (publishing_event (link tail at) ≡ publishing_event (link from to)) × (found ≡ 12))
        ⊎ ((chain : List ℕ) → (if found == 12 then chain ++ at ∷ [] else chain) ≡ chain)
    by_test true is = inl (tail, at, refl, eqb-true found 12 is)
    by_test false is = inr (λ chain. ap (λ (b : Bool). if b then chain ++ at ∷ [] else chain) is)
links_or_not (publishing_event (store_own_next at)) found = inr (λ chain. refl)
links_or_not (publishing_event load_tail) found = inr (λ chain. refl)
links_or_not (publishing_event (move_tail old new)) found = inr (λ chain. refl)
links_or_not (allocating_event event) found = inr (λ chain. refl)
links_or_not (walking_event event) found = inr (λ chain. refl)
links_or_not (counting_event event) found = inr (λ chain. refl)
links_or_not (packing_event event) found = inr (λ chain. refl)
links_or_not (taking_event event) found = inr (λ chain. refl)
links_or_not (cursor_event event) found = inr (λ chain. refl)

-- ---- the chain after an event

-- what follows a list is where the list ends
first_behind : (front rest : List ℕ) → slice_index (front ++ rest) (length front) ≡ slice_index rest 0
first_behind [] rest = refl
first_behind (x ∷ front) rest = first_behind front rest

-- the records are those of the opening and those that were published
many_records : (shape : Dimensions) (opened : Anatomy) (state : State) (kept : Invariant shape opened state)
    → length (order_of kept.anatomy) ≡ length opened.records + length (all_published state.actors)
many_records shape opened state kept =
    let (front, is, same_ones) = kept.list.once in
    let all = ap length is in
    let parts = length-append opened.records front in
    let moved = length_permutation front (map listed (all_published state.actors)) same_ones in
    let mapped = length-map (all_published state.actors) listed in
    let placed = length-map kept.anatomy.records (λ (l : Listed). l.reference) in
    omega (arith, all, parts, moved, mapped, placed)

-- if one actor becomes another, as many more records are published as it has more
more_published : (actors : List Actor) (id : ℕ) (a b : Actor) → get_elem? actors id ≡ some a
    → length (all_published (set actors id b)) + length a.done.published ≡ length (all_published actors) + length b.done.published
more_published actors id a b mine =
    let many = λ (all : List Actor). length-flat_map (λ (a : Actor). a.done.published) all in
    let now = many (set actors id b) in
    let before = many actors in
    let beside = sum_beside (λ (a : Actor). length a.done.published) actors id a b mine in
    omega (arith, now, before, beside)

module _ (shape : Dimensions) (opened : Anatomy) (state : State) (kept : Invariant shape opened state) (id : ℕ) (a : Actor) (event : Event)
    (mine : get_elem? state.actors id ≡ some a) (records : is_opener a.role ≡ false) (ready : Ready a event) where
  abbrev found : ℕ
  found = found_at state event

  abbrev acted : Actor
  acted = next a event found

  -- the same event in a state whose opener has walked along the list
  abbrev old : State
  old = record state { actors = beside shape opened state kept }

  abbrev new : State
  new = happened opened.version old id a event

  away : id ≢ 0
  away = not_opener shape opened state kept id a mine records

  still_mine : get_elem? old.actors id ≡ some a
  still_mine = set_else state.actors 0 id (walker shape opened state kept) away ∙ mine

  new_kept : Invariant shape opened new
  new_kept = (events_keep event shape opened old id a (walker_kept shape opened state kept) still_mine records ready).0.0

  abbrev before : List ℕ
  before = order_of kept.anatomy

  abbrev behind : List ℕ
  behind = order_of new_kept.anatomy

  -- the chain is the earlier one, and more
  longer : IsPrefix before behind
  longer =
      let stands : get_elem? new.actors 0 ≡ some (walker shape opened state kept) =
      set_else old.actors id 0 acted (λ first. away (sym first)) ∙ stands_first shape opened state kept in
      (new_kept.each 0 (walker shape opened state kept) stands (lives shape opened state kept)).sees.walked

  -- that is at most one record, and none unless the event is a link
  few : length behind ≤ length before + length (gain event found)
  few =
      let now = many_records shape opened new new_kept in
      let was = many_records shape opened state kept in
      let mine_now = more_published old.actors id a acted still_mine in
      let walks = more_published state.actors 0 (opener shape opened state kept) (walker shape opened state kept) kept.roles.stands in
      let published = publishes a event found in
      omega (arith, now, was, mine_now, walks, published)

  none_more : gain event found ≡ [] → behind ≡ before
  none_more is =
      let none = ap length is in
      let long = ap length longer.1 in
      let parts = length-append before longer.0 in
      let low = few in
      longer.1 ∙ (ap (λ (rest : List ℕ). before ++ rest) (empty longer.0 (omega (arith, none, long, parts, low))) ∙ append-nil before)
    where
      empty : (rest : List ℕ) → length rest ≡ 0 → rest ≡ []
      empty [] is = refl
      empty (x ∷ rest) is = absurd (omega (arith, is))

  -- a link that succeeds puts its record there
  module _ (tail at : ℕ) (is : event ≡ publishing_event (link tail at)) (ends : found ≡ 12) where
    may : Ready a (publishing_event (link tail at))
    may = subst (Ready a) is ready

    stop : IsStop before tail
    stop = reached_stop before a.done.beaten tail (subst (StandsRight shape kept.anatomy id a) may.2 (kept.standing id a mine)).1

    next_free : word_at state.words (tail + 3) ≡ 12
    next_free =
        sym (found_word opened.version state id a (publishing_event (link tail at)) (stop_within shape opened state kept tail stop))
        ∙ (ap (found_at state) (sym is) ∙ ends)

    linked_behind : AreNeighbours behind tail at
    linked_behind =
        let placed : acted.hand.place ≡ Linked at tail =
        ap (λ (e : Event). (next a e found).hand.place) is ∙ ap (λ (b : Bool). (after_link b a tail at found).hand.place) (eq-eqb found 12 ends) in
        subst (StandsRight shape new_kept.anatomy id acted) placed
        (new_kept.standing id acted (set_here old.actors id acted (below_length old.actors id a still_mine)))

    linked_last : behind ≡ before ++ at ∷ []
    linked_last =
        let (k, low, here) = stop in
        let (j, below, tail_at, at_j) = linked_behind in
        let last = last_stop state.words before k kept.list.linked low (ap (λ (n : ℕ). word_at state.words (n + 3)) here ∙ next_free) in
        let rest : List ℕ = longer.0 in
        let long = ap length longer.1 in
        let parts = length-append before rest in
        let few_more = few in
        let gained = ap (λ (e : Event). length (gain e found)) is ∙ ap (λ (b : Bool). length (if b then at ∷ [] else [])) (eq-eqb found 12 ends) in
        let stays : slice_index (stops behind) k ≡ tail =
        ap (λ (list : List ℕ). slice_index (stops list) k) longer.1 ∙ stop_at before rest k low ∙ here in
        let same_place : j ≡ k = one_place new.words behind j k new_kept.list.linked (omega (arith, below)) (omega (arith, low, long, parts)) (tail_at ∙ sym stays) in
        let one : length rest ≡ 1 = omega (arith, below, same_place, last, long, parts, few_more, gained) in
        let first : slice_index rest 0 ≡ at =
        sym (first_behind before rest)
        ∙ sym (ap (λ (list : List ℕ). slice_index list (length before)) longer.1)
        ∙ ap (slice_index behind) (sym last ∙ sym same_place) ∙ at_j in
        longer.1 ∙ ap (λ (rest : List ℕ). before ++ rest) (alone rest one first)
      where
        alone : (rest : List ℕ) → length rest ≡ 1 → slice_index rest 0 ≡ at → rest ≡ at ∷ []
        alone [] one first = absurd (omega (arith, one))
        alone (x ∷ []) one first = ap (λ (n : ℕ). n ∷ []) first
        alone (x ∷ y ∷ rest) one first = absurd (omega (arith, one))

  -- so the chain after the event is that of the definition
  behind_is : behind ≡ chain_behind event found before
  behind_is = elim (links_or_not event found) [
    | inl links ↦
        let (tail, at, is, ends) = links in
        linked_last tail at is ends
        ∙ sym (ap (λ (e : Event). chain_behind e found before) is ∙ ap (λ (b : Bool). if b then before ++ at ∷ [] else before) (eq-eqb found 12 ends))
    | inr not ↦ none_more (not []) ∙ sym (not before)
  ]

  chain_grows : IsChain new.words (head_of new.words) (chain_behind event found before)
  chain_grows = subst (IsChain new.words (head_of new.words)) behind_is (is_chain shape opened new new_kept)

-- ---- a step

-- a link puts its record at the end of the chain, and nothing else changes it
pub links_append : LinksAppend
links_append shape opened old new id event chain kept step is =
    let ((noted, goes_on, sums), records) = notes_follow shape opened step.before old id step.actor step.at kept step.there step.is_recorder step.notes_before in
    let mid : State = with_actor old id step.at in
    let grows = chain_grows shape opened mid noted id step.at event (set_at old.actors id step.actor step.at step.there) records step.ready in
    let same : order_of noted.anatomy ≡ chain = chain_is shape opened mid noted chain is in
    let size = length old.words in
    let words = words_of_memory new size (after size opened.version event (memory old)) step.size step.memory_is in
    subst₂ (λ (words chain : List ℕ). IsChain words (head_of words) (chain_behind event (found_at old event) chain)) words same grows
