-- A shared cursor is moved on, or another actor was before.
use Rattle.segment_invariant.proofs.Prelude.Std.{◌≡◌, ◌≢◌, ℕ, suc, ◌+◌, ◌<◌, ◌≤◌, ◌==◌, Bool, List, [], ◌∷◌, ◌++◌, map, length, set, take, All, Contains, inl, inr, ⊎_elim, refl, sym, ap, ◌∙◌, subst, arith, eq-eqb, ne_eqb, length-set, append-nil, false, slice_index, if◌then◌else◌, IsPermutation, map-append, All-push, All-contains, filter-append, Contains-permutation, IsPermutation-refl, dite, some, ℕ_discrete, get_elem?, set-get_or, at_set, rows, row_in, contains_at, at_from, index_at, below_length, contains_filter, contains_map}
use Rattle.segment_invariant.proofs.Prelude.Machine.{Dimensions, stops, IsStop, IsLinked, Actor, Given, Spent, Idle, Seen, Sighting, is_opener, sight, State}
use Rattle.segment_invariant.proofs.Prelude.Invariant.{Anatomy, order_of, IsNoLater, StandsRight, Invariant, KeptOn, is_beaten, IsAhead}
use Rattle.std.proofs.Common.{length-take, get_or-take}
use Rattle.std.proofs.Math.Seq.{take-suc}
use Rattle.std.proofs.lemmas.List.{get_or-set_other}
use Rattle.std.proofs.lemmas.Grind.{get_or-set_at}
use Rattle.std.proofs.lemmas.List.Sorted.{IsPermutation-append, IsPermutation-trans}
use Rattle.list_core.specs.Chain.{AreNeighbours}
use Rattle.list_core.proofs.Chains.{one_place}
use Rattle.segment_machine.specs.declared.place.Place.TheVariants.{BehindCursor}
use Rattle.segment_machine.specs.Actor.{given_by, all_given}
use Rattle.segment_machine.specs.Cursors.{move_cursor, after_cursor}
use Rattle.segment_machine.specs.Event.{cursor_event}
use Rattle.segment_invariant.proofs.Walking.Room.{list_fits}
use Rattle.segment_invariant.proofs.Frames.Ahead.{ahead_at}
use Rattle.segment_invariant.specs.Seen.{IsReachedAt}
use Rattle.segment_invariant.specs.Invariant.{CursorsAreKept}
use Rattle.list_lemmas.proofs.Elements.{rows_more, at_snoc_index, there_below}
use Rattle.segment_invariant.proofs.Frames.OneActor.{is_plain, turns_plain}
use Rattle.segment_invariant.proofs.Frames.SeesMore.{seer, calls_more, AreLater, later_itself, near_on, given_on, sees_more, sees_later, happens_there, ahead_behind}
use Rattle.segment_invariant.proofs.Frames.Shown.{Goes}
use Rattle.segment_invariant.proofs.Walking.Walks.{reference_is}
use Rattle.segment_invariant.proofs.Walking.Nexts.{no_later_itself}
use Rattle.segment_invariant.proofs.Cursors.Loads.{looks_past, sees_cursor, cursor_stop}
use Rattle.segment_invariant.proofs.Frames.Books.{GivenInOrder, noticed_there}

-- what a cursor gave, with one more at the end
given_push : (k : ℕ) (list : List Given) (g : Given) → given_by k (list ++ g ∷ []) ≡ given_by k list ++ given_by k (g ∷ [])
given_push k list g = ap (map (λ (g : Given). g.reference)) (filter-append (λ (g : Given). g.cursor == k) list (g ∷ [])) ∙ map-append (λ (g : Given). g.reference) _ _

given_here : (cursor reference : ℕ) → given_by cursor (record { cursor = cursor; reference = reference } ∷ []) ≡ reference ∷ []
given_here cursor reference =
    ap (λ (b : Bool). map (λ (g : Given). g.reference) (if b then record { cursor = cursor; reference = reference } ∷ [] else [])) (eq-eqb cursor cursor refl)

given_elsewhere : (k cursor reference : ℕ) → cursor ≢ k → given_by k (record { cursor = cursor; reference = reference } ∷ []) ≡ []
given_elsewhere k cursor reference apart =
    ap (λ (b : Bool). map (λ (g : Given). g.reference) (if b then record { cursor = cursor; reference = reference } ∷ [] else [])) (ne_eqb cursor k apart)

-- a record among the first of a list is at one of their places
in_front : (words chain : List ℕ) → IsLinked words chain → (front k reference : ℕ) → front ≤ length chain → Contains (take front chain) reference
    → get_elem? chain k ≡ some reference → k < front
in_front words chain linked front k reference le among there =
    let (i, here) = at_from (take front chain) reference among in
    let long = length-take front chain in
    let short = below_length (take front chain) i reference here in
    let low : i < front = omega (arith, short, long) in
    let at_i : slice_index chain i ≡ reference = sym (get_or-take front chain i 0 low) ∙ index_at (take front chain) i reference 0 here in
    let at_k : slice_index chain k ≡ reference = index_at chain k reference 0 there in
    let same : suc i ≡ suc k = one_place words chain (suc i) (suc k) linked (omega (arith, low, le)) (below_length chain k reference there) (at_i ∙ sym at_k) in
    omega (arith, same, low)

module _ (shape : Dimensions) (opened : Anatomy) (state : State) (kept : Invariant shape opened state) (id : ℕ) (a : Actor)
    (mine : get_elem? state.actors id ≡ some a) (records : is_opener a.role ≡ false) where
  abbrev order : List ℕ
  order = order_of kept.anatomy

  module _ (cursor old new : ℕ) (placed : a.hand.place ≡ BehindCursor cursor old new) where
    lived : a.hand.place ≢ Spent
    lived spent = cc (placed, spent)

    stands : AreNeighbours order old new × Contains a.seen.cursors (record { at = cursor; word = old }) × IsReachedAt order (slice_index a.done.lost cursor) old
    stands = subst (StandsRight shape kept.anatomy id a) placed (kept.standing id a mine)

    within : cursor < length state.cursors
    within = (All-contains (λ s. (s.at < length state.cursors) × IsNoLater order s.word (slice_index state.cursors s.at)) a.seen.cursors
        (record { at = cursor; word = old }) (kept.each id a mine lived).sees.shared stands.1).0

    -- what was seen of it is no later than where it is
    passed : IsNoLater order old (slice_index state.cursors cursor)
    passed = (All-contains (λ s. (s.at < length state.cursors) × IsNoLater order s.word (slice_index state.cursors s.at)) a.seen.cursors
        (record { at = cursor; word = old }) (kept.each id a mine lived).sees.shared stands.1).1

    -- if another actor moved it on first, it comes after one record more
    goes_past : slice_index state.cursors cursor ≢ old → IsReachedAt order (slice_index a.done.lost cursor + 1) (slice_index state.cursors cursor)
    goes_past miss =
        let (k, low, within_list, is) = stands.2 in
        let (i, j, le, inside, i_is, j_is) = passed in
        let same : i ≡ k = one_place state.words order i k kept.list.linked (omega (arith, le, inside)) within_list (i_is ∙ sym is) in
        let apart : i ≢ j = λ e. miss (sym j_is ∙ (ap (slice_index (stops order)) (sym e) ∙ i_is)) in
        (j, omega (arith, low, same, le, apart), inside, j_is)

    abbrev lost : List ℕ
    lost = set a.done.lost cursor (slice_index a.done.lost cursor + 1)

    lost_more : slice_index state.cursors cursor ≢ old → IsAhead order kept.anatomy.tail state.cursors Idle a.done.beaten lost
    lost_more miss =
        let ahead = (kept.each id a mine lived).ahead in
        let many = ahead.many in record {
          links = λ no. ahead.links (ap is_beaten placed);
          many = length-set a.done.lost cursor (slice_index a.done.lost cursor + 1) ∙ many;
          exchanges = λ k below. dite (ℕ_discrete k cursor)
              (λ same. subst (λ (n : ℕ). IsReachedAt order (slice_index lost n) (slice_index state.cursors n)) (sym same)
              (subst (λ (n : ℕ). IsReachedAt order n (slice_index state.cursors cursor))
              (sym (get_or-set_at a.done.lost cursor cursor (slice_index a.done.lost cursor + 1) 0 refl (omega (arith, many, within)))) (goes_past miss)))
              (λ apart. subst (λ (n : ℕ). IsReachedAt order n (slice_index state.cursors k))
              (sym (get_or-set_other a.done.lost cursor k (slice_index a.done.lost cursor + 1) 0 apart)) (ahead.exchanges k below));
        }

    -- another actor moved it on first
    beaten : slice_index state.cursors cursor ≢ old → Goes shape opened state kept id a mine records (cursor_event (move_cursor cursor old new))
    beaten miss =
        let found : ℕ = slice_index state.cursors cursor in
        let turns = turns_plain a Idle (ap is_plain placed) refl in
        let fits = kept.each id a mine lived in
        let stop = cursor_stop shape opened state kept id a mine records cursor within in
        let s : Sighting = record { at = cursor; word = found } in
        let seen : Seen = record a.seen { cursors = a.seen.cursors ++ sight cursor found } in
        happens_there opened.version state id a (cursor_event (move_cursor cursor old new)) cursor refl shape opened kept (
          subst (λ (p : Bool × List ℕ). KeptOn shape opened kept (record {
            words = state.words;
            cursors = p.1;
            actors = set state.actors id (after_cursor p.0 a cursor new found);
          }))
              (λ i. (
                sym (ne_eqb found old miss) i,
                sym (ap (λ (b : Bool). set state.cursors cursor (if b then new else found)) (ne_eqb found old miss) ∙ set-get_or state.cursors cursor 0) i,
              ))
              (sees_more shape opened state kept id a mine records Idle seen a.done.given lost turns.lived turns.lives turns.moves state.cursors
              (later_itself order state.cursors)
              (near_on shape opened state kept id a mine records Idle seen a.done.given lost turns.lived turns.lives turns.moves turns.sums)
              (given_on shape opened state kept id a mine records Idle seen a.done.given lost turns.lived turns.lives turns.moves refl)
              (sees_cursor kept.anatomy state.cursors a.seen s fits.sees (within, no_later_itself order found stop))
              (lost_more miss)
              tt
              (noticed_there kept.anatomy.corrupt state.actors id a mine kept.noticed)
              (calls_more kept.anatomy a Idle seen a.done.given lost (λ at has. has) (λ at word has. has) fits.calls)
              (looks_past kept.anatomy state.actors kept.roles.opener a Idle (a.seen.cursors ++ sight cursor found) a.done.given lost
              (λ reference sum loaded. cc loaded) (fits.looks records))),
          (
            reference_is shape opened state kept id a mine records found lived stop,
            λ other.
                let (j, low, inside, is) = goes_past miss in
                let room = list_fits shape state.words kept.anatomy kept.shown kept.blocks kept.list.standing kept.list.linked in
                let sized = ap (λ (s : Dimensions). s.size) fits.shaped in
                omega (arith, low, inside, room, sized),
          ),
        )

    -- it moves the cursor on
    module _ (hit : slice_index state.cursors cursor ≡ old) where
      abbrev place : ℕ
      place = stands.0.0

      abbrev gift : Given
      gift = record { cursor = cursor; reference = new }

      abbrev then_seen : Seen
      then_seen = record a.seen { cursors = a.seen.cursors ++ sight cursor new }

      abbrev b : Actor
      b = seer a Idle then_seen (a.done.given ++ gift ∷ []) a.done.lost

      abbrev actors : List Actor
      actors = set state.actors id b

      abbrev cursors : List ℕ
      cursors = set state.cursors cursor new

      -- it came after `place` records of the list, and comes after one more
      stood : (k : ℕ) → k ≤ length order → slice_index (stops order) k ≡ slice_index state.cursors cursor → k ≡ place
      stood k le is = one_place state.words order k place kept.list.linked le (let lt = stands.0.1 in omega (arith, lt)) (is ∙ (hit ∙ sym stands.0.2))

      here : slice_index cursors cursor ≡ new
      here = get_or-set_at state.cursors cursor cursor new 0 refl within

      later : AreLater order state.cursors cursors
      later = record {
        many = length-set state.cursors cursor new;
        later = λ k at below seen. dite (ℕ_discrete k cursor)
            (λ same.
            let (i, j, le, inside, i_is, j_is) = seen in
            let j_place = stood j inside (j_is ∙ ap (slice_index state.cursors) same) in
            let lt = stands.0.1 in
            (i, suc place, omega (arith, le, j_place), lt, i_is, stands.0.3 ∙ (sym here ∙ sym (ap (slice_index cursors) same))))
            (λ apart. subst (IsNoLater order at) (sym (get_or-set_other state.cursors cursor k new 0 apart)) seen);
      }

      gave_more : (k : ℕ) → given_by k (a.done.given ++ gift ∷ []) ≡ given_by k a.done.given ++ given_by k (gift ∷ [])
      gave_more k = given_push k a.done.given gift

      -- what the actor was given by the cursor comes before that place
      before : (x : Given) (k : ℕ) → Contains a.done.given x → x.cursor ≡ cursor → get_elem? order k ≡ some x.reference → k < place
      before x k has same there =
          let (front, inside, is, gave) = kept.cursors.stand cursor within in
          let front_is = stood front inside is in
          let by : Contains (given_by cursor a.done.given) x.reference =
          contains_map (λ (g : Given). g.reference) _ x (contains_filter (λ (g : Given). g.cursor == cursor) a.done.given x has (eq-eqb x.cursor cursor same)) in
          let among = Contains-permutation _ _ x.reference gave (row_in (λ (c : Actor). given_by cursor c.done.given) state.actors id a x.reference mine by) in
          let lt = in_front state.words order kept.list.linked front k x.reference inside among there in
          omega (arith, lt, front_is)

      -- it was the last
      last : (l : ℕ) → get_elem? order l ≡ some new → l ≡ place
      last l there =
          let below = below_length order l new there in
          let lt = stands.0.1 in
          let same : suc l ≡ suc place = one_place state.words order (suc l) (suc place) kept.list.linked below lt (index_at order l new 0 there ∙ sym stands.0.3) in
          omega (arith, same)

      ordered_now : GivenInOrder order (a.done.given ++ gift ∷ [])
      ordered_now i j k l x y lt first second same is also = ⊎_elim
          (λ x_old. ⊎_elim
          (λ y_old. kept.cursors.ordered id a mine records i j k l x y lt x_old y_old same is also)
          (λ y_new.
          let reference : new ≡ y.reference = ap (λ (g : Given). g.reference) y_new.1 in
          let of_it : cursor ≡ y.cursor = ap (λ (g : Given). g.cursor) y_new.1 in
          let low = before x k (contains_at a.done.given i x x_old) (same ∙ sym of_it) is in
          let place_is = last l (also ∙ ap some (sym reference)) in
          omega (arith, low, place_is))
          (at_snoc_index a.done.given gift y j second))
          (λ x_new. ⊎_elim
          (λ y_old. let below = below_length a.done.given j y y_old in let e = x_new.0 in absurd (omega (arith, below, e, lt)))
          (λ y_new. let d = y_new.0 in let e = x_new.0 in absurd (omega (arith, d, e, lt)))
          (at_snoc_index a.done.given gift y j second))
          (at_snoc_index a.done.given gift x i first)

      abbrev Stood : ℕ → Type 0
      Stood k = (place : ℕ) × (place ≤ length order) × (slice_index (stops order) place ≡ slice_index cursors k) × IsPermutation (all_given actors k) (take place order)

      stand_now : (k : ℕ) → k < length cursors → Stood k
      stand_now k below = dite (ℕ_discrete k cursor)
          (λ same. subst Stood (sym same) moved_on)
          (λ apart.
          let inside : k < length state.cursors = omega (arith, below, length-set state.cursors cursor new) in
          let (front, le, is, gave) = kept.cursors.stand k inside in (
            front,
            le,
            is ∙ sym (get_or-set_other state.cursors cursor k new 0 apart),
            subst (λ (list : List ℕ). IsPermutation list (take front order))
                (sym (rows (λ (c : Actor). given_by k c.done.given) state.actors id a b mine
                (gave_more k ∙ (ap (λ (more : List ℕ). given_by k a.done.given ++ more) (given_elsewhere k cursor new (λ e. apart (sym e))) ∙ append-nil (given_by k a.done.given)))))
                gave,
          ))
        where
          moved_on : Stood cursor
          moved_on =
              let (front, inside, is, gave) = kept.cursors.stand cursor within in
              let front_is = stood front inside is in
              let more = rows_more (λ (c : Actor). given_by cursor c.done.given) state.actors id a b (new ∷ []) mine
              (gave_more cursor ∙ ap (λ (more : List ℕ). given_by cursor a.done.given ++ more) (given_here cursor new)) in
              let grown : take place order ++ new ∷ [] ≡ take (suc place) order =
              ap (λ (n : ℕ). take place order ++ n ∷ []) (sym stands.0.3) ∙ sym (take-suc order place 0 stands.0.1) in (
                suc place,
                stands.0.1,
                stands.0.3 ∙ sym here,
                subst (IsPermutation (all_given actors cursor)) grown
                    (IsPermutation-trans _ _ _ more
                    (IsPermutation-append _ _ (new ∷ []) (new ∷ []) (subst (λ (n : ℕ). IsPermutation (all_given state.actors cursor) (take n order)) front_is gave)
                    (IsPermutation-refl (new ∷ [])))),
              )

      kept_cursors : CursorsAreKept order cursors actors
      kept_cursors = record {
        stand = stand_now;
        ordered = λ who c there opens. elim (at_set state.actors id who b c there) [
          | inl t ↦ subst (λ (c : Actor). GivenInOrder order c.done.given) t.1 ordered_now
          | inr t ↦ kept.cursors.ordered who c t.1 opens
        ];
        given = λ who c there. elim (at_set state.actors id who b c there) [
          | inl t ↦ subst (λ (c : Actor). All (λ g. Contains order g.reference) c.done.given) t.1
              (All-push (λ (g : Given). Contains order g.reference) a.done.given gift (kept.cursors.given id a mine)
              (let (x, here_it) = there_below order place stands.0.1 in
              let is : x ≡ new = sym (index_at order place x 0 here_it) ∙ stands.0.3 in
              contains_at order place new (here_it ∙ ap some is)))
          | inr t ↦ kept.cursors.given who c t.1
        ];
      }

      moved : Goes shape opened state kept id a mine records (cursor_event (move_cursor cursor old new))
      moved =
          let found : ℕ = slice_index state.cursors cursor in
          let turns = turns_plain a Idle (ap is_plain placed) refl in
          let fits = kept.each id a mine lived in
          let s : Sighting = record { at = cursor; word = new } in
          let stop_new : IsStop order new = (suc place, stands.0.1, stands.0.3) in
          let many = length-set state.cursors cursor new in
          happens_there opened.version state id a (cursor_event (move_cursor cursor old new)) cursor refl shape opened kept (
            subst (λ (hits : Bool). KeptOn shape opened kept (record {
              words = state.words;
              cursors = set state.cursors cursor (if hits then new else found);
              actors = set state.actors id (after_cursor hits a cursor new found);
            })) (sym (eq-eqb found old hit))
                (sees_more shape opened state kept id a mine records Idle then_seen (a.done.given ++ gift ∷ []) a.done.lost turns.lived turns.lives turns.moves cursors later
                (near_on shape opened state kept id a mine records Idle then_seen (a.done.given ++ gift ∷ []) a.done.lost turns.lived turns.lives turns.moves turns.sums)
                kept_cursors
                (sees_cursor kept.anatomy cursors a.seen s (sees_later kept.anatomy state.cursors cursors a.seen later fits.sees)
                (omega (arith, many, within), subst (IsNoLater order new) (sym here) (no_later_itself order new stop_new)))
                (ahead_behind state.words order kept.anatomy.tail state.cursors cursors Idle a.done.beaten a.done.lost kept.list.linked later
                (ahead_at order kept.anatomy.tail state.cursors a.hand.place a.done.beaten a.done.lost fits.ahead Idle (λ no. ap is_beaten placed)))
                tt
                (noticed_there kept.anatomy.corrupt state.actors id a mine kept.noticed)
                (calls_more kept.anatomy a Idle then_seen (a.done.given ++ gift ∷ []) a.done.lost (λ at has. has) (λ at word has. has) fits.calls)
                (looks_past kept.anatomy state.actors kept.roles.opener a Idle (a.seen.cursors ++ sight cursor new) (a.done.given ++ gift ∷ []) a.done.lost
                (λ reference sum loaded. cc loaded) (fits.looks records))),
            (
              reference_is shape opened state kept id a mine records found lived (cursor_stop shape opened state kept id a mine records cursor within),
              λ other. absurd (other hit),
            ),
          )

    pub cursor_moved : Goes shape opened state kept id a mine records (cursor_event (move_cursor cursor old new))
    cursor_moved = dite (ℕ_discrete (slice_index state.cursors cursor) old) moved beaten
