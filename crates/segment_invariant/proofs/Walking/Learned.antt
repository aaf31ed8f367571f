-- What an actor learns of a next that it loads: it is what the actor found there before, the list fits in the segment, and at its end the
-- actor has visited all records that it knows of.
use Rattle.segment_invariant.proofs.Prelude.Std.{◌≡◌, ◌≢◌, ℕ, zero, suc, ◌+◌, ◌<◌, ◌≤◌, ◌==◌, not, List, [], ◌∷◌, ◌++◌, map, length, filter, All, Contains, sym, ap, ◌∙◌, subst, arith, length-append, append-nil, eq-eqb, slice_index, get_or_append_left, All-weaker, All-append, Contains-append_right, Contains-permutation, some, get_elem?, row_in, contains_map}
use Rattle.segment_invariant.proofs.Prelude.Machine.{Dimensions, word_at, stops, IsStop, IsPrefix, Actor, Given, Published, Spent, Sighting, all_published, State}
use Rattle.segment_invariant.proofs.Prelude.Invariant.{Listed, listed, Anatomy, order_of, IsNoLater, Invariant}
use Rattle.std.proofs.lemmas.List.Elements.{All-map, All-filter, filter_passes, Contains-get_or}
use Rattle.std.proofs.lemmas.List.Sorted.{IsPermutation-sym}
use Rattle.list_core.proofs.Chains.{next_inside, last_stop}
use Rattle.segment_machine.specs.Calls.{IsReference}
use Rattle.segment_machine.specs.Walking.{extended, records_met, IsNextOf}
use Rattle.segment_invariant.proofs.Frames.Growth.{stop_at}
use Rattle.segment_invariant.proofs.Walking.Room.{list_fits}

-- ---- stops

-- a stop that is no queue block is a record of the list
stop_listed : (chain : List ℕ) (at : ℕ) → IsStop chain at → at ≢ 12 → Contains chain at
stop_listed chain at (zero, le, is) ne = absurd (ne (sym is))
stop_listed chain at (suc k, le, is) ne = subst (Contains chain) is (Contains-get_or chain k 0 (omega (arith, le)))

-- of stops, those that are no queue block are records
stops_listed : (chain list : List ℕ) → All (IsStop chain) list → All (Contains chain) (filter (λ at. not (at == 12)) list)
stops_listed chain list all k d lt =
    stop_listed chain _ (All-filter (λ at. not (at == 12)) (IsStop chain) list all k d lt)
    (λ queue. cc (filter_passes (λ at. not (at == 12)) list k d lt, ap not (eq-eqb _ 12 queue)))

-- a place that is no later than another is a stop
no_later_stop : (chain : List ℕ) (seen present : ℕ) → IsNoLater chain seen present → IsStop chain seen
no_later_stop chain seen present (i, j, le, within, is, then) = (i, omega (arith, le, within), is)

-- a list of which a front is as long is that front
pub whole_front : (front rest chain : List ℕ) → chain ≡ front ++ rest → length front ≡ length chain → chain ≡ front
whole_front front [] chain is long = is ∙ append-nil front
whole_front front (x ∷ xs) chain is long = let n = ap length is in let e = length-append front (x ∷ xs) in absurd (omega (arith, n, e, long))

module _ (shape : Dimensions) (opened : Anatomy) (state : State) (kept : Invariant shape opened state) (id : ℕ) (a : Actor)
    (mine : get_elem? state.actors id ≡ some a) (lives : a.hand.place ≢ Spent) where
  abbrev order : List ℕ
  order = order_of kept.anatomy

  -- a record that it published is on the list
  published_listed : (p : Published) → Contains a.done.published p → Contains order p.reference
  published_listed p has =
      let (front, is, permuted) = kept.list.once in
      let among = contains_map listed (all_published state.actors) p (row_in (λ (b : Actor). b.done.published) state.actors id a p mine has) in
      contains_map (λ (l : Listed). l.reference) kept.anatomy.records (listed p)
      (subst (λ (records : List Listed). Contains records (listed p)) (sym is)
      (Contains-append_right opened.records front (listed p) (Contains-permutation _ _ (listed p) (IsPermutation-sym _ _ permuted) among)))

  -- so are all that it published, was given, or saw as tail or cursor
  pub met_listed : All (Contains order) (records_met a)
  met_listed =
      let sees = (kept.each id a mine lives).sees in
      let tails : All (IsStop order) a.seen.tails =
      All-weaker (λ place. IsNoLater order place kept.anatomy.tail) (IsStop order) (λ place before. no_later_stop order place kept.anatomy.tail before) a.seen.tails sees.tails in
      let cursors : All (IsStop order) (map (λ (s : Sighting). s.word) a.seen.cursors) =
      All-map (IsStop order) (λ (s : Sighting). s.word) a.seen.cursors
      (All-weaker (λ s. (s.at < length state.cursors) × IsNoLater order s.word (slice_index state.cursors s.at)) (λ (s : Sighting). IsStop order s.word)
      (λ s before. no_later_stop order s.word _ before.1) a.seen.cursors sees.shared) in
      let made : List ℕ = map (λ (p : Published). p.reference) a.done.published in
      let given : List ℕ = map (λ (g : Given). g.reference) a.done.given in
      All-append (Contains order) (made ++ given) _
      (All-append (Contains order) made given
      (All-map (Contains order) (λ (p : Published). p.reference) a.done.published (λ k d lt. published_listed _ (Contains-get_or a.done.published k d lt)))
      (All-map (Contains order) (λ (g : Given). g.reference) a.done.given (kept.cursors.given id a mine)))
      (stops_listed order _ (All-append (IsStop order) a.seen.tails _ tails cursors))

  module _ (at : ℕ) (stop : IsStop order at) where
    abbrev found : ℕ
    found = word_at state.words (at + 3)

    -- a stop after which the list ends is the last
    ends_last : (k : ℕ) → k ≤ length order → slice_index (stops order) k ≡ at → found ≡ 12 → k ≡ length order
    ends_last k le is ends = last_stop state.words order k kept.list.linked le (ap (λ (n : ℕ). word_at state.words (n + 3)) is ∙ ends)

    pub next_learned : IsReference a found → IsPrefix a.seen.chain order → IsPrefix (extended a.seen.chain at found) order → IsNextOf a at found
    next_learned reference (rest, is) (more, longer) =
        let front : List ℕ = a.seen.chain in
        let long : length front ≤ length order = let n = ap length is in let e = length-append front rest in omega (arith, n, e) in
        let stands : (i : ℕ) → i ≤ length front → slice_index (stops order) i ≡ slice_index (stops front) i =
        λ i le. ap (λ (l : List ℕ). slice_index (stops l) i) is ∙ stop_at front rest i le in
        record {
          reference = reference;
          again = λ i lt here.
              ap (λ (n : ℕ). word_at state.words (n + 3)) (sym (stands i (omega (arith, lt)) ∙ here))
              ∙ (next_inside state.words order i kept.list.linked (omega (arith, lt, long))
              ∙ (ap (λ (l : List ℕ). slice_index l i) is ∙ get_or_append_left front rest 0 i lt));
          few =
              let n = ap length longer in
              let e = length-append (extended front at found) more in
              let room = list_fits shape state.words kept.anatomy kept.shown kept.blocks kept.list.standing kept.list.linked in
              let sized = ap (λ (s : Dimensions). s.size) (kept.each id a mine lives).shaped in
              omega (arith, n, e, room, sized);
          all = λ here ends.
              let last = ends_last (length front) long (stands (length front) (omega arith) ∙ here) ends in
              subst (λ (chain : List ℕ). All (Contains chain) (records_met a)) (whole_front front rest order is last) met_listed;
          given = λ cursor placed ends.
              let (k, le, here) = stop in
              (order, (rest, is), ap (slice_index (stops order)) (sym (ends_last k le here ends)) ∙ here, met_listed);
        }
