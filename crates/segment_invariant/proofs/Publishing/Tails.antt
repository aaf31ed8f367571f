-- The tail is loaded and moved on, and a link finds another record: each keeps the state, and its actor learns that it found the end or a record.
use Rattle.segment_invariant.proofs.Prelude.Std.{◌≡◌, ◌≢◌, ℕ, suc, ◌+◌, ◌<◌, ◌==◌, Bool, true, false, List, [], ◌∷◌, ◌++◌, length, set, inl, inr, refl, sym, ap, ◌∙◌, subst, arith, eq-eqb, ne_eqb, Contains, if◌then◌else◌, slice_index, All-weaker, All-push, Contains-push, All-contains, some, dite, ℕ_discrete, get_elem?}
use Rattle.segment_invariant.proofs.Prelude.Machine.{Dimensions, word_at, Actor, Own, Place, Idle, Spent, State, publishing_event, next, Ready, load_tail, link, move_tail, after_link, stops, IsStop, is_opener}
use Rattle.segment_invariant.proofs.Prelude.Invariant.{Anatomy, layout_of, order_of, IsNoLater, StandsRight, Invariant, is_beaten}
use Rattle.alloc_core.proofs.Layouts.{shown_tail, length_shown}
use Rattle.list_core.proofs.Chains.{one_place}
use Rattle.list_core.proofs.EventKinds.{link_missed, behind_stop}
use Rattle.segment_machine.specs.declared.place.Place.TheVariants.{TailLoaded, Beaten}
use Rattle.list_core.specs.Chain.{AreNeighbours}
use Rattle.segment_invariant.proofs.Walking.Room.{list_fits}
use Rattle.segment_invariant.proofs.Frames.Ahead.{ahead_at, unbound_unbeaten, reached_stop, reached_later}
use Rattle.segment_invariant.specs.Seen.{IsReachedAt}
use Rattle.segment_invariant.proofs.Blocks.Stops.{linked_beside_head}
use Rattle.segment_invariant.proofs.Frames.OneActor.{TurnsTo, is_plain, turns_plain, turns_unbound}
use Rattle.segment_invariant.proofs.Frames.GoesOn.{happens}
use Rattle.segment_invariant.proofs.Frames.Shown.{Goes, after_is, loaded}
use Rattle.segment_invariant.proofs.Frames.GrowthOfActors.{SawMore}
use Rattle.segment_invariant.proofs.Walking.Nexts.{no_later_itself}
use Rattle.segment_invariant.proofs.Walking.Walks.{stop_within, tail_word, walking, reference_is, looks_on}

module _ (shape : Dimensions) (opened : Anatomy) (state : State) (kept : Invariant shape opened state) (id : ℕ) (a : Actor)
    (mine : get_elem? state.actors id ≡ some a) (records : is_opener a.role ≡ false) where
  abbrev order : List ℕ
  order = order_of kept.anatomy

  pub eight_within : 8 < length state.words
  eight_within =
      let size = length_shown shape state.words (layout_of kept.anatomy) kept.shown in
      let wide = kept.shown.sound.lawful.wide in
      let one = kept.shown.sound.lawful.one in
      omega (arith, size, wide, one)

  -- it saw nothing more
  saw_no_more : (place : Place) (beaten : ℕ) (own : List Own) (tails : List ℕ) → TurnsTo a place
      → SawMore a (walking shape opened state kept id a mine records place beaten own tails a.seen.chain a.seen.ends a.seen.words)
  saw_no_more place beaten own tails turns = record {
    chain = λ at has. has;
    words = λ at word has. has;
    counts = λ known word named has. has;
    loaded = turns.sums;
  }

  tail_stop : IsStop order (word_at state.words 8)
  tail_stop = subst (IsStop order) (sym (tail_word shape opened state kept)) kept.list.tail

  -- ---- the tail is loaded

  pub tail_loaded : Ready a (publishing_event load_tail) → Goes shape opened state kept id a mine records (publishing_event load_tail)
  tail_loaded (unbound, block) =
      let found : ℕ = word_at state.words 8 in
      let turns = turns_unbound a (TailLoaded found) unbound refl in
      let fits = kept.each id a mine turns.lived in
      happens opened.version state id a (publishing_event load_tail) eight_within shape opened kept (
        loaded shape opened state kept id a mine records 8 (next a (publishing_event load_tail) found)
            (looks_on shape opened state kept id a mine records (TailLoaded found) a.done.beaten (a.seen.tails ++ found ∷ []) a.seen.chain a.seen.ends a.seen.words turns
            (saw_no_more (TailLoaded found) a.done.beaten a.hand.own (a.seen.tails ++ found ∷ []) turns) kept.anatomy.tail state.words kept.shown kept.list.linked kept.list.tail
            (λ seen before. before)
            (ahead_at order kept.anatomy.tail state.cursors a.hand.place a.done.beaten a.done.lost fits.ahead (TailLoaded found) (λ no. unbound_unbeaten a.hand.place unbound)) (
              Contains-push a.seen.tails found,
              subst (IsReachedAt order a.done.beaten) (sym (tail_word shape opened state kept)) (fits.ahead.links (unbound_unbeaten a.hand.place unbound)),
            )
            fits.sees.walked
            (All-push (λ place. IsNoLater order place kept.anatomy.tail) a.seen.tails found fits.sees.tails
            (subst (IsNoLater order found) (tail_word shape opened state kept) (no_later_itself order found tail_stop))) fits.sees.fixed),
        reference_is shape opened state kept id a mine records found turns.lived tail_stop,
      )

  -- ---- the tail is moved on

  moves_near : (old new : ℕ) → Ready a (publishing_event (move_tail old new)) → AreNeighbours order old new × (is_plain a.hand.place ≡ true)
  moves_near old new (inl linked) = (subst (StandsRight shape kept.anatomy id a) linked (kept.standing id a mine), ap is_plain linked)
  moves_near old new (inr beaten) = ((subst (StandsRight shape kept.anatomy id a) beaten (kept.standing id a mine)).0, ap is_plain beaten)

  abbrev Onward : ℕ → Type 0
  Onward v = IsStop order v × ((seen : ℕ) → IsNoLater order seen kept.anatomy.tail → IsNoLater order seen v)

  onward : (old new : ℕ) → AreNeighbours order old new → Onward (if word_at state.words 8 == old then new else word_at state.words 8)
  onward old new (k, lt, is, next_is) =
      let found : ℕ = word_at state.words 8 in
      let tail = tail_word shape opened state kept in
      let by : Bool → Type 0 = λ b. Onward (if b then new else found) in
      dite (ℕ_discrete found old)
      (λ hit. subst by (sym (eq-eqb found old hit)) (
        (suc k, lt, next_is),
        λ seen before.
            let (i, j, le, within, i_is, j_is) = before in
            let same : j ≡ k = one_place state.words order j k kept.list.linked within (omega (arith, lt)) (j_is ∙ (sym tail ∙ (hit ∙ sym is))) in
            (i, suc k, omega (arith, le, same), lt, i_is, next_is),
      ))
      (λ miss. subst by (sym (ne_eqb found old miss)) (tail_stop, λ seen before. subst (IsNoLater order seen) (sym tail) before))

  -- if its link had come too late, the tail is then at the record that beat it, or after it
  goes_behind : (old new : ℕ) → a.hand.place ≢ Spent → AreNeighbours order old new → Contains a.seen.tails old → IsReachedAt order a.done.beaten new
      → IsReachedAt order a.done.beaten (if word_at state.words 8 == old then new else word_at state.words 8)
  goes_behind old new lives (k, lt, is, next_is) saw (m, low, most, new_is) =
      let found : ℕ = word_at state.words 8 in
      let tail = tail_word shape opened state kept in
      let by : Bool → Type 0 = λ b. IsReachedAt order a.done.beaten (if b then new else found) in
      dite (ℕ_discrete found old)
      (λ hit. subst by (sym (eq-eqb found old hit)) (m, low, most, new_is))
      (λ miss. subst by (sym (ne_eqb found old miss)) (
      let before = All-contains (λ place. IsNoLater order place kept.anatomy.tail) a.seen.tails old (kept.each id a mine lives).sees.tails saw in
      let (i, j, le, within, i_is, j_is) = before in
      let one : i ≡ k = one_place state.words order i k kept.list.linked (omega (arith, le, within)) (omega (arith, lt)) (i_is ∙ sym is) in
      let two : m ≡ suc k = one_place state.words order m (suc k) kept.list.linked most lt (new_is ∙ sym next_is) in
      let apart : i ≢ j = λ same. miss (tail ∙ (sym j_is ∙ (ap (slice_index (stops order)) (sym same) ∙ i_is))) in
      (j, omega (arith, low, one, two, le, apart), within, j_is ∙ sym tail)))

  -- and it has reached what came too late before
  moves_ahead : (old new : ℕ) → a.hand.place ≢ Spent → Ready a (publishing_event (move_tail old new))
      → ((seen : ℕ) → IsNoLater order seen kept.anatomy.tail → IsNoLater order seen (if word_at state.words 8 == old then new else word_at state.words 8))
      → IsReachedAt order a.done.beaten (if word_at state.words 8 == old then new else word_at state.words 8)
  moves_ahead old new lives (inl linked) later =
      reached_later state.words order a.done.beaten kept.anatomy.tail _ kept.list.linked later ((kept.each id a mine lives).ahead.links (ap is_beaten linked))
  moves_ahead old new lives (inr beaten) later =
      let (near, saw, reached) = subst (StandsRight shape kept.anatomy id a) beaten (kept.standing id a mine) in
      goes_behind old new lives near saw reached

  pub tail_moved_on : (old new : ℕ) → Ready a (publishing_event (move_tail old new)) → Goes shape opened state kept id a mine records (publishing_event (move_tail old new))
  tail_moved_on old new ready =
      let found : ℕ = word_at state.words 8 in
      let v : ℕ = if found == old then new else found in
      let (near, plain) = moves_near old new ready in
      let (stop, later) = onward old new near in
      let turns = turns_plain a Idle plain refl in
      let fits = kept.each id a mine turns.lived in
      happens opened.version state id a (publishing_event (move_tail old new)) eight_within shape opened kept (
        looks_on shape opened state kept id a mine records Idle a.done.beaten (a.seen.tails ++ v ∷ []) a.seen.chain a.seen.ends a.seen.words turns
            (saw_no_more Idle a.done.beaten a.hand.own (a.seen.tails ++ v ∷ []) turns) v (set state.words 8 v)
            (shown_tail shape state.words (layout_of kept.anatomy) v kept.shown)
            (linked_beside_head shape state.words kept.anatomy kept.shown kept.list.standing 8 v (omega arith) kept.list.linked)
            stop later
            (record {
              links = λ no. moves_ahead old new turns.lived ready later;
              many = fits.ahead.many;
              exchanges = fits.ahead.exchanges;
            })
            tt fits.sees.walked
            (All-push (λ place. IsNoLater order place v) a.seen.tails v
            (All-weaker (λ place. IsNoLater order place kept.anatomy.tail) (λ place. IsNoLater order place v) later a.seen.tails fits.sees.tails)
            (no_later_itself order v stop)) fits.sees.fixed,
        reference_is shape opened state kept id a mine records found turns.lived tail_stop,
      )

  -- ---- a link finds another record

  -- the record after the tail is reached after one record more
  next_reached : (tail found : ℕ) → IsReachedAt order a.done.beaten tail → AreNeighbours order tail found → IsReachedAt order (a.done.beaten + 1) found
  next_reached tail found (k, low, within, is) (m, lt, here, next_is) =
      let same : k ≡ m = one_place state.words order k m kept.list.linked within (omega (arith, lt)) (is ∙ sym here) in
      (suc m, omega (arith, low, same), lt, next_is)

  pub link_beaten : (tail at : ℕ) → Ready a (publishing_event (link tail at)) → word_at state.words (tail + 3) ≢ 12 → Goes shape opened state kept id a mine records (publishing_event (link tail at))
  link_beaten tail at (own, made, placed, waits, here, asked, payload, may) other =
      let found : ℕ = word_at state.words (tail + 3) in
      let (saw, reached) = subst (StandsRight shape kept.anatomy id a) placed (kept.standing id a mine) in
      let stop = reached_stop order a.done.beaten tail reached in
      let near = link_missed state.words order tail kept.list.linked stop other in
      let turns = turns_plain a (Beaten tail found) (ap is_plain placed) refl in
      let fits = kept.each id a mine turns.lived in
      let by : Bool → Type 0 = λ b. after_is shape opened state kept id a mine records (tail + 3) (if b then at else found) (after_link b a tail at found) in
      happens opened.version state id a (publishing_event (link tail at)) (stop_within shape opened state kept tail stop) shape opened kept (
        subst by (sym (ne_eqb found 12 other))
            (loaded shape opened state kept id a mine records (tail + 3) (after_link false a tail at found)
            (looks_on shape opened state kept id a mine records (Beaten tail found) (a.done.beaten + 1) a.seen.tails a.seen.chain a.seen.ends a.seen.words turns
            (saw_no_more (Beaten tail found) (a.done.beaten + 1) a.hand.own a.seen.tails turns) kept.anatomy.tail state.words kept.shown kept.list.linked kept.list.tail
            (λ seen before. before)
            (record { links = λ no. cc no; many = fits.ahead.many; exchanges = fits.ahead.exchanges })
            (near, saw, next_reached tail found reached near) fits.sees.walked fits.sees.tails fits.sees.fixed)),
        (
          reference_is shape opened state kept id a mine records found turns.lived (behind_stop order tail found near),
          λ other.
              let (k, low, most, is) = next_reached tail found reached near in
              let room = list_fits shape state.words kept.anatomy kept.shown kept.blocks kept.list.standing kept.list.linked in
              let sized = ap (λ (s : Dimensions). s.size) fits.shaped in
              omega (arith, low, most, room, sized),
        ),
      )
