-- The steps on a shared cursor keep the rule: what a recorder then knows of how often it came too late, and of what cursors gave it.
use Rattle.std.proofs.Common.{◌≡◌, ◌≢◌, ℕ, suc, ◌+◌, ◌<◌, ◌==◌, Bool, true, false, true≢false, List, ◌∷◌, ◌++◌, length, set, get_or, slice_index, refl, sym, ap, subst, ◌∙◌, arith}
use Rattle.std.proofs.lemmas.List.{ext_get_or, get_or_append_left, get_or-set_other}
use mathlib.Core.Option.{some}
use lib.ListN.{get_elem?}
use Rattle.atomic_table.specs.Table.{Allows}
use Rattle.atomic_table.proofs.Lists.{set_here}
use Rattle.segment_image.specs.Shape.{Dimensions}
use Rattle.segment_image.specs.Head.{head_of}
use Rattle.alloc_core.proofs.Layouts.{length_shown}
use Rattle.list_core.specs.Chain.{IsChain}
use Rattle.segment_machine.specs.declared.actor.Actor.{Actor}
use Rattle.segment_machine.specs.declared.place.Place.TheVariants.{Spent, Idle, BehindCursor}
use Rattle.segment_machine.specs.Actor.{is_bound, is_opener}
use Rattle.segment_machine.specs.Cursors.{load_cursor, move_cursor, after_cursor}
use Rattle.segment_machine.specs.Event.{cursor_event, change, spot, Ready}
use Rattle.segment_machine.specs.State.{State}
use Rattle.segment_invariant.specs.Body.{Anatomy, order_of, layout_of}
use Rattle.segment_invariant.specs.Invariant.{Invariant, StandsRight}
use Rattle.segment_invariant.proofs.Lists.Elements.{below_length}
use Rattle.segment_invariant.proofs.Walking.Learned.{met_listed}
use Rattle.segment_promises.proofs.Lists.{chain_is}
use Rattle.segment_promises.proofs.Readings.Lists.{is_chain}
use Rattle.live_segment.specs.declared.rule.Opening.{Opening}
use Rattle.live_segment.specs.Rule.{Runs}
use Rattle.live_segment.specs.Steps.{Sat}
use Rattle.live_segment.specs.List.SharedCursors.{LoadsCursor, MovesCursor, CursorMovesOn, GaveInOrder}
use Rattle.live_segment.proofs.lemmas.Steps.Allowed.{does_at}

-- ---- its steps

module _ (given : Opening) (slots id : ℕ) (me : Sat) (word : ℕ) (records : is_opener me.0.role ≡ false) where
  -- a cursor is loaded by a recorder that counts for each of them how often it came too late
  pub loads_cursor : (cursor : ℕ) → word ≡ spot given.setting.shape.size (cursor_event (load_cursor cursor)) + 1
      → ((y : ℕ) → word ≡ spot me.0.segment.shape.size (cursor_event (load_cursor y)) + 1 → cursor ≡ y)
      → Ready me.0 (cursor_event (load_cursor cursor))
      → Allows (Runs given) slots id me word (change given.setting.version (cursor_event (load_cursor cursor))) (LoadsCursor word me)
  loads_cursor cursor is one ready s run wide mine small =
      let (view, act, valid, holds, told) =
      does_at given slots id me word records (λ (x : ℕ). cursor_event (load_cursor x)) cursor is one ready s run wide mine small in
      let live : me.0.hand.place ≢ Spent = λ e. true≢false (sym (ap is_bound e) ∙ ready.0) in
      let fits = run.running.kept.each id me.0 (ap (λ list. get_elem? list id) (sym run.running.views) ∙ mine) live in
      (view, act, valid, holds, (told, fits.ahead.many ∙ sym fits.numbered))

-- ---- the words of the segment, apart from its cursors

-- if a number after them changes, the words of a segment stay the same
words_stay : (words others shared more all : List ℕ) (anchor other word n : ℕ) → all ≡ anchor ∷ words ++ shared → set all word n ≡ other ∷ others ++ more
    → length words ≡ length others → length words < word → words ≡ others
words_stay words others shared more all anchor other word n were are long behind = ext_get_or 0 words others long
    (λ i below.
    sym (get_or_append_left words shared 0 i below)
    ∙ (ap (λ (l : List ℕ). get_or l (suc i) 0) (sym were)
    ∙ (sym (get_or-set_other all word (suc i) n 0 (λ e. omega (arith, e, below, behind)))
    ∙ (ap (λ (l : List ℕ). get_or l (suc i) 0) are ∙ get_or_append_left others more 0 i (omega (arith, below, long))))))

-- ---- in order

-- what an exchange leaves unchanged
after_role : (took : Bool) (a : Actor) (cursor new found : ℕ) → (after_cursor took a cursor new found).role ≡ a.role
after_role true a cursor new found = refl
after_role false a cursor new found = refl

after_place : (took : Bool) (a : Actor) (cursor new found : ℕ) → (after_cursor took a cursor new found).hand.place ≡ Idle
after_place true a cursor new found = refl
after_place false a cursor new found = refl

module _ (shape : Dimensions) (opened others : Anatomy) (before after : State) (kept : Invariant shape opened before) (then : Invariant shape others after)
    (same : before.words ≡ after.words) (id : ℕ) (a b : Actor) (mine : get_elem? before.actors id ≡ some a) (now : get_elem? after.actors id ≡ some b)
    (records : is_opener b.role ≡ false) (lives : b.hand.place ≢ Spent) where
  one_order : order_of then.anatomy ≡ order_of kept.anatomy
  one_order =
      chain_is shape others after then (order_of kept.anatomy)
      (subst (λ (words : List ℕ). IsChain words (head_of words) (order_of kept.anatomy)) same (is_chain shape opened before kept))

  gave : GaveInOrder (order_of then.anatomy) b
  gave = record {
    seen = (then.each id b now lives).sees.walked;
    met = met_listed shape others after then id b now lives;
    rises = then.cursors.ordered id b now records;
  }

  stands_behind : (cursor old new : ℕ) → a.hand.place ≡ BehindCursor cursor old new → CursorMovesOn old new b
  stands_behind cursor old new placed = (
    order_of kept.anatomy,
    (subst (StandsRight shape kept.anatomy id a) placed (kept.standing id a mine)).0,
    subst (λ (chain : List ℕ). GaveInOrder chain b) one_order gave,
  )

module _ (given : Opening) (slots id : ℕ) (me : Sat) (word : ℕ) (records : is_opener me.0.role ≡ false) where
  -- a cursor is moved, or its exchange comes too late
  pub moves_cursor : (old new cursor : ℕ) → word ≡ spot given.setting.shape.size (cursor_event (move_cursor cursor old new)) + 1
      → ((y : ℕ) → word ≡ spot me.0.segment.shape.size (cursor_event (move_cursor y old new)) + 1 → cursor ≡ y)
      → Ready me.0 (cursor_event (move_cursor cursor old new))
      → Allows (Runs given) slots id me word (change given.setting.version (cursor_event (move_cursor cursor old new))) (MovesCursor word old new me)
  moves_cursor old new cursor is one ready s run wide mine small =
      let (view, act, valid, holds, step) =
      does_at given slots id me word records (λ (x : ℕ). cursor_event (move_cursor x old new)) cursor is one ready s run wide mine small in
      let there : get_elem? run.running.segment.actors id ≡ some me.0 = ap (λ list. get_elem? list id) (sym run.running.views) ∙ mine in
      let lived : me.0.hand.place ≢ Spent = λ spent. cc (ready, spent) in
      let shaped = (run.running.kept.each id me.0 there lived).shaped in
      let told = step cursor (is ∙ ap (λ (shape : Dimensions). spot shape.size (cursor_event (move_cursor cursor old new)) + 1) (sym shaped)) in
      let first = length_shown given.setting.shape run.running.segment.words (layout_of run.running.kept.anatomy) run.running.kept.shown in
      let last = length_shown given.setting.shape holds.running.segment.words (layout_of holds.running.kept.anatomy) holds.running.kept.shown in
      let took : Bool = slice_index s.words word == old in
      let stay = words_stay run.running.segment.words holds.running.segment.words run.running.segment.cursors holds.running.segment.cursors s.words run.running.anchor holds.running.anchor word _ run.running.words
      holds.running.words (first ∙ sym last) (omega (arith, is, first)) in
      let role : is_opener view.role ≡ false =
      ap (λ (a : Actor). is_opener a.role) told.0 ∙ (ap is_opener (after_role took me.0 cursor new (slice_index s.words word)) ∙ records) in
      let rests : view.hand.place ≡ Idle = ap (λ (a : Actor). a.hand.place) told.0 ∙ after_place took me.0 cursor new (slice_index s.words word) in
      let now : get_elem? holds.running.segment.actors id ≡ some view =
      ap (λ list. get_elem? list id) (sym holds.running.views) ∙ set_here s.views id view (below_length s.views id me.0 mine) in (
        view,
        act,
        valid,
        holds,
        (
          step,
          λ other placed. stands_behind given.setting.shape run.opened holds.opened run.running.segment holds.running.segment run.running.kept holds.running.kept stay id me.0 view there now role
              (λ spent. cc (rests, spent)) other old new placed,
        ),
      )
