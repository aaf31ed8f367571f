-- Steps that walk along the list, fill a block and publish it keep the rule.
use Rattle.std.proofs.Common.{◌≡◌, ◌≢◌, ℕ, ◌+◌, ◌-◌, ◌≤◌, ◌++◌, false, length, replicate, Contains, sym, ap, subst, ◌∙◌, slice_index, length-append, arith}
use Rattle.std.proofs.lemmas.List.{length-replicate}
use mathlib.Core.Option.{some, some-injective, some-ne-none}
use lib.ListN.{get_elem?}
use Rattle.atomic_table.specs.Table.{carried_after, Allows}
use Rattle.segment_image.specs.Shape.{Dimensions}
use Rattle.segment_machine.specs.declared.actor.Actor.{Actor}
use Rattle.segment_machine.specs.declared.actor.Own.{Own}
use Rattle.segment_machine.specs.declared.place.Place.TheVariants.{Spent}
use Rattle.segment_machine.specs.Actor.{is_opener}
use Rattle.segment_machine.specs.Allocating.{store_payload}
use Rattle.segment_machine.specs.Calls.{sight}
use Rattle.segment_machine.specs.Event.{change, Ready, allocating_event, walking_event}
use Rattle.segment_machine.specs.Seats.{purse}
use Rattle.segment_machine.specs.State.{State}
use Rattle.segment_machine.specs.Walking.{load_published}
use Rattle.segment_invariant.specs.Body.{Anatomy, Piece, held, own_words}
use Rattle.segment_invariant.specs.Invariant.{HoldsOwn, Invariant, StandsRight}
use Rattle.segment_invariant.proofs.Lists.Elements.{all_at, at_from}
use Rattle.segment_invariant.proofs.Blocks.Pieces.{one_index}
use Rattle.live_segment.specs.declared.rule.Opening.{Opening}
use Rattle.live_segment.specs.Rule.{Runs}
use Rattle.live_segment.specs.Steps.{Does, Sat}
use Rattle.live_segment.specs.Steps.Listing.{LoadsPublished, StoresPayload}
use Rattle.live_segment.proofs.lemmas.Steps.Allowed.{does}

-- ---- blocks of its own

-- the words of a block of its own are as many as it says
own_long : (own : Own) → length own.payload + 4 ≤ own.size → length (own_words own) ≡ own.size
own_long own room =
    let both = length-append own.payload (replicate (own.size - 4 - length own.payload) 0) in
    let zeros = length-replicate {A = ℕ} (own.size - 4 - length own.payload) 0 in
    omega (arith, both, zeros, room)

module _ (shape : Dimensions) (opened : Anatomy) (state : State) (kept : Invariant shape opened state) (id : ℕ) (a : Actor)
    (mine : get_elem? state.actors id ≡ some a) where
  -- an actor with a block lives
  with_block : (own : Own) → Contains a.hand.own own → a.hand.place ≢ Spent
  with_block own has is_spent =
      let nobody : a ≡ purse a.units.share = subst (StandsRight shape kept.anatomy id a) is_spent (kept.standing id a mine) in
      let (i, there) = at_from a.hand.own own has in
      some-ne-none own (sym there ∙ ap (λ (b : Actor). get_elem? b.hand.own i) nobody)

  holds_block : (own : Own) → Contains a.hand.own own → HoldsOwn shape kept.anatomy.pieces id own
  holds_block own has =
      let (i, there) = at_from a.hand.own own has in
      all_at (HoldsOwn shape kept.anatomy.pieces id) a.hand.own i own (kept.each id a mine (with_block own has)).own there

  -- two of its blocks that share a word of their payloads begin at one word
  one_block : (at index other place value : ℕ) → Ready a (allocating_event (store_payload at index value))
      → Ready a (allocating_event (store_payload other place value)) → at + index ≡ other + place → at ≡ other
  one_block at index other place value (own, fills, is, behind, inside) (mine_too, fills_too, same, beyond, within) here =
      let first = holds_block own fills.0 in
      let second = holds_block mine_too fills_too.0 in
      let (k, there) = first.stands in
      let (j, beside) = second.stands in
      let long = own_long own first.room in
      let wide = own_long mine_too second.room in
      let p : Piece = record { at = own.at; owner = some id; body = held own } in
      let q : Piece = record { at = mine_too.at; owner = some id; body = held mine_too } in
      let index_same : k ≡ j = one_index shape state.words kept.anatomy kept.shown k j p q (4 + index) (4 + place) there beside
      (omega (arith, long, inside)) (omega (arith, wide, within)) (omega (arith, is, same, here)) in
      let one : p ≡ q = some-injective p q (sym there ∙ (ap (get_elem? kept.anatomy.pieces) index_same ∙ beside)) in
      sym is ∙ (ap (λ (r : Piece). r.at) one ∙ same)

-- ---- steps

module _ (given : Opening) (slots id : ℕ) (me : Sat) (word : ℕ) (records : is_opener me.0.role ≡ false) where
  -- a word of a published record is loaded, whichever record it is taken to be of
  pub loads_published : (at index : ℕ) → word ≡ at + index + 1 → Ready me.0 (walking_event (load_published at index))
      → Allows (Runs given) slots id me word (change given.setting.version (walking_event (load_published at index))) (LoadsPublished word me)
  loads_published at index is ready s run wide mine small =
      let (view, act, valid, holds, told) =
      does given slots id me word records (walking_event (load_published at index)) is ready s run wide mine small in (
        view,
        act,
        valid,
        holds,
        λ other place same may.
            let (_, _, _, _, again) = does given slots id me word records (walking_event (load_published other place)) same may s run wide mine small in
            let one : at + index ≡ other + place = omega arith in
            (told.0 ∙ ap (λ (n : ℕ). record me.0 { seen = record me.0.seen { words = me.0.seen.words ++ sight n (slice_index s.words word) } }) one, told.1, again.2),
      )

  -- a word of a payload is stored, into whichever block of its own it lies in
  pub stores_payload : (at index value : ℕ) → word ≡ at + 4 + index + 1 → Ready me.0 (allocating_event (store_payload at index value))
      → Allows (Runs given) slots id me word (change given.setting.version (allocating_event (store_payload at index value))) (StoresPayload word value me)
  stores_payload at index value is ready s run wide mine small =
      let there : get_elem? run.running.segment.actors id ≡ some me.0 = ap (λ list. get_elem? list id) (sym run.running.views) ∙ mine in
      let (view, act, valid, holds, told) =
      does given slots id me word records (allocating_event (store_payload at index value)) (omega arith) ready s run wide mine small in (
        view,
        act,
        valid,
        holds,
        λ other place same may.
            let one : at ≡ other = one_block given.setting.shape run.opened run.running.segment run.running.kept id me.0 there at index other place value ready may (omega arith) in
            let spot : index ≡ place = omega arith in (
              subst (λ (p : ℕ × ℕ). Does (allocating_event (store_payload p.0 p.1 value)) me (slice_index s.words word) (view, carried_after me.1 act))
                  (λ i. (one i, spot i)) told,
              λ living. (run.running.kept.each id me.0 there living).apart,
            ),
      )
