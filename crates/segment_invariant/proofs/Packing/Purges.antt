-- A counts block that is not needed is purged: its type becomes 0, and its call looks on.
use Rattle.segment_invariant.proofs.Prelude.Std.{◌≡◌, ℕ, ◌+◌, ◌==◌, List, set, refl, sym, ap, ◌∙◌, subst, arith, eq-eqb, eqb-true, false, some, get_elem?, at_from, all_at}
use Rattle.segment_invariant.proofs.Prelude.Machine.{Dimensions, Actor, Own, Place, Looking, State, purge_block, packing_event, Ready, back, is_opener}
use Rattle.segment_invariant.proofs.Prelude.Invariant.{Anatomy, layout_of, StandsRight, HoldsOwn, is_beaten, Invariant, KeptOn}
use Rattle.alloc_core.proofs.Layouts.{length_shown}
use Rattle.segment_machine.specs.Calls.{change_own}
use Rattle.segment_invariant.proofs.Frames.GoesOn.{happens}
use Rattle.segment_invariant.proofs.Frames.OneActor.{is_plain, turns_plain}
use Rattle.segment_invariant.proofs.Frames.Shown.{Goes}
use Rattle.segment_invariant.proofs.Allocating.Payloads.{change_one, has_lived, fills_at}

module _ (shape : Dimensions) (opened : Anatomy) (state : State) (kept : Invariant shape opened state) (id : ℕ) (a : Actor)
    (mine : get_elem? state.actors id ≡ some a) (records : is_opener a.role ≡ false) where
  pub block_purged : (at : ℕ) → Ready a (packing_event (purge_block at)) → Goes shape opened state kept id a mine records (packing_event (purge_block at))
  block_purged at (look, placed) =
      let (right, refers, apart, (x, has, place, tag)) = subst (StandsRight shape kept.anatomy id a) placed (kept.standing id a mine) in
      let (i, there) = at_from a.hand.own x has in
      let fits = kept.each id a mine (has_lived shape opened state kept id a mine records i x there) in
      let is = all_at (HoldsOwn shape kept.anatomy.pieces id) a.hand.own i x fits.own there in
      let y : Own = record x { tag = 0 } in
      let changed : change_own at (λ own. record own { tag = 0 }) a.hand.own ≡ set a.hand.own i y =
      change_one (λ (own : Own). own.at == at) (λ (own : Own). record own { tag = 0 }) a.hand.own i x there
      (eq-eqb x.at at place) (λ j z here passes. fits.apart j i z x here there (eqb-true z.at at passes ∙ sym place)) in
      let size = length_shown shape state.words (layout_of kept.anatomy) kept.shown in
      let within = is.placed.within in
      let room = is.room in
      happens opened.version state id a (packing_event (purge_block at)) (omega (arith, place, size, within, room)) shape opened kept (
        subst (λ (s : ℕ × List Own × Place). KeptOn shape opened kept (record {
          words = set state.words (s.0 + 2) 0;
          cursors = state.cursors;
          actors = set state.actors id (record a { hand = record { place = s.2; own = s.1 } });
        })) (λ e. (place e, sym changed e, ap back (sym placed) e))
            (fills_at shape opened state kept id a mine records i x y 2 0 there refl refl (omega arith) refl (omega arith) room is.ends (Looking look)
            (turns_plain a (Looking look) (ap is_plain placed) refl) (λ no. ap is_beaten placed)
            right),
        tt,
      )
