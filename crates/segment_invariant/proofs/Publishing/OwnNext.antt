-- The next of a block of one's own is stored: it waits for its link.
use Rattle.segment_invariant.proofs.Prelude.Std.{◌≡◌, ℕ, ◌+◌, ◌==◌, List, set, inr, refl, sym, ◌∙◌, subst, arith, eq-eqb, eqb-true, false, some, get_elem?, at_from, all_at}
use Rattle.segment_invariant.proofs.Prelude.Machine.{Dimensions, Actor, Own, State, store_own_next, publishing_event, Ready, is_opener}
use Rattle.segment_invariant.proofs.Prelude.Invariant.{Anatomy, layout_of, HoldsOwn, Invariant, KeptOn}
use Rattle.alloc_core.proofs.Layouts.{length_shown}
use Rattle.segment_machine.specs.Calls.{change_own}
use Rattle.segment_invariant.proofs.Frames.GoesOn.{happens}
use Rattle.segment_invariant.proofs.Allocating.Payloads.{change_one, has_lived, fills}
use Rattle.segment_invariant.proofs.Frames.Shown.{Goes}

module _ (shape : Dimensions) (opened : Anatomy) (state : State) (kept : Invariant shape opened state) (id : ℕ) (a : Actor)
    (mine : get_elem? state.actors id ≡ some a) (records : is_opener a.role ≡ false) where
  pub own_next_stored : (at : ℕ) → Ready a (publishing_event (store_own_next at)) → Goes shape opened state kept id a mine records (publishing_event (store_own_next at))
  own_next_stored at (x, (has, unended), place) =
      let (i, there) = at_from a.hand.own x has in
      let fits = kept.each id a mine (has_lived shape opened state kept id a mine records i x there) in
      let is = all_at (HoldsOwn shape kept.anatomy.pieces id) a.hand.own i x fits.own there in
      let y : Own = record x { next = 12 } in
      let changed : change_own at (λ own. record own { next = 12 }) a.hand.own ≡ set a.hand.own i y =
      change_one (λ (own : Own). own.at == at) (λ (own : Own). record own { next = 12 }) a.hand.own i x there
      (eq-eqb x.at at place) (λ j z here passes. fits.apart j i z x here there (eqb-true z.at at passes ∙ sym place)) in
      let size = length_shown shape state.words (layout_of kept.anatomy) kept.shown in
      let within = is.placed.within in
      let room = is.room in
      happens opened.version state id a (publishing_event (store_own_next at)) (omega (arith, place, size, within, room)) shape opened kept (
        subst (λ (s : ℕ × List Own). KeptOn shape opened kept (record {
          words = set state.words (s.0 + 3) 12;
          cursors = state.cursors;
          actors = set state.actors id (record a { hand = record a.hand { own = s.1 } });
        })) (λ e. (place e, sym changed e))
            (fills shape opened state kept id a mine records i x y 3 12 there refl refl is.tagged refl (omega arith) room (inr refl) refl),
        tt,
      )
