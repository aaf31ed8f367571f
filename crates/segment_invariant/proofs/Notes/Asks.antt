-- An actor notes what a block of its own is to hold: the invariant is kept, since the words of the block do not change.
use Rattle.segment_invariant.proofs.Prelude.Std.{◌≡◌, ℕ, ◌+◌, ◌==◌, List, set, refl, sym, ap, ◌∙◌, subst, eq-eqb, eqb-true, arith, Some, some, set-get_or, at_from, all_at}
use Rattle.segment_invariant.proofs.Prelude.Machine.{word_at, Made, Own}
use Rattle.segment_invariant.proofs.Prelude.Invariant.{held, HoldsOwn, KeptOn, NoteKeeps}
use Rattle.segment_machine.specs.Calls.{change_own}
use Rattle.segment_machine.specs.Note.{asks}
use Rattle.segment_invariant.proofs.Blocks.Pieces.{piece_word}
use Rattle.segment_invariant.proofs.Allocating.Payloads.{change_one, has_lived, fills}

pub asks_kept : (at : ℕ) (made : Made) → NoteKeeps (asks at made)
asks_kept at made shape opened state id a kept mine records (x, has, place, unasked) =
    let (i, there) = at_from a.hand.own x has in
    let fits = kept.each id a mine (has_lived shape opened state kept id a mine records i x there) in
    let is = all_at (HoldsOwn shape kept.anatomy.pieces id) a.hand.own i x fits.own there in
    let y : Own = record x { made = Some made } in
    let changed : change_own at (λ own. record own { made = Some made }) a.hand.own ≡ set a.hand.own i y =
    change_one (λ (own : Own). own.at == at) (λ (own : Own). record own { made = Some made }) a.hand.own i x there
    (eq-eqb x.at at place) (λ j z here passes. fits.apart j i z x here there (eqb-true z.at at passes ∙ sym place)) in
    let word : word_at state.words (x.at + 0) ≡ x.size =
    piece_word shape state.words kept.anatomy kept.shown is.stands.0 (record { at = x.at; owner = some id; body = held x }) 0 is.stands.1 (omega arith) in
    let same : set state.words (x.at + 0) x.size ≡ state.words =
    ap (set state.words (x.at + 0)) (sym word) ∙ set-get_or state.words (x.at + 0) 0 in
    subst (λ (s : List ℕ × List Own). KeptOn shape opened kept (record { words = s.0; cursors = state.cursors; actors = set state.actors id (record a { hand = record a.hand { own = s.1 } }) }))
    (λ e. (same e, sym changed e))
    (fills shape opened state kept id a mine records i x y 0 x.size there refl refl is.tagged refl (omega arith) is.room is.ends refl)
