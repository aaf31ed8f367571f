-- The free pointer of the words of a closed segment is where it was at the opening, and higher by what was noted.
use Rattle.std.proofs.Common.{◌≡◌, ℕ, ◌+◌, List, sym, ap, subst, arith}
use Rattle.segment_image.specs.Words.{word_at}
use Rattle.segment_machine.specs.declared.actor.Actor.{Actor}
use Rattle.segment_machine.specs.Reached.{IsReached}
use Rattle.segment_promises.specs.FreePointer.{all_raised}
use Rattle.segment_promises.proofs.FreePointer.{free_pointer_is_raised, opener_raised, opener_within}
use Rattle.live_segment.specs.declared.rule.Opening.{Opening}
use Rattle.live_segment.specs.Rule.{Closes, opening_state, words_of}
use Rattle.live_segment.specs.Closing.{IsRisenBy}

module _ (given : Opening) (opener : Actor) (words : List ℕ) (closes : Closes given opener words) where
  -- by what all have noted
  by_all : word_at words 7 ≡ word_at (words_of given) 7 + all_raised closes.state.actors
  by_all =
      let reached = subst (λ (version : ℕ). IsReached version (opening_state given) closes.state) (sym closes.as_said.version) closes.come in
      let same = ap (λ (list : List ℕ). word_at list 7) closes.words_are in
      let law : word_at closes.state.words 7 + 0 ≡ word_at (words_of given) 7 + all_raised closes.state.actors =
      free_pointer_is_raised given.setting.shape closes.opened (opening_state given) closes.state closes.start reached in
      omega (arith, same, law)

  pub risen : IsRisenBy given opener words
  risen = record {
    least = let all = by_all in let own = opener_within closes.state opener closes.stands in omega (arith, all, own);
    exact = λ none.
        let all = by_all in
        let own = opener_raised given.setting.shape closes.opened closes.state opener closes.kept (closes.stands, none) in
        omega (arith, all, own);
  }
