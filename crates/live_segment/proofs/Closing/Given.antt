-- What a shared cursor gave before a segment was closed is a front of the list.
use Rattle.std.proofs.Common.{◌≡◌, ℕ, ◌<◌, List, ◌++◌, take, drop, refl, sym, subst}
use Rattle.std.proofs.lemmas.List.{take-append-drop}
use Rattle.segment_image.specs.Head.{head_of}
use Rattle.list_core.specs.Chain.{IsChain}
use Rattle.segment_machine.specs.declared.actor.Actor.{Actor}
use Rattle.segment_machine.specs.Actor.{all_given, given_by, outstanding_of}
use Rattle.segment_invariant.specs.Body.{order_of}
use Rattle.segment_promises.proofs.Joined.{fits, gathered}
use Rattle.segment_promises.proofs.Readings.Lists.{is_chain}
use Rattle.live_segment.specs.declared.rule.Opening.{Opening}
use Rattle.live_segment.specs.Rule.{Closes}
use Rattle.live_segment.specs.Closing.{GaveFronts, IsFrontOf}

module _ (given : Opening) (opener : Actor) (words : List ℕ) (closes : Closes given opener words) where
  -- what it gave all
  pub gave_all : (cursor : ℕ) → cursor < opener.segment.cursors → IsFrontOf words (all_given closes.state.actors cursor)
  gave_all cursor few =
      let shape = given.setting.shape in
      let kept = closes.kept in
      let state = closes.state in
      let chain = order_of kept.anatomy in
      let numbered = (fits shape closes.opened state opener kept closes.stands).numbered in
      let (place, low, stands, permuted) = kept.cursors.stand cursor (subst (λ (n : ℕ). cursor < n) numbered few) in
      let list = subst (IsChain state.words (head_of state.words)) (sym (take-append-drop place chain)) (is_chain shape closes.opened state kept) in record {
        front = take place chain;
        behind = drop place chain;
        list = subst (λ (ws : List ℕ). IsChain ws (head_of ws) (take place chain ++ drop place chain)) (sym closes.words_are) list;
        same = permuted;
      }

  -- once all recorders are joined, that is what it gave theirs
  pub gave : outstanding_of opener.role ≡ 0 → GaveFronts opener words
  gave none cursor few =
      subst (IsFrontOf words)
      (gathered given.setting.shape closes.opened closes.state opener closes.kept (closes.stands, none) (λ (a : Actor). given_by cursor a.done.given) (λ units. refl))
      (gave_all cursor few)
