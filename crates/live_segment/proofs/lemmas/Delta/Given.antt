-- What a call that takes or looks leaves of what a recorder keeps.
use Rattle.std.proofs.Common.{◌≡◌, ap, ◌∙◌}
use Rattle.std.specs.Prelude.{List}
use Rattle.segment_machine.specs.declared.actor.Actor.{Actor}
use Rattle.segment_machine.specs.declared.actor.Known.{Known}
use Rattle.segment_machine.specs.Actor.{is_bound, is_opener}
use Rattle.segment_promises.specs.Onward.{is_holding}
use Rattle.live_segment.specs.declared.rule.Setting.{Setting}
use Rattle.live_segment.specs.Delta.Outcome.{HasTaken}
use Rattle.live_segment.specs.Rule.{IsOf}
use Rattle.live_segment.specs.Snapshot.Outcome.{HasSnapshot}
use Rattle.live_segment.specs.Steps.{IsAtRest}
use Rattle.std.specs.Prelude.{ℕ, ℤ}
use Rattle.segment_calls.specs.declared.answer.Snapshot.{Snapshot}

-- a delta
module _ (known : Known) (delta : List (ℤ × ℕ)) (sum : ℤ) (old new : Actor) (taken : HasTaken known delta sum old new) where
  pub taken_rests : IsAtRest old → IsAtRest new
  taken_rests rest = record {
    recorder = ap (λ (x : Actor). is_opener x.role) taken.same ∙ rest.recorder;
    free = ap (λ (x : Actor). is_bound x.hand.place) taken.same;
    apart = ap (λ (x : Actor). is_holding x.hand.place) taken.same;
    holds = ap (λ (x : Actor). x.units.held) taken.same ∙ rest.holds;
    runs = ap (λ (x : Actor). x.entries.running) taken.same ∙ rest.runs;
    takes = ap (λ (x : Actor). x.deltas.taking) taken.same;
    owes = ap (λ (x : Actor). x.answers.owed) taken.same ∙ rest.owes;
  }

  pub taken_of : (setting : Setting) → IsOf setting old → IsOf setting new
  taken_of setting of = record {
    shape = ap (λ (x : Actor). x.segment.shape) taken.same ∙ of.shape;
    version = ap (λ (x : Actor). x.segment.version) taken.same ∙ of.version;
    cursors = ap (λ (x : Actor). x.segment.cursors) taken.same ∙ of.cursors;
  }

  pub taken_names : new.answers.names ≡ old.answers.names
  taken_names = ap (λ (x : Actor). x.answers.names) taken.same

  pub taken_share : new.units.share ≡ old.units.share
  taken_share = ap (λ (x : Actor). x.units.share) taken.same

-- a snapshot
module _ (known : Known) (snapshot : Snapshot) (old new : Actor) (has : HasSnapshot known old snapshot new) where
  pub looked_rests : IsAtRest old → IsAtRest new
  looked_rests rest = record {
    recorder = ap (λ (x : Actor). is_opener x.role) has.same ∙ rest.recorder;
    free = has.free;
    apart = ap is_holding has.saw.sum;
    holds = ap (λ (x : Actor). x.units.held) has.same ∙ rest.holds;
    runs = ap (λ (x : Actor). x.entries.running) has.same ∙ rest.runs;
    takes = ap (λ (x : Actor). x.deltas.taking) has.same ∙ rest.takes;
    owes = ap (λ (x : Actor). x.answers.owed) has.same ∙ rest.owes;
  }

  pub looked_of : (setting : Setting) → IsOf setting old → IsOf setting new
  looked_of setting of = record {
    shape = ap (λ (x : Actor). x.segment.shape) has.same ∙ of.shape;
    version = ap (λ (x : Actor). x.segment.version) has.same ∙ of.version;
    cursors = ap (λ (x : Actor). x.segment.cursors) has.same ∙ of.cursors;
  }

  pub looked_names : new.answers.names ≡ old.answers.names
  looked_names = ap (λ (x : Actor). x.answers.names) has.same

  pub looked_share : new.units.share ≡ old.units.share
  looked_share = ap (λ (x : Actor). x.units.share) has.same
