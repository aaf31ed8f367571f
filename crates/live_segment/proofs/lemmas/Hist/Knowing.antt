-- What a recorder knows of its histograms stays right while it knows the same and sees more of the list.
use Rattle.std.proofs.Common.{◌≡◌, Bool, ◌||◌, List, ap, ◌∙◌, ◌==◌}
use Rattle.std.specs.List.{All, list_any}
use Rattle.std.proofs.lemmas.List.Folds.{list_any-append}
use Rattle.segment_machine.specs.declared.actor.Actor.{Actor}
use Rattle.segment_machine.specs.declared.actor.Known.{Known}
use Rattle.segment_machine.specs.Actor.{known_at}
use Rattle.live_segment.specs.declared.recorder.KnownHistogram.{KnownHistogram}
use Rattle.live_segment.specs.declared.rule.Setting.{Setting}
use Rattle.live_segment.specs.Known.{KnowsRight}
use Rattle.segment_promises.specs.Onward.{Grows}

module _ (setting : Setting) (a b : Actor) (names : b.answers.names ≡ a.answers.names) (chain : Grows a.seen.chain b.seen.chain) where
  pub right_on : (known : KnownHistogram) → KnowsRight setting a known → KnowsRight setting b known
  right_on known right =
      let (more, is) = chain in record {
        named = right.named;
        lawful = right.lawful;
        small = right.small;
        ranges = right.ranges;
        alone = ap (λ (l : List Known). known_at l known.reference) names ∙ right.alone;
        met = ap (list_any (λ at. at == known.reference)) is
            ∙ (list_any-append (λ at. at == known.reference) a.seen.chain more ∙ ap (λ (t : Bool). t || list_any (λ at. at == known.reference) more) right.met);
        room = right.room;
        fits = right.fits;
      }

  pub rights_on : (list : List KnownHistogram) → All (KnowsRight setting a) list → All (KnowsRight setting b) list
  rights_on list right k d below = right_on _ (right k d below)
