use Rattle.std.proofs.Common.{List, map, ap, sym, subst, ◌∙◌, arith, rules}
use Rattle.std.specs.List.{All}
use Rattle.live_segment.specs.declared.recorder.KnownHistogram.{KnownHistogram}
use Rattle.live_segment.specs.Hist.KnownNames.{HasNames}
use Rattle.live_segment.specs.Known.{known_view, KnowsRight}
use Rattle.live_segment.proofs.recorder.state.RecorderState.new.Goals as goal

pub returns-clause-at : goal.returns-clause-at
returns-clause-at c = record {
  seated = record { table = c.requires.fits.0; recorder = c.requires.rests.0.recorder; of = c.requires.set };
  rests = c.requires.rests.0;
  counted = c.requires.rests.1;
  listed = ap (map known_view) c.new.ensures.items ∙ sym c.requires.rests.2;
  right = subst (All (KnowsRight c.args.segment.now.setting c.args.seat.me.0)) (sym c.new.ensures.items) (λ k d below. absurd (omega (arith, below)));
  free = c.requires.fits.1;
  come = search rules;
  named = subst (λ (known : List KnownHistogram). HasNames known c.new-names.result) (sym c.new.ensures.items) c.new-names.ensures;
  indexed = c.new-index.ensures _ _;
  sampled = c.new-samples.ensures _ _;
}
