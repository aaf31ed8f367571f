use Rattle.std.proofs.Common.{◌≡◌, ℕ, ℤ, pos, refl, sym, subst, ◌∙◌, arith}
use Rattle.std.proofs.Math.Seq.{map-set_same}
use Rattle.live_segment.specs.Snapshot.Counts.{HasLookedAt}
use Rattle.live_segment.proofs.lemmas.Snapshot.Totals.{looks_first, may_load, looked}
use Rattle.live_segment.proofs.segment.Segment.look_at_counts.Goals as goal

pub loop-bucket-init : goal.loop-bucket-init
loop-bucket-init c = record {
  same = (refl, refl, refl);
  keys = refl;
  has = looks_first c.args.counts c.args.seat.now.me.0 c.args.totals.now;
}

pub load_count-requires-clause-may : goal.load_count-requires-clause-may
load_count-requires-clause-may c =
    may_load c.args.self.now c.args.counts _ c.args.seat.now c.loop-bucket.seat c.requires.may c.loop-bucket.bucket c.loop-bucket.totals
    c.loop-bucket.invariant.has c.loop-bucket.invariant.same c.loop-bucket-test.true

pub loop-bucket-preserved : goal.loop-bucket-preserved
loop-bucket-preserved c =
    let was = c.loop-bucket.invariant in
    let step = c.load_count.ensures in record {
      same = (step.same.0 ∙ was.same.0, step.same.1 ∙ was.same.1, step.same.2 ∙ was.same.2);
      keys = map-set_same (λ (total : ℤ × ℕ). total.0) c.loop-bucket.totals c.loop-bucket.bucket _ (pos 0, 0) refl ∙ was.keys;
      has = looked c.args.self.now c.args.counts _ c.args.seat.now c.loop-bucket.seat c.requires.may c.loop-bucket.bucket c.loop-bucket.totals was.has _ _ _ step;
    }

pub returns-clause-same : goal.returns-clause-same
returns-clause-same c = c.loop-bucket.invariant.same

pub returns-clause-keys : goal.returns-clause-keys
returns-clause-keys c = c.loop-bucket.invariant.keys

pub returns-clause-counts : goal.returns-clause-counts
returns-clause-counts c =
    let long = c.loop-bucket.auto.totals in
    let ended : c.loop-bucket.bucket ≡ _ = omega (arith, c.loop-bucket-test.false, c.loop-bucket.auto.bucket-end) in
    subst (λ (n : ℕ). HasLookedAt c.args.counts c.args.seat.now.me.0 n c.loop-bucket.totals c.loop-bucket.seat.me.0) (ended ∙ sym long)
    c.loop-bucket.invariant.has
