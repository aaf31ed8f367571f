use Rattle.std.proofs.Common.{ℕ, ◌≡◌, ◌+◌, ℤ, w32, FitsSigned, rules, arith, inr, sym, ap, subst}
use Rattle.std.proofs.lemmas.Int.{to_z-of_z}
use Rattle.segment_machine.specs.declared.actor.Actor.{Actor}
use Rattle.segment_machine.specs.Actor.{SawCount}
use Rattle.segment_machine.specs.Made.{SawSample}
use Rattle.live_segment.specs.List.SampleRecords.{SamplesAreFew}
use Rattle.live_segment.proofs.lemmas.Delta.SampleCounts.{may_count, saw_sample, saw_found, not_later, loaded}
use Rattle.live_segment.proofs.segment.Segment.sample_at.Goals as goal

pub load_count_of_sample-count-requires-clause-may : goal.load_count_of_sample-count-requires-clause-may
load_count_of_sample-count-requires-clause-may c =
    may_count c.args.at c.in_ok-value.value c.requires.looks c.requires.met c.in_ok-value.ensures.read.same c.in_ok-value.ensures.read.view c.in_ok-value.ensures.shown.0

pub returns-then-count-eq0-clause-counts : goal.returns-then-count-eq0-clause-counts
returns-then-count-eq0-clause-counts c =
    let saw = saw_sample c.args.at c.in_ok-value.value c.requires.looks c.requires.met c.in_ok-value.ensures.read.same c.in_ok-value.ensures.read.view c.in_ok-value.ensures.shown.0
    c.load_count_of_sample-count.ensures.step in
    let found = saw_found c.args.at c.in_ok-value.value c.requires.looks c.requires.met c.in_ok-value.ensures.read.same c.in_ok-value.ensures.read.view c.in_ok-value.ensures.shown.0
    c.load_count_of_sample-count.ensures.step in
    inr (c.in_ok-value.value, saw, subst (λ (n : ℕ). SawCount c.load_count_of_sample-count.new.seat.me.0 (c.args.at + 6) n) c.if-count-eq0.true found)

pub returns-clause-counts : goal.returns-clause-counts
returns-clause-counts c =
    let saw = saw_sample c.args.at c.in_ok-value.value c.requires.looks c.requires.met c.in_ok-value.ensures.read.same c.in_ok-value.ensures.read.view c.in_ok-value.ensures.shown.0
    c.load_count_of_sample-count.ensures.step in
    let found = saw_found c.args.at c.in_ok-value.value c.requires.looks c.requires.met c.in_ok-value.ensures.read.same c.in_ok-value.ensures.read.view c.in_ok-value.ensures.shown.0
    c.load_count_of_sample-count.ensures.step in
    let fits : FitsSigned w32 c.in_ok-value.value = search rules in
    let some = c.if-count-eq0.false in
    let size : c.load_count_of_sample-count.new.seat.me.0.segment.shape.size ≡ c.shows_sample.new.seat.me.0.segment.shape.size =
    ap (λ (a : Actor). a.segment.shape.size) c.load_count_of_sample-count.ensures.step.view in
    let within = c.in_ok-value.ensures.shown.1 in record {
      saw = subst (λ (n : ℤ). SawSample c.load_count_of_sample-count.new.seat.me.0.seen c.args.histogram.now.reference n c.args.at) (sym (to_z-of_z w32 c.in_ok-value.value fits)) saw;
      counted = found;
      some = some;
      first = not_later c.args.at c.in_ok-value.value c.requires.looks c.requires.met c.in_ok-value.ensures.read.same c.in_ok-value.ensures.read.view c.in_ok-value.ensures.shown.0
          c.load_count_of_sample-count.ensures.step some;
      within = omega (arith, size, within);
      loaded = loaded c.args.at c.in_ok-value.value c.requires.looks c.requires.met c.in_ok-value.ensures.read.same c.in_ok-value.ensures.read.view c.in_ok-value.ensures.shown.0
          c.load_count_of_sample-count.ensures.step;
    }

pub returns-clause-few : goal.returns-clause-few
returns-clause-few c = subst SamplesAreFew (sym c.load_count_of_sample-count.ensures.step.view) c.load_count_of_sample-count.ensures.few
