use Rattle.std.proofs.Common.{rules, ◌≡◌, ◌∙◌, ℕ, List, length, map, min, sym, ap, subst, arith}
use Rattle.std.specs.Prelude.{sum_by, vec_len}
use Rattle.std.proofs.lemmas.List.{length-map}
use Rattle.bucket_ranges.specs.Reading.{Histogram}
use Rattle.image_reader.specs.Views.{histogram_view, reading_view}
use Rattle.image_reader.specs.declared.reading.HistReading.{HistReading}
use Rattle.segment_promises.proofs.Counts.{sum_of_map}
use Rattle.segment_merge.specs.declared.following.FollowStep.{FollowStep}
use Rattle.segment_merge.specs.Follower.{noted_of}
use Rattle.segment_merge.specs.Merge.{cost_left, units_left}
use Rattle.segment_merge.specs.Noted.{HaveNotes}
use Rattle.segment_merge.specs.Steps.{HasRoomFor, hists_of}
use Rattle.segment_merge.proofs.NewUnits.{new_units}
use Rattle.segment_merge.proofs.follower.Follower.prepared.Goals as goal

-- a sum over the histograms of steps is one over those of which the steps were made
over_steps : (amount : Histogram → ℕ) (hists passed : List HistReading) (steps : List FollowStep) → passed ≡ hists → hists_of steps ≡ map histogram_view hists
    → sum_by (λ (h : HistReading). amount (histogram_view h)) passed ≡ sum_by amount (hists_of steps)
over_steps amount hists passed steps these same =
    ap (sum_by (λ (h : HistReading). amount (histogram_view h))) these
    ∙ (sym (sum_of_map amount histogram_view hists) ∙ ap (sum_by amount) (sym same))

pub returns-clause-answer : goal.returns-clause-answer
returns-clause-answer c =
    let noted : List Histogram = noted_of c.args.self.now in
    let hists : List HistReading = c.in_ok-hists.hists.items in
    let steps : List FollowStep = c.in_ok-steps_of.field-0.items in
    let same : hists_of steps ≡ map histogram_view hists = c.in_ok-steps_of.ensures.hists in
    let one = length-map steps (λ (step : FollowStep). histogram_view step.hist) in
    let other = length-map hists histogram_view in
    let long = ap length same in
    let many : vec_len c.in_ok-steps_of.field-0 ≡ length steps = search rules in
    let room : c.len.result ≡ length hists = search rules in
    let room_again : c.len-2.result ≡ length hists = search rules in
    let cost = over_steps cost_left hists c.deref.result.now steps c.deref.ensures.value same in
    let have : HaveNotes noted (reading_view c.args.reading).hists (hists_of steps) =
    subst (HaveNotes noted (reading_view c.args.reading).hists) (sym same) c.in_ok-hists.ensures.answer in
    let units = over_steps units_left hists c.deref.result.now steps c.deref.ensures.value same
    ∙ new_units noted (reading_view c.args.reading).hists (hists_of steps) have in
    let least : ℕ → ℕ = λ n. min n 18446744073709551615 in
    let below = c.if-above-most.false in
    let enough : c.len.result ≡ vec_len c.in_ok-steps_of.field-0 = omega (arith, one, other, long, many, room) in
    record {
      have = have;
      tells = record {
        units = c.in_ok-report.ensures.units ∙ (c.above_all-above.ensures.units ∙ ap least units);
        cost = c.in_ok-report.ensures.cost ∙ (c.above_all-above.ensures.cost ∙ ap least cost);
      };
      cheap = omega (arith, c.in_ok-report.ensures.cost, below);
      steps = c.in_ok-steps_of.ensures.steps;
      room = subst (λ (n : ℕ). HasRoomFor n c.in_ok-report.report) enough c.in_ok-report.ensures.room;
      added = c.in_ok-report.ensures.added;
      passed = c.in_ok-report.ensures.passed;
      stopped = c.in_ok-report.ensures.stopped;
      notes = c.in_ok-noted.ensures.items;
      notes_room = omega (arith, c.in_ok-noted.ensures.capacity, room, room_again, enough);
    }
