use Rattle.std.proofs.Common.{◌≡◌, ℕ, ◌+◌, [], rules, refl, arith}
use Rattle.segment_machine.specs.Event.{counting_event}
use Rattle.segment_machine.specs.Counting.{add_count}
use Rattle.live_segment.specs.Steps.GhostNotes.{InSample, IsAddedToSample, value_notes}
use Rattle.live_segment.proofs.lemmas.Steps.GhostNoted.{tells, one_sampled}
use Rattle.live_segment.proofs.lemmas.Steps.Reported.{noted}
use Rattle.live_segment.proofs.segment.Segment.add_to_sample.Goals as goal

pub fetch_add-requires : goal.fetch_add-requires
fetch_add-requires c =
    let (x, fits, may) = c.requires.may in
    let word : ℕ = 1 + c.args.sample + 6 in
    let at : word ≡ x.sample + 6 + 1 = let e = fits.0 in omega arith in (
      search rules,
      search rules,
      tells c.args.self.now.table.shared.key _ _ c.args.seat.now.me word may.recorder InSample
          (λ (y : InSample). (word ≡ y.sample + 6 + 1) × IsAddedToSample c.args.seat.now.me.0 y.sample c.args.units y)
          (λ (y : InSample). value_notes c.args.seat.now.me.0 y.known y.value y.units) (λ (y : InSample). counting_event (add_count (y.sample + 6) c.args.units)) [] x
          (λ y (there, sampled). one_sampled c.args.seat.now.me.0 word c.args.units x y at there (refl, fits.1, fits.2, fits.3) sampled)
          at may.may may.ready may.goes,
    )

pub returns : goal.returns
returns c = λ x fits. noted c.fetch_add.ensures.0 c.fetch_add.ensures.1 (c.fetch_add.ensures.2 x (let e = fits.0 in omega arith, (refl, fits.1, fits.2, fits.3)))
