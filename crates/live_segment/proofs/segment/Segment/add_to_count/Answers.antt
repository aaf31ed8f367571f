use Rattle.std.proofs.Common.{◌≡◌, ℕ, ◌+◌, [], rules, refl, arith}
use Rattle.segment_machine.specs.Event.{counting_event}
use Rattle.segment_machine.specs.Counting.{add_count}
use Rattle.live_segment.specs.Steps.GhostNotes.{InCounts, IsAddedTo, bucket_notes}
use Rattle.live_segment.proofs.lemmas.Steps.GhostNoted.{tells, one_added}
use Rattle.live_segment.proofs.lemmas.Steps.Reported.{noted}
use Rattle.live_segment.proofs.segment.Segment.add_to_count.Goals as goal

pub fetch_add-requires : goal.fetch_add-requires
fetch_add-requires c =
    let (x, fits, may) = c.requires.may in
    let word : ℕ = 1 + c.args.at in
    let at : word ≡ x.counts + 4 + x.bucket + 1 = let e = fits.2 in omega arith in (
      search rules,
      search rules,
      tells c.args.self.now.table.shared.key _ _ c.args.seat.now.me word may.recorder InCounts
          (λ (y : InCounts). (word ≡ y.counts + 4 + y.bucket + 1) × IsAddedTo c.args.seat.now.me.0 (y.counts + 4 + y.bucket) c.args.units y)
          (λ (y : InCounts). bucket_notes c.args.seat.now.me.0 y.known y.bucket y.units) (λ (y : InCounts). counting_event (add_count (y.counts + 4 + y.bucket) c.args.units)) [] x
          (λ y (there, added). one_added c.args.seat.now.me.0 word c.args.units x y at there (fits.0, fits.1, refl, fits.3) added)
          at may.may may.ready may.goes,
    )

pub returns : goal.returns
returns c = λ x fits. noted c.fetch_add.ensures.0 c.fetch_add.ensures.1 (c.fetch_add.ensures.2 x (let e = fits.2 in omega arith, (fits.0, fits.1, refl, fits.3)))
