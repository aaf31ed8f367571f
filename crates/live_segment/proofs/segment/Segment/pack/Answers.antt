use Rattle.std.proofs.Common.{◌≡◌, ℕ, ◌+◌, [], rules, refl, arith}
use Rattle.segment_machine.specs.Event.{packing_event}
use Rattle.segment_machine.specs.Packing.{pack}
use Rattle.live_segment.specs.Steps.GhostNotes.{InWord, IsPacked, bucket_notes}
use Rattle.live_segment.proofs.lemmas.Steps.GhostNoted.{tells, one_packed}
use Rattle.live_segment.proofs.lemmas.Steps.Reported.{noted}
use Rattle.live_segment.proofs.segment.Segment.pack.Goals as goal

pub compare_exchange-requires : goal.compare_exchange-requires
compare_exchange-requires c =
    let (x, fits, may) = c.requires.may in
    let word : ℕ = 1 + c.args.histogram + 9 in
    let at : word ≡ x.known.reference + 9 + 1 = let e = fits.0 in omega arith in (
      search rules,
      search rules,
      tells c.args.self.now.table.shared.key _ _ c.args.seat.now.me word may.recorder InWord
          (λ (y : InWord). (word ≡ y.known.reference + 9 + 1) × IsPacked c.args.seat.now.me.0 y.known.reference c.args.old c.args.new y)
          (λ (y : InWord). bucket_notes c.args.seat.now.me.0 y.known y.bucket y.units) (λ (y : InWord). packing_event (pack y.known.reference c.args.old c.args.new)) [] x
          (λ y (there, packed). one_packed c.args.seat.now.me.0 word c.args.old c.args.new x y at there (refl, fits.1, fits.2) packed)
          at may.may may.ready may.goes,
    )

pub returns : goal.returns
returns c = λ x fits. noted c.compare_exchange.ensures.0 c.compare_exchange.ensures.1 (c.compare_exchange.ensures.2 x (let e = fits.0 in omega arith, (refl, fits.1, fits.2)))
