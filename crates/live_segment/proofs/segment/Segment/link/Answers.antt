use Rattle.std.proofs.Common.{◌≡◌, ℕ, ◌+◌, [], rules, refl, sym, ap, ◌∙◌, arith, Some}
use mathlib.Core.Option.{some, some-injective}
use Rattle.segment_machine.specs.Event.{publishing_event}
use Rattle.segment_machine.specs.Publishing.{link}
use Rattle.live_segment.specs.declared.rule.Announcement.{Announcement}
use Rattle.live_segment.specs.Steps.Listing.{InLink, asked_for, link_notes}
use Rattle.live_segment.proofs.lemmas.Steps.GhostNoted.{tells}
use Rattle.live_segment.proofs.lemmas.Steps.Reported.{noted}
use Rattle.live_segment.proofs.segment.Segment.link.Goals as goal

pub compare_exchange_with-requires : goal.compare_exchange_with-requires
compare_exchange_with-requires c =
    let (made, asked, may) = c.requires.may in
    let word : ℕ = 1 + c.args.tail + 3 in
    let x : InLink = record { tail = c.args.tail; made = made } in (
      search rules,
      search rules,
      tells c.args.self.now.table.shared.key _ _ c.args.seat.now.me word may.recorder InLink
          (λ (y : InLink). (word ≡ y.tail + 3 + 1) × ((saying : Announcement) × (some c.args.said.now ≡ some saying) × (asked_for saying ≡ Some y.made)))
          (λ (y : InLink). link_notes c.args.seat.now.me.0 c.args.at y.made) (λ (y : InLink). publishing_event (link y.tail c.args.at)) [] x
          (λ y (there, (saying, said, is)).
          let tail : c.args.tail ≡ y.tail = omega arith in
          let both : Some made ≡ Some y.made = sym asked ∙ (ap asked_for (some-injective _ _ said) ∙ is) in
          let one : made ≡ y.made = cc in
          (λ i. record { tail = tail i; made = one i }))
          (omega arith) may.may may.ready may.goes,
    )

pub returns : goal.returns
returns c = λ made asked.
    noted c.compare_exchange_with.ensures.0 c.compare_exchange_with.ensures.1 (c.compare_exchange_with.ensures.2 (record { tail = c.args.tail; made = made }) (omega arith, (c.args.said.now, refl, asked)))
