-- All tests passed, and the later samples say the rest.
use Rattle.std.proofs.Common.{ℕ, List, sym, subst, ◌∙◌, arith, true≢false}
use Rattle.list_core.specs.Chain.{IsStop}
use Rattle.image_reader.proofs.Headers.{IsHeaded-from_header}
use Rattle.image_adoption.specs.Conditions.{AreSettled, IsWholeImage}
use Rattle.image_adoption.specs.Records.{AreFaultless}
use Rattle.image_adoption.proofs.Faultless.{faultless_of}
use Rattle.image_adoption.proofs.damage.is_whole.Goals as goal

pub has_zeros-requires : goal.has_zeros-requires
has_zeros-requires c = omega (arith, (IsHeaded-from_header c.args.words.now c.args.head.now c.requires.header).free_within)

pub are_settled-requires-clause-faultless : goal.are_settled-requires-clause-faultless
are_settled-requires-clause-faultless c =
    subst (AreFaultless c.args.words.now c.args.head.now) (sym c.deref-references.ensures.value)
    (faultless_of c.args.words.now c.args.head.now c.args.survey.now.references.items c.requires.survey.listed.walk.lawful c.requires.good)

pub returns-then-not-are_settled : goal.returns-then-not-are_settled
returns-then-not-are_settled c = (
  λ found. absurd (true≢false (sym found)),
  λ (whole : IsWholeImage c.args.words.now c.args.head.now c.args.survey.now.references.items). absurd (true≢false (sym (c.are_settled.ensures.1
      (subst (AreSettled c.args.words.now) (sym c.deref-references.ensures.value) whole.settled)) ∙ c.if-not-are_settled.true)),
)

pub returns : goal.returns
returns c =
    let words = c.args.words.now in
    let same = c.deref-references.ensures.value in (
      λ later. record {
        room = sym c.has_room.ensures ∙ c.if-not-has_room.false;
        zeros = c.has_zeros.ensures.0 c.if-not-has_zeros.false;
        tail = subst (λ (references : List ℕ). IsStop references c.args.head.now.tail) same (c.has_tail.ensures.0 c.if-not-has_tail.false);
        settled = subst (AreSettled words) same (c.are_settled.ensures.0 c.if-not-are_settled.false);
        later = c.are_later_empty.ensures.0 later;
        apart = c.requires.apart;
      },
      λ (whole : IsWholeImage words c.args.head.now c.args.survey.now.references.items). c.are_later_empty.ensures.1 whole.later,
    )
