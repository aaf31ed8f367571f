use Rattle.std.proofs.Common.{◌≡◌, true, inl, inr, refl, sym, subst, ◌∙◌, arith, true≢false, List, ℕ}
use Rattle.std.proofs.lemmas.Result.{err_from_is_err_and}
use Rattle.bucket_ranges.specs.Reading.{is_name}
use Rattle.segment_calls.specs.Asked.{IsRefusedFor}
use Rattle.segment_image.specs.Shape.{Dimensions}
use Rattle.segment_invariant.proofs.Lists.Elements.{below_length}
use Rattle.live_segment.specs.Known.{known_view}
use Rattle.live_segment.proofs.lemmas.Hist.HistAnswered.{asked_here, may_be_asked, may_be_known, read_known, right_read}
use Rattle.live_segment.proofs.lemmas.Hist.KnownNames.{is_there}
use Rattle.live_segment.proofs.lemmas.Hist.OneName.{none_same}
use Rattle.live_segment.proofs.recorder.state.RecorderState.known_at.Goals as goal

pub index-requires : goal.index-requires
index-requires c =
    let known = c.args.self.now.known in let below = below_length known.items c.args.index _ c.requires.known.1 in let count = known.ok.0 in omega (arith, below, count)

pub returns-in_err-of-clause-answer : goal.returns-in_err-of-clause-answer
returns-in_err-of-clause-answer c =
    let me = c.args.self.now in
    let a = me.seat.me.0 in
    let p = err_from_is_err_and c.from_residual.result c.from_residual.ensures.1 in
    let known = c.index.result.now in
    let count = me.known.ok.0 in
    let below = below_length me.known.items c.args.index _ c.requires.known.1 in
    let there = is_there me.known.items me.known.len c.args.index known count (omega (arith, below, count)) c.index.ensures in
    let (at, named) = read_known me.known.items a.answers.names c.args.name.now me.known.len c.args.index known c.requires.at.listed count c.requires.known c.index.ensures in
    rw (p.1, p.2) (inl (
      subst (λ (d : Dimensions). IsRefusedFor d c.args.name.now c.args.spec.now c.in_err-of.field-0.0) (sym c.requires.at.seated.of.shape) c.in_err-of.ensures,
      refl,
      λ is.
          none_same me.known.items a c.requires.at.named.once c.requires.at.listed c.args.name.now c.args.spec.now c.args.index known there named
          (λ same. true≢false (sym (c.is_same.ensures.1 same) ∙ c.if-not-is_same.true)),
    ))

pub returns-then-not-is_same-clause-answer : goal.returns-then-not-is_same-clause-answer
returns-then-not-is_same-clause-answer c =
    let me = c.args.self.now in
    let a = me.seat.me.0 in
    let known = c.index.result.now in
    let (at, named) = read_known me.known.items a.answers.names c.args.name.now me.known.len c.args.index known c.requires.at.listed me.known.ok.0 c.requires.known c.index.ensures in
    let may = may_be_asked a.segment.shape c.args.name.now c.args.spec.now c.in_ok-of.field-0 (asked_here c.args.segment.now.setting a c.requires.at.seated.of c.in_ok-of.ensures) in
    inr (inl (refl, (c.args.index, known_view known, (at, named), λ same. true≢false (sym (c.is_same.ensures.1 same) ∙ c.if-not-is_same.true)), may, refl))

pub returns-then-has_too_many_values-clause-answer : goal.returns-then-has_too_many_values-clause-answer
returns-then-has_too_many_values-clause-answer c =
    let me = c.args.self.now in
    let a = me.seat.me.0 in
    let known = c.index.result.now in
    let (at, named) = read_known me.known.items a.answers.names c.args.name.now me.known.len c.args.index known c.requires.at.listed me.known.ok.0 c.requires.known c.index.ensures in
    let right = right_read c.args.segment.now.setting a me.known.items c.args.name.now c.args.index known c.requires.at.right c.requires.known c.index.ensures in
    inl ((subst (λ (n : List ℕ). is_name n ≡ true) named right.named, c.has_too_many_values.ensures.fault c.if-has_too_many_values.true), refl, λ is. absurd (cc is))

pub returns-clause-named : goal.returns-clause-named
returns-clause-named c =
    let me = c.args.self.now in
    let a = me.seat.me.0 in
    let known = c.index.result.now in
    let (at, named) = read_known me.known.items a.answers.names c.args.name.now me.known.len c.args.index known c.requires.at.listed me.known.ok.0 c.requires.known c.index.ensures in
    (below_length a.answers.names c.args.index _ at, (known_view known, at, named, c.is_same.ensures.0 c.if-not-is_same.false))

pub returns-clause-answer : goal.returns-clause-answer
returns-clause-answer c =
    let me = c.args.self.now in
    let a = me.seat.me.0 in
    let known = c.index.result.now in
    let (at, named) = read_known me.known.items a.answers.names c.args.name.now me.known.len c.args.index known c.requires.at.listed me.known.ok.0 c.requires.known c.index.ensures in
    let right = right_read c.args.segment.now.setting a me.known.items c.args.name.now c.args.index known c.requires.at.right c.requires.known c.index.ensures in
    let same = c.is_same.ensures.0 c.if-not-is_same.false in
    let lawful = c.has_too_many_values.ensures.lawful c.if-has_too_many_values.false known.spec right.lawful same in
    inl (
      known_view known,
      (at, named),
      same,
      may_be_known c.args.segment.now.setting a known c.args.name.now c.args.spec.now c.requires.at.seated.of right named same lawful,
      refl,
    )
