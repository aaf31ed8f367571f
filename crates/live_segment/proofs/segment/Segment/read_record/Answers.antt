use Rattle.std.proofs.Common.{◌+◌, ◌≤◌, ℕ, Option, length, MatchOption, inl, inr, ap, subst, ◌∙◌, arith}
use Rattle.std.specs.Prelude.{Some, IfSome}
use Rattle.std.specs.declared.vec.Vec.{Vec}
use Rattle.std.specs.declared.alloc.Global.{Global}
use Rattle.bucket_ranges.specs.declared.spec.Spec.{Spec}
use Rattle.bucket_ranges.specs.Reading.{name_words}
use Rattle.segment_promises.proofs.Growing.{still}
use Rattle.live_segment.specs.Hist.Opened.{ReadsName, ReadsSpec, SawLongName, SawNoSpec}
use Rattle.live_segment.proofs.lemmas.List.Keyed.{words_of_bytes}
use Rattle.live_segment.proofs.lemmas.List.Showing.{meets_still, sees_one, seen_one}
use Rattle.live_segment.proofs.lemmas.Hist.RecordRead.{name_stays}
use Rattle.live_segment.proofs.segment.Segment.read_record.Goals as goal

pub returns-then-load_published-ne-TYPE_HISTOGRAM-clause-outcome : goal.returns-then-load_published-ne-TYPE_HISTOGRAM-clause-outcome
returns-then-load_published-ne-TYPE_HISTOGRAM-clause-outcome c =
    let step = c.load_published.ensures in
    inr (
      (meets_still c.args.reference _ _ (sees_one _ _ c.args.reference 2 c.load_published.result step) (c.if-not-meet.ensures.free, c.if-not-meet.ensures.met.0)).1,
      inl (c.load_published.result, seen_one _ _ c.args.reference 2 c.load_published.result step, c.if-load_published-ne-TYPE_HISTOGRAM.true),
    )

pub read_name-requires-clause-tag : goal.read_name-requires-clause-tag
read_name-requires-clause-tag c =
    seen_one _ _ c.args.reference 2 c.load_published.result c.load_published.ensures ∙ ap Some c.if-load_published-ne-TYPE_HISTOGRAM.false

pub read_spec-requires-clause-tag : goal.read_spec-requires-clause-tag
read_spec-requires-clause-tag c =
    still _ _ c.in_ok-name.ensures.read.view.words (c.args.reference + 2) 1
    (seen_one _ _ c.args.reference 2 c.load_published.result c.load_published.ensures ∙ ap Some c.if-load_published-ne-TYPE_HISTOGRAM.false)

pub read_spec-requires-clause-room : goal.read_spec-requires-clause-room
read_spec-requires-clause-room c =
    let size = c.args.self.now.setting.shape.size in
    let within = subst (λ (found : Option (Vec ℕ Global)). IfSome found (λ name. c.args.reference + 15 + name_words (length name.items) ≤ size)) c.in-Some.is c.in_ok-name.ensures.room in
    let letters = c.div_ceil-letters.ensures in
    let len = c.len.ensures in
    omega (arith, within, letters, len)

pub returns-clause-outcome : goal.returns-clause-outcome
returns-clause-outcome c =
    let named = c.read_name.new.seat.me.0.seen in
    let last = c.read_spec.new.seat.me.0.seen in
    let at = c.args.reference in
    let name = c.in-Some.name.items in
    let reads = subst (λ (found : Option (Vec ℕ Global)). MatchOption found (SawLongName named at) (λ name. ReadsName named at name.items)) c.in-Some.is c.in_ok-name.ensures.outcome in
    let spec = subst (λ (found : Option Spec). MatchOption found (SawNoSpec last at) (ReadsSpec last at c.div_ceil-letters.result)) c.in-Some-2.is c.in_ok-spec.ensures.outcome in (
      name_stays named last c.in_ok-spec.ensures.read.view.words at name reads,
      subst (λ (letters : ℕ). ReadsSpec last at letters c.in-Some-2.spec) (c.div_ceil-letters.ensures ∙ (words_of_bytes c.len.result ∙ ap name_words (c.len.ensures ∙ c.in-Some.name.ok.0))) spec,
    )
