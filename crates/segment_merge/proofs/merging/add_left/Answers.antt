use Rattle.std.proofs.Common.{rules, ◌≡◌, ◌≤◌, ◌∷◌, [], List, ℕ, FitsSigned, w64, ap, ◌∙◌, subst, arith}
use Rattle.std.proofs.lemmas.Result.{err_from_is_err_and}
use Rattle.bucket_ranges.specs.Reading.{Histogram}
use Rattle.bucket_ranges.specs.Tally.{units_of}
use Rattle.image_reader.specs.Views.{histogram_view}
use Rattle.live_segment.specs.Hist.Answer.{IsRefusedWith}
use Rattle.live_segment.specs.Holders.{view_of_recorder}
use Rattle.segment_merge.specs.Merge.{IsMerged, items_left}
use Rattle.segment_merge.specs.Remainder.{IsLeftOf, IsRemainderOf}
use Rattle.segment_merge.proofs.Batches.{IsAddedOrStops, batch_comes, found_named, too_dear}
use Rattle.segment_merge.proofs.Merged.{share_found, stops_short, stops_unfound}
use Rattle.segment_merge.proofs.merging.add_left.Goals as goal

-- its `hist` is refused
pub returns-in-Err-clause-answer : goal.returns-in-Err-clause-answer
returns-in-Err-clause-answer c =
    let h : Histogram = histogram_view c.args.histogram.now in
    stops_unfound h c.in-Err.why (view_of_recorder c.args.recorder.now) (view_of_recorder c.hist.new.self)
    (subst (λ (name : List ℕ). IsRefusedWith name h.spec c.in-Err.why (view_of_recorder c.args.recorder.now) (view_of_recorder c.hist.new.self))
    c.deref.ensures.value c.in-Err.ensures.answer)

-- more is left than a segment has
pub returns-in_default-clause-answer : goal.returns-in_default-clause-answer
returns-in_default-clause-answer c =
    let h = c.args.histogram.now in
    let (known, means, found) = found_named h c.deref.result.now c.in-Ok.known c.args.recorder.now c.hist.new.self c.deref.ensures.value c.in-Ok.ensures.answer c.in-Ok.ensures.named in
    let same = share_found (histogram_view h) known (view_of_recorder c.args.recorder.now) (view_of_recorder c.hist.new.self) found in
    let few : (view_of_recorder c.hist.new.self).units.share ≤ 4294967295 = omega (arith, same, c.requires.few) in
    stops_short (histogram_view h) known (view_of_recorder c.args.recorder.now) (view_of_recorder c.hist.new.self) found
    (too_dear h (view_of_recorder c.hist.new.self).units.share few (subst (IsLeftOf h) c.in_default.is c.requires.left))

-- its batch is refused, or accepted
pub returns-in_err-batch-clause-answer : goal.returns-in_err-batch-clause-answer
returns-in_err-batch-clause-answer c =
    let p = err_from_is_err_and c.from_residual.result c.from_residual.ensures.1 in
    let h = c.args.histogram.now in
    let (known, means, found) = found_named h c.deref.result.now c.in-Ok.known c.args.recorder.now c.hist.new.self c.deref.ensures.value c.in-Ok.ensures.answer c.in-Ok.ensures.named in
    let left : IsRemainderOf h c.in-Some.remainder = subst (IsLeftOf h) c.in-Some.is c.requires.left in
    let fits : FitsSigned w64 c.in-Some.remainder.sum = search rules in
    let comes : IsAddedOrStops (histogram_view h) (view_of_recorder c.args.recorder.now) c.batch.result (view_of_recorder c.batch.new.self) =
    batch_comes h c.in-Some.remainder c.in-Ok.known known c.deref-2.result.now c.args.recorder.now c.hist.new.self c.batch.new.self c.batch.result
    left c.deref-2.ensures.value fits means found c.batch.ensures.answer in
    rw (p.1, p.2) (subst (λ r. IsAddedOrStops (histogram_view h) (view_of_recorder c.args.recorder.now) r (view_of_recorder c.batch.new.self)) c.in_err-batch.was comes)

pub units_in-requires : goal.units_in-requires
units_in-requires c =
    let h = c.args.histogram.now in
    let (known, means, found) = found_named h c.deref.result.now c.in-Ok.known c.args.recorder.now c.hist.new.self c.deref.ensures.value c.in-Ok.ensures.answer c.in-Ok.ensures.named in
    let left : IsRemainderOf h c.in-Some.remainder = subst (IsLeftOf h) c.in-Some.is c.requires.left in
    let fits : FitsSigned w64 c.in-Some.remainder.sum = search rules in
    let comes : IsAddedOrStops (histogram_view h) (view_of_recorder c.args.recorder.now) c.batch.result (view_of_recorder c.batch.new.self) =
    batch_comes h c.in-Some.remainder c.in-Ok.known known c.deref-2.result.now c.args.recorder.now c.hist.new.self c.batch.new.self c.batch.result
    left c.deref-2.ensures.value fits means found c.batch.ensures.answer in
    let merged : IsMerged (histogram_view h ∷ []) (view_of_recorder c.args.recorder.now) (view_of_recorder c.batch.new.self) =
    subst (λ r. IsAddedOrStops (histogram_view h) (view_of_recorder c.args.recorder.now) r (view_of_recorder c.batch.new.self)) c.in_ok-batch.was comes in
    let paid = merged.share in
    let same : units_of c.deref-3.result.now ≡ units_of (items_left (histogram_view h)) = ap units_of (c.deref-3.ensures.value ∙ left.items) in
    omega (arith, paid, c.requires.few, same)

pub returns-clause-answer : goal.returns-clause-answer
returns-clause-answer c =
    let h = c.args.histogram.now in
    let (known, means, found) = found_named h c.deref.result.now c.in-Ok.known c.args.recorder.now c.hist.new.self c.deref.ensures.value c.in-Ok.ensures.answer c.in-Ok.ensures.named in
    let left : IsRemainderOf h c.in-Some.remainder = subst (IsLeftOf h) c.in-Some.is c.requires.left in
    let fits : FitsSigned w64 c.in-Some.remainder.sum = search rules in
    let comes : IsAddedOrStops (histogram_view h) (view_of_recorder c.args.recorder.now) c.batch.result (view_of_recorder c.batch.new.self) =
    batch_comes h c.in-Some.remainder c.in-Ok.known known c.deref-2.result.now c.args.recorder.now c.hist.new.self c.batch.new.self c.batch.result
    left c.deref-2.ensures.value fits means found c.batch.ensures.answer in (
      subst (λ r. IsAddedOrStops (histogram_view h) (view_of_recorder c.args.recorder.now) r (view_of_recorder c.batch.new.self)) c.in_ok-batch.was comes,
      c.units_in.ensures ∙ ap units_of (c.deref-3.ensures.value ∙ left.items),
    )
