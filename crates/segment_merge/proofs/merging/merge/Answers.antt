use Rattle.std.proofs.Common.{rules, ◌≡◌, List, [], ℕ, drop, length, map, get_or, refl, ap, sym, subst, ◌∙◌, arith}
use Rattle.std.specs.declared.alloc.Global.{Global}
use Rattle.std.specs.declared.vec.Vec.{Vec}
use Rattle.std.specs.Vec.Iter.{into_iter_items}
use Rattle.std.proofs.lemmas.List.{get_or-map, length-map}
use Rattle.bucket_ranges.specs.Reading.{Histogram}
use Rattle.image_reader.specs.Views.{histogram_view}
use Rattle.image_reader.specs.declared.reading.HistReading.{HistReading}
use Rattle.live_segment.specs.Holders.{view_of_recorder}
use Rattle.segment_merge.specs.declared.merging.Part.{Part}
use Rattle.segment_merge.proofs.Batches.{knows_then}
use Rattle.segment_promises.proofs.Growing.{grows_not}
use Rattle.segment_merge.proofs.Underway.{IsUnderWay, goes_on, more_lines, next_part, reports_stop, under_way_none}
use Rattle.segment_merge.proofs.merging.merge.Goals as goal

pub loop-part-init : goal.loop-part-init
loop-part-init c =
    let list : List Part = into_iter_items c.into_iter-part-iterator.result in
    let views : List Histogram = map histogram_view c.args.reading.now.hists.items in
    let a = view_of_recorder c.args.recorder.now in
    let none : c.in_ok-added.added.items ≡ [] = c.in_ok-added.ensures.items in (
      tt,
      tt,
      ap (λ (l : List (Vec ℕ Global × ℕ)). drop (length l) list) (sym none),
      search rules,
      record { table = refl; fresh = refl; known = grows_not a.answers.names },
      subst (λ (l : List (Vec ℕ Global × ℕ)). IsUnderWay views l a a) (sym none) (under_way_none views a),
      refl,
    )

pub merge_next-stopped-requires-clause-part : goal.merge_next-stopped-requires-clause-part
merge_next-stopped-requires-clause-part c =
    let hists : List HistReading = c.args.reading.now.hists.items in
    let h : HistReading = c.index-histogram.result.now in
    let n : ℕ = length c.loop-part.added.items in
    let list : List Part = into_iter_items c.into_iter-part-iterator.result in
    let same : list ≡ c.in_ok-parts.parts.items = search rules in
    let at : c.len-in-loop-part.result ≡ n = search rules in
    (next_part hists list c.in_ok-parts.parts.items (into_iter_items c.next.new.self) n h c.in-Some.part
    c.in_ok-parts.ensures same (sym c.loop-part.invariant.2 ∙ c.in-Some.ensures.steps.0)
    (c.index-histogram.ensures ∙ ap (λ (i : ℕ). get_or hists i h) at)).1

pub returns-then-is_some-clause-answer : goal.returns-then-is_some-clause-answer
returns-then-is_some-clause-answer c =
    let hists : List HistReading = c.args.reading.now.hists.items in
    let h : HistReading = c.index-histogram.result.now in
    let n : ℕ = length c.loop-part.added.items in
    let list : List Part = into_iter_items c.into_iter-part-iterator.result in
    let same : list ≡ c.in_ok-parts.parts.items = search rules in
    let at : c.len-in-loop-part.result ≡ n = search rules in
    let here : h ≡ get_or hists n h = c.index-histogram.ensures ∙ ap (λ (i : ℕ). get_or hists i h) at in
    let (below, _, _) = next_part hists list c.in_ok-parts.parts.items (into_iter_items c.next.new.self) n h c.in-Some.part
    c.in_ok-parts.ensures same (sym c.loop-part.invariant.2 ∙ c.in-Some.ensures.steps.0) here in
    let long = length-map hists histogram_view in
    reports_stop (map histogram_view hists) (histogram_view h) c.loop-part.added.items (record { added = c.merge_next-stopped.new.added; stopped = c.merge_next-stopped.result })
    c.merge_next-stopped.result (view_of_recorder c.args.recorder.now) (view_of_recorder c.loop-part.recorder) (view_of_recorder c.merge_next-stopped.new.recorder)
    (sym c.is_some.ensures ∙ c.if-is_some.true) (omega (arith, below, long)) (get_or-map histogram_view hists n h (histogram_view h) below ∙ ap histogram_view (sym here))
    c.loop-part.invariant.5 c.merge_next-stopped.ensures.answer

pub loop-part-preserved : goal.loop-part-preserved
loop-part-preserved c =
    let hists : List HistReading = c.args.reading.now.hists.items in
    let h : HistReading = c.index-histogram.result.now in
    let n : ℕ = length c.loop-part.added.items in
    let list : List Part = into_iter_items c.into_iter-part-iterator.result in
    let same : list ≡ c.in_ok-parts.parts.items = search rules in
    let at : c.len-in-loop-part.result ≡ n = search rules in
    let here : h ≡ get_or hists n h = c.index-histogram.ensures ∙ ap (λ (i : ℕ). get_or hists i h) at in
    let (below, _, behind) = next_part hists list c.in_ok-parts.parts.items (into_iter_items c.next.new.self) n h c.in-Some.part
    c.in_ok-parts.ensures same (sym c.loop-part.invariant.2 ∙ c.in-Some.ensures.steps.0) here in
    let (_, more) = more_lines c.loop-part.added.items c.merge_next-stopped.new.added.items c.merge_next-stopped.ensures.answer.line c.merge_next-stopped.ensures.answer.reported in
    let views : List Histogram = map histogram_view hists in
    let long = length-map hists histogram_view in (
      tt,
      tt,
      behind ∙ ap (λ (k : ℕ). drop k list) (sym more),
      search rules,
      knows_then c.args.recorder.now.state c.loop-part.recorder.state c.merge_next-stopped.new.recorder.state c.loop-part.invariant.4 c.merge_next-stopped.ensures.same,
      goes_on views (histogram_view h) c.loop-part.added.items c.merge_next-stopped.new.added.items c.merge_next-stopped.result (view_of_recorder c.args.recorder.now)
          (view_of_recorder c.loop-part.recorder) (view_of_recorder c.merge_next-stopped.new.recorder) (sym c.is_some.ensures ∙ c.if-is_some.false)
          (omega (arith, below, long)) (get_or-map histogram_view hists n h (histogram_view h) below ∙ ap histogram_view (sym here)) c.loop-part.invariant.5
          c.merge_next-stopped.ensures.answer,
      c.merge_next-stopped.ensures.kept ∙ c.loop-part.invariant.6,
    )
