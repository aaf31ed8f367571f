use Rattle.std.proofs.Common.{length, arith, sym, ◌∙◌, true≢false, refl}
use Rattle.std.proofs.lemmas.Slice.Eq.{bytes_eq-Decides}
use Rattle.segment_invariant.proofs.Lists.Elements.{below_length}
use Rattle.live_segment.proofs.lemmas.Hist.KnownNames.{is_there, none_further}
use Rattle.live_segment.proofs.hist.known_names.search.Goals as goal

pub loop-index-init : goal.loop-index-init
loop-index-init c = λ j one below. absurd (omega (arith, below))

pub returns-then-eq : goal.returns-then-eq
returns-then-eq c =
    let list = c.args.known.now in (
      c.index-known-index.result,
      is_there list (length list) c.loop-index.index c.index-known-index.result refl c.loop-index-test.true c.index-known-index.is,
      sym c.as_slice.ensures.value ∙ (bytes_eq-Decides c.as_slice.result.now c.args.name.now).0 (sym c.eq.ensures ∙ c.if-eq.true),
    )

pub loop-index-preserved : goal.loop-index-preserved
loop-index-preserved c =
    let list = c.args.known.now in
    none_further list c.args.name.now c.loop-index.index c.index-known-index.result c.loop-index.invariant
    (is_there list (length list) c.loop-index.index c.index-known-index.result refl c.loop-index-test.true c.index-known-index.is)
    (λ same. true≢false (sym ((bytes_eq-Decides c.as_slice.result.now c.args.name.now).1 (c.as_slice.ensures.value ∙ same)) ∙ (sym c.eq.ensures ∙ c.if-eq.false)))

pub returns : goal.returns
returns c = λ i one at.
    let below = below_length c.args.known.now i one at in let end = c.loop-index-test.false in
    c.loop-index.invariant i one (omega (arith, below, end)) at
