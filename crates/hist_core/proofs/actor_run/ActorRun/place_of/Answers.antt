use Rattle.segment_invariant.proofs.Prelude.Std.{◌≡◌, List, length, arith, ap, sym, ◌∙◌, true≢false, subst, refl, some, bytes_eq-Decides, get_elem?}
use Rattle.hist_core.specs.declared.hist.KnownHist.{KnownHist}
use Rattle.hist_core.proofs.HistCall.Asking.{place_below, none_further}
use Rattle.hist_core.proofs.Worlds.WorldStates.{is_there}
use Rattle.hist_core.proofs.actor_run.ActorRun.place_of.Goals as goal

pub loop-i-init : goal.loop-i-init
loop-i-init c = λ j known below. absurd (omega (arith, below))

pub returns-then-eq-clause-found : goal.returns-then-eq-clause-found
returns-then-eq-clause-found c =
    let list = c.deref-known-items.result.now in
    let at = is_there list (length list) c.loop-i.i c.known-item.result refl c.loop-i-test.true c.known-item.is in (
      c.known-item.result,
      subst (λ (l : List KnownHist). get_elem? l c.loop-i.i ≡ some c.known-item.result) c.deref-known-items.ensures.value at,
      sym c.as_slice.ensures.value ∙ (bytes_eq-Decides c.as_slice.result.now c.args.name.now).0 (sym c.eq.ensures ∙ c.if-eq.true),
    )

pub loop-i-preserved : goal.loop-i-preserved
loop-i-preserved c =
    let list = c.deref-known-items.result.now in
    let at = is_there list (length list) c.loop-i.i c.known-item.result refl c.loop-i-test.true c.known-item.is in
    none_further c.args.self.now.known.items c.args.name.now c.loop-i.i c.known-item.result c.loop-i.invariant
    (subst (λ (l : List KnownHist). get_elem? l c.loop-i.i ≡ some c.known-item.result) c.deref-known-items.ensures.value at)
    (λ same. true≢false (sym ((bytes_eq-Decides c.as_slice.result.now c.args.name.now).1 (c.as_slice.ensures.value ∙ same)) ∙ (sym c.eq.ensures ∙ c.if-eq.false)))

pub returns-clause-none : goal.returns-clause-none
returns-clause-none c = λ i known at.
    let below = place_below c.args.self.now.known.items i known at in let many = ap length c.deref-known-items.ensures.value in let end = c.loop-i-test.false in
    c.loop-i.invariant i known (omega (arith, below, many, end)) at
