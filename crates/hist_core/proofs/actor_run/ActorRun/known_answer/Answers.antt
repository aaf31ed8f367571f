use Rattle.segment_invariant.proofs.Prelude.Std.{◌≡◌, arith, ap, sym, ◌∙◌, true≢false, subst, vec_len, some-injective}
use Rattle.segment_invariant.proofs.Prelude.Machine.{SameSpec}
use Rattle.hist_core.specs.declared.hist.KnownHist.{KnownHist}
use Rattle.hist_core.proofs.HistCall.Asking.{place_below}
use Rattle.hist_core.proofs.Worlds.WorldStates.{is_there}
use Rattle.hist_core.proofs.actor_run.ActorRun.known_answer.Goals as goal

pub index-known-requires : goal.index-known-requires
index-known-requires c =
    let known = c.args.self.now.known in let below = place_below known.items c.args.i c.requires.0 c.requires.1 in let count = known.ok.0 in omega (arith, below, count)

pub returns-then-is_same : goal.returns-then-is_same
returns-then-is_same c =
    let known = c.args.self.now.known in
    let below = place_below known.items c.args.i c.requires.0 c.requires.1 in let count = known.ok.0 in
    let at = is_there known.items (vec_len known) c.args.i c.index-known.result.now count (omega (arith, below, count)) c.index-known.ensures in
    let same : c.index-known.result.now ≡ c.requires.0 = some-injective c.index-known.result.now c.requires.0 (sym at ∙ c.requires.1) in
    (c.args.i, c.requires, subst (λ (k : KnownHist). SameSpec k.spec c.args.asked.now.spec) same (c.is_same.ensures.0 c.if-is_same.true), ap (λ (k : KnownHist). k.reference) (sym same))

pub returns-else-is_same : goal.returns-else-is_same
returns-else-is_same c =
    let known = c.args.self.now.known in
    let below = place_below known.items c.args.i c.requires.0 c.requires.1 in let count = known.ok.0 in
    let at = is_there known.items (vec_len known) c.args.i c.index-known.result.now count (omega (arith, below, count)) c.index-known.ensures in
    let same : c.index-known.result.now ≡ c.requires.0 = some-injective c.index-known.result.now c.requires.0 (sym at ∙ c.requires.1) in
    (c.args.i, c.requires, λ alike. true≢false (sym (c.is_same.ensures.1 (subst (λ (k : KnownHist). SameSpec k.spec c.args.asked.now.spec) (sym same) alike)) ∙ c.if-is_same.false))
