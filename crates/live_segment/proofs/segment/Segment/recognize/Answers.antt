use Rattle.std.proofs.Common.{◌≡◌, ℕ, refl, sym, ap, subst, ◌∙◌}
use Rattle.segment_machine.specs.declared.actor.Actor.{Actor}
use Rattle.segment_machine.specs.declared.actor.Known.{Known}
use Rattle.segment_machine.specs.Actor.{is_opener}
use Rattle.segment_calls.specs.declared.asked.Asked.{Asked}
use Rattle.live_segment.specs.Hist.Search.{asked_at}
use Rattle.live_segment.specs.Hist.Outcome.{ComesToKnow}
use Rattle.live_segment.proofs.lemmas.List.Showing.{same_on}
use Rattle.live_segment.proofs.lemmas.Hist.Blocks.{knows_none}
use Rattle.live_segment.proofs.lemmas.List.IndexKept.{kept_on}
use Rattle.live_segment.proofs.lemmas.Hist.Settled.{met_first, known_so}
use Rattle.live_segment.proofs.segment.Segment.recognize.Goals as goal

pub know-requires-clause-may : goal.know-requires-clause-may
know-requires-clause-may c =
    let (free, may, met, room) = c.in-Met.ensures.outcome in record {
      recorder = ap (λ (a : Actor). is_opener a.role) c.search.ensures.view.view ∙ c.requires.asks.seated.recorder;
      free = free;
      known = asked_at c.args.asked c.in-Met.found;
      says = (refl, refl);
      may = may;
    }

pub into_asked-requires : goal.into_asked-requires
into_asked-requires c = (c.args.asked, refl)

pub returns-clause-same : goal.returns-clause-same
returns-clause-same c =
    let told = c.know.ensures (asked_at c.args.asked c.in-Met.found) (refl, refl) in
    same_on c.args.seat.now c.search.new.seat c.know.new.seat c.search.ensures.same told.0

pub returns-clause-indexed : goal.returns-clause-indexed
returns-clause-indexed c =
    let told = c.know.ensures (asked_at c.args.asked c.in-Met.found) (refl, refl) in
    kept_on _ _ c.search.new.seat.me.0 c.know.new.seat.me.0
    (knows_none c.search.new.seat.me.0 c.know.new.seat.me.0 (asked_at c.args.asked c.in-Met.found) told.1) c.search.ensures.indexed

pub returns-clause-outcome : goal.returns-clause-outcome
returns-clause-outcome c =
    let found = c.in-Met.found in
    let told = c.know.ensures (asked_at c.args.asked found) (refl, refl) in
    let same : c.args.asked ≡ c.into_asked.result = cc c.into_asked.ensures in
    let at : c.of.result.reference ≡ found = ap (λ (k : Known). k.reference) c.of.ensures.view in
    let looked = met_first c.args.asked c.args.seat.now.me.0 c.search.new.seat.me.0 found c.requires.asks.rests.2 c.search.ensures.view c.in-Met.ensures.outcome in (
      record {
        view = c.of.ensures.view ∙ (λ i. asked_at (sym same i) (sym at i));
        ranges = c.of.ensures.ranges ∙ ap (λ (a : Asked). a.ranges) (sym same);
      },
      at ∙ c.if-found-reference.false,
      subst (λ (n : ℕ). ComesToKnow c.args.asked n c.args.seat.now.me.0 c.know.new.seat.me.0) c.if-found-reference.false
          (known_so c.args.asked found c.args.seat.now.me.0 c.search.new.seat.me.0 c.know.new.seat.me.0 looked told.1 told.2),
      ap (λ (a : Actor). a.done) told.1 ∙ ap (λ (a : Actor). a.done) c.search.ensures.view.view,
    )
