use Rattle.std.proofs.Common.{ℕ, List, [], ◌∷◌, ◌++◌, length, map, inr, ap, subst, sym, ◌∙◌}
use Rattle.std.specs.List.{All}
use Rattle.segment_machine.specs.declared.actor.Known.{Known}
use Rattle.segment_invariant.proofs.Lists.Elements.{below_length}
use Rattle.live_segment.specs.declared.recorder.KnownHistogram.{KnownHistogram}
use Rattle.live_segment.specs.Known.{known_view, KnowsRight}
use Rattle.live_segment.specs.Hist.Answer.{NoneHasName}
use Rattle.live_segment.specs.Hist.KnownNames.{HasNames}
use Rattle.live_segment.specs.Hist.Opened.{IsNotFirst}
use Rattle.live_segment.specs.Hist.Outcome.{ComesToKnow}
use Rattle.live_segment.proofs.Seating.Recorders.{seat_searched}
use Rattle.live_segment.proofs.lemmas.List.Walked.{all_right, come_still}
use Rattle.live_segment.proofs.lemmas.Hist.HistAnswered.{none_known, asked_here, count_of, view_there, seen_grew, chain_grew, of_then, rests_then, share_same, right_then, listed_then}
use Rattle.live_segment.proofs.lemmas.Hist.Opening.{opened_known, opened_new}
use Rattle.live_segment.proofs.lemmas.List.IndexKept as kept
use Rattle.live_segment.proofs.recorder.state.RecorderState.open_as.Goals as goal

pub known_of-requires-clause-at : goal.known_of-requires-clause-at
known_of-requires-clause-at c = (c.args.segment.now, c.requires)

pub known_of-requires-clause-index : goal.known_of-requires-clause-index
known_of-requires-clause-index c =
    let (known, there, named) = c.in-Some.ensures in below_length c.args.self.now.known.items c.in-Some.index known there

pub returns-in_default-found-clause-at : goal.returns-in_default-found-clause-at
returns-in_default-found-clause-at c =
    let me = c.args.self.now in
    let old = me.seat.me.0 in
    let new = c.recognize-found.new.seat.me.0 in
    let found = c.in_default-found.ensures in
    let (searched, free, other) = found.outcome in
    let (is, share) = seat_searched c.args.segment.now me.seat _ c.requires.seated c.requires.rests found.same searched free in
    let items = c.in_ok-reserve.ensures.items in record {
      seated = record { table = is.same.0 ∙ c.requires.seated.table; recorder = is.rests.recorder; of = is.of };
      rests = is.rests;
      counted = c.requires.counted ∙ sym share;
      listed = ap (map known_view) items ∙ (c.requires.listed ∙ sym is.names);
      right = subst (All (KnowsRight c.args.segment.now.setting new)) (sym items)
          (all_right c.args.segment.now.setting old new me.known.items is.names is.chain c.requires.right);
      free = is.same.2 ∙ c.requires.free;
      come = come_still c.args.segment.now.setting.shape.size old.seen.chain new.seen.chain me.fresh is.chain c.requires.come;
      named = subst (λ (l : List KnownHistogram). HasNames l me.names) (sym items) c.requires.named;
      indexed = found.indexed;
      sampled = kept.searched_on _ _ _ _ searched c.requires.sampled;
    }

pub enter-requires-clause-none : goal.enter-requires-clause-none
enter-requires-clause-none c =
    subst (λ (l : List KnownHistogram). NoneHasName l c.args.name.now) (sym (c.as_slice-before.ensures.value ∙ c.in_ok-reserve.ensures.items)) c.in_default.ensures

pub returns-clause-at : goal.returns-clause-at
returns-clause-at c =
    let me = c.args.self.now in
    let old = me.seat.me.0 in
    let new = c.recognize-found.new.seat.me.0 in
    let known = c.in-Some-found.known in
    let found = c.in-Some-found.ensures in
    let (is, at, met, quiet) = found.outcome in
    let comes = subst (λ (n : ℕ). ComesToKnow c.in-Ok.asked n old new) (sym at) met in
    let none = none_known me.known.items old c.args.name.now c.requires.listed c.in_default.ensures in
    let grew = c.push_reserved.ensures.items ∙ ap (λ l. l ++ known ∷ []) c.in_ok-reserve.ensures.items in record {
      seated = record { table = found.same.0 ∙ c.requires.seated.table; recorder = (rests_then c.in-Ok.asked known.reference old new comes c.requires.rests).recorder; of = of_then c.in-Ok.asked known.reference old new comes c.args.segment.now.setting c.requires.seated.of };
      rests = rests_then c.in-Ok.asked known.reference old new comes c.requires.rests;
      counted = c.requires.counted ∙ sym (share_same c.in-Ok.asked known.reference old new comes);
      listed = listed_then c.args.segment.now.setting c.args.name.now c.args.spec.now c.in-Ok.asked known old new c.requires.seated.of c.in-Ok.ensures none is comes me.known.items
          c.push_reserved.new.self.items grew c.requires.listed;
      right = right_then c.args.segment.now.setting c.args.name.now c.args.spec.now c.in-Ok.asked known old new c.requires.seated.of c.in-Ok.ensures none is comes me.known.items
          c.push_reserved.new.self.items grew c.requires.right;
      free = found.same.2 ∙ c.requires.free;
      come = come_still c.args.segment.now.setting.shape.size old.seen.chain new.seen.chain me.fresh (chain_grew c.in-Ok.asked known.reference old new comes) c.requires.come;
      named = subst (λ (l : List KnownHistogram). HasNames l c.enter.new.self)
          (ap (λ (l : List KnownHistogram). l ++ known ∷ []) c.as_slice-before.ensures.value ∙ sym c.push_reserved.ensures.items)
          (c.enter.ensures known (ap (λ (k : Known). k.name) is.view ∙ c.in-Ok.ensures.named));
      indexed = found.indexed;
      sampled = kept.seen_on _ _ _ _ (seen_grew c.in-Ok.asked known.reference old new comes) c.requires.sampled;
    }

pub returns-in-Some-clause-answer : goal.returns-in-Some-clause-answer
returns-in-Some-clause-answer c =
    let me = c.args.self.now in
    let (known, at, named) = c.in-Some.ensures in
    let there = view_there me.known.items me.seat.me.0.answers.names c.in-Some.index known c.requires.listed at in
    opened_known c.args.name.now c.args.spec.now c.args.reference c.in-Some.index (known_view known) me.seat.me.0 c.known_of.result (there, named)
    (c.known_of.ensures (known_view known) there)

pub returns-in_default-found-clause-answer : goal.returns-in_default-found-clause-answer
returns-in_default-found-clause-answer c =
    let me = c.args.self.now in
    let new = c.recognize-found.new.seat.me.0 in
    let found = c.in_default-found.ensures in
    let (searched, free, other) = found.outcome in
    let (is, share) = seat_searched c.args.segment.now me.seat _ c.requires.seated c.requires.rests found.same searched free in
    let asks = c.in-Ok.ensures in (
      searched,
      inr (inr (c.in-Ok.asked, asked_here c.args.segment.now.setting new is.of asks, subst (λ (n : List ℕ). IsNotFirst n c.in-Ok.asked c.args.reference new.seen new) asks.named other)),
    )

pub returns-clause-answer : goal.returns-clause-answer
returns-clause-answer c =
    let me = c.args.self.now in
    let old = me.seat.me.0 in
    let (is, at, met, quiet) = c.in-Some-found.ensures.outcome in
    opened_new c.args.name.now c.args.spec.now c.args.reference _ c.in-Ok.asked old c.recognize-found.new.seat.me.0
    (none_known me.known.items old c.args.name.now c.requires.listed c.in_default.ensures)
    (count_of me.known.items old.answers.names c.len-index.result c.requires.listed (c.len-index.ensures ∙ (c.reserve.new.self.ok.0 ∙ ap length c.in_ok-reserve.ensures.items)))
    (asked_here c.args.segment.now.setting old c.requires.seated.of c.in-Ok.ensures) met quiet
