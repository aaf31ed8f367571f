use Rattle.std.proofs.Common.{MatchResult, List, [], ◌∷◌, ◌++◌, length, map, ap, subst, sym, ◌∙◌, refl, inl, inr}
use Rattle.std.specs.List.{All}
use Rattle.std.proofs.lemmas.Result.{err_from_is_err_and}
use Rattle.segment_image.specs.Shape.{Dimensions}
use Rattle.segment_calls.specs.Asked.{IsRefusedFor}
use Rattle.segment_machine.specs.declared.actor.Actor.{Actor}
use Rattle.segment_machine.specs.declared.actor.Known.{Known}
use Rattle.segment_invariant.proofs.Lists.Elements.{contains_at}
use Rattle.live_segment.specs.Hist.Answer.{IsAnsweredWith, IsRefusedWith, NoneHasName}
use Rattle.live_segment.specs.Steps.{Pass}
use Rattle.live_segment.proofs.lemmas.List.Fronts.{answer_first, first_there}
use Rattle.live_segment.specs.declared.recorder.KnownHistogram.{KnownHistogram}
use Rattle.live_segment.specs.Known.{known_view, KnowsRight}
use Rattle.live_segment.specs.Hist.KnownNames.{HasNames}
use Rattle.live_segment.proofs.lemmas.List.Walked.{all_right, come_still}
use Rattle.live_segment.proofs.lemmas.Hist.HistAnswered.{none_known, seen_grew, names_still, of_still, rests_still, share_still, chain_grew, of_then, rests_then, share_same, right_then, listed_then, named_then, count_of, asked_here}
use Rattle.live_segment.proofs.lemmas.Hist.Blocks.{makes_named}
use Rattle.live_segment.proofs.lemmas.List.IndexKept.{seen_on}
use Rattle.live_segment.proofs.recorder.state.RecorderState.hist.Goals as goal

pub returns-in_err-known-clause-at : goal.returns-in_err-known-clause-at
returns-in_err-known-clause-at c =
    let me = c.args.self.now in
    let old = me.seat.me.0 in
    let new = c.ask.new.seat.me.0 in
    let (looks, owes, why_is) = c.in_err-known.ensures.outcome in record {
      seated = record { table = c.in_err-known.ensures.same.0 ∙ c.requires.seated.table; recorder = (rests_still old new looks c.requires.rests owes).recorder; of = of_still old new looks c.args.segment.now.setting c.requires.seated.of };
      rests = rests_still old new looks c.requires.rests owes;
      counted = c.requires.counted ∙ sym (share_still old new looks);
      listed = ap (map known_view) c.in_ok-reserve.ensures.items ∙ (c.requires.listed ∙ sym (names_still old new looks));
      right = subst (All (KnowsRight c.args.segment.now.setting new)) (sym c.in_ok-reserve.ensures.items)
          (all_right c.args.segment.now.setting old new me.known.items (names_still old new looks) looks.seen.chain c.requires.right);
      free = c.in_err-known.ensures.same.2 ∙ c.requires.free;
      come = come_still c.args.segment.now.setting.shape.size old.seen.chain new.seen.chain me.fresh looks.seen.chain c.requires.come;
      named = subst (λ (l : List KnownHistogram). HasNames l me.names) (sym c.in_ok-reserve.ensures.items) c.requires.named;
      indexed = c.in_err-known.ensures.indexed;
      sampled = seen_on _ _ _ _ looks.seen c.requires.sampled;
    }

pub returns-clause-at : goal.returns-clause-at
returns-clause-at c =
    let me = c.args.self.now in
    let old = me.seat.me.0 in
    let new = c.ask.new.seat.me.0 in
    let known = c.in_ok-known.known in
    let (is, comes) = c.in_ok-known.ensures.outcome in
    let none = none_known me.known.items old c.args.name.now c.requires.listed c.in_default.ensures in
    let grew = c.push_reserved.ensures.items ∙ ap (λ l. l ++ known ∷ []) c.in_ok-reserve.ensures.items in record {
      seated = record { table = c.in_ok-known.ensures.same.0 ∙ c.requires.seated.table; recorder = (rests_then _ known.reference old new comes c.requires.rests).recorder; of = of_then _ known.reference old new comes c.args.segment.now.setting c.requires.seated.of };
      rests = rests_then _ known.reference old new comes c.requires.rests;
      counted = c.requires.counted ∙ sym (share_same _ known.reference old new comes);
      listed = listed_then c.args.segment.now.setting c.args.name.now c.args.spec.now _ known old new c.requires.seated.of c.in_ok-asked.ensures none is comes me.known.items
          c.push_reserved.new.self.items grew c.requires.listed;
      right = right_then c.args.segment.now.setting c.args.name.now c.args.spec.now _ known old new c.requires.seated.of c.in_ok-asked.ensures none is comes me.known.items
          c.push_reserved.new.self.items grew c.requires.right;
      free = c.in_ok-known.ensures.same.2 ∙ c.requires.free;
      come = come_still c.args.segment.now.setting.shape.size old.seen.chain new.seen.chain me.fresh (chain_grew _ known.reference old new comes) c.requires.come;
      named = subst (λ (l : List KnownHistogram). HasNames l c.enter.new.self)
          (ap (λ (l : List KnownHistogram). l ++ known ∷ []) c.as_slice-before.ensures.value ∙ sym c.push_reserved.ensures.items)
          (c.enter.ensures known (ap (λ (k : Known). k.name) is.view ∙ c.in_ok-asked.ensures.named));
      indexed = c.in_ok-known.ensures.indexed;
      sampled = seen_on _ _ _ _ (seen_grew _ known.reference old new comes) c.requires.sampled;
    }

pub returns-clause-named : goal.returns-clause-named
returns-clause-named c =
    let me = c.args.self.now in
    let old = me.seat.me.0 in
    let (is, comes) = c.in_ok-known.ensures.outcome in
    let none = none_known me.known.items old c.args.name.now c.requires.listed c.in_default.ensures in
    named_then c.args.segment.now.setting c.args.name.now c.args.spec.now _ c.in_ok-known.known old c.ask.new.seat.me.0 c.requires.seated.of c.in_ok-asked.ensures none is comes c.len-index.result
    (count_of me.known.items old.answers.names c.len-index.result c.requires.listed (c.len-index.ensures ∙ (c.reserve.new.self.ok.0 ∙ ap length c.in_ok-reserve.ensures.items)))

pub returns-clause-answer : goal.returns-clause-answer
returns-clause-answer c =
    let me = c.args.self.now in
    let old = me.seat.me.0 in
    inr (
      none_known me.known.items old c.args.name.now c.requires.listed c.in_default.ensures,
      count_of me.known.items old.answers.names c.len-index.result c.requires.listed (c.len-index.ensures ∙ (c.reserve.new.self.ok.0 ∙ ap length c.in_ok-reserve.ensures.items)),
      (c.in_ok-asked.asked, c.in_ok-known.known.reference, asked_here c.args.segment.now.setting old c.requires.seated.of c.in_ok-asked.ensures, c.in_ok-known.ensures.outcome.1),
    )

pub returns-in_err-known-clause-answer : goal.returns-in_err-known-clause-answer
returns-in_err-known-clause-answer c =
    let me = c.args.self.now in
    let p = err_from_is_err_and c.from_residual-in_err-known.result c.from_residual-in_err-known.ensures.1 in
    let (looks, owes, why_is) = c.in_err-known.ensures.outcome in
    rw (p.1, p.2)
    (inr (inr (none_known me.known.items me.seat.me.0 c.args.name.now c.requires.listed c.in_default.ensures, (c.in_ok-asked.asked, asked_here c.args.segment.now.setting me.seat.me.0 c.requires.seated.of c.in_ok-asked.ensures, why_is), looks, owes ∙ sym c.requires.rests.owes)))

pub returns-in-Some-clause-answer : goal.returns-in-Some-clause-answer
returns-in-Some-clause-answer c =
    subst (λ (a : Actor). MatchResult c.known_at.result (λ histogram. IsAnsweredWith c.args.name.now c.args.spec.now histogram a c.stand.new.seat.me.0)
    (λ why. IsRefusedWith c.args.name.now c.args.spec.now why a c.stand.new.seat.me.0))
    (ap (λ (seat : Pass). seat.me.0) c.stand.ensures.same) c.known_at.ensures.answer

pub returns-in-Some-clause-first : goal.returns-in-Some-clause-first
returns-in-Some-clause-first c = answer_first _ _ _ c.known_at.result c.stand.ensures.stands

pub returns-clause-first : goal.returns-clause-first
returns-clause-first c = λ known means. first_there _ _ _ known (contains_at _ _ known means) c.in_ok-known.ensures.stands

pub returns-clause-claims : goal.returns-clause-claims
returns-clause-claims c =
    let me = c.args.self.now in
    makes_named c.args.segment.now.setting.shape c.args.name.now c.args.spec.now c.in_ok-asked.asked me.seat.me.0 c.ask.new.seat.me.0 c.in_ok-asked.ensures c.in_ok-known.ensures.claims

pub returns-in_err-known-clause-claims : goal.returns-in_err-known-clause-claims
returns-in_err-known-clause-claims c =
    let me = c.args.self.now in
    let p = err_from_is_err_and c.from_residual-in_err-known.result c.from_residual-in_err-known.ensures.1 in
    rw (p.1, p.2) (λ is.
    makes_named c.args.segment.now.setting.shape c.args.name.now c.args.spec.now c.in_ok-asked.asked me.seat.me.0 c.ask.new.seat.me.0 c.in_ok-asked.ensures (c.in_err-known.ensures.claims is))

pub enter-requires-clause-has : goal.enter-requires-clause-has
enter-requires-clause-has c =
    subst (λ (l : List KnownHistogram). HasNames l c.args.self.now.names) (sym (c.as_slice-before.ensures.value ∙ c.in_ok-reserve.ensures.items)) c.requires.named

pub enter-requires-clause-none : goal.enter-requires-clause-none
enter-requires-clause-none c =
    subst (λ (l : List KnownHistogram). NoneHasName l c.args.name.now) (sym (c.as_slice-before.ensures.value ∙ c.in_ok-reserve.ensures.items)) c.in_default.ensures

pub returns-in_err-asked-clause-answer : goal.returns-in_err-asked-clause-answer
returns-in_err-asked-clause-answer c =
    let me = c.args.self.now in
    let none = none_known me.known.items me.seat.me.0 c.args.name.now c.requires.listed c.in_default.ensures in
    let p = err_from_is_err_and c.from_residual.result c.from_residual.ensures.1 in
    rw (p.1, p.2) (inl (
      subst (λ (d : Dimensions). IsRefusedFor d c.args.name.now c.args.spec.now c.in_err-asked.field-0.0) (sym c.requires.seated.of.shape) c.in_err-asked.ensures,
      refl,
      λ is index known its same. none index known its,
    ))

pub returns-in_err-reserve-clause-answer : goal.returns-in_err-reserve-clause-answer
returns-in_err-reserve-clause-answer c =
    let me = c.args.self.now in
    let none = none_known me.known.items me.seat.me.0 c.args.name.now c.requires.listed c.in_default.ensures in
    let p = err_from_is_err_and c.from_residual-in_err-reserve.result c.from_residual-in_err-reserve.ensures.1 in
    rw (p.1, p.2) (inl ((c.in_ok-asked.ensures.lawful_name, c.in_ok-asked.ensures.lawful_spec), refl, λ is index known its same. none index known its))
