use Rattle.std.proofs.Common.{ap, subst, ◌∙◌}
use Rattle.segment_machine.specs.declared.actor.Actor.{Actor}
use Rattle.std.specs.Prelude.{Err}
use Rattle.std.proofs.lemmas.Result.{err_from_is_err_and}
use Rattle.segment_calls.specs.declared.refusal.Refusal.{Refusal}
use Rattle.live_segment.specs.Hist.NewRecord.{MakesRecord}
use Rattle.live_segment.proofs.lemmas.Hist.Blocks.{searches_none, makes_one}
use Rattle.live_segment.proofs.lemmas.List.IndexKept.{made_on, refused_on}
use Rattle.live_segment.proofs.lemmas.Hist.Settled.{walk_goes_on, meets_own, met_first, met_another, met_then, met_another_then, not_made}
use Rattle.live_segment.proofs.segment.Segment.first_named.Goals as goal

pub returns-in-Met-clause-outcome : goal.returns-in-Met-clause-outcome
returns-in-Met-clause-outcome c =
    met_first c.args.asked.now c.args.seat.now.me.0 c.search.new.seat.me.0 c.in-Met.reference c.requires.asks.rests.2 c.search.ensures.view c.in-Met.ensures.outcome

pub returns-in-OtherSpec-clause-outcome : goal.returns-in-OtherSpec-clause-outcome
returns-in-OtherSpec-clause-outcome c =
    met_another c.args.asked.now c.args.seat.now.me.0 c.search.new.seat.me.0 c.requires.asks.rests.2 c.search.ensures.view c.in-OtherSpec.ensures.outcome

pub returns-in_err-make_record-clause-outcome : goal.returns-in_err-make_record-clause-outcome
returns-in_err-make_record-clause-outcome c =
    let p = err_from_is_err_and c.from_residual.result c.from_residual.ensures.1 in
    rw (p.1, p.2)
    (not_made c.args.asked.now c.in-End.at c.args.seat.now.me.0 c.search.new.seat.me.0 c.make_record.new.seat.me.0 c.in_err-make_record.field-0.0
    c.requires.asks.rests.2 c.requires.asks.rests.1 c.search.ensures.view c.in-End.ensures.outcome c.in-End.ensures.ended c.in_err-make_record.ensures.outcome)

pub find-requires-clause-walks : goal.find-requires-clause-walks
find-requires-clause-walks c =
    walk_goes_on c.args.asked.now c.in-End.at c.search.new.seat.me.0 c.make_record.new.seat.me.0 c.in-End.ensures.outcome.0 c.in_ok-make_record.ensures.outcome

pub unreachable-requires : goal.unreachable-requires
unreachable-requires c =
    meets_own c.args.asked.now c.search.new.seat.me.0 c.make_record.new.seat.me.0 c.find.new.seat.me.0 c.in_ok-make_record.ensures.outcome c.find.ensures.view
    c.in-End-find.ensures.outcome.2

pub returns-in-Met-find-clause-outcome : goal.returns-in-Met-find-clause-outcome
returns-in-Met-find-clause-outcome c =
    met_then c.args.asked.now c.args.seat.now.me.0 c.search.new.seat.me.0 c.make_record.new.seat.me.0 c.find.new.seat.me.0 c.requires.asks.rests.2 c.search.ensures.view
    c.in-End.ensures.outcome.0.way.free c.in_ok-make_record.ensures.outcome c.find.ensures.view c.in-Met-find.reference c.in-Met-find.ensures.outcome

pub returns-in-OtherSpec-find-clause-outcome : goal.returns-in-OtherSpec-find-clause-outcome
returns-in-OtherSpec-find-clause-outcome c =
    met_another_then c.args.asked.now c.args.seat.now.me.0 c.search.new.seat.me.0 c.make_record.new.seat.me.0 c.find.new.seat.me.0 c.requires.asks.rests.2 c.search.ensures.view
    c.in-End.ensures.outcome.0.way.free c.in_ok-make_record.ensures.outcome c.find.ensures.view c.in-OtherSpec-find.ensures.outcome

pub returns-in-Met-clause-claims : goal.returns-in-Met-clause-claims
returns-in-Met-clause-claims c = searches_none c.args.asked.now c.args.seat.now.me.0 c.search.new.seat.me.0 c.search.ensures.view

pub returns-in-OtherSpec-clause-claims : goal.returns-in-OtherSpec-clause-claims
returns-in-OtherSpec-clause-claims c = λ is. searches_none c.args.asked.now c.args.seat.now.me.0 c.search.new.seat.me.0 c.search.ensures.view

pub returns-in_err-make_record-clause-claims : goal.returns-in_err-make_record-clause-claims
returns-in_err-make_record-clause-claims c =
    let p = err_from_is_err_and c.from_residual.result c.from_residual.ensures.1 in
    rw (p.1, p.2)
    (λ is. absurd (subst (λ (w : Refusal). MakesRecord c.args.asked.now c.search.new.seat.me.0 (Err w) c.make_record.new.seat.me.0) is c.in_err-make_record.ensures.outcome))

pub returns-in-Met-find-clause-claims : goal.returns-in-Met-find-clause-claims
returns-in-Met-find-clause-claims c =
    makes_one c.args.asked.now c.args.seat.now.me.0 c.search.new.seat.me.0 c.make_record.new.seat.me.0 c.find.new.seat.me.0 c.search.ensures.view
    c.in-End.ensures.outcome.1 c.in-End.ensures.ended c.in_ok-make_record.ensures.outcome c.find.ensures.view

pub returns-in-OtherSpec-find-clause-claims : goal.returns-in-OtherSpec-find-clause-claims
returns-in-OtherSpec-find-clause-claims c = λ is.
    makes_one c.args.asked.now c.args.seat.now.me.0 c.search.new.seat.me.0 c.make_record.new.seat.me.0 c.find.new.seat.me.0 c.search.ensures.view
    c.in-End.ensures.outcome.1 c.in-End.ensures.ended c.in_ok-make_record.ensures.outcome c.find.ensures.view

pub returns-in_err-make_record-clause-indexed : goal.returns-in_err-make_record-clause-indexed
returns-in_err-make_record-clause-indexed c =
    refused_on _ _ c.args.asked.now c.in_err-make_record.field-0.0 c.search.new.seat.me.0 c.make_record.new.seat.me.0
    (ap (λ (a : Actor). a.entries.running) c.search.ensures.view.view ∙ c.requires.asks.rests.1) c.in_err-make_record.ensures.outcome c.search.ensures.indexed

pub returns-in-Met-find-clause-indexed : goal.returns-in-Met-find-clause-indexed
returns-in-Met-find-clause-indexed c =
    made_on _ _ c.args.asked.now c.search.new.seat.me.0 c.make_record.new.seat.me.0 c.find.new.seat.me.0 c.in_ok-make_record.ensures.outcome c.find.ensures.view
    c.search.ensures.indexed

pub returns-in-OtherSpec-find-clause-indexed : goal.returns-in-OtherSpec-find-clause-indexed
returns-in-OtherSpec-find-clause-indexed c =
    made_on _ _ c.args.asked.now c.search.new.seat.me.0 c.make_record.new.seat.me.0 c.find.new.seat.me.0 c.in_ok-make_record.ensures.outcome c.find.ensures.view
    c.search.ensures.indexed
