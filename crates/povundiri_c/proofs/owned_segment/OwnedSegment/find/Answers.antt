use Rattle.std.proofs.Common.{ap, refl, ◌∙◌, inl, inr, Some, Ok, Option}
use Rattle.owned_recorder.specs.declared.owned.OwnedRecorder.{OwnedRecorder}
use Rattle.povundiri_c.proofs.Holding.{same_recorder}
use Rattle.povundiri_c.proofs.Joining.{back_is, busy_is, found_is, gone_is, met_is, met_or}
use Rattle.povundiri_c.proofs.owned_segment.OwnedSegment.find.Goals as goal

pub join_met-requires : goal.join_met-requires
join_met-requires c = met_is c.args.joinable c.args.self.now _ _ _ _ (c.deref-2.ensures, c.deref.ensures) c.pass-passed.ensures.passes c.in-Ok.met c.in-Ok.back c.in-Ok.is

pub returns-in-Some : goal.returns-in-Some
returns-in-Some c =
    let it = back_is c.args.joinable c.args.self.now _ _ _ _ (c.deref-2.ensures, c.deref.ensures) c.pass-passed.ensures.passes c.in-Ok.met c.in-Some.owned
    (c.in-Ok.is ∙ ap (λ (back : Option OwnedRecorder). Ok (c.in-Ok.met, back)) c.in-Some.is) in (
      λ own. absurd (it.3 own),
      λ other. inl (
        refl,
        ap Some (same_recorder c.args.joinable c.in-Some.owned _ _ it.0),
        met_or c.in-Ok.met c.args.self.now _ c.join_met.new.self (λ none. (refl, refl, refl, it.2 none, it.1, refl)) c.join_met.ensures.met,
      ),
    )

pub returns-in-Some-met : goal.returns-in-Some-met
returns-in-Some-met c =
    let it = found_is c.args.joinable c.args.self.now _ _ _ _ (c.deref-2.ensures, c.deref.ensures) c.pass-passed.ensures.passes c.in-Some-met.found
    (c.in-Ok.is ∙ (λ i. Ok (c.in-Some-met.is i, c.in-None.is i))) in
    ((refl, refl, refl, refl), it.0, it.1, it.2)

pub returns-in-Ok : goal.returns-in-Ok
returns-in-Ok c =
    let it = gone_is c.args.joinable c.args.self.now _ _ _ _ (c.deref-2.ensures, c.deref.ensures) c.pass-passed.ensures.passes (c.in-Ok.is ∙ (λ i. Ok (c.in-None-met.is i, c.in-None.is i))) in
    (λ own. absurd (it.0 own), λ other. inr (inr (it.1 other, (refl, refl, (refl, refl, refl, refl)))))

pub returns : goal.returns
returns c =
    let it = busy_is c.args.joinable c.args.self.now _ _ _ _ (c.deref-2.ensures, c.deref.ensures) c.pass-passed.ensures.passes c.in-Err.owned c.in-Err.is in
    let back = ap Some (same_recorder c.args.joinable c.in-Err.owned _ _ it.0) in (
      λ own. (refl, (back, (refl, refl, refl, (λ i. (it.1 i).0), (λ i. (it.1 i).1), refl))),
      λ other. inr (inl (refl, (back, (refl, refl, refl, (λ i. (it.1 i).0), (λ i. (it.1 i).1), refl)))),
    )
