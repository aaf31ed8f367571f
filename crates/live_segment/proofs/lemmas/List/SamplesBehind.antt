-- Each sample that a recorder visited comes after the record of its histogram, as on the list.
use Rattle.std.proofs.Common.{◌≡◌, ◌≢◌, ℕ, ◌+◌, false, true≢false, sym, ap, ◌∙◌, arith}
use lib.ListN.{get_elem?}
use Rattle.atomic_table.specs.Table.{Allows}
use Rattle.segment_machine.specs.declared.place.Place.TheVariants.{Spent}
use Rattle.segment_machine.specs.Actor.{is_bound, is_opener}
use Rattle.segment_machine.specs.Event.{walking_event, change, Ready, taking_event}
use Rattle.segment_machine.specs.Taking.{load_sum}
use Rattle.segment_promises.proofs.Calls.Orders.{no_repeats, stand_behind}
use Rattle.live_segment.specs.declared.rule.Opening.{Opening}
use Rattle.live_segment.specs.Rule.{Runs}
use Rattle.segment_machine.specs.Walking.{load_published}
use Rattle.live_segment.specs.List.Records.{LoadsType}
use Rattle.live_segment.specs.List.SampleRecords.{LoadsSum}
use Rattle.live_segment.specs.Steps.{Sat}
use Rattle.live_segment.proofs.lemmas.Steps.Allowed.{does_at}

module _ (given : Opening) (slots id : ℕ) (me : Sat) (word : ℕ) (records : is_opener me.0.role ≡ false) where
  pub loads_sum : (at : ℕ) → word ≡ at + 11 + 1 → Ready me.0 (taking_event (load_sum at))
      → Allows (Runs given) slots id me word (change given.setting.version (taking_event (load_sum at))) (LoadsSum word me)
  loads_sum at is ready s run wide mine small =
      let (view, act, valid, holds, told) =
      does_at given slots id me word records (λ (x : ℕ). taking_event (load_sum x)) at (omega (arith, is)) (λ y e. omega (arith, is, e)) ready s run wide mine small in
      let live : me.0.hand.place ≢ Spent = λ e. true≢false (sym (ap is_bound e) ∙ ready.0) in
      let there = ap (λ list. get_elem? list id) (sym run.running.views) ∙ mine in (
        view,
        act,
        valid,
        holds,
        (
          told,
          stand_behind given.setting.shape _ run.running.segment run.running.kept id me.0 there live,
          no_repeats given.setting.shape _ run.running.segment run.running.kept id me.0 there live,
        ),
      )

  -- a type is loaded
  pub loads_type : (at : ℕ) → word ≡ at + 2 + 1 → Ready me.0 (walking_event (load_published at 2))
      → Allows (Runs given) slots id me word (change given.setting.version (walking_event (load_published at 2))) (LoadsType word me)
  loads_type at is ready s run wide mine small =
      let (view, act, valid, holds, told) =
      does_at given slots id me word records (λ (x : ℕ). walking_event (load_published x 2)) at (omega (arith, is)) (λ y e. omega (arith, is, e)) ready s run
      wide mine small in
      let live : me.0.hand.place ≢ Spent = λ e. true≢false (sym (ap is_bound e) ∙ ready.0) in
      let there = ap (λ list. get_elem? list id) (sym run.running.views) ∙ mine in (
        view,
        act,
        valid,
        holds,
        (
          told,
          stand_behind given.setting.shape _ run.running.segment run.running.kept id me.0 there live,
          no_repeats given.setting.shape _ run.running.segment run.running.kept id me.0 there live,
        ),
      )
