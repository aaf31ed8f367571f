-- A call that takes or looks, after a search along the list: what holds of it since the search holds since before the search.
use Rattle.std.proofs.Common.{◌∙◌, false, ℕ, ℤ, List, [], ◌∷◌, ◌++◌, ap, sym, subst}
use Rattle.segment_calls.specs.declared.answer.Snapshot.{Snapshot}
use Rattle.segment_machine.specs.declared.actor.Actor.{Actor}
use Rattle.segment_machine.specs.declared.actor.Known.{Known}
use Rattle.segment_machine.specs.declared.place.Place.TheVariants.{Idle}
use Rattle.segment_machine.specs.Actor.{is_opener, looking}
use Rattle.segment_machine.specs.Calls.{MayTurn}
use Rattle.segment_machine.specs.Note.{SawAll}
use Rattle.segment_promises.specs.Onward.{SeesOn}
use Rattle.segment_promises.proofs.Growing.{grows_not}
use Rattle.live_segment.specs.Hist.Search.{HasSearched}
use Rattle.live_segment.specs.Delta.Outcome.{HasTaken, taken_as}
use Rattle.live_segment.specs.Snapshot.Outcome.{HasSnapshot}
use Rattle.live_segment.specs.Steps.Taking.{answered_as}
use Rattle.live_segment.specs.Steps.{IsAtRest}
use Rattle.live_segment.proofs.lemmas.Steps.Proceeding.{sees_lists, sees_on}

module _ (old mid : Actor) (searched : HasSearched old mid) where
  -- a search leaves its recorder at rest
  pub rests_behind : IsAtRest old → MayTurn mid → IsAtRest mid
  rests_behind rest free = record {
    recorder = ap (λ (x : Actor). is_opener x.role) searched.view ∙ rest.recorder;
    free = free;
    apart = searched.apart rest.apart;
    holds = ap (λ (x : Actor). x.units.held) searched.view ∙ rest.holds;
    runs = ap (λ (x : Actor). x.entries.running) searched.view ∙ rest.runs;
    takes = ap (λ (x : Actor). x.deltas.taking) searched.view ∙ rest.takes;
    owes = ap (λ (x : Actor). x.answers.owed) searched.view ∙ rest.owes;
  }

  pub sees_behind : SeesOn old.seen mid.seen
  sees_behind = subst (λ (a : Actor). SeesOn old.seen a.seen) (sym searched.view) (sees_lists old.seen searched.chain searched.ends
      (grows_not old.seen.tails) (grows_not old.seen.singles) (grows_not old.seen.counts) searched.words (grows_not old.seen.cursors))

  -- a delta after it
  pub taken_behind : (known : Known) (delta : List (ℤ × ℕ)) (sum : ℤ) (new : Actor) → HasTaken known delta sum mid new → HasTaken known delta sum old new
  taken_behind known delta sum new taken = record {
    counts = taken.counts;
    same = taken.same ∙ ap (λ (a : Actor). record (looking a) {
      hand = record a.hand { place = Idle };
      seen = new.seen;
      deltas = record a.deltas { taking = false; taken = a.deltas.taken ++ taken_as a known taken.counts sum ∷ [] };
    }) searched.view;
    seen = sees_on old.seen mid.seen new.seen sees_behind taken.seen;
    all = taken.all;
    units = taken.units;
    each = taken.each;
  }

  -- a snapshot after it
  pub answered_behind : (known : Known) (snapshot : Snapshot) (new : Actor) → HasSnapshot known mid snapshot new → HasSnapshot known old snapshot new
  answered_behind known snapshot new has = record {
    same = has.same ∙ ap (λ (a : Actor). record (looking a) {
      hand = record a.hand { place = new.hand.place };
      seen = new.seen;
      deltas = record a.deltas { snapshots = a.deltas.snapshots ++ answered_as a known snapshot ∷ [] };
    }) searched.view;
    free = has.free;
    seen = sees_on old.seen mid.seen new.seen sees_behind has.seen;
    saw = subst (SawAll new known) (ap (λ (a : Actor). answered_as a known snapshot) searched.view) has.saw;
  }
