-- How the running call of an actor continues, by what its next event is.
use Rattle.segment_invariant.proofs.Prelude.Std.{◌≡◌, ◌≤◌, ℕ, List, [], refl, sym, subst, Some, None, append-nil, All-nil}
use Rattle.segment_invariant.proofs.Prelude.Machine.{Dimensions, word_at, Actor, Published, allocating_event, next, set_corrupt}
use Rattle.segment_image.specs.declared.layout.TheConstants.{HEADER_WORDS}
use Rattle.alloc_core.specs.Event as atomic
use Rattle.segment_machine.specs.declared.actor.Rise.{Rise}
use Rattle.hist_core.proofs.Parts.Alone.{by_event, alike, allocating_beside}
use Rattle.hist_core.proofs.HistCall.Asking.{runs_on}
use Rattle.hist_core.specs.declared.actor_run.Running.TheVariants.{SetCorrupt}
use Rattle.hist_core.specs.declared.actor_run.ActorRun.{ActorRun}
use Rattle.hist_core.proofs.Worlds.Landing.{Landing}
use Rattle.hist_core.specs.StepsBy.{links, raises}
use Rattle.hist_core.specs.ActorRun.{IsActorRunOf, Serves, StandsIn, pending_by}
use Rattle.hist_core.specs.declared.call.Answer.TheVariants.{Flagged}
use Rattle.hist_core.specs.declared.call.Stepped.TheVariants.{Done}
use Rattle.hist_core.proofs.Worlds.Free.{free_turns}
use Rattle.hist_core.proofs.Worlds.Quiet.{quiet_on}

-- the one event of `set_corrupt`
pub sets_corrupt : (shape : Dimensions) (version : ℕ) (a : Actor) (old : ActorRun) (words new_words : List ℕ) → HEADER_WORDS ≤ shape.size
    → IsActorRunOf shape version old a → old.running ≡ Some SetCorrupt → new_words ≡ atomic.after (atomic.set_flag 1) words
    → Landing shape version old words (record old { running = None }) new_words (Done Flagged) a
sets_corrupt shape version a old words new_words long run is stored =
    let stands = subst (λ running. StandsIn shape old.known.items (pending_by old) running a) is run.stands in
    by_event (allocating_event set_corrupt) (free_turns a.hand.place stands.0)
    stored
    (λ learned apart ordered. (
      (
        runs_on shape version old a run (next a (allocating_event set_corrupt) (word_at words 6)) None (allocating_beside a set_corrupt (word_at words 6))
            (refl, quiet_on (pending_by old) a (next a (allocating_event set_corrupt) (word_at words 6)) refl refl refl stands.1) tt tt,
        refl,
      ),
      record {
        spoiled = refl;
        filled = refl;
        linked = ([], sym (append-nil a.done.published), All-nil (λ (p : Published). Serves old.running a (links p.made)));
        raised = ([], sym (append-nil a.done.raised), All-nil (λ (r : Rise). Serves old.running a (raises r.wanted)));
      },
    ))

-- an actor that rests begins it, which is not an event
pub begins_set_corrupt : (shape : Dimensions) (version : ℕ) (r : ActorRun) (a : Actor) → r.running ≡ None → IsActorRunOf shape version r a
    → IsActorRunOf shape version (record r { running = Some SetCorrupt }) a
begins_set_corrupt shape version r a rests run =
    runs_on shape version r a run a (Some SetCorrupt) (alike a) (subst (λ running. StandsIn shape r.known.items (pending_by r) running a) rests run.stands) tt tt
