-- An `add` of an actor continues: what becomes of its entry and its units.
use Rattle.segment_invariant.proofs.Prelude.Std.{◌≡◌, ℕ, Bool, true, false, not, pos, List, [], ◌∷◌, ◌++◌, map, length, take, drop, All, inl, inr, refl, sym, ap, subst, ◌∙◌, arith, Option, Some, Contains, int_eq, take-append-drop, All-nil, All-cons}
use Rattle.segment_invariant.proofs.Prelude.Machine.{Dimensions, Actor, EntryProgress, has_ended, tally_noted, Note, Notes, is_untouched, noted, Refusal}
use Rattle.std.proofs.lemmas.List.{take-take, take_all}
use Rattle.segment_machine.specs.declared.actor.Known.{Known}
use Rattle.segment_machine.specs.declared.entry.Entry.{Entry as MachineEntry}
use Rattle.segment_machine.specs.Note.{refused}
use Rattle.hist_core.specs.declared.add.Add.{Add as AddCall}
use Rattle.hist_core.specs.declared.add.AddStep.{AddStep}
use Rattle.hist_core.specs.declared.add.AddStep.TheVariants.{More, Done, Refused}
use Rattle.hist_core.specs.declared.add.AddStage.{AddStage}
use Rattle.hist_core.specs.declared.add.AddStage.TheVariants as stage
use Rattle.hist_core.specs.declared.call.Answer.TheVariants as answer
use Rattle.hist_core.specs.declared.call.Stepped.{Stepped}
use Rattle.hist_core.specs.declared.call.Stepped.TheVariants as stepped
use Rattle.segment_promises.proofs.Spoilers.{notes_leave}
use Rattle.hist_core.specs.declared.actor_run.Running.{Running}
use Rattle.hist_core.specs.declared.actor_run.Running.TheVariants.{Add}
use Rattle.hist_core.specs.declared.actor_run.ActorRun.{ActorRun}
use Rattle.hist_core.specs.Add.{Amid, alone, block_words, counted_entry, ended_entry, FrameOfAdd, HasEntry, SawNeedOfBlock, EntryHasEnded, StandsAtStage, IsAdd, IsSomeAdd, AddSteps, AddGives, serves_counted}
use Rattle.hist_core.specs.Batch.{RunsEntries, EntriesHaveEnded, IsCutAt}
use Rattle.hist_core.specs.StepsBy.{SharedEffect, links, raises, DoesOnly, StepsBy}
use Rattle.hist_core.proofs.Worlds.Landing.{Landing, does_as_said}
use Rattle.hist_core.specs.ActorRun.{known_of, ended_by, begun_by, pending_by, held_by, IsGhostNoting, IsAdding, StandsIn, IsActorRunOf, IsAddAnnounced, LandsBack, MayBeRefused, Answers, DoesAsSaid, IsRefusedBy, Serves, is_flagged, lacks_room}
use Rattle.hist_core.specs.NewRecord.{IsCause}
use Rattle.hist_core.proofs.AddCall.Refusals.{HasOnlyNoted, cause_noted, needs_still}
use Rattle.hist_core.proofs.Parts.Allocations.{goes_with}
use Rattle.hist_core.proofs.AddCall.Entries.{ended_is_over}
use Rattle.hist_core.proofs.Worlds.Apart.{asks_not, looks_not, batches_not, sets_not}
use Rattle.hist_core.proofs.Parts.Claims.{goes_noting}
use Rattle.hist_core.proofs.Worlds.Quiet.{takes_none, takes_not}
use Rattle.hist_core.proofs.AddCall.GhostNotes.{Counts, goes_from, counts_somewhere, still_counts, has_counted, is_cut}

-- its entry is there, however far it is
pub has_entry : (shape : Dimensions) (known : Known) (amid : Amid) (add : AddCall) (a : Actor) (at : AddStage) → StandsAtStage shape known amid add a at
    → (counted summed : Bool) × HasEntry known amid add a counted summed
has_entry shape known amid add a stage.LoadingSingle stands = (false, false, stands.1)
has_entry shape known amid add a (stage.Packing old new) stands = (false, false, stands.1)
has_entry shape known amid add a stage.LoadingCounts stands = (false, false, stands.1)
has_entry shape known amid add a stage.SeekingCounts stands = (false, false, stands.1)
has_entry shape known amid add a (stage.Allocating alloc) stands = (false, false, stands.1)
has_entry shape known amid add a (stage.Mounting at) stands = (false, false, stands.1)
has_entry shape known amid add a (stage.Purging at counts) stands = (false, false, stands.1)
has_entry shape known amid add a (stage.LoadingAgain counts) stands = (false, false, stands.1)
has_entry shape known amid add a (stage.Disabling counts old) stands = (false, false, stands.1)
has_entry shape known amid add a (stage.Moving counts bucket units) stands = (false, false, stands.1)
has_entry shape known amid add a (stage.Sampling sample_search) stands = (false, false, stands.0)
has_entry shape known amid add a (stage.Counting at) stands = (false, false, stands.0)
has_entry shape known amid add a stage.Summing stands = (true, false, stands.1)
has_entry shape known amid add a stage.Noting stands = (true, not (int_eq add.amount (pos 0)), stands.1)

module _ (shape : Dimensions) (version : ℕ) (old : ActorRun) (add : AddCall) (is : old.running ≡ Some (Add add)) where
  adding : (a : Actor) → IsActorRunOf shape version old a → IsAdding shape (pending_by old) add a
  adding a run = subst (λ running. StandsIn shape old.known.items (pending_by old) running a) is run.stands

  module _ (known : Known) where
    abbrev entries : List MachineEntry
    entries = counted_entry known add ∷ []

    abbrev standing : Actor → Type 0
    standing = IsAdd shape known (alone add) add

    runs : (a : Actor) → standing a → RunsEntries entries a
    runs a counting = ap (map (λ (c : EntryProgress). c.entry)) (has_entry shape known (alone add) add a add.stage counting.stands).2

    into : (a : Actor) → IsGhostNoting (pending_by old) known.name add.units entries standing a → StandsIn shape old.known.items (pending_by old) old.running a
    into a telling = subst (λ running. StandsIn shape old.known.items (pending_by old) running a) (sym is) (known, telling)

    abbrev Tells : Actor → Type 0
    Tells = Counts shape version old known.name add.units entries standing runs into

    -- ---- what a step makes of it

    module _ (at : AddStage) (a : Actor) (counts : Tells a) where
      abbrev now : AddCall
      now = record add { stage = at }

      -- it continues
      goes_on : (b : Actor) → AddGives shape known (alone add) now More a b
          → IsActorRunOf shape version (record old { begun = length old.entries.items; running = Some (Add now) }) b
      goes_on b (aside, stays, does, counting) =
          still_counts shape version old known.name add.units entries standing runs into a counts b aside stays (Add now)
          (ap (map (λ (c : EntryProgress). c.entry)) (has_entry shape known (alone add) now b at counting.stands).2)
          (known, record { pending_are = counts.pending_are; stands = inr (ap (λ u. u.share) stays.0 ∙ counts.share, counting) })
          tt tt

      -- its entry has ended
      ends_so : (b : Actor) → EntryHasEnded known (alone add) now b → EntriesHaveEnded entries b
      ends_so b is_over = (
        ap (map (λ (c : EntryProgress). c.entry)) is_over,
        subst (All (λ c. has_ended c ≡ true)) (sym is_over)
            (All-cons (λ c. has_ended c ≡ true) (ended_entry known add) [] (ended_is_over known add) (All-nil (λ c. has_ended c ≡ true))),
      )

      -- nothing of it is counted
      nothing_yet : (b : Actor) → HasEntry known (alone add) now b false false → IsCutAt 0 entries b
      nothing_yet b has =
          let none : take 0 b.entries.running ≡ [] = ap (take 0) has in record {
            runs = ap (map (λ (c : EntryProgress). c.entry)) has;
            ended = subst (All (λ c. has_ended c ≡ true)) (sym none) (All-nil (λ c. has_ended c ≡ true));
            untouched = subst (All (λ c. is_untouched c ≡ true)) (sym (ap (drop 0) has))
                (All-cons (λ c. is_untouched c ≡ true) (record { entry = counted_entry known add; counted = false; summed = false; noted = false }) [] refl (All-nil (λ c. is_untouched c ≡ true)));
            unsummed = subst (All (λ (c : EntryProgress). c.summed ≡ false)) (sym none) (All-nil (λ (c : EntryProgress). c.summed ≡ false));
          }

      -- it does what the call is for
      does_it : (said : Stepped) (first b d : Actor) → map known_of old.known.items ≡ first.answers.names → HasOnlyNoted first a → d.done ≡ b.done
          → DoesOnly (is_flagged said) (lacks_room said) (serves_counted known now a) a b → DoesAsSaid old.running said first d
      does_it said first b d names from behind = does_as_said old.running said (serves_counted known now a) first a b d serves from.2 behind
        where
          as_first : (deed : SharedEffect) → serves_counted known now a deed → serves_counted known now first deed
          as_first (links made) it = it
          as_first (raises words) (it, needs) = (it, needs_still known (add.value, add.units) a first (sym from.3) needs)

          serves : (deed : SharedEffect) → serves_counted known now a deed → Serves old.running first deed
          serves deed it = subst (λ running. Serves running first deed) (sym is) (
            known,
            subst (λ (l : List Known). Contains l known) (sym counts.run.names ∙ names) counts.counting.knows,
            counts.counting.counting.reference,
            as_first deed it,
          )

      -- why it is refused
      refused_by : (first b : Actor) → HasOnlyNoted first a → FrameOfAdd a b → (why : Refusal) → IsCause why (block_words known) a b → SawNeedOfBlock known (add.value, add.units) b
          → IsRefusedBy old.running why first (noted b (refused 0))
      refused_by first b from aside why cause met = subst (λ running. IsRefusedBy running why first (noted b (refused 0))) (sym is) (
        known,
        subst (λ (l : List Known). Contains l known) (sym aside.names) counts.counting.knows,
        counts.counting.counting.reference,
        cause_noted why (block_words known) first a b (noted b (refused 0)) from refl refl cause,
        record { counts = met.counts; value = met.value },
      )

      its_steps : (words new_words : List ℕ) (said : AddStep) → length words ≡ shape.size → AddSteps add words now new_words said
          → StepsBy shape.size version a words new_words (AddGives shape known (alone add) now said a)
      its_steps words new_words said long steps =
          subst (λ (v : ℕ). StepsBy shape.size v a words new_words (AddGives shape known (alone add) now said a))
          (sym counts.counting.version ∙ ap (λ s. s.version) counts.run.segment) (steps shape known (alone add) a long counts.counting)

  -- what the machine's actor does, and what that is at run time
  module _ (a : Actor) (run : IsActorRunOf shape version old a) (at : AddStage) (words new_words : List ℕ) (long : length words ≡ shape.size) (new : ActorRun) where
    abbrev its : Known
    its = (adding a run).0

    goes : {holds : Actor → Type 0} → ((b : Actor) → HasOnlyNoted a b → Tells its b → StepsBy shape.size version b words new_words holds)
        → StepsBy shape.size version a words new_words holds
    goes = goes_from shape version old its.name add.units (entries its) (standing its) (runs its) (into its) a run (adding a run).1

    goes_so : (said : AddStep) (result : Stepped) → AddSteps add words (record add { stage = at }) new_words said
        → IsAddAnnounced (record old { running = Some (Add (record add { stage = at })) }) said new result → Landing shape version old words new new_words result a
    goes_so More result steps (new_is, result_is) =
        subst (λ said. Landing shape version old words new new_words said a) (sym result_is) (goes (λ b from counts. goes_with (its_steps its at b counts words new_words More long steps)
        (λ c (aside, stays, does, counting). (
          subst (λ (r : ActorRun). IsActorRunOf shape version r c) (sym new_is) (goes_on its at b counts c (aside, stays, does, counting)),
          does_it its at b counts stepped.More a c c run.names from refl does,
        ))))
    goes_so Done result steps (new_is, result_is) =
        subst (λ said. Landing shape version old words new new_words said a) (sym result_is) (goes (λ b from counts. goes_noting (its_steps its at b counts words new_words Done long steps)
        (λ c (aside, stays, does, turns, over).
        let (notes, d, told, run_then) = subst (λ (r : ActorRun). (notes : List Note) × (d : Actor) × Notes c notes d × IsActorRunOf shape version r d) (sym new_is)
        (has_counted shape version old its.name add.units (entries its) (standing its) (runs its) (into its) b counts c aside stays turns counts.counting.rests (ends_so its at b counts c over)) in
        (notes, d, told, (run_then, does_it its at b counts (stepped.Done answer.Added) a c d run.names from (notes_leave notes c d told).1 does)))))
    goes_so (Refused why) result steps (new_is, items, result_is) =
        subst (λ said. Landing shape version old words new new_words said a) (sym result_is) (goes (λ b from counts. goes_noting (its_steps its at b counts words new_words (Refused why) long steps)
        (λ c (aside, stays, does, turns, cause, has, met).
        let (notes, d, told, lands) = subst (λ (units : ℕ). (notes : List Note) × (d : Actor) × Notes c notes d
        × (LandsBack shape version units new d × IsRefusedBy old.running why a d)) (sym (ap held_by is))
        (is_cut shape version old its.name add.units (entries its) (standing its) (runs its) (into its) b counts c aside stays turns counts.counting.rests counts.counting.held
        0 add.units (omega arith) (nothing_yet its at b counts c has) (let none : tally_noted (take 0 (entries its)) its.name ≡ 0 = refl in omega (arith, none)) new old.ended (omega arith) new_is items
        (λ d. IsRefusedBy old.running why a d) (refused_by its at b counts a c from aside why cause met)) in
        (notes, d, told, (lands, does_it its at b counts (stepped.Done (answer.Refused why)) a c d run.names from (notes_leave notes c d told).1 does)))))

  pub add_goes : (a : Actor) (run : IsActorRunOf shape version old a) (now : AddCall) → now ≡ record add { stage = now.stage } → (words new_words : List ℕ) → length words ≡ shape.size
      → (said : AddStep) (new : ActorRun) (result : Stepped) → AddSteps add words now new_words said → IsAddAnnounced (record old { running = Some (Add now) }) said new result
      → Landing shape version old words new new_words result a
  add_goes a run now same words new_words long said new result steps is_said =
      goes_so a run now.stage words new_words long new said result (subst (λ (n : AddCall). AddSteps add words n new_words said) same steps)
      (subst (λ (n : AddCall). IsAddAnnounced (record old { running = Some (Add n) }) said new result) same is_said)

  -- it is an `add` that some actor runs
  pub some_add : (n : ℕ) (a : Actor) (run : IsActorRunOf shape version old a) → n ≡ shape.size → IsSomeAdd n add
  some_add n a run long =
      let known = (adding a run).0 in
      let there = counts_somewhere shape version old known.name add.units (entries known) (standing known) (runs known) (into known) a run (adding a run).1 in
      (shape, known, alone add, there.0, long, there.1.counting)

-- ---- what is returned

abbrev added_by : AddCall → Option Running → AddCall
added_by d (Some (Add x)) = x
added_by d running = d

module _ (old : ActorRun) (add now : AddCall) (is : old.running ≡ Some (Add add)) (same : now ≡ record add { stage = now.stage }) (words new_words : List ℕ) where
  whole : take (length old.entries.items) old.entries.items ≡ ended_by old ++ pending_by old
  whole = take_all (length old.entries.items) old.entries.items (omega arith) ∙ sym (take-append-drop old.ended old.entries.items)

  pub add_answers : (said : AddStep) (new : ActorRun) (result : Stepped) → IsAddAnnounced (record old { running = Some (Add now) }) said new result
      → Answers old words new new_words result
  add_answers More new result (new_is, result_is) =
      subst (Answers old words new new_words) (sym result_is) (
        (
          ap (λ (r : ActorRun). r.known.items) new_is,
          (λ asked is_asked. absurd (subst asks_not (sym is ∙ is_asked) tt)),
          (λ other is_other. (now, ap (λ (r : ActorRun). r.running) new_is, ap (λ (x : AddCall). x.units) same ∙ ap (λ (x : AddCall). x.units) (ap (added_by add) (sym is ∙ is_other)))),
          (λ snapshot_call is_snapshot_call. absurd (subst looks_not (sym is ∙ is_snapshot_call) tt)),
          (λ delta_call fresh is_delta_call. absurd (subst takes_not (sym is ∙ is_delta_call) tt)),
          (λ batch is_batch. absurd (subst batches_not (sym is ∙ is_batch) tt)),
          (λ sets. absurd (subst sets_not (sym is ∙ sets) tt)),
        ),
        (ap ended_by new_is, ap begun_by new_is ∙ whole, ap pending_by new_is),
        takes_none old new _ (subst takes_not (sym is) tt) (ap (λ (r : ActorRun). r.taken.items) new_is),
      )
  add_answers Done new result (new_is, result_is) =
      subst (Answers old words new new_words) (sym result_is) (
        (inl (add, is), ap (λ (r : ActorRun). r.running) new_is, ap (λ (r : ActorRun). r.known.items) new_is),
        (ap ended_by new_is ∙ whole, ap begun_by new_is ∙ sym (ap ended_by new_is)),
        takes_none old new _ (subst takes_not (sym is) tt) (ap (λ (r : ActorRun). r.taken.items) new_is),
      )
  add_answers (Refused why) new result (new_is, items, result_is) =
      subst (Answers old words new new_words) (sym result_is) (
        (subst MayBeRefused (sym is) tt, ap (λ (r : ActorRun). r.running) new_is, ap (λ (r : ActorRun). r.known.items) new_is),
        (
          ap ended_by new_is ∙ (ap (take old.ended) items ∙ take-take old.ended old.ended old.entries.items (omega arith)),
          ap begun_by new_is ∙ sym (ap ended_by new_is),
        ),
        takes_none old new _ (subst takes_not (sym is) tt) (ap (λ (r : ActorRun). r.taken.items) new_is),
      )
