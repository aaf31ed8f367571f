-- How an actor changes by what its `batch` says.
use Rattle.segment_invariant.proofs.Prelude.Std.{◌≡◌, ◌≤◌, ◌+◌, ◌-◌, ℕ, ℤ, List, ◌++◌, map, length, take, inr, refl, sym, ap, subst, ◌∙◌, arith, length-append, Option, Some, vec_len, length-map, take-append-drop, some, get_elem?, Contains}
use Rattle.segment_invariant.proofs.Prelude.Machine.{Dimensions, Actor, Note, Notes, noted, tally_noted, Refusal}
use Rattle.std.proofs.lemmas.List.{length-drop, take-take, take_all, drop-take}
use Rattle.segment_machine.specs.declared.actor.Known.{Known}
use Rattle.segment_machine.specs.declared.entry.Entry.{Entry as MachineEntry}
use Rattle.segment_machine.specs.Note.{refused}
use Rattle.hist_core.specs.declared.batch.Batch.{Batch as BatchCall}
use Rattle.hist_core.specs.declared.batch.BatchStep.{BatchStep}
use Rattle.hist_core.specs.declared.batch.BatchStep.TheVariants.{More, Done, Refused}
use Rattle.hist_core.specs.declared.call.Answer.TheVariants as answer
use Rattle.hist_core.specs.declared.call.Stepped.{Stepped}
use Rattle.hist_core.specs.declared.call.Stepped.TheVariants as stepped
use Rattle.segment_promises.proofs.Spoilers.{notes_leave}
use Rattle.segment_machine.specs.declared.actor.Made.TheVariants.{Sample}
use Rattle.hist_core.specs.declared.actor_run.Running.{Running}
use Rattle.hist_core.specs.declared.actor_run.Running.TheVariants.{Batch}
use Rattle.hist_core.specs.declared.actor_run.ActorRun.{ActorRun}
use Rattle.hist_core.specs.Add.{FrameOfAdd, block_words, counted_entry}
use Rattle.hist_core.specs.Batch.{IsBatch, IsCutAt, EntriesHaveEnded, IsSomeBatch, IsSameBatch, IsRefusedAt, BatchSteps, BatchGives, added_of, counted_entries, serves_counted, NextNeedsBlock, sum_entries, units_among}
use Rattle.hist_core.specs.StepsBy.{SharedEffect, links, raises, DoesOnly, StepsBy}
use Rattle.hist_core.proofs.Worlds.Landing.{Landing, does_as_said}
use Rattle.hist_core.specs.ActorRun.{known_of, ended_by, begun_by, pending_by, entry_of, held_by, IsGhostNoting, IsBatching, StandsIn, IsActorRunOf, IsBatchAnnounced, LandsBack, Answers, DoesAsSaid, IsRefusedBy, Serves, is_flagged, lacks_room}
use Rattle.hist_core.specs.NewRecord.{IsCause}
use Rattle.hist_core.proofs.AddCall.Refusals.{HasOnlyNoted, cause_noted, needs_still}
use Rattle.hist_core.proofs.Parts.Allocations.{goes_with}
use Rattle.hist_core.proofs.Worlds.Apart.{asks_not, adds_not, looks_not, sets_not}
use Rattle.hist_core.proofs.BatchCall.Batching.{runs_so, first_units}
use Rattle.hist_core.proofs.Parts.Claims.{goes_noting}
use Rattle.hist_core.proofs.Worlds.Quiet.{takes_none, takes_not}
use Rattle.hist_core.proofs.AddCall.GhostNotes.{Counts, goes_from, counts_somewhere, still_counts, has_counted, is_cut}

module _ (shape : Dimensions) (version : ℕ) (old : ActorRun) (batch : BatchCall) (is : old.running ≡ Some (Batch batch)) where
  batching : (a : Actor) → IsActorRunOf shape version old a → IsBatching shape (pending_by old) batch a
  batching a run = subst (λ running. StandsIn shape old.known.items (pending_by old) running a) is run.stands

  module _ (known : Known) where
    abbrev entries : List MachineEntry
    entries = counted_entries known batch

    abbrev standing : Actor → Type 0
    standing = IsBatch shape known batch

    runs : (a : Actor) → standing a → map (λ c. c.entry) a.entries.running ≡ entries
    runs a counting = runs_so shape known batch a counting

    into : (a : Actor) → IsGhostNoting (pending_by old) known.name batch.cost entries standing a → StandsIn shape old.known.items (pending_by old) old.running a
    into a telling = subst (λ running. StandsIn shape old.known.items (pending_by old) running a) (sym is) (known, telling)

    abbrev Tells : Actor → Type 0
    Tells = Counts shape version old known.name batch.cost entries standing runs into

    -- ---- what a step makes of it

    module _ (now : BatchCall) (same : IsSameBatch batch now) (same_entries : counted_entries known now ≡ entries) (a : Actor) (counts : Tells a) where
      -- it continues
      goes_on : (b : Actor) → BatchGives shape known now More a b → IsActorRunOf shape version (record old { begun = length old.entries.items; running = Some (Batch now) }) b
      goes_on b (aside, stays, does, counting) =
          still_counts shape version old known.name batch.cost entries standing runs into a counts b aside stays (Batch now)
          (runs_so shape known now b counting ∙ same_entries)
          (known, record { pending_are = counts.pending_are ∙ sym same_entries; stands = inr (ap (λ u. u.share) stays.0 ∙ counts.share, counting) })
          tt tt

      -- it still counts the same
      same_counted : (deed : SharedEffect) → serves_counted known now a deed → serves_counted known batch a deed
      same_counted (links made) (sample, inside, it) =
          (sample, subst (λ (l : List (ℤ × ℕ)). Contains l sample) same.samples inside, it ∙ ap (λ (histogram : ℕ). Sample histogram sample.0) same.histogram)
      same_counted (raises words) (it, (sample, inside, needs)) = (it, (sample, subst (λ (l : List (ℤ × ℕ)). Contains l sample) same.samples inside, needs))

      -- it does what the call is for
      does_it : (said : Stepped) (first b d : Actor) → map known_of old.known.items ≡ first.answers.names → HasOnlyNoted first a → d.done ≡ b.done
          → DoesOnly (is_flagged said) (lacks_room said) (serves_counted known now a) a b → DoesAsSaid old.running said first d
      does_it said first b d names from behind = does_as_said old.running said (serves_counted known now a) first a b d serves from.2 behind
        where
          as_first : (deed : SharedEffect) → serves_counted known batch a deed → serves_counted known batch first deed
          as_first (links made) it = it
          as_first (raises words) (it, (sample, inside, needs)) = (it, (sample, inside, needs_still known sample a first (sym from.3) needs))

          serves : (deed : SharedEffect) → serves_counted known now a deed → Serves old.running first deed
          serves deed it = subst (λ running. Serves running first deed) (sym is) (
            known,
            subst (λ (l : List Known). Contains l known) (sym counts.run.names ∙ names) counts.counting.knows,
            counts.counting.reference,
            as_first deed (same_counted deed it),
          )

      -- why it is refused
      refused_by : (added : ℕ) (first b : Actor) → HasOnlyNoted first a → FrameOfAdd a b → (why : Refusal) → IsCause why (block_words known) a b
          → added ≡ batch.added → NextNeedsBlock known now added b
          → IsRefusedBy old.running why first (noted b (refused added))
      refused_by added first b from aside why cause here (sample, there, needs) = subst (λ running. IsRefusedBy running why first (noted b (refused added))) (sym is) (
        sample,
        subst (λ (p : List (ℤ × ℕ) × ℕ). get_elem? p.0 p.1 ≡ some sample) (λ i. (same.samples i, here i)) there,
        (
          known,
          subst (λ (l : List Known). Contains l known) (sym aside.names) counts.counting.knows,
          counts.counting.reference,
          cause_noted why (block_words known) first a b (noted b (refused added)) from refl refl cause,
          record { counts = needs.counts; value = needs.value },
        ),
      )

      its_steps : (words new_words : List ℕ) (said : BatchStep) → length words ≡ shape.size → BatchSteps batch words now new_words said
          → StepsBy shape.size version a words new_words (BatchGives shape known now said a)
      its_steps words new_words said long steps =
          subst (λ (v : ℕ). StepsBy shape.size v a words new_words (BatchGives shape known now said a)) (ap (λ s. s.version) counts.run.segment) (steps shape known a long counts.counting)

  -- what it counts is the same, since it counts the same items
  entries_same : (known : Known) (now : BatchCall) → IsSameBatch batch now → counted_entries known now ≡ entries known
  entries_same known now same i = same.entries known i ++ sum_entries known.name (same.sum i)

  -- there are as many more entries than have ended
  pub pending_there : (a : Actor) → IsActorRunOf shape version old a → old.ended + vec_len batch.items ≤ length old.entries.items
  pending_there a run =
      let (known, telling) = batching a run in
      let rest : length old.entries.items - old.ended ≡ length (entries known) =
      sym (length-drop old.ended old.entries.items) ∙ (sym (length-map (pending_by old) entry_of) ∙ ap length telling.pending_are) in
      let both = length-append (map (counted_entry known) batch.items.items) (sum_entries known.name batch.sum) in
      let items = length-map batch.items.items (counted_entry known) in let ok = batch.items.ok.0 in let within = run.within in
      omega (arith, rest, both, items, ok, within)

  -- what the machine's actor does, and what that is at run time
  module _ (a : Actor) (run : IsActorRunOf shape version old a) (now : BatchCall) (same : IsSameBatch batch now) (words new_words : List ℕ) (long : length words ≡ shape.size)
      (new : ActorRun) where
    abbrev its : Known
    its = (batching a run).0

    still_same : counted_entries its now ≡ entries its
    still_same = entries_same its now same

    goes : {holds : Actor → Type 0} → ((b : Actor) → HasOnlyNoted a b → Tells its b → StepsBy shape.size version b words new_words holds)
        → StepsBy shape.size version a words new_words holds
    goes = goes_from shape version old its.name batch.cost (entries its) (standing its) (runs its) (into its) a run (batching a run).1

    pub batch_goes : (said : BatchStep) (result : Stepped) → BatchSteps batch words now new_words said → IsRefusedAt batch now said
        → IsBatchAnnounced (record old { running = Some (Batch now) }) said new result → Landing shape version old words new new_words result a
    batch_goes More result steps at (new_is, result_is) =
        subst (λ said. Landing shape version old words new new_words said a) (sym result_is) (goes (λ b from counts. goes_with (its_steps its now same still_same b counts words new_words More long steps)
        (λ c (aside, stays, does, counting). (
          subst (λ (r : ActorRun). IsActorRunOf shape version r c) (sym new_is) (goes_on its now same still_same b counts c (aside, stays, does, counting)),
          does_it its now same still_same b counts stepped.More a c c run.names from refl does,
        ))))
    batch_goes Done result steps at (new_is, result_is) =
        subst (λ said. Landing shape version old words new new_words said a) (sym result_is) (goes (λ b from counts. goes_noting (its_steps its now same still_same b counts words new_words Done long steps)
        (λ c (aside, stays, does, turns, over).
        let (notes, d, told, run_then) = subst (λ (r : ActorRun). (notes : List Note) × (d : Actor) × Notes c notes d × IsActorRunOf shape version r d) (sym new_is)
        (has_counted shape version old its.name batch.cost (entries its) (standing its) (runs its) (into its) b counts c aside stays turns counts.counting.rests
        (subst (λ (l : List MachineEntry). EntriesHaveEnded l c) still_same over)) in
        (notes, d, told, (run_then, does_it its now same still_same b counts (stepped.Done answer.Added) a c d run.names from (notes_leave notes c d told).1 does)))))
    batch_goes (Refused refusal) result steps at (new_is, items, result_is) =
        subst (λ said. Landing shape version old words new new_words said a) (sym result_is) (goes (λ b from counts. goes_noting (its_steps its now same still_same b counts words new_words (Refused refusal) long steps)
        (λ c (aside, stays, does, turns, cause, cut, few, spent, met).
        let (notes, d, told, lands) = subst (λ (units : ℕ). (notes : List Note) × (d : Actor) × Notes c notes d
        × (LandsBack shape version units new d × IsRefusedBy old.running refusal.why a d)) (sym (ap held_by is))
        (is_cut shape version old its.name batch.cost (entries its) (standing its) (runs its) (into its) b counts c aside stays turns counts.counting.rests counts.counting.held
        refusal.added batch.left (few_entries few) (subst (λ (l : List MachineEntry). IsCutAt refusal.added l c) still_same cut) (left_so few spent) new (old.ended + refusal.added) refl new_is items
        (λ d. IsRefusedBy old.running refusal.why a d) (refused_by its now same still_same b counts refusal.added a c from aside refusal.why cause at.0 met)) in
        (notes, d, told, (lands, does_it its now same still_same b counts (stepped.Done (answer.BatchRefused refusal)) a c d run.names from (notes_leave notes c d told).1 does)))))
      where
        few_entries : refusal.added ≤ length now.items.items → refusal.added ≤ length (entries its)
        few_entries few =
            let many = ap length (sym still_same) in let both = length-append (map (counted_entry its) now.items.items) (sum_entries its.name now.sum) in
            let items = length-map now.items.items (counted_entry its) in omega (arith, few, many, both, items)

        left_so : refusal.added ≤ length now.items.items → now.left + units_among (take refusal.added now.items.items) ≡ now.cost
            → batch.left ≡ batch.cost - tally_noted (take refusal.added (entries its)) its.name
        left_so few spent =
            let first = first_units its now refusal.added few in
            let there : tally_noted (take refusal.added (entries its)) its.name ≡ tally_noted (take refusal.added (counted_entries its now)) its.name =
            ap (λ (l : List MachineEntry). tally_noted (take refusal.added l) its.name) (sym still_same) in
            let cost = same.cost in let left = at.2 in omega (arith, first, there, cost, spent, left)

  -- it is a `batch` that some actor runs
  pub some_batch : (n : ℕ) (a : Actor) (run : IsActorRunOf shape version old a) → n ≡ shape.size → IsSomeBatch n batch
  some_batch n a run long =
      let known = (batching a run).0 in
      let there = counts_somewhere shape version old known.name batch.cost (entries known) (standing known) (runs known) (into known) a run (batching a run).1 in
      (shape, known, there.0, long, there.1.counting)

-- when it is refused, no more are counted than there are
pub added_few : (old new : BatchCall) (said : BatchStep) → IsRefusedAt old new said → added_of said ≤ vec_len old.items
added_few old new More at = omega arith
added_few old new Done at = omega arith
added_few old new (Refused refusal) at = let less = at.1 in omega (arith, less)

-- ---- what is returned

abbrev batch_by : BatchCall → Option Running → BatchCall
batch_by d (Some (Batch x)) = x
batch_by d running = d

module _ (old : ActorRun) (batch now : BatchCall) (is : old.running ≡ Some (Batch batch)) (same : IsSameBatch batch now) (words new_words : List ℕ) where
  whole : take (length old.entries.items) old.entries.items ≡ ended_by old ++ pending_by old
  whole = take_all (length old.entries.items) old.entries.items (omega arith) ∙ sym (take-append-drop old.ended old.entries.items)

  -- the first of those that are pending
  front : (added : ℕ) → old.ended + added ≤ length old.entries.items
      → take (old.ended + added) old.entries.items ≡ ended_by old ++ take added (pending_by old)
  front added fits =
      sym (take-append-drop old.ended (take (old.ended + added) old.entries.items))
      ∙ (λ i. take-take old.ended (old.ended + added) old.entries.items (omega arith) i ++ drop-take old.ended added old.entries.items i)

  pub batch_answers : (said : BatchStep) (new : ActorRun) (result : Stepped) → IsRefusedAt batch now said → old.ended + vec_len batch.items ≤ length old.entries.items
      → IsBatchAnnounced (record old { running = Some (Batch now) }) said new result → Answers old words new new_words result
  batch_answers More new result at fits (new_is, result_is) =
      subst (Answers old words new new_words) (sym result_is) (
        (
          ap (λ (r : ActorRun). r.known.items) new_is,
          (λ asked is_asked. absurd (subst asks_not (sym is ∙ is_asked) tt)),
          (λ add is_add. absurd (subst adds_not (sym is ∙ is_add) tt)),
          (λ snapshot_call is_snapshot_call. absurd (subst looks_not (sym is ∙ is_snapshot_call) tt)),
          (λ delta_call fresh is_delta_call. absurd (subst takes_not (sym is ∙ is_delta_call) tt)),
          (λ other is_other. (now, ap (λ (r : ActorRun). r.running) new_is, subst (λ (x : BatchCall). IsSameBatch x now) (ap (batch_by batch) (sym is ∙ is_other)) same)),
          (λ sets. absurd (subst sets_not (sym is ∙ sets) tt)),
        ),
        (ap ended_by new_is, ap begun_by new_is ∙ whole, ap pending_by new_is),
        takes_none old new _ (subst takes_not (sym is) tt) (ap (λ (r : ActorRun). r.taken.items) new_is),
      )
  batch_answers Done new result at fits (new_is, result_is) =
      subst (Answers old words new new_words) (sym result_is) (
        (inr (batch, is), ap (λ (r : ActorRun). r.running) new_is, ap (λ (r : ActorRun). r.known.items) new_is),
        (ap ended_by new_is ∙ whole, ap begun_by new_is ∙ sym (ap ended_by new_is)),
        takes_none old new _ (subst takes_not (sym is) tt) (ap (λ (r : ActorRun). r.taken.items) new_is),
      )
  batch_answers (Refused refusal) new result at fits (new_is, items, result_is) =
      subst (Answers old words new new_words) (sym result_is) (
        ((batch, is, at.0), ap (λ (r : ActorRun). r.running) new_is, ap (λ (r : ActorRun). r.known.items) new_is),
        (
          ap ended_by new_is ∙ (ap (take (old.ended + refusal.added)) items
              ∙ (take-take (old.ended + refusal.added) (old.ended + refusal.added) old.entries.items (omega arith) ∙ front refusal.added (let less = at.1 in omega (arith, less, fits)))),
          ap begun_by new_is ∙ sym (ap ended_by new_is),
        ),
        takes_none old new _ (subst takes_not (sym is) tt) (ap (λ (r : ActorRun). r.taken.items) new_is),
      )
