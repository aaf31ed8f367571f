-- A call that counts continues: what becomes of its entries and its units.
use Rattle.segment_invariant.proofs.Prelude.Std.{◌≡◌, ◌≤◌, ◌+◌, ◌-◌, ℕ, false, List, [], ◌∷◌, ◌++◌, map, length, take, inr, refl, sym, ap, subst, ◌∙◌, arith, length-append, ⊎_elim, Some, None, vec_len, vec_capacity, map-append, take-append-drop, length-map, append-nil}
use Rattle.segment_invariant.proofs.Prelude.Machine.{Dimensions, Actor, Cost, EntryProgress, cost_total, is_opener, fresh, tally_noted, Note, Notes, noted, begins}
use Rattle.std.proofs.Math.Seq.{take-append-add}
use Rattle.std.proofs.lemmas.List.{take_all, drop_all, length-drop, length-take-le, take-map}
use Rattle.segment_machine.specs.declared.actor.Entries.{Entries}
use Rattle.segment_machine.specs.declared.actor.Units.{Units}
use Rattle.segment_machine.specs.declared.entry.Entry.{Entry as MachineEntry}
use Rattle.segment_machine.specs.Note.{MayNote, ends, refused, spent_by}
use Rattle.segment_machine.specs.Seats.{giver}
use Rattle.hist_core.specs.declared.actor_run.Running.{Running}
use Rattle.hist_core.specs.declared.actor_run.ActorRun.{ActorRun}
use Rattle.hist_core.specs.Add.{FrameOfAdd, StaysOpen}
use Rattle.hist_core.specs.Batch.{RunsEntries, EntriesHaveEnded, IsCutAt}
use Rattle.hist_core.specs.StepsBy.{StepsBy, IsFree}
use Rattle.hist_core.specs.ActorRun.{entry_of, ended_by, pending_by, AreDeltasShown, HasDraft, HasRoomForHist, IsBefore, IsGhostNoting, StandsIn, IsActorRunOf, LandsBack}
use Rattle.hist_core.proofs.AddCall.Refusals.{HasOnlyNoted}
use Rattle.hist_core.proofs.Worlds.Free.{free_turns}
use Rattle.hist_core.proofs.Worlds.Quiet.{met_on, not_spent, started, logged}

-- an actor that notes something first takes the step that it takes after the note
pub goes_after : {size version : ℕ} {a : Actor} {words new_words : List ℕ} {holds : Actor → Type 0} (note : Note) → MayNote a note
    → StepsBy size version (noted a note) words new_words holds → StepsBy size version a words new_words holds
goes_after note may go = record {
  before = note ∷ go.before;
  at = go.at;
  told = (may, go.told);
  event = go.event;
  ready = go.ready;
  words_are = go.words_are;
  goes = go.goes;
}

-- those that begin are the entries
fresh_are : (entries : List MachineEntry) → map (λ (c : EntryProgress). c.entry) (map fresh entries) ≡ entries
fresh_are [] = refl
fresh_are (e ∷ entries) = ap (λ (l : List MachineEntry). e ∷ l) (fresh_are entries)

-- ---- from its first event on

-- A call that counts these entries, costs this, and is in this state from its first event on.
module _ (shape : Dimensions) (version : ℕ) (old : ActorRun) (name : List ℕ) (cost : ℕ) (entries : List MachineEntry) (standing : Actor → Type 0)
    (runs : (a : Actor) → standing a → RunsEntries entries a)
    (into : (a : Actor) → IsGhostNoting (pending_by old) name cost entries standing a → StandsIn shape old.known.items (pending_by old) old.running a) where
  -- all of its entries have begun
  abbrev pub going : ActorRun
  going = record old { begun = length old.entries.items }

  -- its actor counts, with the units that the call has
  pub record Counts (a : Actor) : Type 0 where
    pub pending_are : map entry_of (pending_by old) ≡ entries
    pub share : a.units.share ≡ 0
    pub counting : standing a
    pub run : IsActorRunOf shape version going a

  module _ (a : Actor) (run : IsActorRunOf shape version old a) (telling : IsGhostNoting (pending_by old) name cost entries standing a) where
    -- there are this many more entries than have ended
    more : length old.entries.items ≡ old.ended + length entries
    more =
        let rest : length old.entries.items - old.ended ≡ length entries =
        sym (length-drop old.ended old.entries.items) ∙ (sym (length-map (pending_by old) entry_of) ∙ ap length telling.pending_are) in
        let within = run.within in omega (arith, rest, within)

    begun_so : (running : List EntryProgress) → map (λ c. c.entry) running ≡ entries
        → map entry_of (take (length old.entries.items) old.entries.items) ≡ map (λ c. c.entry) (a.entries.log ++ running)
    begun_so running its =
        ap (map entry_of) (take_all (length old.entries.items) old.entries.items (omega arith))
        ∙ (ap (map entry_of) (sym (take-append-drop old.ended old.entries.items))
        ∙ (map-append entry_of (ended_by old) (pending_by old)
        ∙ ((λ i. run.ended i ++ (telling.pending_are ∙ sym its) i) ∙ sym (map-append (λ (c : EntryProgress). c.entry) a.entries.log running))))

    -- before its first event it notes that it begins
    before_that : IsBefore name cost entries standing a → Counts (noted a (begins name cost entries))
    before_that before = record {
      pending_are = telling.pending_are;
      share = none;
      counting = before.stands;
      run = record {
        records = run.records;
        segment = run.segment;
        first = run.first;
        within = ((let within = more in omega (arith, within)), omega arith);
        ended = run.ended;
        begun = begun_so (map fresh entries) (fresh_are entries);
        taken = run.taken;
        names = run.names;
        lawful = run.lawful;
        once = run.once;
        met = run.met;
        stands = into (noted a (begins name cost entries)) (record { pending_are = telling.pending_are; stands = inr (none, before.stands) });
        room = run.room;
        draft = run.draft;
      };
    }
      where
        none : a.units.share - cost ≡ 0
        none = let share = before.share in omega (arith, share)

    -- after that all of its entries have begun
    behind_that : (a.units.share ≡ 0) × standing a → Counts a
    behind_that (share, counting) = record {
      pending_are = telling.pending_are;
      share = share;
      counting = counting;
      run = subst (λ (n : ℕ). IsActorRunOf shape version (record old { begun = n }) a) all run;
    }
      where
        all : old.begun ≡ length old.entries.items
        all =
            let many : length a.entries.running ≡ length entries = sym (length-map a.entries.running (λ (c : EntryProgress). c.entry)) ∙ ap length (runs a counting) in
            let both = length-append a.entries.log a.entries.running in
            let ended = logged shape version old a run in let begun = started shape version old a run in let within = more in
            omega (arith, many, both, ended, begun, within)

    -- it continues from there
    pub goes_from : {words new_words : List ℕ} {holds : Actor → Type 0} → ((b : Actor) → HasOnlyNoted a b → Counts b → StepsBy shape.size version b words new_words holds)
        → StepsBy shape.size version a words new_words holds
    goes_from go = ⊎_elim
        (λ before. goes_after (begins name cost entries) before.may (go (noted a (begins name cost entries)) (refl, refl, refl, refl) (before_that before)))
        (λ behind. go a (refl, refl, refl, refl) (behind_that behind))
        telling.stands

    -- some actor is there
    pub counts_somewhere : (b : Actor) × Counts b
    counts_somewhere = ⊎_elim (λ before. (noted a (begins name cost entries), before_that before)) (λ behind. (a, behind_that behind)) telling.stands

  -- ---- what a step makes of it

  module _ (a : Actor) (counts : Counts a) where
    -- all entries are those of its log and those that run
    all_are : map entry_of old.entries.items ≡ map (λ c. c.entry) a.entries.log ++ entries
    all_are =
        ap (map entry_of) (sym (take_all (length old.entries.items) old.entries.items (omega arith)))
        ∙ (counts.run.begun
        ∙ (map-append (λ (c : EntryProgress). c.entry) a.entries.log a.entries.running
        ∙ ap (λ l. map (λ (c : EntryProgress). c.entry) a.entries.log ++ l) (runs a counts.counting)))

    module _ (b : Actor) (aside : FrameOfAdd a b) (open_still : StaysOpen a b) where
      log_is : b.entries.log ≡ a.entries.log
      log_is = ap (λ (e : Entries). e.log) open_still.1

      -- it continues
      pub still_counts : (running : Running) → RunsEntries entries b → StandsIn shape old.known.items (pending_by old) (Some running) b
          → HasRoomForHist (Some running) (vec_len old.known) (vec_capacity old.known) → HasDraft (Some running) old.taken → IsActorRunOf shape version (record going { running = Some running }) b
      still_counts running its stands room draft = record {
        records = ap is_opener aside.role ∙ counts.run.records;
        segment = aside.segment ∙ counts.run.segment;
        first = ap (λ (e : Entries). e.first) open_still.1 ∙ counts.run.first;
        within = counts.run.within;
        ended = counts.run.ended ∙ ap (map (λ (c : EntryProgress). c.entry)) (sym log_is);
        begun = ap (map entry_of) (take_all (length old.entries.items) old.entries.items (omega arith))
            ∙ (all_are ∙ ((λ i. map (λ (c : EntryProgress). c.entry) (sym log_is i) ++ sym its i)
            ∙ sym (map-append (λ (c : EntryProgress). c.entry) b.entries.log b.entries.running)));
        taken = subst (AreDeltasShown old.taken.items) (sym (ap (λ d. d.taken) aside.deltas)) counts.run.taken;
        names = counts.run.names ∙ sym aside.names;
        lawful = counts.run.lawful;
        once = counts.run.once;
        met = met_on a b aside.names aside.chain counts.run.met;
        stands = stands;
        room = room;
        draft = draft;
      }

      module _ (turns : IsFree b) (rests : a.deltas.taking ≡ false) where
        -- its entries have ended
        pub has_counted : EntriesHaveEnded entries b
            → (notes : List Note) × (c : Actor) × Notes b notes c × IsActorRunOf shape version (record going { ended = length old.entries.items; running = None }) c
        has_counted (its, over) =
            let ended_are : map entry_of (take (length old.entries.items) old.entries.items) ≡ map (λ c. c.entry) (b.entries.log ++ b.entries.running) =
            ap (map entry_of) (take_all (length old.entries.items) old.entries.items (omega arith))
            ∙ (all_are ∙ ((λ i. map (λ (c : EntryProgress). c.entry) (sym log_is i) ++ sym its i)
            ∙ sym (map-append (λ (c : EntryProgress). c.entry) b.entries.log b.entries.running))) in (
              ends ∷ [],
              noted b ends,
              ((free_turns b.hand.place turns, over), refl),
              record {
                records = ap is_opener aside.role ∙ counts.run.records;
                segment = aside.segment ∙ counts.run.segment;
                first = ap (λ (e : Entries). e.first) open_still.1 ∙ counts.run.first;
                within = (omega arith, omega arith);
                ended = ended_are;
                begun = ended_are ∙ ap (map (λ (c : EntryProgress). c.entry)) (sym (append-nil (b.entries.log ++ b.entries.running)));
                taken = subst (AreDeltasShown old.taken.items) (sym (ap (λ d. d.taken) aside.deltas)) counts.run.taken;
                names = counts.run.names ∙ sym aside.names;
                lawful = counts.run.lawful;
                once = counts.run.once;
                met = met_on a b aside.names aside.chain counts.run.met;
                stands = (
                  turns,
                  record {
                    none = drop_all (length old.entries.items) old.entries.items (omega arith);
                    runs = refl;
                    holds = refl;
                    share = ap (λ (u : Units). u.share) open_still.0 ∙ counts.share;
                    takes = ap (λ d. d.taking) aside.deltas ∙ rests;
                  },
                );
                room = tt;
                draft = tt;
              },
            )

        -- it is refused after its first entries: these have ended, and what they have not spent of its units comes back
        module _ (held : a.units.held ≡ record { name = name; units = cost } ∷ []) (added units : ℕ) (few : added ≤ length entries) (cut : IsCutAt added entries b)
            (left : units ≡ cost - tally_noted (take added entries) name) (new : ActorRun) (ended : ℕ) (ended_is : ended ≡ old.ended + added)
            (new_is : new ≡ record old { entries = new.entries; begun = ended; ended = ended; running = None })
            (items : new.entries.items ≡ take ended old.entries.items) where
          abbrev c : Actor
          c = noted b (refused added)

          -- the first entries
          first_are : map (λ (x : EntryProgress). x.entry) (take added b.entries.running) ≡ take added entries
          first_are = sym (take-map (λ (x : EntryProgress). x.entry) added b.entries.running) ∙ ap (take added) cut.runs

          held_is : b.units.held ≡ record { name = name; units = cost } ∷ []
          held_is = ap (λ (u : Units). u.held) open_still.0 ∙ held

          spent_is : spent_by added b ≡ record { name = name; units = tally_noted (take added entries) name } ∷ []
          spent_is i = map (λ (x : Cost). record x { units = tally_noted (first_are i) x.name }) (held_is i)

          share_is : c.units.share ≡ units
          share_is =
              let none : b.units.share ≡ 0 = ap (λ (u : Units). u.share) open_still.0 ∙ counts.share in
              let whole : b.units.share + (0 + cost - (0 + tally_noted (take added entries) name)) ≡ units = omega (arith, none, left) in
              (λ i. b.units.share + (cost_total (held_is i) - cost_total (spent_is i))) ∙ whole

          -- the entries that are there
          there : length old.entries.items ≡ old.ended + length entries
          there =
              let rest : length old.entries.items - old.ended ≡ length entries =
              sym (length-drop old.ended old.entries.items) ∙ (sym (length-map (pending_by old) entry_of) ∙ ap length counts.pending_are) in
              let within = counts.run.within in omega (arith, rest, within)

          long : length (take ended old.entries.items) ≡ ended
          long = length-take-le ended old.entries.items (let all = there in omega (arith, all, ended_is, few))

          whole_new : take ended new.entries.items ≡ take ended old.entries.items
          whole_new = ap (take ended) items ∙ take_all ended (take ended old.entries.items) (omega (arith, long))

          logged_so : length (map (λ (x : EntryProgress). x.entry) a.entries.log) ≡ old.ended
          logged_so = ap length (sym counts.run.ended) ∙ (length-map (ended_by old) entry_of ∙ length-take-le old.ended old.entries.items (let all = there in omega (arith, all)))

          ended_are : map entry_of (take ended new.entries.items) ≡ map (λ (x : EntryProgress). x.entry) c.entries.log
          ended_are =
              ap (map entry_of) whole_new
              ∙ (sym (take-map entry_of ended old.entries.items)
              ∙ ((λ i. take ((ended_is ∙ ap (λ n. n + added) (sym logged_so)) i) (all_are i))
              ∙ (take-append-add (map (λ (x : EntryProgress). x.entry) a.entries.log) entries added
              ∙ ((λ i. map (λ (x : EntryProgress). x.entry) (sym log_is i) ++ sym first_are i)
              ∙ sym (map-append (λ (x : EntryProgress). x.entry) b.entries.log (take added b.entries.running))))))

          lands_cut : LandsBack shape version units new c
          lands_cut = (
            not_spent b.hand.place (free_turns b.hand.place turns),
            (let share = share_is in omega (arith, share)),
            subst (λ (r : ActorRun). IsActorRunOf shape version r (giver c units)) (sym new_is) (record {
              records = ap is_opener aside.role ∙ counts.run.records;
              segment = aside.segment ∙ counts.run.segment;
              first = ap (λ (e : Entries). e.first) open_still.1 ∙ counts.run.first;
              within = (omega arith, (let here = ap length items in omega (arith, here, long)));
              ended = ended_are;
              begun = ended_are ∙ ap (map (λ (x : EntryProgress). x.entry)) (sym (append-nil c.entries.log));
              taken = subst (AreDeltasShown old.taken.items) (sym (ap (λ d. d.taken) aside.deltas)) counts.run.taken;
              names = counts.run.names ∙ sym aside.names;
              lawful = counts.run.lawful;
              once = counts.run.once;
              met = met_on a b aside.names aside.chain counts.run.met;
              stands = (
                turns,
                record {
                  none = drop_all ended new.entries.items (let here = ap length items in omega (arith, here, long));
                  runs = refl;
                  holds = refl;
                  share = (let share = share_is in omega (arith, share));
                  takes = ap (λ d. d.taking) aside.deltas ∙ rests;
                },
              );
              room = tt;
              draft = tt;
            }),
          )

          -- what its actor has done and seen is unchanged
          pub is_cut : (holds : Actor → Type 0) → holds c → (notes : List Note) × (d : Actor) × Notes b notes d × (LandsBack shape version units new d × holds d)
          is_cut holds its = (refused added ∷ [], c, ((free_turns b.hand.place turns, cut.ended, cut.untouched, cut.unsummed), refl), (lands_cut, its))
