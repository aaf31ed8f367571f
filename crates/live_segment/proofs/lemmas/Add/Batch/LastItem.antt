-- The last item of a batch without a sum is counted, and the batch ends.
use Rattle.std.proofs.Common.{◌≡◌, ℕ, ◌+◌, ◌-◌, ◌≤◌, true, false, if◌then◌else◌, ℤ, pos, List, [], ◌∷◌, ◌++◌, length, map, refl, sym, ap, ◌∙◌, subst, arith}
use Rattle.std.specs.Str.{bytes_eq}
use Rattle.std.proofs.lemmas.List.{append_assoc, append-nil, length_push, map-append}
use Rattle.std.proofs.lemmas.List.Sums.{sum_by-append}
use Rattle.bucket_ranges.specs.Ranges.{boundaries_of}
use Rattle.bucket_ranges.specs.Tally.{units_of}
use Rattle.segment_machine.specs.declared.actor.Actor.{Actor}
use Rattle.segment_machine.specs.declared.actor.Cost.{Cost}
use Rattle.segment_machine.specs.declared.actor.Entries.{Entries}
use Rattle.segment_machine.specs.declared.actor.Known.{Known}
use Rattle.segment_machine.specs.declared.actor.Units.{Units}
use Rattle.segment_machine.specs.declared.entry.EntryProgress.{EntryProgress}
use Rattle.segment_machine.specs.declared.entry.Entry.{Entry}
use Rattle.segment_machine.specs.Actor.{cost_of, is_bound, is_opener, known_at}
use Rattle.segment_machine.specs.Counting.{add_redundant}
use Rattle.segment_machine.specs.Entry.{batch_cost, fresh, item_entry}
use Rattle.segment_machine.specs.Event.{counting_event}
use Rattle.segment_machine.specs.Note.{ends}
use Rattle.live_segment.specs.Add.Batch.{HasItems, IsBatched, ended_item}
use Rattle.live_segment.specs.Add.Finish.{HasEnded, IsSummed, counted_entry, item_of}
use Rattle.segment_promises.specs.Onward.{DoesOn, GoesOn, SeesOn, is_holding}
use Rattle.live_segment.specs.Steps.{IsAtRest, IsSame, Pass}
use Rattle.live_segment.specs.Steps.GhostNotes.{KnowsAlone, MayDo, Noted}
use Rattle.live_segment.specs.Add.Progress.{HasCounted, FrameOfCall, counted_next}
use Rattle.live_segment.proofs.lemmas.Add.Ended.{changed_behind, still_open}
use Rattle.live_segment.proofs.lemmas.Add.Finished.{ends_so, may_last}
use Rattle.live_segment.proofs.lemmas.Add.Batch.Items.{entries, one_more}
use Rattle.live_segment.proofs.lemmas.Add.Batch.ItemsCounted.{ended_items, entries_begun, entries_ended, units_begun}
use Rattle.live_segment.proofs.lemmas.Add.Batch.ItemsRefused.{holds_more}
use Rattle.segment_promises.proofs.Growing.{grows_on}
use Rattle.live_segment.proofs.lemmas.Steps.Proceeding.{proceeds_on}

-- a batch without a sum costs the units of its items
pub cost_of_items : (items : List (ℤ × ℕ)) → batch_cost items (pos 0) ≡ units_of items
cost_of_items items = omega arith

module _ (known : Known) (front : List (ℤ × ℕ)) (item : ℤ × ℕ) (old a : Actor) (seat : Pass) (rest : IsAtRest old) (alone : KnowsAlone old known)
    (has : HasItems known front old a) (one : 1 ≤ item.1) (enough : units_of front + item.1 ≤ old.units.share)
    (counted : HasCounted (item_of known item.0 item.1) a seat.me.0) where
  abbrev mid : Actor
  mid = seat.me.0

  abbrev entry : Entry
  entry = item_of known item.0 item.1

  abbrev over : List EntryProgress
  over = map (ended_item known) front

  abbrev last : EntryProgress
  last = counted_entry entry false

  abbrev all : List (ℤ × ℕ)
  all = front ++ item ∷ []

  on : FrameOfCall old mid
  on = proceeds_on old a mid has.proceeds counted.proceeds

  entries_mid : mid.entries ≡ record old.entries { running = over ++ last ∷ [] }
  entries_mid =
      counted.entries_are
      ∙ (ap counted_next (entries_begun known item old a rest front has enough)
      ∙ ap (λ (l : List EntryProgress). record old.entries { running = l })
      (changed_behind (fresh entry) (still_open (fresh entry) refl one) (λ c. record c { counted = true }) over (ended_items known front).ended))

  units_mid : mid.units ≡ record old.units { share = old.units.share - units_of all; held = record { name = known.name; units = units_of all } ∷ [] }
  units_mid = counted.units_are ∙ (units_begun known item old a rest front has enough ∙ holds_more known.name front item old.units)

  -- its amount of 0 is left out
  summed : IsSummed entry over mid mid
  summed = record {
    summed = false;
    left_out = refl;
    view = ap (λ (e : Entries). record mid { entries = record mid.entries { running = e.running } }) entries_mid;
    free = on.free;
  }

  recorder : is_opener mid.role ≡ false
  recorder = ap (λ (x : Actor). is_opener x.role) on.same ∙ rest.recorder

  alone_mid : KnowsAlone mid known
  alone_mid = ap (λ (x : Actor). known_at x.answers.names known.reference) on.same ∙ alone

  pub may_end_batch : MayDo seat [] (counting_event (add_redundant known.reference item.1)) (ends ∷ [])
  may_end_batch = may_last entry over known mid seat summed recorder alone_mid refl one (ended_items known front).ended known.reference item.1 refl refl

  module _ (found : ℕ) (after : Pass) (noted : Noted seat [] (counting_event (add_redundant known.reference item.1)) (ends ∷ []) found after) where
    abbrev new : Actor
    new = after.me.0

    ended : HasEnded (map (λ (c : EntryProgress). c.entry) over ++ entry ∷ []) mid new
    ended = ends_so entry over known mid seat summed recorder alone_mid refl one (ended_items known front).ended known.reference item.1 found after noted

    pub same_ended : (first : Pass) → IsSame first seat → IsSame first after
    same_ended first same = (noted.same.0 ∙ same.0, noted.same.1 ∙ same.1, noted.same.2 ∙ same.2)

    units_new : new.units ≡ record old.units { share = old.units.share - units_of all; costs = old.units.costs ++ record { name = known.name; units = units_of all } ∷ []; held = [] }
    units_new = ap (λ (x : Actor). x.units) ended.same ∙ ap (λ (u : Units). record u { costs = u.costs ++ u.held; held = [] }) units_mid

    entries_new : new.entries ≡ record old.entries { log = new.entries.log; running = [] }
    entries_new = ap (λ (x : Actor). x.entries) ended.same ∙ ap (λ (e : Entries). record e { log = new.entries.log; running = [] }) entries_mid

    log_new : map (λ (c : EntryProgress). c.entry) new.entries.log ≡ map (λ (c : EntryProgress). c.entry) old.entries.log ++ entries known.name (boundaries_of known.spec) all
    log_new = ended.logged
        ∙ ((λ i. map (λ (c : EntryProgress). c.entry) (entries_mid i).log ++ (entries_ended known front i ++ entry ∷ []))
        ∙ ap (λ (l : List Entry). map (λ (c : EntryProgress). c.entry) old.entries.log ++ l) (sym (map-append (item_entry known.name (boundaries_of known.spec)) front (item ∷ []))))

    onward_last : GoesOn old new
    onward_last =
        let done : new.done ≡ mid.done = ap (λ (x : Actor). x.done) ended.same in
        let seen : new.seen ≡ record mid.seen { counts = new.seen.counts } = ap (λ (x : Actor). x.seen) ended.same in
        let entries_are : new.entries ≡ record old.entries { log = new.entries.log } =
        entries_new ∙ ap (λ (l : List EntryProgress). record old.entries { log = new.entries.log; running = l }) (sym rest.runs) in
        let as_mid : new ≡ record mid { units = new.units; entries = new.entries; hand = new.hand; done = new.done; seen = new.seen; since = new.since } =
        subst (λ (x : Actor). x ≡ record mid { units = x.units; entries = x.entries; hand = x.hand; done = x.done; seen = x.seen; since = x.since }) (sym ended.same) refl in record {
          same = as_mid ∙ (λ i. record (on.same i) { units = new.units; entries = entries_are i; hand = new.hand; done = new.done; seen = new.seen; since = new.since });
          done = subst (DoesOn old.done) (sym done) on.done;
          seen = subst (SeesOn old.seen) (sym seen) (record {
            free = on.seen.free;
            corrupt = on.seen.corrupt;
            warned = on.seen.warned;
            chain = on.seen.chain;
            ends = on.seen.ends;
            tails = on.seen.tails;
            singles = on.seen.singles;
            counts = grows_on old.seen.counts mid.seen.counts new.seen.counts on.seen.counts ended.counts;
            words = on.seen.words;
            cursors = on.seen.cursors;
          });
        }

    pub last_rests : IsAtRest new
    last_rests = let kept = onward_last.same in record {
      recorder = ap (λ (x : Actor). is_opener x.role) kept ∙ rest.recorder;
      free = ap is_bound ended.idle;
      apart = ap is_holding ended.idle;
      holds = ap (λ (u : Units). u.held) units_new;
      runs = ap (λ (e : Entries). e.running) entries_new;
      takes = ap (λ (x : Actor). x.deltas.taking) kept ∙ rest.takes;
      owes = ap (λ (x : Actor). x.answers.owed) kept ∙ rest.owes;
    }

    pub last_batched : IsBatched known all (pos 0) old new
    last_batched =
        let cost = cost_of_items all in
        let more = one_more known.name (boundaries_of known.spec) front item in record {
          logged = (λ i. (entries_new i).first ++ log_new i)
              ∙ (sym (append_assoc old.entries.first (map (λ (c : EntryProgress). c.entry) old.entries.log) (entries known.name (boundaries_of known.spec) all))
              ∙ ap (λ (l : List Entry). (old.entries.first ++ map (λ (c : EntryProgress). c.entry) old.entries.log) ++ l) (sym (append-nil (entries known.name (boundaries_of known.spec) all))));
          pays = record {
            share = let share : new.units.share ≡ old.units.share - units_of all = ap (λ (u : Units). u.share) units_new in omega (arith, share, enough, more, cost);
            spent = λ other.
                let costs : cost_of new.units.costs other ≡ cost_of (old.units.costs ++ record { name = known.name; units = units_of all } ∷ []) other =
                ap (λ (u : Units). cost_of u.costs other) units_new in
                let both = sum_by-append (λ (c : Cost). if bytes_eq c.name other then c.units else 0) old.units.costs (record { name = known.name; units = units_of all } ∷ []) in
                let same = ap (λ (n : ℕ). if bytes_eq known.name other then n else 0) cost in omega (arith, costs, both, same);
          };
          filled = ap (λ (x : Actor). x.done.filled) ended.same ∙ (counted.filled ∙ has.filled);
          onward = onward_last;
          nothing = λ none zero. let long = ap length none in let one = length_push front item in absurd (omega (arith, long, one));
        }
