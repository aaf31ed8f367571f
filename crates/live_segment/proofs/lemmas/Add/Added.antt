-- A sample is added: it is counted, in its bucket or in the sample of its value, and finished.
use Rattle.std.proofs.Common.{◌≡◌, ℕ, ◌+◌, ◌-◌, ◌≤◌, true, false, if◌then◌else◌, ℤ, pos, List, [], ◌∷◌, ◌++◌, map, refl, sym, ap, ◌∙◌, subst, arith, inl}
use Rattle.std.specs.Str.{bytes_eq}
use Rattle.std.proofs.lemmas.List.{append_assoc}
use Rattle.std.proofs.lemmas.List.Elements.{All-nil}
use Rattle.std.proofs.lemmas.List.Sums.{sum_by-append}
use Rattle.segment_machine.specs.declared.entry.EntryProgress.{EntryProgress}
use Rattle.segment_machine.specs.declared.entry.Entry.{Entry}
use Rattle.segment_machine.specs.declared.actor.Actor.{Actor}
use Rattle.segment_machine.specs.declared.actor.Cost.{Cost}
use Rattle.segment_machine.specs.declared.actor.Known.{Known}
use Rattle.segment_machine.specs.declared.actor.Units.{Units}
use Rattle.segment_machine.specs.Actor.{cost_of, has_buckets, is_bound, is_opener, known_at}
use Rattle.segment_machine.specs.Entry.{fresh}
use Rattle.segment_machine.specs.Note.{Note, begins}
use Rattle.segment_promises.specs.Follows.{noted_by}
use Rattle.live_segment.specs.Add.Sample.{IsAdded}
use Rattle.live_segment.specs.Add.Finish.{counted_entry, item_of, sample_of, HasCountedSample, HasEnded}
use Rattle.segment_promises.specs.Onward.{DoesOn, GoesOn, SeesOn, is_holding}
use Rattle.live_segment.specs.Steps.{IsAtRest}
use Rattle.live_segment.specs.Steps.GhostNotes.{bucket_entry, entry_notes, KnowsAlone}
use Rattle.live_segment.specs.Add.Progress.{counted_next, CountsAlone, HasCounted, MayCountInBucket}
use Rattle.live_segment.proofs.lemmas.Add.Beginning.{notes_new}
use Rattle.live_segment.proofs.lemmas.Add.Ended.{still_open, changed_behind}
use Rattle.segment_promises.proofs.Growing.{grows_on}

none_before : (n : ℕ) → 0 + n ≡ n
none_before n = omega arith

-- what a recorder at rest may count
pub counts_alone : (known : Known) (entry : Entry) (a : Actor) → IsAtRest a → KnowsAlone a known → known.name ≡ entry.name → entry.amount ≡ pos 0
    → 1 ≤ entry.units → entry.units ≤ a.units.share → CountsAlone a known entry
counts_alone known entry a rest alone named amount some enough = record {
  recorder = rest.recorder;
  free = rest.free;
  takes = rest.takes;
  begun = inl (rest.runs, rest.holds, enough);
  alone = alone;
  named = named;
  some = some;
  amount = amount;
}

pub may_count : (known : Known) (bucket units : ℕ) (a : Actor) → IsAtRest a → KnowsAlone a known → has_buckets known.spec ≡ true → 1 ≤ units
    → units ≤ a.units.share → MayCountInBucket a known bucket units
may_count known bucket units a rest alone bucketed some enough =
    record { counts = counts_alone known (bucket_entry known bucket units) a rest alone refl refl some enough; bucketed = bucketed }

module _ (known : Known) (value : ℤ) (units : ℕ) (old mid : Actor) (rest : IsAtRest old) (alone : KnowsAlone old known) (some : 1 ≤ units)
    (enough : units ≤ old.units.share) (has : HasCounted (item_of known value units) old mid) where
  abbrev cost : Cost
  cost = record { name = known.name; units = units }

  abbrev last : EntryProgress
  last = counted_entry (item_of known value units) false

  notes : entry_notes old (item_of known value units) ≡ begins known.name units (item_of known value units ∷ []) ∷ []
  notes = notes_new old (item_of known value units) (rest.runs, rest.holds, enough)

  units_mid : mid.units ≡ record old.units { share = old.units.share - units; held = cost ∷ [] }
  units_mid = has.units_are ∙ ap (λ (ns : List Note). (noted_by old ns).units) notes

  entries_mid : mid.entries ≡ record old.entries { running = last ∷ [] }
  entries_mid =
      let begun = fresh (item_of known value units) in
      has.entries_are
      ∙ (ap (λ (ns : List Note). counted_next (noted_by old ns).entries) notes
      ∙ ap (λ (l : List EntryProgress). record old.entries { running = l })
      (changed_behind begun (still_open begun refl some) (λ c. record c { counted = true }) [] (All-nil _)))

  mid_is : mid ≡ record old {
    units = record old.units { share = old.units.share - units; held = cost ∷ [] };
    entries = record old.entries { running = last ∷ [] };
    hand = mid.hand;
    done = mid.done;
    seen = mid.seen;
  }
  mid_is = has.proceeds.same ∙ (λ i. record old { units = units_mid i; entries = entries_mid i; hand = mid.hand; done = mid.done; seen = mid.seen })

  pub has_sample : HasCountedSample known value units mid
  has_sample = record {
    counted = record {
      recorder = ap (λ (x : Actor). is_opener x.role) mid_is ∙ rest.recorder;
      free = has.proceeds.free;
      alone = ap (λ (x : Actor). known_at x.answers.names known.reference) mid_is ∙ alone;
      some = some;
      ended = All-nil _;
      runs = ap (λ (x : Actor). x.entries.running) mid_is;
    };
    holds = ap (λ (x : Actor). x.units.held) mid_is;
  }

  module _ (new : Actor) (ended : HasEnded (sample_of known value units ∷ []) mid new) where
    -- all of the call
    new_is : new ≡ record old {
      units = record { share = old.units.share - units; costs = old.units.costs ++ cost ∷ []; held = [] };
      entries = record old.entries { log = new.entries.log };
      hand = new.hand;
      done = new.done;
      seen = new.seen;
      since = new.since;
    }
    new_is =
        let ending : Actor → Actor = λ (x : Actor). record x {
          units = record x.units { costs = x.units.costs ++ x.units.held; held = [] };
          entries = record x.entries { log = new.entries.log; running = [] };
          hand = new.hand;
          done = new.done;
          seen = new.seen;
          since = new.since;
        } in
        let ends : new ≡ ending mid =
        subst (λ (y : Actor). y ≡ record mid {
          units = record mid.units { costs = mid.units.costs ++ mid.units.held; held = [] };
          entries = record mid.entries { log = y.entries.log; running = [] };
          hand = y.hand;
          done = y.done;
          seen = y.seen;
          since = y.since;
        }) (sym ended.same) refl in
        ends ∙ (ap ending mid_is ∙ ap (λ (list : List EntryProgress). record old {
          units = record { share = old.units.share - units; costs = old.units.costs ++ cost ∷ []; held = [] };
          entries = record old.entries { log = new.entries.log; running = list };
          hand = new.hand;
          done = new.done;
          seen = new.seen;
          since = new.since;
        }) (sym rest.runs))

    pub added_rests : IsAtRest new
    added_rests = record {
      recorder = ap (λ (x : Actor). is_opener x.role) new_is ∙ rest.recorder;
      free = ap is_bound ended.idle;
      apart = ap is_holding ended.idle;
      holds = ap (λ (x : Actor). x.units.held) new_is;
      runs = ap (λ (x : Actor). x.entries.running) new_is ∙ rest.runs;
      takes = ap (λ (x : Actor). x.deltas.taking) new_is ∙ rest.takes;
      owes = ap (λ (x : Actor). x.answers.owed) new_is ∙ rest.owes;
    }

    added_onward : GoesOn old new
    added_onward =
        let done : new.done ≡ mid.done = ap (λ (x : Actor). x.done) ended.same in
        let seen : new.seen ≡ record mid.seen { counts = new.seen.counts } = ap (λ (x : Actor). x.seen) ended.same in
        let was = has.proceeds.seen in record {
          same = new_is ∙ ap (λ (u : Units). record old {
            units = u;
            entries = record old.entries { log = new.entries.log };
            hand = new.hand;
            done = new.done;
            seen = new.seen;
            since = new.since;
          }) (sym (ap (λ (x : Actor). x.units) new_is));
          done = subst (DoesOn old.done) (sym done) has.proceeds.done;
          seen = subst (SeesOn old.seen) (sym seen) (record {
            free = was.free;
            corrupt = was.corrupt;
            warned = was.warned;
            chain = was.chain;
            ends = was.ends;
            tails = was.tails;
            singles = was.singles;
            counts = grows_on old.seen.counts mid.seen.counts new.seen.counts was.counts ended.counts;
            words = was.words;
            cursors = was.cursors;
          });
        }

    pub added : IsAdded known value units old new
    added = record {
      logged = (λ i. (new_is i).entries.first ++ (ended.logged ∙ ap (λ (x : Actor). map (λ c. c.entry) x.entries.log ++ sample_of known value units ∷ []) mid_is) i)
          ∙ sym (append_assoc old.entries.first (map (λ c. c.entry) old.entries.log) (sample_of known value units ∷ []));
      pays = record {
        share = let share : new.units.share ≡ old.units.share - units = ap (λ (x : Actor). x.units.share) new_is in omega (arith, share, enough);
        spent = λ other. ap (λ (x : Actor). cost_of x.units.costs other) new_is
            ∙ (sum_by-append (λ (c : Cost). if bytes_eq c.name other then c.units else 0) old.units.costs (cost ∷ [])
            ∙ ap (λ (n : ℕ). cost_of old.units.costs other + n) (none_before (if bytes_eq known.name other then units else 0)));
      };
      filled = ap (λ (x : Actor). x.done.filled) ended.same ∙ has.filled;
      onward = added_onward;
    }
