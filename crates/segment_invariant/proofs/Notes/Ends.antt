-- A call that counts may note that it has ended, accepted or refused: what holds is kept.
use Rattle.segment_invariant.proofs.Prelude.Std.{◌≡◌, ◌≢◌, ◌⊎◌, ℕ, ◌+◌, ◌-◌, ◌≤◌, Bool, true, false, cond, List, [], ◌∷◌, ◌++◌, map, length, drop, take, All, Contains, inl, inr, ⊎_elim, refl, sym, ap, ◌∙◌, subst, arith, append-nil, append_assoc, length-append, take-append-drop, set, pos, if◌then◌else◌, ◌==◌, filter, map-append, drop-append-le, All-nil, All-contains, All-append, Contains-append_right, Contains-append_cases, sum_by-append, sum_by-cons, bytes_eq, some, get_elem?, none_at, all_of, contains_map}
use Rattle.segment_invariant.proofs.Prelude.Machine.{Dimensions, Entry, EntryProgress, Spent, Actor, Cost, is_counted, is_summed, has_ended, is_of, tally_units, tally_sum, tally_noted, counted_among, noted_among, log_of, cost_of, cost_total, is_bound, is_opener, is_untouched, noted, State}
use Rattle.segment_invariant.proofs.Prelude.Invariant.{Anatomy, CallsRight, summed_cost, IsQuiet, Invariant, KeptOn, NoteKeeps}
use Rattle.std.proofs.Math.Seq.{take-nil}
use Rattle.std.proofs.lemmas.List.{take-append-le}
use Rattle.segment_invariant.proofs.Frames.Answers.{answered_set}
use Rattle.segment_machine.specs.Entry.{summed_among}
use Rattle.segment_machine.specs.Note.{ends, refused, units_running, spent_by}
use Rattle.segment_invariant.specs.Invariant.{AreInOrder}
use Rattle.segment_invariant.proofs.Frames.OneActor.{summed_most}
use Rattle.list_lemmas.proofs.Maps.{all_left}
use Rattle.segment_invariant.proofs.Lists.Countings.{noted_total, untouched_counts, untouched_sums, untouched_notes, untouched_summed}
use Rattle.segment_invariant.proofs.Notes.Notes.{Noting, noting, noting_of, SameCounts, notes_on}
use Rattle.segment_invariant.proofs.Notes.Actors.{noting_fits, looks_anew, finals_on, calls_by}
use Rattle.segment_invariant.proofs.Notes.Begins.{takes_nothing}
use Rattle.segment_invariant.proofs.Frames.Spending.{by_name, held_covers}

-- ---- its log is longer

log_more : (a : Actor) (ended : List EntryProgress) → a.entries.first ++ map (λ (c : EntryProgress). c.entry) (a.entries.log ++ ended) ≡ log_of a ++ map (λ (c : EntryProgress). c.entry) ended
log_more a ended =
    ap (λ (list : List Entry). a.entries.first ++ list) (map-append (λ (c : EntryProgress). c.entry) a.entries.log ended)
    ∙ sym (append_assoc a.entries.first (map (λ (c : EntryProgress). c.entry) a.entries.log) (map (λ (c : EntryProgress). c.entry) ended))

-- it was quiet if nothing was counted since, neither before nor by the call that ended
quiet_before : (a : Actor) (ended : List EntryProgress) (name : List ℕ) (k : ℕ) → ((c : EntryProgress) → Contains a.entries.running c → Contains ended c ⊎ (is_untouched c ≡ true))
    → k ≤ length (log_of a) → All (λ entry. is_of name entry ≡ false) (drop k (a.entries.first ++ map (λ (c : EntryProgress). c.entry) (a.entries.log ++ ended))) → IsQuiet a name k
quiet_before a ended name k running low quiet =
    let rests : Entry → Type 0 = λ entry. is_of name entry ≡ false in
    let entries = map (λ (c : EntryProgress). c.entry) ended in
    let all : All rests (drop k (log_of a) ++ entries) =
    subst (All rests) (ap (drop k) (log_more a ended) ∙ drop-append-le k (log_of a) entries low) quiet in
    let holds : EntryProgress → Type 0 = λ c. (is_of name c.entry ≡ false) ⊎ (is_untouched c ≡ true) in (
      all_left rests (drop k (log_of a)) entries all,
      all_of holds a.entries.running (λ c has. ⊎_elim
          (λ done. inl (All-contains rests (drop k (log_of a) ++ entries) c.entry all
          (Contains-append_right (drop k (log_of a)) entries c.entry (contains_map (λ (c : EntryProgress). c.entry) ended c done))))
          (λ nothing. inr nothing)
          (running c has)),
    )

-- nothing runs any more
none_ordered : AreInOrder []
none_ordered = record {
  one_by_one = λ i j x y below first. absurd (none_at i x first);
  counted_first = All-nil (λ (c : EntryProgress). c.summed ≡ true → is_counted c ≡ true);
  summed_next = All-nil (λ (c : EntryProgress). c.noted ≡ true → is_summed c ≡ true);
  amounted = All-nil (λ (c : EntryProgress). c.summed ≡ true → c.entry.amount ≢ pos 0);
}

unbound_lives : (a : Actor) → is_bound a.hand.place ≡ false → a.hand.place ≢ Spent
unbound_lives a unbound spent = cc (unbound, ap is_bound spent)

-- A call whose entries `ended` have ended, and that has spent `spent`, is gone: what holds is kept.
module _ (a : Actor) (share : ℕ) (spent : List Cost) (ended : List EntryProgress) where
  abbrev gone : Noting
  gone = record (noting_of a) {
    since_singles = length a.seen.singles;
    since_counts = length a.seen.counts;
    share = share;
    log = a.entries.log ++ ended;
    running = [];
    costs = a.units.costs ++ spent;
    held = [];
  }

  module _ (counts : SameCounts a (noting a gone)) (done : All (λ c. has_ended c ≡ true) ended)
      (running : (c : EntryProgress) → Contains a.entries.running c → Contains ended c ⊎ (is_untouched c ≡ true)) (idle : a.entries.running ≡ [] → ended ≡ [])
      (pays : (anatomy : Anatomy) → CallsRight anatomy a → (name : List ℕ) → tally_noted (map (λ (c : EntryProgress). c.entry) ended) name ≤ cost_of spent name) where
    ends_with : (shape : Dimensions) (opened : Anatomy) (state : State) (id : ℕ) (kept : Invariant shape opened state) (mine : get_elem? state.actors id ≡ some a)
        → is_opener a.role ≡ false → a.hand.place ≢ Spent → KeptOn shape opened kept (record state { actors = set state.actors id (noting a gone) })
    ends_with shape opened state id kept mine records lived =
        let longer = ap length (log_more a ended) in
        let long = length-append (log_of a) (map (λ (c : EntryProgress). c.entry) ended) in
        notes_on shape opened state kept id a mine records gone lived counts (takes_nothing a gone) (λ name key. refl) (λ known has. has)
        (answered_set kept.anatomy.records state.actors id a (noting a gone) mine refl refl)
        (λ fit. noting_fits shape kept.anatomy state.cursors _ kept.roles.opener id a gone fit fit.names fit.owes
        (calls_by kept.anatomy a gone fit.calls counts none_ordered (λ some_run. absurd (some_run refl)) (omega arith)
        (All-append (λ (c : EntryProgress). has_ended c ≡ true) a.entries.log ended fit.calls.ended done)
        (λ name.
        let logs = ap (λ (entries : List Entry). tally_noted entries name) (map-append (λ (c : EntryProgress). c.entry) a.entries.log ended) in
        let both = noted_total name (map (λ (c : EntryProgress). c.entry) a.entries.log) (map (λ (c : EntryProgress). c.entry) ended) in
        let costs = sum_by-append (λ (cost : Cost). if bytes_eq cost.name name then cost.units else 0) a.units.costs spent in
        let before = fit.calls.spent name in
        let now = pays kept.anatomy fit.calls name in
        omega (arith, logs, both, costs, before, now))
        (λ taking.
        let (runs, (before, last, is, began)) = fit.calls.taking taking in
        let nothing = ap (λ (list : List EntryProgress). length (map (λ (c : EntryProgress). c.entry) list)) (idle runs) in
        (refl, (before, last, is, omega (arith, began, longer, long, nothing)))))
        (looks_anew kept.anatomy _ kept.roles.opener a gone (fit.looks records))
        (finals_on _ kept.roles.opener id a gone (omega (arith, longer, long))
        (λ k within. ap (take k) (log_more a ended) ∙ take-append-le k (log_of a) (map (λ (c : EntryProgress). c.entry) ended) within) (λ of k within quiet. quiet_before a ended of k running within quiet.0) fit.finals)
        fit.snapshots)

-- ---- it is accepted

ends_counts : (a : Actor) → SameCounts a (noted a ends)
ends_counts a = record {
  counted = λ name key. ap (λ list. tally_units (a.entries.first ++ counted_among list) name key) (append-nil (a.entries.log ++ a.entries.running));
  summed = λ name. ap (λ list. tally_sum (a.entries.first ++ summed_among list) name) (append-nil (a.entries.log ++ a.entries.running));
  noted = λ name. ap (λ list. tally_noted (noted_among list) name) (append-nil (a.entries.log ++ a.entries.running));
  costs = λ name.
      let all : cost_of (a.units.costs ++ a.units.held) name ≡ cost_of a.units.costs name + cost_of a.units.held name =
      sum_by-append (λ (cost : Cost). if bytes_eq cost.name name then cost.units else 0) a.units.costs a.units.held in
      let most = summed_most name a in
      omega (arith, all, most);
  units =
      let all = sum_by-append (λ (cost : Cost). cost.units) a.units.costs a.units.held in
      omega (arith, all);
}

pub ends_kept : NoteKeeps ends
ends_kept shape opened state id a kept mine records (unbound, done) =
    ends_with a a.units.share a.units.held a.entries.running (ends_counts a) done (λ c has. inl has) (λ is. is) (λ anatomy calls. held_covers anatomy a calls) shape opened state id kept mine records (unbound_lives a unbound)

-- ---- it is refused

module _ (a : Actor) (added : ℕ) where
  abbrev done : List EntryProgress
  done = take added a.entries.running

  abbrev left : List EntryProgress
  left = drop added a.entries.running

  -- all that ran is what has ended, and what nothing has happened of
  ran : (a.entries.log ++ done) ++ left ≡ a.entries.log ++ a.entries.running
  ran = append_assoc a.entries.log done left ∙ ap (λ (list : List EntryProgress). a.entries.log ++ list) (take-append-drop added a.entries.running)

  -- a call of which nothing runs has spent nothing
  none_spent : (held : List Cost) → cost_total (map (λ (cost : Cost). record cost { units = units_running [] cost.name }) held) ≡ 0
  none_spent [] = refl
  none_spent (h ∷ hs) =
      let all = sum_by-cons (λ (cost : Cost). cost.units) (record h { units = units_running [] h.name })
      (map (λ (cost : Cost). record cost { units = units_running [] cost.name }) hs) in
      let rest = none_spent hs in
      omega (arith, all, rest)

  -- it has spent no more than it held
  spends : (anatomy : Anatomy) → CallsRight anatomy a → cost_total (spent_by added a) ≤ cost_total a.units.held
  spends anatomy calls = by_running a.entries.running refl
    where
      by_running : (r : List EntryProgress) → a.entries.running ≡ r → cost_total (spent_by added a) ≤ cost_total a.units.held
      by_running [] runs =
          let nothing : done ≡ [] = ap (take added) runs ∙ take-nil added in
          let same = ap (λ (list : List EntryProgress). cost_total (map (λ (cost : Cost). record cost { units = units_running list cost.name }) a.units.held)) nothing in
          let none = none_spent a.units.held in
          omega (arith, same, none)
      by_running (c ∷ cs) runs =
          let (name, cost, holds, within, known) = calls.within (λ none. cc (sym runs ∙ none)) in
          let held_is : cost_total a.units.held ≡ 0 + cost = ap cost_total holds in
          let spent_is : cost_total (spent_by added a) ≡ 0 + units_running done name =
          ap (λ (held : List Cost). cost_total (map (λ (cost : Cost). record cost { units = units_running done cost.name }) held)) holds in
          let all : units_running a.entries.running name ≡ units_running done name + units_running left name =
          ap (λ (list : List EntryProgress). units_running list name) (sym (take-append-drop added a.entries.running))
          ∙ (ap (λ (list : List Entry). tally_noted list name) (map-append (λ (c : EntryProgress). c.entry) done left)
          ∙ noted_total name (map (λ (c : EntryProgress). c.entry) done) (map (λ (c : EntryProgress). c.entry) left)) in
          let most = within.units in
          omega (arith, held_is, spent_is, all, most)

  -- what it has spent covers what has ended, for each name
  pays : (anatomy : Anatomy) → CallsRight anatomy a → (name : List ℕ) → tally_noted (map (λ (c : EntryProgress). c.entry) done) name ≤ cost_of (spent_by added a) name
  pays anatomy calls name = by_running a.entries.running refl
    where
      by_running : (r : List EntryProgress) → a.entries.running ≡ r → tally_noted (map (λ (c : EntryProgress). c.entry) done) name ≤ cost_of (spent_by added a) name
      by_running [] runs =
          let none = ap (λ (list : List EntryProgress). tally_noted (map (λ (c : EntryProgress). c.entry) list) name) (ap (take added) runs ∙ take-nil added) in
          omega (arith, none)
      by_running (c ∷ cs) runs =
          let (other, cost, holds, within, known) = calls.within (λ none. cc (sym runs ∙ none)) in
          let named : Entry → Type 0 = λ e. e.name ≡ other in
          let entries : List Entry = map (λ (c : EntryProgress). c.entry) done in
          let all : All named entries = all_left named entries (map (λ (c : EntryProgress). c.entry) left)
          (subst (All named) (ap (map (λ (c : EntryProgress). c.entry)) (sym (take-append-drop added a.entries.running)) ∙ map-append (λ (c : EntryProgress). c.entry) done left) within.of_name) in
          subst (λ (held : List Cost). tally_noted entries name ≤ cost_of (map (λ (cost : Cost). record cost { units = units_running done cost.name }) held) name)
          (sym holds) (by_name other name entries (units_running done other) all (omega arith))

  module _ (untouched : All (λ c. is_untouched c ≡ true) left) (unsummed : All (λ c. c.summed ≡ false) done) where
    each_left : (c : EntryProgress) → Contains left c → is_untouched c ≡ true
    each_left c has = All-contains (λ (c : EntryProgress). is_untouched c ≡ true) left c untouched has

    each : (c : EntryProgress) → Contains a.entries.running c → Contains done c ⊎ (is_untouched c ≡ true)
    each c has = ⊎_elim (λ first. inl first) (λ rest. inr (each_left c rest))
        (Contains-append_cases done left c (subst (λ (list : List EntryProgress). Contains list c) (sym (take-append-drop added a.entries.running)) has))

    -- no amount was added
    none_summed : filter (λ (c : EntryProgress). c.summed) a.entries.running ≡ []
    none_summed = filter_none a.entries.running (λ c has. ⊎_elim
        (λ first. All-contains (λ (c : EntryProgress). c.summed ≡ false) done c unsummed first)
        (λ rest. untouched_summed c rest)
        (each c has))
      where
        filter_none : (list : List EntryProgress) → ((c : EntryProgress) → Contains list c → c.summed ≡ false) → filter (λ (c : EntryProgress). c.summed) list ≡ []
        filter_none [] off = refl
        filter_none (c ∷ cs) off =
            ap (λ (b : Bool). cond b (c ∷ filter (λ (c : EntryProgress). c.summed) cs) (filter (λ (c : EntryProgress). c.summed) cs)) (off c (0, omega arith, refl))
            ∙ filter_none cs (λ d has. off d (Contains-append_right (c ∷ []) cs d has))

    refused_counts : cost_total (spent_by added a) ≤ cost_total a.units.held → SameCounts a (noted a (refused added))
    refused_counts spent = record {
      counted = λ name key. sym (untouched_counts a.entries.first (a.entries.log ++ done) left each_left name key)
          ∙ ap (λ list. tally_units (a.entries.first ++ counted_among list) name key) ran;
      summed = λ name. sym (untouched_sums a.entries.first (a.entries.log ++ done) left each_left name)
          ∙ ap (λ list. tally_sum (a.entries.first ++ summed_among list) name) ran;
      noted = λ name. sym (untouched_notes [] (a.entries.log ++ done) left each_left name)
          ∙ ap (λ list. tally_noted (noted_among list) name) ran;
      costs = λ name.
          let all : cost_of (a.units.costs ++ spent_by added a) name ≡ cost_of a.units.costs name + cost_of (spent_by added a) name =
          sum_by-append (λ (cost : Cost). if bytes_eq cost.name name then cost.units else 0) a.units.costs (spent_by added a) in
          let before : summed_cost name a ≡ cost_of a.units.costs name + 0 =
          ap (λ (list : List EntryProgress). cost_of a.units.costs name + (if length list == 0 then 0 else cost_of a.units.held name)) none_summed in
          omega (arith, all, before);
      units =
          let all = sum_by-append (λ (cost : Cost). cost.units) a.units.costs (spent_by added a) in
          omega (arith, all, spent);
    }

pub refused_kept : (added : ℕ) → NoteKeeps (refused added)
refused_kept added shape opened state id a kept mine records (unbound, ended, untouched, unsummed) =
    let lived = unbound_lives a unbound in
    ends_with a (a.units.share + (cost_total a.units.held - cost_total (spent_by added a))) (spent_by added a) (take added a.entries.running)
    (refused_counts a added untouched unsummed (spends a added kept.anatomy (kept.each id a mine lived).calls))
    ended (each a added untouched unsummed) (λ none. ap (take added) none ∙ take-nil added) (pays a added) shape opened state id kept mine records lived
