-- What a refused call that counts has done: its first entries.
use Rattle.segment_invariant.proofs.Prelude.Std.{◌≡◌, ◌≢◌, ℕ, Bool, true, false, ℤ, pos, ◌+ℤ◌, List, [], ◌++◌, map, take, drop, refl, sym, ap, ◌∙◌, append-nil, append_assoc, filter, All, Contains, int_eq, and_parts, Decides-int_eq, map-append, take-append-drop, All-contains, All-append}
use Rattle.segment_invariant.proofs.Prelude.Machine.{Entry, EntryProgress, Place, Spent, Moving, Actor, is_counted, is_summed, is_noted, has_ended, tally_units, tally_sum, tally_noted, counted_among, noted_among, log_of, counted_of, summed_of, noted_of, is_bound, is_untouched}
use Rattle.segment_machine.specs.Entry.{summed_among}
use Rattle.segment_machine.specs.Actor.{transit_at}
use Rattle.segment_invariant.proofs.Lists.Countings.{or_false, beside_same, nothing_among, no_amount, sum_total, untouched_counts, untouched_sums, untouched_notes}
use Rattle.segment_promises.specs.Refusals.{RefusedAddsFew}
use Rattle.segment_promises.proofs.Joined.{all_pass}

-- an actor that may turn elsewhere has nothing in transit
nothing_moves : (place : Place) → is_bound place ≡ false → (histogram bucket : ℕ) → transit_at place histogram bucket ≡ 0
nothing_moves (Moving look bucket units) free histogram i = cc free
nothing_moves place free histogram i = refl

-- and was not joined
lives : (a : Actor) → is_bound a.hand.place ≡ false → a.hand.place ≢ Spent
lives a free is = cc (free, ap is_bound is)

module _ (a : Actor) (added : ℕ) (logged : All (λ c. has_ended c ≡ true) a.entries.log) (ended : All (λ c. has_ended c ≡ true) (take added a.entries.running))
    (untouched : All (λ c. is_untouched c ≡ true) (drop added a.entries.running)) (unsummed : All (λ c. c.summed ≡ false) (take added a.entries.running)) where
  abbrev done : List EntryProgress
  done = take added a.entries.running

  abbrev left : List EntryProgress
  left = drop added a.entries.running

  abbrev entries : List EntryProgress → List Entry
  entries list = map (λ (c : EntryProgress). c.entry) list

  ran : a.entries.log ++ a.entries.running ≡ (a.entries.log ++ done) ++ left
  ran = ap (λ (list : List EntryProgress). a.entries.log ++ list) (sym (take-append-drop added a.entries.running)) ∙ sym (append_assoc a.entries.log done left)

  each_left : (c : EntryProgress) → Contains left c → is_untouched c ≡ true
  each_left c has = All-contains (λ (c : EntryProgress). is_untouched c ≡ true) left c untouched has

  -- of ended entries those that pass are all
  among : (test : EntryProgress → Bool) → ((c : EntryProgress) → has_ended c ≡ true → test c ≡ true) → (list : List EntryProgress) → All (λ c. has_ended c ≡ true) list
      → entries (filter test (list ++ [])) ≡ entries list
  among test passes list all =
      ap (λ (list : List EntryProgress). entries (filter test list)) (append-nil list)
      ∙ ap entries (all_pass test passes list (λ c has. All-contains (λ (c : EntryProgress). has_ended c ≡ true) list c all has))

  both : All (λ c. has_ended c ≡ true) (a.entries.log ++ done)
  both = All-append (λ (c : EntryProgress). has_ended c ≡ true) a.entries.log done logged ended

  counts : (name : List ℕ) (key : ℤ) → tally_units (counted_of a) name key ≡ tally_units (log_of a ++ entries done) name key
  counts name key =
      ap (λ list. tally_units (a.entries.first ++ counted_among list) name key) ran
      ∙ untouched_counts a.entries.first (a.entries.log ++ done) left each_left name key
      ∙ ap (λ list. tally_units list name key)
      (ap (λ list. a.entries.first ++ list) (among is_counted (λ c e. (and_parts (is_counted c) _ (and_parts _ _ e).0).0) (a.entries.log ++ done) both ∙ map-append (λ (c : EntryProgress). c.entry) a.entries.log done)
      ∙ sym (append_assoc a.entries.first (entries a.entries.log) (entries done)))

  notes : (name : List ℕ) → tally_noted (noted_of a) name ≡ tally_noted (entries a.entries.log ++ entries done) name
  notes name =
      ap (λ list. tally_noted (noted_among list) name) ran
      ∙ untouched_notes [] (a.entries.log ++ done) left each_left name
      ∙ ap (λ list. tally_noted list name)
      (among is_noted (λ c e. (and_parts _ (is_noted c) e).1) (a.entries.log ++ done) both ∙ map-append (λ (c : EntryProgress). c.entry) a.entries.log done)

  -- the first entries have no amount
  no_amounts : (name : List ℕ) → tally_sum (summed_among done) name ≡ tally_sum [] name
  no_amounts name = nothing_among ◌+ℤ◌ (λ list. tally_sum list name) (sum_total name) is_summed done
      (λ c has passes. no_amount name c.entry
      ((Decides-int_eq c.entry.amount (pos 0)).0
      (or_false c.summed (int_eq c.entry.amount (pos 0)) (All-contains (λ (c : EntryProgress). c.summed ≡ false) done c unsummed has) passes)))

  sums : (name : List ℕ) → tally_sum (summed_of a) name ≡ tally_sum (log_of a) name
  sums name =
      ap (λ list. tally_sum (a.entries.first ++ summed_among list) name) ran
      ∙ untouched_sums a.entries.first (a.entries.log ++ done) left each_left name
      ∙ ap (λ list. tally_sum (a.entries.first ++ summed_among list) name) (append-nil (a.entries.log ++ done))
      ∙ beside_same ◌+ℤ◌ (λ list. tally_sum list name) (sum_total name) is_summed a.entries.first a.entries.log done [] (no_amounts name)
      ∙ ap (λ list. tally_sum (a.entries.first ++ list) name) (among is_summed (λ c e. (and_parts (is_counted c) _ (and_parts _ _ e).0).1) a.entries.log logged)

not_so : (b : Bool) → (b ≡ true → ⊥) → b ≡ false
not_so true nor = absurd (nor refl)
not_so false nor = refl

pub refused_adds_few : RefusedAddsFew
refused_adds_few shape opened state who a added kept mine runs (unbound, ended, untouched, unsummed) =
    let calls = (kept.each who a mine (lives a unbound)).calls in record {
      counted = counts a added calls.ended ended untouched unsummed;
      noted = notes a added calls.ended ended untouched unsummed;
      summed = sums a added calls.ended ended untouched unsummed;
      moved = nothing_moves a.hand.place unbound;
      took = not_so a.deltas.taking (λ is. runs (calls.taking is).0);
    }
