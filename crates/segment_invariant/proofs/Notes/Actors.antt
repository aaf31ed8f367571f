-- What holds of an actor among the others still holds when it notes something.
use Rattle.segment_invariant.proofs.Prelude.Std.{◌≡◌, ◌≢◌, ℕ, ◌+◌, ◌≤◌, max, true, List, ◌∷◌, [], ◌++◌, map, length, drop, take, All, Contains, inr, ⊎_elim, refl, sym, ap, subst, arith, Contains-append_left, Contains-append_right, Contains-append_cases, none_in}
use Rattle.segment_invariant.proofs.Prelude.Machine.{Taken, Entry, has_ended, tally_noted, SawSample, Dimensions, Actor, Moment, Sighting, log_of, counted_of, cost_of}
use Rattle.segment_invariant.proofs.Prelude.Invariant.{IsWithinCounts, Anatomy, IsRightlyKnown, IsFirst, IsFirstOf, CallsRight, LooksBack, IsQuiet, FinalsAreExact, Fits}
use Rattle.bucket_ranges.specs.declared.spec.Spec.TheVariants as spec
use Rattle.segment_machine.specs.Entry.{AreWithin}
use Rattle.segment_invariant.specs.Invariant.{AreInOrder, IsMoment, TookAllOf, OwesPublished}
use Rattle.std.proofs.lemmas.List.{drop_all}
use Rattle.segment_invariant.proofs.Frames.Together.{ended_began, each_began}
use Rattle.segment_invariant.proofs.Notes.Notes.{Noting, noting, SameCounts, counted_before}

-- ---- it fits

module _ (shape : Dimensions) (anatomy : Anatomy) (cursors : List ℕ) (actors : List Actor) (opener : Actor) (id : ℕ) (a : Actor) (n : Noting) where
  pub noting_fits : Fits shape anatomy cursors actors opener id a → All (IsRightlyKnown anatomy) n.names → OwesPublished a.done.published n.owed → CallsRight anatomy (noting a n)
      → LooksBack anatomy actors opener (noting a n) → FinalsAreExact actors opener id (noting a n) → All (IsWithinCounts actors) n.snapshots
      → Fits shape anatomy cursors actors opener id (noting a n)
  noting_fits fit names owes calls looks finals snapshots = record {
    shaped = fit.shaped;
    versioned = fit.versioned;
    numbered = fit.numbered;
    sees = fit.sees;
    ahead = fit.ahead;
    names = names;
    own = fit.own;
    apart = fit.apart;
    owes = owes;
    calls = calls;
    looks = λ records. looks;
    finals = finals;
    snapshots = snapshots;
  }

-- ---- what it looks back at

-- it has the log that it had, knows what it knew, and looks at what it looked at
abbrev pub looking_on : Actor → Noting → Noting
looking_on a n = record n { log = a.entries.log; names = a.answers.names; since_singles = a.since.singles; since_counts = a.since.counts }

-- or it begins to look again
abbrev pub looking_anew : Actor → Noting → Noting
looking_anew a n = record n { since_singles = length a.seen.singles; since_counts = length a.seen.counts }

module _ (anatomy : Anatomy) (actors : List Actor) (opener a : Actor) (n : Noting) where
  nothing_single : (s : Sighting) → Contains (drop (length a.seen.singles) a.seen.singles) s → ⊥
  nothing_single s there = none_in s (subst (λ (list : List Sighting). Contains list s) (drop_all (length a.seen.singles) a.seen.singles (omega arith)) there)

  nothing_counted : (s : Sighting) → Contains (drop (length a.seen.counts) a.seen.counts) s → ⊥
  nothing_counted s there = none_in s (subst (λ (list : List Sighting). Contains list s) (drop_all (length a.seen.counts) a.seen.counts (omega arith)) there)

  pub looks_anew : LooksBack anatomy actors opener a → LooksBack anatomy actors opener (noting a (looking_anew a n))
  looks_anew looks = record {
    most = λ known bucket total has below saw. absurd (nothing_single _ saw.1);
    packed = λ known bucket word has below saw. absurd (nothing_single _ saw);
    counted = λ known bucket count r has below there mounts saw. absurd (nothing_counted _ saw);
    samples = λ known value at count has first saw. absurd (nothing_counted _ saw);
    rising = λ s t before behind. absurd (nothing_counted t behind);
    leading = λ s t r at before behind. absurd (nothing_single t behind);
    closed = λ s t r c at i before behind. absurd (nothing_single t behind);
    begun = (omega arith, omega arith);
    noted = λ known count has saw. absurd (nothing_counted _ saw);
    sum = looks.sum;
  }

-- ---- what it took

-- it takes and returns nothing more
abbrev pub taking_on : Actor → Noting → Noting
taking_on a n = record n { taken = a.deltas.taken; taking = a.deltas.taking; snapshots = a.deltas.snapshots }

module _ (actors : List Actor) (opener : Actor) (id : ℕ) (a : Actor) (n : Noting) where
  abbrev later : Actor
  later = noting a (taking_on a n)

  -- if its log is no shorter and begins as it did, and the actor was quiet of a name if it is quiet now
  module _ (longer : length (log_of a) ≤ length (log_of later)) (begins : (k : ℕ) → k ≤ length (log_of a) → take k (log_of later) ≡ take k (log_of a))
      (quiet : (name : List ℕ) (k : ℕ) → k ≤ length (log_of a) → IsQuiet later name k → IsQuiet a name k) where
    moments_on : (m : Moment) → IsMoment actors opener id a m → IsMoment actors opener id later m
    moments_on m is = record {
      logged = (let low = is.logged in omega (arith, low, longer));
      before = is.before;
      mine = is.mine;
      eldest = is.eldest;
    }

    pub finals_on : FinalsAreExact actors opener id a → FinalsAreExact actors opener id later
    finals_on exact = record {
      deltas = λ t there none youngest rests. exact.deltas t there none youngest
          (quiet t.name t.moment.log (exact.moments t.moment (ended_began a t there)).logged rests);
      snapshots = λ s there none youngest rests. exact.snapshots s there none youngest
          (quiet s.name s.moment.log (exact.moments s.moment (inr (s, there, refl))).logged rests);
      each = λ n t there none youngest.
          let same = ap (λ (list : List Entry). a.entries.inherited ++ list) (begins t.moment.log (exact.moments t.moment (each_began a n t there)).logged) in
          subst (λ (list : List Entry). TookAllOf actors list (drop (n + 1) a.deltas.taken) t.name) (sym same) (exact.each n t there none youngest);
      moments = λ m of. moments_on m (exact.moments m of);
      swapped = exact.swapped;
    }

-- ---- its calls

module _ (anatomy : Anatomy) (a : Actor) (n : Noting) where
  pub calls_by : CallsRight anatomy a → SameCounts a (noting a n) → AreInOrder n.running
      → (n.running ≢ [] → (name : List ℕ) × (cost : ℕ)
      × (n.held ≡ record { name = name; units = cost } ∷ []) × AreWithin name cost (map (λ c. c.entry) n.running)
      × Contains (map (λ known. known.name) n.names) name)
      → length n.held ≤ 1 → All (λ c. has_ended c ≡ true) n.log → ((name : List ℕ)
      → max (tally_noted a.entries.first name) (cost_of a.entries.first_noted name) + tally_noted (map (λ c. c.entry) n.log) name ≤ cost_of n.costs name)
      → (n.taking ≡ true → (n.running ≡ []) × ((before : List Taken) × (last : Taken) × (n.taken ≡ before ++ last ∷ [])
      × (last.moment.log ≡ length (log_of (noting a n)))))
      → CallsRight anatomy (noting a n)
  calls_by calls same ordered within held ended spent taking = record {
    ordered = ordered;
    within = within;
    held = held;
    ended = ended;
    spent = spent;
    met = λ entry of there some_units first. ⊎_elim
        (λ before. calls.met entry of (Contains-append_left a.entries.inherited (counted_of a) entry before) some_units first)
        (λ counted.
        let (e, was, named, keyed, units) = counted_before a (noting a n) same entry counted some_units in
        subst (λ key. (at : ℕ) × IsFirstOf anatomy.records of key at × Contains a.seen.chain at × SawSample a.seen of key at) keyed
        (calls.met e of (Contains-append_right a.entries.inherited (counted_of a) e was) units
        (subst (λ name. IsFirst anatomy.records name spec.Sparse of) (sym named) first)))
        (Contains-append_cases a.entries.inherited (counted_of (noting a n)) entry there);
    taking = taking;
  }
