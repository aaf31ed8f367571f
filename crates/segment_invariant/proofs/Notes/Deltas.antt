-- A delta may begin: what holds is kept.
use Rattle.segment_invariant.proofs.Prelude.Std.{◌≡◌, ◌≢◌, ℕ, ◌-◌, ◌<◌, ℤ, pos, Bool, true, false, true≢false, List, [], ◌∷◌, ◌++◌, map, length, take, drop, ◌+◌, ◌≤◌, Contains, inl, inr, ⊎_elim, refl, sym, ap, ◌∙◌, subst, arith, if◌then◌else◌, ◌+ℤ◌, bytes_eq, +ℤ_idr, take-append_seam, length_push, drop-append-le, Contains-append_cases, some, get_elem?, set_else, one_in, below_length}
use Rattle.segment_invariant.proofs.Prelude.Machine.{Actor, Portion, Taken, tally_sum, units_listed, taken_sum, taken_of, portion_of, taken_units, made_of, outstanding_of}
use Rattle.segment_invariant.proofs.Prelude.Invariant.{is_living, FinalsAreExact, NoteKeeps}
use Rattle.std.proofs.lemmas.List.{same_from_push}
use Rattle.std.proofs.lemmas.List.Sums.{sum_by_push}
use Rattle.segment_invariant.proofs.Frames.Answers.{answered_set}
use Rattle.segment_machine.specs.Note.{takes, moment_of, nothing_taken}
use Rattle.segment_invariant.specs.Invariant.{ended_deltas, accepted_at, IsMoment}
use Rattle.segment_invariant.proofs.Lists.FewTerms.{if_nothing}
use Rattle.segment_invariant.proofs.Frames.OneActor.{lives_on}
use Rattle.segment_invariant.proofs.Frames.GoesOn.{not_opener}
use Rattle.segment_invariant.proofs.Notes.Notes.{Noting, noting, noting_of, SameCounts, SameTakes, notes_on}
use Rattle.segment_invariant.proofs.Notes.Actors.{noting_fits, looks_anew, calls_by}
use Rattle.segment_invariant.proofs.Lists.Portions.{taken_sum_total, portions_push}

module _ (a : Actor) (name : List ℕ) where
  abbrev begun : Taken
  begun = nothing_taken a name

  abbrev taker : Noting
  taker = record (noting_of a) {
    since_singles = length a.seen.singles;
    since_counts = length a.seen.counts;
    taking = true;
    taken = a.deltas.taken ++ begun ∷ [];
  }

  takes_counts : SameCounts a (noting a taker)
  takes_counts = record { counted = λ name key. refl; summed = λ name. refl; noted = λ name. refl; costs = λ name. omega arith; units = refl }

  -- a delta that begins adds nothing to what was taken
  nothing_more : (first : List Portion) (taken : List Taken)
      → ((of : List ℕ) (key : ℤ) → taken_units (first ++ map portion_of (taken ++ begun ∷ [])) of key ≡ taken_units (first ++ map portion_of taken) of key)
      × ((of : List ℕ) → taken_sum (first ++ map portion_of (taken ++ begun ∷ [])) of ≡ taken_sum (first ++ map portion_of taken) of)
  nothing_more first taken = (
    λ of key.
        let more = ap (λ list. taken_units list of key) (portions_push first taken begun) in
        let all = sum_by_push (λ (t : Portion). if bytes_eq t.name of then units_listed t.counts key else 0) (first ++ map portion_of taken) (portion_of begun) in
        let none = if_nothing {X = ℕ} (bytes_eq name of) 0 0 refl in
        omega (arith, more, all, none),
    λ of.
        let all = taken_sum (first ++ map portion_of taken) of in
        ap (λ list. taken_sum list of) (portions_push first taken begun)
        ∙ (taken_sum_total of (first ++ map portion_of taken) (portion_of begun ∷ [])
        ∙ (ap (λ (z : ℤ). all +ℤ (pos 0 +ℤ z)) (if_nothing (bytes_eq name of) (pos 0) (pos 0) refl) ∙ +ℤ_idr all)),
  )

  takes_same : SameTakes a (noting a taker)
  takes_same = record {
    taken = (nothing_more a.deltas.first_taken a.deltas.taken).0;
    taken_sums = (nothing_more a.deltas.first_taken a.deltas.taken).1;
    from = λ t has. ⊎_elim (λ old. inl old) (λ new. inr (ap (λ (t : Portion). t.counts) (sym (one_in (portion_of begun) t new))))
        (Contains-append_cases (taken_of a) (portion_of begun ∷ []) t (subst (λ list. Contains list t) (portions_push a.deltas.first_taken a.deltas.taken begun) has));
  }

  ended_all : a.deltas.taking ≡ false → ended_deltas a ≡ a.deltas.taken
  ended_all rests = ap (λ (b : Bool). if b then take (length a.deltas.taken - 1) a.deltas.taken else a.deltas.taken) rests

  -- the deltas that have ended are all that it had
  ended_before : a.deltas.taking ≡ false → ended_deltas (noting a taker) ≡ ended_deltas a
  ended_before rests =
      let long = length_push a.deltas.taken begun in
      let count : length (a.deltas.taken ++ begun ∷ []) - 1 ≡ length a.deltas.taken = omega (arith, long) in
      let same : take (length (a.deltas.taken ++ begun ∷ []) - 1) (a.deltas.taken ++ begun ∷ []) ≡ a.deltas.taken =
      ap (λ (k : ℕ). take k (a.deltas.taken ++ begun ∷ [])) count ∙ take-append_seam a.deltas.taken (begun ∷ []) in
      same ∙ sym (ended_all rests)

  -- of those after one of these, the one that begins has taken nothing
  later_same : (n : ℕ) → n + 1 ≤ length a.deltas.taken
      → ((of : List ℕ) (key : ℤ) → taken_units (map portion_of (drop (n + 1) (a.deltas.taken ++ begun ∷ []))) of key ≡ taken_units (map portion_of (drop (n + 1) a.deltas.taken)) of key)
      × ((of : List ℕ) → taken_sum (map portion_of (drop (n + 1) (a.deltas.taken ++ begun ∷ []))) of ≡ taken_sum (map portion_of (drop (n + 1) a.deltas.taken)) of)
  later_same n low =
      let list = drop-append-le (n + 1) a.deltas.taken (begun ∷ []) low in
      let same = nothing_more [] (drop (n + 1) a.deltas.taken) in (
        λ of key. ap (λ (l : List Taken). taken_units (map portion_of l) of key) list ∙ same.0 of key,
        λ of. ap (λ (l : List Taken). taken_sum (map portion_of l) of) list ∙ same.1 of,
      )

  module _ (actors : List Actor) (opener : Actor) (id : ℕ) (rests : a.deltas.taking ≡ false) (younger : made_of a.role < made_of opener.role)
      (eldest : outstanding_of a.role ≡ 0 → (other : ℕ) (c : Actor) → get_elem? actors other ≡ some c → is_living c ≡ true → other ≢ id → made_of a.role < made_of c.role) where
    begins_now : IsMoment actors opener id (noting a taker) (moment_of a)
    begins_now = record { logged = omega arith; before = younger; mine = λ records. (refl, refl); eldest = eldest }

    takes_finals : FinalsAreExact actors opener id a → FinalsAreExact actors opener id (noting a taker)
    takes_finals exact = record {
      deltas = λ t there. exact.deltas t (subst (λ (list : List Taken). Contains list t) (ended_before rests) there);
      each = λ n t there none youngest.
          let was = subst (λ (list : List Taken). get_elem? list n ≡ some t) (ended_before rests) there in
          let low = below_length a.deltas.taken n t (subst (λ (list : List Taken). get_elem? list n ≡ some t) (ended_all rests) was) in
          let did = exact.each n t was none youngest in
          let later = later_same n (omega (arith, low)) in (
            λ key. let its = did.0 key in let same = later.0 t.name key in omega (arith, its, same),
            did.1 ∙ ap (λ (z : ℤ). tally_sum (accepted_at a t.moment) t.name +ℤ z) (sym (later.1 t.name)),
          );
      snapshots = exact.snapshots;
      moments = λ m of. ⊎_elim
          (λ took. ⊎_elim
          (λ old. exact.moments m (inl (took.0, old, took.2)))
          (λ new. subst (IsMoment actors opener id (noting a taker)) (ap (λ (t : Taken). t.moment) (one_in begun took.0 new) ∙ took.2) begins_now)
          (Contains-append_cases a.deltas.taken (begun ∷ []) took.0 took.1))
          (λ answered. exact.moments m (inr answered))
          of;
      swapped = λ before last goes is swapped alone.
          absurd (true≢false (sym swapped ∙ ap (λ (t : Taken). t.swapped) (sym (same_from_push a.deltas.taken before begun last is).1)));
    }

pub takes_kept : (name : List ℕ) → NoteKeeps (takes name)
takes_kept name shape opened state id a kept mine records (lived, recorder, runs, rests, known) =
    let n : Noting = taker a name in
    let lives = lives_on a records lived in
    let nothing = not_opener shape opened state kept id a mine records in
    notes_on shape opened state kept id a mine records n lived (takes_counts a name) (takes_same a name) (λ name key. refl) (λ known has. has)
    (answered_set kept.anatomy.records state.actors id a (noting a n) mine refl refl)
    (λ fit. noting_fits shape kept.anatomy state.cursors _ kept.roles.opener id a n fit fit.names fit.owes
    (calls_by kept.anatomy a n fit.calls (takes_counts a name) fit.calls.ordered fit.calls.within fit.calls.held fit.calls.ended fit.calls.spent
    (λ taking. (runs, (a.deltas.taken, nothing_taken a name, refl, refl))))
    (looks_anew kept.anatomy _ kept.roles.opener a n (fit.looks records))
    (takes_finals a name _ kept.roles.opener id rests (kept.roles.younger id a mine lives)
    (λ none other c there alive ne. kept.roles.eldest id other a c mine (sym (set_else state.actors id other (noting a n) ne) ∙ there) lives alive (λ same. ne (sym same)) none)
    fit.finals)
    fit.snapshots)
