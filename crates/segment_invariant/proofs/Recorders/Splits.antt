-- A recorder that is made keeps what holds.
use Rattle.segment_invariant.proofs.Prelude.Std.{◌≡◌, ◌≢◌, ◌⊎◌, ℕ, ◌+◌, ◌-◌, ◌<◌, ◌≤◌, Bool, true, ◌&&◌, true≢false, List, [], ◌∷◌, ◌++◌, map, set, length, inl, inr, ⊎_elim, refl, sym, ap, ◌∙◌, subst, subst₂, append-nil, arith, drop, pos, if◌then◌else◌, slice_index, some, get_elem?, flat_map, Contains, All, and_parts, All-nil, All-contains, Contains-append_left, Contains-append_right, Contains-append_cases, sum_by-append, IsPermutation-refl, none_in, none_at, contains_filter, sum_at_least, sum_beside, contains_map, contains_mapped}
use Rattle.segment_invariant.proofs.Prelude.Machine.{Dimensions, IsStop, Entry, EntryProgress, Spent, Actor, Sighting, is_counted, is_summed, is_noted, has_ended, counted_among, log_of, counted_of, all_counted, all_noted, all_published, all_taken, made_of, offered_of, outstanding_of, State}
use Rattle.segment_invariant.proofs.Prelude.Invariant.{IsWithinCounts, Anatomy, order_of, IsRightlyKnown, is_living, HoldsOwn, CallsRight, IsAlone, LooksBack, FinalsAreExact, RolesAreKept, Fits, Invariant, KeptOn}
use Rattle.std.proofs.Math.Bool.{or-false, or_self}
use Rattle.std.proofs.lemmas.List.{drop_all}
use Rattle.segment_invariant.proofs.Frames.Ahead.{ahead_anew, reached_stop}
use Rattle.segment_machine.specs.Actor.{all_given, all_names, all_owed}
use Rattle.segment_machine.specs.Seats.{MaySplit, parent, newcomer}
use Rattle.segment_invariant.specs.Keeps.{SplitsKeep}
use Rattle.segment_invariant.proofs.Frames.OneActor.{lives_on}
use Rattle.list_lemmas.proofs.Maps.{each_of_more, one_at}
use Rattle.segment_invariant.proofs.Frames.Deeds.{Deeds, deeds_more, sums_of}
use Rattle.segment_invariant.proofs.Frames.Together.{IsLater, fits}
use Rattle.segment_invariant.proofs.Frames.Books.{books_of, books_by, kept_by}
use Rattle.segment_invariant.proofs.Frames.Roles.{no_recorder, opens_nothing, opens_first}
use Rattle.segment_invariant.proofs.Frames.Rises.{rises_itself}
use Rattle.segment_invariant.proofs.Frames.SumsRise.{sums_rest}
use Rattle.segment_invariant.proofs.Recorders.Shares.{opener_fits}
use Rattle.segment_invariant.proofs.Recorders.Newcomers.{Comes, comes}

-- ---- what both did together

split_deeds : (a : Actor) → offered_of a.role ≤ a.units.share → Deeds (a ∷ []) (parent a ∷ newcomer a ∷ [])
split_deeds a enough = record {
  counted = IsPermutation-refl (all_counted (a ∷ []));
  summed = λ name. refl;
  noted = IsPermutation-refl (all_noted (a ∷ []));
  claimed = IsPermutation-refl (flat_map (λ (c : Actor). c.done.claimed) (a ∷ []));
  published = IsPermutation-refl (all_published (a ∷ []));
  names = IsPermutation-refl (all_names (a ∷ []));
  owed = IsPermutation-refl (all_owed (a ∷ []));
  given = λ k. IsPermutation-refl (all_given (a ∷ []) k);
  taken = IsPermutation-refl (all_taken (a ∷ []));
  taken_sums = λ name. refl;
  moving = λ name key. omega arith;
  costs = λ name. omega arith;
  units = omega (arith, enough);
  spoiled = or-false a.done.spoiled;
  filled = or-false a.done.filled;
  noticed = or_self a.seen.corrupt;
}

-- ---- the newcomer

-- what is in an opener's log has been counted
pub logged_counted : (a : Actor) (entry : Entry) → All (λ c. has_ended c ≡ true) a.entries.log → Contains (log_of a) entry
    → Contains (a.entries.inherited ++ counted_of a) entry
logged_counted a entry ended there = Contains-append_right a.entries.inherited (counted_of a) entry (⊎_elim
    (λ first. Contains-append_left a.entries.first _ entry first)
    (λ later. Contains-append_right a.entries.first _ entry (counted later))
    (Contains-append_cases a.entries.first (map (λ (c : EntryProgress). c.entry) a.entries.log) entry there))
  where
    counted : Contains (map (λ (c : EntryProgress). c.entry) a.entries.log) entry → Contains (counted_among (a.entries.log ++ a.entries.running)) entry
    counted there =
        let c = contains_mapped (λ (c : EntryProgress). c.entry) a.entries.log entry there in
        let done = All-contains (λ (c : EntryProgress). has_ended c ≡ true) a.entries.log c.0 ended c.1 in
        let passes = (and_parts (is_counted c.0) (is_summed c.0) (and_parts (is_counted c.0 && is_summed c.0) (is_noted c.0) done).0).0 in
        subst (Contains (counted_among (a.entries.log ++ a.entries.running))) c.2
        (contains_map (λ (c : EntryProgress). c.entry) _ c.0
        (contains_filter is_counted (a.entries.log ++ a.entries.running) c.0 (Contains-append_left a.entries.log a.entries.running c.0 c.1) passes))

module _ (anatomy : Anatomy) (cursors : List ℕ) (actors : List Actor) (later a : Actor) where
  abbrev fresh : Actor
  fresh = newcomer a

  fresh_calls : CallsRight anatomy a → CallsRight anatomy fresh
  fresh_calls calls = record {
    ordered = record {
      one_by_one = λ i j x y below first. absurd (none_at i x first);
      counted_first = All-nil (λ (c : EntryProgress). c.summed ≡ true → is_counted c ≡ true);
      summed_next = All-nil (λ (c : EntryProgress). c.noted ≡ true → is_summed c ≡ true);
      amounted = All-nil (λ (c : EntryProgress). c.summed ≡ true → c.entry.amount ≢ pos 0);
    };
    within = λ some_run. absurd (some_run refl);
    held = omega arith;
    ended = All-nil (λ (c : EntryProgress). has_ended c ≡ true);
    spent = λ name. omega arith;
    met = λ entry of there. calls.met entry of
        (logged_counted a entry calls.ended (subst (λ (list : List Entry). Contains list entry) (append-nil (log_of a)) there));
    taking = λ e. absurd (true≢false (sym e));
  }

  no_single : (s : Sighting) → Contains (drop (length a.seen.singles) a.seen.singles) s → ⊥
  no_single s since = none_in s (subst (λ (list : List Sighting). Contains list s) (drop_all (length a.seen.singles) a.seen.singles (omega arith)) since)

  fresh_looks : LooksBack anatomy actors later fresh
  fresh_looks = record {
    most = λ known bucket total has. absurd (none_in known has);
    packed = λ known bucket word has. absurd (none_in known has);
    counted = λ known bucket count r has. absurd (none_in known has);
    samples = λ known value at count has. absurd (none_in known has);
    rising = λ s t before since. absurd (none_in t (subst (λ (list : List Sighting). Contains list t) (drop_all (length a.seen.counts) a.seen.counts (omega arith)) since));
    leading = λ s t r at before since. absurd (no_single t since);
    closed = λ s t r c at i before since. absurd (no_single t since);
    begun = (omega arith, omega arith);
    noted = λ known count has. absurd (none_in known has);
    sum = λ reference sum r stands. absurd (cc stands);
  }

  fresh_finals : (id : ℕ) → FinalsAreExact actors later id fresh
  fresh_finals id = record {
    deltas = λ t there. absurd (none_in t there);
    snapshots = λ s there. absurd (none_in s there);
    each = λ n t there. absurd (none_at n t there);
    moments = λ m of. absurd (⊎_elim (λ t. none_in t.0 t.1) (λ s. none_in s.0 s.1) of);
    swapped = λ before last taking. absurd (true≢false (sym taking));
  }

  fresh_fits : (shape : Dimensions) (old : List Actor) (opener : Actor) (id k : ℕ) → IsStop (order_of anatomy) anatomy.tail → Fits shape anatomy cursors old opener k a
      → Fits shape anatomy cursors actors later id fresh
  fresh_fits shape old opener id k stop fit = record {
    shaped = fit.shaped;
    versioned = fit.versioned;
    numbered = fit.numbered;
    sees = fit.sees;
    ahead = ahead_anew (order_of anatomy) anatomy.tail cursors a.segment.cursors stop fit.numbered
        (λ k below. reached_stop (order_of anatomy) (slice_index a.done.lost k) (slice_index cursors k) (fit.ahead.exchanges k below));
    names = All-nil (IsRightlyKnown anatomy);
    own = All-nil (HoldsOwn shape anatomy.pieces id);
    apart = λ i j x y first. absurd (none_at i x first);
    owes = All-nil _;
    calls = fresh_calls fit.calls;
    looks = λ records. fresh_looks;
    finals = fresh_finals id;
    snapshots = All-nil (IsWithinCounts actors);
  }

-- ---- the state after it

module _ (shape : Dimensions) (opened : Anatomy) (old : State) (kept : Invariant shape opened old) (may : MaySplit kept.roles.opener) where
  abbrev opener : Actor
  opener = kept.roles.opener

  abbrev later : Actor
  later = parent opener

  abbrev made : Actor
  made = newcomer opener

  abbrev split : List Actor
  split = set old.actors 0 later ++ made ∷ []

  deeds : Deeds old.actors split
  deeds = deeds_more old.actors opener later made kept.roles.stands (split_deeds opener may.2)

  came : Comes shape kept.anatomy old later made
  came = comes shape opened old kept (opener.units.share - offered_of opener.role) (made_of opener.role + 1) (outstanding_of opener.role + 1) made (refl, refl, refl, refl, refl) refl tt (λ at sum is. cc is)

  -- an actor that was there before was made earlier
  earlier : (k : ℕ) (c : Actor) → get_elem? old.actors k ≡ some c → is_living c ≡ true → made_of c.role < made_of made.role
  earlier k c at lives = kept.roles.younger k c at lives

  apart : (i : ℕ) (a : Actor) → get_elem? split i ≡ some a → (j : ℕ) (b : Actor) → get_elem? split j ≡ some b
      → is_living a ≡ true → is_living b ≡ true → i ≢ j → made_of a.role ≢ made_of b.role
  apart = each_of_more
      (λ i a. (j : ℕ) (b : Actor) → get_elem? split j ≡ some b → is_living a ≡ true → is_living b ≡ true → i ≢ j → made_of a.role ≢ made_of b.role)
      old.actors 0 later made
      (λ j b at lives. absurd (opens_nothing later refl lives))
      (each_of_more (λ j b. is_living made ≡ true → is_living b ≡ true → length old.actors ≢ j → made_of made.role ≢ made_of b.role) old.actors 0 later made
      (λ lives alive. absurd (opens_nothing later refl alive))
      (λ lives alive ne. absurd (ne refl))
      (λ j b within front at lives alive ne same. let below = earlier j b at alive in omega (arith, below, same)))
      (λ i a within front here. each_of_more (λ j b. is_living a ≡ true → is_living b ≡ true → i ≢ j → made_of a.role ≢ made_of b.role) old.actors 0 later made
      (λ lives alive. absurd (opens_nothing later refl alive))
      (λ lives alive ne same. let below = earlier i a here lives in omega (arith, below, same))
      (λ j b inside away at. kept.roles.apart i j a b here at))

  -- none lives if none is outstanding
  nobody : outstanding_of opener.role ≡ 0 → (k : ℕ) (c : Actor) → get_elem? old.actors k ≡ some c → is_living c ≡ true → ⊥
  nobody none k c at lives =
      let one : Actor → ℕ = λ c. if is_living c then 1 else 0 in
      let all = kept.roles.living in
      let least = sum_at_least one old.actors k c at in
      let this : one c ≡ 1 = ap (λ (b : Bool). if b then 1 else 0) lives in
      omega (arith, all, least, this, none)

  eldest : (i : ℕ) (a : Actor) → get_elem? split i ≡ some a → (j : ℕ) (b : Actor) → get_elem? split j ≡ some b
      → is_living a ≡ true → is_living b ≡ true → i ≢ j → outstanding_of a.role ≡ 0 → made_of a.role < made_of b.role
  eldest = each_of_more
      (λ i a. (j : ℕ) (b : Actor) → get_elem? split j ≡ some b → is_living a ≡ true → is_living b ≡ true → i ≢ j → outstanding_of a.role ≡ 0 → made_of a.role < made_of b.role)
      old.actors 0 later made
      (λ j b at lives. absurd (opens_nothing later refl lives))
      (each_of_more (λ j b. is_living made ≡ true → is_living b ≡ true → length old.actors ≢ j → outstanding_of made.role ≡ 0 → made_of made.role < made_of b.role) old.actors 0 later made
      (λ lives alive. absurd (opens_nothing later refl alive))
      (λ lives alive ne. absurd (ne refl))
      (λ j b within front at lives alive ne none. absurd (nobody none j b at alive)))
      (λ i a within front here. each_of_more (λ j b. is_living a ≡ true → is_living b ≡ true → i ≢ j → outstanding_of a.role ≡ 0 → made_of a.role < made_of b.role) old.actors 0 later made
      (λ lives alive. absurd (opens_nothing later refl alive))
      (λ lives alive ne none. earlier i a here lives)
      (λ j b inside away at. kept.roles.eldest i j a b here at))

  roles : RolesAreKept split
  roles = record {
    opener = later;
    stands = came.first;
    opens = refl;
    idle = kept.roles.idle;
    rests = kept.roles.rests;
    only = came.only;
    offers = omega arith;
    living = (
        let one : Actor → ℕ = λ c. if is_living c then 1 else 0 in
        let all = sum_by-append one (set old.actors 0 later) (made ∷ []) in
        let now = sum_beside one old.actors 0 opener later kept.roles.stands in
        let was = kept.roles.living in
        let opens : one opener ≡ 0 = ap (λ (lives : Bool). if lives then 1 else 0) (no_recorder opener kept.roles.opens) in
        omega (arith, all, now, was, opens));
    few = (let below = may.3 in omega (arith, below));
    younger = each_of_more (λ k c. is_living c ≡ true → made_of c.role < made_of later.role) old.actors 0 later made
        (λ lives. absurd (opens_nothing later refl lives))
        (λ lives. omega arith)
        (λ k c within front at lives. let below = earlier k c at lives in omega (arith, below));
    apart = λ i j a b here at. apart i a here j b at;
    eldest = λ i j a b here at. eldest i a here j b at;
    heirs = each_of_more
        (λ k c. is_living c ≡ true
        → (more : List Entry) × (log_of later ≡ c.entries.inherited ++ more) × (outstanding_of c.role ≡ 0 → made_of c.role + 1 ≡ made_of later.role → more ≡ []))
        old.actors 0 later made
        (λ lives. absurd (opens_nothing later refl lives))
        (λ lives. ([], sym (append-nil (log_of opener)), λ none last. refl))
        (λ k c within front at lives.
        let was = kept.roles.heirs k c at lives in
        (was.0, was.1, λ none last. let below = earlier k c at lives in absurd (omega (arith, below, last))));
  }

  since : IsLater old.actors split opener later
  since = record {
    first = (refl, refl);
    more = omega arith;
    last = λ n below e. absurd (omega (arith, below, e));
    lives = each_of_more
        (λ k c. is_living c ≡ true
        → ((b : Actor) × (get_elem? old.actors k ≡ some b) × (is_living b ≡ true) × (made_of b.role ≡ made_of c.role)) ⊎ (made_of opener.role ≤ made_of c.role))
        old.actors 0 later made
        (λ lives. absurd (opens_nothing later refl lives))
        (λ lives. inr (omega arith))
        (λ k c within front at lives. inl (c, at, lives, refl));
  }

  -- no recorder that lived is the last any more
  not_alone : (k : ℕ) (c : Actor) → get_elem? old.actors k ≡ some c → is_living c ≡ true → IsAlone split c → ⊥
  not_alone k c at lives alone =
      let same = ap (λ (x : Actor). made_of x.role) (one_at split 0 alone.0 later alone.1 came.first) in
      let below = earlier k c at lives in
      let last = alone.3 in
      omega (arith, same, below, last)

  each : (k : ℕ) (c : Actor) → get_elem? split k ≡ some c → c.hand.place ≢ Spent → Fits shape kept.anatomy old.cursors split later k c
  each = each_of_more (λ k c. c.hand.place ≢ Spent → Fits shape kept.anatomy old.cursors split later k c) old.actors 0 later made
      (λ live. opener_fits shape kept.anatomy old.cursors split later 0 opener (opener.units.share - offered_of opener.role) 0 (made_of opener.role + 1) (outstanding_of opener.role + 1)
      kept.roles.rests.2
      (fits shape kept.anatomy old.cursors old.actors split opener later 0 opener (sums_of old.actors split deeds) since
      (λ either. absurd (⊎_elim
      (λ records. true≢false (sym kept.roles.opens ∙ records))
      (λ taking. true≢false (sym taking ∙ kept.roles.rests.2))
      either))
      (kept.each 0 opener kept.roles.stands live)))
      (λ live. fresh_fits kept.anatomy old.cursors split later opener shape old.actors opener (length old.actors) 0 kept.list.tail
      (kept.each 0 opener kept.roles.stands opener_lives))
      (λ k c within front at live. fits shape kept.anatomy old.cursors old.actors split opener later k c (sums_of old.actors split deeds) since
      (λ either alone. absurd (not_alone k c at (lives_on c (kept.roles.only k c at front).0 live) alone))
      (kept.each k c at live))
    where
      opener_lives : opener.hand.place ≢ Spent
      opener_lives e = cc (sym kept.roles.idle ∙ e)

  pub split_kept : KeptOn shape opened kept (record old { actors = split })
  unfolding roles
  split_kept = kept_by shape opened kept.anatomy old.words old.cursors split
      (books_by shape opened kept.anatomy old.words old.cursors old.actors split deeds came.loaded (books_of shape opened old kept))
      roles kept.first_noted came.ordered came.given came.standing each kept (rises_itself kept.anatomy)
      (sums_rest shape old.words kept.anatomy kept.shown old.actors split (sums_of old.actors split deeds).costs)

pub splits_keep : SplitsKeep
splits_keep shape opened old new id kept splitting =
    let a = splitting.0 in
    let may = splitting.2 in
    let opener = opens_first old.actors kept.roles id a splitting.1 may.1 in
    subst (KeptOn shape opened kept) (sym splitting.3)
    (subst₂
    (λ (k : ℕ) (c : Actor). KeptOn shape opened kept (record old { actors = set old.actors k (parent c) ++ newcomer c ∷ [] }))
    (sym opener.0) opener.1
    (split_kept shape opened old kept (subst MaySplit (sym opener.1) may)))
