-- A state is kept when an actor notes something in its own record, and the words stay.
use Rattle.segment_invariant.proofs.Prelude.Std.{◌≡◌, ◌≢◌, ◌⊎◌, ℕ, ◌+◌, ◌<◌, ◌≤◌, ℤ, Bool, false, ◌||◌, fold, List, [], ◌++◌, set, Contains, inl, inr, refl, sym, ap, ◌∙◌, subst, subst₂, arith, IsPermutation, some, get_elem?, at_set, set_else, ◌+ℤ◌, none_in, rows, row_in, column, sum_same, sum_beside}
use Rattle.segment_invariant.proofs.Prelude.Machine.{Dimensions, Entry, EntryProgress, Spent, Actor, Portion, Answered, Claim, Cost, Known, Taken, tally_units, tally_sum, tally_noted, counted_of, summed_of, noted_of, units_of, taken_units, taken_sum, all_counted, all_taken, taken_of, is_opener, State}
use Rattle.segment_invariant.proofs.Prelude.Invariant.{Anatomy, order_of, claims_of, moving_at, summed_cost, StandsRight, Fits, HasKey, Invariant, KeptOn}
use Rattle.segment_invariant.specs.Invariant.{AreAnswered}
use Rattle.list_lemmas.proofs.Elements.{rows_total, row_from}
use Rattle.segment_invariant.proofs.Lists.Countings.{units_total, sum_total, noted_total}
use Rattle.segment_invariant.proofs.Lists.Tallies.{HasUnits, tally_from, tally_at}
use Rattle.segment_invariant.proofs.Frames.GoesOn.{not_opener}
use Rattle.segment_invariant.proofs.Frames.Books.{cursors_set, listed_set, noticed_there, noticed_set}
use Rattle.segment_invariant.proofs.Frames.Deeds.{SameSums}
use Rattle.segment_invariant.proofs.Frames.Standing.{grounds_itself, stands_on}
use Rattle.segment_invariant.proofs.Frames.Together.{loaded_set, balanced, sums_near}
use Rattle.segment_invariant.proofs.Frames.Roles.{SameRole, stood_set, roles_set, fits_beside}
use Rattle.segment_invariant.proofs.Frames.Rises.{rises_itself}
use Rattle.segment_invariant.proofs.Frames.SumsRise.{sums_rest}
use Rattle.segment_invariant.proofs.Lists.Portions.{taken_total, taken_sum_total}

-- ---- what changes of an actor that notes something

pub record Noting : Type 0 where
  pub share : ℕ
  pub costs : List Cost
  pub held : List Cost
  pub log : List EntryProgress
  pub running : List EntryProgress
  pub names : List Known
  pub owed : List Known
  pub taken : List Taken
  pub taking : Bool
  pub since_singles : ℕ
  pub since_counts : ℕ
  pub snapshots : List Answered

-- the actor with that
abbrev pub noting : Actor → Noting → Actor
noting a n = record a {
  units = record { share = n.share; costs = n.costs; held = n.held };
  entries = record a.entries { log = n.log; running = n.running };
  answers = record { names = n.names; owed = n.owed };
  deltas = record a.deltas { taken = n.taken; taking = n.taking; snapshots = n.snapshots };
  since = record { singles = n.since_singles; counts = n.since_counts };
}

-- what it has of that
abbrev pub noting_of : Actor → Noting
noting_of a = record {
  share = a.units.share;
  costs = a.units.costs;
  held = a.units.held;
  log = a.entries.log;
  running = a.entries.running;
  names = a.answers.names;
  owed = a.answers.owed;
  taken = a.deltas.taken;
  taking = a.deltas.taking;
  since_singles = a.since.singles;
  since_counts = a.since.counts;
  snapshots = a.deltas.snapshots;
}

-- What it counted, added, noted and took comes to what it was; its units are as many, and what it spent did not come back.
pub record SameCounts (a b : Actor) : Type 0 where
  pub counted : (name : List ℕ) (key : ℤ) → tally_units (counted_of b) name key ≡ tally_units (counted_of a) name key
  pub summed : (name : List ℕ) → tally_sum (summed_of b) name ≡ tally_sum (summed_of a) name
  pub noted : (name : List ℕ) → tally_noted (noted_of b) name ≡ tally_noted (noted_of a) name
  pub costs : (name : List ℕ) → summed_cost name a ≤ summed_cost name b
  pub units : units_of b ≡ units_of a

pub record SameTakes (a b : Actor) : Type 0 where
  pub taken : (name : List ℕ) (key : ℤ) → taken_units (taken_of b) name key ≡ taken_units (taken_of a) name key
  pub taken_sums : (name : List ℕ) → taken_sum (taken_of b) name ≡ taken_sum (taken_of a) name
  pub from : (t : Portion) → Contains (taken_of b) t → Contains (taken_of a) t ⊎ (t.counts ≡ [])

-- an entry of it that has units had them before
pub counted_before : (a b : Actor) → SameCounts a b → (e : Entry) → Contains (counted_of b) e → 0 < e.units → HasUnits (counted_of a) e.name e.key
counted_before a b same e there some_units =
    let now = tally_from (counted_of b) e there some_units in
    let counted = same.counted e.name e.key in
    tally_at (counted_of a) e.name e.key (omega (arith, now, counted))

-- ---- all actors

module _ (shape : Dimensions) (opened : Anatomy) (state : State) (kept : Invariant shape opened state) (id : ℕ) (a : Actor)
    (mine : get_elem? state.actors id ≡ some a) (records : is_opener a.role ≡ false) where
  module _ (n : Noting) (lived : a.hand.place ≢ Spent) where
    abbrev pub later : Actor
    later = noting a n

    abbrev pub noters : List Actor
    noters = set state.actors id later

    module _ (counts : SameCounts a later) (takes : SameTakes a later)
        (moves : (name : List ℕ) (key : ℤ) → moving_at later name key a.hand.place ≡ moving_at a name key a.hand.place) where
      pub sums : SameSums state.actors noters
      sums = record {
        counted = λ name key. rows_total ◌+◌ (λ entries. tally_units entries name key)
            (units_total name key) counted_of state.actors id a later mine (counts.counted name key);
        summed = λ name. rows_total ◌+ℤ◌ (λ entries. tally_sum entries name)
            (sum_total name) summed_of state.actors id a later mine (counts.summed name);
        noted = λ name. rows_total ◌+◌ (λ entries. tally_noted entries name)
            (noted_total name) noted_of state.actors id a later mine (counts.noted name);
        taken = λ name key. rows_total ◌+◌ (λ taken. taken_units taken name key)
            (taken_total name key)
            taken_of state.actors id a later mine (takes.taken name key);
        taken_sums = λ name. rows_total ◌+ℤ◌ (λ taken. taken_sum taken name)
            (taken_sum_total name)
            taken_of state.actors id a later mine (takes.taken_sums name);
        moving = λ name key. sum_same (λ a. moving_at a name key a.hand.place) state.actors id a later mine (moves name key);
        costs = λ name.
            let all = sum_beside (summed_cost name) state.actors id a later mine in
            let more = counts.costs name in
            omega (arith, all, more);
      }

      -- it has the role that it had
      role : SameRole later a
      role = record { living = refl; opener = refl; first = refl; first_noted = refl; first_taken = refl; made = refl; outstanding = refl; inherited = refl; offered = refl }

      not_first : id ≢ 0
      not_first = not_opener shape opened state kept id a mine records

      -- an actor that fitted among the others still fits
      pub beside : (k : ℕ) (c : Actor) → Fits shape kept.anatomy state.cursors state.actors kept.roles.opener k c
          → Fits shape kept.anatomy state.cursors noters kept.roles.opener k c
      beside k c = fits_beside shape kept.anatomy state.cursors state.actors noters kept.roles.opener kept.roles.opener k c kept.roles.stands
          (set_else state.actors id 0 later (λ same. not_first (sym same)) ∙ kept.roles.stands) refl (refl, refl) sums (stood_set state.actors id a later mine role)

      module _ (knows : (known : Known) → Contains a.answers.names known → Contains n.names known)
          (answers : AreAnswered kept.anatomy.records state.actors → AreAnswered kept.anatomy.records noters)
          (refits : Fits shape kept.anatomy state.cursors noters kept.roles.opener id a → Fits shape kept.anatomy state.cursors noters kept.roles.opener id later) where
        each : (k : ℕ) (c : Actor) → get_elem? noters k ≡ some c → c.hand.place ≢ Spent → Fits shape kept.anatomy state.cursors noters kept.roles.opener k c
        each k c at live = elim (at_set state.actors id k later c at) [
          | inl t ↦ subst₂ (λ k c. Fits shape kept.anatomy state.cursors noters kept.roles.opener k c) (sym t.0) t.1
              (refits (beside id a (kept.each id a mine lived)))
          | inr t ↦ beside k c (kept.each k c t.1 live)
        ]

        standing : (k : ℕ) (c : Actor) → get_elem? noters k ≡ some c → StandsRight shape kept.anatomy k c c.hand.place
        standing k c at = elim (at_set state.actors id k later c at) [
          | inl t ↦ subst₂ (λ k (c : Actor). StandsRight shape kept.anatomy k c c.hand.place) (sym t.0) t.1
              (stands_on shape kept.anatomy kept.anatomy id a later (grounds_itself kept.anatomy id)
              (record {
                saw = (refl, refl, refl, refl, refl);
                late = (refl, refl);
                names = knows;
                words = λ s has. has;
                seen = λ at word has. has;
                chain = λ at has. has;
                own = λ block has. (block, has, refl, refl);
                spent = λ is. absurd (lived (ap (λ (b : Actor). b.hand.place) is));
              })
              a.hand.place (kept.standing id a mine))
          | inr t ↦ kept.standing k c t.1
        ]

        keys : (entry : Entry) → Contains (all_counted noters) entry → 0 < entry.units → HasKey kept.anatomy.records entry.name entry.key
        keys entry there some_units = elim (row_from counted_of state.actors id later entry there) [
          | inl old ↦ kept.keys entry old some_units
          | inr new ↦
              let (e, was, named, keyed, units) = counted_before a later counts entry new some_units in
              subst₂ (HasKey kept.anatomy.records) named keyed (kept.keys e (row_in counted_of state.actors id a e mine was) units)
        ]

        taken_keys : (t : Portion) (count : ℤ × ℕ) → Contains (all_taken noters) t → Contains t.counts count → HasKey kept.anatomy.records t.name count.0
        taken_keys t count there has = elim (row_from taken_of state.actors id later t there) [
          | inl old ↦ kept.taken_keys t count old has
          | inr new ↦ elim (takes.from t new) [
            | inl was ↦ kept.taken_keys t count (row_in taken_of state.actors id a t mine was) has
            | inr nothing ↦ absurd (none_in count (subst (λ (list : List (ℤ × ℕ)). Contains list count) nothing has))
          ]
        ]

        -- the state with that note is kept
        pub notes_on : KeptOn shape opened kept (record state { actors = noters })
        notes_on = (
          record {
            anatomy = kept.anatomy;
            shown = kept.shown;
            same = kept.same;
            versions = kept.versions;
            still = kept.still;
            blocks = kept.blocks;
            list = listed_set state.words opened kept.anatomy state.actors id a later mine refl kept.list;
            claims = subst (λ (claimed : List Claim). IsPermutation (claims_of kept.anatomy.pieces) (claims_of opened.pieces ++ claimed))
                (sym (rows (λ (a : Actor). a.done.claimed) state.actors id a later mine refl)) kept.claims;
            records = kept.records;
            passed_over = kept.passed_over;
            balanced = balanced kept.anatomy.version opened.pieces kept.anatomy.pieces state.actors noters sums kept.balanced;
            keys = keys;
            taken_keys = taken_keys;
            sums = sums_near kept.anatomy.pieces state.actors noters sums (loaded_set state.actors id a later mine (λ at sum is. is)) kept.sums;
            pool = sum_same units_of state.actors id a later mine counts.units ∙ kept.pool;
            corrupt = kept.corrupt ∙ ap (λ set. opened.corrupt || fold ◌||◌ false set) (sym (column (λ (a : Actor). a.done.spoiled) state.actors id a later mine refl));
            full = kept.full ∙ ap (λ set. opened.full || fold ◌||◌ false set) (sym (column (λ (a : Actor). a.done.filled) state.actors id a later mine refl));
            noticed = noticed_set kept.anatomy.corrupt state.actors id later (noticed_there kept.anatomy.corrupt state.actors id a mine kept.noticed) kept.noticed;
            roles = roles_set state.actors id a later mine role not_first kept.roles;
            first_noted = kept.first_noted;
            answered = answers kept.answered;
            cursors = cursors_set (order_of kept.anatomy) state.cursors state.actors id a later mine records refl kept.cursors;
            standing = standing;
            each = each;
          },
          rises_itself kept.anatomy,
          sums_rest shape state.words kept.anatomy kept.shown state.actors noters sums.costs,
        )
