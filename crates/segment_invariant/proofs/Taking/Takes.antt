-- A mark rises, and the delta of its recorder takes the units between: what was taken of a key, and the state that is left.
use Rattle.segment_invariant.proofs.Prelude.Std.{◌≡◌, ◌≢◌, ◌⊎◌, ℕ, ◌+◌, ◌-◌, max, ◌≤◌, ℤ, pos, ◌+ℤ◌, Bool, true, false, nat_lt, if◌then◌else◌, List, [], ◌∷◌, ◌++◌, set, Contains, inl, inr, ⊎_elim, refl, sym, ap, ◌∙◌, subst, arith, bytes_eq, int_eq, +ℤ_idr, ltb-false, Decides-int_eq, Contains-append_cases, sum_by-append, sum_by-cons, bytes_eq-Decides, some, none, get_elem?, rows, row_in, one_in, none_in}
use Rattle.segment_invariant.proofs.Prelude.Machine.{Dimensions, Actor, Portion, Known, Taken, Look, Place, Spent, SumLoaded, Moving, tally_units, counted_of, summed_of, noted_of, units_listed, taken_units, taken_sum, all_counted, all_summed, all_noted, all_taken, taken_of, portion_of, is_opener, State}
use Rattle.segment_invariant.proofs.Prelude.Invariant.{Body, Anatomy, of_name, units_held, marks_held, noted_held, Stands, RecordsAreKept, StandsRight, HasKey, Invariant, KeptOn}
use Rattle.segment_machine.specs.Taking.{take_units}
use Rattle.segment_invariant.specs.Ledger.{amount_of_name, sum_held, sum_mark_held}
use Rattle.segment_invariant.proofs.Frames.Ahead.{KeepsUp}
use Rattle.segment_invariant.proofs.Frames.OneActor.{rests_at}
use Rattle.segment_invariant.proofs.Frames.Roles.{SameRoles}
use Rattle.segment_invariant.proofs.Changes.Ledgers.{rows_beside, deeds_of}
use Rattle.segment_invariant.proofs.Changes.Others.{Deed, changed, changed_roles}
use Rattle.segment_invariant.proofs.Changes.Sums.{SameSum}
use Rattle.segment_invariant.proofs.Changes.Words.{Turns, behind, sees_turned, turned_on, looks_turned, sums_turned}
use Rattle.segment_invariant.proofs.Taking.Lasts.{further_from, last_in, units_further, sum_further, takes_on, calls_taken, finals_taken}
use Rattle.segment_invariant.proofs.Lists.Portions.{taken_total, taken_sum_total, portion_in, portion_from, portion_first}

-- a mark to which the units that are missing are added is the greater of it and what was seen
pub raised_is : (mark least : ℕ) → mark + (least - mark) ≡ max mark least
raised_is mark least = omega arith

-- what is listed of a key
listed_more : (key other : ℤ) (least found : ℕ) (t : Taken)
    → units_listed (take_units key least found t).counts other ≡ units_listed t.counts other + (if int_eq key other then least - found else 0)
listed_more key other least found t = by_test (nat_lt found least) (ltb-false found least)
  where
    of_key : ℤ × ℕ → ℕ
    of_key count = if int_eq count.0 other then count.1 else 0

    nothing : (b : Bool) (n : ℕ) → n ≡ 0 → (if b then n else 0) ≡ 0
    nothing true n is = is
    nothing false n is = refl

    by_test : (b : Bool) → (b ≡ false → least ≤ found)
        → units_listed (t.counts ++ (if b then (key, least - found) ∷ [] else [])) other ≡ units_listed t.counts other + (if int_eq key other then least - found else 0)
    by_test true low =
        let all = sum_by-append of_key t.counts ((key, least - found) ∷ []) in
        let one = sum_by-cons of_key (key, least - found) [] in
        omega (arith, all, one)
    by_test false low =
        let all = sum_by-append of_key t.counts [] in
        let none = nothing (int_eq key other) (least - found) (let le = low refl in omega (arith, le)) in
        omega (arith, all, none)

-- what it has listed was, or is of the key
listed_from : (key : ℤ) (least found : ℕ) (t : Taken) (count : ℤ × ℕ) → Contains (take_units key least found t).counts count
    → Contains t.counts count ⊎ (key ≡ count.0)
listed_from key least found t count has = by_test (nat_lt found least) has
  where
    by_test : (b : Bool) → Contains (t.counts ++ (if b then (key, least - found) ∷ [] else [])) count → Contains t.counts count ⊎ (key ≡ count.0)
    by_test true has = ⊎_elim (λ old. inl old) (λ new. inr (ap (λ (c : ℤ × ℕ). c.0) (one_in (key, least - found) count new)))
        (Contains-append_cases t.counts ((key, least - found) ∷ []) count has)
    by_test false has = ⊎_elim (λ old. inl old) (λ new. absurd (none_in count new)) (Contains-append_cases t.counts [] count has)

of_name_more : (mine name : List ℕ) (x y z : ℕ) → z ≡ x + y → of_name mine name z ≡ of_name mine name x + of_name mine name y
of_name_more mine name x y z is = by_test (bytes_eq mine name)
  where
    by_test : (b : Bool) → (if b then z else 0) ≡ (if b then x else 0) + (if b then y else 0)
    by_test true = is
    by_test false = refl

no_more_amount : (mine name : List ℕ) → amount_of_name mine name (pos 0) ≡ pos 0
no_more_amount mine name = by_test (bytes_eq mine name)
  where
    by_test : (b : Bool) → (if b then pos 0 else pos 0) ≡ pos 0
    by_test true = refl
    by_test false = refl

module _ (shape : Dimensions) (opened : Anatomy) (state : State) (kept : Invariant shape opened state) (at : ℕ) (body then_is : Body) (j v : ℕ)
    (stands : Stands kept.anatomy.pieces at none body) (turns : Turns kept.anatomy.version body then_is j v) (id : ℕ) (a : Actor)
    (mine : get_elem? state.actors id ≡ some a) (recorder : is_opener a.role ≡ false) (lived : a.hand.place ≢ Spent) (known : Known) (taking : a.deltas.taking ≡ true)
    (front : List Taken) (last : Taken) (taken_is : a.deltas.taken ≡ front ++ last ∷ []) (named : last.name ≡ known.name) (key : ℤ) (least found : ℕ) (place : Place) where
  abbrev f : Taken → Taken
  f = take_units key least found

  abbrev pub deed : Deed
  deed = takes_on a front last taken_is f refl refl taking place a.seen.counts

  abbrev pub b : Actor
  b = changed a deed

  abbrev actors : List Actor
  actors = set state.actors id b

  abbrev new : Anatomy
  new = behind shape opened state kept at body then_is j v stands turns

  -- the units that it takes of a name and a key
  abbrev pub more_of : List ℕ → ℤ → ℕ
  more_of name other = of_name known.name name (if int_eq key other then least - found else 0)

  -- What has to be shown: of the records, the ledger, the sums, the key, and the place.
  pub record Takes : Type 0 where
    pub records : RecordsAreKept shape.page new
    pub units : (name : List ℕ) (other : ℤ) → units_held kept.anatomy.version name other then_is ≡ units_held kept.anatomy.version name other body
    pub marks : (name : List ℕ) (other : ℤ)
        → marks_held kept.anatomy.version name other then_is ≡ marks_held kept.anatomy.version name other body + more_of name other
    pub amounts : (name : List ℕ) → (sum_held name then_is ≡ sum_held name body) × (sum_mark_held name then_is ≡ sum_mark_held name body)
        × (noted_held name then_is ≡ noted_held name body)
    pub sums : SameSum kept.anatomy.pieces new.pieces
    pub few : taken_units (all_taken state.actors) known.name key + (least - found) ≤ tally_units (all_counted state.actors) known.name key
    pub keyed : HasKey kept.anatomy.records known.name key
    pub lives : place ≢ Spent
    pub no_sum : (reference : ℕ) (sum : ℤ) → place ≢ SumLoaded reference sum
    pub still : ((look : Look) (bucket units : ℕ) → a.hand.place ≢ Moving look bucket units) × ((look : Look) (bucket units : ℕ) → place ≢ Moving look bucket units)
    pub stood : StandsRight shape new id b place
    pub up : KeepsUp a.hand.place place

  module _ (shows : Takes) where
    beside : SameRoles state.actors actors
    beside = changed_roles shape opened state kept id a mine recorder lived deed shows.lives

    counted : all_counted actors ≡ all_counted state.actors
    counted = rows counted_of state.actors id a b mine refl

    summed : all_summed actors ≡ all_summed state.actors
    summed = rows summed_of state.actors id a b mine refl

    noted : all_noted actors ≡ all_noted state.actors
    noted = rows noted_of state.actors id a b mine refl

    -- ---- what was taken

    took : (name : List ℕ) (other : ℤ) → taken_units (taken_of b) name other ≡ taken_units (taken_of a) name other + more_of name other
    took name other =
        let all = units_further a.deltas.taken front last taken_is f refl refl a.deltas.first_taken name other in
        let one = of_name_more last.name name (units_listed last.counts other) (if int_eq key other then least - found else 0) (units_listed (f last).counts other)
        (listed_more key other least found last) in
        let mine_is = ap (λ (n : List ℕ). of_name n name (if int_eq key other then least - found else 0)) named in
        omega (arith, all, one, mine_is)

    took_all : (name : List ℕ) (other : ℤ) → taken_units (all_taken actors) name other ≡ taken_units (all_taken state.actors) name other + more_of name other
    took_all name other =
        let all = rows_beside (λ list. taken_units list name other)
        (taken_total name other) taken_of state.actors id a b mine in
        let its = took name other in
        omega (arith, all, its)

    most : (name : List ℕ) (other : ℤ) → taken_units (all_taken actors) name other ≤ tally_units (all_counted actors) name other
    most name other =
        let tally = ap (λ entries. tally_units entries name other) counted in
        let all = took_all name other in
        let bound = by_tests (bytes_eq known.name name) (int_eq key other) (bytes_eq-Decides known.name name).0 (Decides-int_eq key other).0 in
        omega (arith, tally, all, bound)
      where
        by_tests : (x y : Bool) → (x ≡ true → known.name ≡ name) → (y ≡ true → key ≡ other)
            → taken_units (all_taken state.actors) name other + (if x then (if y then least - found else 0) else 0) ≤ tally_units (all_counted state.actors) name other
        by_tests true true is same = subst (λ (p : List ℕ × ℤ).
            taken_units (all_taken state.actors) p.0 p.1 + (least - found) ≤ tally_units (all_counted state.actors) p.0 p.1) (λ i. (is refl i, same refl i)) shows.few
        by_tests true false is same = let was = kept.balanced.taken name other in omega (arith, was)
        by_tests false y is same = let was = kept.balanced.taken name other in omega (arith, was)

    took_sum : (name : List ℕ) → taken_sum (taken_of b) name ≡ taken_sum (taken_of a) name +ℤ pos 0
    took_sum name = sum_further a.deltas.taken front last taken_is f refl refl a.deltas.first_taken (pos 0) (sym (+ℤ_idr last.sum)) name
        ∙ ap (λ z. taken_sum (taken_of a) name +ℤ z) (no_more_amount last.name name)

    sum_same_all : (name : List ℕ) → taken_sum (all_taken actors) name ≡ taken_sum (all_taken state.actors) name
    sum_same_all name = deeds_of kept.anatomy.pieces stands.0 _ (record { at = at; owner = none; body = then_is }) stands.1 state.actors id a b mine
        (λ list. taken_sum list name) (taken_sum_total name) taken_of (pos 0) (took_sum name)
        ∙ +ℤ_idr (taken_sum (all_taken state.actors) name)

    has_keys : (t : Portion) (count : ℤ × ℕ) → Contains (taken_of b) t → Contains t.counts count → HasKey kept.anatomy.records t.name count.0
    has_keys p count has among = ⊎_elim
        (λ old. was_taken p (portion_first a.deltas.first_taken a.deltas.taken p old) among)
        (λ (t, there, is). subst (λ (p : Portion). Contains p.counts count → HasKey kept.anatomy.records p.name count.0) is (delta_keys t there) among)
        (portion_from a.deltas.first_taken deed.taken p has)
      where
        was_taken : (p : Portion) → Contains (taken_of a) p → Contains p.counts count → HasKey kept.anatomy.records p.name count.0
        was_taken p old = kept.taken_keys p count (row_in taken_of state.actors id a p mine old)

        delta_keys : (t : Taken) → Contains deed.taken t → Contains t.counts count → HasKey kept.anatomy.records t.name count.0
        delta_keys t there among = ⊎_elim
            (λ old. was_taken (portion_of t) (portion_in a t old) among)
            (λ one. subst (λ (n : List ℕ). HasKey kept.anatomy.records n count.0) (sym (ap (λ (t : Taken). t.name) one)) (⊎_elim
            (λ was. was_taken (portion_of last) (portion_in a last (last_in a.deltas.taken front last taken_is f refl refl)) was)
            (λ same. subst (λ (p : List ℕ × ℤ). HasKey kept.anatomy.records p.0 p.1) (λ i. (sym named i, same i)) shows.keyed)
            (listed_from key least found last count (subst (λ (list : List (ℤ × ℕ)). Contains list count) (ap (λ (t : Taken). t.counts) one) among))))
            (further_from a.deltas.taken front last taken_is f refl refl t there)

    -- the state that is left is kept
    pub takes_kept : KeptOn shape opened kept (record { words = set state.words (at + j) v; cursors = state.cursors; actors = actors })
    takes_kept =
        let fits = kept.each id a mine lived in
        turned_on shape opened state kept at body then_is j v stands turns id a mine recorder lived deed (record {
          records = shows.records;
          balances = record {
            units = λ name other.
                let same = shows.units name other in
                let was = rests_at a name other a.hand.place shows.still.0 in
                let now = rests_at b name other place shows.still.1 in
                omega (arith, same, was, now);
            marks = λ name other. let its = took name other in let held = shows.marks name other in omega (arith, its, held);
            sums = λ name. (pos 0, (shows.amounts name).0 ∙ sym (+ℤ_idr _), sym (+ℤ_idr _));
            sum_marks = λ name. (pos 0, (shows.amounts name).1 ∙ sym (+ℤ_idr _), took_sum name);
            noted = λ name. let same = (shows.amounts name).2 in omega (arith, same);
          };
          taken = most;
          counted = λ name other. omega arith;
          keys = λ entry has. kept.keys entry (row_in counted_of state.actors id a entry mine has);
          taken_keys = has_keys;
          sums = sums_turned shape opened state kept at body then_is j v stands turns id a mine recorder lived deed shows.lives shows.no_sum shows.sums (λ name. refl);
          lives = shows.lives;
          stood = shows.stood;
          sees = sees_turned shape opened state kept at body then_is j v stands turns a.seen fits.sees;
          noticed = λ saw. saw;
          up = shows.up;
          own = refl;
          calls = calls_taken a front last taken_is f refl refl taking place a.seen.counts kept.anatomy new refl fits.calls;
          looks = looks_turned shape opened state kept at body then_is j v stands turns id a mine recorder lived deed shows.lives shows.no_sum shows.records
              (λ name other. let same = ap (λ entries. tally_units entries name other) counted in omega (arith, same));
          finals = finals_taken a front last taken_is f refl refl taking place a.seen.counts state.actors actors kept.roles beside id recorder counted summed noted
              (λ name other.
              let all = took_all name other in
              let its = took name other in
              let one = units_further a.deltas.taken front last taken_is f refl refl a.deltas.first_taken name other in
              omega (arith, all, its, one))
              (λ name other. let all = took_all name other in omega (arith, all)) most
              sum_same_all refl (λ alone name was. sum_same_all name ∙ was)
              (λ alone swapped. sum_same_all last.name ∙ fits.finals.swapped front last taking taken_is swapped alone) fits.finals;
        })
