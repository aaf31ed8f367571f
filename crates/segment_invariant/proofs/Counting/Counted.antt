-- The units of the entry that is next are added to a count, in a counts block or a sample: the state that is left is kept.
use Rattle.segment_invariant.proofs.Prelude.Std.{◌≡◌, ◌≢◌, ◌⊎◌, ℕ, zero, suc, ◌+◌, ◌≤◌, ℤ, pos, Bool, true, false, not, cond, ◌&&◌, ◌||◌, List, [], ◌∷◌, ◌++◌, map, filter, length, set, Contains, inl, inr, ⊎_elim, refl, sym, ap, ◌∙◌, subst, arith, if◌then◌else◌, ◌==◌, int_eq, +ℤ_idr, length-map, All-contains, Contains-append_left, Contains-append_right, Contains-append_cases, some, none, get_elem?, rows, row_in}
use Rattle.segment_invariant.proofs.Prelude.Machine.{Dimensions, EntryProgress, Entry, Spent, Idle, Actor, is_counted, is_summed, is_noted, is_of, tally_units, tally_sum, tally_noted, is_bound, cost_of, counted_of, summed_of, noted_of, all_counted, taken_of, is_opener, SawSample, State}
use Rattle.segment_invariant.proofs.Prelude.Invariant.{Body, Anatomy, units_held, marks_held, noted_held, Stands, IsFirst, IsFirstOf, RecordsAreKept, HasKey, summed_cost, Invariant, KeptOn}
use Rattle.bucket_ranges.specs.declared.spec.Spec.TheVariants as spec
use Rattle.segment_invariant.specs.Ledger.{sum_held, sum_mark_held}
use Rattle.segment_invariant.proofs.Lists.Countings.{units_total}
use Rattle.segment_invariant.proofs.Frames.Ahead.{unbound_unbeaten}
use Rattle.segment_invariant.proofs.Frames.OneActor.{rests_at}
use Rattle.segment_invariant.proofs.Frames.Roles.{SameRoles}
use Rattle.segment_invariant.proofs.Counting.Running.{Next, passes_same, passes_beside, passes_from}
use Rattle.segment_invariant.proofs.Counting.Entries.{going, calls_next, finals_next}
use Rattle.segment_invariant.proofs.Changes.Ledgers.{rows_beside, taken_on}
use Rattle.segment_invariant.proofs.Changes.Others.{Deed, deed_of, changed, changed_roles}
use Rattle.segment_invariant.proofs.Changes.Sums.{SameSum}
use Rattle.segment_invariant.proofs.Changes.Words.{Turns, behind, sees_turned, turned_on, looks_turned, sums_turned}

-- ---- the entry

-- what it comes to, of a name and a key
abbrev pub its_units : EntryProgress → List ℕ → ℤ → ℕ
its_units c name key = if is_of name c.entry && int_eq c.entry.key key then c.entry.units else 0

-- with its units counted
abbrev pub as_counted : EntryProgress → EntryProgress
as_counted c = record c { counted = true }

-- one that is not counted has units
pub has_units : (c : EntryProgress) → is_counted c ≡ false → 1 ≤ c.entry.units
has_units c uncounted = by_test c.counted c.entry.units uncounted
  where
    by_test : (t : Bool) (n : ℕ) → (t || (n == 0)) ≡ false → 1 ≤ n
    by_test true n is = absurd (cc is)
    by_test false zero is = absurd (cc is)
    by_test false (suc n) is = omega arith

-- ---- the state

module _ (shape : Dimensions) (opened : Anatomy) (state : State) (kept : Invariant shape opened state) (id : ℕ) (a : Actor)
    (mine : get_elem? state.actors id ≡ some a) (recorder : is_opener a.role ≡ false) (unbound : is_bound a.hand.place ≡ false)
    (c : EntryProgress) (next : Next a.entries.running c) (uncounted : is_counted c ≡ false) where
  lived : a.hand.place ≢ Spent
  lived spent = cc (unbound, ap is_bound spent)

  abbrev d : EntryProgress
  d = as_counted c

  abbrev deed : Deed
  deed = going a c d next refl (record (deed_of a) { place = Idle })

  -- it has counted the units, and not seen yet what they came to
  abbrev pub counter : Actor
  counter = changed a deed

  abbrev b : Actor
  b = counter

  abbrev actors : List Actor
  actors = set state.actors id b

  beside : SameRoles state.actors actors
  beside = changed_roles shape opened state kept id a mine recorder lived deed (λ e. cc e)

  -- ---- its entries

  summed_same : summed_of b ≡ summed_of a
  summed_same = passes_same is_summed next.behind c d refl refl a.entries.first a.entries.log next.front
      ∙ ap (λ (l : List EntryProgress). a.entries.first ++ map (λ (c : EntryProgress). c.entry) (filter is_summed (a.entries.log ++ l))) (sym next.is)

  noted_same : noted_of b ≡ noted_of a
  noted_same = passes_same is_noted next.behind c d refl refl [] a.entries.log next.front
      ∙ ap (λ (l : List EntryProgress). map (λ (c : EntryProgress). c.entry) (filter is_noted (a.entries.log ++ l))) (sym next.is)

  counted_more : (name : List ℕ) (key : ℤ) → tally_units (counted_of b) name key ≡ tally_units (counted_of a) name key + its_units c name key
  counted_more name key =
      let beside = passes_beside is_counted a.entries.first a.entries.log next.front next.behind c d (λ entries. tally_units entries name key) (units_total name key) in
      let off : tally_units (map (λ (c : EntryProgress). c.entry) (cond (is_counted c) (c ∷ []) [])) name key ≡ 0 =
      ap (λ (t : Bool). tally_units (map (λ (c : EntryProgress). c.entry) (cond t (c ∷ []) [])) name key) uncounted in
      let on : tally_units (c.entry ∷ []) name key ≡ 0 + its_units c name key = refl in
      let was = ap (λ (l : List EntryProgress). tally_units (a.entries.first ++ map (λ (c : EntryProgress). c.entry) (filter is_counted (a.entries.log ++ l))) name key) next.is in
      omega (arith, beside, off, on, was)

  -- of another name it comes to nothing
  apart : (name : List ℕ) (key : ℤ) → is_of name c.entry ≡ false → its_units c name key ≡ 0
  apart name key other = ap (λ (t : Bool). if t && int_eq c.entry.key key then c.entry.units else 0) other

  -- what is counted was counted before, or is its entry
  counted_from : (entry : Entry) → Contains (counted_of b) entry → Contains (counted_of a) entry ⊎ (c.entry ≡ entry)
  counted_from entry there = ⊎_elim
      (λ was. inl (subst (λ (l : List EntryProgress). Contains (a.entries.first ++ map (λ (c : EntryProgress). c.entry) (filter is_counted (a.entries.log ++ l))) entry) (sym next.is) was))
      inr
      (passes_from is_counted next.behind c d entry a.entries.first a.entries.log next.front there)

  all_more : (name : List ℕ) (key : ℤ) → tally_units (all_counted actors) name key ≡ tally_units (all_counted state.actors) name key + its_units c name key
  all_more name key =
      let all = rows_beside (λ entries. tally_units entries name key) (units_total name key) counted_of state.actors id a b mine in
      let more = counted_more name key in
      omega (arith, all, more)

  cost_same : (name : List ℕ) → summed_cost name b ≡ summed_cost name a
  cost_same name =
      let long : length (filter (λ (c : EntryProgress). c.summed) (next.front ++ d ∷ next.behind)) ≡ length (filter (λ (c : EntryProgress). c.summed) a.entries.running) =
      sym (length-map (filter (λ (c : EntryProgress). c.summed) (next.front ++ d ∷ next.behind)) (λ (c : EntryProgress). c.entry))
      ∙ (ap length (passes_same (λ (c : EntryProgress). c.summed) next.behind c d refl refl [] [] next.front)
      ∙ (length-map (filter (λ (c : EntryProgress). c.summed) (next.front ++ c ∷ next.behind)) (λ (c : EntryProgress). c.entry)
      ∙ ap (λ (l : List EntryProgress). length (filter (λ (c : EntryProgress). c.summed) l)) (sym next.is))) in
      ap (λ (n : ℕ). cost_of a.units.costs name + (if n == 0 then 0 else cost_of a.units.held name)) long

  -- ---- what it is in its call

  next_there : Contains a.entries.running c
  next_there = subst (λ (l : List EntryProgress). Contains l c) (sym next.is) (Contains-append_right next.front (c ∷ next.behind) c (0, omega arith, refl))

  -- ---- the state that is left

  module _ (at : ℕ) (body then_is : Body) (j v : ℕ) (stands : Stands kept.anatomy.pieces at none body) (turns : Turns kept.anatomy.version body then_is j v) where
    abbrev new : Anatomy
    new = behind shape opened state kept at body then_is j v stands turns

    -- What has to be shown: of the records, of what the block holds, and of the entry, whose key is there and whose sample was visited.
    pub record CountedInto : Type 0 where
      pub records : RecordsAreKept shape.page new
      pub units : (name : List ℕ) (key : ℤ) → units_held kept.anatomy.version name key then_is ≡ units_held kept.anatomy.version name key body + its_units c name key
      pub marks : (name : List ℕ) (key : ℤ) → marks_held kept.anatomy.version name key then_is ≡ marks_held kept.anatomy.version name key body
      pub sum : (name : List ℕ) → sum_held name then_is ≡ sum_held name body
      pub sum_mark : (name : List ℕ) → sum_mark_held name then_is ≡ sum_mark_held name body
      pub noted : (name : List ℕ) → noted_held name then_is ≡ noted_held name body
      pub sums : SameSum kept.anatomy.pieces new.pieces
      pub key : HasKey kept.anatomy.records c.entry.name c.entry.key
      pub met : (of : ℕ) → IsFirst kept.anatomy.records c.entry.name spec.Sparse of
          → (sample : ℕ) × IsFirstOf kept.anatomy.records of c.entry.key sample × Contains a.seen.chain sample × SawSample a.seen of c.entry.key sample

    pub units_counted : CountedInto → KeptOn shape opened kept (record { words = set state.words (at + j) v; cursors = state.cursors; actors = actors })
    units_counted shows =
        let fits = kept.each id a mine lived in
        turned_on shape opened state kept at body then_is j v stands turns id a mine recorder lived deed (record {
          records = shows.records;
          balances = record {
            units = λ name key.
                let rests = rests_at a name key a.hand.place (λ look bucket units moving. cc (unbound, ap is_bound moving)) in
                let held = shows.units name key in
                let more = counted_more name key in
                omega (arith, rests, held, more);
            marks = λ name key. let same = shows.marks name key in omega (arith, same);
            sums = λ name. (pos 0, shows.sum name ∙ sym (+ℤ_idr _), ap (λ entries. tally_sum entries name) summed_same ∙ sym (+ℤ_idr _));
            sum_marks = λ name. (pos 0, shows.sum_mark name ∙ sym (+ℤ_idr _), sym (+ℤ_idr _));
            noted = λ name.
                let same = shows.noted name in
                let all = ap (λ entries. tally_noted entries name) noted_same in
                omega (arith, same, all);
          };
          taken = taken_on kept.anatomy.pieces stands.0 _ (record { at = at; owner = none; body = then_is }) stands.1 state.actors id a b mine refl
              (λ name key. let more = counted_more name key in omega (arith, more)) kept.balanced.taken;
          counted = λ name key. let more = counted_more name key in omega (arith, more);
          keys = λ entry there units. ⊎_elim
              (λ was. kept.keys entry (row_in counted_of state.actors id a entry mine was) units)
              (λ same. subst (λ (e : Entry). HasKey kept.anatomy.records e.name e.key) same shows.key)
              (counted_from entry there);
          taken_keys = λ t count there. kept.taken_keys t count (row_in taken_of state.actors id a t mine there);
          sums = sums_turned shape opened state kept at body then_is j v stands turns id a mine recorder lived deed (λ e. cc e) (λ reference sum loaded. cc loaded) shows.sums
              cost_same;
          lives = λ e. cc e;
          stood = tt;
          sees = sees_turned shape opened state kept at body then_is j v stands turns a.seen fits.sees;
          noticed = λ saw. saw;
          up = λ free. unbound_unbeaten a.hand.place unbound;
          own = refl;
          calls = calls_next a c d next refl kept.anatomy new (record (deed_of a) { place = Idle }) (λ summed. refl)
              (All-contains (λ (c : EntryProgress). c.noted ≡ true → is_summed c ≡ true) a.entries.running c fits.calls.ordered.summed_next next_there)
              (All-contains (λ (c : EntryProgress). c.summed ≡ true → c.entry.amount ≢ pos 0) a.entries.running c fits.calls.ordered.amounted next_there)
              (λ entry of there units. ⊎_elim
              (λ before. fits.calls.met entry of (Contains-append_left a.entries.inherited (counted_of a) entry before) units)
              (λ own. ⊎_elim
              (λ was. fits.calls.met entry of (Contains-append_right a.entries.inherited (counted_of a) entry was) units)
              (λ same. subst (λ (e : Entry). IsFirst kept.anatomy.records e.name spec.Sparse of
              → (sample : ℕ) × IsFirstOf kept.anatomy.records of e.key sample × Contains a.seen.chain sample × SawSample a.seen of e.key sample) same (shows.met of))
              (counted_from entry own))
              (Contains-append_cases a.entries.inherited (counted_of b) entry there))
              fits.calls;
          looks = looks_turned shape opened state kept at body then_is j v stands turns id a mine recorder lived deed (λ e. cc e) (λ reference sum loaded. cc loaded)
              shows.records (λ name key. let more = all_more name key in omega (arith, more));
          finals = finals_next a c d next refl state.actors actors kept.roles beside id (record (deed_of a) { place = Idle }) (touched c.summed c.noted)
              (rows taken_of state.actors id a b mine refl)
              (λ name key other. let more = all_more name key in let none_of = apart name key other in omega (arith, more, none_of))
              (λ name other. ap (λ entries. tally_sum entries name) (rows summed_of state.actors id a b mine summed_same))
              (λ name other. ap (λ entries. tally_noted entries name) (rows noted_of state.actors id a b mine noted_same))
              (λ taking. (fits.calls.taking taking).0) fits.finals;
        })
      where
        touched : (x y : Bool) → (not true && not x && not y) ≡ false
        touched x y = refl
