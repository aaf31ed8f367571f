-- The amount of a running entry may become known: what holds is kept.
use Rattle.segment_invariant.proofs.Prelude.Std.{◌≡◌, ◌≢◌, ◌⊎◌, ℕ, ◌+◌, ◌*◌, ◌≤◌, ℤ, pos, Bool, true, false, true≢false, cond, not, List, [], ◌∷◌, ◌++◌, map, length, set, All, Contains, inl, inr, ⊎_elim, refl, sym, ap, ◌∙◌, subst, arith, length-append, if◌then◌else◌, ◌==◌, ◌+ℤ◌, unsigned_abs, filter, int_eq, +ℤ_idl, Decides-int_eq, map-append, All-contains, All-push, filter-append, Contains-append_left, Contains-append_right, Contains-push, some, get_elem?, at_longer, one_in, below_length, contains_mapped}
use Rattle.segment_invariant.proofs.Prelude.Machine.{Entry, EntryProgress, Spent, Actor, is_counted, is_summed, is_noted, has_ended, is_of, tally_units, tally_sum, tally_noted, cost_of, cost_total, change_last, is_untouched}
use Rattle.segment_invariant.proofs.Prelude.Invariant.{StandsRight, summed_cost, IsQuiet, KeptOn, NoteKeeps}
use Rattle.atomic_table.proofs.Lists.{at_last}
use Rattle.segment_invariant.proofs.Frames.Answers.{answered_set}
use Rattle.segment_machine.specs.Entry.{AreWithin}
use Rattle.segment_machine.specs.Note.{amounts}
use Rattle.segment_invariant.specs.Invariant.{AreInOrder}
use Rattle.list_lemmas.proofs.Elements.{not_empty, at_snoc_index}
use Rattle.list_lemmas.proofs.Maps.{all_left}
use Rattle.segment_invariant.proofs.Lists.Countings.{among, beside_same, nothing_among, units_total, sum_total, noted_total, no_amount, or_false}
use Rattle.segment_invariant.proofs.Notes.Notes.{Noting, noting, noting_of, SameCounts, notes_on}
use Rattle.segment_invariant.proofs.Notes.Actors.{noting_fits, finals_on, calls_by}
use Rattle.segment_invariant.proofs.Notes.Begins.{takes_nothing}

-- the last of a list, changed
pub last_changed : {X : Type 0} (f : X → X) (xs : List X) (x : X) → change_last f (xs ++ x ∷ []) ≡ xs ++ f x ∷ []
last_changed f [] x = refl
last_changed f (y ∷ []) x = refl
last_changed f (y ∷ z ∷ xs) x = ap (λ list. y ∷ list) (last_changed f (z ∷ xs) x)

-- amounts that are all 0 come to 0, and none is another
pub zeros : (name : List ℕ) (entries : List Entry) → ((e : Entry) → Contains entries e → e.amount ≡ pos 0) → tally_sum entries name ≡ pos 0
zeros name [] each = refl
zeros name (e ∷ es) each =
    sum_total name (e ∷ []) es
    ∙ (ap (λ z. z +ℤ tally_sum es name) (no_amount name e (each e (0, omega arith, refl)))
    ∙ (+ℤ_idl (tally_sum es name) ∙ zeros name es (λ d has. each d (Contains-append_right (e ∷ []) es d has))))

abbrev has_amount : Entry → Bool
has_amount entry = not (int_eq entry.amount (pos 0))

no_others : (entries : List Entry) → ((e : Entry) → Contains entries e → e.amount ≡ pos 0) → filter has_amount entries ≡ []
no_others [] each = refl
no_others (e ∷ es) each =
    ap (λ b. cond (not b) (e ∷ filter has_amount es) (filter has_amount es)) ((Decides-int_eq e.amount (pos 0)).1 (each e (0, omega arith, refl)))
    ∙ no_others es (λ d has. each d (Contains-append_right (e ∷ []) es d has))

one_at_most : {X : Type 0} (b : Bool) (x : X) → length (cond b (x ∷ []) []) ≤ 1
one_at_most true x = omega arith
one_at_most false x = omega arith

-- The last of the running entries gets its amount.
module _ (a : Actor) (amount : ℤ) (before : List EntryProgress) (last : EntryProgress) (runs : a.entries.running ≡ before ++ last ∷ [])
    (unsummed : last.summed ≡ false) (unnoted : last.noted ≡ false) (nothing : All (λ c. c.entry.amount ≡ pos 0) a.entries.running) where
  abbrev told : EntryProgress
  told = record last { entry = record last.entry { amount = amount } }

  abbrev behind : List EntryProgress
  behind = before ++ told ∷ []

  abbrev teller : Noting
  teller = record (noting_of a) { running = behind }

  zero_in : (c : EntryProgress) → Contains (before ++ last ∷ []) c → c.entry.amount ≡ pos 0
  zero_in c has = All-contains (λ (c : EntryProgress). c.entry.amount ≡ pos 0) a.entries.running c nothing (subst (λ (list : List EntryProgress). Contains list c) (sym runs) has)

  last_zero : last.entry.amount ≡ pos 0
  last_zero = zero_in last (Contains-append_right before (last ∷ []) last (0, omega arith, refl))

  -- ---- what it comes to

  counted_one : (name : List ℕ) (key : ℤ) (b : Bool)
      → tally_units (map (λ c. c.entry) (cond b (told ∷ []) [])) name key ≡ tally_units (map (λ c. c.entry) (cond b (last ∷ []) [])) name key
  counted_one name key true = refl
  counted_one name key false = refl

  noted_one : (name : List ℕ) (b : Bool)
      → tally_noted (map (λ c. c.entry) (cond b (told ∷ []) [])) name ≡ tally_noted (map (λ c. c.entry) (cond b (last ∷ []) [])) name
  noted_one name true = refl
  noted_one name false = refl

  summed_none : (name : List ℕ) (c : EntryProgress) → c.summed ≡ false → tally_sum (among ◌+ℤ◌ (λ entries. tally_sum entries name) (sum_total name) is_summed (c ∷ [])) name ≡ pos 0
  summed_none name c off = nothing_among ◌+ℤ◌ (λ entries. tally_sum entries name) (sum_total name) is_summed (c ∷ [])
      (λ d has passes.
      let same = one_in c d has in
      no_amount name d.entry
      ((Decides-int_eq d.entry.amount (pos 0)).0 (or_false d.summed (int_eq d.entry.amount (pos 0)) (sym (ap (λ (c : EntryProgress). c.summed) same) ∙ off) passes)))

  summed_long : length (filter (λ (c : EntryProgress). c.summed) behind) ≡ length (filter (λ (c : EntryProgress). c.summed) (before ++ last ∷ []))
  summed_long =
      let now = filter-append (λ (c : EntryProgress). c.summed) before (told ∷ []) in
      let was = filter-append (λ (c : EntryProgress). c.summed) before (last ∷ []) in
      let one : (b : Bool) → length (filter (λ (c : EntryProgress). c.summed) before ++ cond b (told ∷ []) []) ≡ length (filter (λ (c : EntryProgress). c.summed) before ++ cond b (last ∷ []) []) =
      λ b. length-append (filter (λ (c : EntryProgress). c.summed) before) (cond b (told ∷ []) [])
      ∙ (ap (λ n. length (filter (λ (c : EntryProgress). c.summed) before) + n) (as_long b) ∙ sym (length-append (filter (λ (c : EntryProgress). c.summed) before) (cond b (last ∷ []) []))) in
      ap length now ∙ (one last.summed ∙ sym (ap length was))
    where
      as_long : (b : Bool) → length (cond b (told ∷ []) []) ≡ length (cond b (last ∷ []) [])
      as_long true = refl
      as_long false = refl

  amounts_counts : SameCounts a (noting a teller)
  amounts_counts = record {
    counted = λ name key.
        let total : List Entry → ℕ = λ entries. tally_units entries name key in
        beside_same ◌+◌ total (units_total name key) is_counted a.entries.first a.entries.log behind (before ++ last ∷ [])
        (beside_same ◌+◌ total (units_total name key) is_counted [] before (told ∷ []) (last ∷ []) (counted_one name key (is_counted last)))
        ∙ ap (λ running. total (a.entries.first ++ among ◌+◌ total (units_total name key) is_counted (a.entries.log ++ running))) (sym runs);
    summed = λ name.
        let total : List Entry → ℤ = λ entries. tally_sum entries name in
        beside_same ◌+ℤ◌ total (sum_total name) is_summed a.entries.first a.entries.log behind (before ++ last ∷ [])
        (beside_same ◌+ℤ◌ total (sum_total name) is_summed [] before (told ∷ []) (last ∷ []) (summed_none name told unsummed ∙ sym (summed_none name last unsummed)))
        ∙ ap (λ running. total (a.entries.first ++ among ◌+ℤ◌ total (sum_total name) is_summed (a.entries.log ++ running))) (sym runs);
    noted = λ name.
        let total : List Entry → ℕ = λ entries. tally_noted entries name in
        beside_same ◌+◌ total (noted_total name) is_noted [] a.entries.log behind (before ++ last ∷ [])
        (beside_same ◌+◌ total (noted_total name) is_noted [] before (told ∷ []) (last ∷ []) (noted_one name (is_noted last)))
        ∙ ap (λ running. total (among ◌+◌ total (noted_total name) is_noted (a.entries.log ++ running))) (sym runs);
    costs = λ name.
        let same : summed_cost name (noting a teller) ≡ summed_cost name a =
        ap (λ (n : ℕ). cost_of a.units.costs name + (if n == 0 then 0 else cost_of a.units.held name))
        (summed_long ∙ ap (λ (list : List EntryProgress). length (filter (λ (c : EntryProgress). c.summed) list)) (sym runs)) in
        omega (arith, same);
    units = refl;
  }

  -- ---- its entries are in order

  abbrev old : List EntryProgress
  old = before ++ last ∷ []

  -- each but the last ran before, and the last has the flags that it had
  ran : (i : ℕ) (x : EntryProgress) → get_elem? behind i ≡ some x → (get_elem? old i ≡ some x) ⊎ ((i ≡ length before) × (told ≡ x))
  ran i x there = ⊎_elim (λ was. inl (at_longer before (last ∷ []) i x was)) (λ new. inr new) (at_snoc_index before told x i there)

  old_ordered : AreInOrder a.entries.running → AreInOrder old
  old_ordered ordered = subst AreInOrder runs ordered

  each_still : (P : EntryProgress → Type 0) → All P old → P told → All P behind
  each_still P all new = All-push P before told (all_left P before (last ∷ []) all) new

  amounts_ordered : AreInOrder old → AreInOrder behind
  amounts_ordered ordered = record {
    one_by_one = λ i j x y below first second. ⊎_elim
        (λ f. ⊎_elim
        (λ s. ordered.one_by_one i j x y below f s)
        (λ s. subst (λ (c : EntryProgress). (has_ended x ≡ true) ⊎ (is_untouched c ≡ true)) s.1
        (ordered.one_by_one i j x last below f (at_last before last j (sym s.0))))
        (ran j y second))
        (λ f.
        let low = below_length behind j y second in
        let long = length-append before (told ∷ []) in
        let at = f.0 in
        absurd (omega (arith, below, low, long, at)))
        (ran i x first);
    counted_first = each_still (λ c. c.summed ≡ true → is_counted c ≡ true) ordered.counted_first (λ summed. absurd (true≢false (sym summed ∙ unsummed)));
    summed_next = each_still (λ c. c.noted ≡ true → is_summed c ≡ true) ordered.summed_next (λ noted. absurd (true≢false (sym noted ∙ unnoted)));
    amounted = each_still (λ c. c.summed ≡ true → c.entry.amount ≢ pos 0) ordered.amounted (λ summed. absurd (true≢false (sym summed ∙ unsummed)));
  }

  -- ---- they stay within the cost

  abbrev entries : List Entry
  entries = map (λ c. c.entry) before

  entry_zero : (e : Entry) → Contains entries e → e.amount ≡ pos 0
  entry_zero e has =
      let (c, there, is) = contains_mapped (λ (c : EntryProgress). c.entry) before e has in
      sym (ap (λ (e : Entry). e.amount) is) ∙ zero_in c (Contains-append_left before (last ∷ []) c there)

  entries_behind : map (λ (c : EntryProgress). c.entry) behind ≡ entries ++ told.entry ∷ []
  entries_behind = map-append (λ (c : EntryProgress). c.entry) before (told ∷ [])

  entries_old : map (λ (c : EntryProgress). c.entry) old ≡ entries ++ last.entry ∷ []
  entries_old = map-append (λ (c : EntryProgress). c.entry) before (last ∷ [])

  told_within : (name : List ℕ) (cost : ℕ) → AreWithin name cost (entries ++ last.entry ∷ []) → unsigned_abs amount ≤ 2147483648 * cost
      → AreWithin name cost (entries ++ told.entry ∷ [])
  told_within name cost within bound = let named : Entry → Type 0 = λ e. e.name ≡ name in record {
    of_name = All-push named entries told.entry (all_left named entries (last.entry ∷ []) within.of_name)
        (All-contains named (entries ++ last.entry ∷ []) last.entry within.of_name (Contains-push entries last.entry));
    units =
        let now = noted_total name entries (told.entry ∷ []) in
        let was = noted_total name entries (last.entry ∷ []) in
        let most = within.units in
        subst (λ n. n ≤ cost) (was ∙ sym now) most;
    one =
        let parts = filter-append has_amount entries (told.entry ∷ []) in
        let front = no_others entries entry_zero in
        subst (λ (list : List Entry). length list ≤ 1) (sym (parts ∙ ap (λ list. list ++ filter has_amount (told.entry ∷ [])) front))
        (one_at_most (has_amount told.entry) told.entry);
    amount = subst (λ z. unsigned_abs z ≤ 2147483648 * cost)
        (sym (sum_total name entries (told.entry ∷ []) ∙ (ap (λ z. z +ℤ tally_sum (told.entry ∷ []) name) (zeros name entries entry_zero) ∙ +ℤ_idl (tally_sum (told.entry ∷ []) name))))
        (subst (λ z. unsigned_abs z ≤ 2147483648 * cost) (sym (+ℤ_idl (if is_of name told.entry then amount else pos 0))) (within_either (is_of name told.entry)));
  }
    where
      within_either : (b : Bool) → unsigned_abs (if b then amount else pos 0) ≤ 2147483648 * cost
      within_either true = bound
      within_either false = omega arith

  -- ---- it is as quiet

  amounts_quiet : (name : List ℕ) (k : ℕ) → IsQuiet (noting a teller) name k → IsQuiet a name k
  amounts_quiet name k quiet =
      let holds : EntryProgress → Type 0 = λ c. (is_of name c.entry ≡ false) ⊎ (is_untouched c ≡ true) in (
        quiet.0,
        subst (All holds) (sym runs)
            (All-push holds before last (all_left holds before (told ∷ []) quiet.1) (All-contains holds behind told quiet.1 (Contains-push before told))),
      )

pub amounts_kept : (amount : ℤ) → NoteKeeps (amounts amount)
amounts_kept amount shape opened state id a kept mine records ((before, last, runs, unsummed, unnoted), nothing, bound) =
    let n : Noting = teller a amount before last runs unsummed unnoted nothing in
    let counts = amounts_counts a amount before last runs unsummed unnoted nothing in
    let f : EntryProgress → EntryProgress = λ c. let entry = c.entry in record c { entry = record entry { amount = amount } } in
    let changed : change_last f a.entries.running ≡ n.running = ap (change_last f) runs ∙ last_changed f before last in
    let lived : a.hand.place ≢ Spent = λ is_spent.
    not_empty before [] last (sym runs ∙ ap (λ (a : Actor). a.entries.running) (subst (StandsRight shape kept.anatomy id a) is_spent (kept.standing id a mine))) in
    subst (λ (running : List EntryProgress). KeptOn shape opened kept (record state { actors = set state.actors id (record a { entries = record a.entries { running = running } }) })) (sym changed)
    (notes_on shape opened state kept id a mine records n lived counts (takes_nothing a n) (λ name key. refl) (λ known has. has)
    (answered_set kept.anatomy.records state.actors id a (noting a n) mine refl refl)
    (λ fit.
    let (name, cost, holds, within, known) = fit.calls.within (λ none. not_empty before [] last (sym runs ∙ none)) in
    let held_is : cost_total a.units.held ≡ 0 + cost = ap cost_total holds in
    noting_fits shape kept.anatomy state.cursors _ kept.roles.opener id a n fit fit.names fit.owes
    (calls_by kept.anatomy a n fit.calls counts
    (amounts_ordered a amount before last runs unsummed unnoted nothing (subst AreInOrder runs fit.calls.ordered))
    (λ some_run. (
      name,
      cost,
      holds,
      subst (AreWithin name cost) (sym (entries_behind a amount before last runs unsummed unnoted nothing))
          (told_within a amount before last runs unsummed unnoted nothing name cost
          (subst (AreWithin name cost) (ap (map (λ (c : EntryProgress). c.entry)) runs ∙ entries_old a amount before last runs unsummed unnoted nothing) within)
          (omega (arith, bound, held_is))),
      known,
    ))
    fit.calls.held fit.calls.ended fit.calls.spent
    (λ taking. absurd (not_empty before [] last (sym runs ∙ (fit.calls.taking taking).0))))
    (fit.looks records)
    (finals_on _ kept.roles.opener id a n (omega arith) (λ k within. refl)
    (λ name k low quiet. amounts_quiet a amount before last runs unsummed unnoted nothing name k quiet) fit.finals)
    fit.snapshots))
