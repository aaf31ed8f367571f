-- The amount of the entry that is next is added to the sum of its histogram.
use Rattle.segment_invariant.proofs.Prelude.Std.{◌≡◌, ◌≢◌, ℕ, zero, suc, ◌+◌, ◌*◌, ◌%◌, ◌^◌, ◌<◌, ◌≤◌, ℤ, pos, ◌+ℤ◌, ◌-ℤ◌, Bool, true, false, cond, not, ◌||◌, ◌&&◌, ◌⊎◌, ne_eqb, List, [], ◌∷◌, ◌++◌, map, filter, length, set, All, Contains, inl, inr, ⊎_elim, refl, sym, ap, ◌∙◌, subst, arith, length-append, if◌then◌else◌, unsigned_abs, ◌==◌, w64, cast_signed, cast_unsigned, int_eq, bytes_eq, +ℤ_idl, +ℤ_idr, Decides-int_eq, map-append, All-cons, All-nil, All-contains, filter-append, Contains-append_cases, Contains-append_right, bytes_eq-Decides, some, none, get_elem?, all_of, one_in, sum_beside, sum_same, contains_map}
use Rattle.segment_invariant.proofs.Prelude.Machine.{Dimensions, EntryProgress, Entry, Actor, is_counted, is_summed, is_noted, is_of, tally_sum, tally_noted, noted_among, counting_event, add_sum, word_at, State, Cost, Known, Spent, Idle, is_bound, cost_of, units_of, summed_of, noted_of, is_opener}
use Rattle.segment_invariant.proofs.Prelude.Invariant.{Record, histogram, Anatomy, layout_of, EventKeeps, HasRecord, summed_cost, IsSumOf, SumsAreNear, Invariant, KeptOn}
use Rattle.std.proofs.Common.{negsuc, neg_ℤ}
use Rattle.std.proofs.Math.IntN.{+ℤ_assoc, +ℤ_comm, +ℤ_invr, neg_ℤ-+ℤ}
use Rattle.std.proofs.lemmas.Int.{wrapping_add_onto, int_wrap_fits, fits_signed_from_abs}
use Rattle.std.proofs.lemmas.List.Sums.{sum_by-le-sum_by}
use Rattle.bucket_ranges.proofs.Sums.{sum-small}
use Rattle.segment_machine.specs.Entry.{summed_among}
use Rattle.list_lemmas.proofs.Elements.{not_empty}
use Rattle.segment_invariant.proofs.Lists.Countings.{sum_total}
use Rattle.segment_invariant.proofs.Notes.Amounts.{zeros}
use Rattle.segment_invariant.proofs.Counting.Running.{Next, next_of, passes_same, passes_moved}
use Rattle.segment_invariant.proofs.Counting.Learned.{summed_least}
use Rattle.segment_invariant.proofs.Counting.Amounts.{with_amount, turner_lives, the_record, later, amount_added}
use Rattle.segment_invariant.proofs.Changes.Words.{Turns, behind, came_from, word_turns}
use Rattle.segment_invariant.specs.Ledger.{amount_of_name}
use Rattle.segment_invariant.proofs.Frames.GoesOn.{happens}
use Rattle.segment_invariant.specs.Rises.{SumsRise}
use Rattle.segment_invariant.proofs.Frames.SumsRise.{no_distance, one_there}
use Rattle.segment_invariant.proofs.Frames.Together.{LoadedBefore, loaded_set}
use Rattle.segment_invariant.proofs.Blocks.Pieces.{piece_word}
use Rattle.segment_invariant.proofs.Walking.Walks.{block_within}
use Rattle.alloc_core.proofs.Layouts.{length_shown}
use Rattle.segment_invariant.specs.Invariant.{summed_costs}

-- ---- one entry with an amount

abbrev has_amount : Entry → Bool
has_amount entry = not (int_eq entry.amount (pos 0))

none_pass : {X : Type 0} (p : X → Bool) (l : List X) → length (filter p l) ≡ 0 → All (λ x. p x ≡ false) l
none_pass p [] e = All-nil (λ x. p x ≡ false)
none_pass {X} p (x ∷ xs) e = by_test (p x) refl e (none_pass p xs)
  where
    by_test : (b : Bool) → p x ≡ b → length (cond b (x ∷ filter p xs) (filter p xs)) ≡ 0 → (length (filter p xs) ≡ 0 → All (λ x. p x ≡ false) xs) → All (λ x. p x ≡ false) (x ∷ xs)
    by_test true is e rest = absurd (omega (arith, e))
    by_test false is e rest = All-cons (λ x. p x ≡ false) x xs is (rest e)

no_amount_is : (z : ℤ) → not (int_eq z (pos 0)) ≡ false → z ≡ pos 0
no_amount_is z off = by_test (int_eq z (pos 0)) refl off
  where
    by_test : (b : Bool) → int_eq z (pos 0) ≡ b → not b ≡ false → z ≡ pos 0
    by_test true is e = (Decides-int_eq z (pos 0)).0 is
    by_test false is e = absurd (cc e)

-- if at most one entry has an amount, and this one has it, the others have none
others_zero : (front behind : List Entry) (e : Entry) → length (filter has_amount (front ++ e ∷ behind)) ≤ 1 → has_amount e ≡ true
    → All (λ x. x.amount ≡ pos 0) front × All (λ x. x.amount ≡ pos 0) behind
others_zero front behind e most has =
    let parts = ap length (filter-append has_amount front (e ∷ behind)) ∙ length-append (filter has_amount front) (filter has_amount (e ∷ behind)) in
    let one : length (filter has_amount (e ∷ behind)) ≡ suc (length (filter has_amount behind)) =
    ap (λ (b : Bool). length (cond b (e ∷ filter has_amount behind) (filter has_amount behind))) has in
    let zeros : (l : List Entry) → length (filter has_amount l) ≡ 0 → All (λ x. x.amount ≡ pos 0) l =
    λ l none. all_of (λ x. x.amount ≡ pos 0) l
    (λ x there. no_amount_is x.amount (All-contains (λ x. has_amount x ≡ false) l x (none_pass has_amount l none) there)) in
    (zeros front (omega (arith, most, parts, one)), zeros behind (omega (arith, most, parts, one)))

-- amounts
abs_neg : (z : ℤ) → unsigned_abs (neg_ℤ z) ≡ unsigned_abs z
abs_neg (pos zero) = refl
abs_neg (pos (suc n)) = refl
abs_neg (negsuc n) = refl

-- a sum that grew is as near to another, and to itself as that grew
grown_near : (s d y : ℤ) (m n : ℕ) → unsigned_abs (s -ℤ y) ≤ m → unsigned_abs d ≤ n → unsigned_abs ((s +ℤ d) -ℤ y) ≤ m + n
grown_near s d y m n near few =
    subst (λ (z : ℤ). unsigned_abs z ≤ m + n)
    (+ℤ_assoc s (neg_ℤ y) d ∙ (ap (λ z. s +ℤ z) (+ℤ_comm (neg_ℤ y) d) ∙ sym (+ℤ_assoc s d (neg_ℤ y))))
    (sum-small (s -ℤ y) d m n near few)

near_grown : (s d y : ℤ) (m n : ℕ) → unsigned_abs (y -ℤ s) ≤ m → unsigned_abs d ≤ n → unsigned_abs (y -ℤ (s +ℤ d)) ≤ m + n
near_grown s d y m n near few =
    subst (λ (z : ℤ). unsigned_abs z ≤ m + n)
    (+ℤ_assoc y (neg_ℤ s) (neg_ℤ d) ∙ ap (λ z. y +ℤ z) (sym (neg_ℤ-+ℤ s d)))
    (sum-small (y -ℤ s) (neg_ℤ d) m n near (subst (λ (k : ℕ). k ≤ n) (sym (abs_neg d)) few))

-- the word of a sum that fits
pub sum_word : (found : ℕ) (amount : ℤ) → found < 2 ^ 64 → unsigned_abs amount < 2 ^ 63 → unsigned_abs (cast_signed w64 found +ℤ amount) < 2 ^ 63
    → cast_signed w64 ((found + cast_unsigned w64 amount) % 2 ^ 64) ≡ cast_signed w64 found +ℤ amount
sum_word found amount narrow small fits =
    wrapping_add_onto w64 found amount narrow (fits_signed_from_abs w64 amount small)
    ∙ int_wrap_fits w64 (cast_signed w64 found +ℤ amount) (fits_signed_from_abs w64 (cast_signed w64 found +ℤ amount) fits)

-- nothing passes a test that nothing passes
filter_nothing : {X : Type 0} (p : X → Bool) (l : List X) → ((x : X) → Contains l x → p x ≡ false) → filter p l ≡ []
filter_nothing p [] off = refl
filter_nothing {X} p (x ∷ xs) off =
    ap (λ (b : Bool). cond b (x ∷ filter p xs) (filter p xs)) (off x (0, omega arith, refl))
    ∙ filter_nothing p xs (λ y has. off y (Contains-append_right (x ∷ []) xs y has))

or_off : (b c : Bool) → (b || c) ≡ false → (b ≡ false) × (c ≡ false)
or_off false c e = (refl, e)
or_off true c e = absurd (cc e)

-- ---- the state

module _ (shape : Dimensions) (opened : Anatomy) (state : State) (kept : Invariant shape opened state) (id : ℕ) (a : Actor)
    (mine : get_elem? state.actors id ≡ some a) (recorder : is_opener a.role ≡ false) (unbound : is_bound a.hand.place ≡ false)
    (c : EntryProgress) (next : Next a.entries.running c) (known : Known) (has : Contains a.answers.names known) (named : known.name ≡ c.entry.name)
    (counted : is_counted c ≡ true) (unsummed : is_summed c ≡ false) where
  abbrev d : EntryProgress
  d = record c { summed = true }

  abbrev amount : ℤ
  amount = c.entry.amount

  lived : a.hand.place ≢ Spent
  lived = turner_lives shape opened state kept id a mine recorder unbound c d next refl known has

  abbrev r : Record
  r = (the_record shape opened state kept id a mine recorder unbound c d next refl known has).0

  abbrev stands : HasRecord kept.anatomy.pieces known.reference r
  stands = (the_record shape opened state kept id a mine recorder unbound c d next refl known has).1

  called : r.name ≡ c.entry.name
  called = (the_record shape opened state kept id a mine recorder unbound c d next refl known has).2 ∙ named

  abbrev sum : ℕ
  sum = (r.sum + cast_unsigned w64 amount) % 2 ^ 64

  abbrev s0 : ℤ
  s0 = cast_signed w64 r.sum

  flags_off : (c.summed ≡ false) × (int_eq amount (pos 0) ≡ false)
  flags_off = or_off c.summed (int_eq amount (pos 0)) unsummed

  some_amount : amount ≢ pos 0
  some_amount zero_is = cc (flags_off.1, (Decides-int_eq amount (pos 0)).1 zero_is)

  pub turns : Turns kept.anatomy.version (histogram r) (histogram (with_amount r sum r.noted)) 11 sum
  turns = word_turns kept.anatomy.version (histogram r) (histogram (with_amount r sum r.noted)) 11 sum refl refl refl (omega arith) (omega arith)
      (with_amount r sum r.noted, refl, record { is = refl; counts = λ there. refl; single = inl refl; mark = omega arith; noted = omega arith })

  pub narrow : sum < 2 ^ 64
  narrow = omega arith

  abbrev b : Actor
  b = later shape opened state kept id a mine recorder unbound c d next refl known has sum r.noted 11 sum turns narrow a.seen.counts refl

  abbrev actors : List Actor
  actors = set state.actors id b

  -- ---- its entries

  abbrev before_it : List Entry
  before_it = map (λ c. c.entry) next.front

  abbrev behind_it : List Entry
  behind_it = map (λ c. c.entry) next.behind

  all_entries : map (λ (c : EntryProgress). c.entry) a.entries.running ≡ before_it ++ c.entry ∷ behind_it
  all_entries = ap (map (λ (c : EntryProgress). c.entry)) next.is ∙ map-append (λ (c : EntryProgress). c.entry) next.front (c ∷ next.behind)

  -- the call holds as much as its amount asks for
  holds : (cost : ℕ) × (cost_of a.units.held r.name ≡ cost) × (unsigned_abs amount ≤ 2147483648 * cost)
      × All (λ x. x.amount ≡ pos 0) before_it × All (λ x. x.amount ≡ pos 0) behind_it
  holds =
      let fits = kept.each id a mine lived in
      let (name, cost, held, within, knows) = fits.calls.within (λ none_runs. not_empty next.front next.behind c (sym next.is ∙ none_runs)) in
      let zero = others_zero before_it behind_it c.entry (subst (λ (l : List Entry). length (filter has_amount l) ≤ 1) all_entries within.one)
      (ap not flags_off.1) in
      let its : c.entry.name ≡ name = All-contains (λ (e : Entry). e.name ≡ name) (before_it ++ c.entry ∷ behind_it) c.entry
      (subst (All (λ (e : Entry). e.name ≡ name)) all_entries within.of_name) (Contains-append_right before_it (c.entry ∷ behind_it) c.entry (0, omega arith, refl)) in
      let test : bytes_eq name r.name ≡ true = (bytes_eq-Decides name r.name).1 (sym (called ∙ its)) in
      let total : tally_sum (map (λ (c : EntryProgress). c.entry) a.entries.running) name ≡ amount =
      ap (λ (l : List Entry). tally_sum l name) all_entries
      ∙ (sum_total name before_it (c.entry ∷ behind_it)
      ∙ (ap (λ z. z +ℤ tally_sum (c.entry ∷ behind_it) name) (zeros name before_it (λ e there. All-contains (λ (x : Entry). x.amount ≡ pos 0) before_it e zero.0 there))
      ∙ (+ℤ_idl (tally_sum (c.entry ∷ behind_it) name)
      ∙ (sum_total name (c.entry ∷ []) behind_it
      ∙ (ap (λ z. tally_sum (c.entry ∷ []) name +ℤ z) (zeros name behind_it (λ e there. All-contains (λ (x : Entry). x.amount ≡ pos 0) behind_it e zero.1 there))
      ∙ (+ℤ_idr (tally_sum (c.entry ∷ []) name)
      ∙ (+ℤ_idl (if is_of name c.entry then amount else pos 0) ∙ ap (λ (t : Bool). if t then amount else pos 0) ((bytes_eq-Decides c.entry.name name).1 its)))))))) in
      let paid : cost_of a.units.held r.name ≡ 0 + cost = ap (λ (l : List Cost). cost_of l r.name) held ∙ ap (λ (t : Bool). 0 + (if t then cost else 0)) test in (
        cost,
        omega (arith, paid),
        subst (λ (z : ℤ). unsigned_abs z ≤ 2147483648 * cost) total within.amount,
        zero.0,
        zero.1,
      )

  -- no amount of the call was added before
  none_summed : filter (λ (c : EntryProgress). c.summed) a.entries.running ≡ []
  none_summed = filter_nothing (λ (c : EntryProgress). c.summed) a.entries.running (λ x there. off x there (x.summed) refl)
    where
      zero_of : (x : EntryProgress) → Contains a.entries.running x → (x ≡ c) ⊎ (x.entry.amount ≡ pos 0)
      zero_of x there = ⊎_elim
          (λ first. inr (All-contains (λ (x : Entry). x.amount ≡ pos 0) before_it x.entry holds.3 (contains_map (λ (c : EntryProgress). c.entry) next.front x first)))
          (λ rest. ⊎_elim
          (λ one. inl (sym (one_in c x one)))
          (λ last. inr (All-contains (λ (x : Entry). x.amount ≡ pos 0) behind_it x.entry holds.4 (contains_map (λ (c : EntryProgress). c.entry) next.behind x last)))
          (Contains-append_cases (c ∷ []) next.behind x rest))
          (Contains-append_cases next.front (c ∷ next.behind) x (subst (λ (l : List EntryProgress). Contains l x) next.is there))

      off : (x : EntryProgress) → Contains a.entries.running x → (t : Bool) → x.summed ≡ t → t ≡ false
      off x there false is = refl
      off x there true is = absurd (⊎_elim
          (λ same. cc (sym is ∙ (ap (λ (z : EntryProgress). z.summed) same ∙ flags_off.0)))
          (λ nothing. All-contains (λ (c : EntryProgress). c.summed ≡ true → c.entry.amount ≢ pos 0) a.entries.running x (kept.each id a mine lived).calls.ordered.amounted there is nothing)
          (zero_of x there))

  -- ---- costs

  cost_was : (name : List ℕ) → summed_cost name a ≡ cost_of a.units.costs name + 0
  cost_was name = ap (λ (l : List EntryProgress). cost_of a.units.costs name + (if length l == 0 then 0 else cost_of a.units.held name)) none_summed

  cost_is : (name : List ℕ) → summed_cost name b ≡ cost_of a.units.costs name + cost_of a.units.held name
  cost_is name =
      let parts = ap length (filter-append (λ (c : EntryProgress). c.summed) next.front (d ∷ next.behind))
      ∙ length-append (filter (λ (c : EntryProgress). c.summed) next.front) (filter (λ (c : EntryProgress). c.summed) (d ∷ next.behind)) in
      ap (λ (t : Bool). cost_of a.units.costs name + (if t then 0 else cost_of a.units.held name))
      (ne_eqb (length (filter (λ (c : EntryProgress). c.summed) (next.front ++ d ∷ next.behind))) 0 (λ none. omega (arith, none, parts)))

  costs_more : (name : List ℕ) → summed_costs name actors ≡ summed_costs name state.actors + cost_of a.units.held name
  costs_more name =
      let all = sum_beside (summed_cost name) state.actors id a b mine in
      let was = cost_was name in
      let is = cost_is name in
      omega (arith, all, was, is)

  costs_most : (name : List ℕ) → summed_costs name actors ≤ 4294967295
  costs_most name =
      let few = sum_by-le-sum_by (summed_cost name) units_of actors (summed_least name) in
      let units = sum_same units_of state.actors id a b mine refl in
      let pool = kept.pool in
      omega (arith, few, units, pool)

  -- ---- the sum

  sum_was : (x y : ℤ) → IsSumOf state.actors known.reference r x → IsSumOf state.actors known.reference r y
      → unsigned_abs (x -ℤ y) ≤ 2147483648 * summed_costs r.name state.actors
  sum_was x y = kept.sums known.reference r x y stands

  sum_is : cast_signed w64 sum ≡ s0 +ℤ amount
  sum_is =
      let near = subst (λ (z : ℤ). unsigned_abs z ≤ 2147483648 * summed_costs r.name state.actors) (+ℤ_idr s0) (sum_was s0 (pos 0) (inr (inl refl)) (inl refl)) in
      let (cost, held, few, front, behind) = holds in
      let all = sum-small s0 amount _ _ near few in
      let costs = costs_more r.name in
      let most = costs_most r.name in
      sum_word r.sum amount (kept.records.lawful known.reference r stands).narrow.0 (omega (arith, few, held, costs, most)) (omega (arith, all, held, costs, most))

  abbrev new : Anatomy
  new = behind shape opened state kept known.reference (histogram r) (histogram (with_amount r sum r.noted)) 11 sum stands turns

  -- no sum is loaded by it
  loaded : LoadedBefore state.actors actors
  loaded = loaded_set state.actors id a b mine (λ at z is. absurd (cc is))

  -- sums of other records stay, and one of this was one, or is the one that grew
  sum_before : (at : ℕ) (s : Record) (z : ℤ) → IsSumOf actors at s z → IsSumOf state.actors at s z
  sum_before at s z (inl e) = inl e
  sum_before at s z (inr (inl e)) = inr (inl e)
  sum_before at s z (inr (inr (inl e))) = inr (inr (inl e))
  sum_before at s z (inr (inr (inr (who, x, there, stands)))) = inr (inr (inr (loaded at z who x there stands)))

  sum_or_grown : (z : ℤ) → IsSumOf actors known.reference (with_amount r sum r.noted) z → IsSumOf state.actors known.reference r z ⊎ (z ≡ s0 +ℤ amount)
  sum_or_grown z (inl e) = inl (inl e)
  sum_or_grown z (inr (inl e)) = inr (e ∙ sum_is)
  sum_or_grown z (inr (inr (inl e))) = inl (inr (inr (inl e)))
  sum_or_grown z (inr (inr (inr (who, x, there, stands)))) = inl (inr (inr (inr (loaded known.reference z who x there stands))))

  -- so sums stay near
  mine_near : (x y : ℤ) → IsSumOf actors known.reference (with_amount r sum r.noted) x → IsSumOf actors known.reference (with_amount r sum r.noted) y
      → unsigned_abs (x -ℤ y) ≤ 2147483648 * summed_costs r.name actors
  mine_near x y first last =
      let (cost, held, few, front, behind_them) = holds in
      let costs = costs_more r.name in
      let now : IsSumOf state.actors known.reference r s0 = inr (inl refl) in
      ⊎_elim
      (λ one. ⊎_elim
      (λ two. let near = sum_was x y one two in omega (arith, near, costs))
      (λ grown.
      let near = near_grown s0 amount x _ _ (sum_was x s0 one now) few in
      subst (λ (z : ℤ). unsigned_abs (x -ℤ z) ≤ 2147483648 * summed_costs r.name actors) (sym grown) (omega (arith, near, costs, held)))
      (sum_or_grown y last))
      (λ grown. ⊎_elim
      (λ two.
      let near = grown_near s0 amount y _ _ (sum_was s0 y now two) few in
      subst (λ (z : ℤ). unsigned_abs (z -ℤ y) ≤ 2147483648 * summed_costs r.name actors) (sym grown) (omega (arith, near, costs, held)))
      (λ too.
      subst (λ (z : ℤ). unsigned_abs z ≤ 2147483648 * summed_costs r.name actors) (sym ((λ i. grown i -ℤ too i) ∙ +ℤ_invr (s0 +ℤ amount))) (omega arith))
      (sum_or_grown y last))
      (sum_or_grown x first)

  near : SumsAreNear new.pieces actors
  near at s x y there first last = ⊎_elim
      (λ was.
      let bound = kept.sums at s x y was.0 (sum_before at s x first) (sum_before at s y last) in
      let costs = costs_more s.name in
      omega (arith, bound, costs))
      (λ is.
      let one : with_amount r sum r.noted ≡ s = cc (sym is.1) in
      subst (λ (p : ℕ × Record). IsSumOf actors p.0 p.1 x → IsSumOf actors p.0 p.1 y → unsigned_abs (x -ℤ y) ≤ 2147483648 * summed_costs p.1.name actors)
      (λ i. (sym is.0 i, one i)) (mine_near x y) first last)
      (came_from shape opened state kept known.reference (histogram r) (histogram (with_amount r sum r.noted)) 11 sum stands turns at none (histogram s) there)

  -- it changed by no more than what is spent on it now
  rising : SumsRise kept.anatomy.pieces new.pieces state.actors actors
  rising = record {
    costs = λ name. let costs = costs_more name in omega (arith, costs);
    sums = λ at q s there now.
        let one = one_there shape state.words kept.anatomy kept.shown at q in
        let costs = costs_more q.name in
        ⊎_elim
        (λ was. let none_of = no_distance q.sum s.sum (ap (λ (z : Record). z.sum) (one s there was.0)) in omega (arith, none_of, costs))
        (λ is.
        let same : with_amount r sum r.noted ≡ s = cc (sym is.1) in
        let before : q ≡ r = one r there (subst (λ (n : ℕ). HasRecord kept.anatomy.pieces n r) (sym is.0) stands) in
        let (cost, held, few, front, behind_them) = holds in
        let far = grown_near s0 amount s0 0 (2147483648 * cost) (let itself = no_distance r.sum r.sum refl in omega (arith, itself)) few in
        let way : cast_signed w64 s.sum -ℤ cast_signed w64 q.sum ≡ (s0 +ℤ amount) -ℤ s0 =
        λ i. (ap (λ (z : Record). cast_signed w64 z.sum) (sym same) ∙ sum_is) i -ℤ cast_signed w64 (before i).sum in
        let spent = ap (λ (z : Record). cost_of a.units.held z.name) before in
        let near_it = ap unsigned_abs way in
        omega (arith, far, near_it, spent, held, costs))
        (came_from shape opened state kept known.reference (histogram r) (histogram (with_amount r sum r.noted)) 11 sum stands turns at none (histogram s) now);
  }

  -- its entries come to that much more
  sums_more : (name : List ℕ) → tally_sum (summed_of b) name ≡ tally_sum (summed_of a) name +ℤ amount_of_name r.name name amount
  sums_more name =
      passes_moved is_summed a.entries.first a.entries.log next.front next.behind c d (λ entries. tally_sum entries name) (sum_total name) (amount_of_name r.name name amount)
      (ap (λ (n : List ℕ). pos 0 +ℤ (if bytes_eq n name then amount else pos 0)) (sym called)
      ∙ sym (ap (λ (t : Bool). tally_sum (map (λ (c : EntryProgress). c.entry) (cond t (c ∷ []) [])) name +ℤ amount_of_name r.name name amount) unsummed))
      ∙ ap (λ (l : List EntryProgress). tally_sum (a.entries.first ++ summed_among (a.entries.log ++ l)) name +ℤ amount_of_name r.name name amount) (sym next.is)

  sum_held_more : (name : List ℕ) → amount_of_name r.name name (cast_signed w64 sum) ≡ amount_of_name r.name name s0 +ℤ amount_of_name r.name name amount
  sum_held_more name = by_test (bytes_eq r.name name)
    where
      by_test : (t : Bool) → (if t then cast_signed w64 sum else pos 0) ≡ (if t then s0 else pos 0) +ℤ (if t then amount else pos 0)
      by_test true = sum_is
      by_test false = refl

  noted_same : noted_of b ≡ noted_of a
  noted_same = passes_same is_noted next.behind c d refl refl [] a.entries.log next.front ∙ ap (λ (l : List EntryProgress). noted_among (a.entries.log ++ l)) (sym next.is)

  apart_nothing : (name : List ℕ) → is_of name c.entry ≡ false → tally_sum (summed_of b) name ≡ tally_sum (summed_of a) name
  apart_nothing name other =
      sums_more name
      ∙ (ap (λ z. tally_sum (summed_of a) name +ℤ z) (ap (λ (n : List ℕ). if bytes_eq n name then amount else pos 0) called ∙ ap (λ (t : Bool). if t then amount else pos 0) other)
      ∙ +ℤ_idr (tally_sum (summed_of a) name))

  pub sum_added : KeptOn shape opened kept (record { words = set state.words (known.reference + 11) sum; cursors = state.cursors; actors = actors })
  sum_added = amount_added shape opened state kept id a mine recorder unbound c d next refl known has sum r.noted 11 sum turns narrow a.seen.counts refl
      (untouched_off c.counted c.noted) (λ summed. counted) (λ noted. refl) (λ summed. some_amount)
      (λ name. (amount_of_name r.name name amount, sum_held_more name, sums_more name))
      (λ name. let same = ap (λ entries. tally_noted entries name) noted_same in omega (arith, same))
      apart_nothing
      (λ name other. ap (λ entries. tally_noted entries name) noted_same)
      (near, rising) (λ sees. sees) (λ looks. looks)
    where
      untouched_off : (x y : Bool) → (not x && not true && not y) ≡ false
      untouched_off true y = refl
      untouched_off false y = refl

-- the event
pub add_sum_kept : (histogram_at : ℕ) (amount : ℤ) → EventKeeps (counting_event (add_sum histogram_at amount))
add_sum_kept at amount shape opened state id a kept mine recorder (unbound, c, known, ((rest, is_next), counted, unsummed), amount_is, has, refers, named) =
    let next = next_of a.entries.running c rest is_next in
    let d : EntryProgress = record c { summed = true } in
    let lived = turner_lives shape opened state kept id a mine recorder unbound c d next refl known has in
    let (r, (k, there), called) = the_record shape opened state kept id a mine recorder unbound c d next refl known has in
    let found : word_at state.words (at + 11) ≡ r.sum =
    ap (λ (n : ℕ). word_at state.words (n + 11)) (sym refers) ∙ piece_word shape state.words kept.anatomy kept.shown k _ 11 there (omega arith) in
    let (from, five, within) = block_within shape opened state kept known.reference (histogram r) (k, there) refl in
    let size = length_shown shape state.words (layout_of kept.anatomy) kept.shown in
    happens opened.version state id a (counting_event (add_sum at amount)) (omega (arith, within, size, refers)) shape opened kept (
      subst (λ (p : ℕ × ℕ × ℤ × List EntryProgress). KeptOn shape opened kept (record {
        words = set state.words (p.0 + 11) ((p.1 + cast_unsigned w64 p.2) % 2 ^ 64);
        cursors = state.cursors;
        actors = set state.actors id (record a { hand = record a.hand { place = Idle }; entries = record a.entries { running = p.3 } });
      })) (λ i. (refers i, sym found i, amount_is i, sym (next.changed (λ c. record c { summed = true })) i))
          (sum_added shape opened state kept id a mine recorder unbound c next known has named counted unsummed),
      tt,
    )
