-- What steps add to the log, and to what is noted.
use Rattle.std.proofs.Common.{◌≡◌, ◌∙◌, ℕ, ◌+◌, ℤ, pos, ◌+ℤ◌, ◌-ℤ◌, Bool, true, false, if◌then◌else◌, List, [], ◌∷◌, ◌++◌, map, length, take, inl, inr, refl, sym, ap, subst, arith, append_assoc, append-nil}
use Rattle.std.specs.Prelude.{◌||◌, ◌==◌, fold, not, Some, None}
use Rattle.std.specs.List.{All, flat_map}
use Rattle.std.specs.Ordering.{int_eq}
use Rattle.std.specs.Str.{bytes_eq}
use Rattle.std.proofs.Math.IntN.{+ℤ_assoc, +ℤ_comm, +ℤ_idl, +ℤ_idr}
use Rattle.std.proofs.lemmas.Bool.{ne_eqb}
use Rattle.std.proofs.lemmas.Int.{ints}
use Rattle.std.proofs.lemmas.List.Elements.{All-head, All-tail}
use Rattle.std.proofs.lemmas.List.Sums.{sum_by-cons}
use Rattle.bucket_ranges.specs.Ranges.{boundaries_of}
use Rattle.bucket_ranges.specs.Reading.{Histogram}
use Rattle.segment_machine.specs.declared.actor.Actor.{Actor}
use Rattle.segment_machine.specs.declared.entry.Entry.{Entry}
use Rattle.segment_machine.specs.Actor.{log_of, units_listed}
use Rattle.segment_machine.specs.Entry.{item_entry}
use Rattle.segment_promises.specs.Reads.{mark_read, units_read}
use Rattle.list_lemmas.proofs.Sums.{amounts_total}
use Rattle.segment_merge.specs.Cut.{cut_at}
use Rattle.segment_merge.specs.Follow.{AddsAll, AddsStep, IsNotedAsAdded, Step, entries_added, items_added, noted_after, sum_added, sums_added, units_added}
use Rattle.segment_merge.specs.Merge.{items_left, sum_left}
use Rattle.segment_merge.specs.Noted.{AreMarkedBy, HasRisen, marks_among, sum_among, sum_mark_among, units_among}
use Rattle.segment_merge.proofs.KeptUnits.{cut_units, read_units}

-- ---- the log

-- nothing new is no item and no sum
pub no_items : (items : List (ℤ × ℕ)) (sum : ℤ) → (not (length items == 0) || not (int_eq sum (pos 0))) ≡ false → (items ≡ []) × (int_eq sum (pos 0) ≡ true)
no_items [] sum none = (refl, no_sum (int_eq sum (pos 0)) none)
  where
    no_sum : (b : Bool) → not b ≡ false → b ≡ true
    no_sum true none = refl
    no_sum false none = absurd (cc none)
no_items (item ∷ items) sum none =
    absurd (never (length (item ∷ items) == 0) (not (int_eq sum (pos 0))) (ne_eqb (length (item ∷ items)) 0 (λ e. absurd (omega (arith, e)))) none)
  where
    never : (b c : Bool) → b ≡ false → (not b || c) ≡ false → ⊥
    never true c is none = absurd (cc is)
    never false c is none = absurd (cc none)

-- one step
logged_one : (step : Step) (a b : Actor) → AddsStep step a b → log_of b ≡ log_of a ++ entries_added step
logged_one (h, None) a b (inl (none, same)) =
    let (items, sum) = no_items (items_left h) (sum_left h) none in
    ap log_of same
    ∙ sym (ap (λ (entries : List Entry). log_of a ++ entries)
    (λ i. map (item_entry h.name (boundaries_of h.spec)) (items i) ++ (if sum i then [] else record { name = h.name; key = pos 0; units = 0; amount = sum_left h } ∷ []))
    ∙ append-nil (log_of a))
logged_one (h, None) a b (inr (new, merged)) = merged.logged ∙ ap (λ (entries : List Entry). log_of a ++ entries) (append-nil (entries_added (h, None)))
logged_one (h, Some (items, why)) a b (new, stops) =
    stops.logged ∙ ap (λ (entries : List Entry). log_of a ++ entries) (sym (append-nil (map (item_entry h.name (boundaries_of h.spec)) (take items (items_left h)))))

logged_all : (steps : List Step) (a b : Actor) → AddsAll steps a b → log_of b ≡ log_of a ++ flat_map entries_added steps
logged_all [] a b same = ap log_of same ∙ sym (append-nil (log_of a))
logged_all (step ∷ steps) a c (b, adds, rest) =
    logged_all steps b c rest
    ∙ (ap (λ (log : List Entry). log ++ flat_map entries_added steps) (logged_one step a b adds)
    ∙ append_assoc (log_of a) (entries_added step) (flat_map entries_added steps))

-- ---- what is noted

-- of one step
units_one : (step : Step) (key : ℤ) → HasRisen step.0 → units_read (noted_after step) key ≡ mark_read step.0 key + units_listed (items_added step) key
units_one (h, None) key risen = read_units key h risen
units_one (h, Some (items, why)) key risen = cut_units key h items risen

-- what is above a mark, and the mark
sum_again : (s m : ℤ) → s ≡ (m +ℤ (s -ℤ m))
sum_again s m = omega (arith, ints)

sums_one : (step : Step) → (noted_after step).sum ≡ (step.0.sum_mark +ℤ sum_added step)
sums_one (h, None) = sum_again h.sum h.sum_mark
sums_one (h, Some cut) = sym (+ℤ_idr h.sum_mark)

named : (step : Step) → (noted_after step).name ≡ step.0.name
named (h, None) = refl
named (h, Some cut) = refl

-- of one name
pub either : (b : Bool) (m n o : ℕ) → m ≡ n + o → (if b then m else 0) ≡ (if b then n else 0) + (if b then o else 0)
either true m n o is = is
either false m n o is = refl

module _ (name : List ℕ) (key : ℤ) where
  -- behind the stop
  units_behind : (hists : List Histogram) → All HasRisen hists → units_among (map (cut_at 0) hists) name key ≡ marks_among hists name key
  units_behind [] all = refl
  units_behind (h ∷ hists) all =
      let first = sum_by-cons (λ (one : Histogram). if bytes_eq one.name name then units_read one key else 0) (cut_at 0 h) (map (cut_at 0) hists) in
      let other = sum_by-cons (λ (one : Histogram). if bytes_eq one.name name then mark_read one key else 0) h hists in
      let cut : units_read (cut_at 0 h) key ≡ mark_read h key + 0 = cut_units key h 0 (All-head HasRisen h hists all) in
      let its = either (bytes_eq h.name name) (units_read (cut_at 0 h) key) (mark_read h key) 0 cut in
      let zero = either (bytes_eq h.name name) 0 0 0 refl in
      let rest = units_behind hists (All-tail HasRisen h hists all) in
      omega (arith, first, other, its, zero, rest)

  -- all of them
  units_steps : (steps : List Step) (behind : List Histogram) → All HasRisen (map (λ (step : Step). step.0) steps ++ behind)
      → units_among (map noted_after steps ++ map (cut_at 0) behind) name key
      ≡ marks_among (map (λ (step : Step). step.0) steps ++ behind) name key + units_added steps name key
  units_steps [] behind all = let rest = units_behind behind all in omega (arith, rest)
  units_steps (step ∷ steps) behind all =
      let hists : List Histogram = map (λ (one : Step). one.0) steps ++ behind in
      let first = sum_by-cons (λ (one : Histogram). if bytes_eq one.name name then units_read one key else 0) (noted_after step) (map noted_after steps ++ map (cut_at 0) behind) in
      let marks = sum_by-cons (λ (one : Histogram). if bytes_eq one.name name then mark_read one key else 0) step.0 hists in
      let added = sum_by-cons (λ (one : Step). if bytes_eq one.0.name name then units_listed (items_added one) key else 0) step steps in
      let own : (if bytes_eq (noted_after step).name name then units_read (noted_after step) key else 0)
      ≡ (if bytes_eq step.0.name name then units_read (noted_after step) key else 0) = (λ i. if bytes_eq (named step i) name then units_read (noted_after step) key else 0) in
      let its = either (bytes_eq step.0.name name) (units_read (noted_after step) key) (mark_read step.0 key) (units_listed (items_added step) key)
      (units_one step key (All-head HasRisen step.0 hists all)) in
      let rest = units_steps steps behind (All-tail HasRisen step.0 hists all) in
      omega (arith, first, marks, added, own, its, rest)

-- of four amounts the middle ones may change places
crossed : (a b c d : ℤ) → ((a +ℤ b) +ℤ (c +ℤ d)) ≡ ((a +ℤ c) +ℤ (b +ℤ d))
crossed a b c d =
    +ℤ_assoc a b (c +ℤ d)
    ∙ (ap (λ (z : ℤ). a +ℤ z) (sym (+ℤ_assoc b c d) ∙ (ap (λ (z : ℤ). z +ℤ d) (+ℤ_comm b c) ∙ +ℤ_assoc c b d))
    ∙ sym (+ℤ_assoc a c (b +ℤ d)))

module _ (name : List ℕ) where
  sums_behind : (hists : List Histogram) → sum_among (map (cut_at 0) hists) name ≡ sum_mark_among hists name
  sums_behind [] = refl
  sums_behind (h ∷ hists) =
      amounts_total (λ (one : Histogram). if bytes_eq one.name name then one.sum else pos 0) (cut_at 0 h ∷ []) (map (cut_at 0) hists)
      ∙ (ap (λ (z : ℤ). sum_mark_among (h ∷ []) name +ℤ z) (sums_behind hists)
      ∙ sym (amounts_total (λ (one : Histogram). if bytes_eq one.name name then one.sum_mark else pos 0) (h ∷ []) hists))

  sums_steps : (steps : List Step) (behind : List Histogram)
      → sum_among (map noted_after steps ++ map (cut_at 0) behind) name
      ≡ (sum_mark_among (map (λ (step : Step). step.0) steps ++ behind) name +ℤ sums_added steps name)
  sums_steps [] behind = sums_behind behind ∙ sym (+ℤ_idr (sum_mark_among behind name))
  sums_steps (step ∷ steps) behind =
      let hists : List Histogram = map (λ (one : Step). one.0) steps ++ behind in
      let its : sum_among (noted_after step ∷ []) name ≡ (sum_mark_among (step.0 ∷ []) name +ℤ sums_added (step ∷ []) name) = one_sum step in
      amounts_total (λ (one : Histogram). if bytes_eq one.name name then one.sum else pos 0) (noted_after step ∷ []) (map noted_after steps ++ map (cut_at 0) behind)
      ∙ ((λ i. its i +ℤ sums_steps steps behind i)
      ∙ (crossed (sum_mark_among (step.0 ∷ []) name) (sums_added (step ∷ []) name) (sum_mark_among hists name) (sums_added steps name)
      ∙ (λ i. sym (amounts_total (λ (one : Histogram). if bytes_eq one.name name then one.sum_mark else pos 0) (step.0 ∷ []) hists) i
      +ℤ sym (amounts_total (λ (one : Step). if bytes_eq one.0.name name then sum_added one else pos 0) (step ∷ []) steps) i)))
    where
      one_amount : (b : Bool) (m n o : ℤ) → m ≡ (n +ℤ o)
          → fold ◌+ℤ◌ (pos 0) ((if b then m else pos 0) ∷ []) ≡ (fold ◌+ℤ◌ (pos 0) ((if b then n else pos 0) ∷ []) +ℤ fold ◌+ℤ◌ (pos 0) ((if b then o else pos 0) ∷ []))
      one_amount true m n o is = +ℤ_idl m ∙ (is ∙ (λ i. sym (+ℤ_idl n) i +ℤ sym (+ℤ_idl o) i))
      one_amount false m n o is = refl

      one_sum : (step : Step) → sum_among (noted_after step ∷ []) name ≡ (sum_mark_among (step.0 ∷ []) name +ℤ sums_added (step ∷ []) name)
      one_sum (h, None) = one_amount (bytes_eq h.name name) h.sum h.sum_mark (sum_left h) (sums_one (h, None))
      one_sum (h, Some cut) = one_amount (bytes_eq h.name name) h.sum_mark h.sum_mark (pos 0) (sums_one (h, Some cut))

-- ---- together

pub noted_as_added : (noted hists : List Histogram) (steps : List Step) (behind later : List Histogram) (a b : Actor) → AreMarkedBy noted hists
    → hists ≡ map (λ step. step.0) steps ++ behind → later ≡ map noted_after steps ++ map (cut_at 0) behind → AddsAll steps a b
    → IsNotedAsAdded steps noted later a b
noted_as_added noted hists steps behind later a b by split kept adds = record {
  logged = logged_all steps a b adds;
  units = λ name key.
      let risen : All HasRisen (map (λ (step : Step). step.0) steps ++ behind) = subst (All HasRisen) split by.risen in
      let all = units_steps name key steps behind risen in
      let now = ap (λ (list : List Histogram). units_among list name key) kept in
      let before = ap (λ (list : List Histogram). marks_among list name key) split in
      let noted_is = by.units name key in
      omega (arith, all, now, before, noted_is);
  sums = λ name.
      ap (λ (list : List Histogram). sum_among list name) kept
      ∙ (sums_steps name steps behind
      ∙ ap (λ (z : ℤ). z +ℤ sums_added steps name) (ap (λ (list : List Histogram). sum_mark_among list name) (sym split) ∙ by.sums name));
}
