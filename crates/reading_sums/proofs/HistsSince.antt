-- What histograms have more than earlier ones.
use Rattle.std.proofs.Common.{◌≡◌, ◌≢◌, ◌<◌, Bool, true, false, ℕ, ◌+◌, ℤ, pos, ◌+ℤ◌, ◌⊎◌, inl, inr, List, refl, ap, sym, subst, ◌∙◌, arith}
use Rattle.std.specs.Bool.{MatchBool}
use Rattle.std.specs.Ordering.{int_cmp}
use Rattle.std.specs.List.Sorted.{IsStrictlySortedBy}
use Rattle.std.proofs.lemmas.Int.{ints}
use Rattle.bucket_ranges.specs.declared.spec.Spec.{Spec}
use Rattle.bucket_ranges.specs.declared.spec.Spec.TheVariants.{Linear, Boolean, Custom, Sparse}
use Rattle.reading_sums.specs.declared.fault.MinusFault.{MinusFault}
use Rattle.reading_sums.specs.declared.fault.MinusFault.TheVariants.{NoMemory, TooMany, Fell, OtherSpec}
use Rattle.reading_sums.specs.declared.key.KeySum.{KeySum}
use Rattle.reading_sums.specs.Keys.{units_at, marks_at}
use Rattle.reading_sums.specs.Orders.{key_cmp}
use Rattle.reading_sums.specs.Totals.Quantity.{Units, Marks, Amounts, AmountMarks, Redundant, Images}
use Rattle.reading_sums.specs.Totals.{Part, Quantity, quantity_of}
use Rattle.reading_sums.specs.Since.{AreKeysSince, HasKeyFallen, HasLess, HasSomething, MatchFault}
use Rattle.reading_sums.specs.Whole.{IsWholeList, AreBuckets, values_of}
use Rattle.reading_sums.proofs.Walk.{alike-ascend}

-- ---- one histogram

-- everything that is taken away, if the fields are
pub quantities-since : (later earlier since : Part) → AreKeysSince later.keys earlier.keys since.keys → later.sum ≡ earlier.sum +ℤ since.sum
    → later.sum_mark ≡ earlier.sum_mark +ℤ since.sum_mark → later.redundant ≡ earlier.redundant + since.redundant
    → (quantity : Quantity) → quantity ≢ Images → quantity_of quantity later ≡ quantity_of quantity earlier +ℤ quantity_of quantity since
quantities-since later earlier since keys sum mark redundant (Units key) taken = ap pos (keys.units key)
quantities-since later earlier since keys sum mark redundant (Marks key) taken = ap pos (keys.marks key)
quantities-since later earlier since keys sum mark redundant Amounts taken = sum
quantities-since later earlier since keys sum mark redundant AmountMarks taken = mark
quantities-since later earlier since keys sum mark redundant Redundant taken = ap pos redundant
quantities-since later earlier since keys sum mark redundant Images taken = absurd (taken refl)

-- a key that fell
pub less-key : (later earlier : Part) → HasKeyFallen later.keys earlier.keys → HasLess later earlier
less-key later earlier fallen =
    elim fallen.1 [
      | inl less ↦ (Units fallen.0, tt, omega (arith, ints, less))
      | inr less ↦ (Marks fallen.0, tt, omega (arith, ints, less))
    ]

-- what is said of lists holds of equal ones
pub fallen-same : (later earlier here there : List KeySum) → here ≡ later → there ≡ earlier
    → (IsStrictlySortedBy key_cmp here → IsStrictlySortedBy key_cmp there → HasKeyFallen here there)
    → IsStrictlySortedBy key_cmp later → IsStrictlySortedBy key_cmp earlier → HasKeyFallen later earlier
fallen-same later earlier here there first second fell =
    let P : List KeySum → Type 0 = λ z. IsStrictlySortedBy key_cmp z → IsStrictlySortedBy key_cmp there → HasKeyFallen z there in
    let Q : List KeySum → Type 0 = λ z. IsStrictlySortedBy key_cmp later → IsStrictlySortedBy key_cmp z → HasKeyFallen later z in
    subst Q second (subst P first fell)

-- a redundant count that fell
pub less-redundant : (later earlier : Part) → later.redundant < earlier.redundant → HasLess later earlier
less-redundant later earlier less = (Redundant, tt, omega (arith, ints, less))

-- the fault that a name fell, with the reason
pub told-fell : (fault : MinusFault) (name here : List ℕ) (many : Type 0) (reason : List ℕ → Type 0) (other : List ℕ → Type 0) → name ≡ here → reason here
    → MatchFault fault ⊥ (λ told. told ≡ name) (λ told. ⊥) → MatchFault fault many (λ told. (told ≡ here) × reason told) other
told-fell NoMemory name here many reason other is why told = tt
told-fell TooMany name here many reason other is why told = absurd told
told-fell (Fell fell) name here many reason other is why told = (told ∙ is, subst reason (sym (told ∙ is)) why)
told-fell (OtherSpec fell) name here many reason other is why told = absurd told

-- the fault that a name has another spec, with the reason
pub told-other : (fault : MinusFault) (name here : List ℕ) (many : Type 0) (fallen : List ℕ → Type 0) (reason : List ℕ → Type 0) → name ≡ here → reason here
    → MatchFault fault ⊥ (λ told. ⊥) (λ told. told ≡ name) → MatchFault fault many fallen (λ told. (told ≡ here) × reason told)
told-other NoMemory name here many fallen reason is why told = tt
told-other TooMany name here many fallen reason is why told = absurd told
told-other (Fell fell) name here many fallen reason is why told = absurd told
told-other (OtherSpec fell) name here many fallen reason is why told = (told ∙ is, subst reason (sym (told ∙ is)) why)

buckets-since : (spec : Spec) (later since : List KeySum) → values_of since ≡ values_of later → AreBuckets spec later → AreBuckets spec since
buckets-since (Linear min max n) later since same buckets = same ∙ buckets
buckets-since Boolean later since same buckets = same ∙ buckets
buckets-since (Custom values) later since same buckets = same ∙ buckets
buckets-since Sparse later since same buckets = tt

-- what a whole histogram has more than another is whole
pub whole-since : (spec copy : Spec) (later here earlier since : List KeySum) → copy ≡ spec → here ≡ later → AreKeysSince here earlier since
    → IsWholeList spec later → IsWholeList copy since
whole-since spec copy later here earlier since is same said whole =
    let keys : AreKeysSince later earlier since = subst (λ z. AreKeysSince z earlier since) same said in subst (λ s. IsWholeList s since) (sym is) record {
      lawful = whole.lawful;
      form = whole.form;
      ascending = alike-ascend int_cmp (λ (key : KeySum). key.value) since later keys.values whole.ascending;
      buckets = buckets-since spec later since keys.values whole.buckets;
      small = omega (arith, keys.fewer, whole.small);
    }

-- ---- whether there is something

nothing : (part : Part) → ((value : ℤ) → (units_at part.keys value ≡ 0) × (marks_at part.keys value ≡ 0)) → part.sum ≡ pos 0 → part.sum_mark ≡ pos 0
    → part.redundant ≡ 0 → (quantity : Quantity) → quantity ≢ Images → quantity_of quantity part ≡ pos 0
nothing part keys sum mark redundant (Units key) taken = ap pos (keys key).0
nothing part keys sum mark redundant (Marks key) taken = ap pos (keys key).1
nothing part keys sum mark redundant Amounts taken = sum
nothing part keys sum mark redundant AmountMarks taken = mark
nothing part keys sum mark redundant Redundant taken = ap pos redundant
nothing part keys sum mark redundant Images taken = absurd (taken refl)

empty-so : (part : Part) (t : Bool)
    → MatchBool t ((value : ℤ) → (units_at part.keys value ≡ 0) × (marks_at part.keys value ≡ 0)) ((value : ℤ) × ((0 < units_at part.keys value) ⊎ (0 < marks_at part.keys value)))
    → part.sum ≡ pos 0 → part.sum_mark ≡ pos 0 → part.redundant ≡ 0 → MatchBool t (¬ HasSomething part) (HasSomething part)
empty-so part true keys sum mark redundant = λ has. has.2 (nothing part keys sum mark redundant has.0 has.1)
empty-so part false keys sum mark redundant =
    elim keys.1 [
      | inl some ↦ (Units keys.0, (λ e. absurd (cc)), λ e. absurd (omega (arith, ints, e, some)))
      | inr some ↦ (Marks keys.0, (λ e. absurd (cc)), λ e. absurd (omega (arith, ints, e, some)))
    ]

-- whether a part whose amounts and redundant count are 0 has something
pub empty-part : (part : Part) (keys : List KeySum) (t : Bool) → keys ≡ part.keys
    → MatchBool t ((value : ℤ) → (units_at keys value ≡ 0) × (marks_at keys value ≡ 0)) ((value : ℤ) × ((0 < units_at keys value) ⊎ (0 < marks_at keys value)))
    → part.sum ≡ pos 0 → part.sum_mark ≡ pos 0 → part.redundant ≡ 0 → MatchBool t (¬ HasSomething part) (HasSomething part)
empty-part part keys t is are sum mark redundant =
    let P : List KeySum → Type 0 = λ z. MatchBool t ((value : ℤ) → (units_at z value ≡ 0) × (marks_at z value ≡ 0)) ((value : ℤ) × ((0 < units_at z value) ⊎ (0 < marks_at z value))) in
    empty-so part t (subst P is are) sum mark redundant
