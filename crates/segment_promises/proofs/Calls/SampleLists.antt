-- What an actor lists of the samples after the record of a sparse histogram, once it has passed them.
use Rattle.segment_invariant.proofs.Prelude.Std.{◌≡◌, ◌≢◌, ℕ, zero, suc, ◌+◌, ℤ, List, [], ◌∷◌, ◌++◌, length, slice_index, inl, inr, sym, ap, subst, ◌∙◌, arith, append_assoc, length-append, AllByRecursion, Contains, append-nil, at_from, split_at}
use Rattle.segment_invariant.proofs.Prelude.Machine.{Actor, Known, Seen, SawOther, SawSample}
use lib.Seq.{get_or-append_seam}
use Rattle.segment_machine.specs.Actor.{Sparse}
use Rattle.segment_machine.specs.Taking.{IsLaterSample}
use Rattle.segment_promises.specs.Values.{NoRepeats, ComesTo, PassesRecord, first_of}
use Rattle.segment_promises.proofs.FirstValues.{Shows, later_sample, not_both}

-- ---- the records that it passed

-- what it saw of each
shows_all : (Does : ℤ → ℕ → Type 0) (seen : Seen) (histogram : ℕ) (list : List ℕ) → AllByRecursion (PassesRecord Does seen histogram) list
    → AllByRecursion (Shows seen histogram) list
shows_all Does seen histogram [] all = all
shows_all Does seen histogram (r ∷ rest) (inl (value, saw, does), all) = (inl (value, saw), shows_all Does seen histogram rest all)
shows_all Does seen histogram (r ∷ rest) (inr none, all) = (inr none, shows_all Does seen histogram rest all)

-- on a list on which nothing occurs twice, a record is none of those before it
apart_from : (chain front passed rest : List ℕ) (histogram at : ℕ) → chain ≡ front ++ histogram ∷ (passed ++ at ∷ rest) → NoRepeats chain
    → (r : ℕ) → Contains passed r → r ≢ at
apart_from chain front passed rest histogram at split once r has same =
    let (i, there) = at_from passed r has in
    let (p, q, parts, others) = split_at passed i r there in
    let before = front ++ histogram ∷ passed in
    let sooner = front ++ histogram ∷ p in
    let second : chain ≡ before ++ at ∷ rest = split ∙ sym (append_assoc front (histogram ∷ passed) (at ∷ rest)) in
    let first : chain ≡ sooner ++ r ∷ (q ++ at ∷ rest) =
    split
    ∙ (ap (λ (l : List ℕ). front ++ histogram ∷ (l ++ at ∷ rest)) parts
    ∙ (ap (λ (l : List ℕ). front ++ histogram ∷ l) (append_assoc p (r ∷ q) (at ∷ rest)) ∙ sym (append_assoc front (histogram ∷ p) (r ∷ (q ++ at ∷ rest))))) in
    let here : slice_index chain (length sooner) ≡ r = ap (λ (l : List ℕ). slice_index l (length sooner)) first ∙ get_or-append_seam sooner r (q ++ at ∷ rest) 0 in
    let it : slice_index chain (length before) ≡ at = ap (λ (l : List ℕ). slice_index l (length before)) second ∙ get_or-append_seam before at rest 0 in
    let all : length chain ≡ length before + suc (length rest) = ap length second ∙ length-append before (at ∷ rest) in
    let long : length before ≡ length front + suc (length passed) = length-append front (histogram ∷ passed) in
    let short : length sooner ≡ length front + suc (length p) = length-append front (histogram ∷ p) in
    let more : length passed ≡ length p + suc (length q) = ap length parts ∙ length-append p (r ∷ q) in
    once (suc (length sooner)) (suc (length before)) (omega (arith, long, short, more)) (omega (arith, all)) (here ∙ (same ∙ sym it))

-- a sample that is no later one of its value is the first: none of those before it is a sample of the value
pub not_before : (known : Known) (a : Actor) (front passed rest : List ℕ) (at : ℕ) → Sparse a known.reference known
    → a.seen.chain ≡ front ++ known.reference ∷ (passed ++ at ∷ rest) → NoRepeats a.seen.chain → (Does : ℤ → ℕ → Type 0)
    → AllByRecursion (PassesRecord Does a.seen known.reference) passed → (value : ℤ) → SawSample a.seen known.reference value at → ¬ (IsLaterSample a at)
    → (other : ℕ) → Contains passed other → SawSample a.seen known.reference value other → ⊥
not_before known a front passed rest at sparse split once Does passes value saw first other there shown =
    first (later_sample a known value front passed rest at other sparse split (shows_all Does a.seen known.reference passed passes)
    (apart_from a.seen.chain front passed rest known.reference at split once) saw there shown)

-- ---- at the end of the list

-- it has passed all that it saw after the histogram's record
pub all_passed : (a : Actor) (histogram : ℕ) (passed : List ℕ) (comes : ComesTo histogram passed 12 a) → NoRepeats a.seen.chain
    → a.seen.chain ≡ comes.front ++ histogram ∷ passed
all_passed a histogram passed comes once = comes.chain ∙ by comes.behind comes.stands comes.chain
  where
    by : (behind : List ℕ) → 12 ≡ first_of behind → a.seen.chain ≡ comes.front ++ histogram ∷ (passed ++ behind)
        → comes.front ++ histogram ∷ (passed ++ behind) ≡ comes.front ++ histogram ∷ passed
    by [] stands is = ap (λ (l : List ℕ). comes.front ++ histogram ∷ l) (append-nil passed)
    by (r ∷ rest) stands is =
        let before = comes.front ++ histogram ∷ passed in
        let split : a.seen.chain ≡ before ++ r ∷ rest = is ∙ sym (append_assoc comes.front (histogram ∷ passed) (r ∷ rest)) in
        let here : slice_index a.seen.chain (length before) ≡ r =
        ap (λ (l : List ℕ). slice_index l (length before)) split ∙ get_or-append_seam before r rest 0 in
        let long : length a.seen.chain ≡ length before + suc (length rest) = ap length split ∙ length-append before (r ∷ rest) in
        absurd (once 0 (suc (length before)) (omega arith) (omega (arith, long)) (stands ∙ sym here))

-- what it did with a sample that it passed
pub did_with : (Does : ℤ → ℕ → Type 0) (seen : Seen) (histogram : ℕ) (passed : List ℕ) → AllByRecursion (PassesRecord Does seen histogram) passed
    → (value : ℤ) (sample : ℕ) → Contains passed sample → SawSample seen histogram value sample → (v : ℤ) × SawSample seen histogram v sample × Does v sample
did_with Does seen histogram [] all value sample (k, low, is) saw = absurd (omega (arith, low))
did_with Does seen histogram (r ∷ rest) (one, all) value sample (zero, low, is) saw = by one
  where
    by : PassesRecord Does seen histogram r → (v : ℤ) × SawSample seen histogram v sample × Does v sample
    by (inl (v, shown, does)) = (v, subst (SawSample seen histogram v) is shown, subst (Does v) is does)
    by (inr none) = absurd (not_both seen histogram value sample saw (subst (SawOther seen histogram value) is (none value saw.3)))
did_with Does seen histogram (r ∷ rest) (one, all) value sample (suc k, low, is) saw =
    did_with Does seen histogram rest all value sample (k, omega (arith, low), is) saw
