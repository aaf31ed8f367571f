-- The first record of a name, or sample of a value, at the last moment was the first at an earlier one too, if it was on the list then.
use Rattle.segment_invariant.proofs.Prelude.Std.{◌≡◌, ℕ, ◌+◌, ◌-◌, ◌≤◌, ℤ, List, ◌++◌, take, length, refl, sym, ap, subst, ◌∙◌, arith, none, first_longer}
use Rattle.segment_invariant.proofs.Prelude.Machine.{Spec}
use Rattle.segment_invariant.proofs.Prelude.Invariant.{Record, Sample, Listed, histogram, sample, HasRecord, HasSample, IsFirst, IsFirstOf}
use Rattle.std.proofs.Math.Seq.{take-append-add}
use Rattle.segment_invariant.specs.Seen.{IsRecordNamed, IsValued}
use Rattle.segment_invariant.proofs.Blocks.Pieces.{one_stands}
use Rattle.segment_invariant.proofs.Consistency.Books.{one_first}
use Rattle.segment_invariant.proofs.Consistency.Firsts.{first_there, first_value_there, record_of_first}
use Rattle.segment_invariant.proofs.Counting.AddSample.{one_sample}
use Rattle.segment_invariant.proofs.Frames.LaidOut.{laid_out}
use Rattle.look_promises.proofs.Moments.Runs.{Run, kept_at, rises_at}

-- the first of a name on a list is the first on each longer one
pub first_on : (front all more : List Listed) → all ≡ front ++ more → (name : List ℕ) (kind : Spec) (x : ℕ) → IsFirst front name kind x → IsFirst all name kind x
first_on front all more longer name kind x its =
    subst (λ (records : List Listed). IsFirst records name kind x) (sym longer) (first_longer (IsRecordNamed name) front more _ its)

-- so is the first of a value
pub value_on : (front all more : List Listed) → all ≡ front ++ more → (of : ℕ) (value : ℤ) (x : ℕ) → IsFirstOf front of value x → IsFirstOf all of value x
value_on front all more longer of value x its =
    subst (λ (records : List Listed). IsFirstOf records of value x) (sym longer) (first_longer (IsValued of value) front more _ its)

-- and a part that is taken of a longer list, if it is long enough
pub take_on : (front all behind : List Listed) (n : ℕ) → all ≡ front ++ behind → length front ≤ n → (more : List Listed) × (take n all ≡ front ++ more)
take_on front all behind n longer enough =
    let k : ℕ = n - length front in
    let split : n ≡ length front + k = omega (arith, enough) in
    (take k behind, ap (take n) longer ∙ (ap (λ (m : ℕ). take m (front ++ behind)) split ∙ take-append-add front behind k))

module _ (run : Run) (m last x : ℕ) (le : m ≤ last) where
  open run use {shape, opened, at}

  -- the record of a histogram
  pub first_then : (q r : Record) → HasRecord (kept_at run m).anatomy.pieces x q → IsFirst (kept_at run last).anatomy.records r.name r.spec x
      → q.name ≡ r.name → IsFirst (kept_at run m).anatomy.records q.name q.spec x
  first_then q r was its called =
      let kept = kept_at run m in
      let after = kept_at run last in
      let (kind, place, mine) = first_there kept.anatomy.records q.name _ (kept.list.alone x (histogram q) was) (q.spec, refl) in
      let (behind, longer) = (rises_at run m last le).records in
      let later : IsFirst after.anatomy.records q.name kind place = first_on kept.anatomy.records after.anatomy.records behind longer q.name kind place mine in
      let (at_x, same) = one_first shape opened (at last) after r.name kind r.spec place x
      (subst (λ (name : List ℕ). IsFirst after.anatomy.records name kind place) called later) its in
      let here : IsFirst kept.anatomy.records q.name kind x = subst (λ (place : ℕ). IsFirst kept.anatomy.records q.name kind place) at_x mine in
      let (p, (stands, named, specified)) = record_of_first shape opened (at m).words (laid_out shape opened (at m) kept) q.name kind x here in
      let one : p ≡ q = cc (one_stands shape (at m).words kept.anatomy kept.shown x none none (histogram p) (histogram q) stands was).1 in
      subst (λ (kind : Spec). IsFirst kept.anatomy.records q.name kind x) (sym specified ∙ ap (λ (p : Record). p.spec) one) here

  -- a sample
  pub value_then : (t : Sample) → HasSample (kept_at run m).anatomy.pieces x t → IsFirstOf (kept_at run last).anatomy.records t.of t.value x
      → IsFirstOf (kept_at run m).anatomy.records t.of t.value x
  value_then t was its =
      let kept = kept_at run m in
      let after = kept_at run last in
      let (place, mine) = first_value_there kept.anatomy.records t.of t.value _ (kept.list.alone x (sample t) was) refl in
      let (behind, longer) = (rises_at run m last le).records in
      let later : IsFirstOf after.anatomy.records t.of t.value place = value_on kept.anatomy.records after.anatomy.records behind longer t.of t.value place mine in
      subst (IsFirstOf kept.anatomy.records t.of t.value) (one_sample after.anatomy.records t.of t.value place x later its) mine
