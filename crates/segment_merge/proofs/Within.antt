-- What is noted is no more than the reading has that was followed last.
use Rattle.std.proofs.Common.{◌≡◌, ◌∙◌, ℕ, ◌≤◌, ℤ, if◌then◌else◌, List, [], ◌∷◌, ◌++◌, map, refl, sym, ap, subst, arith}
use Rattle.std.specs.Prelude.{IsPermutation, Some, None}
use Rattle.std.specs.List.{All, Contains}
use Rattle.std.specs.Ordering.{int_eq}
use Rattle.std.proofs.lemmas.List.Elements.{All-append, All-cons, All-contains, All-head, All-nil, All-tail, Contains-append_left, Contains-append_right}
use Rattle.std.proofs.lemmas.List.Sorted.{Contains-permutation, IsPermutation-sym}
use Rattle.std.proofs.lemmas.List.Sums.{sum_by-take-le}
use Rattle.bucket_ranges.specs.Reading.{Histogram}
use Rattle.bucket_ranges.specs.Spec.{SameSpec}
use Rattle.list_lemmas.proofs.Elements.{at_from, contains_at, from_map}
use Rattle.segment_machine.specs.Actor.{units_listed}
use Rattle.segment_promises.specs.Reads.{units_read}
use Rattle.segment_merge.specs.Cut.{cut_at}
use Rattle.segment_merge.specs.Follow.{Step, noted_after}
use Rattle.segment_merge.specs.Merge.{items_left}
use Rattle.segment_merge.specs.Noted.{HasAll, HasRisen, StaysWithin, unmarked}
use Rattle.segment_merge.proofs.Fallen.{image_at}
use Rattle.segment_merge.proofs.KeptUnits.{cut_units, read_units}

-- one of these has what is noted of a histogram
abbrev pub IsNoteWithin : List Histogram → Histogram → Type 0
IsNoteWithin hists note =
    (h : Histogram) × Contains hists h × (h.name ≡ note.name) × SameSpec note.spec h.spec × ((key : ℤ) → units_read note key ≤ units_read h key)

-- a histogram has what is noted of it
cut_within : (h : Histogram) (n : ℕ) (key : ℤ) → HasRisen h → units_read (cut_at n h) key ≤ units_read h key
cut_within h n key risen =
    let cut = cut_units key h n risen in
    let whole = read_units key h risen in
    let part = sum_by-take-le (λ (count : ℤ × ℕ). if int_eq count.0 key then count.1 else 0) (items_left h) n in
    omega (arith, cut, whole, part)

note_within : (hists : List Histogram) (step : Step) → HasRisen step.0 → Contains hists step.0 → IsNoteWithin hists (noted_after step)
note_within hists (h, None) risen among = (h, among, refl, (refl, refl), λ key. omega arith)
note_within hists (h, Some (n, why)) risen among = (h, among, refl, (refl, refl), λ key. cut_within h n key risen)

steps_within : (hists : List Histogram) (steps : List Step) → All HasRisen (map (λ (step : Step). step.0) steps)
    → ((h : Histogram) → Contains (map (λ (step : Step). step.0) steps) h → Contains hists h) → All (IsNoteWithin hists) (map noted_after steps)
steps_within hists [] risen among = All-nil (IsNoteWithin hists)
steps_within hists (step ∷ steps) risen among =
    let rest : List Histogram = map (λ (one : Step). one.0) steps in
    All-cons (IsNoteWithin hists) (noted_after step) (map noted_after steps)
    (note_within hists step (All-head HasRisen step.0 rest risen) (among step.0 (0, omega arith, refl)))
    (steps_within hists steps (All-tail HasRisen step.0 rest risen) (λ h there. among h (Contains-append_right (step.0 ∷ []) rest h there)))

behind_within : (hists behind : List Histogram) → All HasRisen behind → ((h : Histogram) → Contains behind h → Contains hists h)
    → All (IsNoteWithin hists) (map (cut_at 0) behind)
behind_within hists [] risen among = All-nil (IsNoteWithin hists)
behind_within hists (h ∷ behind) risen among =
    All-cons (IsNoteWithin hists) (cut_at 0 h) (map (cut_at 0) behind)
    (h, among h (0, omega arith, refl), refl, (refl, refl), λ key. cut_within h 0 key (All-head HasRisen h behind risen))
    (behind_within hists behind (All-tail HasRisen h behind risen) (λ one there. among one (Contains-append_right (h ∷ []) behind one there)))

-- the same of the histograms without their marks
pub given_has_all : (notes given hists : List Histogram) → IsPermutation (map unmarked given) (map unmarked hists) → HasAll notes hists → HasAll notes given
given_has_all notes given hists moved all note there =
    let (h, among, named, spec, units) = all note there in
    let (i, at_i) = at_from hists h among in
    let back : Contains (map unmarked given) (unmarked h) =
    Contains-permutation (map unmarked hists) (map unmarked given) (unmarked h) (IsPermutation-sym (map unmarked given) (map unmarked hists) moved)
    (contains_at (map unmarked hists) i (unmarked h) (image_at unmarked hists i h at_i)) in
    let (j, at_j) = at_from (map unmarked given) (unmarked h) back in
    let (g, at_g, is) = from_map unmarked given j (unmarked h) at_j in (
      g,
      contains_at given j g at_g,
      ap (λ (one : Histogram). one.name) is ∙ named,
      subst (SameSpec note.spec) (sym (ap (λ (one : Histogram). one.spec) is)) spec,
      λ key.
          let less = units key in
          let same = ap (λ (one : Histogram). units_listed one.counts key) is in
          omega (arith, less, same),
    )

-- after a merge
pub merged_within : (given hists later : List Histogram) (steps : List Step) (behind : List Histogram) → IsPermutation (map unmarked given) (map unmarked hists)
    → All HasRisen hists → hists ≡ map (λ step. step.0) steps ++ behind → later ≡ map noted_after steps ++ map (cut_at 0) behind → HasAll later given
merged_within given hists later steps behind moved risen split noted_is =
    let firsts : List Histogram = map (λ (step : Step). step.0) steps in
    let all_risen : All HasRisen (firsts ++ behind) = subst (All HasRisen) split risen in
    let front : All HasRisen firsts = risen_at firsts behind all_risen in
    let back : All HasRisen behind = risen_behind firsts behind all_risen in
    let all : All (IsNoteWithin (firsts ++ behind)) (map noted_after steps ++ map (cut_at 0) behind) =
    All-append (IsNoteWithin (firsts ++ behind)) (map noted_after steps) (map (cut_at 0) behind)
    (steps_within (firsts ++ behind) steps front (λ h there. Contains-append_left firsts behind h there))
    (behind_within (firsts ++ behind) behind back (λ h there. Contains-append_right firsts behind h there)) in
    let whole : All (IsNoteWithin hists) later = subst (λ (both : List Histogram × List Histogram). All (IsNoteWithin both.0) both.1) (λ i. (sym split i, sym noted_is i)) all in
    given_has_all later given hists moved (λ note there. All-contains (IsNoteWithin hists) later note whole there)
  where
    risen_at : (front behind : List Histogram) → All HasRisen (front ++ behind) → All HasRisen front
    risen_at [] behind all = All-nil HasRisen
    risen_at (h ∷ front) behind all =
        All-cons HasRisen h front (All-head HasRisen h (front ++ behind) all) (risen_at front behind (All-tail HasRisen h (front ++ behind) all))

    risen_behind : (front behind : List Histogram) → All HasRisen (front ++ behind) → All HasRisen behind
    risen_behind [] behind all = all
    risen_behind (h ∷ front) behind all = risen_behind front behind (All-tail HasRisen h (front ++ behind) all)

-- after a skip
pub skipped_within : (given hists : List Histogram) → IsPermutation (map unmarked given) (map unmarked hists) → HasAll hists given
skipped_within given hists moved = given_has_all hists given hists moved (λ note there. (note, there, refl, (refl, refl), λ key. omega arith))

-- from one reading to the next
pub stays_within : StaysWithin
stays_within noted first second all rises note there =
    let (h, among, named, spec, units) = all note there in
    let (g, among_later, named_later, spec_later, units_later) = rises h among in (
      g,
      among_later,
      named_later ∙ named,
      (spec.0 ∙ spec_later.0, spec.1 ∙ spec_later.1),
      λ key.
          let one = units key in
          let other = units_later key in
          omega (arith, one, other),
    )
