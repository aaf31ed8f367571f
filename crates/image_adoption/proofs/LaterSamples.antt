-- The samples of an image that are not the first of their histogram and value.
use Rattle.std.proofs.Common.{◌≡◌, ◌≢◌, Bool, true, false, cond, ◌||◌, ◌&&◌, ◌==◌, ℕ, zero, suc, ◌<◌, ◌≤◌, ℤ, List, [], ◌∷◌, ◌++◌, All, length, get_or, take, inl, inr, ◌⊎◌, refl, sym, ap, subst, ◌∙◌, add-one, arith, below_more}
use Rattle.std.specs.Prelude.{Decides}
use Rattle.std.specs.List.{list_any}
use Rattle.std.specs.declared.cmp.Ordering.TheVariants.{Equal}
use Rattle.std.specs.Ordering.{int_cmp, is_eq}
use Rattle.std.specs.Cmp.{Equal-is}
use Rattle.std.proofs.lemmas.Cmp.{int_ranked, tied_itself, int_cmp_total}
use Rattle.std.proofs.lemmas.Bool.{cases_Bool, cases_order, eq-eqb, eqb-true}
use Rattle.std.proofs.lemmas.Bool.Decides.{Decides-eqb, Decides-like, Decides-and, not_from_Decides}
use Rattle.std.proofs.lemmas.List.{append-nil, get_or_default, get_or-take, get_or_append_left, length-take, take-append-le, take_all, take_more}
use Rattle.std.proofs.lemmas.List.Elements.{All-contains, All-nil, All-push, All-take, Contains-push}
use Rattle.std.proofs.lemmas.List.Folds.{Any-from_list_any, list_any_at}
use Rattle.std.proofs.Math.Bool.{or-false}
use Rattle.std.proofs.Math.Seq.{get_or-append_seam}
use Rattle.segment_image.specs.Blocks.{field_at}
use Rattle.segment_image.specs.declared.head.SegmentHead.{SegmentHead}
use Rattle.bucket_ranges.specs.Reading.{by_value, is_of_type, lawful_samples, sample_histogram, sample_value}
use Rattle.image_reader.specs.Later.{is_later, is_same_sample, later_samples}
use Rattle.image_reader.proofs.Gathered.{is_sample-other, samples-push, samples-same}
use Rattle.image_reader.proofs.Laters.{later-push, later-same}
use Rattle.image_reader.proofs.Marks.{list_any-push}
use Rattle.image_rules.specs.Records.{IsSample, IsSampleOf}
use Rattle.list_lemmas.proofs.Firsts.{first_there}
use Rattle.image_adoption.specs.Conditions.{AreLaterEmpty, IsEmptySample}
use Rattle.image_adoption.specs.Records.{HasNoBad}
use Rattle.image_adoption.proofs.Faultless.{read_sample}

int_ties : (x y : ℤ) → Decides (is_eq (int_cmp x y)) (x ≡ y)
int_ties x y =
    Decides-like (is_eq (int_cmp x y)) (λ tie. int_ranked x y Equal (sym tie)) (λ same. subst (λ (z : ℤ). int_cmp x z ≡ Equal) same (tied_itself int_cmp_total x))
    (Equal-is (int_cmp x y))

-- whether a record is a sample of the histogram and the value of another one
abbrev pub is_sample_like : List ℕ → ℕ → ℕ → Bool
is_sample_like words at other = is_of_type words 3 other && is_same_sample words at other

abbrev pub IsSampleLike : List ℕ → ℕ → ℕ → Type 0
IsSampleLike words at = IsSampleOf words (sample_histogram words at) (sample_value words at)

like_decides : (words : List ℕ) (at other : ℕ)
    → Decides (is_sample_like words at other) (IsSampleLike words at other)
like_decides words at other =
    Decides-like (is_sample_like words at other)
    (λ (three, same). (three, same.0, sym same.1)) (λ (three, of, value). (three, (of, sym value)))
    (Decides-and (is_of_type words 3 other) (is_same_sample words at other) (Decides-eqb (field_at words other 2) 3)
    (Decides-and (sample_histogram words other == sample_histogram words at) (is_eq (by_value words at other))
    (Decides-eqb (sample_histogram words other) (sample_histogram words at)) (int_ties (sample_value words at) (sample_value words other))))

-- ---- later samples

-- P holds of each of the first `n` records that is a sample, and not the first of its histogram and value
abbrev pub EachLater : (ℕ → Type 0) → List ℕ → List ℕ → ℕ → Type 0
EachLater P words references n =
    (k : ℕ) → k < n → field_at words (get_or references k 0) 2 ≡ 3
    → list_any (is_sample_like words (get_or references k 0)) (take k references) ≡ true → P (get_or references k 0)

module _ (words references : List ℕ) where
  -- a record that comes before is among the front
  front_found : (test : ℕ → Bool) (k f : ℕ) → f < k → k < length references → test (get_or references f 0) ≡ true → list_any test (take k references) ≡ true
  front_found test k f first below passes =
      list_any_at test (take k references) f 0 (omega (arith, length-take k references, first, below)) (ap test (get_or-take k references f 0 first) ∙ passes)

  -- if each of them counts nothing, each later sample is empty
  pub later_empty : EachLater (IsEmptySample words) words references (length references) → AreLaterEmpty words references
  later_empty nothing at first (k, below, is) three (front, behind, split, before, its) other = by_order (cases_order (length front) k)
    where
      -- the first one is at its place
      place : get_or references (length front) 0 ≡ first
      place = ap (λ (l : List ℕ). get_or l (length front) 0) split ∙ get_or-append_seam front first behind 0

      here : get_or references k 0 ≡ at
      here = get_or_default references k 0 at below ∙ is

      is_first : is_sample_like words at first ≡ true
      is_first = (like_decides words at first).1 its

      by_order : (length front ≡ k) ⊎ ((length front < k) ⊎ (k < length front)) → IsEmptySample words at
      by_order (inl same) = absurd (other (sym place ∙ (ap (λ (k : ℕ). get_or references k 0) same ∙ here)))
      by_order (inr (inl earlier)) =
          subst (IsEmptySample words) here
          (nothing k below (ap (λ (at : ℕ). field_at words at 2) here ∙ three)
          (subst (λ (x : ℕ). list_any (is_sample_like words x) (take k references) ≡ true) (sym here)
          (front_found (is_sample_like words at) k (length front) earlier below (ap (is_sample_like words at) place ∙ is_first))))
      by_order (inr (inr later)) =
          let there : get_or front k 0 ≡ at = sym (ap (λ (l : List ℕ). get_or l k 0) split ∙ get_or_append_left front (first ∷ behind) 0 k later) ∙ here in
          absurd (All-contains (λ x. ¬ (IsSampleLike words at x)) front at before (k, later, get_or_default front k at 0 later ∙ there) (three, refl, refl))

  -- if each later sample is empty, each of them counts nothing
  pub later_nothing : ((i j : ℕ) → i < j → j < length references → get_or references i 0 ≢ get_or references j 0)
      → AreLaterEmpty words references → EachLater (IsEmptySample words) words references (length references)
  later_nothing distinct empty k below three found =
      let (f, x, within, is, same) = Any-from_list_any (is_sample_like words at) (take k references) found in
      let first : f < k = omega (arith, within, length-take k references) in
      let here : get_or references f x ≡ x = sym (get_or-take k references f x first) ∙ is in
      let inside : f < length references = omega (arith, first, below) in
      let (y, its) = first_there (IsSampleLike words at) (λ x. by_test x (cases_Bool (is_sample_like words at x))) references x (f, inside, here)
      ((like_decides words at x).0 same) in
      empty at y (k, below, get_or_default references k at 0 below) three its (apart f x first inside here ((like_decides words at x).0 same) y its)
    where
      at : ℕ
      at = get_or references k 0

      by_test : (x : ℕ) → (is_sample_like words at x ≡ true) ⊎ (is_sample_like words at x ≡ false) → IsSampleLike words at x ⊎ (¬ (IsSampleLike words at x))
      by_test x (inl passes) = inl ((like_decides words at x).0 passes)
      by_test x (inr fails) = inr (not_from_Decides (is_sample_like words at x) (like_decides words at x) fails)

      -- the first one is at x or before it
      apart : (f x : ℕ) → f < k → f < length references → get_or references f x ≡ x → IsSampleLike words at x
          → (y : ℕ) → IsSample words references (sample_histogram words at) (sample_value words at) y → y ≢ at
      apart f x first inside here holds y (front, behind, split, before, its) same = by_order (cases_order (length front) k)
        where
          place : get_or references (length front) 0 ≡ y
          place = ap (λ (l : List ℕ). get_or l (length front) 0) split ∙ get_or-append_seam front y behind 0

          in_front : f < length front → ⊥
          in_front early =
              let there : get_or front f x ≡ x = sym (ap (λ (l : List ℕ). get_or l f x) split ∙ get_or_append_left front (y ∷ behind) x f early) ∙ here in
              All-contains (λ x. ¬ (IsSampleLike words at x)) front x before (f, early, there) holds

          by_order : (length front ≡ k) ⊎ ((length front < k) ⊎ (k < length front)) → ⊥
          by_order (inr (inl earlier)) = distinct (length front) k earlier below (place ∙ same)
          by_order (inr (inr later)) = in_front (omega (arith, first, later))
          by_order (inl equal) = in_front (omega (arith, first, equal))

-- ---- those that the reader finds

-- what holds of a list holds of its front, and of its last
all_front : (P : ℕ → Type 0) (xs : List ℕ) (y : ℕ) → All P (xs ++ y ∷ []) → All P xs
all_front P xs y all =
    subst (All P) (take-append-le (length xs) xs (y ∷ []) (omega arith) ∙ take_all (length xs) xs (omega arith))
    (All-take P (length xs) (xs ++ y ∷ []) all)

module _ (words : List ℕ) (head : SegmentHead) (references : List ℕ) (none : HasNoBad words head references) where
  abbrev at : ℕ → ℕ
  at k = get_or references k 0

  more : (k : ℕ) → k < length references → take (suc k) references ≡ take k references ++ at k ∷ []
  more k below = ap (λ n. take n references) (sym (add-one k)) ∙ take_more references k 0 below

  -- the samples so far are all read
  known : (x n : ℕ) → n ≤ length references
      → is_later words (lawful_samples words head (take n references), x) ≡ list_any (is_sample_like words x) (take n references)
  known x zero below = refl
  known x (suc n) below =
      let front : List ℕ = take n references in
      let here : n < length references = omega arith in
      ap (λ list. is_later words (lawful_samples words head list, x)) (more n here)
      ∙ (by_test (known x n (omega arith)) (cases_Bool (is_of_type words 3 (at n))) ∙ sym (ap (list_any (is_sample_like words x)) (more n here) ∙ list_any-push (is_sample_like words x) front (at n)))
    where
      by_test : is_later words (lawful_samples words head (take n references), x) ≡ list_any (is_sample_like words x) (take n references)
          → (is_of_type words 3 (at n) ≡ true) ⊎ (is_of_type words 3 (at n) ≡ false)
          → is_later words (lawful_samples words head (take n references ++ at n ∷ []), x)
          ≡ (list_any (is_sample_like words x) (take n references) || is_sample_like words x (at n))
      by_test so_far (inl three) =
          ap (λ samples. is_later words (samples, x)) (samples-push words head (take n references) (at n)
          (read_sample words head references none n (omega arith) (eqb-true (field_at words (at n) 2) 3 three)))
          ∙ (list_any-push (is_same_sample words x) (lawful_samples words head (take n references)) (at n)
          ∙ (λ i. so_far i || (sym three i && is_same_sample words x (at n))))
      by_test so_far (inr other) =
          ap (λ samples. is_later words (samples, x)) (samples-same words head (take n references) (at n) (is_sample-other words head (take n references) (at n) other))
          ∙ (so_far ∙ (sym (or-false (list_any (is_sample_like words x) (take n references)))
          ∙ ap (λ b. list_any (is_sample_like words x) (take n references) || (b && is_same_sample words x (at n))) (sym other)))

  -- one more record that is no sample, and one that is
  told_other : (n : ℕ) → n < length references → is_of_type words 3 (at n) ≡ false
      → later_samples words head (take (suc n) references) ≡ later_samples words head (take n references)
  told_other n below other =
      ap (later_samples words head) (more n below)
      ∙ later-same words head (take n references) (at n)
      (samples-same words head (take n references) (at n) (is_sample-other words head (take n references) (at n) other))

  told_sample : (n : ℕ) (later : Bool) → n < length references → is_of_type words 3 (at n) ≡ true
      → list_any (is_sample_like words (at n)) (take n references) ≡ later
      → later_samples words head (take (suc n) references) ≡ later_samples words head (take n references) ++ cond later (at n ∷ []) []
  told_sample n later below three is =
      ap (later_samples words head) (more n below)
      ∙ (later-push words head (take n references) (at n) (read_sample words head references none n below (eqb-true (field_at words (at n) 2) 3 three))
      ∙ ap (λ b. later_samples words head (take n references) ++ cond b (at n ∷ []) []) (known (at n) n (omega arith) ∙ is))

  -- what holds of each later sample holds of those that the reader finds
  pub all_told : (P : ℕ → Type 0) (n : ℕ) → n ≤ length references → EachLater P words references n → All P (later_samples words head (take n references))
  all_told P zero below each = All-nil P
  all_told P (suc n) below each =
      by_test (all_told P n (omega arith) (λ k under. each k (omega (arith, under)))) (cases_Bool (is_of_type words 3 (at n))) (cases_Bool (list_any (is_sample_like words (at n)) (take n references)))
    where
      by_test : All P (later_samples words head (take n references)) → (is_of_type words 3 (at n) ≡ true) ⊎ (is_of_type words 3 (at n) ≡ false)
          → (list_any (is_sample_like words (at n)) (take n references) ≡ true) ⊎ (list_any (is_sample_like words (at n)) (take n references) ≡ false)
          → All P (later_samples words head (take (suc n) references))
      by_test so_far (inl three) (inl later) =
          subst (All P) (sym (told_sample n true (omega arith) three later))
          (All-push P (later_samples words head (take n references)) (at n) so_far (each n (omega arith) (eqb-true (field_at words (at n) 2) 3 three) later))
      by_test so_far (inl three) (inr first) =
          subst (All P) (sym (told_sample n false (omega arith) three first ∙ append-nil (later_samples words head (take n references)))) so_far
      by_test so_far (inr other) either = subst (All P) (sym (told_other n (omega arith) other)) so_far

  -- and the other way round
  pub told_each : (P : ℕ → Type 0) (n : ℕ) → n ≤ length references → All P (later_samples words head (take n references)) → EachLater P words references n
  told_each P zero below all = λ k under three later. absurd (omega (arith, under))
  told_each P (suc n) below all = λ k under.
      below_more (λ k. field_at words (at k) 2 ≡ 3 → list_any (is_sample_like words (at k)) (take k references) ≡ true → P (at k)) n
      (told_each P n (omega arith) (so_far (cases_Bool (is_of_type words 3 (at n))) (cases_Bool (list_any (is_sample_like words (at n)) (take n references)))))
      (λ three later. All-contains P (later_samples words head (take n references) ++ at n ∷ []) (at n)
      (subst (All P) (told_sample n true (omega arith) (type_is three) later) all)
      (Contains-push (later_samples words head (take n references)) (at n)))
      k (omega (arith, under))
    where
      type_is : field_at words (at n) 2 ≡ 3 → is_of_type words 3 (at n) ≡ true
      type_is three = eq-eqb (field_at words (at n) 2) 3 three

      so_far : (is_of_type words 3 (at n) ≡ true) ⊎ (is_of_type words 3 (at n) ≡ false)
          → (list_any (is_sample_like words (at n)) (take n references) ≡ true) ⊎ (list_any (is_sample_like words (at n)) (take n references) ≡ false)
          → All P (later_samples words head (take n references))
      so_far (inl three) (inl later) =
          all_front P (later_samples words head (take n references)) (at n) (subst (All P) (told_sample n true (omega arith) three later) all)
      so_far (inl three) (inr first) =
          subst (All P) (told_sample n false (omega arith) three first ∙ append-nil (later_samples words head (take n references))) all
      so_far (inr other) either = subst (All P) (told_other n (omega arith) other) all
