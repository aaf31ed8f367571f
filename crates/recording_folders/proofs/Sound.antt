-- A sound folder stays sound, and between two reads of the same totals these do not change.
use Rattle.std.proofs.Common.{◌≡◌, ℕ, zero, suc, ◌+◌, ◌≤◌, ◌<◌, true, false, not, cond, ◌⊎◌, inl, inr, List, ◌∷◌, ◌++◌, ap, sym, ◌∙◌, subst, arith, refl}
use Rattle.std.specs.List.{filter}
use Rattle.std.proofs.lemmas.Bool.{cases_Bool, both_ways, not_from_true, not_from_false, false_from_ne_true, not-false}
use Rattle.recording_folders.specs.Segments.{is_same, times, is_named, unnamed, AreEachOnce}
use Rattle.recording_folders.specs.Folder.{Folder, IsSoundFolder, counted, Begins, Folds, Removes, Happens, IsLater}
use Rattle.recording_folders.specs.Folder.IsLater.{same, more}
use Rattle.recording_folders.proofs.Counting.{same_is, same_self, named_times, named_is_left_out, other_is_kept, times_append, times_cons_yes, times_cons_no, filter_le, filter_all}

-- what is counted is in the totals, or is there and not named
parts : (folder : Folder) (s : ℕ × ℕ) → IsSoundFolder folder → times s folder.summed + times s (unnamed folder.names folder.standing) ≡ times s folder.begun
parts folder s sound = sym (times_append s folder.summed (unnamed folder.names folder.standing)) ∙ sound.each.all s

-- a list of segments, each counted as often as it was begun, which is once
each_once : (begun sums rest : List (ℕ × ℕ)) → ((s : ℕ × ℕ) → times s sums + times s rest ≡ times s begun) → ((s : ℕ × ℕ) → times s begun ≤ 1)
    → AreEachOnce begun (sums ++ rest)
each_once begun sums rest all once = record {
  all = λ s. times_append s sums rest ∙ all s;
  once = λ s. omega (arith, times_append s sums rest, all s, once s);
}

begun_once : (folder : Folder) (s : ℕ × ℕ) → IsSoundFolder folder → times s folder.begun ≤ 1
begun_once folder s sound = omega (arith, sound.each.all s, sound.each.once s)

-- ---- a segment is begun

fresh_unnamed : (old : Folder) (n : ℕ × ℕ) → IsSoundFolder old → times n old.begun ≡ 0 → is_named old.names n ≡ false
fresh_unnamed old n sound fresh =
    false_from_ne_true (is_named old.names n) (λ named. omega (arith, parts old n sound, sound.named n named))

cons_both : (s n : ℕ × ℕ) (xs ys : List (ℕ × ℕ)) (k : ℕ) → k + times s xs ≡ times s ys → k + times s (n ∷ xs) ≡ times s (n ∷ ys)
cons_both s n xs ys k e =
    elim (cases_Bool (is_same s n)) [
      | inl alike ↦ omega (arith, times_cons_yes s n xs alike, times_cons_yes s n ys alike)
      | inr unlike ↦ omega (arith, times_cons_no s n xs unlike, times_cons_no s n ys unlike)
    ]

cons_once : (s n : ℕ × ℕ) (xs : List (ℕ × ℕ)) → times n xs ≡ 0 → times s xs ≤ 1 → times s (n ∷ xs) ≤ 1
cons_once s n xs none once =
    elim (cases_Bool (is_same s n)) [
      | inl alike ↦ omega (arith, times_cons_yes s n xs alike, ap (λ x. times x xs) (same_is s n alike))
      | inr unlike ↦ omega (arith, times_cons_no s n xs unlike)
    ]

begins_sound : (old : Folder) (n : ℕ × ℕ) → IsSoundFolder old → times n old.begun ≡ 0 → times n old.standing ≡ 0
    → IsSoundFolder (record old { standing = n ∷ old.standing; begun = n ∷ old.begun })
begins_sound old n sound fresh apart =
    let kept : unnamed old.names (n ∷ old.standing) ≡ n ∷ unnamed old.names old.standing =
    ap (λ b. cond (not b) (n ∷ unnamed old.names old.standing) (unnamed old.names old.standing)) (fresh_unnamed old n sound fresh) in
    record {
      each = each_once (n ∷ old.begun) old.summed (unnamed old.names (n ∷ old.standing))
          (λ s. ap (λ rest. times s old.summed + times s rest) kept ∙ cons_both s n (unnamed old.names old.standing) old.begun (times s old.summed) (parts old s sound))
          (λ s. cons_once s n old.begun fresh (begun_once old s sound));
      apart = λ s. cons_once s n old.standing apart (sound.apart s);
      named = sound.named;
    }

-- ---- a fold

none_since : (n : ℕ) → (0 < n → ⊥) → n ≡ 0
none_since zero unlike = refl
none_since (suc n) unlike = absurd (unlike (omega arith))

fold_part : (old new : Folder) (sound : IsSoundFolder old) (folds : Folds old new) (s : ℕ × ℕ)
    → times s (old.summed ++ folds.finals) + times s (unnamed folds.names old.standing) ≡ times s old.begun
fold_part old new sound folds s =
    let split = times_append s old.summed folds.finals in
    elim (cases_Bool (is_named folds.names s)) [
      | inl now ↦ let none = named_is_left_out folds.names old.standing s now in
          elim (cases_Bool (is_named old.names s)) [
            | inl before ↦ omega (arith, split, none, parts old s sound, folds.final s, named_is_left_out old.names old.standing s before)
            | inr before ↦ elim (folds.no_other s now) [
              | inl was ↦ absurd (both_ways (is_named old.names s) before was)
              | inr added ↦ omega (arith, split, none, parts old s sound, folds.final s, other_is_kept old.names old.standing s before, sound.apart s)
            ]
          ]
      | inr now ↦ let all = other_is_kept folds.names old.standing s now in
          let not_added : times s folds.finals ≡ 0 = none_since (times s folds.finals) (λ some. both_ways (is_named folds.names s) now (folds.added s some)) in
          elim (cases_Bool (is_named old.names s)) [
            | inl before ↦ let gone : times s old.standing ≡ 0 = none_since (times s old.standing) (λ some. both_ways (is_named folds.names s) now (folds.kept s before some)) in
                omega (arith, split, all, parts old s sound, named_is_left_out old.names old.standing s before)
            | inr before ↦ omega (arith, split, all, parts old s sound, other_is_kept old.names old.standing s before)
          ]
    ]

folds_sound : (old new : Folder) (sound : IsSoundFolder old) (folds : Folds old new)
    → IsSoundFolder (record old { serial = old.serial + 1; summed = old.summed ++ folds.finals; names = folds.names })
folds_sound old new sound folds = record {
  each = each_once old.begun (old.summed ++ folds.finals) (unnamed folds.names old.standing) (fold_part old new sound folds) (λ s. begun_once old s sound);
  apart = sound.apart;
  named = λ s now. elim (folds.no_other s now) [
    | inl was ↦ omega (arith, times_append s old.summed folds.finals, sound.named s was)
    | inr added ↦ omega (arith, times_append s old.summed folds.finals)
  ];
}

-- ---- a segment is removed

remains : (old : Folder) (r s : ℕ × ℕ) → is_named old.names r ≡ true → is_named old.names s ≡ false
    → times s (filter (λ other. not (is_same r other)) old.standing) ≡ times s old.standing
remains old r s named other =
    filter_all (is_same s) (λ x. not (is_same r x))
    (λ x left. false_from_ne_true (is_same s x) (λ same.
    both_ways (is_named old.names s) other
    (ap (is_named old.names) (same_is s x same ∙ sym (same_is r x (not-false (is_same r x) left))) ∙ named)))
    old.standing

removes_sound : (old : Folder) (r : ℕ × ℕ) → IsSoundFolder old → is_named old.names r ≡ true
    → IsSoundFolder (record old { standing = filter (λ other. not (is_same r other)) old.standing })
removes_sound old r sound named =
    let rest = filter (λ other. not (is_same r other)) old.standing in
    record {
      each = each_once old.begun old.summed (unnamed old.names rest)
          (λ s. elim (cases_Bool (is_named old.names s)) [
            | inl is ↦ omega (arith, parts old s sound, named_is_left_out old.names rest s is, named_is_left_out old.names old.standing s is)
            | inr other ↦ omega (arith, parts old s sound, other_is_kept old.names rest s other, other_is_kept old.names old.standing s other, remains old r s named other)
          ])
          (λ s. begun_once old s sound);
      apart = λ s. omega (arith, filter_le (is_same s) (λ other. not (is_same r other)) old.standing, sound.apart s);
      named = sound.named;
    }

-- ---- whatever happens

happens_sound : (old new : Folder) → IsSoundFolder old → Happens old new → IsSoundFolder new
happens_sound old new sound (inl begins) = subst IsSoundFolder (sym begins.after) (begins_sound old begins.segment sound begins.fresh begins.apart)
happens_sound old new sound (inr (inl folds)) = subst IsSoundFolder (sym folds.after) (folds_sound old new sound folds)
happens_sound old new sound (inr (inr removes)) = subst IsSoundFolder (sym removes.after) (removes_sound old removes.segment sound removes.named)

pub later_sound : (first last : Folder) → IsSoundFolder first → IsLater first last → IsSoundFolder last
later_sound first last sound same = sound
later_sound first last sound (more old new before happens) = happens_sound old last (later_sound first old sound before) happens

-- ---- the totals of one serial

-- totals are unchanged
record AreSame (first last : Folder) : Type 0 where
  names : first.names ≡ last.names
  summed : first.summed ≡ last.summed

-- while the serial is the same they are unchanged, and serials only grow
record Holds (first last : Folder) : Type 0 where
  grows : first.serial ≤ last.serial
  stay : first.serial ≡ last.serial → AreSame first last

happens_holds : (first old new : Folder) → Holds first old → Happens old new → Holds first new
happens_holds first old new holds (inl begins) = record {
  grows = omega (arith, holds.grows, ap (λ f. f.serial) begins.after);
  stay = λ e. let was = holds.stay (e ∙ ap (λ f. f.serial) begins.after) in record {
    names = was.names ∙ sym (ap (λ f. f.names) begins.after);
    summed = was.summed ∙ sym (ap (λ f. f.summed) begins.after);
  };
}
happens_holds first old new holds (inr (inl folds)) = record {
  grows = omega (arith, holds.grows, ap (λ f. f.serial) folds.after);
  stay = λ e. absurd (omega (arith, holds.grows, ap (λ f. f.serial) folds.after));
}
happens_holds first old new holds (inr (inr removes)) = record {
  grows = omega (arith, holds.grows, ap (λ f. f.serial) removes.after);
  stay = λ e. let was = holds.stay (e ∙ ap (λ f. f.serial) removes.after) in record {
    names = was.names ∙ sym (ap (λ f. f.names) removes.after);
    summed = was.summed ∙ sym (ap (λ f. f.summed) removes.after);
  };
}

later_holds : (first last : Folder) → IsLater first last → Holds first last
later_holds first last same = record { grows = omega arith; stay = λ e. record { names = refl; summed = refl } }
later_holds first last (more old new before happens) = happens_holds first old last (later_holds first old before) happens

-- if no fold wrote totals between its two reads of them, a reading counts each segment of its listing once
pub reading_counts_once : (first listed last : Folder) → IsSoundFolder first → IsLater first listed → IsLater listed last → first.serial ≡ last.serial
    → AreEachOnce listed.begun (counted first listed)
reading_counts_once first listed last sound before after serials =
    let there = later_holds first listed before in
    let same = there.stay (omega (arith, there.grows, (later_holds listed last after).grows)) in
    let summed : first.summed ≡ listed.summed = same.summed in
    let names : first.names ≡ listed.names = same.names in
    subst (λ counts. AreEachOnce listed.begun counts)
    (sym (ap (λ sums. sums ++ unnamed first.names listed.standing) summed ∙ ap (λ some. listed.summed ++ unnamed some listed.standing) names))
    (later_sound first listed sound before).each
