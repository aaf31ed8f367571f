-- What is written for a fold is a fold.
use Rattle.std.proofs.Common.{◌≡◌, ℕ, ◌+◌, ◌≤◌, ◌<◌, true, ◌||◌, ◌==◌, ◌⊎◌, inl, inr, List, ◌++◌, ap, sym, ◌∙◌, subst, arith}
use Rattle.std.specs.List.{filter}
use Rattle.std.proofs.lemmas.Bool.{cases_lt, both_ways, or_left, false_from_ne_true}
use Rattle.recording_folders.specs.Segments.{is_same, times, is_named, unnamed}
use Rattle.recording_folders.specs.Folder.{Folder, Folds}
use Rattle.recording_folders.specs.Folding.{MayFold, folded, kept, greatest}
use Rattle.recording_folders.proofs.Counting.{same_is, named_times, times_named, times_append, filter_all, filter_le}

-- the name of a segment that is still there stays
stays : (named left : List (ℕ × ℕ)) (s : ℕ × ℕ) → is_named left s ≡ true → times s (kept named left) ≡ times s named
stays named left s stands =
    filter_all (is_same s) (λ name. is_named left name || (name.0 == greatest named))
    (λ x gone. false_from_ne_true (is_same s x) (λ same. both_ways (is_named left x || (x.0 == greatest named)) gone
    (or_left (is_named left x) (x.0 == greatest named) (ap (is_named left) (sym (same_is s x same)) ∙ stands))))
    named

other_or_added : (named left more names : List (ℕ × ℕ)) (s : ℕ × ℕ) → names ≡ kept named left ++ more → is_named names s ≡ true
    → (is_named named s ≡ true) ⊎ (0 < times s more)
other_or_added named left more names s is here =
    elim (cases_lt 0 (times s more)) [
      | inl added ↦ inr added
      | inr unlike ↦ inl (times_named named s (omega (arith, named_times names s here, ap (times s) is, times_append s (kept named left) more, filter_le (is_same s) (λ name. is_named left name || (name.0 == greatest named)) named)))
    ]

pub fold_may : (folder : Folder) (present : ℕ) (named left more : List (ℕ × ℕ)) → MayFold folder present named left more
    → (serial : ℕ) (names : List (ℕ × ℕ)) → serial ≡ present + 1 → names ≡ kept named left ++ more → Folds folder (folded folder more serial names)
fold_may folder present named left more may serial names next is = record {
  finals = more;
  names = names;
  final = λ s. subst (λ known. times s more ≤ times s (unnamed known folder.standing)) (sym may.names) (may.finals s);
  added = λ s some. times_named names s (omega (arith, ap (times s) is, times_append s (kept named left) more));
  kept = λ s was stands.
      let known : is_named named s ≡ true = ap (λ some. is_named some s) (sym may.names) ∙ was in
      times_named names s (omega (arith, ap (times s) is, times_append s (kept named left) more, stays named left s (may.standing s known stands), named_times named s known));
  no_other = λ s here. subst (λ known. (is_named known s ≡ true) ⊎ (0 < times s more)) (sym may.names) (other_or_added named left more names s is here);
  after = ap (λ n. folded folder more n names) (next ∙ ap (λ n. n + 1) (sym may.serial));
}
