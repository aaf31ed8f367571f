-- What a recorder lists of the samples of a sparse histogram while it walks along the list.
use Rattle.std.proofs.Common.{◌≡◌, ℕ, ℤ, List, [], ◌∷◌, ◌++◌, Option, Some, None, sym, subst}
use Rattle.std.proofs.lemmas.List.{append-nil}
use Rattle.segment_machine.specs.declared.actor.Actor.{Actor}
use Rattle.segment_machine.specs.declared.actor.Known.{Known}
use Rattle.segment_machine.specs.declared.seen.Seen.{Seen}
use Rattle.segment_machine.specs.Actor.{Sparse}
use Rattle.segment_promises.specs.Onward.{Grows}
use Rattle.segment_promises.specs.Values.{NoRepeats, ListsOf, ListsValues, listed_of}
use Rattle.segment_promises.proofs.Calls.SampleLists.{not_before}
use Rattle.segment_promises.proofs.ListedValues.{lists_on, lists_one, lists_still}
use Rattle.segment_promises.proofs.Growing.{grows_not}

module _ (known : Known) (mid : Actor) (seen : Seen) (front passed rest : List ℕ) (at : ℕ) (sparse : Sparse mid known.reference known)
    (split : mid.seen.chain ≡ front ++ known.reference ∷ (passed ++ at ∷ rest)) (once : NoRepeats mid.seen.chain) (words : seen.words ≡ mid.seen.words)
    (Does Then : ℤ → ℕ → Type 0) (does : (value : ℤ) (sample : ℕ) → Does value sample → Then value sample)
    (Had Has : ℕ → ℕ → Type 0) (has : (sample units : ℕ) → Had sample units → Has sample units) where
  pub lists_then : (listed : List (ℤ × ℕ)) (one : Option (ℤ × ℕ)) → ListsValues Does Had known.reference passed listed mid.seen
      → ListsOf Does Had known.reference at one mid → ListsValues Then Has known.reference (passed ++ at ∷ []) (listed ++ listed_of one) seen
  lists_then listed one lists of =
      lists_still mid.seen seen (subst (Grows mid.seen.words) (sym words) (grows_not mid.seen.words)) known.reference Does Then does Had Has has (passed ++ at ∷ [])
      (listed ++ listed_of one) (by one of)
    where
      by : (one : Option (ℤ × ℕ)) → ListsOf Does Had known.reference at one mid → ListsValues Does Had known.reference (passed ++ at ∷ []) (listed ++ listed_of one) mid.seen
      by None passes = subst (λ (l : List (ℤ × ℕ)). ListsValues Does Had known.reference (passed ++ at ∷ []) l mid.seen) (sym (append-nil listed))
          (lists_on Does Had known.reference mid.seen passed listed lists at passes)
      by (Some (value, units)) (saw, done, had, first) =
          lists_one Does Had known.reference mid.seen passed listed lists at value units saw done had (not_before known mid front passed rest at sparse split once Does lists.passes value saw first)
