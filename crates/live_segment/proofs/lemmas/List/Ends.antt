-- A word that was found to lead to no block has been found so since any earlier state, and at any later one.
use Rattle.std.proofs.Common.{◌≡◌, ℕ, ◌+◌, Bool, true, List, [], ◌∷◌, ◌++◌, length, drop, sym, ap, subst, refl, ◌∙◌, arith}
use Rattle.std.specs.List.{Contains}
use Rattle.std.proofs.lemmas.List.{append_assoc}
use Rattle.std.proofs.lemmas.List.Elements.{Contains-append_left, Contains-append_right}
use Rattle.std.proofs.Math.Seq.{drop-append_seam}
use Rattle.list_core.specs.Walk.{stands_behind}
use Rattle.segment_machine.specs.declared.seen.Seen.{Seen}
use Rattle.segment_machine.specs.Calls.{ended}
use Rattle.segment_promises.specs.Onward.{Grows}
use Rattle.live_segment.specs.List.Ends.{FoundNone, SawAllOfList}

-- it was loaded just now
pub found_now : (old new : Seen) (word : ℕ) (none : Bool) → new.ends ≡ ended old.ends word none → none ≡ true → FoundNone word old new
found_now old new word none is end =
    subst (λ (l : List ℕ). Contains (drop (length old.ends) l) word) (sym (is ∙ ap (ended old.ends word) end))
    (subst (λ (l : List ℕ). Contains l word) (sym (drop-append_seam old.ends (word ∷ []))) (0, omega arith, refl))

module _ (a b c d : Seen) (one : Grows a.ends b.ends) (two : Grows b.ends c.ends) (three : Grows c.ends d.ends) where
  pub found_on : (word : ℕ) → FoundNone word b c → FoundNone word a d
  found_on word found =
      let (first, is_first) = one in
      let (second, is_second) = two in
      let (third, is_third) = three in
      let here : Contains second word =
      subst (λ (l : List ℕ). Contains l word) (ap (drop (length b.ends)) is_second ∙ drop-append_seam b.ends second) found in
      let all : d.ends ≡ a.ends ++ (first ++ (second ++ third)) =
      is_third ∙ (ap (λ (l : List ℕ). l ++ third) (is_second ∙ ap (λ (l : List ℕ). l ++ second) is_first)
      ∙ (append_assoc (a.ends ++ first) second third ∙ append_assoc a.ends first (second ++ third))) in
      subst (λ (l : List ℕ). Contains l word) (sym (ap (drop (length a.ends)) all ∙ drop-append_seam a.ends (first ++ (second ++ third))))
      (Contains-append_right first (second ++ third) word (Contains-append_left second third word here))

  -- and so the list that it saw was all of it
  pub all_on : d.chain ≡ c.chain → SawAllOfList b c → SawAllOfList a d
  all_on same found =
      subst (λ (l : List ℕ). FoundNone (stands_behind l + 3) a d) (sym same) (found_on (stands_behind c.chain + 3) found)
