-- How workers ended together, and which of several stops is reported.
use Rattle.std.proofs.Common.{◌≡◌, ◌⊎◌, ⊎_elim, ℕ, zero, suc, ◌≤◌, List, [], ◌∷◌, map, All, Contains, inl, inr, Ok, Err, Result, refl, ap, subst, arith}
use Rattle.std.specs.Prelude.{⊤, IfErr, OnOk}
use Rattle.std.proofs.lemmas.List.Elements.{All-cons, All-tail}
use Rattle.persist_commands.specs.declared.stop.Stop.{Stop}
use Rattle.persist_commands.specs.declared.worker.Ended.{Ended}
use Rattle.persist_commands.specs.Recording.{EndedWell}
use Rattle.persist_commands.specs.Stop.{EndTogether, StopTellsWant, rank_of}

-- ---- elements

here : {X : Type 0} (x : X) (rest : List X) → Contains (x ∷ rest) x
here x rest = (0, omega arith, refl)

there : {X : Type 0} (y x : X) (rest : List X) → Contains rest x → Contains (y ∷ rest) x
there y x rest (k, below, is) = (suc k, omega (arith, below), is)

head_or_tail : {X : Type 0} (y x : X) (rest : List X) → Contains (y ∷ rest) x → (y ≡ x) ⊎ Contains rest x
head_or_tail y x rest (zero, below, is) = inl is
head_or_tail y x rest (suc k, below, is) = inr (k, omega (arith, below), is)

-- ---- stops

abbrev Outcome : Type 0
Outcome = Result ⊤ Stop

-- if some ended with a stop, they ended together with one that is reported no later
told_before : (outcomes : List Outcome) (together : Outcome) → EndTogether outcomes together → (stop : Stop) → Contains outcomes (Err stop)
    → (told : Stop) × (together ≡ Err told) × (rank_of told ≤ rank_of stop)
told_before outcomes (Ok done) well stop (k, below, is) = absurd (cc (well k (Err stop) below, is))
told_before outcomes (Err told) (met, first) stop some = (told, refl, first stop some)

-- one after another, and then others
pub told_on : (one other both : Outcome) (rest : List Outcome) (together : Outcome) → EndTogether (one ∷ other ∷ []) both → EndTogether (both ∷ rest) together
    → EndTogether (one ∷ other ∷ rest) together
told_on one other both rest (Ok done) pair all =
    let two : EndTogether (one ∷ other ∷ []) (Ok tt) = subst (EndTogether (one ∷ other ∷ [])) (all 0 both (omega arith)) pair in
    All-cons (λ (o : Outcome). o ≡ Ok tt) one (other ∷ rest) (two 0 one (omega arith))
    (All-cons (λ (o : Outcome). o ≡ Ok tt) other rest (two 1 one (omega arith)) (All-tail (λ (o : Outcome). o ≡ Ok tt) both rest all))
told_on one other both rest (Err stop) pair (met, first) =
    let of_pair : (s : Stop) → Contains (one ∷ other ∷ []) (Err s) → rank_of stop ≤ rank_of s =
    λ s some. let (told, is, least) = told_before (one ∷ other ∷ []) both pair s some in
    let most = first told (subst (Contains (both ∷ rest)) is (here both rest)) in
    omega (arith, most, least) in (
      ⊎_elim
          (λ is. among_pair (subst (EndTogether (one ∷ other ∷ [])) is pair))
          (λ behind. there one (Err stop) (other ∷ rest) (there other (Err stop) rest behind))
          (head_or_tail both (Err stop) rest met),
      λ s some.
          ⊎_elim (λ e. of_pair s (subst (Contains (one ∷ other ∷ [])) e (here one (other ∷ []))))
          (λ tail. ⊎_elim (λ e. of_pair s (there one (Err s) (other ∷ []) (subst (Contains (other ∷ [])) e (here other []))))
          (λ behind. first s (there both (Err s) rest behind))
          (head_or_tail other (Err s) rest tail))
          (head_or_tail one (Err s) (other ∷ rest) some),
    )
  where
    among_pair : EndTogether (one ∷ other ∷ []) (Err stop) → Contains (one ∷ other ∷ rest) (Err stop)
    among_pair (some, least) =
        ⊎_elim (λ e. subst (Contains (one ∷ other ∷ rest)) e (here one (other ∷ rest)))
        (λ tail. ⊎_elim (λ e. there one (Err stop) (other ∷ rest) (subst (Contains (other ∷ rest)) e (here other rest))) (λ none. absurd (omega (arith, none.1)))
        (head_or_tail other (Err stop) [] tail))
        (head_or_tail one (Err stop) (other ∷ []) some)

-- one that ended well changes nothing
pub told_behind : (rest : List Outcome) (together : Outcome) → EndTogether (Ok tt ∷ rest) together → EndTogether rest together
told_behind rest (Ok done) all = All-tail (λ (o : Outcome). o ≡ Ok tt) (Ok tt) rest all
told_behind rest (Err stop) (met, first) = (
  ⊎_elim (λ e. absurd (cc e)) (λ some. some) (head_or_tail (Ok tt) (Err stop) rest met),
  λ s some. first s (there (Ok tt) (Err s) rest some),
)

-- one alone
pub told_alone : (one : Outcome) → EndTogether (one ∷ []) one
told_alone (Ok tt) = All-cons (λ (o : Outcome). o ≡ Ok tt) (Ok tt) [] refl (λ k d below. absurd (omega (arith, below)))
told_alone (Err stop) = (
  here (Err stop) [],
  λ s some. ⊎_elim (λ e. omega (arith, ap rank_told e)) (λ none. absurd (omega (arith, none.1))) (head_or_tail (Err stop) (Err s) [] some),
)
  where
    rank_told : Outcome → ℕ
    rank_told (Ok done) = 0
    rank_told (Err s) = rank_of s

-- if workers ended together well, each has
pub all_well : (all : List Ended) → EndTogether (map (λ ended. ended.outcome) all) (Ok tt) → All EndedWell all
all_well [] well = λ k d below. absurd (omega (arith, below))
all_well (ended ∷ rest) well =
    All-cons EndedWell ended rest (well 0 ended.outcome (omega arith))
    (all_well rest (All-tail (λ (o : Outcome). o ≡ Ok tt) ended.outcome (map (λ e. e.outcome) rest) well))

pub where_well : (all : List Ended) (together : Outcome) → EndTogether (map (λ ended. ended.outcome) all) together → OnOk together (All EndedWell all)
where_well all (Ok done) well = all_well all well
where_well all (Err stop) told = tt

-- each of some that ended with a stop reports out of memory as such, and so do they together
pub tells_together : (all : List Ended) (together : Outcome) → EndTogether (map (λ ended. ended.outcome) all) together
    → All (λ (ended : Ended). IfErr ended.outcome StopTellsWant) all → IfErr together StopTellsWant
tells_together all (Ok done) well each = tt
tells_together all (Err stop) (some, first) each = among all some each
  where
    among : (all : List Ended) → Contains (map (λ (ended : Ended). ended.outcome) all) (Err stop)
        → All (λ (ended : Ended). IfErr ended.outcome StopTellsWant) all → StopTellsWant stop
    among [] some each = absurd (omega (arith, some.1))
    among (ended ∷ rest) some each =
        ⊎_elim (λ is. subst (λ (o : Outcome). IfErr o StopTellsWant) is (each 0 ended (omega arith)))
        (λ behind. among rest behind (All-tail (λ (e : Ended). IfErr e.outcome StopTellsWant) ended rest each))
        (head_or_tail ended.outcome (Err stop) (map (λ (e : Ended). e.outcome) rest) some)
