-- What the words of a kept state read as once all recorders are joined.
use Rattle.segment_invariant.proofs.Prelude.Std.{◌≡◌, ◌≢◌, Bool, true, false, ◌||◌, ◌==◌, ℕ, suc, ◌+◌, ℤ, List, [], ◌∷◌, map, fold, ⊎_elim, refl, sym, ap, subst, ◌∙◌, arith, Contains, eqb-true, eqb-false, All-contains, some, some-injective, some-ne-none, get_elem?}
use Rattle.segment_invariant.proofs.Prelude.Machine.{Dimensions, Spec, SameSpec, Histogram, Reading, Entry, Actor, Known, Portion, tally_units, tally_sum, tally_noted, taken_units, taken_sum, purse, State}
use Rattle.segment_invariant.proofs.Prelude.Invariant.{Anatomy, moving_at, IsFirst, IsRightlyKnown, Invariant}
use Rattle.std.proofs.Math.Bool.{or-false}
use Rattle.segment_machine.specs.Actor.{all_owed}
use Rattle.segment_machine.specs.Reached.{IsJoined}
use Rattle.segment_invariant.specs.Ledger.{all_moving}
use Rattle.segment_invariant.proofs.Lists.FewTerms.{sum_none}
use Rattle.segment_invariant.proofs.Consistency.Books.{one_first}
use Rattle.segment_promises.specs.Reads.{noted_at_opening, ReadsNames, ReadsUnits, ReadsAmounts, ReadsAnswers, ReadsLog, JoinedReads}
use Rattle.segment_promises.proofs.Readings.Stopped.{stopped_reads}
use Rattle.segment_promises.proofs.Joined.{opener_is, others_spent, gathered, fits, all_is_log, all_is_taken}

-- ---- the flags of all actors

-- if none of some actors has a flag, all together have what was there
none_set : (f : Actor → Bool) (b : Bool) (l : List Actor) → ((k : ℕ) (c : Actor) → get_elem? l k ≡ some c → f c ≡ false) → fold ◌||◌ b (map f l) ≡ b
none_set f b [] none = refl
none_set f b (c ∷ rest) none =
    ap (λ (set : Bool). fold ◌||◌ set (map f rest)) (ap (λ (set : Bool). b || set) (none 0 c refl) ∙ or-false b)
    ∙ none_set f b rest (λ k d there. none (suc k) d there)

module _ (shape : Dimensions) (opened : Anatomy) (state : State) (a : Actor) (kept : Invariant shape opened state) (joins : IsJoined state a) where
  -- a flag is set if the opener has set it
  flag_is : (f : Actor → Bool) → ((units : ℕ) → f (purse units) ≡ false) → fold ◌||◌ false (map f state.actors) ≡ f a
  flag_is f unset = of_opener state.actors joins.0 (others_spent shape opened state a kept joins)
    where
      of_opener : (l : List Actor) → get_elem? l 0 ≡ some a → ((k : ℕ) (c : Actor) → get_elem? l k ≡ some c → k ≢ 0 → c ≡ purse c.units.share) → fold ◌||◌ false (map f l) ≡ f a
      of_opener [] first others = absurd (some-ne-none a (sym first))
      of_opener (c ∷ rest) first others =
          none_set f (f c) rest (λ k d there. ap f (others (suc k) d there (λ e. omega (arith, e))) ∙ unset d.units.share) ∙ ap f (some-injective c a first)

  -- nothing is in transit
  none_moves : (name : List ℕ) (key : ℤ) → all_moving name key state.actors ≡ 0
  none_moves name key = sum_none (λ (c : Actor). moving_at c name key c.hand.place) state.actors (λ who c there _. by_place who c there (who == 0) (eqb-true who 0) (eqb-false who 0))
    where
      by_place : (who : ℕ) (c : Actor) → get_elem? state.actors who ≡ some c → (b : Bool) → (b ≡ true → who ≡ 0) → (b ≡ false → who ≢ 0)
          → moving_at c name key c.hand.place ≡ 0
      by_place who c there true first other =
          let its : kept.roles.opener ≡ c = some-injective _ _ (sym kept.roles.stands ∙ (ap (get_elem? state.actors) (sym (first refl)) ∙ there)) in
          ap (moving_at c name key) (sym (ap (λ (c : Actor). c.hand.place) its) ∙ kept.roles.idle)
      by_place who c there false first other = ap (λ (c : Actor). moving_at c name key c.hand.place) (others_spent shape opened state a kept joins who c there (other refl))

  -- the first record of each name was an answer
  answered : (name : List ℕ) (kind : Spec) (at : ℕ) → IsFirst kept.anatomy.records name kind at → (known : Known) × Contains a.answers.names known × (known.name ≡ name)
  answered name kind at first = ⊎_elim
      (λ (known, among, named). (known, subst (λ (l : List Known). Contains l known) (gathered shape opened state a kept joins (λ c. c.answers.names) (λ units. refl)) among, named))
      (λ owed. let mine : Known = record { name = name; spec = kind; reference = at } in
      absurd (none_owed mine (subst (λ (l : List Known). Contains l mine) owes_none owed)))
      (kept.answered name kind at first)
    where
      owes_none : all_owed state.actors ≡ []
      owes_none =
          gathered shape opened state a kept joins (λ c. c.answers.owed) (λ units. refl)
          ∙ (sym (ap (λ (c : Actor). c.answers.owed) (opener_is shape opened state a kept joins.0)) ∙ kept.roles.rests.4)

      none_owed : (known : Known) → Contains [] known → ⊥
      none_owed known (k, below, is) = omega (arith, below)

  knows : (known : Known) → Contains a.answers.names known → IsRightlyKnown kept.anatomy known
  knows known among = All-contains (IsRightlyKnown kept.anatomy) a.answers.names known (fits shape opened state a kept joins.0).names among

  -- the names that are read are those of the answers of `hist`
  answers_read : (reading : Reading) → ReadsNames kept.anatomy.records reading → ReadsAnswers a.answers.names reading
  answers_read reading names = record {
    names = λ name. (
      λ (h, there, named). let (kind, first, same) = names.given h there in
          answered name kind h.reference (subst (λ (name : List ℕ). IsFirst kept.anatomy.records name kind h.reference) named first),
      λ (known, among, named). let its = knows known among in
          names.read name its.first_spec known.reference (subst (λ (name : List ℕ). IsFirst kept.anatomy.records name its.first_spec known.reference) named its.first),
    );
    same = λ h known there among named.
        let (kind, first, same) = names.given h there in
        let its = knows known among in
        let mine = subst (λ (name : List ℕ). IsFirst kept.anatomy.records name its.first_spec known.reference) named its.first in
        let (place, equal) = one_first shape opened state kept h.name its.first_spec kind known.reference h.reference mine first in
        let given : SameSpec kind known.spec = subst (λ (kind : Spec). SameSpec kind known.spec) equal its.same in
        (place, (same.0 ∙ given.0, same.1 ∙ given.1));
    once = names.once;
  }

  -- units, sums and marks are those of the opener
  log_read : (h : Histogram) → ReadsUnits opened.version state h → ReadsAmounts opened state h → ReadsLog opened a h
  log_read h units amounts =
      let log = all_is_log shape opened state a kept joins in
      let taken = all_is_taken shape opened state a kept joins in
      record {
        units = λ key.
            let counted = units.counted key in
            let none = none_moves h.name key in
            let its = ap (λ (l : List Entry). tally_units l h.name key) log.0 in
            omega (arith, counted, none, its);
        sum = amounts.sum ∙ ap (λ (l : List Entry). tally_sum l h.name) log.1;
        redundant = amounts.redundant ∙ ap (λ (l : List Entry). noted_at_opening opened h.name + tally_noted l h.name) log.2;
        marks = λ key. amounts.marks key ∙ ap (λ (l : List Portion). taken_units l h.name key) taken;
        sum_mark = amounts.sum_mark ∙ ap (λ (l : List Portion). taken_sum l h.name) taken;
      }

pub joined_reads : JoinedReads
joined_reads shape opened state a reading kept joins is =
    let (none_bad, head, names, reads) = stopped_reads shape opened state reading kept is in (
      none_bad,
      answers_read shape opened state a kept joins reading names,
      λ h there. let (units, amounts) = reads h there in log_read shape opened state a kept joins h units amounts,
      head.id,
      head.corrupt ∙ ap (λ (set : Bool). opened.corrupt || set) (flag_is shape opened state a kept joins (λ c. c.done.spoiled) (λ units. refl)),
      head.full ∙ ap (λ (set : Bool). opened.full || set) (flag_is shape opened state a kept joins (λ c. c.done.filled) (λ units. refl)),
    )
