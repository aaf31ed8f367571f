-- An actor may note what a `hist` returned, if that is a histogram of the segment: what holds is kept.
use Rattle.segment_invariant.proofs.Prelude.Std.{⊎_elim, ◌≡◌, ◌≢◌, ℕ, ◌==◌, ℤ, Bool, not, List, [], ◌∷◌, ◌++◌, map, length, set, Contains, refl, sym, ap, ◌∙◌, subst, eq-eqb, arith, false, if◌then◌else◌, Option, Some, map-append, All-push, Contains-append_left, dite, some, ℕ_discrete, get_elem?, bytes_eq, filter}
use Rattle.segment_invariant.proofs.Prelude.Machine.{Dimensions, Place, Spent, Actor, Known, known_at, is_opener, State, noted}
use Rattle.segment_invariant.proofs.Prelude.Invariant.{Anatomy, moving_at, IsRightlyKnown, StandsRight, Invariant, KeptOn}
use Rattle.std.proofs.lemmas.List.Elements.{All-filter}
use Rattle.std.proofs.lemmas.Map.Made.{Contains-tail}
use Rattle.segment_invariant.proofs.Frames.Answers.{answered_knows}
use Rattle.segment_machine.specs.Note.{knows}
use Rattle.segment_invariant.specs.Ledger.{moving_of}
use Rattle.segment_invariant.specs.Invariant.{HasPublishedRecord}
use Rattle.segment_invariant.proofs.Frames.OneActor.{moves_or_not}
use Rattle.segment_invariant.proofs.Notes.Notes.{Noting, noting, noting_of, SameCounts, notes_on}
use Rattle.segment_invariant.proofs.Notes.Actors.{noting_fits, looks_anew, finals_on, calls_by}
use Rattle.segment_invariant.proofs.Notes.Begins.{takes_nothing}

-- of a histogram that it knew it knows what it knew
known_still : (list more : List Known) (histogram : ℕ) (k : Known) → Contains list k → k.reference ≡ histogram
    → known_at (list ++ more) histogram ≡ known_at list histogram
known_still [] more histogram k (i, below, is) same = absurd (omega (arith, below))
known_still (x ∷ xs) more histogram k has same = dite (ℕ_discrete x.reference histogram)
    (λ here.
    ap (λ (b : Bool). if b then Some x else known_at (xs ++ more) histogram) (eq-eqb x.reference histogram here)
    ∙ sym (ap (λ (b : Bool). if b then Some x else known_at xs histogram) (eq-eqb x.reference histogram here)))
    (λ apart. ap (λ (rest : Option Known). if x.reference == histogram then Some x else rest)
    (known_still xs more histogram k (Contains-tail x xs k (λ is. apart (ap (λ (k : Known). k.reference) is ∙ same)) has) same))

module _ (a : Actor) (known : Known) where
  abbrev knower : Noting
  knower = record (noting_of a) {
    since_singles = length a.seen.singles;
    since_counts = length a.seen.counts;
    names = a.answers.names ++ known ∷ [];
    owed = filter (λ (mine : Known). not (bytes_eq mine.name known.name)) a.answers.owed;
  }

  -- so its units on their way are those of the key that they were of
  moves_still : (shape : Dimensions) (anatomy : Anatomy) (id : ℕ) (name : List ℕ) (key : ℤ) (p : Place) → StandsRight shape anatomy id a p
      → moving_at (noting a knower) name key p ≡ moving_at a name key p
  moves_still shape anatomy id name key p right = ⊎_elim
      (λ (look, bucket, units, is).
      let looks = (subst (StandsRight shape anatomy id a) is right).0 in
      ap (moving_at (noting a knower) name key) is
      ∙ (ap (λ (k : Option Known). moving_of name key k bucket units) (known_still a.answers.names (known ∷ []) look.histogram looks.known looks.knows.0 looks.knows.1)
      ∙ sym (ap (moving_at a name key) is)))
      (λ still. still.0 (noting a knower) name key ∙ sym (still.0 a name key))
      (moves_or_not p)

  knows_counts : SameCounts a (noting a knower)
  knows_counts = record { counted = λ name key. refl; summed = λ name. refl; noted = λ name. refl; costs = λ name. omega arith; units = refl }

  pub knows_one_more : (shape : Dimensions) (opened : Anatomy) (state : State) (id : ℕ) (kept : Invariant shape opened state) → get_elem? state.actors id ≡ some a
      → is_opener a.role ≡ false → a.hand.place ≢ Spent → IsRightlyKnown kept.anatomy known
      → KeptOn shape opened kept (record state { actors = set state.actors id (noted a (knows known)) })
  knows_one_more shape opened state id kept mine records lived right =
      notes_on shape opened state kept id a mine records knower lived knows_counts (takes_nothing a knower)
      (λ name key. moves_still shape kept.anatomy id name key a.hand.place (kept.standing id a mine))
      (λ k has. Contains-append_left a.answers.names (known ∷ []) k has)
      (answered_knows kept.anatomy.records state.actors id a (noting a knower) mine known refl refl)
      (λ fit. noting_fits shape kept.anatomy state.cursors _ kept.roles.opener id a knower fit
      (All-push (IsRightlyKnown kept.anatomy) a.answers.names known fit.names right)
      (All-filter (λ (mine : Known). not (bytes_eq mine.name known.name)) (HasPublishedRecord a.done.published) a.answers.owed fit.owes)
      (calls_by kept.anatomy a knower fit.calls knows_counts fit.calls.ordered
      (λ some_run.
      let (name, cost, holds, within, named) = fit.calls.within some_run in (
        name,
        cost,
        holds,
        within,
        subst (λ (names : List (List ℕ)). Contains names name) (sym (map-append (λ (k : Known). k.name) a.answers.names (known ∷ [])))
            (Contains-append_left (map (λ (k : Known). k.name) a.answers.names) (known.name ∷ []) name named),
      ))
      fit.calls.held fit.calls.ended fit.calls.spent fit.calls.taking)
      (looks_anew kept.anatomy _ kept.roles.opener a knower (fit.looks records))
      (finals_on _ kept.roles.opener id a knower (omega arith) (λ k within. refl) (λ name k within quiet. quiet) fit.finals)
      fit.snapshots)
