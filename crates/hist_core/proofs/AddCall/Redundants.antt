-- An `add` adds its units to the redundant count, and its entry has ended.
use Rattle.segment_invariant.proofs.Prelude.Std.{◌≡◌, ℕ, ◌+◌, ◌%◌, ◌^◌, pos, Bool, true, false, not, List, refl, subst, ◌||◌, slice_set, int_eq}
use Rattle.segment_invariant.proofs.Prelude.Machine.{Dimensions, word_at, Actor, Known, Event, next, counting_event}
use Rattle.segment_machine.specs.Counting.{add_redundant}
use Rattle.hist_core.proofs.Parts.Alone.{by_event}
use Rattle.hist_core.proofs.AddCall.Going.{aside_still}
use Rattle.hist_core.specs.declared.add.Add.{Add}
use Rattle.hist_core.specs.declared.add.AddStep.TheVariants.{Done}
use Rattle.hist_core.specs.declared.add.AddStage.TheVariants.{Noting}
use Rattle.hist_core.specs.StepsBy.{StepsBy}
use Rattle.hist_core.specs.Add.{Amid, StandsAtStage, IsAdd, AddGives, serves_counted}
use Rattle.hist_core.proofs.Parts.Deeds.{does_nothing}
use Rattle.hist_core.proofs.AddCall.Counts.{next_is, changed_is}
use Rattle.hist_core.proofs.AddCall.Entries.{counting_of}

module _ (shape : Dimensions) (known : Known) (amid : Amid) (add : Add) (a : Actor) (words : List ℕ) (is : IsAdd shape known amid add a) (notes : add.stage ≡ Noting) where
  stands : StandsAtStage shape known amid add a Noting
  stands = subst (StandsAtStage shape known amid add a) notes is.stands

  abbrev summed : Bool
  summed = not (int_eq add.amount (pos 0))

  abbrev event : Event
  event = counting_event (add_redundant add.histogram add.units)

  abbrev acted : Actor
  acted = next a event (word_at words (add.histogram + 13))

  is_summed_so : (summed || int_eq add.amount (pos 0)) ≡ true
  is_summed_so = by (int_eq add.amount (pos 0))
    where
      by : (none : Bool) → (not none || none) ≡ true
      by true = refl
      by false = refl

  pub notes_so : (new_words : List ℕ)
      → new_words ≡ slice_set words (add.histogram + 13) ((word_at words (add.histogram + 13) + add.units) % 2 ^ 64)
      → StepsBy shape.size add.version a words new_words (AddGives shape known amid add Done a)
  notes_so new_words are = by_event event (
    stands.0,
    counting_of known add true summed,
    known,
    (next_is shape known amid add a is true summed stands.1, refl, is_summed_so),
    refl,
    is.knows,
    is.counting.reference,
    refl,
  )
      are
      (λ learned apart ordered. (
        aside_still a acted refl refl refl refl refl refl,
        (refl, refl),
        does_nothing (serves_counted known add a) a acted refl,
        refl,
        changed_is shape known amid add a is true summed stands.1 (λ c. record c { noted = true }),
      ))
