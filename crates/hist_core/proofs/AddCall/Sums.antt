-- An `add` adds its amount to the sum.
use Rattle.segment_invariant.proofs.Prelude.Std.{◌≡◌, ℕ, ◌+◌, ◌%◌, ◌^◌, Bool, true, false, not, List, ◌∷◌, ◌++◌, map, refl, sym, ap, subst, ◌∙◌, slice_set, cast_unsigned, w64}
use Rattle.segment_invariant.proofs.Prelude.Machine.{Dimensions, word_at, Actor, Known, add_sum, fresh, Event, next, counting_event}
use Rattle.hist_core.proofs.AddCall.Going.{aside_still, acts_on}
use Rattle.hist_core.specs.declared.add.Add.{Add}
use Rattle.hist_core.specs.declared.add.AddStep.TheVariants.{More}
use Rattle.hist_core.specs.declared.add.AddStage.TheVariants.{Summing, Noting}
use Rattle.hist_core.specs.StepsBy.{StepsBy}
use Rattle.hist_core.specs.Add.{Amid, StandsAtStage, IsAdd, AddGives}
use Rattle.hist_core.proofs.AddCall.Counts.{next_is, changed_is}
use Rattle.hist_core.proofs.AddCall.Entries.{counting_of}

module _ (shape : Dimensions) (known : Known) (amid : Amid) (add : Add) (a : Actor) (words : List ℕ) (is : IsAdd shape known amid add a) (sums : add.stage ≡ Summing) where
  stands : StandsAtStage shape known amid add a Summing
  stands = subst (StandsAtStage shape known amid add a) sums is.stands

  abbrev event : Event
  event = counting_event (add_sum add.histogram add.amount)

  abbrev acted : Actor
  acted = next a event (word_at words (add.histogram + 11))

  pub sums_so : (new_words : List ℕ)
      → new_words ≡ slice_set words (add.histogram + 11) ((word_at words (add.histogram + 11) + cast_unsigned w64 add.amount) % 2 ^ 64)
      → StepsBy shape.size add.version a words new_words (AddGives shape known amid (record add { stage = Noting }) More a)
  sums_so new_words are = acts_on shape known amid add a is Noting words new_words event (
    stands.0,
    counting_of known add true false,
    known,
    (next_is shape known amid add a is true false stands.1, refl, stands.2),
    refl,
    is.knows,
    is.counting.reference,
    refl,
  )
      are (aside_still a acted refl refl refl refl refl refl, (refl, refl), refl) (λ learned. (
        refl,
        changed_is shape known amid add a is true false stands.1 (λ c. record c { summed = true })
            ∙ ap (λ (b : Bool). amid.before ++ counting_of known add true (not b) ∷ map fresh amid.behind) (sym stands.2),
      ))
