-- A `batch` adds its sum.
use Rattle.segment_invariant.proofs.Prelude.Std.{◌≡◌, ℕ, ◌+◌, ◌%◌, ◌^◌, Bool, true, false, not, List, [], ◌∷◌, ◌++◌, map, filter, All, refl, sym, ap, subst, ◌∙◌, ◌&&◌, slice_set, cast_unsigned, w64, map-append, All-nil, All-cons, All-append}
use Rattle.segment_invariant.proofs.Prelude.Machine.{Dimensions, word_at, Actor, Known, EntryProgress, Entry, add_sum, fresh, has_ended, Event, next, counting_event}
use Rattle.segment_machine.specs.Calls.{IsNext}
use Rattle.segment_machine.specs.Counting.{sum_next}
use Rattle.segment_machine.specs.Entry.{sum_entry}
use Rattle.hist_core.proofs.Parts.Alone.{by_event}
use Rattle.hist_core.proofs.AddCall.Going.{aside_still}
use Rattle.hist_core.specs.declared.batch.Batch.{Batch}
use Rattle.hist_core.specs.declared.batch.BatchStep.TheVariants.{Done}
use Rattle.hist_core.specs.Add.{counted_entry, ended_entry}
use Rattle.hist_core.specs.Batch.{IsBatch, SumsUp, BatchGives, serves_counted}
use Rattle.hist_core.proofs.Parts.Deeds.{does_nothing}
use Rattle.hist_core.specs.StepsBy.{StepsBy}
use Rattle.hist_core.proofs.AddCall.Entries.{only_open, only_changed}
use Rattle.hist_core.proofs.BatchCall.Entries.{ended_are, all_over, one_sum}

module _ (shape : Dimensions) (known : Known) (batch : Batch) (a : Actor) (words : List ℕ) (is : IsBatch shape known batch a) (sums : SumsUp known batch a) where
  abbrev event : Event
  event = counting_event (add_sum batch.histogram batch.sum)

  abbrev acted : Actor
  acted = next a event (word_at words (batch.histogram + 11))

  abbrev its : EntryProgress
  its = fresh (sum_entry known.name batch.sum)

  abbrev before : List EntryProgress
  before = map (ended_entry known) batch.items.items

  -- nothing of its entry is done
  waits : has_ended its ≡ false
  waits = ap (λ (b : Bool). b && true) sums.some

  its_next : IsNext a its
  its_next = ([], ap (filter (λ c. not (has_ended c))) sums.runs ∙ only_open its [] waits before (all_over known batch.items.items))

  abbrev last : EntryProgress
  last = record its { summed = true }

  then_are : acted.entries.running ≡ before ++ last ∷ []
  then_are = ap sum_next sums.runs ∙ only_changed its [] waits (λ c. record c { summed = true }) before (all_over known batch.items.items)

  pub adds_sum : (new_words : List ℕ)
      → new_words ≡ slice_set words (batch.histogram + 11) ((word_at words (batch.histogram + 11) + cast_unsigned w64 batch.sum) % 2 ^ 64)
      → StepsBy shape.size a.segment.version a words new_words (BatchGives shape known batch Done a)
  adds_sum new_words are = by_event event (sums.turns, its, known, (its_next, refl, sums.some), refl, is.knows, is.reference, refl)
      are
      (λ learned apart ordered. (
        aside_still a acted refl refl refl refl refl refl,
        (refl, refl),
        does_nothing (serves_counted known batch a) a acted refl,
        refl,
        (
          ap (map (λ (c : EntryProgress). c.entry)) then_are
              ∙ (map-append (λ (c : EntryProgress). c.entry) before (last ∷ [])
              ∙ ((λ i. ended_are known batch.items.items i ++ sum_entry known.name batch.sum ∷ [])
              ∙ ap (λ (l : List Entry). map (counted_entry known) batch.items.items ++ l) (sym (one_sum known.name batch.sum sums.some)))),
          subst (All (λ c. has_ended c ≡ true)) (sym then_are)
              (All-append (λ c. has_ended c ≡ true) before (last ∷ []) (all_over known batch.items.items)
              (All-cons (λ c. has_ended c ≡ true) last [] refl (All-nil (λ c. has_ended c ≡ true)))),
        ),
      ))
