-- An `add` is refused: nothing was counted.
use Rattle.segment_invariant.proofs.Prelude.Std.{◌≡◌, ℕ, ℤ, ◌+◌, ◌<◌, true, false, [], ◌∷◌, ◌++◌, map, sym, ap, subst, ◌∙◌, Contains}
use Rattle.segment_invariant.proofs.Prelude.Machine.{Dimensions, Actor, Known, Seen, word_seen, fresh, Refusal}
use Rattle.segment_machine.specs.declared.actor.Done.{Done}
use Rattle.segment_machine.specs.declared.actor.Hand.{Hand}
use Rattle.segment_machine.specs.declared.actor.Segment.{Segment}
use Rattle.hist_core.specs.declared.add.Add.{Add}
use Rattle.hist_core.specs.declared.add.AddStep.TheVariants.{Refused}
use Rattle.segment_calls.specs.declared.refusal.Refusal.TheVariants as why
use Rattle.hist_core.specs.StepsBy.{DoesOnly, FrameOfStep, IsFree}
use Rattle.hist_core.specs.Add.{Amid, HasEntry, SawNeedOfBlock, FrameOfAdd, AddGives, block_words, serves_counted}
use Rattle.hist_core.specs.NewRecord.{IsCause, is_full}
use Rattle.hist_core.specs.SampleSearch.{SawNoSample}
use Rattle.hist_core.proofs.AddCall.Entries.{counting_of}

-- a step that leaves its frame leaves what no call of `add` changes
pub beside_aside : (a b : Actor) → FrameOfStep a b → FrameOfAdd a b
beside_aside a b beside = record { role = beside.role; segment = beside.segment; deltas = beside.deltas; names = beside.names; chain = beside.chain; words = beside.words }

pub refuses : (shape : Dimensions) (known : Known) (amid : Amid) (add new : Add) (a : Actor) → HasEntry known amid add a false false → (b : Actor) → FrameOfStep a b
    → (why : Refusal) → DoesOnly false (is_full why) (serves_counted known new a) a b → SawNeedOfBlock known (new.value, new.units) b → counting_of known new false false ≡ counting_of known add false false → IsFree b → IsCause why (block_words known) a b
    → AddGives shape known amid new (Refused why) a b
refuses shape known amid add new a entry b beside why does met same turns cause = (
  beside_aside a b beside,
  (beside.units, beside.entries ∙ ap (λ e. record a.entries { running = e.running }) (sym beside.entries)),
  does,
  turns,
  cause,
  ap (λ e. e.running) beside.entries ∙ entry ∙ ap (λ c. amid.before ++ c ∷ map fresh amid.behind) (sym same),
  met,
)

-- an actor that has seen the same needs the same block
pub needs_still : (known : Known) (sample : ℤ × ℕ) (a b : Actor) → b.seen ≡ a.seen → SawNeedOfBlock known sample a → SawNeedOfBlock known sample b
needs_still known sample a b seen needs = record {
  counts = λ bucketed.
      let ((word, saw, on, packs), none, met) = needs.counts bucketed in (
        (word, subst (λ (s : Seen). Contains s.singles (record { at = known.reference + 9; word = word })) (sym seen) saw, on, packs),
        subst (λ (s : Seen). Contains s.ends (known.reference + 8)) (sym seen) none,
        λ has counts saw_them. met has counts (ap (λ (s : Seen). word_seen s.words (known.reference + 8)) (sym seen) ∙ saw_them),
      );
  value = λ sparse. subst (SawNoSample known.reference sample.0) (sym seen) (needs.value sparse);
}

-- ---- why

-- it is where it was, and has done and seen the same
abbrev pub HasOnlyNoted : Actor → Actor → Type 0
HasOnlyNoted a b = (b.segment ≡ a.segment) × (b.hand ≡ a.hand) × (b.done ≡ a.done) × (b.seen ≡ a.seen)

-- why a block is refused does not depend on what is noted before and after
pub cause_noted : (cause : Refusal) (words : ℕ) (a b c d : Actor) → HasOnlyNoted a b → d.done ≡ c.done → d.seen ≡ c.seen → IsCause cause words b c → IsCause cause words a d
cause_noted why.Full words a b c d (segment, hand, done, seen) then_done then_seen (free, at, beyond, is) = (
  free,
  ap (λ (h : Hand). h.place) (sym hand) ∙ at,
  subst (λ (s : Segment). s.shape.size < free + words) segment beyond,
  then_done ∙ (is ∙ ap (λ (x : Done). record x { filled = true; lacked = x.lacked ++ free ∷ [] }) done),
)
cause_noted why.Corrupt words a b c d (segment, hand, done, seen) then_done then_seen (is, saw, more) = (
  then_done ∙ (is ∙ done),
  ap (λ (s : Seen). s.corrupt) then_seen ∙ saw,
  ap (λ (s : Seen). s.warned) then_seen ∙ (more ∙ ap (λ (s : Seen). s.warned + 1) seen),
)
cause_noted _ words a b c d from then_done then_seen none = absurd none
