-- A delta of a sparse histogram has gone through all samples: it may take of the sum, and ends.
use Rattle.std.proofs.Common.{ℕ, ◌≤◌, ℤ, true≢false, if◌then◌else◌, List, sym, ap, ◌∙◌}
use Rattle.std.specs.Ordering.{int_eq}
use Rattle.std.proofs.lemmas.List.Sorted.{All-permutation, sum_by-IsPermutation}
use Rattle.segment_machine.specs.declared.actor.Actor.{Actor}
use Rattle.segment_machine.specs.declared.actor.Known.{Known}
use Rattle.segment_machine.specs.Actor.{has_buckets}
use Rattle.segment_machine.specs.Note.{TookSample}
use Rattle.segment_promises.specs.Calls.{SamplesStandBehind}
use Rattle.segment_promises.specs.Values.{AreSorted, NoRepeats}
use Rattle.segment_promises.proofs.Calls.SampleLists.{did_with}
use Rattle.live_segment.specs.declared.segment.Segment.{Segment}
use Rattle.live_segment.specs.Delta.Outcome.{HasTaken, HasTakenSum, MayTakeSum}
use Rattle.live_segment.specs.List.IndexedValues.{ListsThrough}
use Rattle.live_segment.specs.List.Values.SampleCall.{OfDelta}
use Rattle.live_segment.specs.Steps.{Pass}
use Rattle.live_segment.proofs.lemmas.Delta.DeltaEnds.{has_kept}

module _ {segment : Segment} {known : Known} {units : List (ℤ × ℕ)} {first two : Pass} (through : ListsThrough OfDelta segment known units first two) where
  pub may_take_sum : MayTakeSum segment known two
  may_take_sum = record {
    table = through.goes.looks.seated.table;
    recorder = through.goes.looks.seated.recorder;
    free = through.goes.looks.free;
    takes = through.goes.takes;
    buckets = λ bucketed. absurd (true≢false (sym bucketed ∙ ap has_buckets through.goes.looks.sparse));
    samples = λ behind once sparse value sample met saw.
        let all = through.all behind once in
        (did_with (λ value sample. TookSample two.me.0 sample) two.me.0.seen known.reference all.passed all.lists.passes value sample
        (all.each value sample met saw) saw).2;
  }

  pub has_taken_samples : {delta : List (ℤ × ℕ)} → AreSorted units delta → SamplesStandBehind two.me.0 → NoRepeats two.me.0.seen.chain → {amount : ℤ} {new : Actor}
      → HasTakenSum known amount two.me.0 new → HasTaken known delta amount first.me.0 new
  has_taken_samples {delta} sorted behind once {amount} {new} ends =
      let lists = (through.all behind once).lists in
      has_kept known first.me.0 two.me.0 units through.gone amount new ends delta
      (record {
        ascending = sorted.ascending lists.once;
        some = All-permutation (λ (count : ℤ × ℕ). 1 ≤ count.1) units delta sorted.moved (λ k d low. (lists.firsts k d low).3);
      })
      (λ key. sum_by-IsPermutation (λ (count : ℤ × ℕ). if int_eq count.0 key then count.1 else 0) units delta sorted.moved)
