-- What the callers of an opener and its recorders rely on: an opener is still that of its segment when it has made, lent to or joined a
-- recorder; a recorder still knows each histogram that it knew after any of its calls; and what threads give back has what each call
-- promises.
use Rattle.std.proofs.Common.{◌≡◌, ℕ, ◌<◌, List, [], ◌∷◌, All, length, slice_index_or, sym, ap, ◌∙◌, subst, arith}
use Rattle.std.proofs.lemmas.List.{length-append}
use Rattle.segment_machine.specs.declared.actor.Actor.{Actor}
use Rattle.segment_machine.specs.declared.actor.Known.{Known}
use Rattle.segment_machine.specs.Seats.{giver, joined, offering, parent}
use Rattle.live_segment.specs.declared.opener.Opener.{Opener}
use Rattle.live_segment.specs.declared.recorder.Hist.{Hist}
use Rattle.live_segment.specs.declared.recorder.state.RecorderState.{RecorderState}
use Rattle.live_segment.specs.declared.segment.Segment.{Segment}
use Rattle.live_segment.specs.Holders.{IsMadeWith, IsSameOpener, view_of_opener}
use Rattle.live_segment.specs.RecorderState.{IsSameRecorder, Knows, KnowsOn, view_of_state}
use Rattle.live_segment.specs.Rule.{IsOf}

-- it knows the same histograms
pub knows_same : (old new : RecorderState) (histogram : Hist) → IsSameRecorder old new → Knows old histogram → Knows new histogram
knows_same old new histogram same knows = subst (λ (names : List Known). histogram.index < length names) (sym same.names) knows

-- it has come to know more, if anything
pub knows_on : (old new : RecorderState) (histogram : Hist) → KnowsOn old new → Knows old histogram → Knows new histogram
knows_on old new histogram on knows =
    let (more, grown) = on.known in
    let longer = ap length grown ∙ length-append (view_of_state old).answers.names more in
    omega (arith, longer, knows)

-- ---- an opener

-- it has made a recorder
pub made_still : (segment : Segment) (old new : Opener) (units : ℕ) → IsMadeWith segment old → IsSameOpener old new
    → view_of_opener new ≡ parent (offering (view_of_opener old) units) → IsMadeWith segment new
made_still segment old new units made same view = record {
  table = same.table ∙ made.table;
  of = subst (IsOf segment.setting) (sym view) (let of = made.of in record { shape = of.shape; version = of.version; cursors = of.cursors });
}

-- it has lent one units
pub lent_still : (segment : Segment) (old new : Opener) (units : ℕ) → IsMadeWith segment old → IsSameOpener old new
    → view_of_opener new ≡ giver (view_of_opener old) units → IsMadeWith segment new
lent_still segment old new units made same view = record {
  table = same.table ∙ made.table;
  of = subst (IsOf segment.setting) (sym view) (let of = made.of in record { shape = of.shape; version = of.version; cursors = of.cursors });
}

-- it has joined one
pub joined_still : (segment : Segment) (old new : Opener) (other : Actor) → IsMadeWith segment old → IsSameOpener old new
    → view_of_opener new ≡ joined (view_of_opener old) other → IsMadeWith segment new
joined_still segment old new other made same view = record {
  table = same.table ∙ made.table;
  of = subst (IsOf segment.setting) (sym view) (let of = made.of in record { shape = of.shape; version = of.version; cursors = of.cursors });
}

-- ---- the jobs of threads

-- an element of a list that has one
element_of : {X : Type 0} (xs : List X) (k : ℕ) → k < length xs → X
element_of [] k below = absurd (omega (arith, below))
element_of (x ∷ rest) k below = x

-- all jobs have what a result needs, so all results have what it promises
pub all_results : {J X : Type 0} (P : J → Type 0) (Q : X → Type 0) (jobs : List J) (results : List X) → length results ≡ length jobs
    → ((k : ℕ) (d : J) (e : X) → k < length jobs → P (slice_index_or jobs k d) → Q (slice_index_or results k e)) → All P jobs → All Q results
all_results P Q jobs results same each all = λ k e below.
    let here : k < length jobs = omega (arith, below, same) in
    let one = element_of jobs k here in
    each k one e here (all k one here)
