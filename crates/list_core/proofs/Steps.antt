-- What a step of a publish says.
use Rattle.std.proofs.Common.{◌≡◌, ◌≢◌, ℕ, ◌+◌, ◌==◌, Bool, true, false, List, length, set, inl, inr, sym, refl, ap, ◌∙◌, subst}
use Rattle.std.specs.Prelude.{Some, is_some, IfSome, if◌then◌else◌}
use lib.Seq.{set-get_or}
use Rattle.segment_image.specs.Words.{word_at}
use Rattle.alloc_core.specs.Event.{Access, spot, after}
use Rattle.list_core.specs.declared.publish.PubStep.{PubStep}
use Rattle.list_core.specs.declared.publish.PubStep.TheVariants as said
use Rattle.list_core.specs.declared.publish.PubStage.{PubStage}
use Rattle.list_core.specs.declared.publish.PubStage.TheVariants.{StoreOwnNext, LoadTail, Link, MoveTail, Published, Strayed}
use Rattle.list_core.specs.Chain.{is_reference, IsStop}
use Rattle.list_core.specs.Publish.{Publishing, load_tail, link, event_at, next_event, stage_after, stage_of_move, moved, answer, IsStep, IsStrayBy, IsReach, chain_after, PublishStands, StandsOn}
use Rattle.alloc_core.proofs.Steps.{happened}
use Rattle.list_core.proofs.Keeping.{Kept, event_keeps}

-- a step, from what its two halves say
pub is_step : (old new : Publishing) (words new_words : List ℕ) (step : PubStep) (found : ℕ) → is_some (next_event old) ≡ true
    → IfSome (next_event old) (λ event. new_words ≡ after event words) → IfSome (next_event old) (λ event. found ≡ word_at words (spot event))
    → new ≡ moved (length words) old found → step ≡ answer new.stage → IsStep old words new new_words step
is_step old new words new_words step found running changed seen moves says =
    let one = happened (next_event old) words new_words found running changed seen in
    record {
      event = one.event;
      next = one.next_is;
      words_are = one.changed;
      new_is = moves ∙ ap (moved (length words) old) one.seen;
      answers = says;
    }

-- what each answer says of the stage
more_goes : (reference : ℕ) (stage : PubStage) → answer stage ≡ said.More → is_some (event_at reference stage) ≡ true
more_goes reference StoreOwnNext e = refl
more_goes reference LoadTail e = refl
more_goes reference (Link tail) e = refl
more_goes reference (MoveTail old new linked) e = refl
more_goes reference Published e = absurd (cc e)
more_goes reference Strayed e = absurd (cc e)

done_stage : (stage : PubStage) → answer stage ≡ said.Done → stage ≡ Published
done_stage StoreOwnNext e = absurd (cc e)
done_stage LoadTail e = absurd (cc e)
done_stage (Link tail) e = absurd (cc e)
done_stage (MoveTail old new linked) e = absurd (cc e)
done_stage Published e = refl
done_stage Strayed e = absurd (cc e)

stray_stage : (stage : PubStage) → answer stage ≡ said.Stray → stage ≡ Strayed
stray_stage StoreOwnNext e = absurd (cc e)
stray_stage LoadTail e = absurd (cc e)
stray_stage (Link tail) e = absurd (cc e)
stray_stage (MoveTail old new linked) e = absurd (cc e)
stray_stage Published e = absurd (cc e)
stray_stage Strayed e = refl

pub goes_on : (p : Publishing) (step : PubStep) → step ≡ answer p.stage → step ≡ said.More → is_some (next_event p) ≡ true
goes_on p step is more = more_goes p.reference p.stage (sym is ∙ more)

-- a step keeps the list of its publish
pub step_keeps : (old new : Publishing) (words new_words chain : List ℕ) (step : PubStep) → IsStep old words new new_words step → (reach : IsReach (length words) old)
    → (on : StandsOn words chain old) → Kept words chain old on reach.from reach.ends new_words (chain_after words chain old) new.stage
step_keeps old new words new_words chain step is reach on =
    let kept = event_keeps words chain old on reach.from reach.ends old.stage is.event refl is.next in
    subst (λ (x : List ℕ × PubStage). Kept words chain old on reach.from reach.ends x.0 (chain_after words chain old) x.1)
    (λ i. (sym is.words_are i, sym (ap (λ (p : Publishing). p.stage) is.new_is) i)) kept

-- so the publish is on it, as its new stage says
pub step_stands : (old new : Publishing) (words new_words chain : List ℕ) (step : PubStep) → IsStep old words new new_words step → IsReach (length words) old
    → StandsOn words chain old → StandsOn new_words (chain_after words chain old) new
step_stands old new words new_words chain step is reach on =
    let kept = step_keeps old new words new_words chain step is reach on in
    record {
      list = kept.list;
      stands = subst (λ (r : ℕ). PublishStands new_words (chain_after words chain old) r new.stage) (sym (ap (λ (p : Publishing). p.reference) is.new_is)) kept.stands;
    }

-- and so does any other
pub other_stands : (old new other : Publishing) (words new_words chain : List ℕ) (step : PubStep) → IsStep old words new new_words step → IsReach (length words) old
    → StandsOn words chain old → StandsOn words chain other → IsReach (length words) other → other.reference ≢ old.reference
    → StandsOn new_words (chain_after words chain old) other
other_stands old new other words new_words chain step is reach on also within ne =
    let kept = step_keeps old new words new_words chain step is reach on in
    record { list = kept.list; stands = kept.others other.reference other.stage within.from ne also.stands }

-- what is published is on the chain
pub done_stop : (p : Publishing) (words chain : List ℕ) (step : PubStep) → StandsOn words chain p → step ≡ answer p.stage → step ≡ said.Done
    → IsStop chain p.reference
done_stop p words chain step on is done = subst (PublishStands words chain p.reference) (done_stage p.stage (sym is ∙ done)) on.stands

-- and none that is on a list has strayed
pub no_stray : (p : Publishing) (words chain : List ℕ) (step : PubStep) → StandsOn words chain p → step ≡ answer p.stage → step ≢ said.Stray
no_stray p words chain step on is stray = subst (PublishStands words chain p.reference) (stray_stage p.stage (sym is ∙ stray)) on.stands

tail_stray : (good : Bool) (found : ℕ) → (if good then Link found else Strayed) ≡ Strayed → good ≡ false
tail_stray true found e = absurd (cc e)
tail_stray false found e = refl

link_stray : (hit good : Bool) (tail reference found : ℕ)
    → (if hit then MoveTail tail reference true else if good then MoveTail tail found false else Strayed) ≡ Strayed → (hit ≡ false) × (good ≡ false)
link_stray true good tail reference found e = absurd (cc e)
link_stray false true tail reference found e = absurd (cc e)
link_stray false false tail reference found e = (refl, refl)

moved_else : (linked : Bool) → stage_of_move linked ≢ Strayed
moved_else true e = absurd (cc e)
moved_else false e = absurd (cc e)

stray_at : (p : Publishing) (words : List ℕ) (stage : PubStage) (event : Access) → p.stage ≡ stage → event_at p.reference stage ≡ Some event
    → stage_after (length words) p.reference (word_at words (spot event)) stage ≡ Strayed → IsStrayBy p words × (after event words ≡ words)
stray_at p words StoreOwnNext event e is to = absurd (cc to)
stray_at p words LoadTail event e is to =
    let same : event ≡ load_tail = cc is in
    let bad = tail_stray (is_reference (length words) (word_at words 8)) (word_at words 8)
    (ap (λ (v : Access). stage_after (length words) p.reference (word_at words (spot v)) LoadTail) (sym same) ∙ to) in
    (inl (e, bad), ap (λ (v : Access). after v words) same ∙ set-get_or words 8 0)
stray_at p words (Link tail) event e is to =
    let same : event ≡ link tail p.reference = cc is in
    let found : ℕ = word_at words (tail + 3) in
    let (miss, bad) = link_stray (found == 12) (is_reference (length words) found) tail p.reference found
    (ap (λ (v : Access). stage_after (length words) p.reference (word_at words (spot v)) (Link tail)) (sym same) ∙ to) in (
      inr (tail, e, bad),
      ap (λ (v : Access). after v words) same
          ∙ (ap (λ (b : Bool). set words (tail + 3) (if b then p.reference else found)) miss ∙ set-get_or words (tail + 3) 0),
    )
stray_at p words (MoveTail old new linked) event e is to = absurd (moved_else linked to)
stray_at p words Published event e is to = absurd (cc to)
stray_at p words Strayed event e is to = absurd (cc is)

-- Stray has its cause, and nothing has changed
pub stray_cause : (old new : Publishing) (words new_words : List ℕ) (step : PubStep) → IsStep old words new new_words step → step ≡ said.Stray
    → IsStrayBy old words × (new_words ≡ words)
stray_cause old new words new_words step is stray =
    let (cause, same) = stray_at old words old.stage is.event refl is.next
    (sym (ap (λ (p : Publishing). p.stage) is.new_is) ∙ stray_stage new.stage (sym is.answers ∙ stray)) in
    (cause, is.words_are ∙ same)
