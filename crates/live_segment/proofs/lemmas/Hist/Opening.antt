-- What a recorder that opens the histogram of a record returns.
use Rattle.std.proofs.Common.{◌≡◌, ◌≢◌, ℕ, List, length, Option, Some, None, Result, Ok, Err, MatchOption, MatchResult, inl, inr, refl, sym, subst}
use mathlib.Core.Option.{some}
use lib.ListN.{get_elem?}
use Rattle.bucket_ranges.specs.declared.spec.Spec.{Spec}
use Rattle.segment_machine.specs.declared.actor.Actor.{Actor}
use Rattle.segment_machine.specs.declared.actor.Known.{Known}
use Rattle.segment_calls.specs.declared.asked.Asked.{Asked}
use Rattle.segment_calls.specs.declared.refusal.Refusal.{Refusal}
use Rattle.segment_calls.specs.declared.refusal.Refusal.TheVariants.{NoMemory}
use Rattle.segment_calls.specs.Asked.{IsAskedFor}
use Rattle.live_segment.specs.declared.recorder.Hist.{Hist}
use Rattle.live_segment.specs.Hist.Answer.{KnowsNamed, KnowsNone}
use Rattle.live_segment.specs.Hist.Opened.{IsHistogramOfRecord, OpensRecord, OpensAs, ReadsRecord}
use Rattle.live_segment.specs.Hist.Outcome.{ComesToKnow}
use Rattle.live_segment.specs.Hist.Search.{asked_at, HasSearched}
use Rattle.live_segment.proofs.lemmas.Hist.HistAnswered.{last_there, names_grew}
use Rattle.live_segment.proofs.lemmas.Hist.RecordRead.{record_stays}
use Rattle.live_segment.proofs.lemmas.Hist.NameSearch.{searched_not, searched_on}

-- by one of the name that it knew
pub opened_known : (name : List ℕ) (spec : Spec) (reference index : ℕ) (known : Known) (a : Actor) (result : Option Hist) → KnowsNamed name a index known
    → MatchOption result (known.reference ≢ reference) (λ histogram. (histogram.index ≡ index) × (known.reference ≡ reference))
    → OpensAs name spec reference a result a
opened_known name spec reference index known a None knows other = (searched_not a, inr (inl (index, known, knows, other)))
opened_known name spec reference index known a (Some histogram) (at, named) (is, same) =
    ((known, subst (λ (n : ℕ). get_elem? a.answers.names n ≡ some known) (sym is) at, named, same), inl refl)

-- by one that it has come to know
pub opened_new : (name : List ℕ) (spec : Spec) (reference : ℕ) (histogram : Hist) (asked : Asked) (a b : Actor) → KnowsNone name a
    → histogram.index ≡ length a.answers.names → IsAskedFor a.segment.shape name spec asked → ComesToKnow asked reference a b → b.done ≡ a.done
    → IsHistogramOfRecord name spec reference histogram a b
opened_new name spec reference histogram asked a b none count asks comes quiet =
    let there =
    subst (λ (l : List Known). get_elem? l (length a.answers.names) ≡ some (asked_at asked reference)) (sym (names_grew asked reference a b comes))
    (last_there a.answers.names (asked_at asked reference)) in (
      (
        asked_at asked reference,
        subst (λ (n : ℕ). get_elem? b.answers.names n ≡ some (asked_at asked reference)) (sym count) there,
        asks.named,
        refl,
      ),
      inr (inr (none, count, (asked, reference, asks, comes)), quiet),
    )

-- once it has read the record
pub opened_read : (name : List ℕ) (spec : Spec) (reference : ℕ) (a b c : Actor) (result : Option Hist) → HasSearched a b → ReadsRecord b.seen reference name spec
    → OpensAs name spec reference b result c → OpensRecord reference a result c
opened_read name spec reference a b c None searched reads (further, other) =
    (searched_on a b c searched further, inr (name, spec, record_stays b.seen c.seen further.words reference name spec reads, other))
opened_read name spec reference a b c (Some histogram) searched reads opened = (name, spec, b, searched, reads, opened)

-- and if there was no memory then
pub answered_open : (name : List ℕ) (spec : Spec) (reference : ℕ) (a b c : Actor) (result : Result (Option Hist) Refusal) → HasSearched a b
    → ReadsRecord b.seen reference name spec
    → MatchResult result (λ found. OpensAs name spec reference b found c) (λ why. (why ≡ NoMemory) × (c ≡ b))
    → MatchResult result (λ found. OpensRecord reference a found c) (λ why. (why ≡ NoMemory) × HasSearched a c)
answered_open name spec reference a b c (Ok found) searched reads opens = opened_read name spec reference a b c found searched reads opens
answered_open name spec reference a b c (Err why) searched reads (is, same) = (is, subst (HasSearched a) (sym same) searched)
