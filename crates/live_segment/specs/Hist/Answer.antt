-- What a recorder's `hist` returns.
use Rattle.std.specs.Prelude.{◌≡◌, ◌≢◌, ◌⊎◌, true, ℕ, List, length, None}
use mathlib.Core.Option.{some}
use lib.ListN.{get_elem?}
use Rattle.bucket_ranges.specs.declared.spec.Spec.{Spec}
use Rattle.bucket_ranges.specs.Reading.{is_name}
use Rattle.bucket_ranges.specs.Spec.{SameSpec, spec_fault}
use Rattle.segment_image.specs.Shape.{Dimensions}
use Rattle.segment_machine.specs.declared.actor.Actor.{Actor}
use Rattle.segment_machine.specs.declared.actor.Known.{Known}
use Rattle.segment_calls.specs.declared.asked.Asked.{Asked}
use Rattle.segment_calls.specs.declared.refusal.Refusal.{Refusal}
use Rattle.segment_calls.specs.declared.refusal.Refusal.TheVariants.{NoMemory, OtherSpec}
use Rattle.segment_calls.specs.Asked.{IsAskedFor, IsRefusedFor, IsTooLarge}
use Rattle.live_segment.specs.declared.recorder.Hist.{Hist}
use Rattle.live_segment.specs.declared.recorder.KnownHistogram.{KnownHistogram}
use Rattle.live_segment.specs.Hist.Outcome.{ComesToKnow, IsHistRefusal, LooksAround}

-- ---- which it knows

-- a histogram of a name is at a place among known ones
abbrev pub IsKnownAt : List KnownHistogram → List ℕ → ℕ → Type 0
IsKnownAt list name index = (known : KnownHistogram) × (get_elem? list index ≡ some known) × (known.name.items ≡ name)

-- none of them has the name
abbrev pub NoneHasName : List KnownHistogram → List ℕ → Type 0
NoneHasName list name = (i : ℕ) (known : KnownHistogram) → get_elem? list i ≡ some known → known.name.items ≢ name

-- ---- its answer

-- a histogram of the name is among those that it knows, at a place
abbrev pub KnowsNamed : List ℕ → Actor → ℕ → Known → Type 0
KnowsNamed name a index known = (get_elem? a.answers.names index ≡ some known) × (known.name ≡ name)

-- no histogram of the name is among those that it knows
abbrev pub KnowsNone : List ℕ → Actor → Type 0
KnowsNone name a = (index : ℕ) (known : Known) → KnowsNamed name a index known → ⊥

-- no histogram of the name with the same spec is among those that it knows
abbrev pub KnowsNoSame : List ℕ → Spec → Actor → Type 0
KnowsNoSame name spec a = (index : ℕ) (known : Known) → KnowsNamed name a index known → ¬ (SameSpec known.spec spec)

-- a histogram may be asked for in a segment of a shape: name and spec are valid, and its record and its counts fit in a page
abbrev pub MayBeAsked : Dimensions → List ℕ → Spec → Type 0
MayBeAsked shape name spec = (is_name name ≡ true) × (spec_fault spec ≡ None) × ¬ (IsTooLarge shape.page name spec)

-- The answer is one that it knew, of the name and with the same spec, which may be asked for, and nothing has happened. Or it knew none of
-- the name: it has come to know the first record of the name on the list, with the spec, and that comes after what it knew.
abbrev pub IsAnsweredWith : List ℕ → Spec → Hist → Actor → Actor → Type 0
IsAnsweredWith name spec histogram old new =
    ((known : Known) × KnowsNamed name old histogram.index known × SameSpec known.spec spec × MayBeAsked old.segment.shape name spec × (new ≡ old))
    ⊎ (KnowsNone name old × (histogram.index ≡ length old.answers.names)
    × ((asked : Asked) × (reference : ℕ) × IsAskedFor old.segment.shape name spec asked × ComesToKnow asked reference old new))

-- Nothing has happened: name or spec are not valid, there was no memory and it knew none of the name with the same spec, or the record is
-- too large; or it may be asked for, and the histogram of the name that it knew has another spec. Or it knew none of the name, and has
-- looked around: the first record of the name has another spec, or none has the name and no block could be claimed. It knows no more
-- histograms then, and owes no further answer.
abbrev pub IsRefusedWith : List ℕ → Spec → Refusal → Actor → Actor → Type 0
IsRefusedWith name spec why old new =
    (IsRefusedFor old.segment.shape name spec why × (new ≡ old) × (why ≡ NoMemory → KnowsNoSame name spec old))
    ⊎ ((why ≡ OtherSpec) × ((index : ℕ) × (known : Known) × KnowsNamed name old index known × (¬ (SameSpec known.spec spec))) × MayBeAsked old.segment.shape name spec × (new ≡ old))
    ⊎ (KnowsNone name old × ((asked : Asked) × IsAskedFor old.segment.shape name spec asked × IsHistRefusal asked why old new) × LooksAround old new
    × (new.answers.owed ≡ old.answers.owed))
