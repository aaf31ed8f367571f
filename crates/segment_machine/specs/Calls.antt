-- What the events of several families share: what an actor has in hand and has seen, what it may do next, and what it learns.
use Rattle.std.specs.Prelude.{◌≡◌, ◌≢◌, Bool, true, false, not, ℕ, ◌+◌, ◌*◌, ◌<◌, ◌≤◌, ℤ, List, [], ◌∷◌, ◌++◌, Some, None, ◌==◌, if◌then◌else◌, Option}
use Rattle.std.specs.List.{filter, Contains}
use Rattle.bucket_ranges.specs.Spec.{buckets_of}
use Rattle.segment_image.specs.declared.layout.TheConstants.{BLOCK_HEADER, HISTOGRAM_COUNTS, HISTOGRAM_SINGLE}
use Rattle.bucket_ranges.specs.Single.{single_of}
use Rattle.segment_machine.specs.declared.entry.EntryProgress.{EntryProgress}
use Rattle.segment_machine.specs.declared.place.Look.{Look}
use Rattle.segment_machine.specs.declared.place.Place.{Place}
use Rattle.segment_machine.specs.declared.place.Place.TheVariants.{Looking, Losing, Moving, CountLoaded, Idle}
use Rattle.segment_machine.specs.declared.actor.Actor.{Actor}
use Rattle.segment_machine.specs.declared.actor.Known.{Known}
use Rattle.segment_machine.specs.declared.actor.Own.{Own}
use Rattle.segment_machine.specs.Entry.{is_counted, has_ended}
use Rattle.segment_calls.specs.Form.{is_off}
use Rattle.segment_machine.specs.Actor.{is_bound, Buckets, bucket_key, known_at, known_buckets, word_seen}
use Rattle.bucket_ranges.specs.declared.single.SingleWord.{SingleWord}
use Rattle.list_core.specs.Chain.{is_reference}
use Rattle.segment_machine.specs.declared.seen.Seen.{Seen}
use Rattle.segment_machine.specs.declared.seen.Sighting.{Sighting}

-- ---- lists of which one element changes

-- the first that passes a test, changed
abbrev pub change_first : {X : Type 0} → (X → Bool) → (X → X) → List X → List X
change_first test change [] = []
change_first test change (x ∷ rest) = if test x then change x ∷ rest else x ∷ change_first test change rest

-- the last, changed
abbrev pub change_last : {X : Type 0} → (X → X) → List X → List X
change_last change [] = []
change_last change (x ∷ []) = change x ∷ []
change_last change (x ∷ y ∷ rest) = x ∷ change_last change (y ∷ rest)

-- ---- entries

-- running entries, with a change to the one that is next, which is the first that has not ended
abbrev pub change_next : (EntryProgress → EntryProgress) → List EntryProgress → List EntryProgress
change_next change list = change_first (λ c. not (has_ended c)) change list

-- the entry that is next is counted
abbrev pub count_next : List EntryProgress → List EntryProgress
count_next list = change_next (λ c. record c { counted = true }) list

-- ---- blocks of its own

-- the block at a word, changed
abbrev pub change_own : ℕ → (Own → Own) → List Own → List Own
change_own at change list = change_first (λ own. own.at == at) change list

-- without the block at a word
abbrev pub without : ℕ → List Own → List Own
without at list = filter (λ own. not (own.at == at)) list

-- ---- what it has seen

-- one more word that was seen
abbrev pub sight : ℕ → ℕ → List Sighting
sight at word = record { at = at; word = word } ∷ []

-- a counts reference that was seen, unless it is 0: it never changes again
abbrev pub sight_counts : ℕ → ℕ → List Sighting
sight_counts histogram found = if found == 0 then [] else sight (histogram + HISTOGRAM_COUNTS) found

-- the words that led to no block when they were loaded, once one more was loaded: it led to none, or it leads to one
abbrev pub ended : List ℕ → ℕ → Bool → List ℕ
ended ends at none = if none then ends ++ at ∷ [] else ends

-- ---- places

-- nothing is loaded of a histogram
abbrev pub nothing_of : ℕ → Look
nothing_of histogram = record { histogram = histogram; single = None; counts = 0 }

-- what it has loaded, if that is of this histogram
abbrev pub same_look : Look → ℕ → Look
same_look look histogram = if look.histogram == histogram then look else nothing_of histogram

-- what an actor at this place has loaded of a histogram
abbrev pub look_of : Place → ℕ → Look
look_of (Looking look) histogram = same_look look histogram
look_of _ histogram = nothing_of histogram

-- the place after a lost block was purged, units were moved, or a mark was raised
abbrev pub back : Place → Place
back (Losing look at) = Looking look
back (Moving look bucket units) = Looking look
back (CountLoaded look bucket count) = Looking look
back (Looking look) = Looking look
back _ = Idle

-- ---- what a delta takes

-- the form of a word that it saw of a known histogram
abbrev pub form_seen : Actor → ℕ → ℕ → Option SingleWord
form_seen a histogram word = single_of a.segment.version (known_buckets (known_at a.answers.names histogram)) word

-- ---- what it may do

-- it may turn to another part of its call, or to another call
abbrev pub MayTurn : Actor → Type 0
MayTurn a = is_bound a.hand.place ≡ false

-- the running entry that is next: the first that has not ended. So of a batch each item ends before the next one begins
abbrev pub IsNext : Actor → EntryProgress → Type 0
IsNext a c = (rest : List EntryProgress) × (filter (λ c. not (has_ended c)) a.entries.running ≡ c ∷ rest)

-- the units of this entry are counted next: it is the running entry that is next, and they are not counted yet
abbrev pub CountsNext : Actor → EntryProgress → Type 0
CountsNext a c = IsNext a c × (is_counted c ≡ false)

-- a block of its own whose next is not stored yet
abbrev pub Fills : Actor → Own → Type 0
Fills a own = Contains a.hand.own own × (own.next ≡ 0)

-- a bucket of a known histogram has this key
abbrev pub IsKeyOfBucket : Known → ℕ → ℤ → Type 0
IsKeyOfBucket known bucket key = (bucket < buckets_of known.spec) × (bucket_key (Some known) bucket ≡ key)

-- it looks at a histogram with buckets whose single word, as it saw it, is not off: the counts are not in use yet
abbrev pub LooksOpen : Actor → ℕ → ℕ → Look → Known → Type 0
LooksOpen a histogram word look known =
    (a.hand.place ≡ Looking look) × (look.histogram ≡ histogram) × (look.single ≡ Some word) × (is_off word ≡ false) × Buckets a histogram known

-- an actor looks at the counts of a known histogram, whose single word it saw to be off
abbrev pub LooksOff : Actor → Look → Known → Type 0
LooksOff a look known =
    (a.hand.place ≡ Looking look) × (look.counts ≢ 0) × ((word : ℕ) × (look.single ≡ Some word) × (is_off word ≡ true))
    × Buckets a look.histogram known

-- ---- what it learns

-- the end of the list, or a record within the segment
abbrev pub IsReference : Actor → ℕ → Type 0
IsReference a found = is_reference a.segment.shape.size found ≡ true

-- a number of units
abbrev pub IsUnits : ℕ → Type 0
IsUnits found = found ≤ 4294967295

-- the counts of a histogram that it knows are within the segment
abbrev pub AreCountsOf : Actor → ℕ → ℕ → Type 0
AreCountsOf a histogram found = (known : Known) → Buckets a histogram known → found ≢ 0
    → found + (BLOCK_HEADER + 2 * buckets_of known.spec) ≤ a.segment.shape.size

-- a counts reference stays once it was seen, and is there once a single word that is off was seen
abbrev pub CountsStay : Seen → ℕ → ℕ → Type 0
CountsStay seen histogram found =
    ((counts : ℕ) → word_seen seen.words (histogram + HISTOGRAM_COUNTS) ≡ Some counts → found ≡ counts)
    × ((word : ℕ) → Contains seen.singles (record { at = histogram + HISTOGRAM_SINGLE; word = word }) → is_off word ≡ true → found ≢ 0)
