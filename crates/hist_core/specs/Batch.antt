-- A running `batch`.
use Rattle.std.specs.Prelude.{◌≡◌, true, false, ◌⊎◌, ◌&&◌, Some, ◌==◌, if◌then◌else◌, ℕ, ◌+◌, ◌-◌, ◌≤◌, ◌<◌, ⊤, ℤ, pos, List, [], ◌∷◌, ◌++◌, length, map, take, drop, sum_by, vec_len}
use Rattle.std.specs.List.{All, Contains}
use mathlib.Core.Option.{some}
use lib.ListN.{get_elem?}
use Rattle.std.specs.Ordering.{int_eq}
use Rattle.segment_image.specs.declared.layout.TheConstants.{HISTOGRAM_NAME}
use Rattle.segment_image.specs.Shape.{Dimensions}
use Rattle.alloc_core.specs.Layout.{IsShape}
use Rattle.list_core.specs.Chain.{is_reference}
use Rattle.segment_machine.specs.declared.actor.Actor.{Actor}
use Rattle.segment_machine.specs.declared.actor.Known.{Known}
use Rattle.segment_machine.specs.declared.actor.Made.TheVariants.{Sample}
use Rattle.segment_machine.specs.declared.entry.Entry.{Entry}
use Rattle.segment_machine.specs.Actor.{known_at}
use Rattle.segment_machine.specs.Calls.{MayTurn}
use Rattle.segment_machine.specs.Entry.{fresh, sum_entry, has_ended}
use Rattle.segment_machine.specs.Note.{is_untouched}
use Rattle.hist_core.specs.declared.add.Add.{Add}
use Rattle.hist_core.specs.declared.add.AddStep.{AddStep}
use Rattle.hist_core.specs.declared.add.AddStep.TheVariants as said
use Rattle.hist_core.specs.declared.batch.Batch.{Batch}
use Rattle.hist_core.specs.declared.batch.BatchStep.{BatchStep}
use Rattle.hist_core.specs.declared.batch.BatchStep.TheVariants.{More, Done, Refused}
use Rattle.hist_core.specs.Add.{Amid, IsAdd, IsCounting, FrameOfAdd, SawNeedOfBlock, StaysOpen, block_words, counted_entry, ended_entry, OpensWith}
use Rattle.hist_core.specs.NewRecord.{IsCause, is_full}
use Rattle.hist_core.specs.StepsBy.{SharedEffect, links, raises, DoesOnly, StepsBy, IsFree}

-- ---- what it counts

-- an item as a sample: its value, and how many units of it
abbrev pub sample_of : Add → ℤ × ℕ
sample_of item = (item.value, item.units)

-- the units of items
abbrev pub units_among : List Add → ℕ
units_among items = sum_by (λ item. item.units) items

-- the entry of its sum, which is left out if that is 0
abbrev pub sum_entries : List ℕ → ℤ → List Entry
sum_entries name sum = if int_eq sum (pos 0) then [] else sum_entry name sum ∷ []

-- its entries: that of each item, then that of its sum unless that is 0
abbrev pub counted_entries : Known → Batch → List Entry
counted_entries known batch = map (counted_entry known) batch.items.items ++ sum_entries known.name batch.sum

-- it counts the same, and costs as much
pub record IsSameBatch (old new : Batch) : Type 0 where
  pub histogram : new.histogram ≡ old.histogram
  pub samples : map sample_of new.items.items ≡ map sample_of old.items.items
  pub entries : (known : Known) → map (counted_entry known) new.items.items ≡ map (counted_entry known) old.items.items
  pub sum : new.sum ≡ old.sum
  pub cost : new.cost ≡ old.cost

-- An item: it counts some units of a value in a known histogram, and no amount.
pub record IsItem (shape : Dimensions) (version : ℕ) (known : Known) (item : Add) : Type 0 where
  pub counting : IsCounting shape known item
  pub versioned : version ≡ item.version
  pub amount : item.amount ≡ pos 0

-- an item that has not begun
abbrev pub ItemWaits : Dimensions → Known → Add → Type 0
ItemWaits shape known item = OpensWith shape known item item.stage

-- ---- where it is

-- the entries around that of an item: those before it have ended, and of those after it and of that of the sum nothing was done
abbrev pub amid_of : Known → Batch → List Add → List Add → Amid
amid_of known batch done rest = record {
  before = map (ended_entry known) done;
  behind = map (counted_entry known) rest ++ sum_entries known.name batch.sum;
  cost = batch.cost;
}

-- an item is being counted, those before it are counted, and those after it have not begun
pub record CountsItem (shape : Dimensions) (known : Known) (batch : Batch) (a : Actor) : Type 0 where
  pub done : List Add
  pub item : Add
  pub rest : List Add
  pub are : batch.items.items ≡ done ++ item ∷ rest
  pub added : batch.added ≡ length done
  pub left : batch.left + units_among done ≡ batch.cost
  pub waits : All (ItemWaits shape known) rest
  pub stands : IsAdd shape known (amid_of known batch done rest) item a

-- all items are counted, and its sum, which is not 0, is added next
pub record SumsUp (known : Known) (batch : Batch) (a : Actor) : Type 0 where
  pub added : batch.added ≡ length batch.items.items
  pub turns : MayTurn a
  pub some : int_eq batch.sum (pos 0) ≡ false
  pub runs : a.entries.running ≡ map (ended_entry known) batch.items.items ++ fresh (sum_entry known.name batch.sum) ∷ []

-- Its actor knows the histogram, as the only one with its reference, and has visited its record, which lies in the segment, on the list. It
-- takes nothing, and holds the units of the call, which are enough for the items.
pub record IsBatch (shape : Dimensions) (known : Known) (batch : Batch) (a : Actor) : Type 0 where
  pub reference : known.reference ≡ batch.histogram
  pub within : batch.histogram + HISTOGRAM_NAME ≤ shape.size
  pub segment : a.segment.shape ≡ shape
  pub lawful_shape : IsShape shape
  pub knows : Contains a.answers.names known
  pub alone : known_at a.answers.names known.reference ≡ Some known
  pub reach : is_reference shape.size known.reference ≡ true
  pub met : Contains a.seen.chain known.reference
  pub rests : a.deltas.taking ≡ false
  pub held : a.units.held ≡ record { name = known.name; units = batch.cost } ∷ []
  pub items : All (IsItem shape a.segment.version known) batch.items.items
  pub enough : units_among batch.items.items ≤ batch.cost
  pub stands : CountsItem shape known batch a ⊎ SumsUp known batch a

-- ---- what a step makes of its actor

-- the entries that run are these
abbrev pub RunsEntries : List Entry → Actor → Type 0
RunsEntries entries a = map (λ c. c.entry) a.entries.running ≡ entries

-- they have ended
abbrev pub EntriesHaveEnded : List Entry → Actor → Type 0
EntriesHaveEnded entries a = RunsEntries entries a × All (λ c. has_ended c ≡ true) a.entries.running

-- the first ones have ended, and none of these has added an amount; the others are untouched
pub record IsCutAt (added : ℕ) (entries : List Entry) (a : Actor) : Type 0 where
  pub runs : RunsEntries entries a
  pub ended : All (λ c. has_ended c ≡ true) (take added a.entries.running)
  pub untouched : All (λ c. is_untouched c ≡ true) (drop added a.entries.running)
  pub unsummed : All (λ c. c.summed ≡ false) (take added a.entries.running)

-- what it may do: it links a sample of the value of an item in its histogram, and raises the free pointer for a block that an item needs
abbrev pub serves_counted : Known → Batch → Actor → SharedEffect → Type 0
serves_counted known batch a (links made) = (sample : ℤ × ℕ) × Contains (map sample_of batch.items.items) sample × (made ≡ Sample batch.histogram sample.0)
serves_counted known batch a (raises words) =
    (words ≡ block_words known) × ((sample : ℤ × ℕ) × Contains (map sample_of batch.items.items) sample × SawNeedOfBlock known sample a)

-- the item after this many needs a block
abbrev pub NextNeedsBlock : Known → Batch → ℕ → Actor → Type 0
NextNeedsBlock known batch added a = (sample : ℤ × ℕ) × (get_elem? (map sample_of batch.items.items) added ≡ some sample) × SawNeedOfBlock known sample a

-- What a step says: it continues; all of it is counted; or the block that its next item needs is refused. Its actor may turn to another
-- call then.
abbrev pub BatchGives : Dimensions → Known → Batch → BatchStep → Actor → Actor → Type 0
BatchGives shape known new More a b = FrameOfAdd a b × StaysOpen a b × DoesOnly false false (serves_counted known new a) a b × IsBatch shape known new b
BatchGives shape known new Done a b = FrameOfAdd a b × StaysOpen a b × DoesOnly false false (serves_counted known new a) a b × IsFree b × EntriesHaveEnded (counted_entries known new) b
BatchGives shape known new (Refused refusal) a b =
    FrameOfAdd a b × StaysOpen a b × DoesOnly false (is_full refusal.why) (serves_counted known new a) a b × IsFree b × IsCause refusal.why (block_words known) a b × IsCutAt refusal.added (counted_entries known new) b
    × (refusal.added ≤ length new.items.items) × (new.left + units_among (take refusal.added new.items.items) ≡ new.cost) × NextNeedsBlock known new refusal.added b

-- what a step makes of the words, and of any actor that runs the call
abbrev pub BatchSteps : Batch → List ℕ → Batch → List ℕ → BatchStep → Type 0
BatchSteps old words new new_words said = (shape : Dimensions) (known : Known) (a : Actor) → length words ≡ shape.size
    → IsBatch shape known old a → StepsBy shape.size a.segment.version a words new_words (BatchGives shape known new said a)

-- a `batch` that some actor runs, in a segment of `n` words
abbrev pub IsSomeBatch : ℕ → Batch → Type 0
IsSomeBatch n batch = (shape : Dimensions) × (known : Known) × (a : Actor) × (n ≡ shape.size) × IsBatch shape known batch a

-- What a step of its next item leads to: it continues; the item is counted, and with the last one it has ended if no sum is to be added; or
-- it is refused after the items that are counted.
abbrev pub IsItemSaid : Batch → AddStep → ℕ → Batch → BatchStep → Type 0
IsItemSaid old said.More units new result = (new ≡ old) × (result ≡ More)
IsItemSaid old said.Done units new result =
    (new ≡ record old { added = old.added + 1; left = old.left - units })
    × (result ≡ (if (old.added + 1 == vec_len old.items) && int_eq old.sum (pos 0) then Done else More))
IsItemSaid old (said.Refused why) units new result = (new ≡ old) × (result ≡ Refused (record { added = old.added; why = why }))

-- if it is refused, it says how many items are counted, which are not all, and no more units are spent
abbrev pub IsRefusedAt : Batch → Batch → BatchStep → Type 0
IsRefusedAt old new (Refused refusal) = (refusal.added ≡ old.added) × (refusal.added < vec_len old.items) × (new.left ≡ old.left)
IsRefusedAt old new said = ⊤

-- how many items are counted when it is refused
abbrev pub added_of : BatchStep → ℕ
added_of (Refused refusal) = refusal.added
added_of said = 0
