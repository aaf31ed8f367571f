-- What was read of a record stays.
use Rattle.std.proofs.Common.{true, ℕ, ◌+◌, List, length, slice_index}
use Rattle.bucket_ranges.specs.declared.spec.Spec.{Spec}
use Rattle.bucket_ranges.specs.declared.spec.Spec.TheVariants as spec
use Rattle.segment_machine.specs.declared.seen.Seen.{Seen}
use Rattle.segment_promises.specs.Onward.{Grows}
use Rattle.segment_promises.proofs.Growing.{still}
use Rattle.live_segment.specs.Hist.ListSearch.{ShowsWords}
use Rattle.live_segment.specs.Hist.Opened.{ReadsName, ReadsNumber, ReadsRecord, ReadsSpec}

pub name_stays : (a b : Seen) → Grows a.words b.words → (at : ℕ) (name : List ℕ) → ReadsName a at name → ReadsName b at name
name_stays a b grows at name reads = record {
  long = still a.words b.words grows (at + 14) (length name) reads.long;
  letters = reads.letters;
  whole = reads.whole;
  words = λ i below. still a.words b.words grows (at + 15 + i) (slice_index reads.letters i) (reads.words i below);
  bytes = reads.bytes;
}

shows_stays : (a b : Seen) → Grows a.words b.words → (at first : ℕ) (words : List ℕ) → ShowsWords at first words true a → ShowsWords at first words true b
shows_stays a b grows at first words shows = λ i below. still a.words b.words grows (at + first + i) (slice_index words i) (shows i below)

number_stays : (a b : Seen) → Grows a.words b.words → (at n : ℕ) → ReadsNumber a at n → ReadsNumber b at n
number_stays a b grows at n (word, there, is) = (word, still a.words b.words grows at word there, is)

spec_stays : (a b : Seen) → Grows a.words b.words → (at letters : ℕ) (s : Spec) → ReadsSpec a at letters s → ReadsSpec b at letters s
spec_stays a b grows at letters (spec.Linear min max n) (kind, low, high, count) = (
  still a.words b.words grows _ _ kind,
  number_stays a b grows _ min low,
  number_stays a b grows _ max high,
  number_stays a b grows _ n count,
)
spec_stays a b grows at letters spec.Boolean kind = still a.words b.words grows _ _ kind
spec_stays a b grows at letters (spec.Custom values) (kind, count, (inner, shows, is)) =
    (still a.words b.words grows _ _ kind, still a.words b.words grows _ _ count, (inner, shows_stays a b grows at _ inner shows, is))
spec_stays a b grows at letters spec.Sparse kind = still a.words b.words grows _ _ kind

pub record_stays : (a b : Seen) → Grows a.words b.words → (at : ℕ) (name : List ℕ) (s : Spec) → ReadsRecord a at name s → ReadsRecord b at name s
record_stays a b grows at name s (named, specified) = (name_stays a b grows at name named, spec_stays a b grows at _ s specified)
