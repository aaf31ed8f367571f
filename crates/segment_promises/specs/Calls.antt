-- What every crate that runs calls says about the actor of a call, and about what a delta lists.
use Rattle.std.specs.Prelude.{◌≡◌, ℕ, ◌<◌, ◌≤◌, ℤ, List, ◌∷◌, ◌++◌, length, map, Some}
use Rattle.std.specs.List.{All, AllByRecursion, Contains}
use Rattle.std.specs.List.Sorted.{IsStrictlySortedBy}
use Rattle.std.specs.Ordering.{int_cmp}
use Rattle.segment_machine.specs.declared.actor.Actor.{Actor}
use Rattle.segment_machine.specs.declared.actor.Known.{Known}
use Rattle.segment_machine.specs.Actor.{bucket_key}
use Rattle.segment_machine.specs.Made.{SawSample}
use Rattle.segment_promises.specs.Onward.{Grows}

-- ---- what an actor has seen

-- each sample that the actor visited comes after the record of its histogram
abbrev pub SamplesStandBehind : Actor → Type 0
SamplesStandBehind a = (histogram sample : ℕ) (value : ℤ) (front behind : List ℕ) → Contains a.seen.chain sample → SawSample a.seen histogram value sample
    → a.seen.chain ≡ front ++ histogram ∷ behind → Contains behind sample

-- the actor last began to look no later than now
pub record BeganBefore (a : Actor) : Type 0 where
  pub singles : a.since.singles ≤ length a.seen.singles
  pub counts : a.since.counts ≤ length a.seen.counts

-- The actor has seen no less, and has not begun to look again.
pub record SeesMore (a b : Actor) : Type 0 where
  pub segment : b.segment ≡ a.segment
  pub since : b.since ≡ a.since
  pub singles : Grows a.seen.singles b.seen.singles
  pub counts : Grows a.seen.counts b.seen.counts
  pub words : Grows a.seen.words b.seen.words

-- ---- what a delta lists

-- keys with units, ascending, each once
pub record AreUnits (counts : List (ℤ × ℕ)) : Type 0 where
  pub ascending : IsStrictlySortedBy int_cmp (map (λ count. count.0) counts)
  pub some : All (λ count. 1 ≤ count.1) counts

-- each is the key of a bucket below this one
abbrev pub AreBelow : Known → ℕ → List (ℤ × ℕ) → Type 0
AreBelow known bucket counts = AllByRecursion (λ count. (i : ℕ) × (i < bucket) × (count.0 ≡ bucket_key (Some known) i)) counts
