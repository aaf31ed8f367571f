-- What a recorder's index has of the records that it visited along the list: the first of each key, and for samples all those of each
-- histogram.
use Rattle.std.specs.Prelude.{◌≡◌, true, false, Bool, ℕ, ◌+◌, List, [], ◌∷◌, ◌++◌, map, take, Option}
use Rattle.std.specs.List.{All}
use Rattle.segment_machine.specs.declared.seen.Seen.{Seen}
use Rattle.list_index.specs.Firsts.{Met, Holds, is_grouping}
use Rattle.live_segment.specs.declared.list.index.KeyKind.{KeyKind}
use Rattle.live_segment.specs.declared.list.index.KeyKind.TheVariants.{Sample}
use Rattle.live_segment.specs.declared.list.index.RecordIndex.{RecordIndex}
use Rattle.live_segment.specs.List.Keys.{HasLookedForKey, seen_key}
use Rattle.live_segment.specs.List.Walk.{HasCome}

-- the records that it has passed, each with its key
abbrev pub passed : KeyKind → Seen → ℕ → List Met
passed kind seen given = map (λ at. (at, seen_key kind seen at)) (take given seen.chain)

-- It is of a kind. It has passed the front of the chain that its recorder has seen, and the recorder has looked at each of these records
-- for its key. It has the first of them of each key. An index of samples has groups: the samples of a histogram are one.
pub record IsIndexed (kind : KeyKind) (size : ℕ) (seen : Seen) (index : RecordIndex) : Type 0 where
  pub of_kind : index.kind ≡ kind
  pub come : HasCome size seen.chain index.place
  pub looked : All (HasLookedForKey kind seen) (take index.place.given seen.chain)
  pub grouping : kind ≡ Sample → is_grouping index.firsts ≡ true
  pub holds : Holds (passed kind seen index.place.given) index.firsts

-- a record is passed, with its key: the index has it, or could not grow and its place is unchanged
abbrev pub Enters : ℕ → Option ℕ → RecordIndex → Bool → RecordIndex → Type 0
Enters at key old true new =
    (new.place ≡ record { given = old.place.given + 1; at = at }) × (new.kind ≡ old.kind) × (is_grouping new.firsts ≡ is_grouping old.firsts)
    × ((met : List Met) → Holds met old.firsts → Holds (met ++ (at, key) ∷ []) new.firsts)
Enters at key old false new =
    (new.place ≡ old.place) × (new.kind ≡ old.kind) × (is_grouping new.firsts ≡ is_grouping old.firsts)
    × ((met : List Met) → Holds met old.firsts → Holds met new.firsts)
