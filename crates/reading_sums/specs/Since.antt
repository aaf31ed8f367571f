-- What was counted since an earlier sum.
use Rattle.std.specs.Prelude.{◌≡◌, ◌≢◌, ◌⊎◌, ⊤, ℕ, ◌+◌, ◌<◌, ◌≤◌, ℤ, pos, ◌+ℤ◌, ◌-ℤ◌, ◌<ℤ◌, FitsSigned, List, ◌∷◌, ◌++◌, map, take, drop}
use Rattle.std.specs.Int.{w128}
use Rattle.std.specs.List.{Contains}
use Rattle.std.specs.List.Sorted.{IsStrictlySortedBy}
use Rattle.std.specs.declared.cmp.Ordering.{Ordering}
use Rattle.bucket_ranges.specs.declared.spec.Spec.{Spec}
use Rattle.reading_sums.specs.declared.fault.MinusFault.{MinusFault}
use Rattle.reading_sums.specs.declared.fault.MinusFault.TheVariants.{NoMemory, TooMany, Fell, OtherSpec}
use Rattle.reading_sums.specs.declared.hist.HistSum.{HistSum}
use Rattle.reading_sums.specs.declared.key.KeySum.{KeySum}
use Rattle.reading_sums.specs.Keys.{units_at, marks_at}
use Rattle.reading_sums.specs.Orders.{hist_cmp}
use Rattle.reading_sums.specs.Totals.Quantity.{Units, Marks, Amounts, AmountMarks, Redundant, Images}
use Rattle.reading_sums.specs.Totals.{Part, Quantity, quantity_of, total}
use Rattle.reading_sums.specs.Views.{part_of}
use Rattle.reading_sums.specs.Whole.{values_of, units_of}

-- ---- keys

-- what later keys have more than earlier ones: it has the values of the later ones; for each value, the earlier units and its own together
-- are the later ones, and so are the marks; and its units are no more than the later ones
pub record AreKeysSince (later earlier since : List KeySum) : Type 0 where
  pub values : values_of since ≡ values_of later
  pub units : (value : ℤ) → units_at later value ≡ units_at earlier value + units_at since value
  pub marks : (value : ℤ) → marks_at later value ≡ marks_at earlier value + marks_at since value
  pub fewer : units_of since ≤ units_of later

-- for some value the later keys have fewer units than the earlier ones, or fewer marks
abbrev pub HasKeyFallen : List KeySum → List KeySum → Type 0
HasKeyFallen later earlier =
    (value : ℤ) × ((units_at later value < units_at earlier value) ⊎ (marks_at later value < marks_at earlier value))

-- ---- parts

-- what is unchanged of a later part: its name, spec and values, how many images have it, and the least number of one
pub record Frame : Type 0 where
  pub name : List ℕ
  pub spec : Spec
  pub values : List ℤ
  pub images : ℕ
  pub least : ℕ

abbrev pub frame_of : Part → Frame
frame_of part = record {
  name = part.name;
  spec = part.spec;
  values = values_of part.keys;
  images = part.images;
  least = part.least;
}

-- what a later part has more than an earlier one: of everything that is added up but the images, the earlier one and this together have
-- what the later one has; all else is the same as in the later one
pub record IsSince (later earlier since : Part) : Type 0 where
  pub quantities : (quantity : Quantity) → quantity ≢ Images
      → quantity_of quantity later ≡ quantity_of quantity earlier +ℤ quantity_of quantity since
  pub kept : frame_of since ≡ frame_of later

-- what later parts have more than earlier ones: for each name and spec, the earlier ones and these together have what the later ones have,
-- of everything that is added up but the images; all else is the same as in the later ones, one by one
pub record AreSince (later earlier since : List Part) : Type 0 where
  pub totals : (quantity : Quantity) → quantity ≢ Images → (name : List ℕ) (spec : Spec)
      → total quantity name spec later ≡ total quantity name spec earlier +ℤ total quantity name spec since
  pub kept : map frame_of since ≡ map frame_of later

-- ---- why there is nothing

-- what is counted and so can only grow: units, marks and redundant counts
abbrev pub IsCountedUp : Quantity → Type 0
IsCountedUp (Units key) = ⊤
IsCountedUp (Marks key) = ⊤
IsCountedUp Amounts = ⊥
IsCountedUp AmountMarks = ⊥
IsCountedUp Redundant = ⊤
IsCountedUp Images = ⊥

-- something that is counted is less in a later part than in an earlier one
abbrev pub HasLess : Part → Part → Type 0
HasLess later earlier =
    (quantity : Quantity) × IsCountedUp quantity × (quantity_of quantity later <ℤ quantity_of quantity earlier)

-- a part has something that is counted, or an amount
abbrev pub HasSomething : Part → Type 0
HasSomething part = (quantity : Quantity) × (quantity ≢ Images) × (quantity_of quantity part ≢ pos 0)

-- an amount of a later part minus that of an earlier one does not fit 128 bits
abbrev pub HasLongAmount : Part → Part → Type 0
HasLongAmount later earlier =
    ¬ FitsSigned w128 (later.sum -ℤ earlier.sum) ⊎ ¬ FitsSigned w128 (later.sum_mark -ℤ earlier.sum_mark)

-- some histogram of a list has a name
abbrev pub HasHistNamed : List HistSum → List ℕ → Type 0
HasHistNamed hists name = (hist : HistSum) × Contains hists hist × (hist.name.items ≡ name)

-- some histogram of a list has the name and the spec of another
abbrev pub HasAlike : List HistSum → HistSum → Type 0
HasAlike hists other = (hist : HistSum) × Contains hists hist × (hist.name.items ≡ other.name.items) × (hist.spec ≡ other.spec)

-- a later histogram and an earlier one, of one name and one spec
pub record ArePair (laters earliers : List HistSum) (later earlier : HistSum) : Type 0 where
  pub is_later : Contains laters later
  pub is_earlier : Contains earliers earlier
  pub name : later.name.items ≡ earlier.name.items
  pub spec : later.spec ≡ earlier.spec

-- an earlier histogram has a name, and there is no later one of its name and its spec
pub record IsWithoutLater (laters earliers : List HistSum) (earlier : HistSum) (name : List ℕ) : Type 0 where
  pub is_earlier : Contains earliers earlier
  pub has_name : earlier.name.items ≡ name
  pub alone : ¬ HasAlike laters earlier

-- a name fell: under one spec the later histogram has less than the earlier one; or there is no later one of the name, and an earlier one
-- has something
abbrev pub HasFallen : List HistSum → List HistSum → List ℕ → Type 0
HasFallen laters earliers name =
    ((later : HistSum) × (earlier : HistSum) × ArePair laters earliers later earlier × (earlier.name.items ≡ name) × HasLess (part_of later) (part_of earlier))
    ⊎ ((earlier : HistSum) × IsWithoutLater laters earliers earlier name × (¬ HasHistNamed laters name) × HasSomething (part_of earlier))

-- a name has another spec: an earlier histogram of it has no later one of its spec, but there is a later one of the name
abbrev pub HasChangedSpec : List HistSum → List HistSum → List ℕ → Type 0
HasChangedSpec laters earliers name = (earlier : HistSum) × IsWithoutLater laters earliers earlier name × HasHistNamed laters name

-- some later amount minus the earlier one of the same name and spec does not fit 128 bits
abbrev pub HasTooMany : List HistSum → List HistSum → Type 0
HasTooMany laters earliers =
    (later : HistSum) × (earlier : HistSum) × ArePair laters earliers later earlier × HasLongAmount (part_of later) (part_of earlier)

-- there is no reason for a refusal
pub record IsGrown (laters earliers : List HistSum) : Type 0 where
  pub fell : (name : List ℕ) → ¬ HasFallen laters earliers name
  pub other_spec : (name : List ℕ) → ¬ HasChangedSpec laters earliers name
  pub too_many : ¬ HasTooMany laters earliers

-- a condition for each fault, on the name that it has; none if memory ran out
abbrev pub MatchFault : MinusFault → Type 0 → (List ℕ → Type 0) → (List ℕ → Type 0) → Type 0
MatchFault NoMemory many fell other = ⊤
MatchFault TooMany many fell other = many
MatchFault (Fell name) many fell other = fell name.items
MatchFault (OtherSpec name) many fell other = other name.items

-- the reason that a fault reports is there
abbrev pub IsReason : List HistSum → List HistSum → MinusFault → Type 0
IsReason laters earliers fault =
    MatchFault fault (HasTooMany laters earliers) (HasFallen laters earliers) (HasChangedSpec laters earliers)

-- ---- the walk

-- an earlier histogram is no reason for a refusal: there is a later one of its name and its spec, which does not have less and has no long
-- amount; or there is none of its name, and it has nothing
abbrev pub IsNoReason : List HistSum → HistSum → Type 0
IsNoReason laters earlier =
    ((later : HistSum) × Contains laters later × (later.name.items ≡ earlier.name.items) × (later.spec ≡ earlier.spec)
    × (¬ HasLess (part_of later) (part_of earlier)) × (¬ HasLongAmount (part_of later) (part_of earlier)))
    ⊎ ((¬ HasHistNamed laters earlier.name.items) × (¬ HasSomething (part_of earlier)))

-- a histogram is in its place between others
abbrev pub StandsBetween : List HistSum → HistSum → List HistSum → Type 0
StandsBetween before hist behind = IsStrictlySortedBy hist_cmp (before ++ hist ∷ behind)

-- whatever ascends with each of two lists after it, also ascends with what is taken of the later list and then the rest of the earlier one
abbrev pub GoesOnAscending : {K : Type 0} → (K → K → Ordering) → ℕ → ℕ → List K → List K → Type 0
GoesOnAscending cmp i j later earlier = (done : List _) → IsStrictlySortedBy cmp (done ++ later) → IsStrictlySortedBy cmp (done ++ earlier)
    → IsStrictlySortedBy cmp ((done ++ take i later) ++ drop j earlier)
