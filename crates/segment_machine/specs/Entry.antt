-- Entries: what accepted calls count, which of an entry's events have happened, and what entries add up to.
use Rattle.std.specs.Prelude.{◌≡◌, Bool, false, not, ◌&&◌, ◌||◌, ◌==◌, nat_lt, nat_le, max, ℕ, ◌+◌, ◌*◌, ◌/◌, ◌≤◌, ℤ, pos, ◌+ℤ◌, unsigned_abs, if◌then◌else◌, List, [], ◌∷◌, ◌++◌, map, length, fold, sum_by}
use Rattle.std.specs.List.{filter, All}
use Rattle.std.specs.Str.{bytes_eq}
use Rattle.std.specs.Ordering.{int_eq}
use Rattle.bucket_ranges.specs.Ranges.{clamped}
use Rattle.bucket_ranges.specs.Tally.{amount_of, units_of}
use Rattle.segment_machine.specs.declared.entry.Entry.{Entry}
use Rattle.segment_machine.specs.declared.entry.EntryProgress.{EntryProgress}

-- ---- what a call counts

-- the key of a value: with buckets, the least value of its bucket, which is the greatest boundary that is not above the clamped value;
-- without, the value itself
abbrev pub key_of : List ℕ → ℤ → ℤ
key_of boundaries value =
    if nat_lt 1 (length boundaries)
    then pos (fold max 0 (filter (λ boundary. nat_le boundary (clamped value)) boundaries))
    else value

-- the entry of a sample, which is a value and its number of units: the amount is the value, clamped if there are buckets, times the units
abbrev pub sample_entry : List ℕ → List ℕ → ℤ × ℕ → Entry
sample_entry name boundaries sample = record {
  name = name;
  key = key_of boundaries sample.0;
  units = sample.1;
  amount = amount_of boundaries sample;
}

-- the entry of a batch's item, whose amount is 0
abbrev pub item_entry : List ℕ → List ℕ → ℤ × ℕ → Entry
item_entry name boundaries item = record { name = name; key = key_of boundaries item.0; units = item.1; amount = pos 0 }

-- the entry of a batch's sum: no units, of key 0
abbrev pub sum_entry : List ℕ → ℤ → Entry
sum_entry name sum = record { name = name; key = pos 0; units = 0; amount = sum }

-- the entries of a batch: one for each item, then one for the sum, unless that is 0
abbrev pub batch_entries : List ℕ → List ℕ → List (ℤ × ℕ) → ℤ → List Entry
batch_entries name boundaries items sum =
    map (item_entry name boundaries) items ++ (if int_eq sum (pos 0) then [] else sum_entry name sum ∷ [])

-- the units that a batch costs: those of its items, but at least the size of its sum divided by 2^31, rounded up
abbrev pub batch_cost : List (ℤ × ℕ) → ℤ → ℕ
batch_cost items sum = max (units_of items) ((unsigned_abs sum + 2147483647) / 2147483648)

-- ---- its three events

-- its units are counted, or are 0: an event that is left out because its number is 0 counts as done
abbrev pub is_counted : EntryProgress → Bool
is_counted c = c.counted || (c.entry.units == 0)

-- its amount is added, or is 0
abbrev pub is_summed : EntryProgress → Bool
is_summed c = c.summed || int_eq c.entry.amount (pos 0)

-- its units are in the redundant count, or are 0
abbrev pub is_noted : EntryProgress → Bool
is_noted c = c.noted || (c.entry.units == 0)

-- all three have happened
abbrev pub has_ended : EntryProgress → Bool
has_ended c = is_counted c && is_summed c && is_noted c

-- an entry of which nothing has happened
abbrev pub fresh : Entry → EntryProgress
fresh entry = record { entry = entry; counted = false; summed = false; noted = false }

-- the entries that are counted
abbrev pub counted_among : List EntryProgress → List Entry
counted_among list = map (λ c. c.entry) (filter is_counted list)

-- the entries whose amounts are in the sum
abbrev pub summed_among : List EntryProgress → List Entry
summed_among list = map (λ c. c.entry) (filter is_summed list)

-- the entries whose units are in the redundant count
abbrev pub noted_among : List EntryProgress → List Entry
noted_among list = map (λ c. c.entry) (filter is_noted list)

-- ---- what entries add up to

-- whether an entry is of a name
abbrev pub is_of : List ℕ → Entry → Bool
is_of name entry = bytes_eq entry.name name

-- the tally of entries for a name: the units that have a key
abbrev pub tally_units : List Entry → List ℕ → ℤ → ℕ
tally_units entries name key = sum_by (λ entry. if is_of name entry && int_eq entry.key key then entry.units else 0) entries

-- the sum of all amounts of a name
abbrev pub tally_sum : List Entry → List ℕ → ℤ
tally_sum entries name = fold ◌+ℤ◌ (pos 0) (map (λ entry. if is_of name entry then entry.amount else pos 0) entries)

-- all units of a name, whatever their keys
abbrev pub tally_noted : List Entry → List ℕ → ℕ
tally_noted entries name = sum_by (λ entry. if is_of name entry then entry.units else 0) entries

-- entries of a call within its cost: their units are at most the cost, at most one of them has an amount, and the size of that is at most
-- 2^31 times the cost
pub record AreWithin (name : List ℕ) (cost : ℕ) (entries : List Entry) : Type 0 where
  pub of_name : All (λ entry. entry.name ≡ name) entries
  pub units : tally_noted entries name ≤ cost
  pub one : length (filter (λ entry. not (int_eq entry.amount (pos 0))) entries) ≤ 1
  pub amount : unsigned_abs (tally_sum entries name) ≤ 2147483648 * cost
