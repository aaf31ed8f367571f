-- The single word in both versions. In version 1 a disabled word forgets its units, which are added to the counts; in version
-- 2 it is frozen: its top bit is set, and it keeps the rest for good.
use Rattle.std.specs.Prelude.{◌≡◌, ◌⊎◌, Bool, true, false, ◌==◌, nat_le, ℕ, ◌+◌, ◌*◌, ◌/◌, ◌^◌, ◌≤◌, if◌then◌else◌, Option, Some, None}
use Rattle.bucket_ranges.specs.declared.single.SingleWord.{SingleWord}
use Rattle.bucket_ranges.specs.declared.single.SingleWord.TheVariants.{Empty, Packed, Disabled, FrozenEmpty, Frozen}
use Rattle.bucket_ranges.specs.Single.{single_of, packed_bucket}

-- whether the counts are in use: the word is disabled or frozen
abbrev pub is_off : ℕ → Bool
is_off word = nat_le (2 ^ 63) word

-- the units that a form holds
abbrev pub units_in : Option SingleWord → ℕ
units_in (Some (Packed bucket units)) = units
units_in (Some Empty) = 0
units_in (Some (Disabled packed)) = 0
units_in (Some FrozenEmpty) = 0
units_in (Some (Frozen bucket units)) = units
units_in None = 0

-- the bucket whose units a word holds or held, and the units that it holds
abbrev pub SaysPacked : ℕ → ℕ → ℕ → Option ℕ → ℕ → Type 0
SaysPacked version buckets word packed kept = (packed ≡ packed_bucket (single_of version buckets word)) × (kept ≡ units_in (single_of version buckets word))

-- the word with which a word is disabled, or frozen
abbrev pub off_word : ℕ → ℕ → ℕ
off_word version word =
    if version == 2 then 2 ^ 63 + word
    else (if word == 0 then 2 ^ 63 + 65535 else 2 ^ 63 + word / 2 ^ 32)

-- the word of this many units of a bucket
abbrev pub packed_word : ℕ → ℕ → ℕ
packed_word bucket units = bucket * 2 ^ 32 + units

-- packing k units of a bucket makes one word another: the bucket is the packed one, or none is packed yet, and no more than
-- 65,535 units are packed
abbrev pub IsPacking : ℕ → ℕ → ℕ → ℕ → Type 0
IsPacking bucket k old new =
    (k ≤ 65535) × (((old ≡ 0) × (new ≡ packed_word bucket k))
    ⊎ ((j : ℕ) × (1 ≤ j) × (j + k ≤ 65535) × (old ≡ packed_word bucket j) × (new ≡ packed_word bucket (j + k))))

-- packing and disabling lead from one word to another, in any number of steps: the empty word leads to all; one that names a
-- bucket to those that name the same, with no fewer units or, in version 1, disabled; one that is off to itself alone
abbrev pub Leads : ℕ → ℕ → ℕ → ℕ → Type 0
Leads version n old new =
    (old ≡ new) ⊎ (old ≡ 0)
    ⊎ ((is_off old ≡ false)
    × (packed_bucket (single_of version n new) ≡ packed_bucket (single_of version n old))
    × ((units_in (single_of version n old) ≤ units_in (single_of version n new)) ⊎ ((version ≡ 1) × (is_off new ≡ true))))
