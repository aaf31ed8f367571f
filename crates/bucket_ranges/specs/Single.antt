-- The forms of the single word. Below 2^63 they are those of both versions of the format; from 2^63 on, where the counts
-- are in use, each version has its own: in version 1 the units have moved to the counts, in version 2 they stay.
use Rattle.std.specs.Prelude.{◌≡◌, ◌≢◌, Bool, true, false, ◌&&◌, ◌==◌, nat_lt, nat_le, if◌then◌else◌, ℕ, ◌+◌, ◌-◌, ◌*◌, ◌/◌, ◌%◌, ◌^◌, ◌<◌, ◌≤◌, Option, Some, None, unwrap_or, option_map}
use Rattle.segment_image.specs.declared.layout.TheConstants.{NO_BUCKET, VERSION_FROZEN}
use Rattle.bucket_ranges.specs.declared.limits.TheConstants.{MAX_PACKED}
use Rattle.bucket_ranges.specs.declared.single.SingleWord.{SingleWord}
use Rattle.bucket_ranges.specs.declared.single.SingleWord.TheVariants.{Empty, Packed, Disabled, FrozenEmpty, Frozen}

-- the word of a form
abbrev pub word_of : SingleWord → ℕ
word_of Empty = 0
word_of (Packed bucket units) = bucket * 2 ^ 32 + units
word_of (Disabled (Some bucket)) = 2 ^ 63 + bucket
word_of (Disabled None) = 2 ^ 63 + NO_BUCKET
word_of FrozenEmpty = 2 ^ 63
word_of (Frozen bucket units) = 2 ^ 63 + (bucket * 2 ^ 32 + units)

-- a form that a histogram with this many buckets may have in a version
abbrev pub IsForm : ℕ → ℕ → SingleWord → Type 0
IsForm version buckets Empty = Unit {0}
IsForm version buckets (Packed bucket units) = (bucket < buckets) × (1 ≤ units) × (units ≤ MAX_PACKED)
IsForm version buckets (Disabled (Some bucket)) = (version ≢ VERSION_FROZEN) × (bucket < buckets)
IsForm version buckets (Disabled None) = version ≢ VERSION_FROZEN
IsForm version buckets FrozenEmpty = version ≡ VERSION_FROZEN
IsForm version buckets (Frozen bucket units) =
    (version ≡ VERSION_FROZEN) × (bucket < buckets) × (1 ≤ units) × (units ≤ MAX_PACKED)

-- whether a word names a bucket and its units: the units are in the low half, the bucket above them
abbrev pub is_packed_word : ℕ → ℕ → Bool
is_packed_word buckets word =
    let bucket = word / 2 ^ 32 in
    let units = word % 2 ^ 32 in
    nat_lt bucket buckets && nat_le 1 units && nat_le units MAX_PACKED

-- the form of a word below 2^63 other than 0
abbrev pub packed_of : ℕ → ℕ → Option SingleWord
packed_of buckets word = if is_packed_word buckets word then Some (Packed (word / 2 ^ 32) (word % 2 ^ 32)) else None

-- the form of 2^63 + low in version 1
abbrev pub disabled_of : ℕ → ℕ → Option SingleWord
disabled_of buckets low =
    if low == NO_BUCKET then Some (Disabled None)
    else (if nat_lt low buckets then Some (Disabled (Some low)) else None)

-- the form of 2^63 + low in version 2
abbrev pub frozen_of : ℕ → ℕ → Option SingleWord
frozen_of buckets low =
    if low == 0 then Some FrozenEmpty
    else (if is_packed_word buckets low then Some (Frozen (low / 2 ^ 32) (low % 2 ^ 32)) else None)

-- the form of a word in a version
abbrev pub single_of : ℕ → ℕ → ℕ → Option SingleWord
single_of version buckets word =
    if word == 0 then Some Empty
    else (if nat_lt word (2 ^ 63) then packed_of buckets word
    else (if version == VERSION_FROZEN then frozen_of buckets (word - 2 ^ 63) else disabled_of buckets (word - 2 ^ 63)))

-- the units of a bucket that the word itself holds
abbrev pub units_packed : Option SingleWord → ℕ → ℕ
units_packed (Some (Packed bucket units)) i = if bucket == i then units else 0
units_packed (Some Empty) i = 0
units_packed (Some (Disabled packed)) i = 0
units_packed (Some FrozenEmpty) i = 0
units_packed (Some (Frozen bucket units)) i = if bucket == i then units else 0
units_packed None i = 0

-- whether the counts are in use
abbrev pub is_disabled : Option SingleWord → Bool
is_disabled (Some (Disabled packed)) = true
is_disabled (Some FrozenEmpty) = true
is_disabled (Some (Frozen bucket units)) = true
is_disabled (Some Empty) = false
is_disabled (Some (Packed bucket units)) = false
is_disabled None = false

-- the bucket whose units are or were packed, if there is one: it stays the packed bucket once the counts are in use
abbrev pub packed_bucket : Option SingleWord → Option ℕ
packed_bucket (Some (Packed bucket units)) = Some bucket
packed_bucket (Some (Disabled packed)) = packed
packed_bucket (Some FrozenEmpty) = None
packed_bucket (Some (Frozen bucket units)) = Some bucket
packed_bucket (Some Empty) = None
packed_bucket None = None

-- whether bucket i is that bucket
abbrev pub is_packed_bucket : Option SingleWord → ℕ → Bool
is_packed_bucket single i = unwrap_or (option_map (λ bucket. bucket == i) (packed_bucket single)) false
