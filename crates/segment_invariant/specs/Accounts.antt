-- The ledger of the worked examples: what the blocks hold is what the actors did.
use Rattle.std.specs.Prelude.{◌≡◌, ◌^◌, ℕ, ◌+◌, ℤ, pos, negsuc, List, [], ◌∷◌, map}
use mathlib.Core.Option.{none}
use Rattle.alloc_core.specs.Layout.{render}
use Rattle.bucket_ranges.specs.declared.spec.Spec.TheVariants as spec
use Rattle.segment_machine.specs.declared.actor.Actor.{Actor}
use Rattle.segment_machine.specs.declared.actor.Made.TheVariants as made
use Rattle.segment_machine.specs.Entry.{sample_entry, batch_entries, tally_units, tally_sum, tally_noted}
use Rattle.segment_machine.specs.Actor.{all_counted, all_summed, all_noted, all_taken, taken_units, taken_sum}
use Rattle.segment_invariant.specs.Body.{Body, queue, histogram, counts, sample, Piece, listed, Anatomy, layout_of, blank}
use Rattle.segment_invariant.specs.Ledger.{units_held, marks_held, sum_held, sum_mark_held, noted_held, all_held, all_amounts, all_moving}
use Rattle.segment_machine.specs.Examples.{with_log, with_taken, shape, letter_a, boolean, maker, mounter, mover, whole, taken_at, three_deltas, mounted, in_transit, sparse_segment, letter_s}

-- ---- what is compared

-- the words are those of an anatomy
abbrev pub AreOf : List ℕ → Anatomy → Type 0
AreOf words anatomy = words ≡ render shape (layout_of anatomy)

-- for these keys of a name, what the blocks of version 1 hold and what is in transit is what the actors counted and took; the same of the
-- sum, its mark and the redundant count
abbrev pub Agree : List ℕ → List ℤ → List Piece → List Actor → Type 0
Agree name keys pieces actors =
    (map (λ key. all_held (units_held 1 name key) pieces + all_moving name key actors) keys ≡ map (tally_units (all_counted actors) name) keys)
    × (map (λ key. all_held (marks_held 1 name key) pieces) keys ≡ map (taken_units (all_taken actors) name) keys)
    × (all_amounts (sum_held name) pieces ≡ tally_sum (all_summed actors) name)
    × (all_amounts (sum_mark_held name) pieces ≡ taken_sum (all_taken actors) name)
    × (all_held (noted_held name) pieces ≡ tally_noted (all_noted actors) name)

-- ---- the segment of `A` with its counts block

abbrev pub piece : ℕ → Body → Piece
piece at body = record { at = at; owner = none; body = body }

-- single word, single mark, sum, sum mark and redundant count, then counts and marks
abbrev pub mounted_pieces : (single mark sum sum_mark noted : ℕ) (units marks : List ℕ) → List Piece
mounted_pieces single mark sum sum_mark noted units marks =
    piece 12 (queue 16)
    ∷ piece 16 (histogram (record {
      name = letter_a;
      spec = spec.Boolean;
      size = 16;
      next = 12;
      counts = 32;
      single = single;
      mark = mark;
      sum = sum;
      sum_mark = sum_mark;
      noted = noted;
      letters = 65 ∷ [];
      rest = [];
    }))
    ∷ piece 32 (counts (record { of = 16; name = letter_a; spec = spec.Boolean; size = 10; next = 0; units = units; marks = marks; rest = [] }))
    ∷ []

abbrev pub mounted_anatomy : List Piece → Anatomy
mounted_anatomy pieces = record (blank 1 7 128) {
  tail = 16;
  pieces = pieces;
  spare = 86;
  records = listed (record { reference = 16; made = made.Histogram letter_a spec.Boolean }) ∷ [];
}

abbrev pub keys : List ℤ
keys = pos 0 ∷ pos 1 ∷ pos 2 ∷ []

-- two units of 1 were packed, moved, and then a unit of 0 was counted
abbrev pub settled : List Piece
settled = mounted_pieces 9223372036854775809 0 2 0 3 (1 ∷ 2 ∷ 0 ∷ []) (0 ∷ 0 ∷ 0 ∷ [])

-- the two units are with the actor that moves them
abbrev pub moving : List Piece
moving = mounted_pieces 9223372036854775809 0 2 0 2 (0 ∷ 0 ∷ 0 ∷ []) (0 ∷ 0 ∷ 0 ∷ [])

-- the ledger of the mounted segment, settled and in transit
abbrev pub MountedAgrees : Type 0
MountedAgrees =
    AreOf mounted (mounted_anatomy settled) × Agree letter_a keys settled (mounter (1 ∷ 1 ∷ 0 ∷ []) ∷ [])
    × AreOf in_transit (mounted_anatomy moving) × Agree letter_a keys moving (mover ∷ [])

-- ---- the packing limit

-- samples of 1 with these units
abbrev pub samples_of_one : List ℕ → Actor
samples_of_one units = with_log (mounter []) (map (λ n. whole (sample_entry letter_a boolean (pos 1, n))) units)

-- 70,000 units at once are counted and never packed; 65,535 are packed, and one more moves them to the counts
abbrev pub LimitAgrees : Type 0
LimitAgrees =
    Agree letter_a keys
    (mounted_pieces (2 ^ 63 + 65535) 0 70000 0 70000 (0 ∷ 70000 ∷ 0 ∷ []) (0 ∷ 0 ∷ 0 ∷ []))
    (samples_of_one (70000 ∷ []) ∷ [])
    × Agree letter_a keys
    (mounted_pieces (2 ^ 63 + 1) 0 65536 0 65536 (0 ∷ 65536 ∷ 0 ∷ []) (0 ∷ 0 ∷ 0 ∷ []))
    (samples_of_one (65535 ∷ 1 ∷ []) ∷ [])

-- ---- what deltas took

-- three deltas of one taker, and two takers of which the second took nothing
abbrev pub TakersAgree : Type 0
TakersAgree =
    Agree letter_a keys
    (mounted_pieces 9223372036854775809 2 2 2 3 (1 ∷ 2 ∷ 0 ∷ []) (1 ∷ 0 ∷ 0 ∷ []))
    (with_taken (mounter (1 ∷ 1 ∷ 0 ∷ [])) three_deltas ∷ [])
    × Agree letter_a keys
    (mounted_pieces 9223372036854775809 3 3 3 4 (1 ∷ 3 ∷ 0 ∷ []) (1 ∷ 0 ∷ 0 ∷ []))
    (with_taken (mounter (1 ∷ 1 ∷ 0 ∷ 1 ∷ [])) (taken_at 4 ((pos 0, 1) ∷ (pos 1, 3) ∷ []) (pos 3) ∷ [])
    ∷ with_taken (maker []) (taken_at 0 [] (pos 0) ∷ []) ∷ [])

-- ---- sparse samples

abbrev pub sparse_pieces : List Piece
sparse_pieces =
    piece 12 (queue 16)
    ∷ piece 16 (histogram (record {
      name = letter_s;
      spec = spec.Sparse;
      size = 16;
      next = 32;
      counts = 0;
      single = 0;
      mark = 0;
      sum = 18446744073709551613;
      sum_mark = 18446744073709551613;
      noted = 3;
      letters = 83 ∷ [];
      rest = [];
    }))
    ∷ piece 32 (sample (record { of = 16; name = letter_s; value = negsuc 4; size = 8; next = 40; units = 2; mark = 2; rest = [] }))
    ∷ piece 40 (sample (record { of = 16; name = letter_s; value = pos 7; size = 8; next = 12; units = 1; mark = 1; rest = [] })) ∷ []

abbrev pub sparse_anatomy : Anatomy
sparse_anatomy = record (blank 1 7 128) {
  tail = 40;
  pieces = sparse_pieces;
  spare = 80;
  records =
      listed (record { reference = 16; made = made.Histogram letter_s spec.Sparse })
      ∷ listed (record { reference = 32; made = made.Sample 16 (negsuc 4) })
      ∷ listed (record { reference = 40; made = made.Sample 16 (pos 7) }) ∷ [];
}

-- the actor that recorded two units of -5 and one of 7, and took them
abbrev pub sparse_recorder : Actor
sparse_recorder = with_taken
    (with_log (maker []) (map whole (sample_entry letter_s [] (negsuc 4, 2) ∷ sample_entry letter_s [] (pos 7, 1) ∷ [])))
    (record (taken_at 2 ((negsuc 4, 2) ∷ (pos 7, 1) ∷ []) (negsuc 2)) { name = letter_s } ∷ [])

-- the ledger of the sparse segment
abbrev pub SparseAgrees : Type 0
SparseAgrees =
    AreOf sparse_segment sparse_anatomy × Agree letter_s (negsuc 4 ∷ pos 0 ∷ pos 7 ∷ []) sparse_pieces (sparse_recorder ∷ [])

-- ---- batches

-- a batch of two units of 0 and three of 1 with the sum 3
abbrev pub BatchAgrees : Type 0
BatchAgrees =
    Agree letter_a keys
    (mounted_pieces (2 ^ 63 + 65535) 0 3 0 5 (2 ∷ 3 ∷ 0 ∷ []) (0 ∷ 0 ∷ 0 ∷ []))
    (with_log (mounter []) (map whole (batch_entries letter_a boolean ((pos 0, 2) ∷ (pos 1, 3) ∷ []) (pos 3))) ∷ [])
