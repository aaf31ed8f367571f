-- Which bytes the fields of lines lack.
use Rattle.std.proofs.Common.{◌≡◌, ℕ, ◌<◌, ◌≤◌, ◌^◌, ◌&&◌, ◌==◌, Bool, true, not, List, [], ◌∷◌, length, codes, eqb, false, refl, arith, rules}
use Rattle.std.specs.Prelude.{nat_le, slice_index}
use Rattle.std.specs.Cmp.{first_so, second_so}
use Rattle.std.proofs.lemmas.Bool.{leb-true, false≢true}
use Rattle.bucket_ranges.specs.Reading.{is_name, is_name_byte}
use Rattle.std.proofs.lemmas.Bool.Decides.{nat_tests}
use Rattle.std.specs.List.{AllByRecursion, list_all}
use Rattle.reading_sums.specs.declared.key.KeySum.{KeySum}
use Rattle.reading_sums.specs.declared.notes.Notes.{Notes}
use Rattle.reading_sums.specs.Totals.{Part}
use Rattle.sum_texts.specs.Lines.{key_fields, notes_fields, segment_fields, fold_fields, end_fields, hist_fields, spec_numbers, FitsKey, FitNotes, FitsSegment, FitsPart}
use Rattle.sum_texts.proofs.Splits.{Lacks, lacks_decimal, lacks_signed, lacks_small_signed, lacks_word, lacks_kind, lacks_numbers}

pub lacks_key : (c : ℕ) (key : KeySum) → c < 45 → FitsKey key → AllByRecursion (Lacks c) (key_fields key)
lacks_key c key small fits = (
  lacks_word c (codes "key") small (search rules),
  (
    lacks_small_signed c key.value small fits.value,
    (
      lacks_decimal c key.units small (omega (arith, fits.units)),
      (lacks_decimal c key.marks small (omega (arith, fits.marks)), tt),
    ),
  ),
)

pub lacks_notes : (c : ℕ) (notes : Notes) → c < 45 → FitNotes notes → AllByRecursion (Lacks c) (notes_fields notes)
lacks_notes c notes small fits = (
  lacks_word c (codes "images") small (search rules),
  (
    lacks_decimal c notes.images small (omega (arith, fits.images)),
    (
      lacks_decimal c notes.full small (omega (arith, fits.full)),
      (
        lacks_decimal c notes.corrupt small (omega (arith, fits.corrupt)),
        (
          lacks_decimal c notes.stopped small (omega (arith, fits.stopped)),
          (lacks_decimal c notes.bad small (omega (arith, fits.bad)), tt),
        ),
      ),
    ),
  ),
)

pub lacks_segment : (c : ℕ) (segment : ℕ × ℕ) → c < 45 → FitsSegment segment → AllByRecursion (Lacks c) (segment_fields segment)
lacks_segment c segment small fits =
    (lacks_word c (codes "of") small (search rules), (lacks_decimal c segment.0 small (omega (arith, fits.0)), (lacks_decimal c segment.1 small (omega (arith, fits.1)), tt)))

pub lacks_fold : (c serial : ℕ) → c < 45 → serial < 2 ^ 64 → AllByRecursion (Lacks c) (fold_fields serial)
lacks_fold c serial small fits = (lacks_word c (codes "fold") small (search rules), (lacks_decimal c serial small (omega arith), tt))

pub lacks_end : (c parts : ℕ) → c < 45 → parts < 2 ^ 64 → AllByRecursion (Lacks c) (end_fields parts)
lacks_end c parts small fits = (lacks_word c (codes "end") small (search rules), (lacks_decimal c parts small (omega arith), tt))

pub lacks_hist : (c : ℕ) (part : Part) → c < 45 → Lacks c part.name → FitsPart part → AllByRecursion (Lacks c) (hist_fields part)
lacks_hist c part small named fits = (
  lacks_word c (codes "hist") small (search rules),
  (
    named,
    (
      lacks_decimal c part.images small (omega (arith, fits.images)),
      (
        lacks_decimal c part.least small (omega (arith, fits.least)),
        (
          lacks_signed c part.sum small fits.sum,
          (
            lacks_signed c part.sum_mark small fits.sum_mark,
            (
              lacks_decimal c part.redundant small (omega (arith, fits.redundant)),
              (lacks_kind c part.spec small, lacks_numbers c (spec_numbers part.spec) small fits.numbers),
            ),
          ),
        ),
      ),
    ),
  ),
)

-- ---- names

visible : (byte : ℕ) → is_name_byte byte ≡ true → (eqb byte 44 ≡ false) × (10 < byte)
visible byte lawful =
    let front = first_so (nat_le 0x21 byte && nat_le byte 0x7E && not (byte == 0x2C)) _ lawful in
    let least : 0x21 ≤ byte = leb-true _ _ (first_so (nat_le 0x21 byte) _ (first_so (nat_le 0x21 byte && nat_le byte 0x7E) _ front)) in
    (not-true (byte == 0x2C) (second_so (nat_le 0x21 byte && nat_le byte 0x7E) _ front), omega arith)
  where
    not-true : (b : Bool) → not b ≡ true → b ≡ false
    not-true false is = refl
    not-true true is = absurd (false≢true is)

all_lack_commas : (name : List ℕ) → list_all is_name_byte name ≡ true → Lacks 44 name
all_lack_commas [] lawful = tt
all_lack_commas (byte ∷ name) lawful =
    ((visible byte (first_so (is_name_byte byte) _ lawful)).0, all_lack_commas name (second_so (is_name_byte byte) _ lawful))

all_lack_feeds : (name : List ℕ) → list_all is_name_byte name ≡ true → Lacks 10 name
all_lack_feeds [] lawful = tt
all_lack_feeds (byte ∷ name) lawful =
    (differs byte (visible byte (first_so (is_name_byte byte) _ lawful)).1, all_lack_feeds name (second_so (is_name_byte byte) _ lawful))
  where
    differs : (b : ℕ) → 10 < b → eqb b 10 ≡ false
    differs b more = grind (arith, nat_tests)

bytes_of_name : (name : List ℕ) → is_name name ≡ true → list_all is_name_byte name ≡ true
bytes_of_name name lawful = second_so (nat_le 1 (length name) && nat_le (length name) 128 && not (slice_index name 0 == 0x21)) _ lawful

-- a name has no comma and no line feed
pub no_comma : (name : List ℕ) → is_name name ≡ true → Lacks 44 name
no_comma name lawful = all_lack_commas name (bytes_of_name name lawful)

pub no_feed : (name : List ℕ) → is_name name ≡ true → Lacks 10 name
no_feed name lawful = all_lack_feeds name (bytes_of_name name lawful)
