-- What is known of the records of a list whose histograms are read.
use Rattle.std.proofs.Common.{◌≡◌, true, ℕ, ◌+◌, ◌≤◌, List, length, All, None, Ok, map, sum_by, subst, sym, ap, ◌∙◌, arith}
use Rattle.std.specs.Prelude.{is_none, sum}
use Rattle.std.specs.List.{Contains}
use Rattle.std.proofs.lemmas.List.{get_or_default, length-map}
use Rattle.std.proofs.lemmas.List.Elements.{All-contains, All-filter}
use Rattle.std.proofs.lemmas.List.Sums.{sum-map}
use Rattle.std.proofs.lemmas.Simd.{map-map}
use Rattle.segment_image.specs.Head.{header_of}
use Rattle.segment_image.specs.Blocks.{field_at, is_block}
use Rattle.segment_image.specs.declared.head.SegmentHead.{SegmentHead}
use Rattle.bucket_ranges.specs.Reading.{IsListed, histogram_records, is_of_type, lawful_records, read_records, record_fault, same_name, sample_count, sample_counts, sample_value}
use Rattle.image_reader.specs.Samples.{Entry, sample_entry}
use Rattle.image_reader.proofs.Headers.{IsHeaded-from_header, block_in_words}
use Rattle.image_reader.proofs.Lawful.{All-first_of_each, read_records-lawful}
use Rattle.image_reader.proofs.Sound.{IsReadable-from_none}

-- a record has no fault and lies in the words, its fields too, and the words are few
pub record IsReadAt (words : List ℕ) (head : SegmentHead) (at : ℕ) : Type 0 where
  pub lawful : record_fault words head at ≡ None
  pub within : at + field_at words at 0 ≤ length words
  pub fields : at + 16 ≤ length words
  pub few : length words ≤ 1048576

-- each record that is read is a block
read_blocks : (words : List ℕ) (head : SegmentHead) (references : List ℕ) → IsListed words head references
    → All (λ at. is_block words head at ≡ true) (read_records words head references)
read_blocks words head references listed =
    let P : ℕ → Type 0 = λ at. is_block words head at ≡ true in
    let all : All P references = λ k d below. subst P (get_or_default references k 0 d below) (listed.walk.lawful k below) in
    All-first_of_each (same_name words) P (lawful_records words head references)
    (All-filter (λ at. is_none (record_fault words head at)) P (histogram_records words references) (All-filter (is_of_type words 1) P references all))

pub read_at : (words : List ℕ) (head : SegmentHead) (references : List ℕ) (at : ℕ) → header_of words ≡ Ok head → IsListed words head references
    → Contains (read_records words head references) at → IsReadAt words head at
read_at words head references at header listed there =
    let lawful : record_fault words head at ≡ None =
    All-contains (λ at. record_fault words head at ≡ None) (read_records words head references) at (read_records-lawful words head references) there in
    let within : at + field_at words at 0 ≤ length words = (block_in_words words head at header
    (All-contains (λ at. is_block words head at ≡ true) (read_records words head references) at (read_blocks words head references listed) there)).1 in
    let long : 16 ≤ field_at words at 0 = (IsReadable-from_none words head at lawful).long in
    record {
      lawful = lawful;
      within = within;
      fields = omega (arith, within, long);
      few = (IsHeaded-from_header words head header).few;
    }

-- a sum over what is made of a list
pub sum_by-made : {X Y : Type 0} (f : Y → ℕ) (g : X → Y) (xs : List X) → sum_by f (map g xs) ≡ sum_by (λ x. f (g x)) xs
sum_by-made f g xs = sym (sum-map f (map g xs)) ∙ (ap sum (map-map f g xs) ∙ sum-map (λ x. f (g x)) xs)

-- as many values as entries
pub length-entries : (words samples : List ℕ) (entries : List Entry) → entries ≡ map (sample_entry words) samples
    → length entries ≡ length (sample_counts words samples)
length-entries words samples entries is =
    ap length is ∙ (length-map samples (sample_entry words) ∙ sym (length-map samples (λ sample. (sample_value words sample, sample_count words sample))))
