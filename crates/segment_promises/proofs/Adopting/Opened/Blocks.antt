-- The blocks of an image that may be adopted: which there are, and what each is.
use Rattle.segment_invariant.proofs.Prelude.Std.{◌≡◌, ◌≢◌, ◌⊎◌, inl, inr, Bool, true, false, ℕ, ◌+◌, ◌*◌, ◌^◌, ◌<◌, ◌≤◌, List, length, refl, sym, ap, subst, arith, ⊎_elim, None, ◌%◌, not, ◌==◌, ◌&&◌, if◌then◌else◌, slice_index, filter, flat_map, Contains, All, and_from, and_parts, ne_eqb, eqb-true, eqb-false, eq-eqb, ltb-false, Contains-append_cases, contains_filter, contains_at, at_from}
use Rattle.segment_invariant.proofs.Prelude.Machine.{field_at, is_block, head_of, is_of_type, is_sparse, record_fault, record_buckets, IsListed, Reading, reading_along}
use Rattle.segment_invariant.proofs.Prelude.Invariant.{Body, histogram, counts, sample, words_of}
use Rattle.std.specs.List.{list_any}
use Rattle.std.proofs.lemmas.Bool.{or_parts, not-true}
use Rattle.std.proofs.lemmas.List.Elements.{Contains-get_or}
use Rattle.std.proofs.lemmas.List.Folds.{list_any-from_Any, Any-from_list_any}
use Rattle.bucket_ranges.specs.Reading.{read_records}
use Rattle.segment_promises.specs.Adoption.{IsAdoptable, named_counts, blocks_of}
use Rattle.segment_promises.proofs.Filters.{filtered}
use Rattle.segment_promises.proofs.Adopting.Opened.Records.{kind_found, spec_found, named_found}
use Rattle.segment_promises.proofs.Adopting.Distinct.{among_rows}
use Rattle.segment_promises.proofs.Adopting.Blocks.{named_is}
use Rattle.segment_promises.proofs.Adopting.Images.{no_record_fault, no_sample_fault, block_page, listed_block, free_bounds}
use Rattle.segment_promises.proofs.Adopting.Bodies.{record_at, sample_at, counts_at, other_at, whole, other_words, sample_words, counts_words, record_words_are}

module _ (words references : List ℕ) where
  -- whether a record of the list is read, as the first of its name
  abbrev pub is_read : ℕ → Bool
  is_read at = list_any (λ other. other == at) (read_records words (head_of words) references)

  -- whether a record is listed
  abbrev pub is_listed : ℕ → Bool
  is_listed at = list_any (λ other. other == at) references

  -- whether a block begins at a word
  abbrev pub begins : ℕ → Bool
  begins at = list_any (λ other. other == at) (blocks_of words references)

  -- what a record of the list is, and what counts are by the record that names them; what is passed over is neither a histogram's nor its counts
  abbrev pub record_body : ℕ → Body
  record_body at =
      if is_of_type words 1 at then (if is_read at then histogram (record_at words at) else other_at words at)
      else (if is_of_type words 3 at then sample (sample_at words at) else other_at words at)

  abbrev pub counts_body : ℕ → ℕ → Body
  counts_body at owner = if is_read owner then counts (counts_at words owner at) else other_at words at

  -- whether a record names a counts block
  abbrev pub names : ℕ → ℕ → Bool
  names at owner = is_of_type words 1 owner && not (field_at words owner 8 == 0) && (field_at words owner 8 == at)

  -- the record that names a counts block
  abbrev pub owner_of : ℕ → ℕ
  owner_of at = slice_index (filter (names at) references) 0

  abbrev pub body_at : ℕ → Body
  body_at at = if is_listed at then record_body at else counts_body at (owner_of at)

-- ---- what is in a list, by a test

pub there_by_test : (l : List ℕ) (at : ℕ) → list_any (λ other. other == at) l ≡ true → Contains l at
there_by_test l at passes =
    let (k, x, below, is, same) = Any-from_list_any (λ (other : ℕ). other == at) l passes in
    subst (Contains l) (eqb-true x at same) (k, below, is)

pub test_there : (l : List ℕ) (at : ℕ) → Contains l at → list_any (λ other. other == at) l ≡ true
test_there l at (k, below, is) = list_any-from_Any (λ (other : ℕ). other == at) l (k, at, below, is, eq-eqb at at refl)

-- ---- an image's blocks

module _ (words references : List ℕ) (reading : Reading) (narrow : All (λ word. word < 2 ^ 64) words) (listed : IsListed words (head_of words) references)
    (reads : reading ≡ reading_along words (head_of words) references) (adoptable : IsAdoptable words references reading) where
  lawful : (at : ℕ) → Contains references at → field_at words at 2 ≡ 1 → record_fault words (head_of words) at ≡ None
  lawful = no_record_fault words references reading listed reads adoptable

  -- a record of a histogram on the list names a counts block
  pub record Owns (at owner : ℕ) : Type 0 where
    pub there : Contains references owner
    pub one : field_at words owner 2 ≡ 1
    pub some : field_at words owner 8 ≢ 0
    pub is : field_at words owner 8 ≡ at

  owns_from : (at owner : ℕ) → Contains references owner → names words references at owner ≡ true → Owns at owner
  owns_from at owner there found =
      let parts = and_parts _ _ found in
      let both = and_parts _ _ parts.0 in
      record {
        there = there;
        one = eqb-true (field_at words owner 2) 1 both.0;
        some = eqb-false (field_at words owner 8) 0 (not-true _ both.1);
        is = eqb-true (field_at words owner 8) at parts.1;
      }

  -- the first that names it
  pub owned : (at owner : ℕ) → Owns at owner → Owns at (owner_of words references at)
  owned at owner owns =
      let among = contains_filter (names words references at) references owner owns.there
      (and_from _ _ (and_from _ _ (eq-eqb _ 1 owns.one) (ap not (ne_eqb _ 0 owns.some))) (eq-eqb _ at owns.is)) in
      let below = among.1 in
      let first = Contains-get_or (filter (names words references at) references) 0 0 (omega (arith, below)) in
      let found = filtered (names words references at) references _ first in
      owns_from at (owner_of words references at) found.0 found.1

  -- a block is a record, or counts that one names
  pub block_cases : (at : ℕ) → begins words references at ≡ true → Contains references at ⊎ ((owner : ℕ) × Owns at owner)
  block_cases at there = ⊎_elim
      (λ listed. inl listed)
      (λ named.
      let (k, owner, here, mine) = among_rows (named_counts words) references at named in
      let (one, some_there, is) = named_is words owner at mine in
      inr (owner, record { there = contains_at references k owner here; one = one; some = some_there; is = sym is }))
      (Contains-append_cases references (flat_map (named_counts words) references) at (there_by_test (blocks_of words references) at there))

  -- a valid block is at a word, and its words are those of its body
  pub record IsBlockOf (at : ℕ) (body : Body) : Type 0 where
    pub lawful : is_block words (head_of words) at ≡ true
    pub holds : words_of body ≡ whole words at

  record_holds : (at : ℕ) → Contains references at → words_of (record_body words references at) ≡ whole words at
  record_holds at there = by_type (is_of_type words 1 at) (is_read words references at) (is_of_type words 3 at) refl refl
    where
      block : (16 ≤ at) × (5 ≤ field_at words at 0) × (at + field_at words at 0 ≤ (head_of words).free)
          × (at % (head_of words).shape.page + field_at words at 0 ≤ (head_of words).shape.page) × (field_at words at 1 ≡ 0xC8799269)
      block = block_page words references reading listed reads adoptable at (listed_block words references reading listed reads adoptable at there)

      within : at + field_at words at 0 ≤ length words
      within = let inside = block.2 in let free = (free_bounds words references reading listed reads adoptable).1 in omega (arith, inside, free)

      other_holds : words_of (other_at words at) ≡ whole words at
      other_holds = let five = block.1 in other_words words at (omega (arith, five)) within block.4

      by_type : (one first three : Bool) → is_of_type words 1 at ≡ one → is_of_type words 3 at ≡ three
          → words_of (if one then (if first then histogram (record_at words at) else other_at words at) else (if three then sample (sample_at words at) else other_at words at))
          ≡ whole words at
      by_type true true three one_is three_is =
          let none = lawful at there (eqb-true _ 1 one_is) in
          let (fits, named, paged) = spec_found words (head_of words) at none in
          record_words_are words at fits within block.4 (eqb-true _ 1 one_is) (kind_found words (head_of words) at none).1 named
      by_type true false three one_is three_is = other_holds
      by_type false first true one_is three_is =
          let (k, here) = at_from references at there in
          let bad = or_parts _ _ (no_sample_fault words references reading listed reads adoptable k at here (eqb-true _ 3 three_is)) in
          let parts = or_parts _ _ (or_parts _ _ (or_parts _ _ bad.0).0).0 in
          let least = ltb-false (field_at words at 0) 8 parts.0 in
          sample_words words at least within block.4 (eqb-true _ 3 three_is) (narrow (at + 5) 0 (omega (arith, least, within)))
      by_type false first false one_is three_is = other_holds

  counts_holds : (at owner : ℕ) → Owns at owner → IsBlockOf at (counts_body words references at owner)
  counts_holds at owner owns = subst (λ (at : ℕ). IsBlockOf at (counts_body words references at owner)) owns.is
      (record { lawful = found.1; holds = by_read (is_read words references owner) })
    where
      place : ℕ
      place = field_at words owner 8

      found : (is_sparse words owner ≡ false) × (is_block words (head_of words) (field_at words owner 8) ≡ true)
          × (field_at words (field_at words owner 8) 2 ≡ 2) × (4 + 2 * record_buckets words owner ≤ field_at words (field_at words owner 8) 0)
      found = named_found words (head_of words) owner (lawful owner owns.there owns.one) owns.some

      block : (16 ≤ field_at words owner 8) × (5 ≤ field_at words (field_at words owner 8) 0) × (field_at words owner 8 + field_at words (field_at words owner 8) 0 ≤ (head_of words).free)
          × (field_at words owner 8 % (head_of words).shape.page + field_at words (field_at words owner 8) 0 ≤ (head_of words).shape.page)
          × (field_at words (field_at words owner 8) 1 ≡ 0xC8799269)
      block = block_page words references reading listed reads adoptable (field_at words owner 8) found.1

      within : field_at words owner 8 + field_at words (field_at words owner 8) 0 ≤ length words
      within = let inside = block.2 in let free = (free_bounds words references reading listed reads adoptable).1 in omega (arith, inside, free)

      by_read : (read : Bool)
          → words_of (if read then counts (counts_at words owner (field_at words owner 8)) else other_at words (field_at words owner 8)) ≡ whole words (field_at words owner 8)
      by_read true = counts_words words owner (field_at words owner 8) found.3 within block.4 found.2
      by_read false = let five = block.1 in other_words words (field_at words owner 8) (omega (arith, five)) within block.4

  -- so does each block of an image
  pub holds_block : (at : ℕ) → begins words references at ≡ true → IsBlockOf at (body_at words references at)
  holds_block at there = by_listed (is_listed words references at) refl (block_cases at there)
    where
      by_listed : (b : Bool) → is_listed words references at ≡ b → Contains references at ⊎ ((owner : ℕ) × Owns at owner)
          → IsBlockOf at (if b then record_body words references at else counts_body words references at (owner_of words references at))
      by_listed true is either = let among = there_by_test references at is in
          record { lawful = listed_block words references reading listed reads adoptable at among; holds = record_holds at among }
      by_listed false is (inl among) = absurd (cc (is, test_there references at among))
      by_listed false is (inr (owner, owns)) = counts_holds at (owner_of words references at) (owned at owner owns)
