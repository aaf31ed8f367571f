-- Which pieces the anatomy of an image has: the records that are read and their counts, the samples, and other blocks.
use Rattle.segment_invariant.proofs.Prelude.Std.{◌≡◌, ◌≢◌, ◌⊎◌, inl, inr, Bool, true, false, ℕ, zero, suc, ◌+◌, ◌*◌, ◌^◌, ◌<◌, ◌≤◌, List, All, Contains, refl, sym, ap, ◌∙◌, subst, if◌then◌else◌, ◌==◌, eqb-true, eqb-false, some, none, some-injective, get_elem?}
use Rattle.segment_invariant.proofs.Prelude.Machine.{field_at, head_of, is_of_type, is_sparse, record_buckets, IsListed, Reading, reading_along}
use Rattle.segment_invariant.proofs.Prelude.Invariant.{Record, Counts, Sample, Body, queue, plain, held, histogram, counts, sample, other, is_claimed, Piece, Stands, HasRecord, HasCounts, HasSample}
use Rattle.std.proofs.lemmas.Bool.{both_ways}
use mathlib.Core.Option.{Option}
use Rattle.segment_promises.specs.Adoption.{IsAdoptable}
use Rattle.segment_promises.proofs.Adopting.Bodies.{record_at, sample_at, counts_at, other_at}
use Rattle.segment_promises.proofs.Adopting.Opened.Anatomy.{body, are_cut, opened, placed}
use Rattle.segment_promises.proofs.Adopting.Images.{no_record_fault}
use Rattle.segment_promises.proofs.Adopting.Opened.Records.{named_found}
use Rattle.segment_promises.proofs.Adopting.Opened.NoRepeats.{listed_begins, owned_begins, owned_unlisted, one_owner}
use Rattle.segment_promises.proofs.Adopting.Opened.Blocks.{begins, is_read, is_listed, record_body, counts_body, owner_of, Owns, owned, block_cases, there_by_test, test_there}

-- ---- kinds of bodies

abbrev kind_of : Body → ℕ
kind_of (queue next) = 0
kind_of (plain words) = 1
kind_of (held block) = 2
kind_of (histogram r) = 3
kind_of (counts c) = 4
kind_of (sample s) = 5
kind_of (other size tag next payload) = 6

-- a body is of one kind
unlike : {X : Type 0} (a b c : Body) → (kind_of a == kind_of c) ≡ false → a ≡ b → b ≡ c → X
unlike a b c differs is that = absurd (eqb-false (kind_of a) (kind_of c) differs (ap kind_of (is ∙ that)))

same_record : {r q : Record} {b : Body} → histogram r ≡ b → b ≡ histogram q → r ≡ q
same_record is that = cc (is ∙ that)

same_sample : {s t : Sample} {b : Body} → sample s ≡ b → b ≡ sample t → s ≡ t
same_sample is that = cc (is ∙ that)

same_counts : {c d : Counts} {b : Body} → counts c ≡ b → b ≡ counts d → c ≡ d
same_counts is that = cc (is ∙ that)

-- ---- an image

module _ (words references : List ℕ) (reading : Reading) (narrow : All (λ word. word < 2 ^ 64) words) (listed : IsListed words (head_of words) references)
    (reads : reading ≡ reading_along words (head_of words) references) (adoptable : IsAdoptable words references reading) where
  abbrev pub its_pieces : List Piece
  its_pieces = (opened words references reading narrow listed reads adoptable).pieces

  abbrev pub IsOwner : ℕ → ℕ → Type 0
  IsOwner at owner = Owns words references reading narrow listed reads adoptable at owner

  -- ---- by their places

  -- a block is where it begins
  pub has_block : (at : ℕ) → begins words references at ≡ true → Stands its_pieces at none (body words references reading narrow listed reads adoptable at)
  has_block at there =
      let from = (placed words references reading narrow listed reads adoptable at there).from in
      let (k, here) = (are_cut words references reading narrow listed reads adoptable).all at there from in
      (suc k, here)

  -- what is claimed is a block
  pub claimed_block : (k : ℕ) (p : Piece) → get_elem? its_pieces k ≡ some p → is_claimed p.body ≡ true
      → (begins words references p.at ≡ true) × (p ≡ record { at = p.at; owner = none; body = body words references reading narrow listed reads adoptable p.at })
  claimed_block zero p there claimed = absurd (both_ways (is_claimed p.body) (ap (λ (p : Piece). is_claimed p.body) (sym (some-injective _ p there))) claimed)
  claimed_block (suc k) p there claimed = elim ((are_cut words references reading narrow listed reads adoptable).each k p there) [
    | inl block ↦ block
    | inr (gap, is) ↦ absurd (both_ways (is_claimed p.body) (ap (λ (p : Piece). is_claimed p.body) is) claimed)
  ]

  pub stood_block : (at : ℕ) (owner : Option ℕ) (what : Body) → Stands its_pieces at owner what → is_claimed what ≡ true
      → (begins words references at ≡ true) × (owner ≡ none) × (what ≡ body words references reading narrow listed reads adoptable at)
  stood_block at owner what (k, there) claimed =
      let (begun, is) = claimed_block k _ there claimed in
      (begun, ap (λ (p : Piece). p.owner) is, ap (λ (p : Piece). p.body) is)

  -- no piece has an owner
  pub unowned : (k : ℕ) (p : Piece) → get_elem? its_pieces k ≡ some p → p.owner ≡ none
  unowned zero p there = ap (λ (p : Piece). p.owner) (sym (some-injective _ p there))
  unowned (suc k) p there = elim ((are_cut words references reading narrow listed reads adoptable).each k p there) [
    | inl (block, is) ↦ ap (λ (p : Piece). p.owner) is
    | inr (gap, is) ↦ ap (λ (p : Piece). p.owner) is
  ]

  -- ---- what they are

  abbrev pub IsRecordBody : ℕ → Body → Type 0
  IsRecordBody at b =
      ((field_at words at 2 ≡ 1) × (is_read words references at ≡ true) × (b ≡ histogram (record_at words at)))
      ⊎ ((field_at words at 2 ≡ 1) × (is_read words references at ≡ false) × (b ≡ other_at words at))
      ⊎ ((field_at words at 2 ≡ 3) × (b ≡ sample (sample_at words at)))
      ⊎ ((field_at words at 2 ≢ 1) × (field_at words at 2 ≢ 3) × (b ≡ other_at words at))

  abbrev pub IsCountsBody : ℕ → Body → Type 0
  IsCountsBody at b =
      (owner : ℕ) × IsOwner at owner
      × (((is_read words references owner ≡ true) × (b ≡ counts (counts_at words owner at))) ⊎ ((is_read words references owner ≡ false) × (b ≡ other_at words at)))

  pub record_cases : (at : ℕ) → IsRecordBody at (record_body words references at)
  record_cases at =
      by_tests (is_of_type words 1 at) (is_read words references at) (is_of_type words 3 at) (eqb-true (field_at words at 2) 1) (eqb-false (field_at words at 2) 1) refl
      (eqb-true (field_at words at 2) 3) (eqb-false (field_at words at 2) 3)
    where
      by_tests : (one read three : Bool) → (one ≡ true → field_at words at 2 ≡ 1) → (one ≡ false → field_at words at 2 ≢ 1) → is_read words references at ≡ read
          → (three ≡ true → field_at words at 2 ≡ 3) → (three ≡ false → field_at words at 2 ≢ 3)
          → IsRecordBody at (if one then (if read then histogram (record_at words at) else other_at words at) else (if three then sample (sample_at words at) else other_at words at))
      by_tests true true three is un read third unlike = inl (is refl, read, refl)
      by_tests true false three is un read third unlike = inr (inl (is refl, read, refl))
      by_tests false read true is un same third unlike = inr (inr (inl (third refl, refl)))
      by_tests false read false is un same third unlike = inr (inr (inr (un refl, unlike refl, refl)))

  counts_cases : (at owner : ℕ) → IsOwner at owner → IsCountsBody at (counts_body words references at owner)
  counts_cases at owner owns = (owner, owns, by_test (is_read words references owner) refl)
    where
      by_test : (read : Bool) → is_read words references owner ≡ read
          → ((is_read words references owner ≡ true) × ((if read then counts (counts_at words owner at) else other_at words at) ≡ counts (counts_at words owner at)))
          ⊎ ((is_read words references owner ≡ false) × ((if read then counts (counts_at words owner at) else other_at words at) ≡ other_at words at))
      by_test true is = inl (is, refl)
      by_test false is = inr (is, refl)

  pub body_cases : (at : ℕ) → begins words references at ≡ true
      → (Contains references at × IsRecordBody at (body words references reading narrow listed reads adoptable at))
      ⊎ ((¬ (Contains references at)) × IsCountsBody at (body words references reading narrow listed reads adoptable at))
  body_cases at there = by_test (is_listed words references at) refl (block_cases words references reading narrow listed reads adoptable at there)
    where
      by_test : (b : Bool) → is_listed words references at ≡ b → Contains references at ⊎ ((owner : ℕ) × IsOwner at owner)
          → (Contains references at × IsRecordBody at (if b then record_body words references at else counts_body words references at (owner_of words references at)))
          ⊎ ((¬ (Contains references at)) × IsCountsBody at (if b then record_body words references at else counts_body words references at (owner_of words references at)))
      by_test true is either = inl (there_by_test references at is, record_cases at)
      by_test false is (inl among) = absurd (both_ways (is_listed words references at) is (test_there references at among))
      by_test false is (inr (owner, owns)) = inr (
        (λ among. both_ways (is_listed words references at) is (test_there references at among)),
        counts_cases at (owner_of words references at) (owned words references reading narrow listed reads adoptable at owner owns),
      )

  -- ---- so each kind of piece is one of these

  pub is_record : (at : ℕ) (r : Record) → HasRecord its_pieces at r
      → Contains references at × (field_at words at 2 ≡ 1) × (is_read words references at ≡ true) × (r ≡ record_at words at)
  is_record at r has =
      let (begun, unowned_there, is) = stood_block at none (histogram r) has refl in
      elim (body_cases at begun) [
        | inl (among, inl (one, read, that)) ↦ (among, one, read, same_record is that)
        | inl (among, inr (inl (one, read, that))) ↦ unlike _ _ _ refl is that
        | inl (among, inr (inr (inl (three, that)))) ↦ unlike _ _ _ refl is that
        | inl (among, inr (inr (inr (un, third, that)))) ↦ unlike _ _ _ refl is that
        | inr (unlisted, (owner, owns, inl (read, that))) ↦ unlike _ _ _ refl is that
        | inr (unlisted, (owner, owns, inr (read, that))) ↦ unlike _ _ _ refl is that
      ]

  pub is_sample : (at : ℕ) (s : Sample) → HasSample its_pieces at s → Contains references at × (field_at words at 2 ≡ 3) × (s ≡ sample_at words at)
  is_sample at s has =
      let (begun, unowned_there, is) = stood_block at none (sample s) has refl in
      elim (body_cases at begun) [
        | inl (among, inl (one, read, that)) ↦ unlike _ _ _ refl is that
        | inl (among, inr (inl (one, read, that))) ↦ unlike _ _ _ refl is that
        | inl (among, inr (inr (inl (three, that)))) ↦ (among, three, same_sample is that)
        | inl (among, inr (inr (inr (un, third, that)))) ↦ unlike _ _ _ refl is that
        | inr (unlisted, (owner, owns, inl (read, that))) ↦ unlike _ _ _ refl is that
        | inr (unlisted, (owner, owns, inr (read, that))) ↦ unlike _ _ _ refl is that
      ]

  pub is_counts : (at : ℕ) (c : Counts) → HasCounts its_pieces at c
      → (owner : ℕ) × IsOwner at owner × (is_read words references owner ≡ true) × (c ≡ counts_at words owner at)
  is_counts at c has =
      let (begun, unowned_there, is) = stood_block at none (counts c) has refl in
      elim (body_cases at begun) [
        | inl (among, inl (one, read, that)) ↦ unlike _ _ _ refl is that
        | inl (among, inr (inl (one, read, that))) ↦ unlike _ _ _ refl is that
        | inl (among, inr (inr (inl (three, that)))) ↦ unlike _ _ _ refl is that
        | inl (among, inr (inr (inr (un, third, that)))) ↦ unlike _ _ _ refl is that
        | inr (unlisted, (owner, owns, inl (read, that))) ↦ (owner, owns, read, same_counts is that)
        | inr (unlisted, (owner, owns, inr (read, that))) ↦ unlike _ _ _ refl is that
      ]

  -- ---- and each of these is where it should be

  abbrev its_body : ℕ → Body
  its_body = body words references reading narrow listed reads adoptable

  -- a record of the list is there as its body
  pub listed_is : (at : ℕ) → Contains references at → its_body at ≡ record_body words references at
  listed_is at there = ap (λ (b : Bool). if b then record_body words references at else counts_body words references at (owner_of words references at)) (test_there references at there)

  pub listed_body : (at : ℕ) → Contains references at → Stands its_pieces at none (record_body words references at)
  listed_body at there =
      subst (Stands its_pieces at none) (listed_is at there) (has_block at (listed_begins words references reading narrow listed reads adoptable at there))

  -- counts that a record names are there as the record says
  pub owned_body : (at owner : ℕ) → IsOwner at owner → Stands its_pieces at none (counts_body words references at owner)
  owned_body at owner owns =
      let unlisted : is_listed words references at ≡ false = not_there (is_listed words references at) refl in
      let same = one_owner words references reading narrow listed reads adoptable at (owner_of words references at) owner
      (owned words references reading narrow listed reads adoptable at owner owns) owns in
      subst (Stands its_pieces at none)
      (ap (λ (b : Bool). if b then record_body words references at else counts_body words references at (owner_of words references at)) unlisted
      ∙ ap (counts_body words references at) same)
      (has_block at (owned_begins words references reading narrow listed reads adoptable at owner owns))
    where
      not_there : (b : Bool) → is_listed words references at ≡ b → is_listed words references at ≡ false
      not_there true is = absurd (owned_unlisted words references reading narrow listed reads adoptable at owner owns (there_by_test references at is))
      not_there false is = is

  -- such counts are a counts block, with room for a count and a mark for each bucket
  pub owned_counts : (at owner : ℕ) → IsOwner at owner
      → (field_at words at 2 ≡ 2) × (is_sparse words owner ≡ false) × (4 + 2 * record_buckets words owner ≤ field_at words at 0)
  owned_counts at owner owns =
      let (buckets, block, tag, size) = named_found words (head_of words) owner (no_record_fault words references reading listed reads adoptable owner owns.there owns.one) owns.some in (
        ap (λ (at : ℕ). field_at words at 2) (sym owns.is) ∙ tag,
        buckets,
        subst (λ (at : ℕ). 4 + 2 * record_buckets words owner ≤ field_at words at 0) owns.is size,
      )
