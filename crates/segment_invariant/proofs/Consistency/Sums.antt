-- What all blocks of words that are laid out hold of a name: of its records only the first counts.
use Rattle.segment_invariant.proofs.Prelude.Std.{◌≡◌, ◌≢◌, Bool, true, false, ℕ, ℤ, pos, if◌then◌else◌, List, refl, sym, ap, subst, ◌∙◌, ⊎_elim, w64, cast_signed, bytes_eq, +ℤ_idl, bytes_eq-Decides, some, none, get_elem?}
use Rattle.segment_invariant.proofs.Prelude.Machine.{Dimensions, Spec, Own}
use Rattle.segment_invariant.proofs.Prelude.Invariant.{Record, Counts, Sample, Body, queue, plain, held, histogram, counts, sample, other, is_claimed, Piece, Anatomy, of_name, noted_held, all_held, Stands, HasRecord, IsFirst, CountsNothing}
use Rattle.segment_invariant.specs.Ledger.{amount_of_name, sum_held, sum_mark_held, all_amounts}
use Rattle.segment_invariant.specs.Words.{AreLaid}
use Rattle.segment_invariant.proofs.Blocks.Pieces.{one_piece}
use Rattle.segment_invariant.proofs.Lists.FewTerms.{Elsewhere, sum_one, amounts_one}

-- ---- numbers of a name

module _ (mine name : List ℕ) where
  -- of the name it is the number
  pub of_mine : (n : ℕ) → mine ≡ name → of_name mine name n ≡ n
  of_mine n same = ap (λ (b : Bool). if b then n else 0) ((bytes_eq-Decides mine name).1 same)

  pub amount_of_mine : (n : ℤ) → mine ≡ name → amount_of_name mine name n ≡ n
  amount_of_mine n same = ap (λ (b : Bool). if b then n else pos 0) ((bytes_eq-Decides mine name).1 same)

  -- of another it is nothing
  pub nothing_of : (n : ℕ) → (mine ≡ name → n ≡ 0) → of_name mine name n ≡ 0
  nothing_of n empty = by_test (bytes_eq mine name) (bytes_eq-Decides mine name).0
    where
      by_test : (b : Bool) → (b ≡ true → mine ≡ name) → (if b then n else 0) ≡ 0
      by_test true same = empty (same refl)
      by_test false same = refl

  pub no_amount_of : (n : ℤ) → (mine ≡ name → n ≡ pos 0) → amount_of_name mine name n ≡ pos 0
  no_amount_of n empty = by_test (bytes_eq mine name) (bytes_eq-Decides mine name).0
    where
      by_test : (b : Bool) → (b ≡ true → mine ≡ name) → (if b then n else pos 0) ≡ pos 0
      by_test true same = empty (same refl)
      by_test false same = refl

-- what holds of a block's record of this name, if it is one
abbrev pub OfRecord : List ℕ → Body → (Record → Type 0) → Type 0
OfRecord name body is = (r : Record) → body ≡ histogram r → r.name ≡ name → is r

-- what no block but a record holds, a block does not hold if its record does not
of_record : {X : Type 0} (nothing : X) (holds : Body → X) → ((next : ℕ) → holds (queue next) ≡ nothing) → ((words : List ℕ) → holds (plain words) ≡ nothing)
    → ((block : Own) → holds (held block) ≡ nothing) → ((c : Counts) → holds (counts c) ≡ nothing) → ((s : Sample) → holds (sample s) ≡ nothing)
    → ((size tag next : ℕ) (payload : List ℕ) → holds (other size tag next payload) ≡ nothing) → (body : Body)
    → ((r : Record) → body ≡ histogram r → holds (histogram r) ≡ nothing) → holds body ≡ nothing
of_record nothing holds queues plains owns all_counts samples others (histogram r) empty = empty r refl
of_record nothing holds queues plains owns all_counts samples others (queue next) empty = queues next
of_record nothing holds queues plains owns all_counts samples others (plain words) empty = plains words
of_record nothing holds queues plains owns all_counts samples others (held block) empty = owns block
of_record nothing holds queues plains owns all_counts samples others (counts c) empty = all_counts c
of_record nothing holds queues plains owns all_counts samples others (sample s) empty = samples s
of_record nothing holds queues plains owns all_counts samples others (other size tag next payload) empty = others size tag next payload

-- a block holds no sum if its record of the name has empty ones
pub no_sum : (name : List ℕ) (body : Body) → OfRecord name body (λ r. r.sum ≡ 0) → sum_held name body ≡ pos 0
no_sum name body empty = of_record (pos 0) (sum_held name) (λ n. refl) (λ w. refl) (λ b. refl) (λ c. refl) (λ s. refl) (λ z t n p. refl) body
    (λ r is. no_amount_of r.name name _ (λ same. ap (cast_signed w64) (empty r is same)))

pub no_sum_mark : (name : List ℕ) (body : Body) → OfRecord name body (λ r. r.sum_mark ≡ 0) → sum_mark_held name body ≡ pos 0
no_sum_mark name body empty = of_record (pos 0) (sum_mark_held name) (λ n. refl) (λ w. refl) (λ b. refl) (λ c. refl) (λ s. refl) (λ z t n p. refl) body
    (λ r is. no_amount_of r.name name _ (λ same. ap (cast_signed w64) (empty r is same)))

pub no_noted : (name : List ℕ) (body : Body) → OfRecord name body (λ r. r.noted ≡ 0) → noted_held name body ≡ 0
no_noted name body empty = of_record 0 (noted_held name) (λ n. refl) (λ w. refl) (λ b. refl) (λ c. refl) (λ s. refl) (λ z t n p. refl) body
    (λ r is. nothing_of r.name name r.noted (λ same. empty r is same))

-- ---- words that are laid out

module _ (shape : Dimensions) (opened : Anatomy) (words : List ℕ) (kept : AreLaid shape opened words) where
  -- a published block has no owner
  pub published_at : (j : ℕ) (p : Piece) (body : Body) → get_elem? kept.anatomy.pieces j ≡ some p → p.body ≡ body → is_claimed body ≡ true
      → ((block : Own) → body ≢ held block) → Stands kept.anatomy.pieces p.at none body
  published_at j p body there is claimed free =
      ⊎_elim
      (λ nobody. (j, there ∙ (λ i. some (record { at = p.at; owner = nobody i; body = is i }))))
      (λ own. absurd (free own.0 (sym is ∙ own.1)))
      (kept.blocks j p there (ap is_claimed is ∙ claimed)).2

  -- another block has no record of the name that counts
  pub other_nothing : (name : List ℕ) (spec : Spec) (at : ℕ) (r : Record) → IsFirst kept.anatomy.records name spec at → (has : HasRecord kept.anatomy.pieces at r)
      → Elsewhere kept.anatomy.pieces (λ j. j ≢ has.0) (λ p. OfRecord name p.body CountsNothing)
  other_nothing name spec at r first has j p there apart r' is named =
      let here = published_at j p (histogram r') there is refl (λ block e. cc e) in
      kept.records.later p.at at r' spec here (subst (λ (name : List ℕ). IsFirst kept.anatomy.records name spec at) (sym named) first)
      (λ same. apart (one_piece shape words kept.anatomy kept.shown j has.0 p _ there has.1 (sym same)).0)

  module _ (name : List ℕ) (spec : Spec) (at : ℕ) (r : Record) (first : IsFirst kept.anatomy.records name spec at) (has : HasRecord kept.anatomy.pieces at r)
      (named : r.name ≡ name) where
    -- all blocks together hold the sum of the first record, its mark, and its redundant units
    pub sum_is : all_amounts (sum_held name) kept.anatomy.pieces ≡ cast_signed w64 r.sum
    sum_is =
        amounts_one (λ p. sum_held name p.body) kept.anatomy.pieces (pos 0) has.0 _ has.1
        (λ j p there apart. no_sum name p.body (λ r' is same. (other_nothing name spec at r first has j p there apart r' is same).3))
        ∙ (+ℤ_idl _ ∙ amount_of_mine r.name name _ named)

    pub sum_mark_is : all_amounts (sum_mark_held name) kept.anatomy.pieces ≡ cast_signed w64 r.sum_mark
    sum_mark_is =
        amounts_one (λ p. sum_mark_held name p.body) kept.anatomy.pieces (pos 0) has.0 _ has.1
        (λ j p there apart. no_sum_mark name p.body (λ r' is same. (other_nothing name spec at r first has j p there apart r' is same).4))
        ∙ (+ℤ_idl _ ∙ amount_of_mine r.name name _ named)

    pub noted_is : all_held (noted_held name) kept.anatomy.pieces ≡ r.noted
    noted_is =
        sum_one (λ p. noted_held name p.body) kept.anatomy.pieces has.0 _ has.1
        (λ j p there apart. no_noted name p.body (λ r' is same. (other_nothing name spec at r first has j p there apart r' is same).5))
        ∙ of_mine r.name name r.noted named
