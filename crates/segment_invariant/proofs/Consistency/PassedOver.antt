-- Records that are passed over, among words that are laid out: if a block holds what a body would, the words show that body.
use Rattle.segment_invariant.proofs.Prelude.Std.{◌≡◌, ◌≢◌, ◌<◌, ℕ, List, refl, subst, arith, some, none, get_elem?, slice_index}
use Rattle.segment_invariant.proofs.Prelude.Machine.{Dimensions, IsShown, field_at}
use Rattle.segment_invariant.proofs.Prelude.Invariant.{Record, Body, histogram, other, Piece, Listed, Anatomy, layout_of, record_words, Stands, IsPassedOver}
use Rattle.segment_invariant.specs.Seen.{HoldsAs}
use Rattle.segment_invariant.specs.Consistent as consistent
use Rattle.alloc_core.proofs.Owners.{set_at}
use Rattle.segment_invariant.specs.Words.{AreLaid}
use Rattle.segment_invariant.proofs.Blocks.Pieces.{first_piece, with_piece}
use Rattle.segment_invariant.proofs.Blocks.Published.{relabelled}
use Rattle.segment_invariant.proofs.Consistency.Records.{record_word, record_name}

-- ---- shown as what it holds

module _ (shape : Dimensions) (opened : Anatomy) (words : List ℕ) (kept : AreLaid shape opened words) (at : ℕ) (body : Body)
    (holds : HoldsAs kept.anatomy.pieces at body) where
  abbrev k : ℕ
  k = holds.4.0

  abbrev p : Piece
  p = record { at = at; owner = none; body = other holds.0 holds.1 holds.2 holds.3 }

  there : get_elem? kept.anatomy.pieces k ≡ some p
  there = holds.4.1

  abbrev pub told : Anatomy
  told = with_piece kept.anatomy k (record { at = at; owner = none; body = body })

  not_queue : k ≢ 0
  not_queue first =
      let five = (kept.blocks k p there refl).1 in
      let four = (first_piece shape words kept.anatomy kept.shown p (subst (λ (m : ℕ). get_elem? kept.anatomy.pieces m ≡ some p) first there)).2 in
      omega (arith, five, four)

  pub told_shown : IsShown shape words (layout_of told)
  told_shown = relabelled shape words kept.anatomy k p (record { at = at; owner = none; body = body }) kept.shown there not_queue (omega arith) holds.5 refl

  pub told_stands : Stands told.pieces at none body
  told_stands = (k, set_at kept.anatomy.pieces k p (record { at = at; owner = none; body = body }) there)

-- ---- a record that is passed over

module _ (shape : Dimensions) (opened : Anatomy) (words : List ℕ) (kept : AreLaid shape opened words) (front : List Listed) (at : ℕ) (r : Record)
    (over : IsPassedOver kept.anatomy.version shape.page kept.anatomy.pieces front at r) where
  -- a word of it
  pub passed_word : (j : ℕ) → j < 15 → field_at words at j ≡ slice_index (record_words r) j
  passed_word j below =
      record_word shape words (told shape opened words kept at (histogram r) over.stands) (told_shown shape opened words kept at (histogram r) over.stands) at r j
      (told_stands shape opened words kept at (histogram r) over.stands) below

  -- it says its name
  pub passed_named : consistent.HasName words r.name at
  passed_named = (
    passed_word 2 (omega arith),
    record_name shape words (told shape opened words kept at (histogram r) over.stands) (told_shown shape opened words kept at (histogram r) over.stands)
        kept.anatomy.version at r (told_stands shape opened words kept at (histogram r) over.stands) over.lawful,
  )
