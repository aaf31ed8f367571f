-- A look may be adopted unless the corrupt flag was loaded.
use Rattle.segment_invariant.proofs.Prelude.Std.{◌≡◌, ℕ, List, refl, ap, ◌∙◌, arith, not, bit_and, ◌==◌}
use Rattle.segment_invariant.proofs.Prelude.Machine.{head_of}
use Rattle.segment_looks.specs.Looks.{IsLook}
use Rattle.segment_invariant.specs.Invariant.{RecordsAreKept}
use Rattle.segment_invariant.specs.Words.{AreInBounds, WordsAreKept}
use Rattle.look_promises.specs.Looks.{head_loaded}
use Rattle.look_promises.specs.Reading.{LooksAreAdoptable}
use Rattle.look_promises.proofs.Copies.ThreeCopies.{ThreeCopies, three_copies, hd_of}
use Rattle.look_promises.proofs.Copies.Headers.{of_state}
use Rattle.look_promises.proofs.Words.Starting.{header_word}
use Rattle.segment_promises.proofs.Adopting.Kept.{adoptable}
use Rattle.look_promises.proofs.Looked.Anatomy.{seen_of, is_taken_so}
use Rattle.look_promises.proofs.Looked.Bounds.{in_bounds}
use Rattle.look_promises.proofs.Looked.Reading.{kept}
use Rattle.look_promises.proofs.Looked.Used.{used_fits}
use Rattle.look_promises.proofs.Kept.Records.{records_kept}

module _ (copies : ThreeCopies) (image : List ℕ) (look : IsLook (hd_of copies) copies.one copies.two copies.three image) where
  open copies use {shape, opened, at, moments}
  open seen_of copies image look use {of_look}

  pub its_records : RecordsAreKept shape.page of_look
  its_records = records_kept copies image of_look
      (is_taken_so copies image look)

  pub its_bounds : AreInBounds image of_look
  its_bounds = in_bounds copies image look its_records

  -- all holds of its words that the invariant says of words alone
  abbrev pub words_kept : WordsAreKept shape opened image
  words_kept = kept copies image look its_records its_bounds

  -- its corrupt flag is the one that was loaded
  corrupt_is : (head_of image).corrupt ≡ (head_loaded shape opened at moments.three).corrupt
  corrupt_is = ap (λ (w : ℕ). not (bit_and w 1 == 0))
      (header_word copies image look 6 (omega arith) (λ e. cc e) (λ e. cc e)
      ∙ of_state copies 6 (omega arith))

pub looks_are_adoptable : LooksAreAdoptable
looks_are_adoptable shape opened at first last moments one two three image references run loaded look intact listed =
    let copies = three_copies shape opened at first last moments one two three run loaded in adoptable shape opened image (words_kept copies image look) refl references
    (corrupt_is copies image look ∙ intact) listed
    (λ reading is. used_fits copies image look
    (its_records copies image look)
    (its_bounds copies image look) reading is)
