-- What a check returns, from what it found.
use Rattle.std.proofs.Common.{◌≡◌, Bool, true, false, ℕ, ◌≤◌, List, Ok, refl, sym, ap, subst, ◌∙◌}
use Rattle.std.specs.Prelude.{Decides}
use Rattle.std.proofs.lemmas.Bool.Decides.{Decides-like}
use Rattle.segment_image.specs.Head.{header_of, header_checks, head_of}
use Rattle.segment_image.specs.declared.head.SegmentHead.{SegmentHead}
use Rattle.bucket_ranges.specs.Reading.{IsListed, Reading, reading_along}
use Rattle.image_reader.proofs.Headers.{checked_ok}
use Rattle.image_rules.specs.Adoption.{IsAdoptable, IsUndamaged, used_of}
use Rattle.image_rules.specs.Adoption.{HasNoFault}
use Rattle.image_adoption.specs.Checking.{IsAdoption, IsFaultOf, IsIntact, Reads}
use Rattle.image_adoption.specs.Conditions.{IsWholeImage}
use Rattle.image_adoption.specs.Damage.{IsDamageOf}
use Rattle.image_adoption.specs.declared.checking.Adoptable.{Adoptable}
use Rattle.segment_calls.specs.declared.adopt_fault.AdoptFault.{AdoptFault}
use Rattle.segment_calls.specs.declared.adopt_fault.AdoptFault.TheVariants.{Image, OldVersion, Corrupt, Damaged, NoUnits, BadCursors, NoMemory}

module _ (words : List ℕ) (head : SegmentHead) (header : header_of words ≡ Ok head) where
  same : head_of words ≡ head
  same = (checked_ok (header_checks words) (head_of words) head header).1

  lawful : header_of words ≡ Ok (head_of words)
  lawful = header ∙ ap Ok (sym same)

  pub old_version : (cursors : ℕ) → (head.version ≡ 2 → ⊥) → IsFaultOf words cursors OldVersion
  old_version cursors other = (lawful, λ two. other (ap (λ (h : SegmentHead). h.version) (sym same) ∙ two))

  pub corrupt : (cursors : ℕ) → head.version ≡ 2 → head.corrupt ≡ true → IsFaultOf words cursors Corrupt
  corrupt cursors two set = (lawful, ap (λ (h : SegmentHead). h.version) same ∙ two, ap (λ (h : SegmentHead). h.corrupt) same ∙ set)

  pub intact : head.version ≡ 2 → head.corrupt ≡ false → IsIntact words
  intact two clear = record {
    header = lawful;
    version = ap (λ (h : SegmentHead). h.version) same ∙ two;
    intact = ap (λ (h : SegmentHead). h.corrupt) same ∙ clear;
  }

  pub reads : (references : List ℕ) (reading : Reading) → IsListed words head references → reading ≡ reading_along words head references
      → Reads words references reading
  reads references reading listed along = record {
    listed = subst (λ (h : SegmentHead). IsListed words h references) (sym same) listed;
    along = subst (λ (h : SegmentHead). reading ≡ reading_along words h references) (sym same) along;
  }

  -- damaged words, and memory that ran out, give their own faults
  pub damage_is : (cursors : ℕ) (fault : AdoptFault) → head.version ≡ 2 → head.corrupt ≡ false → IsDamageOf words head fault → IsFaultOf words cursors fault
  damage_is cursors (Image fault) two clear why = absurd why
  damage_is cursors OldVersion two clear why = absurd why
  damage_is cursors Corrupt two clear why = absurd why
  damage_is cursors Damaged two clear (references, listed, broken) = (
    intact two clear,
    references,
    reading_along words head references,
    reads references (reading_along words head references) listed refl,
    broken,
  )
  damage_is cursors NoUnits two clear why = absurd why
  damage_is cursors BadCursors two clear why = absurd why
  damage_is cursors NoMemory two clear why = tt

  -- an image that may be adopted, with what is known of it
  pub adoption_is : (cursors : ℕ) (adoptable : Adoptable) → IsListed words head adoptable.references.items
      → IsAdoptable words adoptable.references.items (reading_along words head adoptable.references.items)
      → adoptable.used ≡ used_of (reading_along words head adoptable.references.items) → cursors ≤ 8 → IsAdoption words cursors adoptable
  adoption_is cursors adoptable listed lawful used few =
      let references : List ℕ = adoptable.references.items in
      record {
        listed = subst (λ (h : SegmentHead). IsListed words h references) (sym same) listed;
        lawful = subst (λ (h : SegmentHead). IsAdoptable words references (reading_along words h references)) (sym same) lawful;
        used = subst (λ (h : SegmentHead). adoptable.used ≡ used_of (reading_along words h references)) (sym same) used;
        few = few;
      }

  -- if no record is bad, the rest decides whether an image is damaged
  pub undamaged_decides : (references : List ℕ) (reading : Reading) (whole : Bool) → HasNoFault reading
      → Decides whole (IsWholeImage words head references) → Decides whole (IsUndamaged words references reading)
  undamaged_decides references reading whole good test =
      Decides-like whole
      (λ (w : IsWholeImage words (head_of words) references). record {
        lawful = good;
        apart = w.apart;
        zeros = w.zeros;
        room = w.room;
        tail = w.tail;
        later = w.later;
        padded = λ at there one. (w.settled at there one).name;
        unused = λ at there one. (w.settled at there one).counts;
        packed = λ at there one. (w.settled at there one).mark;
      })
      (λ (u : IsUndamaged words references reading). record {
        room = u.room;
        zeros = u.zeros;
        tail = u.tail;
        settled = λ at there one. record {
          name = u.padded at there one;
          counts = u.unused at there one;
          mark = u.packed at there one;
        };
        later = u.later;
        apart = u.apart;
      })
      (subst (λ (h : SegmentHead). Decides whole (IsWholeImage words h references)) (sym same) test)

-- an image that is intact and not damaged, and has used no more units than there are, may be adopted
pub adoptable_of : (words references : List ℕ) (reading : Reading) → IsIntact words → IsUndamaged words references reading
    → used_of reading ≤ 4294967295 → IsAdoptable words references reading
adoptable_of words references reading intact undamaged few =
    record { header = intact.header; version = intact.version; intact = intact.intact; undamaged = undamaged; units = few }
