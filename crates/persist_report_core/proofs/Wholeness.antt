-- If a reading has no fault, all of it was read.
use Rattle.std.proofs.Common.{◌≡◌, ℕ, false, List, [], ◌∷◌, Option, Some, None, map, ap, refl}
use Rattle.std.specs.Prelude.{◌↔◌, is_some, option_map, slice_get}
use Rattle.segment_image.specs.declared.fault.ImageFault.{ImageFault}
use Rattle.bucket_ranges.specs.declared.reading.RecordFault.{RecordFault}
use Rattle.image_reader.specs.Views.{bad_view}
use Rattle.image_reader.specs.declared.reading.BadRecord.{BadRecord}
use Rattle.persist_report_core.specs.declared.fault.CliFault.TheVariants.{Bad, Stopped}
use Rattle.persist_report_core.specs.Damage.{first_damage}

pub whole_exactly : (bad : List (ℕ × RecordFault)) (stopped : Option ImageFault) → (is_some (first_damage bad stopped) ≡ false) ↔ ((bad ≡ []) × (stopped ≡ None))
whole_exactly (first ∷ others) stopped = (λ e. absurd (cc e), λ both. absurd (cc both.0))
whole_exactly [] (Some fault) = (λ e. absurd (cc e), λ both. absurd (cc both.1))
whole_exactly [] None = (λ e. (refl, refl), λ both. refl)

-- if there is a bad record, the first is the fault
pub first_is_bad : (all : List BadRecord) (bad : BadRecord) (stopped : Option ImageFault) → Some bad ≡ slice_get all 0 → Some (Bad bad.reference bad.fault) ≡ first_damage (map bad_view all) stopped
first_is_bad [] bad stopped is = absurd (cc is)
first_is_bad (one ∷ others) bad stopped is =
    let same : bad ≡ one = cc is in ap (λ (one : BadRecord). Some (Bad one.reference one.fault)) same

-- if no record is bad, the list's stop is the fault
pub none_is_bad : (all : List BadRecord) (stopped : Option ImageFault) → None ≡ slice_get all 0 → first_damage (map bad_view all) stopped ≡ option_map Stopped stopped
none_is_bad [] (Some fault) is = refl
none_is_bad [] None is = refl
none_is_bad (one ∷ others) stopped is = absurd (cc is)
