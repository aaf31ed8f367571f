-- What is damaged in a reading that still has a text.
use Rattle.std.specs.Prelude.{◌≡◌, ℕ, List, [], ◌∷◌, Option, Some, None}
use Rattle.segment_image.specs.declared.fault.ImageFault.{ImageFault}
use Rattle.bucket_ranges.specs.declared.reading.RecordFault.{RecordFault}
use Rattle.bucket_ranges.specs.Reading.{Reading}
use Rattle.persist_report_core.specs.declared.fault.CliFault.{CliFault}
use Rattle.persist_report_core.specs.declared.fault.CliFault.TheVariants.{Bad, Stopped}

-- the fault of the first bad record; if none is bad, that of a list that stopped before its end
abbrev pub first_damage : List (ℕ × RecordFault) → Option ImageFault → Option CliFault
first_damage (bad ∷ others) stopped = Some (Bad bad.0 bad.1)
first_damage [] (Some fault) = Some (Stopped fault)
first_damage [] None = None

-- the fault of a reading that is not whole
abbrev pub damage_of : Reading → Option CliFault
damage_of reading = first_damage reading.bad reading.stopped

-- all of the image was read: no record is bad, and the list did not stop before its end
abbrev pub IsReadWhole : Reading → Type 0
IsReadWhole reading = (reading.bad ≡ []) × (reading.stopped ≡ None)
