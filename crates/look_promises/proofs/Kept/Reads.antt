-- A look reads as histograms that were published, with counts of its run.
use Rattle.look_promises.specs.Reading.{LooksRead}
use Rattle.look_promises.proofs.Copies.ThreeCopies.{three_copies}
use Rattle.look_promises.proofs.Looked.Anatomy.{anatomy, is_taken_so}
use Rattle.look_promises.proofs.Looked.Bounds.{in_bounds}
use Rattle.look_promises.proofs.Looked.Reading.{look_reads}
use Rattle.look_promises.proofs.Kept.Records.{records_kept}

pub looks_read : LooksRead
looks_read shape opened at first last moments one two three image reading run loaded look is =
    let copies = three_copies shape opened at first last moments one two three run loaded in let records = records_kept copies image
    (anatomy copies image look)
    (is_taken_so copies image look) in
    look_reads copies image look records
    (in_bounds copies image look records) reading is
