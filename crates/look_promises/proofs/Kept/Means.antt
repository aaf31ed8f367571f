-- A histogram of a look has the units and the sum of one moment if its units are no more than its redundant count, and two copies have the same
-- word of its sum: the units stay until the second copy begins, and the sum stays between the two loads.
use Rattle.segment_invariant.proofs.Prelude.Std.{◌≡◌, ℕ, ◌+◌, ◌<◌, ◌≤◌, ℤ, List, flat_map, refl, sym, ap, ◌∙◌, arith, w64, cast_signed, All, Contains}
use Rattle.segment_invariant.proofs.Prelude.Machine.{word_at, head_of, Histogram, Reading, all_counted, all_summed, tally_sum, tally_units}
use Rattle.std.specs.Prelude.{◌≤ℤ◌}
use Rattle.std.proofs.Math.Decide.{dec_lt}
use Rattle.std.proofs.lemmas.Int.{ints}
use Rattle.bucket_ranges.specs.Reading.{IsReading}
use Rattle.segment_looks.specs.Looks.{IsLook}
use Rattle.segment_promises.specs.Reads.{begun_of, noted_at_opening, units_read}
use Rattle.segment_promises.proofs.Readings.Blocks.{words_read}
use Rattle.look_promises.specs.OneMoment.{CountsFirst, all_units_read, units_at_opening}
use Rattle.look_promises.specs.Sums.{NoneNegative, ReadingsTellTheirMeans}
use Rattle.look_promises.proofs.Copies.ThreeCopies.{ThreeCopies, three_copies, hd_of}
use Rattle.look_promises.proofs.Copies.Named.{one_within, two_within}
use Rattle.look_promises.proofs.Looked.Adopted.{words_kept}
use Rattle.look_promises.proofs.Kept.Sums.{says_its_sums, sum_inside, first_sum}
use Rattle.look_promises.proofs.Kept.SumsRise.{sums_rise}
use Rattle.look_promises.proofs.Kept.Then.{counted_least, noted_counted, of_then}
use Rattle.look_promises.proofs.Lives.Grows.{counted_rises}

module _ (copies : ThreeCopies) (image : List ℕ) (look : IsLook (hd_of copies) copies.one copies.two copies.three image)
    (counts : All CountsFirst (copies.at 0).actors) (reading : Reading) (is : IsReading image (head_of image) reading) (h : Histogram) (there : Contains reading.hists h)
    (opening : noted_at_opening copies.opened h.name ≤ units_at_opening (copies.at 0).actors h.name)
    (higher : NoneNegative (flat_map begun_of (copies.at copies.last).actors) h.name)
    (same : word_at copies.one (h.reference + 11) ≡ word_at copies.two (h.reference + 11)) (few : all_units_read h ≤ h.redundant) where
  open copies use {run, shape, at, first, last, moments, loaded}

  -- when its redundant count was loaded, and when the sum was, in the first copy and in the second
  abbrev noted : ℕ
  noted = moments.one (h.reference + 13)

  abbrev before : ℕ
  before = moments.one (h.reference + 11)

  abbrev behind : ℕ
  behind = moments.two (h.reference + 11)

  noted_inside : h.reference + 13 < shape.size
  noted_inside = (noted_counted copies image look counts reading is h there opening).0

  inside : h.reference + 11 < shape.size
  inside = sum_inside copies image look reading is h there

  -- its units are those of each moment from the load of the redundant count to the second copy
  units_at : (m : ℕ) → noted ≤ m → m ≤ last → ((j : ℕ) → j < shape.size → m ≤ moments.two j) → (key : ℤ)
      → units_read h key ≡ tally_units (all_counted (at m).actors) h.name key
  units_at m from upto until key =
      let was = of_then copies image look counts reading is h there opening few key in
      let more = counted_rises run noted m from h.name key in
      let least = counted_least copies image look m upto until h.name key in
      let units = ((words_read shape copies.opened image reading (words_kept copies image look) is).2 h there).units key in
      omega (arith, was, more, least, units)

  -- its sum is that of each moment between the two loads
  sum_at : (m : ℕ) → before ≤ m → m ≤ behind → h.sum ≡ tally_sum (all_summed (at m).actors) h.name
  sum_at m from upto =
      let (early, late) = two_within copies (h.reference + 11) inside in
      let read = (says_its_sums copies image look reading is h there).sum in
      let first_word = first_sum copies image look reading is h there same in
      let up = sums_rise run h.name last higher before m from (omega (arith, upto, late)) in
      let on = sums_rise run h.name last higher m behind upto late in
      omega (arith, ints, read, first_word, up, on)

  abbrev IsOfOneMoment : Type 0
  IsOfOneMoment = (moment : ℕ) × (first ≤ moment) × (moment ≤ last) × (h.sum ≡ tally_sum (all_summed (at moment).actors) h.name)
      × ((key : ℤ) → units_read h key ≡ tally_units (all_counted (at moment).actors) h.name key)

  pub of_one_moment : IsOfOneMoment
  of_one_moment =
      let (begin, end) = one_within copies (h.reference + 13) noted_inside in
      let (start, stop) = one_within copies (h.reference + 11) inside in
      let order = loaded.ordered.second (h.reference + 11) (h.reference + 11) inside inside in
      let noted_order = loaded.ordered.second (h.reference + 13) (h.reference + 11) noted_inside inside in
      elim (dec_lt noted before) [
        | yes later ↦ (
          before,
          start,
          stop,
          sum_at before (omega arith) order,
          units_at before (omega (arith, later)) stop (λ j lt. loaded.ordered.second (h.reference + 11) j inside lt),
        )
        | no sooner ↦ (
          noted,
          begin,
          end,
          sum_at noted (omega (arith, sooner)) noted_order,
          units_at noted (omega arith) end (λ j lt. loaded.ordered.second (h.reference + 13) j noted_inside lt),
        )
      ]

pub readings_tell_their_means : ReadingsTellTheirMeans
readings_tell_their_means shape opened at first last moments one two three image reading h run counts loaded look is there opening higher same few =
    of_one_moment (three_copies shape opened at first last moments one two three run loaded) image look counts reading is h there opening higher same few
