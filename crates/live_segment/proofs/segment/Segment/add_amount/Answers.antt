use Rattle.std.proofs.Common.{◌≡◌, ℕ, ◌+◌, ◌%◌, ◌^◌, [], ◌∷◌, rules, refl, ap, sym, ◌∙◌, subst, w64, arith}
use Rattle.std.specs.Int.{cast_unsigned}
use Rattle.std.proofs.lemmas.Int.{to_z-of_z}
use Rattle.std.specs.Prelude.{FitsSigned}
use Rattle.atomic_table.specs.Table.{Allows}
use Rattle.segment_machine.specs.Event.{counting_event}
use Rattle.segment_machine.specs.Counting.{add_sum}
use Rattle.segment_machine.specs.Note.{amounts}
use Rattle.live_segment.specs.Rule.{Runs}
use Rattle.live_segment.specs.Steps.GhostNotes.{InSum, IsAddedToSum, TellsOf}
use Rattle.live_segment.proofs.lemmas.Steps.GhostNoted.{tells, one_summed}
use Rattle.live_segment.proofs.lemmas.Steps.Reported.{noted}
use Rattle.live_segment.proofs.segment.Segment.add_amount.Goals as goal

pub fetch_add-requires : goal.fetch_add-requires
fetch_add-requires c =
    let (x, fits, may) = c.requires.may in
    let given = c.args.self.now.table.shared.key in
    let word : ℕ = 1 + c.args.histogram + 11 in
    let number : ℕ = c.cast_unsigned.result in
    let at : word ≡ x.known.reference + 11 + 1 = let e = fits.0 in omega arith in
    let small : FitsSigned w64 x.amount = subst (FitsSigned w64) (sym fits.2) c.ranges.amount in
    let is : cast_unsigned w64 x.amount ≡ number = ap (cast_unsigned w64) (fits.2 ∙ sym (to_z-of_z w64 c.args.amount c.ranges.amount)) ∙ sym c.cast_unsigned.ensures in
    let Fits = λ (y : InSum). (word ≡ y.known.reference + 11 + 1) × IsAddedToSum c.args.seat.now.me.0 y.known.reference number y in
    let before = λ (y : InSum). amounts y.amount ∷ [] in
    let event = λ (y : InSum). counting_event (add_sum y.known.reference y.amount) in (
      search rules,
      search rules,
      subst (λ (k : ℕ). Allows (Runs given) c.args.self.now.table.shared.table_id.slots c.args.seat.now.id c.args.seat.now.me word (λ n. (n + k) % 2 ^ 64)
          (TellsOf InSum Fits before event [] c.args.seat.now.me)) is
          (tells given _ _ c.args.seat.now.me word may.recorder InSum Fits before event [] x
          (λ y (there, summed). one_summed c.args.seat.now.me.0 word number x y at there (refl, fits.1, is, small) summed) at may.may may.ready may.goes),
    )

pub returns : goal.returns
returns c = λ x fits.
    let small : FitsSigned w64 x.amount = subst (FitsSigned w64) (sym fits.2) c.ranges.amount in
    let is : cast_unsigned w64 x.amount ≡ c.cast_unsigned.result = ap (cast_unsigned w64) (fits.2 ∙ sym (to_z-of_z w64 c.args.amount c.ranges.amount)) ∙ sym c.cast_unsigned.ensures in
    noted c.fetch_add.ensures.0 c.fetch_add.ensures.1 (c.fetch_add.ensures.2 x (let e = fits.0 in omega arith, (refl, fits.1, is, small)))
