use Rattle.std.proofs.Common.{rules, ◌∙◌, ℕ, ℤ, List, FitsSigned, subst}
use Rattle.std.specs.Int.{w128}
use Rattle.std.specs.Prelude.{MatchOption, Option}
use Rattle.std.specs.declared.alloc.Global.{Global}
use Rattle.std.specs.declared.vec.Vec.{Vec}
use Rattle.std.proofs.lemmas.Int.{to_z-of_z}
use Rattle.image_reader.specs.Views.{histogram_view}
use Rattle.segment_merge.specs.Marks.{AreAscending, AreMarksOf, HasFewer}
use Rattle.segment_merge.proofs.MarkedSteps.{has_note}
use Rattle.segment_merge.proofs.marked.marked_by.Goals as goal

pub returns-in-Some : goal.returns-in-Some
returns-in-Some c =
    let found : AreMarksOf c.deref.result.now c.deref-2.result.now c.in-Some.units.items =
    subst (λ (found : Option (Vec ℕ Global)). MatchOption found
    (AreAscending c.deref.result.now → AreAscending c.deref-2.result.now → HasFewer c.deref.result.now c.deref-2.result.now)
    (λ (marks : Vec ℕ Global). AreMarksOf c.deref.result.now c.deref-2.result.now marks.items))
    c.in-Some.is c.in_ok-units.ensures in
    let are : AreMarksOf c.args.note.now.counts.items c.args.hist.counts.items c.in-Some.units.items =
    subst (λ (both : List (ℤ × ℕ) × List (ℤ × ℕ)). AreMarksOf both.0 both.1 c.in-Some.units.items)
    (λ i. (c.deref.ensures.value i, c.deref-2.ensures.value i)) found in
    let fits : FitsSigned w128 c.args.note.now.sum = search rules in
    has_note (histogram_view c.args.note.now) (histogram_view c.args.hist) (histogram_view c.with_marks.result) c.in-Some.units.items
    (c.with_marks.ensures ∙ (λ i. record (histogram_view c.args.hist) { marks = c.in-Some.units.items; sum_mark = to_z-of_z w128 c.args.note.now.sum fits i }))
    are c.requires (c.is_same.ensures.0 (search rules))
