-- One more is put after those before it.
use Rattle.std.proofs.Common.{◌≡◌, ◌<◌, ◌+◌, ◌++◌, ◌∷◌, [], List, map, length, take, append_assoc, ap, sym, subst, ◌∙◌, arith}
use Rattle.std.specs.List.{AllZip}
use Rattle.std.proofs.lemmas.List.{map_more}
use Rattle.reading_sums.specs.declared.hist.HistSum.{HistSum}
use Rattle.reading_sums.specs.Shown.{IsOtherOf}
use Rattle.reading_sums.specs.Totals.{Part}
use Rattle.reading_sums.specs.Views.{part_of}
use Rattle.reading_sums.proofs.Groups.{others-push}
use Rattle.reading_sums.proofs.shown.put_all.Goals as goal

pub loop-hist-preserved : goal.loop-hist-preserved
loop-hist-preserved c = λ parts before.
    let hists : List HistSum = c.args.hists.now in
    let x : HistSum = c.hist-item.result in
    let i = c.loop-hist.hist-index in
    let front : List Part = map part_of (take i hists) in
    let within : i < length hists = omega (arith, c.loop-hist-test.true) in
    let more : map part_of (take (i + 1) hists) ≡ front ++ part_of x ∷ [] = map_more part_of hists i x within ∙ ap (λ h. front ++ part_of h ∷ []) (sym c.hist-item.is) in
    let all : parts ++ map part_of (take (i + 1) hists) ≡ (parts ++ front) ++ part_of x ∷ [] = ap (λ z. parts ++ z) more ∙ sym (append_assoc parts front (part_of x ∷ [])) in
    let P : List Part → Type 0 = λ z. AllZip IsOtherOf z c.push.new.self.items in
    subst P (sym all) (others-push (parts ++ front) c.loop-hist.others.items c.push.new.self.items (part_of x) c.in_ok-other_of.field-0 c.in_ok-push.ensures.items
    (c.loop-hist.invariant parts before) c.in_ok-other_of.ensures)
