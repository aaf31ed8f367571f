-- The number that does not fit is one of the list.
use Rattle.std.proofs.Common.{◌≡◌, ◌<◌, ◌^◌, ◌+◌, ◌∷◌, ◌++◌, [], List, length, map, take, get_or, ap, sym, subst, ◌∙◌, arith}
use Rattle.std.proofs.lemmas.Simd.{map-map}
use Rattle.std.proofs.lemmas.List.{map-append, map_more}
use Rattle.reading_sums.specs.Totals.{Part, raised_part}
use Rattle.reading_sums.specs.Views.{part_of}
use Rattle.std.proofs.lemmas.Result.{err_from_is_err_and}
use Rattle.std.proofs.lemmas.List.Elements.{All-more}
use Rattle.reading_sums.specs.declared.hist.HistSum.{HistSum}
use Rattle.reading_sums.proofs.LongSums.{number-long}
use Rattle.reading_sums.proofs.raised.raised_hists.Goals as goal

pub returns-in_err-raised_hist-clause-too_many : goal.returns-in_err-raised_hist-clause-too_many
returns-in_err-raised_hist-clause-too_many c =
    let p = err_from_is_err_and c.from_residual-in_err-raised_hist.result c.from_residual-in_err-raised_hist.ensures.1 in
    let within : c.loop-hist.hist-index < length c.args.hists.now = omega (arith, c.loop-hist-test.true) in
    rw (p.1, p.2) (number-long _ c.args.hists.now c.loop-hist.hist-index c.hist-item.result c.args.by within c.hist-item.is c.in_err-raised_hist.ensures.too_many)

pub loop-hist-preserved : goal.loop-hist-preserved
loop-hist-preserved c =
    let raise : HistSum → Part = λ hist. raised_part c.args.by (part_of hist) in
    let hists : List HistSum = c.args.hists.now in
    let before : List HistSum = take c.loop-hist.hist-index hists in
    let within : c.loop-hist.hist-index < length hists = omega (arith, c.loop-hist-test.true) in
    let here : part_of c.in_ok-raised_hist.field-0 ≡ raise (get_or hists c.loop-hist.hist-index c.hist-item.result) =
    c.in_ok-raised_hist.ensures.raised ∙ ap raise c.hist-item.is in
    let so_far : map part_of c.loop-hist.raised.items ≡ map raise before =
    c.loop-hist.invariant.0 ∙ map-map (raised_part c.args.by) part_of before in (
      ap (map part_of) c.in_ok-push.ensures.items
          ∙ (map-append part_of c.loop-hist.raised.items (c.in_ok-raised_hist.field-0 ∷ [])
          ∙ ((λ i. so_far i ++ here i ∷ [])
          ∙ (sym (map_more raise hists c.loop-hist.hist-index c.hist-item.result within)
          ∙ sym (map-map (raised_part c.args.by) part_of (take (c.loop-hist.hist-index + 1) hists))))),
      All-more (λ (hist : HistSum). hist.least + c.args.by < 2 ^ 64) hists c.loop-hist.hist-index c.hist-item.result within c.loop-hist.invariant.1
          (subst (λ (hist : HistSum). hist.least + c.args.by < 2 ^ 64) c.hist-item.is c.in_ok-raised_hist.ensures.fits),
    )
