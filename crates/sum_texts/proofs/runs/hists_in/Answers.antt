use Rattle.std.proofs.lemmas.Result.{err_from_is_err_and}
use Rattle.std.proofs.Common.{Err, ◌≡◌, ◌∙◌, ◌++◌, ◌∷◌, [], false, drop, map, refl, ap, sym, subst}
use Rattle.std.specs.List.{flat_map, AllByRecursion}
use Rattle.std.proofs.lemmas.List.{map-append}
use Rattle.reading_sums.specs.Totals.{Part}
use Rattle.reading_sums.specs.Views.{part_of}
use Rattle.sum_texts.specs.Lines.{FitsPart, IsNamed}
use Rattle.sum_texts.specs.Runs.{bytes_of, begins, part_block}
use Rattle.sum_texts.proofs.Fronts.{Left, left_more, left_done, left_wrong, found_more, no_key_behind, of_memory, gives_memory, no_line, all_more, IsMemory}
use Rattle.sum_texts.proofs.runs.hists_in.Goals as goal

pub returns-in_err-hist-clause-only : goal.returns-in_err-hist-clause-only
returns-in_err-hist-clause-only c parts behind fit ends is =
    let e = c.in_err-hist.field-0.0 in
    let failed = no_line e (λ at is_line.
    left_wrong Part part_block FitsPart (λ behind. (begins 104 behind ≡ false) × (begins 107 behind ≡ false)) (bytes_of (drop c.args.start c.args.lines.now))
    (map part_of c.run.hists.items) (bytes_of (drop c.run.at c.args.lines.now)) 104 c.run.invariant.left (λ behind ends. ends.0) (sym c.run-test.ensures)
    (λ x more behind fits all ends is. subst IsMemory is_line (of_memory e _ (c.in_err-hist.ensures.only x (flat_map part_block more ++ behind) fits (no_key_behind more behind ends.1) is)))
    parts behind fit ends is) in
    let passed = err_from_is_err_and c.from_residual.result c.from_residual.ensures.1 in
    gives_memory e c.from_residual.result _ (passed.1 ∙ ap Err passed.2) failed

pub run-preserved : goal.run-preserved
run-preserved c =
    let lines = c.args.lines.now in
    let start = bytes_of (drop c.args.start lines) in
    let next = bytes_of (drop c.in_ok-hist.behind lines) in
    let part = part_of c.in_ok-hist.hist in
    let done = map part_of c.run.hists.items in
    let pushed : map part_of c.push.new.self.items ≡ done ++ part ∷ [] = ap (map part_of) c.in_ok-push.ensures.items ∙ map-append part_of c.run.hists.items (c.in_ok-hist.hist ∷ []) in record {
      within = c.in_ok-hist.ensures.within;
      lawful = subst (AllByRecursion IsNamed) (sym pushed) (all_more IsNamed done part c.run.invariant.lawful c.in_ok-hist.ensures.lawful);
      found =
          subst (λ all. start ≡ flat_map part_block all ++ next) (sym pushed)
          (found_more Part part_block start done (bytes_of (drop c.run.at lines)) part next c.run.invariant.found c.in_ok-hist.ensures.found);
      left =
          subst (λ all. Left Part part_block FitsPart (λ behind. (begins 104 behind ≡ false) × (begins 107 behind ≡ false)) start all next) (sym pushed)
          (left_more Part part_block FitsPart (λ behind. (begins 104 behind ≡ false) × (begins 107 behind ≡ false)) start done (bytes_of (drop c.run.at lines)) 104 part next
          c.run.invariant.left (λ behind ends. ends.0) (sym c.run-test.ensures)
          (λ x more behind fits all ends is. c.in_ok-hist.ensures.only x (flat_map part_block more ++ behind) fits (no_key_behind more behind ends.1) is));
    }

pub returns-clause-only : goal.returns-clause-only
returns-clause-only c =
    left_done Part part_block FitsPart (λ behind. (begins 104 behind ≡ false) × (begins 107 behind ≡ false)) (bytes_of (drop c.args.start c.args.lines.now))
    (map part_of c.run.hists.items) (bytes_of (drop c.run.at c.args.lines.now)) 104 c.run.invariant.left (λ x lines. refl) (sym c.run-test.ensures)
