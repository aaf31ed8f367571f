use Rattle.std.proofs.Common.{◌≡◌, ◌∙◌, ◌++◌, ◌∷◌, ◌+◌, false, drop, refl, ap, sym, subst, arith}
use Rattle.std.specs.List.{flat_map}
use Rattle.std.proofs.lemmas.Option.{same_Some}
use Rattle.reading_sums.specs.declared.key.KeySum.{KeySum}
use Rattle.sum_texts.specs.Lines.{FitsKey, key_fields, line_bytes}
use Rattle.sum_texts.specs.Runs.{bytes_of, begins, key_block}
use Rattle.sum_texts.proofs.Fronts.{Left, left_more, left_done, left_wrong, begins_within, line_at, line_is, found_more, some_at}
use Rattle.sum_texts.proofs.runs.keys_in.Goals as goal

pub returns-in_default-clause-only : goal.returns-in_default-clause-only
returns-in_default-clause-only c =
    let within = begins_within 107 c.args.lines.now c.run.at (sym c.run-test.ensures) in
    left_wrong KeySum key_block FitsKey (λ behind. begins 107 behind ≡ false) (bytes_of (drop c.args.start c.args.lines.now)) c.run.keys.items
    (bytes_of (drop c.run.at c.args.lines.now)) 107 c.run.invariant.left (λ behind ends. ends) (sym c.run-test.ensures)
    (λ x more behind fits all ends is. c.in_default.not-Some x (c.in_ok-key.ensures.only x fits (line_is c.args.lines.now c.run.at _ _ _ within is).0))

pub run-preserved : goal.run-preserved
run-preserved c =
    let lines = c.args.lines.now in
    let start = bytes_of (drop c.args.start lines) in
    let within = begins_within 107 lines c.run.at (sym c.run-test.ensures) in
    let said = some_at (λ one. _ ≡ line_bytes (key_fields one)) c.in_ok-key.field-0 c.in-Some.key c.in-Some.is c.in_ok-key.ensures.found in
    let here : bytes_of (drop c.run.at lines) ≡ key_block c.in-Some.key ++ bytes_of (drop (c.run.at + 1) lines) =
    line_at lines c.run.at _ within ∙ ap (λ line. line ∷ bytes_of (drop (c.run.at + 1) lines)) said in record {
      within = omega arith;
      further = omega arith;
      found =
          subst (λ all. start ≡ flat_map key_block all ++ bytes_of (drop (c.run.at + 1) lines)) (sym c.in_ok-push.ensures.items)
          (found_more KeySum key_block start c.run.keys.items (bytes_of (drop c.run.at lines)) c.in-Some.key (bytes_of (drop (c.run.at + 1) lines)) c.run.invariant.found here);
      left =
          subst (λ all. Left KeySum key_block FitsKey (λ behind. begins 107 behind ≡ false) start all (bytes_of (drop (c.run.at + 1) lines))) (sym c.in_ok-push.ensures.items)
          (left_more KeySum key_block FitsKey (λ behind. begins 107 behind ≡ false) start c.run.keys.items (bytes_of (drop c.run.at lines)) 107 c.in-Some.key
          (bytes_of (drop (c.run.at + 1) lines)) c.run.invariant.left (λ behind ends. ends) (sym c.run-test.ensures)
          (λ x more behind fits all ends is.
          let at = line_is lines c.run.at _ _ _ within is in (same_Some _ _ (sym c.in-Some.is ∙ c.in_ok-key.ensures.only x fits at.0), at.1)));
    }

pub returns-clause-only : goal.returns-clause-only
returns-clause-only c =
    left_done KeySum key_block FitsKey (λ behind. begins 107 behind ≡ false) (bytes_of (drop c.args.start c.args.lines.now)) c.run.keys.items
    (bytes_of (drop c.run.at c.args.lines.now)) 107 c.run.invariant.left (λ x lines. refl) (sym c.run-test.ensures)
