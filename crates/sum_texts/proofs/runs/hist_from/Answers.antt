use Rattle.std.proofs.lemmas.Result.{err_from_is_err_and}
use Rattle.std.proofs.Common.{Err, Bor, List, ℕ, ◌≡◌, ◌∙◌, ◌++◌, ◌∷◌, ◌+◌, [], drop, option_map, ap, sym, arith}
use Rattle.std.proofs.lemmas.Option.{same_Some}
use Rattle.reading_sums.specs.Views.{part_of}
use Rattle.sum_texts.specs.Lines.{hist_fields, line_bytes}
use Rattle.sum_texts.specs.Runs.{bytes_of, part_block}
use Rattle.sum_texts.proofs.Fronts.{line_at, line_is, some_at, key_blocks, of_memory, gives_memory, part_with}
use Rattle.sum_texts.proofs.runs.hist_from.Goals as goal

pub returns-in_err-keys-clause-only : goal.returns-in_err-keys-clause-only
returns-in_err-keys-clause-only c part behind fits ends is =
    let none : Bor (List ℕ) = record { ref_ptr = (0, 0); now = [] } in
    let at = line_is c.args.lines.now c.args.start none _ _ (omega arith) is in
    let failed = of_memory c.in_err-keys.field-0.0 _ (c.in_err-keys.ensures.only part.keys behind fits.keys ends (at.1 ∙ ap (λ some. some ++ behind) (key_blocks part.keys))) in
    let passed = err_from_is_err_and c.from_residual-in_err-keys.result c.from_residual-in_err-keys.ensures.1 in
    gives_memory c.in_err-keys.field-0.0 c.from_residual-in_err-keys.result _ (passed.1 ∙ ap Err passed.2) failed

pub returns-clause-found : goal.returns-clause-found
returns-clause-found c =
    let lines = c.args.lines.now in
    let said = some_at (λ hist. _ ≡ line_bytes (hist_fields (part_of hist))) c.in_ok-head.field-0 c.in-Some.head c.in-Some.is c.in_ok-head.ensures.found in
    let behind = bytes_of (drop c.in_ok-keys.behind lines) in
    line_at lines c.args.start _ (omega arith)
    ∙ (ap (λ line. line ∷ bytes_of (drop (c.args.start + 1) lines)) said
    ∙ (ap (λ rest. line_bytes (hist_fields (part_of c.in-Some.head)) ∷ rest)
    (c.in_ok-keys.ensures.found ∙ ap (λ keys. keys ++ behind) (sym (key_blocks c.in_ok-keys.keys.items)))
    ∙ ap (λ part. part_block part ++ behind) (sym c.with_keys.ensures)))

pub returns-clause-only : goal.returns-clause-only
returns-clause-only c part behind fits ends is =
    let lines = c.args.lines.now in
    let at = line_is lines c.args.start _ _ _ (omega arith) is in
    let head : part_of c.in-Some.head ≡ part_with [] part = same_Some _ _ (sym (ap (option_map part_of) c.in-Some.is) ∙ c.in_ok-head.ensures.only part fits at.0) in
    let keys = c.in_ok-keys.ensures.only part.keys behind fits.keys ends (at.1 ∙ ap (λ some. some ++ behind) (key_blocks part.keys)) in
    (c.with_keys.ensures ∙ (ap (part_with c.in_ok-keys.keys.items) head ∙ ap (λ some. part_with some part) keys.0), keys.1)
