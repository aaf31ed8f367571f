use Rattle.std.proofs.Common.{◌≡◌, ◌∙◌, ℕ, ◌≤◌, arith, length, true, false, nat_lt, sym, ap, subst}
use Rattle.std.specs.Prelude.{Bool, Some, ◌&&◌, max, option_map, suc}
use Rattle.segment_image.specs.Words.{word_at}
use Rattle.stepped.specs.Meaning.{is_at, is_sought, least, spot}
use Rattle.stepped.proofs.Blocks.{least_here, least_kept, least_lacks, none_behind, none_from}
use Rattle.stepped.proofs.meaning.find_block.Goals as goal

pub returns-then-at-words-clause-first : goal.returns-then-at-words-clause-first
returns-then-at-words-clause-first c =
    let words = c.args.words.now in let sought = c.args.sought in let n = c.loop.counter in let at = c.loop.invariant.0 in
    let ended : length words ≤ spot words n = omega (arith, at, c.if-at-words.true) in
    sym (ap (option_map (spot words)) (least_lacks (is_at words sought) n (length words) (omega (arith, c.loop-test.true)) c.loop.invariant.1 (none_behind words sought n ended)))

pub returns-then-is_sought-clause-first : goal.returns-then-is_sought-clause-first
returns-then-is_sought-clause-first c =
    let words = c.args.words.now in let sought = c.args.sought in let n = c.loop.counter in let at = c.loop.invariant.0 in
    let near : nat_lt (spot words n) (length words) ≡ true = grind (arith, at, c.if-at-words.false) in
    let found : is_sought words sought (spot words n) ≡ true = ap (is_sought words sought) (sym at) ∙ (sym c.is_sought.ensures ∙ c.if-is_sought.true) in
    let here : is_at words sought n ≡ true = ap (λ (b : Bool). b && is_sought words sought (spot words n)) near ∙ found in
    let all : least (is_at words sought) (length words) ≡ Some n =
    least_kept (is_at words sought) (suc n) (length words) n (omega (arith, c.loop-test.true)) (least_here (is_at words sought) n c.loop.invariant.1 here) in
    ap Some at ∙ sym (ap (option_map (spot words)) all)

pub returns-then-size-words-clause-first : goal.returns-then-size-words-clause-first
returns-then-size-words-clause-first c =
    let words = c.args.words.now in let sought = c.args.sought in let n = c.loop.counter in let at = c.loop.invariant.0 in
    let near : nat_lt (spot words n) (length words) ≡ true = grind (arith, at, c.if-at-words.false) in
    let lacks : is_sought words sought (spot words n) ≡ false = ap (is_sought words sought) (sym at) ∙ (sym c.is_sought.ensures ∙ c.if-is_sought.false) in
    let here : is_at words sought n ≡ false = ap (λ (b : Bool). b && is_sought words sought (spot words n)) near ∙ lacks in
    let ended : length words ≤ spot words (suc n) =
    let size : c.max-size.result ≡ max (word_at words (spot words n)) 1 = subst (λ (k : ℕ). c.max-size.result ≡ max (word_at words k) 1) at c.max-size.ensures in
    omega (arith, at, size, c.if-size-words.true) in
    sym (ap (option_map (spot words)) (least_lacks (is_at words sought) n (length words) (omega (arith, c.loop-test.true)) c.loop.invariant.1 (none_from words sought n here ended)))
