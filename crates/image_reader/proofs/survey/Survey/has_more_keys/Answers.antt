-- What is left is the most without the keys so far.
use Rattle.std.proofs.Common.{◌≡◌, ◌<◌, ◌≤◌, ℕ, List, get_or, length, sum_by, take, arith, subst, sym, ap, ◌∙◌}
use Rattle.std.proofs.lemmas.Bool.{le-ltb, lt-ltb}
use Rattle.std.proofs.lemmas.List.{take_all}
use Rattle.std.proofs.lemmas.List.Sums.{sum_by_more, sum_by_more_le}
use Rattle.image_reader.specs.Survey.{keys_at}
use Rattle.image_reader.proofs.survey.Survey.has_more_keys.Goals as goal

pub returns-then-keys-left : goal.returns-then-keys-left
returns-then-keys-left c =
    let value = c.deref-reference-items.ensures.value in
    let read : List ℕ = c.args.self.now.hists.items in
    let i : ℕ = c.loop-reference.reference-index in
    let keys : ℕ → ℕ = keys_at c.args.words.now c.args.head.now c.args.self.now.references.items in
    let below : i < length read = subst (λ (read : List ℕ). i < length read) value c.loop-reference-test.true in
    let one : c.keys-keys.result ≡ keys (get_or read i 0) = c.keys-keys.ensures ∙ ap (λ (read : List ℕ). keys (get_or read i 0)) value in
    let many : c.args.most < sum_by keys read = omega (arith, c.loop-reference.invariant, one, sum_by_more_le keys read i 0 below, c.if-keys-left.true) in
    sym (lt-ltb c.args.most (sum_by keys read) many)

pub loop-reference-preserved : goal.loop-reference-preserved
loop-reference-preserved c =
    let value = c.deref-reference-items.ensures.value in
    let read : List ℕ = c.args.self.now.hists.items in
    let i : ℕ = c.loop-reference.reference-index in
    let keys : ℕ → ℕ = keys_at c.args.words.now c.args.head.now c.args.self.now.references.items in
    let below : i < length read = subst (λ (read : List ℕ). i < length read) value c.loop-reference-test.true in
    let one : c.keys-keys.result ≡ keys (get_or read i 0) = c.keys-keys.ensures ∙ ap (λ (read : List ℕ). keys (get_or read i 0)) value in
    omega (arith, c.loop-reference.invariant, one, sum_by_more keys read i 0 below, c.if-keys-left.false)

pub returns : goal.returns
returns c =
    let value = c.deref-reference-items.ensures.value in
    let read : List ℕ = c.args.self.now.hists.items in
    let i : ℕ = c.loop-reference.reference-index in
    let keys : ℕ → ℕ = keys_at c.args.words.now c.args.head.now c.args.self.now.references.items in
    let done : length read ≤ i = subst (λ (read : List ℕ). length read ≤ i) value c.loop-reference-test.false in
    let all : sum_by keys (take i read) ≡ sum_by keys read = ap (sum_by keys) (take_all i read done) in
    let few : sum_by keys read ≤ c.args.most = omega (arith, c.loop-reference.invariant, all) in
    sym (le-ltb c.args.most (sum_by keys read) few)
