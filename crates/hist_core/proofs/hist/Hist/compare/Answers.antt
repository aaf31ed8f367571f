use Rattle.segment_invariant.proofs.Prelude.Std.{◌≡◌, ◌≤◌, ◌<◌, ◌+◌, ℕ, List, length, vec_len, sym, ap, subst, ◌∙◌, arith, slice_index, props, ∥∥₁_elim}
use Rattle.hist_core.specs.declared.hist.Hist.{Hist}
use Rattle.hist_core.specs.declared.hist.HistStage.TheVariants.{Comparing}
use Rattle.hist_core.specs.Hist.{IsSomeHist, compared_place, compared_index}
use Rattle.hist_core.proofs.Left.Hists.{differs_less, matches_less}
use Rattle.hist_core.proofs.Parts.Compares.{matches_so, differs_so, compare_bounds}
use Rattle.hist_core.proofs.Parts.Sames.{matched_asks, differed_asks}
use Rattle.hist_core.proofs.hist.Hist.compare.Goals as goal

bounds : (h : Hist) (words : List ℕ) (k : ℕ) → h.stage ≡ Comparing k → ∥ IsSomeHist (length words) h ∥₁
    → (h.reference + compared_index h.letters k < length words) × (length words ≤ 1048576) × (0 < k → compared_place h.letters k < vec_len h.payload)
    × (k < vec_len h.payload) × (h.letters < 1048576) × (k < 1048576)
bounds h words k compares stands =
    let inside : (h.reference + compared_index h.letters k < length words) × (length words ≤ 1048576) × (0 < k → compared_place h.letters k < length h.payload.items)
    × (k < length h.payload.items) × (h.letters < 1048576) × (k < 1048576) =
    ∥∥₁_elim stands (hlevel props) (λ (shape, a, long, is).
    subst (λ (n : ℕ). (h.reference + compared_index h.letters k < n) × (n ≤ 1048576) × (0 < k → compared_place h.letters k < length h.payload.items)
    × (k < length h.payload.items) × (h.letters < 1048576) × (k < 1048576)) (sym long) (compare_bounds shape h a is k compares)) in
    let count = h.payload.ok.0 in
    (inside.0, inside.1, (λ some. let within = inside.2 some in omega (arith, within, count)), omega (arith, inside.3, count), inside.4, inside.5)

pub compared_index-requires : goal.compared_index-requires
compared_index-requires c =
    let inside = bounds c.args.self.now c.args.words.now c.args.same c.requires.compares c.requires.stands in
    record { small = (omega (arith, inside.5), omega (arith, inside.4)) }

pub overflow_add-found : goal.overflow_add-found
overflow_add-found c =
    let inside = bounds c.args.self.now c.args.words.now c.args.same c.requires.compares c.requires.stands in
    let is = c.compared_index.ensures in omega (arith, inside.0, inside.1, is)

pub offset_bounds-words-self : goal.offset_bounds-words-self
offset_bounds-words-self c =
    let inside = bounds c.args.self.now c.args.words.now c.args.same c.requires.compares c.requires.stands in
    let is = c.compared_index.ensures in omega (arith, inside.0, inside.1, is)

pub bounds-words-self : goal.bounds-words-self
bounds-words-self c =
    let inside = bounds c.args.self.now c.args.words.now c.args.same c.requires.compares c.requires.stands in
    let is = c.compared_index.ensures in omega (arith, inside.0, is)

pub compared_word-requires-clause-small : goal.compared_word-requires-clause-small
compared_word-requires-clause-small c =
    let inside = bounds c.args.self.now c.args.words.now c.args.same c.requires.compares c.requires.stands in
    (omega (arith, inside.5), omega (arith, inside.4))

pub compared_word-requires-clause-inside : goal.compared_word-requires-clause-inside
compared_word-requires-clause-inside c = (bounds c.args.self.now c.args.words.now c.args.same c.requires.compares c.requires.stands).2

pub matched-requires : goal.matched-requires
matched-requires c = (bounds c.args.self.now c.args.words.now c.args.same c.requires.compares c.requires.stands).3

pub differed-requires : goal.differed-requires
differed-requires c =
    let inside = bounds c.args.self.now c.args.words.now c.args.same c.requires.compares c.requires.stands in omega (arith, inside.4)

pub returns-then-found-compared_word-clause-steps : goal.returns-then-found-compared_word-clause-steps
returns-then-found-compared_word-clause-steps c = λ shape version a long is.
    let there = ap (λ (n : ℕ). slice_index c.args.words.now (c.args.self.now.reference + n)) (sym c.compared_index.ensures) in
    matches_so shape c.args.self.now a is c.args.same c.requires.compares version c.args.words.now c.matched.new.self c.matched.result
    (there ∙ (c.if-found-compared_word.true ∙ c.compared_word.ensures)) c.matched.ensures

pub returns-else-found-compared_word-clause-steps : goal.returns-else-found-compared_word-clause-steps
returns-else-found-compared_word-clause-steps c = λ shape version a long is.
    let there = ap (λ (n : ℕ). slice_index c.args.words.now (c.args.self.now.reference + n)) (sym c.compared_index.ensures) in
    let found = c.type_inv.words (c.args.self.now.reference + compared_index c.args.self.now.letters c.args.same) in
    let own = c.compared_word.type_inv in
    let word = c.compared_word.ensures in
    differs_so shape c.args.self.now a is c.args.same c.requires.compares version c.args.words.now c.differed.new.self c.differed.result
    (λ same. c.if-found-compared_word.false (sym there ∙ (same ∙ sym c.compared_word.ensures)))
    (omega (arith, found)) (omega (arith, own, word)) c.differed.ensures

pub returns-then-found-compared_word-clause-asks : goal.returns-then-found-compared_word-clause-asks
returns-then-found-compared_word-clause-asks c = matched_asks c.args.self.now c.args.same c.matched.new.self c.matched.result c.matched.ensures

pub returns-else-found-compared_word-clause-asks : goal.returns-else-found-compared_word-clause-asks
returns-else-found-compared_word-clause-asks c = differed_asks c.args.self.now c.args.same c.differed.new.self c.differed.result c.differed.ensures

pub returns-then-found-compared_word-clause-less : goal.returns-then-found-compared_word-clause-less
returns-then-found-compared_word-clause-less c =
    matches_less c.args.self.now c.args.words.now c.args.same c.requires.compares c.matched.new.self c.matched.result c.matched.ensures

pub returns-else-found-compared_word-clause-less : goal.returns-else-found-compared_word-clause-less
returns-else-found-compared_word-clause-less c =
    differs_less c.args.self.now c.args.words.now c.args.same c.requires.compares c.differed.new.self c.differed.result c.differed.ensures
