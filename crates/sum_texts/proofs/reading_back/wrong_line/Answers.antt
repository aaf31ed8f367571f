use Rattle.std.proofs.Common.{◌≡◌, ◌∙◌, ◌≤◌, ◌+◌, map, length, take, min, sum_by, ap, sym, subst, arith}
use Rattle.std.proofs.lemmas.List.{length-map, take-map, take_all}
use Rattle.reading_sums.specs.Views.{part_of}
use Rattle.sum_texts.specs.Writable.{AreFormed, line_count, name_line}
use Rattle.sum_texts.proofs.Formed.{line-within}
use Rattle.sum_texts.proofs.Wholes.{vec_items_len}
use Rattle.sum_texts.proofs.reading_back.wrong_line.Goals as goal

pub returns-clause-line : goal.returns-clause-line
returns-clause-line c whole fits is not =
    let hists = c.in_ok-said.said.hists in
    let index = c.in_ok-index.index in
    let parts : map part_of hists.items ≡ whole.parts = ap (λ w. w.parts) (c.in_ok-said.ensures.back whole fits is) in
    let many : length whole.parts ≡ length hists.items = ap length (sym parts) ∙ length-map hists.items part_of in
    let all : length whole.parts ≤ c.len.result = omega (arith, many, vec_items_len hists, c.len.ensures) in
    let first = c.in_ok-index.ensures.first whole fits is (λ formed. not (subst AreFormed (take_all c.len.result whole.parts all) formed)) in
    let listed : map part_of (take index c.deref.result.now) ≡ map part_of (take index hists.items) = ap (λ all. map part_of (take index all)) c.deref.ensures.value in
    let before : map part_of (take index c.deref.result.now) ≡ take index whole.parts =
    listed ∙ (sym (take-map part_of index hists.items) ∙ ap (take index) parts) in
    let told = c.line_behind.ensures in
    let within : name_line whole.parts index ≤ length c.args.text.now = subst (λ text. name_line whole.parts index ≤ length text) (sym is) (line-within whole index) in
    let fits64 : min (name_line whole.parts index) 18446744073709551615 ≡ name_line whole.parts index = omega (arith, within) in record {
      index = index;
      first = first;
      number = told ∙ (ap (λ before. min (3 + sum_by line_count before) 18446744073709551615) before ∙ fits64);
    }
