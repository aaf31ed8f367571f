use Rattle.std.proofs.Common.{◌≡◌, ◌∙◌, ◌↔◌, true, map, take, ap, sym, subst}
use Rattle.std.proofs.lemmas.List.{take-map}
use Rattle.reading_sums.specs.Views.{part_of}
use Rattle.reading_sums.specs.Whole.{AreWhole}
use Rattle.sum_texts.proofs.Formed.{formed-answer}
use Rattle.sum_texts.proofs.reading_back.are_formed.Goals as goal

pub returns-clause-formed : goal.returns-clause-formed
returns-clause-formed c whole fits is =
    let parts : map part_of c.in_ok-notes.field-0.hists.items ≡ whole.parts =
    ap (λ w. w.parts) (c.in_ok-notes.ensures.back whole fits is) in
    let same : map part_of c.truncate.new.self.items ≡ take c.args.count whole.parts =
    ap (map part_of) c.truncate.ensures.items ∙ (sym (take-map part_of c.args.count c.in_ok-notes.field-0.hists.items) ∙ ap (take c.args.count) parts) in
    formed-answer c.is_some.result c.truncate.new.self.items (take c.args.count whole.parts) same
    (subst (λ b. (b ≡ true) ↔ AreWhole c.truncate.new.self.items) (sym c.is_some.ensures) c.in_ok-from_hists.ensures.whole)
