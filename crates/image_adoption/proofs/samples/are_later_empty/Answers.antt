-- The later samples that the reader finds are the later samples of the list.
use Rattle.std.proofs.Common.{◌≡◌, ℕ, ◌+◌, ◌≤◌, List, All, length, take, sym, ap, subst, ◌∙◌, arith}
use Rattle.std.proofs.lemmas.Bool.Decides.{Decides-like}
use Rattle.std.proofs.lemmas.List.{take_all}
use Rattle.image_reader.specs.Later.{later_samples}
use Rattle.image_adoption.specs.Conditions.{IsEmptySample}
use Rattle.image_adoption.proofs.Faultless.{faultless_of, sample_room}
use Rattle.image_adoption.proofs.LaterSamples.{all_told, later_empty, later_nothing, told_each}
use Rattle.image_adoption.proofs.samples.are_later_empty.Goals as goal

pub count_nothing-requires : goal.count_nothing-requires
count_nothing-requires c =
    let words = c.args.words.now in
    let head = c.args.head.now in
    let references : List ℕ = c.args.survey.now.references.items in
    let lawful = c.requires.survey.listed.walk.lawful in
    let faultless = faultless_of words head references lawful c.requires.good in
    let told : List ℕ = later_samples words head (take (length references) references) in
    let same : told ≡ c.deref.result.now =
    ap (later_samples words head) (take_all (length references) references (omega arith)) ∙ (sym c.requires.survey.later_are ∙ sym c.deref.ensures.value) in
    subst (All (λ at. at + 8 ≤ length words)) same
    (all_told words head references c.requires.good (λ at. at + 8 ≤ length words) (length references) (omega arith)
    (λ k below three later. sample_room words head _ c.requires.header (lawful k below) ((faultless k 0 below).sample three)))

pub returns : goal.returns
returns c =
    let words = c.args.words.now in
    let head = c.args.head.now in
    let references : List ℕ = c.args.survey.now.references.items in
    let told : List ℕ = later_samples words head (take (length references) references) in
    let same : c.deref.result.now ≡ told =
    c.deref.ensures.value ∙ (c.requires.survey.later_are ∙ ap (later_samples words head) (sym (take_all (length references) references (omega arith)))) in
    Decides-like c.count_nothing.result
    (λ all. later_empty words references
    (told_each words head references c.requires.good (IsEmptySample words) (length references) (omega arith) (subst (All (IsEmptySample words)) same all)))
    (λ empty. subst (All (IsEmptySample words)) (sym same)
    (all_told words head references c.requires.good (IsEmptySample words) (length references) (omega arith)
    (later_nothing words references c.requires.survey.listed.walk.distinct empty)))
    c.count_nothing.ensures
