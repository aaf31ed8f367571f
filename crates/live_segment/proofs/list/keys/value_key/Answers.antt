use Rattle.std.proofs.Common.{◌≡◌, rules, ap, ◌∙◌, w32, w64, ℤ, to_z, of_z, FitsSigned}
use Rattle.std.specs.Int.{cast_unsigned}
use Rattle.std.proofs.lemmas.Int.{to_z-of_z}
use Rattle.live_segment.specs.List.Keys.{sample_key}
use Rattle.live_segment.proofs.list.keys.value_key.Goals as goal

pub returns : goal.returns
returns c =
    let wide : FitsSigned w64 c.args.value = search rules in
    let word_is : c.cast_unsigned-word.result ≡ cast_unsigned w64 c.args.value =
    c.cast_unsigned-word.ensures
    ∙ (ap (λ (v : ℤ). of_z w64 (to_z w64 (of_z w64 v))) (c.from.ensures ∙ to_z-of_z w32 c.args.value c.ranges.value)
    ∙ ap (of_z w64) (to_z-of_z w64 c.args.value wide)) in
    c.sample_key.ensures ∙ ap (sample_key c.args.histogram) word_is
