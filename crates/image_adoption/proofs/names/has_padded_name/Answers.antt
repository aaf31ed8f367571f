use Rattle.std.proofs.Common.{◌≡◌, ◌+◌, ◌-◌, ◌%◌, arith, ap, refl, ◌∙◌, drop, length, length-drop}
use Rattle.std.specs.Prelude.{◌==◌}
use Rattle.std.specs.List.{list_all}
use Rattle.std.proofs.lemmas.Bool.Decides.{Decides-at}
use Rattle.std.proofs.lemmas.List.{take_all}
use Rattle.segment_image.specs.Blocks.{field_at}
use Rattle.image_adoption.proofs.Padding.{named_long, padded_decides}
use Rattle.image_adoption.proofs.names.has_padded_name.Goals as goal

pub returns : goal.returns
returns c =
    let words = c.args.words.now in
    let len = field_at words c.args.at 14 in
    let bytes = c.to_le_bytes-bytes.result in
    let long : length bytes ≡ 8 = ap length c.to_le_bytes-bytes.ensures in
    let (some, within) = named_long words c.args.at c.requires.name c.requires.within in
    Decides-at c.are_zeros.result _
    (c.are_zeros.ensures
    ∙ (ap (list_all (λ byte. byte == 0)) (take_all (8 - ((len - 1) % 8 + 1)) (drop ((len - 1) % 8 + 1) bytes) (omega (arith, length-drop ((len - 1) % 8 + 1) bytes, long)))
    ∙ ap (λ bytes. list_all (λ byte. byte == 0) (drop ((len - 1) % 8 + 1) bytes)) c.to_le_bytes-bytes.ensures))
    (padded_decides words c.args.at len refl some within)
