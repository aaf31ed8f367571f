use Rattle.std.proofs.Common.{◌≡◌, ◌<◌, ◌^◌, All, Ok, refl, ◌∙◌, arith}
use Rattle.std.proofs.lemmas.Grind.{get_or_default_zero}
use Rattle.segment_image.specs.Head.{head_of}
use Rattle.persist_report_core.specs.Input.{image_in}
use Rattle.persist_commands.proofs.resuming.adopt_words.Goals as goal

pub returns-clause-base : goal.returns-clause-base
returns-clause-base c =
    let all = c.args.words.now in
    let fit : All (λ word. word < 2 ^ 64) all = λ k d h. rw (get_or_default_zero all k d h) (omega (arith, c.type_inv.words k)) in
    let adopted = rw c.image_in-image.ensures at c.in-Ok.ensures.answer in
    let both : Ok c.in-Ok-header.head ≡ Ok (head_of (image_in all)) = (rw c.image_in-image.ensures at c.in-Ok-header.ensures) ∙ adopted.adoptable.header in
    (adopted, cc both, record { all = all; fit = fit; bytes_are = refl; image_is = refl })
