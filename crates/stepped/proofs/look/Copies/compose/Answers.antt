use Rattle.std.proofs.Common.{◌∙◌, ap}
use Rattle.stepped.specs.Look.{Look, begun_look, look_of}
use Rattle.stepped.proofs.Looked.{image_of}
use Rattle.stepped.proofs.look.Copies.compose.Goals as goal

pub returns-in-Ok : goal.returns-in-Ok
returns-in-Ok c =
    let same = c.in_ok-begin.ensures in
    image_of (begun_look (look_of c.args.self) 3 c.args.words.now) c.deref.result.now c.deref-2.result.now c.deref-3.result.now c.compose.result c.in-Ok.image
    (c.deref.ensures.value ∙ ap (λ (l : Look). l.one) same) (c.deref-2.ensures.value ∙ ap (λ (l : Look). l.two) same)
    (c.deref-3.ensures.value ∙ ap (λ (l : Look). l.three) same) c.compose.ensures c.in-Ok.is
