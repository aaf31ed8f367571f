use Rattle.std.proofs.lemmas.Bool.Decides.{Decides-at}
use Rattle.image_adoption.proofs.Tails.{tail_decides}
use Rattle.image_adoption.proofs.ends.has_tail.Goals as goal

pub returns-else-tail-eq-QUEUE : goal.returns-else-tail-eq-QUEUE
returns-else-tail-eq-QUEUE c =
    Decides-at c.contains.result _ c.contains.ensures.value (tail_decides c.args.references.now c.args.tail c.if-tail-eq-QUEUE.false)
