use Rattle.std.proofs.Common.{◌≡◌, ◌∙◌, ◌+◌, length, ap, sym, subst}
use Rattle.segment_image.specs.Words.{word_at}
use Rattle.list_core.specs.Walk.{said_of, GivesNext}
use Rattle.list_core.proofs.Walks.{gives_next}
use Rattle.list_core.proofs.walk.Walk.step.Goals as goal

pub returns-clause-chain : goal.returns-clause-chain
returns-clause-chain c head chain k free is le place =
    let says : c.said_of-said.result ≡ said_of (length c.args.words.now) (word_at c.args.words.now (c.args.self.now + 3)) =
    c.said_of-said.ensures ∙ ap (said_of (length c.args.words.now)) c.next.ensures in
    subst (GivesNext chain k) (sym says) (gives_next c.args.words.now chain head k c.args.self.now free is le place)
