use Rattle.std.proofs.Common.{◌∙◌, ap}
use Rattle.std.specs.List.{flat_map, list_all}
use Rattle.std.proofs.lemmas.List.{take_all}
use Rattle.reading_shows.specs.Escapes.{escaped_byte, is_inert}
use Rattle.reading_shows.proofs.Inert.{inert-escaped}
use Rattle.reading_shows.proofs.escapes.escaped.Goals as goal

pub returns-clause-inert : goal.returns-clause-inert
returns-clause-inert c =
    let name = c.args.name.now in
    ap (list_all is_inert) (c.loop-byte.invariant ∙ ap (flat_map escaped_byte) (take_all c.loop-byte.byte-index name c.loop-byte-test.false))
    ∙ inert-escaped name
