use Rattle.std.proofs.Common.{ap, ◌∙◌}
use Rattle.byteorder.specs.Endian.{big_number}
use Rattle.image_reader.proofs.NameKeys.{prefix_of-bytes}
use Rattle.image_reader.proofs.names.prefix.Goals as goal

pub returns : goal.returns
returns c =
    c.read_uint.ensures ∙ (ap (λ n. big_number n c.args.name.now) c.min.ensures ∙ prefix_of-bytes c.args.name.now)
