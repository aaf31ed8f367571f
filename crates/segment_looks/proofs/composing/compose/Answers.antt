-- The header of the third copy stays valid.
use Rattle.std.proofs.Common.{◌≡◌, true, All}
use Rattle.segment_image.specs.Blocks.{is_placed}
use Rattle.segment_looks.proofs.Headed.{header-patched}
use Rattle.segment_looks.proofs.composing.compose.Goals as goal

pub of-requires : goal.of-requires
of-requires c =
    let placed : All (λ at. is_placed c.in_ok-head.head at ≡ true) c.deref.result.now =
    rw c.deref.ensures.value c.in_ok-records.ensures.placed in
    header-patched c.in_ok-head.head c.args.one.now c.args.two.now c.args.three.now c.deref.result.now c.in_ok-words.words.items
    c.in_ok-head.ensures.copies placed c.in_ok-words.ensures
