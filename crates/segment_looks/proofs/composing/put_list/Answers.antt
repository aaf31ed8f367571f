-- The patches of a list are put on the words from its end to its start.
use Rattle.segment_looks.proofs.Patched.{IsPatched-list}
use Rattle.segment_looks.proofs.composing.put_list.Goals as goal

pub returns : goal.returns
returns c = IsPatched-list c.args.head.now c.args.one.now c.args.two.now c.args.three.now c.args.records.now _ _ _ _ _ _ _
    c.put_records-first.ensures.first c.last_of.ensures c.put_zeros.ensures c.put_records-first.ensures.patched c.put.ensures c.put-2.ensures
