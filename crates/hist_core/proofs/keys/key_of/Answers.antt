use Rattle.std.proofs.Common.{sym, ◌∙◌, rules}
use Rattle.segment_machine.proofs.Keys.{keys_are_least}
use Rattle.segment_promises.proofs.Calls.SpecBuckets.{found_is}
use Rattle.hist_core.proofs.keys.key_of.Goals as goal

pub returns-then-len-gt0 : goal.returns-then-len-gt0
returns-then-len-gt0 c =
    let found = found_is c.args.ranges.now c.args.value c.bucket.result c.ranges.value c.bucket.ensures.found in
    search rules ∙ c.low.ensures.value ∙ sym (keys_are_least c.args.ranges.now c.args.value c.bucket.result c.requires found)
