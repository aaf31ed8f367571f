use Rattle.std.proofs.Common.{◌∙◌, ap, arith, sym, vec_len}
use Rattle.hist_core.specs.Loading.{item_load}
use Rattle.hist_core.proofs.Exchanging.{beyond}
use Rattle.hist_core.proofs.Worlds.WorldStates.{is_there}
use Rattle.hist_core.proofs.batch.Batch.next_load.Goals as goal

pub returns : goal.returns
returns c =
    let batch = c.args.self.now in let x = c.index.result.now in
    c.next_load.ensures ∙ ap item_load (sym (is_there batch.items.items (vec_len batch.items) batch.added x batch.items.ok.0 (omega (arith, c.if-self-len.false, c.len.ensures)) c.index.ensures))

pub returns-then-self-len : goal.returns-then-self-len
returns-then-self-len c =
    let batch = c.args.self.now in
    beyond item_load batch.items.items batch.added (let long = batch.items.ok.0 in omega (arith, c.if-self-len.true, c.len.ensures, long))
