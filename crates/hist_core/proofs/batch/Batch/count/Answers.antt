use Rattle.segment_invariant.proofs.Prelude.Std.{◌<◌, arith, length, refl, vec_len, props, ∥∥₁_elim}
use Rattle.hist_core.proofs.Left.Batches.{counts_less}
use Rattle.hist_core.proofs.Worlds.WorldStates.{is_there}
use Rattle.hist_core.proofs.BatchCall.Batching.{adds_there, fits_there, item_on, same_on, refused_on}
use Rattle.hist_core.specs.Add.{IsSomeAdd}
use Rattle.hist_core.proofs.AddCall.Counts.{lies_within}
use Rattle.hist_core.proofs.batch.Batch.count.Goals as goal

pub step-said-requires : goal.step-said-requires
step-said-requires c =
    let batch = c.args.self.now in let x = c.index_mut-item.result.now in
    let at = is_there batch.items.items (vec_len batch.items) batch.added x batch.items.ok.0 c.requires.near c.index_mut-item.ensures.value in
    let stands : ∥ IsSomeAdd (length c.args.words.now) x ∥₁ = ∥∥₁_elim c.requires.stands (hlevel props) (λ (shape, known, a, long, is).
    ∣ adds_there shape known batch a is c.requires.near x at (length c.args.words.now) long ∣₁) in
    record { stands = stands; inside = lies_within x c.args.words.now stands }

pub item_said-requires-clause-few : goal.item_said-requires-clause-few
item_said-requires-clause-few c =
    let batch = c.args.self.now in let x = c.index_mut-item.result.now in
    let at = is_there batch.items.items (vec_len batch.items) batch.added x batch.items.ok.0 c.requires.near c.index_mut-item.ensures.value in
    ∥∥₁_elim c.requires.stands (hlevel props) (λ (shape, known, a, long, is). fits_there shape known batch a is c.requires.near x at)

pub returns-clause-steps : goal.returns-clause-steps
returns-clause-steps c = λ shape known a long is.
    let batch = c.args.self.now in let x = c.index_mut-item.result.now in
    let at = is_there batch.items.items (vec_len batch.items) batch.added x batch.items.ok.0 c.requires.near c.index_mut-item.ensures.value in
    item_on shape known batch a is c.requires.near x at c.step-said.new.self c.step-said.ensures.same _ refl refl c.args.words.now c.step-said.new.words long
    c.step-said.result c.step-said.ensures.steps c.item_said.new.self c.item_said.result c.item_said.ensures

pub returns-clause-same : goal.returns-clause-same
returns-clause-same c =
    let batch = c.args.self.now in let x = c.index_mut-item.result.now in
    let at = is_there batch.items.items (vec_len batch.items) batch.added x batch.items.ok.0 c.requires.near c.index_mut-item.ensures.value in
    same_on batch x c.step-said.new.self at c.step-said.ensures.same _ refl refl c.step-said.result x.units c.item_said.new.self c.item_said.result c.item_said.ensures

pub returns-clause-refused : goal.returns-clause-refused
returns-clause-refused c = refused_on c.args.self.now _ c.item_said.new.self c.step-said.result c.index_mut-item.result.now.units c.item_said.result refl refl c.requires.near c.item_said.ensures

pub returns-clause-less : goal.returns-clause-less
returns-clause-less c =
    let batch = c.args.self.now in let x = c.index_mut-item.result.now in
    let at = is_there batch.items.items (vec_len batch.items) batch.added x batch.items.ok.0 c.requires.near c.index_mut-item.ensures.value in
    let near : batch.added < length batch.items.items = (let ok = batch.items.ok.0 in let less = c.requires.near in omega (arith, ok, less)) in
    counts_less batch x c.step-said.new.self at near c.args.words.now c.step-said.new.words _ refl refl c.step-said.result c.step-said.ensures.less x.units
    c.item_said.new.self c.item_said.result c.item_said.ensures
