use Rattle.segment_invariant.proofs.Prelude.Std.{◌≡◌, ◌≤◌, ◌<◌, ◌+◌, ℕ, List, length, sym, ap, subst, ◌∙◌, arith, slice_index, props, ∥∥₁_elim}
use Rattle.alloc_core.specs.Event as atomic
use Rattle.hist_core.specs.declared.new_record.NewRecord.{NewRecord}
use Rattle.hist_core.specs.declared.new_record.NewRecordStage.TheVariants.{Filling}
use Rattle.hist_core.specs.NewRecord.{IsSomeNewRecord, IsPayloadFilled}
use Rattle.hist_core.proofs.Left.Records.{filling_less}
use Rattle.hist_core.proofs.Makes.Fills.{fills_so, fill_bounds, fill_from}
use Rattle.hist_core.proofs.new_record.NewRecord.fill.Goals as goal

bounds : (m : NewRecord) (words payload : List ℕ) (at index : ℕ) → m.stage ≡ Filling at index → ∥ IsSomeNewRecord (length words) payload m ∥₁
    → (index < length payload) × (at + (4 + length payload) ≤ length words) × (length words ≤ 1048576)
bounds m words payload at index fills stands =
    ∥∥₁_elim stands (hlevel props) (λ (shape, wanted, a, long, its, is).
    subst (λ (l : List ℕ). (index < length l) × (at + (4 + length l) ≤ length words) × (length words ≤ 1048576)) its (fill_bounds shape 1 wanted m a words long is at index fills))

pub overflow_add-index : goal.overflow_add-index
overflow_add-index c = let inside = bounds c.args.self.now c.args.words.now c.args.payload.now c.args.at c.args.index c.requires.fills c.requires.stands in omega (arith, inside.0, inside.1, inside.2)

pub overflow_add-at : goal.overflow_add-at
overflow_add-at c = let inside = bounds c.args.self.now c.args.words.now c.args.payload.now c.args.at c.args.index c.requires.fills c.requires.stands in omega (arith, inside.0, inside.1, inside.2)

pub bounds-payload-index : goal.bounds-payload-index
bounds-payload-index c = (bounds c.args.self.now c.args.words.now c.args.payload.now c.args.at c.args.index c.requires.fills c.requires.stands).0

pub store-requires : goal.store-requires
store-requires c = let inside = bounds c.args.self.now c.args.words.now c.args.payload.now c.args.at c.args.index c.requires.fills c.requires.stands in omega (arith, inside.0, inside.1)

pub overflow_add-index-2 : goal.overflow_add-index-2
overflow_add-index-2 c = let inside = bounds c.args.self.now c.args.words.now c.args.payload.now c.args.at c.args.index c.requires.fills c.requires.stands in omega (arith, inside.0, inside.1, inside.2)

pub filled-requires : goal.filled-requires
filled-requires c = let inside = bounds c.args.self.now c.args.words.now c.args.payload.now c.args.at c.args.index c.requires.fills c.requires.stands in omega (arith, inside.0)

pub returns-clause-steps : goal.returns-clause-steps
returns-clause-steps c = λ shape version wanted a long its is.
    fills_so shape version wanted c.args.self.now a c.args.words.now long is c.args.at c.args.index c.requires.fills c.store.new.words c.filled.new.self
    (c.store.ensures.words ∙ ap (λ (l : List ℕ). atomic.after (atomic.store_payload c.args.at c.args.index (slice_index l c.args.index)) c.args.words.now) (sym its))
    (subst (λ (l : List ℕ). IsPayloadFilled l c.args.at (c.args.index + 1) c.filled.new.self) (sym its) c.filled.ensures)

pub offset_bounds-payload-index : goal.offset_bounds-payload-index
offset_bounds-payload-index c = let inside = bounds c.args.self.now c.args.words.now c.args.payload.now c.args.at c.args.index c.requires.fills c.requires.stands in omega (arith, inside.0, inside.1, inside.2)

pub returns-clause-less : goal.returns-clause-less
returns-clause-less c =
    let inside = bounds c.args.self.now c.args.words.now c.args.payload.now c.args.at c.args.index c.requires.fills c.requires.stands in
    filling_less c.args.payload.now c.args.words.now c.store.new.words c.args.self.now c.args.at c.args.index (slice_index c.args.payload.now c.args.index) c.requires.fills
    (∥∥₁_elim c.requires.stands (hlevel props)
    (λ (shape, wanted, a, long, its, is). fill_from shape 1 wanted c.args.self.now a c.args.words.now long is c.args.at c.args.index c.requires.fills))
    inside.0 c.filled.new.self c.store.ensures.words c.filled.ensures
