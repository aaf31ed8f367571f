use Rattle.std.proofs.Common.{◌-◌, rules}
use Rattle.live_segment.proofs.lemmas.Alloc.Taken.{few_waste, is_raised, is_sized}
use Rattle.live_segment.proofs.segment.Segment.waste.Goals as goal

pub store_size-requires-clause-may : goal.store_size-requires-clause-may
store_size-requires-clause-may c = record {
  table = search rules;
  recorder = search rules;
  ready = (
    c.args.words,
    is_raised c.args.seat.now.me.0 c.args.free c.args.next c.args.words c.exchange_free.result c.if-exchange_free-free.true _ c.exchange_free.ensures.view,
  );
}

pub store_cookie-requires-clause-may : goal.store_cookie-requires-clause-may
store_cookie-requires-clause-may c = record {
  table = search rules;
  recorder = search rules;
  ready = (
    c.args.next - c.args.free,
    c.args.words,
    is_sized c.args.seat.now.me.0 c.args.free c.args.next c.args.words c.exchange_free.result c.if-exchange_free-free.true _ c.exchange_free.ensures.view
        _ (c.args.next - c.args.free) c.store_size.ensures.view,
    few_waste (c.args.next - c.args.free) c.args.words c.requires.short,
  );
}
