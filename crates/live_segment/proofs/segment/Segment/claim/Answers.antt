use Rattle.std.proofs.Common.{◌-◌, rules}
use Rattle.live_segment.proofs.lemmas.Alloc.Taken.{enough_claim, is_raised, is_sized, is_marked, is_claimed}
use Rattle.live_segment.proofs.segment.Segment.claim.Goals as goal

pub store_size-requires-clause-may : goal.store_size-requires-clause-may
store_size-requires-clause-may c = record {
  table = search rules;
  recorder = search rules;
  ready = (
    c.args.words,
    is_raised c.args.seat.now.me.0 c.args.free c.args.next c.args.words c.exchange_free.result c.if-exchange_free-free.false _ c.exchange_free.ensures.view,
  );
}

pub store_cookie-requires-clause-may : goal.store_cookie-requires-clause-may
store_cookie-requires-clause-may c = record {
  table = search rules;
  recorder = search rules;
  ready = (
    c.args.next - c.args.free,
    c.args.words,
    is_sized c.args.seat.now.me.0 c.args.free c.args.next c.args.words c.exchange_free.result c.if-exchange_free-free.false _ c.exchange_free.ensures.view
        _ (c.args.next - c.args.free) c.store_size.ensures.view,
    enough_claim (c.args.next - c.args.free) c.args.words c.requires.enough,
  );
}

pub store_type-requires-clause-may : goal.store_type-requires-clause-may
store_type-requires-clause-may c = record {
  table = search rules;
  recorder = search rules;
  ready = (
    (
      c.args.next - c.args.free,
      is_marked c.args.seat.now.me.0 c.args.free c.args.next c.args.words c.exchange_free.result c.if-exchange_free-free.false _ c.exchange_free.ensures.view
          _ (c.args.next - c.args.free) c.store_size.ensures.view _ 0xC8799269 c.store_cookie.ensures.view,
    ),
    c.requires.tag.0,
    c.requires.tag.1,
  );
}

pub returns-clause-done : goal.returns-clause-done
returns-clause-done c = λ _.
    is_claimed c.args.seat.now.me.0 c.args.free c.args.next c.args.words c.exchange_free.result c.if-exchange_free-free.false _ c.exchange_free.ensures.view
    _ (c.args.next - c.args.free) c.store_size.ensures.view _ 0xC8799269 c.store_cookie.ensures.view _ c.args.tag c.args.tag c.store_type.ensures.view
