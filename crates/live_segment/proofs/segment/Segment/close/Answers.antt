use Rattle.std.proofs.Common.{sym, ap, subst, is_ok, arith}
use Rattle.std.specs.Slots.{slots_items}
use Rattle.live_segment.specs.declared.rule.Setting.{Setting}
use Rattle.live_segment.specs.Rule.{Closes}
use Rattle.live_segment.specs.Closing.{IsImageOf, ReadsJoined}
use Rattle.live_segment.specs.Holders.{opened_with, view_of_opener}
use Rattle.live_segment.proofs.Closing.Copies.{copied}
use Rattle.live_segment.proofs.Seating.Seated.{closes}
use Rattle.live_segment.proofs.Closing.Given.{gave}
use Rattle.live_segment.proofs.Closing.Joined.{image_of, joined, deltas, snapshots}
use Rattle.live_segment.proofs.Closing.Risen.{risen}
use Rattle.live_segment.proofs.Closing.Stopped.{stopped}
use Rattle.live_segment.proofs.Closing.Onward.{goes_on}
use Rattle.live_segment.proofs.segment.Segment.close.Goals as goal

pub loop-i-preserved : goal.loop-i-preserved
loop-i-preserved c = record {
  long = c.loop-i.invariant.long;
  same = copied c.loop-i.image.items (slots_items c.close_with-closed.result.words) c.loop-i.i c.word.result (let e = c.loop-i.image.ok.0 in omega arith) c.word.ensures c.loop-i.invariant.same;
}

pub of-requires : goal.of-requires
of-requires c =
    let is = closes c.args.self c.args.opener _ _ _ _ _ _ _ c.into_seat.ensures c.close_with-closed.ensures.values.2 c.loop-i-test.false c.loop-i.auto.i-end
    c.size-size.ensures.value c.loop-i.invariant.same c.truncate.ensures.items in
    ap is_ok (image_of (opened_with c.args.self) (view_of_opener c.args.opener) _ is).header

pub returns : goal.returns
returns c =
    let given = opened_with c.args.self in
    let opener = view_of_opener c.args.opener in
    let is = subst (Closes given opener) (sym c.of.ensures)
    (closes c.args.self c.args.opener _ _ _ _ _ _ _ c.into_seat.ensures c.close_with-closed.ensures.values.2 c.loop-i-test.false c.loop-i.auto.i-end
    c.size-size.ensures.value c.loop-i.invariant.same c.truncate.ensures.items) in
    record {
      image = subst (λ (setting : Setting). IsImageOf setting c.of.result) c.args.self.keyed (image_of given opener _ is);
      joined = λ none. subst (λ (setting : Setting). ReadsJoined setting opener c.of.result) c.args.self.keyed (joined given opener _ is none);
      deltas = deltas given opener _ is;
      snapshots = snapshots given opener _ is;
      given = gave given opener _ is;
      risen = risen given opener _ is;
      stopped = stopped given opener _ is;
      goes_on = goes_on given opener _ is;
    }
