-- One more record is followed.
use Rattle.std.proofs.Common.{◌≡◌, ◌-◌, ◌/◌, ◌<◌, ◌++◌, [], ◌∷◌, length, true, arith, rules, sym, ◌∙◌}
use Rattle.std.proofs.lemmas.List.{length-append}
use Rattle.std.proofs.lemmas.List.Elements.{All-push}
use Rattle.segment_image.specs.Blocks.{is_placed}
use Rattle.segment_looks.proofs.Followed.{records_from-push}
use Rattle.segment_looks.proofs.following.followed_records.Goals as goal

pub loop-records-preserved : goal.loop-records-preserved
loop-records-preserved c =
    let pushed : c.push.new.self.items ≡ c.loop-records.records.items ++ c.loop-records.next ∷ [] = c.in_ok-push.ensures.items in
    let less : length c.loop-records.records.items < (length c.args.two.now - 16) / 5 = search rules in
    let placed : is_placed c.args.head.now c.loop-records.next ≡ true = sym c.is_placed.ensures ∙ c.if-is_placed.true in
    record {
      few = rw pushed (let long = length-append c.loop-records.records.items (c.loop-records.next ∷ []) in omega (arith, long, less));
      placed = rw pushed (All-push (λ at. is_placed c.args.head.now at ≡ true) c.loop-records.records.items c.loop-records.next
          c.loop-records.invariant.placed placed);
      all = rw pushed (records_from-push c.args.head.now c.args.two.now c.loop-records.records.items _ _ c.loop-records.next less placed
          c.loop-records.invariant.all);
    }
