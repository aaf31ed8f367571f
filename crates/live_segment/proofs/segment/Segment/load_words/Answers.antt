use Rattle.std.proofs.Common.{◌+◌, ◌∷◌, [], ℕ, List, length, slice_index, refl, sym, ap, ◌∙◌, arith}
use Rattle.std.specs.Prelude.{Some}
use Rattle.std.proofs.lemmas.List.{get_or_append_left, get_or_push, length_push}
use Rattle.live_segment.proofs.lemmas.List.Showing.{same_on, sees_not, sees_on, sees_one, may_load, one_more}
use Rattle.live_segment.proofs.segment.Segment.load_words.Goals as goal

pub loop-i-init : goal.loop-i-init
loop-i-init c = record {
  same = (refl, refl, refl);
  sees = sees_not c.args.seat.now.me.0;
  long = ap length c.in_ok-words.ensures.items;
  shown = λ j low. absurd (omega arith);
  room = c.in_ok-words.ensures.capacity;
}

pub load_published-requires-clause-may : goal.load_published-requires-clause-may
load_published-requires-clause-may c =
    let was = c.loop-i.invariant in
    may_load c.args.self.now c.args.seat.now c.loop-i.seat c.args.at c.requires.seat.0 c.requires.seat.1 c.requires.met was.same was.sees
    (c.args.first + c.loop-i.i) (c.requires.fixed c.loop-i.i (omega (arith, c.loop-i-test.true, c.loop-i.auto.i-end)))

pub loop-i-preserved : goal.loop-i-preserved
loop-i-preserved c =
    let was = c.loop-i.invariant in
    let step = c.load_published.ensures in
    let items = c.loop-i.words.items in
    let found = c.load_published.result in
    let grew = c.push_reserved.ensures.items in
    let long = was.long in record {
      same = same_on c.args.seat.now c.loop-i.seat c.load_published.new.seat was.same step.same;
      sees = sees_on c.args.seat.now.me.0 c.loop-i.seat.me.0 c.load_published.new.seat.me.0 was.sees
          (sees_one c.loop-i.seat c.load_published.new.seat c.args.at (c.args.first + c.loop-i.i) found step);
      long = ap length grew ∙ (length_push items found ∙ ap (λ (n : ℕ). n + 1) long);
      shown = one_more c.loop-i.seat c.load_published.new.seat c.args.at c.args.first c.loop-i.i found c.push_reserved.new.self.items step
          (λ j low. was.shown j low ∙ ap Some (sym (ap (λ (l : List ℕ). slice_index l j) grew ∙ get_or_append_left items (found ∷ []) 0 j (omega (arith, low, long)))))
          (sym (ap (λ (l : List ℕ). slice_index l c.loop-i.i) grew ∙ get_or_push items found 0 c.loop-i.i long));
      room = let stays = c.push_reserved.ensures.capacity in let enough = was.room in omega (arith, stays, enough);
    }
