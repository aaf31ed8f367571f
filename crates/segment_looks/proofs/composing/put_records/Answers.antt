-- One more record is put on the words, before those that are there already.
use Rattle.std.proofs.Common.{◌≡◌, ℕ, ◌-◌, ◌<◌, List, ◌∷◌, drop, get_or, arith, rules, refl, ap, subst, ◌∙◌}
use Rattle.segment_looks.specs.Patches.{IsPatched}
use Rattle.segment_looks.specs.Looks.{list_start, records_patches}
use Rattle.segment_looks.proofs.Patched.{IsPatched-record, drop-before}
use Rattle.segment_looks.proofs.composing.put_records.Goals as goal

pub loop-left-preserved : goal.loop-left-preserved
loop-left-preserved c =
    let some : 0 < c.loop-left.left = search rules in
    let front : drop (c.loop-left.left - 1) c.args.records.now
    ≡ get_or c.args.records.now (c.loop-left.left - 1) 0 ∷ drop c.loop-left.left c.args.records.now =
    drop-before c.args.records.now c.loop-left.left some c.loop-left.invariant.within in
    record {
      within = omega (arith, c.loop-left.invariant.within);
      next = rw front refl;
      patched = rw front (IsPatched-record c.args.head.now c.args.one.now c.args.two.now c.args.three.now (drop c.loop-left.left c.args.records.now)
          (get_or c.args.records.now (c.loop-left.left - 1) 0) c.loop-left.next _ _ _ _ c.loop-left.invariant.next c.loop-left.invariant.patched
          c.put_record.ensures c.put.ensures);
    }

pub returns-clause-first : goal.returns-clause-first
returns-clause-first c =
    let none : c.loop-left.left ≡ 0 = omega (arith, c.loop-left-test.false) in
    c.loop-left.invariant.next ∙ ap (λ (left : ℕ). list_start (drop left c.args.records.now)) none

pub returns-clause-patched : goal.returns-clause-patched
returns-clause-patched c =
    let none : c.loop-left.left ≡ 0 = omega (arith, c.loop-left-test.false) in
    let all : drop c.loop-left.left c.args.records.now ≡ c.args.records.now = ap (λ (left : ℕ). drop left c.args.records.now) none in
    subst (λ (records : List ℕ). IsPatched (records_patches c.args.head.now c.args.one.now c.args.two.now c.args.three.now records)
    c.args.words.now c.loop-left.words) all c.loop-left.invariant.patched
