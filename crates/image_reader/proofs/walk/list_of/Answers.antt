-- Each step of the walk, from the lemmas on walks, on headers and on marks.
use Rattle.std.proofs.Common.{◌≡◌, ◌<◌, length, arith, refl, ap, sym, ◌∙◌, false, true, replicate, [], ◌∷◌, ◌++◌, length-set}
use Rattle.std.proofs.lemmas.List.{length-replicate}
use Rattle.segment_image.specs.declared.fault.ImageFault.TheVariants.{Loop}
use Rattle.std.proofs.lemmas.Bool.{eq-eqb}
use Rattle.segment_image.specs.declared.blocks.BlockHead.{BlockHead}
use Rattle.bucket_ranges.specs.Reading.{next_of}
use Rattle.bucket_ranges.proofs.Walks.{IsWalk-none, IsWalk-push, IsListed-from_fault, IsListed-from_end}
use Rattle.image_reader.proofs.Headers.{IsBlockHead-from_block, block_extent, stop_of-bad_block, stop_of-loop, stop_of-end}
use Rattle.image_reader.proofs.Marks.{before-last, unmet-set, marks-push, unmarked_at, read_mark}
use Rattle.image_reader.proofs.walk.list_of.Goals as goal

pub loop-next-init : goal.loop-next-init
loop-next-init c =
    let none : c.new-references.result.items ≡ [] = c.new-references.ensures.items in
    let unmarked : c.in_ok-met.met.items ≡ replicate (length c.args.words.now) false =
    c.in_ok-met.ensures.items_if_clones_equal (λ y e. e) in
    record {
      walk = rw none (IsWalk-none c.args.words.now c.args.head.now);
      next = rw none refl;
      marks = λ r. rw (unmarked, none) (unmarked_at (length c.args.words.now) r);
      long = rw unmarked (length-replicate (length c.args.words.now) false);
    }

pub returns-in-Err-clause-stopped : goal.returns-in-Err-clause-stopped
returns-in-Err-clause-stopped c =
    sym (stop_of-bad_block c.args.words.now c.args.head.now c.loop-next.references.items c.loop-next.next c.in-Err.fault
    c.loop-next.invariant.next c.loop-next-test.true (sym c.in-Err.ensures))

pub returns-in-Err-clause-listed : goal.returns-in-Err-clause-listed
returns-in-Err-clause-listed c =
    IsListed-from_fault c.args.words.now c.args.head.now c.loop-next.references.items c.in-Err.fault c.loop-next.invariant.walk
    (stop_of-bad_block c.args.words.now c.args.head.now c.loop-next.references.items c.loop-next.next c.in-Err.fault
    c.loop-next.invariant.next c.loop-next-test.true (sym c.in-Err.ensures))

pub index-requires : goal.index-requires
index-requires c =
    let inside = block_extent c.args.words.now c.args.head.now c.loop-next.next c.in-Ok.found c.requires (sym c.in-Ok.ensures) in
    omega (arith, inside, c.loop-next.invariant.long)

pub returns-then-index-clause-stopped : goal.returns-then-index-clause-stopped
returns-then-index-clause-stopped c =
    let block = IsBlockHead-from_block c.args.words.now c.args.head.now c.loop-next.next c.in-Ok.found (sym c.in-Ok.ensures) in
    let inside = block_extent c.args.words.now c.args.head.now c.loop-next.next c.in-Ok.found c.requires (sym c.in-Ok.ensures) in
    let within : c.loop-next.next < length c.loop-next.met.items = omega (arith, inside, c.loop-next.invariant.long) in
    let marked = read_mark c.loop-next.met.items c.loop-next.next c.index.result.now within c.index.ensures in
    sym (stop_of-loop c.args.words.now c.args.head.now c.loop-next.references.items c.loop-next.next
    c.loop-next.invariant.next c.loop-next-test.true block.lawful
    (sym (c.loop-next.invariant.marks c.loop-next.next) ∙ (sym marked ∙ c.if-index.true)))

pub returns-then-index-clause-listed : goal.returns-then-index-clause-listed
returns-then-index-clause-listed c =
    IsListed-from_fault c.args.words.now c.args.head.now c.loop-next.references.items Loop c.loop-next.invariant.walk
    (sym (returns-then-index-clause-stopped c))

pub index_mut-requires : goal.index_mut-requires
index_mut-requires c =
    let inside = block_extent c.args.words.now c.args.head.now c.loop-next.next c.in-Ok.found c.requires (sym c.in-Ok.ensures) in
    omega (arith, inside, c.loop-next.invariant.long)

pub loop-next-smaller : goal.loop-next-smaller
loop-next-smaller c =
    let inside = block_extent c.args.words.now c.args.head.now c.loop-next.next c.in-Ok.found c.requires (sym c.in-Ok.ensures) in
    let within : c.loop-next.next < length c.loop-next.met.items = omega (arith, inside, c.loop-next.invariant.long) in
    let marked = read_mark c.loop-next.met.items c.loop-next.next c.index.result.now within c.index.ensures in
    unmet-set c.loop-next.met.items c.loop-next.next within (sym marked ∙ c.if-index.false)

pub loop-next-preserved : goal.loop-next-preserved
loop-next-preserved c =
    let block = IsBlockHead-from_block c.args.words.now c.args.head.now c.loop-next.next c.in-Ok.found (sym c.in-Ok.ensures) in
    let inside = block_extent c.args.words.now c.args.head.now c.loop-next.next c.in-Ok.found c.requires (sym c.in-Ok.ensures) in
    let within : c.loop-next.next < length c.loop-next.met.items = omega (arith, inside, c.loop-next.invariant.long) in
    let marked = read_mark c.loop-next.met.items c.loop-next.next c.index.result.now within c.index.ensures in
    let pushed : c.push.new.self.items ≡ c.loop-next.references.items ++ c.loop-next.next ∷ [] = c.in_ok-push.ensures.items in
    record {
      walk = rw pushed (IsWalk-push c.args.words.now c.args.head.now c.loop-next.references.items c.loop-next.next
          c.loop-next.invariant.walk (sym c.loop-next.invariant.next) block.lawful
          (sym (c.loop-next.invariant.marks c.loop-next.next) ∙ (sym marked ∙ c.if-index.false)));
      next = rw pushed (ap (λ (found : BlockHead). found.next) (sym block.found_is)
          ∙ ap (next_of c.args.words.now) (sym (before-last c.loop-next.references.items c.loop-next.next)));
      marks = λ r. rw pushed (marks-push c.loop-next.met.items c.loop-next.references.items c.loop-next.next within c.loop-next.invariant.marks r);
      long = length-set c.loop-next.met.items c.loop-next.next true ∙ c.loop-next.invariant.long;
    }

pub returns-clause-stopped : goal.returns-clause-stopped
returns-clause-stopped c =
    sym (stop_of-end c.args.words.now c.args.head.now c.loop-next.references.items c.loop-next.next
    c.loop-next.invariant.next c.loop-next-test.false)

pub returns-clause-listed : goal.returns-clause-listed
returns-clause-listed c =
    IsListed-from_end c.args.words.now c.args.head.now c.loop-next.references.items c.loop-next.invariant.walk
    (eq-eqb _ 12 (sym c.loop-next.invariant.next ∙ c.loop-next-test.false))
