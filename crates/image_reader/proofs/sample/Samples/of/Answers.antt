-- The loop goes over the entries of the histogram, all of which are between its least and its greatest key.
use Rattle.std.proofs.Common.{◌≡◌, map, ap, ◌∙◌}
use Rattle.std.specs.declared.ops.Bound.TheVariants.{Included}
use Rattle.std.specs.BTreeMap.Range.{entries_between}
use Rattle.std.specs.Map.Iter.{deref_pair}
use Rattle.std.proofs.lemmas.Map.Iter.{iter_end}
use Rattle.image_reader.specs.Samples.{entry_count, entry_mark, held, by_key}
use Rattle.image_reader.proofs.SampleMaps.{held-range}
use Rattle.image_reader.proofs.sample.Samples.of.Goals as goal

pub returns : goal.returns
returns c =
    let whole : map deref_pair c.loop-key.yielded ≡ held c.args.self.now c.args.histogram =
    (iter_end deref_pair c.range-key-items.result c.loop-key.yielded c.into_iter-key-iterator.result c.loop-key.key-iterator c.next.new.self c.next.result
    c.into_iter-key-iterator.ensures.into_iter_gives c.loop-key.yielded_by c.in-None.is c.next.ensures.steps).0
    ∙ (c.range-key-items.ensures.between c.new.ensures.exhausted
    ∙ ((λ i. entries_between by_key (Included (c.new.ensures.start i)) (Included (c.new.ensures.end i)) c.args.self.now.map.entries)
    ∙ held-range c.args.histogram c.args.self.now.map.entries c.requires.small)) in
    (c.loop-key.invariant.counts_are ∙ ap (map entry_count) whole, c.loop-key.invariant.marks_are ∙ ap (map entry_mark) whole)
