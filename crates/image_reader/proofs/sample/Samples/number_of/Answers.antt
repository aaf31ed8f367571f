-- The loop goes over the entries of the histogram.
use Rattle.std.proofs.Common.{◌≡◌, length, map, min, ap, sym, ◌∙◌}
use Rattle.std.proofs.lemmas.List.{length-map}
use Rattle.std.specs.declared.ops.Bound.TheVariants.{Included}
use Rattle.std.specs.BTreeMap.Range.{entries_between}
use Rattle.std.specs.Map.Iter.{deref_pair}
use Rattle.std.proofs.lemmas.Map.Iter.{iter_end}
use Rattle.image_reader.specs.Samples.{by_key, held}
use Rattle.image_reader.proofs.SampleMaps.{held-range}
use Rattle.image_reader.proofs.sample.Samples.number_of.Goals as goal

pub returns : goal.returns
returns c =
    let whole : map deref_pair c.loop.yielded ≡ held c.args.self.now c.args.histogram =
    (iter_end deref_pair c.range-items.result c.loop.yielded c.into_iter-iterator.result c.loop.iterator' c.next.new.self c.next.result
    c.into_iter-iterator.ensures.into_iter_gives c.loop.yielded_by c.in-None.is c.next.ensures.steps).0
    ∙ (c.range-items.ensures.between c.new.ensures.exhausted
    ∙ ((λ i. entries_between by_key (Included (c.new.ensures.start i)) (Included (c.new.ensures.end i)) c.args.self.now.map.entries)
    ∙ held-range c.args.histogram c.args.self.now.map.entries c.requires.small)) in
    c.loop.invariant ∙ ap (λ n. min n 18446744073709551615) (sym (length-map c.loop.yielded deref_pair) ∙ ap length whole)
