use Rattle.std.proofs.Common.{◌∙◌, ap}
use Rattle.std.specs.Fmt.{decimal}
use Rattle.reading_texts.specs.Members.{member_view}
use Rattle.reading_texts.proofs.Adding.{written-both}
use Rattle.reading_texts.proofs.Buckets.{highs_positive}
use Rattle.reading_texts.proofs.family_lines.put_ranged.Goals as goal

pub put_buckets-requires : goal.put_buckets-requires
put_buckets-requires c =
    rw (c.deref-2.ensures.value, c.in_ok-rows.ensures) (highs_positive (member_view c.args.member.now).hist c.requires.readable c.requires.ranged)

pub returns : goal.returns
returns c =
    let units = c.as_bytes-units.ensures.value ∙ (c.in_ok-units.ensures.ok ∙ ap decimal c.units.ensures) in
    let sum = c.as_bytes.ensures.value ∙ c.in_ok-sum.ensures.ok in
    let buckets = rw (c.deref.ensures.value, c.deref-2.ensures.value, c.in_ok-rows.ensures) at c.in_ok-put_buckets.ensures in
    let first = rw (c.deref-3.ensures.value, units) at c.in_ok-put_infinite.ensures in
    let second = rw (c.deref-4.ensures.value, sum) at c.in_ok-put_number.ensures in
    let third = rw (c.deref-5.ensures.value, units) at c.in_ok-put_number-2.ensures in
    written-both _ _ _ (written-both _ _ _ (written-both _ _ _ buckets first) second) third
