use Rattle.std.proofs.Common.{◌≡◌, ◌∙◌, ℕ, Option, unwrap_or, ap, arith, w32, to_z, of_z}
use Rattle.std.specs.Ordering.{int_cmp}
use Rattle.std.specs.Map.{count_at}
use Rattle.std.specs.BTreeMap.{get}
use Rattle.std.proofs.lemmas.Int.{to_z-of_z}
use Rattle.bucket_ranges.proofs.samples.add_units.Goals as goal

pub overflow_add-so_far : goal.overflow_add-so_far
overflow_add-so_far c =
    let read : c.unwrap_or-so_far.result ≡ count_at (get int_cmp c.args.counts.now) (to_z w32 (of_z w32 c.args.value)) =
    c.unwrap_or-so_far.ensures ∙ ap (λ (o : Option ℕ). unwrap_or o 0) (c.copied.ensures ∙ c.get.ensures.value) in
    let so_far = rw (to_z-of_z w32 c.args.value c.ranges.value) at read in
    omega (arith, so_far, c.from.ensures, c.requires.small)
