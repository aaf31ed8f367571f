use Rattle.std.proofs.Common.{◌≡◌, ◌∙◌, ◌-◌, ℕ, Option, unwrap_or, ap, w32, to_z, of_z}
use Rattle.std.specs.Ordering.{int_cmp}
use Rattle.std.specs.Map.{count_at}
use Rattle.std.specs.BTreeMap.{get}
use Rattle.std.proofs.lemmas.Int.{to_z-of_z}
use Rattle.reading_shows.proofs.since.came_to.Goals as goal

pub returns : goal.returns
returns c =
    let read : c.unwrap_or-had.result ≡ count_at (get int_cmp c.args.before.now) (to_z w32 (of_z w32 c.args.value)) =
    c.unwrap_or-had.ensures ∙ ap (λ (o : Option ℕ). unwrap_or o 0) (c.copied.ensures ∙ c.get.ensures.value) in
    let had = rw (to_z-of_z w32 c.args.value c.ranges.value) at read in
    c.saturating_sub.ensures ∙ ap (λ n. c.args.units - n) had
