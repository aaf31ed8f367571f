use Rattle.std.proofs.Common.{◌≤◌, ◌+◌, ◌-◌, sym, subst}
use Rattle.std.specs.Prelude.{All}
use Rattle.std.specs.List.{slice_range}
use Rattle.segment_image.specs.Blocks.{field_at}
use Rattle.image_reader.proofs.SpecWords.{IsCustomAt-from_spec}
use Rattle.image_reader.proofs.spec.spec_at.Goals as goal

pub small-requires : goal.small-requires
small-requires c =
    subst
    (λ first. All (λ number. number ≤ 2147483647) (slice_range c.args.words.now first (first + (field_at c.args.words.now c.args.at 7 - 1))))
    (sym c.inner_from-first.ensures)
    (IsCustomAt-from_spec c.args.words.now c.args.at c.requires.lawful c.if-kind-eq-KIND_CUSTOM.true).small
