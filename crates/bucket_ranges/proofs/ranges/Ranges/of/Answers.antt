use Rattle.std.proofs.Common.{sym, ◌∙◌}
use Rattle.bucket_ranges.proofs.Customs.{is_custom-from_checked}
use Rattle.bucket_ranges.proofs.ranges.Ranges.of.Goals as goal

-- The values passed the checks.
pub custom-requires : goal.custom-requires
custom-requires c =
    is_custom-from_checked _ tt tt (sym c.check_custom.ensures ∙ c.in_ok-check_custom-in-Custom.was)
