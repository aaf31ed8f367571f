use Rattle.segment_image.specs.Checks.{first_fault}
use Rattle.live_segment.specs.Holders.{IsNew}
use Rattle.live_segment.specs.Rule.{open_checks}
use Rattle.povundiri_c.specs.Segments.{setting_asked}
use Rattle.povundiri_c.proofs.NewSegments.{created_with}
use Rattle.povundiri_c.proofs.exports.segments.create_in.Goals as goal

pub returns-in-Ok : goal.returns-in-Ok
returns-in-Ok c = let asked = c.args.shape in
    created_with (IsNew (setting_asked asked)) (first_fault (open_checks asked.size asked.page asked.cursors asked.version)) c.in-Ok.segment c.in-Ok.opener
    c.fill_with_segment.result c.args.out.now.boxed.held c.fill_with_segment.new.out.boxed.held c.in-Ok.ensures c.fill_with_segment.ensures
