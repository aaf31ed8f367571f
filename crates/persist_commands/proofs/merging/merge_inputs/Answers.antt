use Rattle.std.proofs.Common.{rules, ◌≡◌, false, List, ◌++◌, map, refl, ap, sym, ◌∙◌, subst}
use Rattle.std.proofs.lemmas.Result.{err_from_is_err_and}
use Rattle.bucket_ranges.specs.Reading.{Histogram}
use Rattle.image_reader.specs.Views.{histogram_view}
use Rattle.live_segment.specs.declared.rule.Setting.{Setting}
use Rattle.live_segment.specs.Holders.{IsNew, view_of_opener, view_of_recorder}
use Rattle.live_segment.specs.Rule.{first_view}
use Rattle.segment_machine.specs.declared.actor.Actor.{Actor}
use Rattle.segment_machine.specs.Seats.{newcomer, offering, parent}
use Rattle.segment_merge.specs.Merge.{IsMerged}
use Rattle.segment_merge.proofs.MergedImage.{merged_image}
use Rattle.persist_commands.specs.MergeFiles.{HasStopped}
use Rattle.persist_commands.proofs.Meetings.{table_kept}
use Rattle.persist_commands.proofs.MergeClosed.{IsClosed, closed_so}
use Rattle.persist_commands.proofs.MergeFaults.{stop_told}
use Rattle.persist_commands.proofs.MergeOutcomes.{all_given}
use Rattle.persist_commands.proofs.merging.merge_inputs.Goals as goal

pub join-requires : goal.join-requires
join-requires c =
    table_kept c.in-Ok-recorder.recorder c.merge_both-merged.new.recorder c.merge_both-merged.ensures.kept ∙ c.in-Ok-recorder.ensures.into ∙ sym c.recorder.ensures.made.table

pub returns-in_err-merged-clause-fault : goal.returns-in_err-merged-clause-fault
returns-in_err-merged-clause-fault c =
    let p = err_from_is_err_and c.from_residual.result c.from_residual.ensures.1 in
    let base : List Histogram = map histogram_view c.args.base.now.reading.hists.items in
    let dead : List Histogram = map histogram_view c.args.dead.now.reading.hists.items in
    let setting : Setting = record { shape = record { size = c.size.result; page = c.page.result }; version = 2; id = c.args.base.now.head.id; cursors = 0; full = false } in
    let new : IsNew setting c.in-Ok.segment c.in-Ok.opener = search rules in
    let opener : Actor = view_of_opener c.in-Ok.opener in
    let last : Actor = view_of_recorder c.merge_both-merged.new.recorder in
    let theirs : view_of_recorder c.in-Ok-recorder.recorder ≡ newcomer (offering opener 4294967295) = (all_given setting opener new.view _ _ c.in-Ok-recorder.ensures.theirs).1.0 in
    let mine : view_of_opener c.recorder.new.self ≡ parent (offering opener 4294967295) = search rules in
    let closed : IsClosed setting last c.close-image.result =
    closed_so setting c.in-Ok.segment opener (view_of_opener c.recorder.new.self) (view_of_opener c.join.new.self) last c.close-image.result new.setting_is new.view mine
    c.join.ensures.takes.1 c.close-image.ensures.image c.close-image.ensures.joined c.close-image.ensures.stopped in
    let P : Actor → Type 0 = λ a. HasStopped (base ++ dead) a last c.in_err-merged.field-0.0 in
    rw (p.1, p.2)
    (stop_told setting c.args.base.now.head (base ++ dead) last c.close-image.result c.in_err-merged.field-0.0
    (λ i. record { size = c.size.ensures.value i; page = c.page.ensures.value i }) refl
    (subst P (theirs ∙ ap (λ (o : Actor). newcomer (offering o 4294967295)) new.view) c.in_err-merged.ensures.fault) closed)

pub returns-clause-image : goal.returns-clause-image
returns-clause-image c =
    let base : List Histogram = map histogram_view c.args.base.now.reading.hists.items in
    let dead : List Histogram = map histogram_view c.args.dead.now.reading.hists.items in
    let setting : Setting = record { shape = record { size = c.size.result; page = c.page.result }; version = 2; id = c.args.base.now.head.id; cursors = 0; full = false } in
    let new : IsNew setting c.in-Ok.segment c.in-Ok.opener = search rules in
    let opener : Actor = view_of_opener c.in-Ok.opener in
    let theirs : view_of_recorder c.in-Ok-recorder.recorder ≡ newcomer (offering opener 4294967295) = (all_given setting opener new.view _ _ c.in-Ok-recorder.ensures.theirs).1.0 in
    let mine : view_of_opener c.recorder.new.self ≡ parent (offering opener 4294967295) = search rules in
    let last : Actor = view_of_recorder c.merge_both-merged.new.recorder in
    let closed : IsClosed setting last c.close-image.result =
    closed_so setting c.in-Ok.segment opener (view_of_opener c.recorder.new.self) (view_of_opener c.join.new.self) last c.close-image.result new.setting_is new.view mine
    c.join.ensures.takes.1 c.close-image.ensures.image c.close-image.ensures.joined c.close-image.ensures.stopped in
    let P : Actor → Type 0 = λ a. IsMerged (base ++ dead) a last in
    let merged : IsMerged (base ++ dead) (newcomer (offering (first_view setting) 4294967295)) last =
    subst P (theirs ∙ ap (λ (o : Actor). newcomer (offering o 4294967295)) new.view) c.in_ok-merged.ensures.merged in
    merged_image setting (base ++ dead) last merged refl c.args.base.now.head c.close-image.result
    (λ i. record { size = c.size.ensures.value i; page = c.page.ensures.value i }) refl refl closed.image closed.reads
