use Rattle.std.proofs.Common.{◌≡◌, subst, refl, ap, ◌∙◌, Option, Some, None}
use Rattle.povundiri_c.specs.declared.joinable_recorder.JoinableRecorder.{JoinableRecorder}
use Rattle.povundiri_c.specs.Joins.{JoinsOrLends, ServesPassed, recorder_in}
use Rattle.povundiri_c.proofs.Calling.{by_segment, serves_none, serves_some}
use Rattle.povundiri_c.proofs.contents.Contents.serve.Goals as goal

pub returns-in_default-replace_with : goal.returns-in_default-replace_with
returns-in_default-replace_with c =
    let none : recorder_in c.as_mut.result.now ≡ None = search (c.replace_with.ensures, c.in_default-replace_with.is) in
    let other : recorder_in c.args.passed.value ≡ None = search (none, c.as_mut.ensures.value) in
    let same : c.replace_with.new.dest ≡ c.args.passed.value = c.replace_with.ensures.1 none ∙ c.as_mut.ensures.value in
    by_segment _ (ServesPassed c.args.request c.args.passed.value) _ c.in-Segment.owned _ _ c.in-Segment.is (serves_none c.args.request c.args.passed.value c.replace_with.new.dest c.in-Segment.owned other same)

pub returns-in-Some-back : goal.returns-in-Some-back
returns-in-Some-back c =
    let own : recorder_in c.args.passed.value ≡ Some c.in-Some.joinable = search (c.replace_with.ensures, c.in-Some.is, c.as_mut.ensures.value) in
    by_segment _ (ServesPassed c.args.request c.args.passed.value) _ c.in-Segment.owned _ _ c.in-Segment.is
    (serves_some c.args.request c.args.passed.value c.in-Some.joinable c.in-Segment.owned c.serve-status.new.self _ (Some c.in-Some-back.joinable) own (ap Some c.put_into.ensures)
    (subst (λ (back : Option JoinableRecorder). JoinsOrLends c.args.request c.in-Some.joinable c.in-Segment.owned c.serve-status.result.0 back c.serve-status.new.self) c.in-Some-back.is c.serve-status.ensures))

pub returns-in-None : goal.returns-in-None
returns-in-None c =
    let own : recorder_in c.args.passed.value ≡ Some c.in-Some.joinable = search (c.replace_with.ensures, c.in-Some.is, c.as_mut.ensures.value) in
    by_segment _ (ServesPassed c.args.request c.args.passed.value) _ c.in-Segment.owned _ _ c.in-Segment.is
    (serves_some c.args.request c.args.passed.value c.in-Some.joinable c.in-Segment.owned c.serve-status.new.self _ None own refl
    (subst (λ (back : Option JoinableRecorder). JoinsOrLends c.args.request c.in-Some.joinable c.in-Segment.owned c.serve-status.result.0 back c.serve-status.new.self) c.in-None.is c.serve-status.ensures))
