use Rattle.std.proofs.Common.{refl}
use Rattle.std.specs.Fn.{FnOnceReturnsAtMut}
use Rattle.povundiri_c.proofs.Calling.{on_recorder}
use Rattle.povundiri_c.proofs.contents.Contents.call_recorder.Goals as goal

pub returns-in-Recorder : goal.returns-in-Recorder
returns-in-Recorder g c =
    on_recorder _ (FnOnceReturnsAtMut g.F.FnOnce c.args.call) _ c.in-Recorder.joinable _ _ c.in-Recorder.is
    (record { shown = _; shows = refl; left = _; met = c.call.ensures; leaves = refl })
