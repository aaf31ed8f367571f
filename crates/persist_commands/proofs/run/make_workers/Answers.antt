use Rattle.std.proofs.Common.{◌≡◌, ◌∙◌, ℕ, ◌<◌, List, [], ◌∷◌, ◌++◌, ap, refl, subst, sym, length, slice_index_or, arith}
use Rattle.std.proofs.lemmas.List.{length-append}
use Rattle.segment_image.specs.Checks.{first_fault}
use Rattle.segment_machine.specs.declared.actor.Actor.{Actor}
use Rattle.segment_machine.specs.Actor.{made_of, outstanding_of}
use Rattle.segment_machine.specs.Seats.{offering}
use Rattle.live_segment.specs.Opener.{IsNewcomer}
use Rattle.live_segment.specs.Holders.{table_of, view_of_opener, view_of_recorder}
use Rattle.live_segment.specs.Steps.{recorder_checks}
use Rattle.live_segment.proofs.Seating.Callers.{made_still}
use Rattle.persist_commands.specs.declared.worker.Worker.{Worker}
use Rattle.persist_commands.specs.Recording.{IsWorkerReady}
use Rattle.persist_commands.proofs.Meetings.{each_pushed, fresh_newcomer, hands_more, not_refused}
use Rattle.persist_commands.proofs.run.make_workers.Goals as goal

pub loop-number-preserved : goal.loop-number-preserved
loop-number-preserved g c =
    let at = c.loop-number.invariant in
    let mine = c.in-Ok.ensures.mine in
    let theirs : (c.in-Ok.recorder.segment ≡ c.args.segment) × IsNewcomer c.units_of.result c.loop-number.opener c.in-Ok.recorder.state =
    not_refused (first_fault (recorder_checks (view_of_opener c.loop-number.opener) c.units_of.result)) c.in-Ok.recorder c.in-Ok.ensures.theirs in
    let P : ℕ → Worker g.row.G.Denot → Type 0 = λ k w. IsWorkerReady (table_of c.args.segment.now) (view_of_opener c.args.opener.now) c.args.script.now c.args.workers k w.part w.script.now w.recorder in
    let old : List (Worker g.row.G.Denot) = c.loop-number.all.items in
    let x : Worker g.row.G.Denot = record {
      alloc = c.args.alloc;
      script = c.args.script;
      gate = c.args.gate;
      part = record { part = c.loop-number.number; workers = c.args.workers };
      recorder = c.in-Ok.recorder;
    } in
    let kept : c.reserve.new.self.items ≡ old = c.in_ok-reserve.ensures.items in
    let items : c.push_reserved.new.self.items ≡ old ++ x ∷ [] = c.push_reserved.ensures.items ∙ ap (λ (l : List (Worker g.row.G.Denot)). l ++ x ∷ []) kept in
    let last : P (length old) x = record {
      number_is = sym at.2;
      workers_are = refl;
      script_is = refl;
      at = c.in-Ok.recorder.at.seated.table ∙ ap (λ s. table_of s.now) theirs.0;
      fresh = fresh_newcomer (offering (view_of_opener c.loop-number.opener) c.units_of.result) (view_of_recorder c.in-Ok.recorder) theirs.1.0;
      before = (let is = ap (λ (a : Actor). made_of a.role) theirs.1.0 in let made = at.1.made in let many = at.2 in omega (arith, is, made, many));
      outstanding = (let is = ap (λ (a : Actor). outstanding_of a.role) theirs.1.0 in let out = at.1.outstanding in let many = at.2 in omega (arith, is, out, many));
    } in
    let many = ap length items ∙ length-append old (x ∷ []) in
    let before = at.2 in (
      made_still c.args.segment.now c.loop-number.opener c.recorder.new.self c.units_of.result at.0 mine.0 mine.1,
      hands_more c.loop-number.number c.units_of.result (view_of_opener c.args.opener.now) (view_of_opener c.loop-number.opener) (view_of_opener c.recorder.new.self) at.1 mine.1,
      omega (arith, many, before),
      subst (λ (l : List (Worker g.row.G.Denot)). (k : ℕ) (d : Worker g.row.G.Denot) → k < length l → P k (slice_index_or l k d)) (sym items) (each_pushed P old x at.3 last),
    )
