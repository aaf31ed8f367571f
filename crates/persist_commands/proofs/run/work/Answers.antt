use Rattle.std.proofs.Common.{All, sym, subst, map}
use Rattle.atomic_table.specs.Seated.{TableId}
use Rattle.live_segment.specs.Holders.{table_of, view_of_opener}
use Rattle.persist_commands.specs.declared.worker.Worker.{Worker}
use Rattle.persist_commands.specs.Recording.{EndedAt, view_of_ended}
use Rattle.persist_commands.proofs.Runs.{all_tell, ended_at, has_run, made_joining, where_well}
use Rattle.persist_commands.proofs.Stops.{tells_together, where_well as joined_well}
use Rattle.persist_commands.proofs.run.work.Goals as goal

pub join_all-requires : goal.join_all-requires
join_all-requires g c = record {
  at = subst (λ (t : TableId). All (EndedAt t) c.in-Ok.ended.items) (sym c.in_ok-all.ensures.made.table)
      (ended_at (λ (w : Worker g.row.G.Denot). w.part) (λ (w : Worker g.row.G.Denot). w.script.now) (λ (w : Worker g.row.G.Denot). w.recorder) (table_of c.args.segment.now) (view_of_opener c.args.opener.now) c.args.script.now c.args.workers
      c.in_ok-all.all.items c.in-Ok.ended.items c.in_ok-all.ensures.each c.in-Ok.ensures.len c.in-Ok.ensures.each);
}

pub returns-in-Ok-clause-made : goal.returns-in-Ok-clause-made
returns-in-Ok-clause-made g c =
    made_joining c.args.segment.now c.make_workers.new.opener c.join_all.new.opener (map view_of_ended c.in-Ok.ended.items) c.in_ok-all.ensures.made c.join_all.ensures.same c.join_all.ensures.joined

pub returns-in-Ok-clause-run : goal.returns-in-Ok-clause-run
returns-in-Ok-clause-run g c =
    where_well c.join_all.result
    (has_run (λ (w : Worker g.row.G.Denot). w.part) (λ (w : Worker g.row.G.Denot). w.script.now) (λ (w : Worker g.row.G.Denot). w.recorder) (table_of c.args.segment.now) (view_of_opener c.args.opener.now) c.args.script.now c.args.workers
    c.in_ok-all.all.items c.in-Ok.ended.items c.in_ok-all.ensures.each c.in-Ok.ensures.len c.in-Ok.ensures.each
    (view_of_opener c.make_workers.new.opener) (view_of_opener c.join_all.new.opener) c.in_ok-all.ensures.len c.in_ok-all.ensures.handed c.join_all.ensures.joined)
    (joined_well c.in-Ok.ended.items c.join_all.result c.join_all.ensures.told)

pub returns-in-Ok-clause-tells : goal.returns-in-Ok-clause-tells
returns-in-Ok-clause-tells g c =
    tells_together c.in-Ok.ended.items c.join_all.result c.join_all.ensures.told
    (all_tell (λ (w : Worker g.row.G.Denot). w.part) (λ (w : Worker g.row.G.Denot). w.script.now) (λ (w : Worker g.row.G.Denot). w.recorder) (table_of c.args.segment.now) (view_of_opener c.args.opener.now) c.args.script.now c.args.workers
    c.in_ok-all.all.items c.in-Ok.ended.items c.in_ok-all.ensures.each c.in-Ok.ensures.len c.in-Ok.ensures.each)
