use Rattle.std.proofs.Common.{◌≡◌, ℕ, List, take, length, subst, sym, arith}
use Rattle.std.proofs.Math.Seq.{take-length}
use Rattle.std.proofs.lemmas.Result.{err_from_is_err_and}
use Rattle.hist_core.specs.declared.call.Move.{Move}
use Rattle.hist_core.specs.Moves.{MakesAll}
use Rattle.hist_core.proofs.Worlds.Scheduling.{made_next, stops_next}
use Rattle.hist_core.proofs.world.World.make_all.Goals as goal

pub returns-in_err-make-clause-stops : goal.returns-in_err-make-clause-stops
returns-in_err-make-clause-stops c =
    let l = c.loop-step in
    let p = err_from_is_err_and c.from_residual.result c.from_residual.ensures.1 in
    rw (p.1, p.2)
    (stops_next c.args.moves.now l.step-index c.step-item.result c.args.self.now.world_state l.self.world_state c.in_err-make.field-0.0 c.loop-step-test.true c.step-item.is
    l.invariant.makes c.in_err-make.ensures.faults)

pub loop-step-preserved : goal.loop-step-preserved
loop-step-preserved c =
    let l = c.loop-step in record {
      makes = made_next c.args.moves.now l.step-index c.step-item.result c.args.self.now.world_state l.self.world_state c.make.new.self.world_state c.loop-step-test.true
          c.step-item.is l.invariant.makes c.in_ok-make.ensures.makes;
    }

pub returns-clause-makes : goal.returns-clause-makes
returns-clause-makes c =
    let moves = c.args.moves.now in let l = c.loop-step in
    let last : l.step-index ≡ length moves = omega arith in
    let whole : take l.step-index moves ≡ moves = subst (λ (n : ℕ). take n moves ≡ moves) (sym last) (take-length moves) in
    subst (λ (made : List Move). MakesAll made c.args.self.now.world_state l.self.world_state) whole l.invariant.makes
