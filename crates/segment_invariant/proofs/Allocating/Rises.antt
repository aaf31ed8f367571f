-- A rise that a plan leads to, from a valid free pointer, is the rise of a block in one page.
use Rattle.segment_invariant.proofs.Prelude.Std.{◌≡◌, ℕ, ◌≤◌, Bool, true, if◌then◌else◌, inl, inr, sym, ap, subst, ◌∙◌}
use Rattle.segment_invariant.proofs.Prelude.Machine.{Dimensions, IsShape}
use Rattle.alloc_core.specs.declared.planned.Planned.{Planned}
use Rattle.alloc_core.specs.declared.planned.Planned.TheVariants.{Claim, Waste}
use Rattle.alloc_core.specs.declared.alloc.AllocStage.{AllocStage}
use Rattle.alloc_core.specs.declared.alloc.AllocStage.TheVariants.{LoadFree, Corrupt}
use Rattle.alloc_core.specs.Planned.{planned, is_pointer}
use Rattle.alloc_core.specs.Alloc.{IsAimed, IsRise, stage_of_plan}
use Rattle.alloc_core.proofs.Lawful.{moved_lawful}
use Rattle.segment_machine.specs.Allocating.{MayRise}

-- what a plan aims at from a valid free pointer
pub plan_aims : (shape : Dimensions) (size free : ℕ) (plan : Planned) → IsShape shape → 5 ≤ size → size ≤ shape.page → is_pointer shape free ≡ true
    → plan ≡ planned free size shape
    → IsAimed (record { shape = shape; size = size; tag = 0; seen = free; stage = stage_of_plan free plan }) (stage_of_plan free plan)
plan_aims shape size free plan shaped least most good is =
    let aimed = (moved_lawful (record { shape = shape; size = size; tag = 0; seen = free; stage = LoadFree }) free
    (record { shaped = shaped; least = least; most = most; aimed = tt })).aimed in
    let stage : (if is_pointer shape free then stage_of_plan free (planned free size shape) else Corrupt) ≡ stage_of_plan free plan =
    ap (λ (b : Bool). if b then stage_of_plan free (planned free size shape) else Corrupt) good ∙ ap (stage_of_plan free) (sym is) in
    subst (λ (s : AllocStage). IsAimed (record { shape = shape; size = size; tag = 0; seen = free; stage = s }) s) stage aimed

-- the free pointer may rise to no other place
pub rise_of : (shape : Dimensions) (old new wanted : ℕ) → IsShape shape → is_pointer shape old ≡ true → MayRise shape old new wanted → IsRise shape old new
rise_of shape old new wanted shaped good (least, most, inl (size, is)) = (plan_aims shape wanted old (Claim size new) shaped least most good (sym is)).1
rise_of shape old new wanted shaped good (least, most, inr (room, is, end)) =
    subst (IsRise shape old) (sym end) (plan_aims shape wanted old (Waste room) shaped least most good (sym is)).1
