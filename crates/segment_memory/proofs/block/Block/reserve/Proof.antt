-- `reserve` asks the heap for units of 16 bytes. Assumes `Logic`.
use Rattle.std.proofs.Common.{◌≡◌, true, ◌*◌, ◌/◌, ◌^◌, ◌<◌, List, [], ◌∷◌, ◌++◌, refl, ◌∙◌, arith, lit<, w64, None, Some}
use mir.Syntax.{Ty, Fn}
use mir.Val.{Val, vint, vptr, vcons, vnil}
use base.Logic.{SProp, emp, id⊢}
use base.Fml.{froom}
use prog.Memory.{size, align, capped}
use prog.Capped.{capped_is}
use prog.Wp.{Env, WpFn}
use contract.Monad.{fact, fact_i}
use contract.Running.{tables}
use types.Kit.{‵, raw, ◌⊛◌, some, later, prop, at_ret, ◌$◌, ◌∵◌, !, qed, by, move, keep, drop, use0, use1, split, join, pick, regoal, fsplit, fjoin, feq_i, flt_i, await}
use types.Part.{whole, agg}
use types.Match.{live, vrt, in_variant}
use types.Run.{stop, fld, lit, of_opd, no_more, and_then, first, switches_on, exec, returns, enter}
use types.ByLocal.{alloc_all, pass_all, free_all, look_at, get, get_in, get_tag, sets, sets_last, lands_as, env}
use denote.RattleType.{RattleType, owns}
use denote.RawPtr.{Ptr, block_ptr}
use denote.Signature.{types_at, type_at}
use denote.Steps.{nothing, heard}
use denote.Triple.Entry.{alive}
use denote.Triple.Spec.{triple_of}
use denote.Triple.Call.{calls_at}
use denote.Triple.Clauses.{Lasts, lasts}
use denote.Triple.Walked.{Stays, stay_dropped, walk_of, Goes-dropped}
use Rattle.core.specs.Allocator.{block_if_ok}
use Rattle.core.proofs.alloc.Calls.{Answer, answer_val}
use Rattle.core.proofs.alloc.Shapes.{after, head, arm_body}
use Rattle.core.proofs.atomic.Steps.{fm}
use Rattle.core.proofs.option.Made.{Some-of, none_of}
use Rattle.std.proofs.raw_atomic.Walks.{proved_at, leaves}
use Rattle.std_heap.specs.contracts.GlobalAllocator.allocate as callee
use Rattle.std_heap.proofs.GlobalAllocator.allocate.Met.{met as allocates}
use Rattle.linked_list_allocator.proofs.Walks.{slot_at, then_runs}
use Rattle.linked_list_allocator.proofs.Values.{sized_val, sized_own, sized_made}
use Rattle.segment_memory.specs.Blocks.{freeing, IsBlockSize, units_of}
use Rattle.segment_memory.proofs.Heap.{answered}
use Rattle.segment_memory.specs.contracts.block.Block as block
use Rattle.segment_memory.specs.contracts.block.Block.reserve.{ended, clauses}
use Rattle.segment_memory.specs.contracts.block.Block.reserve.Key.{name as #self}
use Rattle.segment_memory.proofs.block.Block.reserve.Statement.{statement}
use Rattle.segment_memory.proofs.block.Block.reserve.Code as compiled

pub reserve_spec : {M : Type 1} → statement M
reserve_spec 𝓤 𝓛 𝓜 𝓡 wired =
    let H = 𝓛.H in
    let En₀ = ended in
    let c₀ = clauses 𝓛 𝓜.mem 𝓡.returns in
    let fn : Fn = compiled.function in
    let stays : Stays En₀.signature.params En₀.kept = (stay_dropped (slot_at 0 En₀.signature.params) En₀.kept.0, (stay_dropped (slot_at 1 En₀.signature.params) En₀.kept.1.0, tt)) in
    let c = c₀ in
    let C = (tables 𝓤 H 𝓜 𝓡 𝓡.env).C in
    let Λ = (tables 𝓤 H 𝓜 𝓡 𝓡.env).Λ in
    proved_at 𝓛 En₀ stays c 𝓜 𝓡 (Goes-dropped 𝓛 1 (slot_at 0 En₀.signature.params) En₀.kept.0 (λ κs x f. refl), (Goes-dropped 𝓛 1 (slot_at 1 En₀.signature.params) En₀.kept.1.0 (λ κs x f. refl), tt)) #self fn (compiled.unfolded 𝓤 H 𝓜 𝓡 wired) (λ z are.
    let Post : Val → SProp 𝓤 = (walk_of 𝓛 En₀ stays c).post z in
    let a = z.0.3 in
    let vss = z.0.4 in
    let n = a.1.0 in
    let me : Val = vptr a.0.ref_ptr.0 a.0.ref_ptr.1 in
    let τ : Ty = units_of n in
    let k = triple_of 𝓛 callee.signature (callee.spec 𝓛 𝓜.mem 𝓡.returns) in
    let y : k.Ghost = ((z.0.0, z.0.1, z.0.2, (a.0, (n, (16, tt))), (me ∷ [], (vint w64 n ∷ [], (vint w64 16 ∷ [], tt)))), τ) in
    let Out : RattleType = type_at En₀.signature.result z.0.0 in
    let Asked : Type 0 = IsBlockSize n × (n < 2 ^ 63) in
    let Layout : Type 0 = (capped (size τ) ≡ n) × (capped (align τ) ≡ 16) in
    qed 𝓛 ((raw (alive 𝓛 En₀.signature z.0.0 z.0.1) ⊛ ‵ (owns (types_at En₀.signature.params z.0.0) a vss)) ∷ raw (fact 𝓤 Asked) ∷ []) ∵
    move ! (1 ∷ []) $ heard ! Asked (λ asked. split ! $ move ! (1 ∷ []) $ fsplit ! $ fsplit ! $ keep ! (3 ∷ 1 ∷ []) $ let even = asked.0.1 in let small = asked.1 in
    regoal ! (λ (us : List Val). prop (WpFn 𝓤 H C Λ fn us Post)) (λ i. are.0.0 i ++ (are.1.0.0 i ++ [])) refl $
    enter ! C Λ fn (me ∷ vint w64 n ∷ []) Post $
    alloc_all ! (λ l. pass_all ! refl ((tt, tt), ((tt, record { fits = are.1.0.1 }), tt)) $ let En : Env 𝓤 𝓛.H = env fn.locals l in
    nothing ! $ flt_i ! 16 (2 ^ 64) (lit< tt) $ feq_i ! (List Val) (vint w64 16 ∷ []) (vint w64 16 ∷ []) refl $ fjoin ! $ fjoin ! $ flt_i ! n (2 ^ 64) are.1.0.1 $ feq_i ! (List Val) (vint w64 n ∷ []) (vint w64 n ∷ []) refl $ fjoin ! $ fjoin ! $
    move ! (2 ∷ []) $ feq_i ! (List Val) (me ∷ []) (me ∷ []) refl $ fjoin ! $ fjoin ! $ move ! (1 ∷ 0 ∷ []) $ join ! $
    use0 𝓛 (raw (fact 𝓤 Layout)) (fact_i 𝓤 Layout (emp 𝓤) (capped_is (n / 16 * 16) (omega arith) ∙ omega arith, refl)) $ move ! (1 ∷ 0 ∷ []) $ join ! $ use1 𝓛 (raw (k.pre y)) (id⊢ 𝓤 _) $
    calls_at ! (fm 𝓛 𝓜 𝓡) k (allocates 𝓤 𝓛 𝓜 𝓡 (compiled.calls-std_heap::GlobalAllocator::allocate 𝓡.env wired)) y (and_then ! (get ! refl) (and_then ! (get ! refl) (and_then ! (lit ! tt) (no_more !)))) (λ v.
    use1 𝓛 (later (some (λ (x : Answer.Denot). (raw (alive 𝓛 En₀.signature z.0.0 z.0.1) ⊛ ‵ (Answer.own_val x (v ∷ []))) ⊛ some (λ (ls : Lasts callee.ended z.0.0 y.0.3). ‵ (lasts callee.ended z.0.0 y.0.3 ls) ⊛ ‵ (block_if_ok freeing τ x))))) (id⊢ 𝓤 (k.post y v)) $
    await ! tt $ pick ! (λ x. split ! $ move ! (1 ∷ []) $ pick ! (λ _. split ! $ drop ! $ move ! (1 ∷ []) $ split ! $ move ! (1 ∷ 2 ∷ []) $
    answered ! τ x v
    (λ b o e. lands_as ! (e) refl (tt, (record { fits = lit< tt }, (tt, tt))) $
    first ! $ switches_on ! (get_tag ! (vrt ! refl (fld ! refl (stop !))) (whole !)) $ exec ! C Λ En (arm_body 0 (head (after 1 fn.body))) (then_runs 𝓛 C Λ En (after 2 fn.body) (at_ret En Post)) $
    sets ! (of_opd ! (get_in ! (vrt ! refl (fld ! refl (stop !))) (in_variant ! 0 0 refl refl (whole !)))) refl (tt, tt) $
    sets ! (agg ! (and_then ! (get ! refl) (and_then ! (get ! refl) (no_more !)))) refl (tt, (tt, (record { fits = are.1.0.1 }, tt))) $
    sets_last ! (agg ! (and_then ! (lit ! tt) (and_then ! (get ! refl) (no_more !)))) refl (tt, (record { fits = lit< tt }, ((tt, (record { fits = are.1.0.1 }, tt)), tt))) $
    exec ! C Λ En (after 2 fn.body) (at_ret En Post) $
    sets ! (of_opd ! (get ! refl)) refl (tt, (record { fits = lit< tt }, ((tt, (record { fits = are.1.0.1 }, tt)), tt))) $
    returns ! (look_at ! 0 refl) $ free_all ! refl $
    let p : Ptr = block_ptr b o in let d : (block.the_row).Denot = record { ptr = p; size = n; of_heap = true; fits = asked.0 } in
    let w : Val = sized_val p n in
    fjoin ! $ use0 𝓛 (‵ (sized_own p n (sized_val p n ∷ []))) (sized_made 𝓛 p n are.1.0.1) $ fjoin ! $
    use1 𝓛 (‵ (Out.own_val (Some d) (live 1 (vcons w vnil) ∷ []))) (Some-of 𝓛 block.the_row d w) $ use0 𝓛 (raw (fact 𝓤 ((true ≡ true) × (n ≡ n)))) (fact_i 𝓤 ((true ≡ true) × (n ≡ n)) (emp 𝓤) (refl, refl)) $ nothing ! $ nothing ! $ fjoin ! $ nothing ! $ fjoin ! $ move ! (3 ∷ 0 ∷ 2 ∷ 1 ∷ []) $
    by ! (leaves 𝓛 En₀ stays c z (live 1 (vcons w vnil)) (Some d) (tt, (tt, tt)) (tt, (tt, tt))))
    (λ e. lands_as ! (e) refl (tt, (record { fits = lit< tt }, (tt, tt))) $
    first ! $ switches_on ! (get_tag ! (vrt ! refl (fld ! refl (stop !))) (whole !)) $ exec ! C Λ En (arm_body 1 (head (after 1 fn.body))) (then_runs 𝓛 C Λ En (after 2 fn.body) (at_ret En Post)) $
    sets_last ! (agg ! (and_then ! (lit ! tt) (no_more !))) refl (tt, (record { fits = lit< tt }, tt)) $
    exec ! C Λ En (after 2 fn.body) (at_ret En Post) $
    sets ! (of_opd ! (get ! refl)) refl (tt, (record { fits = lit< tt }, tt)) $
    returns ! (look_at ! 0 refl) $ free_all ! refl $
    use0 𝓛 (‵ (Out.own_val None (live 0 vnil ∷ []))) (none_of 𝓛 block.the_row) $ use0 𝓛 (raw (fact 𝓤 (Unit {0}))) (fact_i 𝓤 (Unit {0}) (emp 𝓤) (tt)) $ nothing ! $ nothing ! $ fjoin ! $ nothing ! $ fjoin ! $ move ! (3 ∷ 0 ∷ 2 ∷ 1 ∷ []) $
    by ! (leaves 𝓛 En₀ stays c z (live 0 vnil) (None) (tt, (tt, tt)) (tt, (tt, tt))))))))))
