-- `arrange` changes nothing in memory, since a seat has no bytes; what the two seats own changes hands.
use Rattle.std.specs.Prelude.{Bool, true, false, cond}
use seplogic.Ra.Ura.{Ura}
use base.Logic.{id⊢, comm∗}
use types.Logic.{Logic}
use types.Kit.{use2}
use Rattle.atomic_table.proofs.Names.{◌≡◌, ℕ, List, [], ◌∷◌, refl, a_type, named, Val, vunit, vptr, inst_fn, SProp, ent, sep, emp, Fml, ftrue, fsep, flft, sem, ‵, raw, ◌⊛◌, ◌$◌, ◌∵◌, !, qed, by, move, keep, split, split3, join, fsplit, fsplit3, fjoin, fjoin3, use0, feq_i, unit_lit, of_opd, returns, enter, alloc_all, pass_all, free_all, look_at, sets, tables, RattleType, owns, types_at, plain, nothing, param, layouts, Stays, walk_of, fact, fact_i, Coded, mut_vals, mut_Tells, opens, closes, stay_ref, Goes-ref}
use Rattle.atomic_table.proofs.Walks.{proved, leaves}
use Rattle.atomic_table.specs.Seated.{mine}
use Rattle.atomic_table.specs.contracts.shared.Seat as seat
use Rattle.povundiri_c.specs.Seats.{is_same_table}
use Rattle.povundiri_c.specs.contracts.seats.arrange.{ended, clauses}
use Rattle.povundiri_c.specs.contracts.seats.arrange.Key.{name as #self}
use Rattle.povundiri_c.proofs.seats.arrange.Statement.{statement}
use Rattle.povundiri_c.proofs.seats.arrange.Code as code

-- two things stay or change places
either_way : {M : Type 1} {𝓤 : Ura M} (𝓛 : Logic 𝓤) {A : Type 0} (F : A → Fml) (same : Bool) (one other : A)
    → ent 𝓤 (sep 𝓤 (sem 𝓛 (F one)) (sem 𝓛 (F other))) (sep 𝓤 (sem 𝓛 (F (cond same one other))) (sem 𝓛 (F (cond same other one))))
either_way {M} {𝓤} 𝓛 F true one other = id⊢ 𝓤 (sep 𝓤 (sem 𝓛 (F one)) (sem 𝓛 (F other)))
either_way {M} {𝓤} 𝓛 F false one other = comm∗ 𝓤 (sem 𝓛 (F one)) (sem 𝓛 (F other))

-- a seat is the one or the other
is_either : (R W : RattleType) (same : Bool) (one other : (seat.the_row R W).Denot)
    → ◌≡◌ {A = (seat.the_row R W).Denot} (record { marker = one.marker; table_id = (cond same one other).table_id; id = (cond same one other).id; me = (cond same one other).me }) (cond same one other)
is_either R W true one other = refl
is_either R W false one other = refl

pub arrange_spec : {M : Type 1} → statement M
arrange_spec 𝓤 𝓛 𝓜 𝓡 wired T U _ _ =
    let H = 𝓛.H in let 𝓣 = tables 𝓤 H 𝓜 𝓡 𝓡.env in let R : RattleType = param 0 T in let W : RattleType = param 1 U in let En = ended T U in
    let inst = layouts (a_type ∷ a_type ∷ []) (T, (U, tt)) in let fn = inst_fn inst code.function in let Sr : RattleType = seat.the_row R W in let sitter = plain (λ _. Sr) in
    let hs : Stays En.signature.params En.kept = (stay_ref (0 ∷ []) tt sitter, (stay_ref (1 ∷ []) tt sitter, tt)) in let c = clauses T U 𝓛 𝓜.mem 𝓡.returns in
    proved 𝓛 En hs c 𝓜 𝓡 (Goes-ref 𝓛 4 0 tt sitter, (Goes-ref 𝓛 4 1 tt sitter, tt)) (#self inst) fn (code.unfolded 𝓤 H 𝓜 𝓡 wired (T, (U, tt)))
    (λ κs. (mut_vals, (mut_vals, tt))) (λ κs. (mut_Tells (named 0) κs.0 Sr, (mut_Tells (named 1) κs.1.0 Sr, tt))) (λ κs qs bounds a gh are.
    let b : ℕ = a.0.ref_ptr.0 in let o : ℕ = a.0.ref_ptr.1 in let h : Sr.Denot = a.0.now in let b₂ : ℕ = a.1.0.ref_ptr.0 in let o₂ : ℕ = a.1.0.ref_ptr.1 in let k : Sr.Denot = a.1.0.now in
    let cv : Coded U.Denot = W.coded in let same : Bool = is_same_table h.table_id k.table_id in let x : Sr.Denot = cond same h k in let x₂ : Sr.Denot = cond same k h in
    let h' : Sr.Denot = record { marker = h.marker; table_id = x.table_id; id = x.id; me = x.me } in let k' : Sr.Denot = record { marker = k.marker; table_id = x₂.table_id; id = x₂.id; me = x₂.me } in
    let Told : Type 0 = (◌≡◌ {A = Sr.Denot} h' x) × (◌≡◌ {A = Sr.Denot} k' x₂) in
    let owned : Sr.Denot → Fml = λ s. mine R cv.code s.table_id s.id s.me in
    let y : (walk_of 𝓛 En hs c).Ghost = ((κs, qs, bounds, a, (vptr b o ∷ [], (vptr b₂ o₂ ∷ [], tt))), gh) in let Post : Val → SProp 𝓤 = (walk_of 𝓛 En hs c).post y in
    let others : Fml = fsep (flft κs.1.1.0 qs.1.1.0) (fsep (flft κs.1.1.1.0 qs.1.1.1.0) ftrue) in
    qed 𝓛 (((‵ (flft κs.0 qs.0) ⊛ ‵ (flft κs.1.0 qs.1.0) ⊛ ‵ others) ⊛ ‵ (owns (types_at En.signature.params κs) a y.0.4)) ∷ raw ((c κs a).requires gh) ∷ []) ∵
    split ! $ split3 ! $ move ! (3 ∷ []) $ fsplit ! $ fsplit3 ! $ move ! (3 ∷ []) $ fsplit ! $ fsplit3 ! $ keep ! (5 ∷ 6 ∷ 7 ∷ 1 ∷ 2 ∷ 8 ∷ 9 ∷ []) $
    enter ! 𝓣.C 𝓣.Λ fn (vptr b o ∷ vptr b₂ o₂ ∷ []) Post $ alloc_all ! (λ l. pass_all ! refl ((tt, tt), ((tt, tt), tt)) $
    opens ! tt Sr b o (λ ts. move ! (1 ∷ []) $ fsplit ! $ move ! (6 ∷ 7 ∷ 8 ∷ []) $
    opens ! tt Sr b₂ o₂ (λ ts₂. move ! (1 ∷ []) $ fsplit ! $ move ! (7 ∷ 1 ∷ []) $
    use2 𝓛 (‵ (owned x) ⊛ ‵ (owned x₂)) (either_way 𝓛 owned same h k) $ split ! $
    move ! (7 ∷ 0 ∷ []) $ fjoin ! $ move ! (7 ∷ 0 ∷ 8 ∷ 9 ∷ 10 ∷ []) $ closes ! tt Sr h' ts b o $ feq_i ! (List Val) (vptr b o ∷ []) (vptr b o ∷ []) refl $ fjoin3 ! $
    move ! (3 ∷ 2 ∷ []) $ fjoin ! $ move ! (3 ∷ 0 ∷ 4 ∷ 5 ∷ 6 ∷ []) $ closes ! tt Sr k' ts₂ b₂ o₂ $ feq_i ! (List Val) (vptr b₂ o₂ ∷ []) (vptr b₂ o₂ ∷ []) refl $ fjoin3 ! $
    nothing ! $ move ! (1 ∷ 0 ∷ []) $ fjoin ! $ move ! (2 ∷ 0 ∷ []) $ fjoin ! $ move ! (1 ∷ 3 ∷ []) $ join ! $ move ! (2 ∷ 0 ∷ []) $ join ! $
    sets ! (of_opd ! (unit_lit !)) refl (tt, tt) $ use0 𝓛 (raw (fact 𝓤 Told)) (fact_i 𝓤 Told (emp 𝓤) (is_either R W same h k, is_either R W same k h)) $ feq_i ! (List Val) (vunit ∷ []) (vunit ∷ []) refl $
    returns ! (look_at ! 0 refl) $ free_all ! refl $ keep ! (2 ∷ 3 ∷ 0 ∷ 1 ∷ []) $ by ! (leaves 𝓛 En hs c y vunit tt (h', (k', tt)) (tt, (tt, tt)))))))
