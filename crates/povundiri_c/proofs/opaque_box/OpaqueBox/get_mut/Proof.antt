-- `get_mut` lends what the box holds, and the box follows it.
use mathlib.Core.Path.{◌≡◌, refl, sym, subst}
use Prim.Native.Nat.{ℕ}
use mathlib.Core.List.{List, [], ◌∷◌, ◌++◌}
use seplogic.Ra.Ura.{Ura}
use base.Fraction.{full_share}
use base.Logic.{SProp, ent, sep, id⊢}
use base.Fml.{Lft, GName, Share, Fml, ftrue, fsep, flft, fobs, fbor}
use mir.Raw.{raw as bare}
use mir.Syntax.{named}
use mir.Val.{Val, vptr}
use prog.Memory.{Memory}
use prog.Routine.{Routine}
use prog.Wp.{Env, Calls, Loops, WpFn, Tables}
use types.Logic.{Logic, sem}
use contract.Monad.{Fun}
use contract.Running.{tables, tables_of}
use sound.WpLaws.{WpFn-mono}
use types.Kit.{Item, ⋆, ‵, raw, ◌⊛◌, some, later, await, pick, at_ret, ◌$◌, ◌∵◌, !, qed, by, move, keep, use1, split, join, group, rewrite, fsplit, fsplit3, fjoin, fpack, feq_l, suffices, frame, done}
use types.Part.{whole, sub, look_in}
use types.Run.{stop, fld, load, of_opd, addr, first, blocks, exec, returns, enter}
use types.ByLocal.{alloc_all, pass_all, free_all, look_at, get, through, sets, sets_last, env}
use types.SemTy.{Body as Borrowed}
use denote.Exit.{no}
use denote.Follow.{follows, Part, lends_Part}
use denote.Memory.{cell_at, part_at, part_of, mem}
use denote.RattleType.{owns}
use denote.RawPtr.{Ptr, block_ptr}
use denote.Ref.{MutRef}
use denote.Signature.{plain, mut_ref_to}
use denote.Steps.{nothing, opens}
use denote.Triple.Entry.{on_entry}
use denote.Triple.Spec.{triple_of}
use denote.Triple.Table.{entered}
use denote.Triple.Walked.{says, needs, Stays, stay_dropped, walk_of, ends_at, Goes-spent_ref, walk_Meets}
use Rattle.std.specs.Prelude.{Option, Some}
use Rattle.std.specs.Global.{Global}
use Rattle.std_alloc.proofs.VecSteps.Shapes.{after}
use Rattle.std_alloc.proofs.BoxSteps.Form.{B, τ, word, handle}
use Rattle.std_alloc.proofs.BoxSteps.Steps.{box_out, box_in}
use Rattle.core.proofs.alloc.Calls.{token}
use Rattle.povundiri_c.proofs.AsBox.{E}
use Rattle.povundiri_c.specs.contracts.contents.Contents as Contents
use Rattle.povundiri_c.specs.contracts.opaque_box.OpaqueBox as OpaqueBox
use Rattle.povundiri_c.specs.contracts.opaque_box.OpaqueBox.get_mut as F
use Rattle.povundiri_c.specs.contracts.opaque_box.OpaqueBox.get_mut.Key.{name as #self}
use Rattle.povundiri_c.proofs.opaque_box.OpaqueBox.get_mut.Statement as stated
use Rattle.povundiri_c.proofs.opaque_box.OpaqueBox.get_mut.Code as code

abbrev stayed : Stays (F.ended).signature.params (F.ended).kept
stayed = (stay_dropped (mut_ref_to (0 ∷ []) tt (plain (λ _. OpaqueBox.the_row))) no, tt)

abbrev X : Type 0
X = (Contents.the_row).Denot

abbrev S : Type 0
S = (OpaqueBox.the_row).Denot

module _ {M : Type 1} {𝓤 : Ura M} (𝓛 : Logic 𝓤) (at_mem : Memory → SProp 𝓤) (run : Routine → Fun 𝓤) (C : Calls 𝓤 𝓛.H) (Λ : Loops 𝓤 𝓛.H)
    (κ : Lft) (q : Share) (rb ro : ℕ) (γ : GName) (ptr : Ptr) (alloc : Global) (vs : List Val) where
  open 𝓛 use {H, A}

  abbrev boxed : Option X → S
  boxed held = record { ptr = ptr; alloc = alloc; held = held }

  abbrev bound : Option X → (walk_of 𝓛 F.ended stayed (F.clauses 𝓛 at_mem run)).Ghost
  bound held = (((κ, tt), (q, tt), tt, (record { ref_ptr = (rb, ro); ghost_name = γ; now = boxed held }, tt), (vs, tt)), tt)

  abbrev Post : Option X → Val → SProp 𝓤
  Post held = (walk_of 𝓛 F.ended stayed (F.clauses 𝓛 at_mem run)).post (bound held)

  abbrev new : X → S
  new w = boxed (Some w)

  module _ (x : X) (b o : ℕ) (hv : Val) where
    -- all of the box but what it holds
    abbrev Rest : Fml
    Rest = fsep (fsep (token E.al alloc (bare (τ E)) (block_ptr b o)) (handle E alloc hv)) (cell_at full_share (OpaqueBox.the_row).mir (word E hv b o ∷ []) rb ro)

    back : ptr ≡ block_ptr b o → (w : X) → ent 𝓤 (sep 𝓤 (sem 𝓛 ((mem Contents.the_row).own_at w b o)) (sem 𝓛 Rest)) (sem 𝓛 ((mem OpaqueBox.the_row).own_at (new w) rb ro))
    unfolding part_of
    back at w =
        qed 𝓛 (‵ (part_at Contents.the_row full_share w b o) ∷ ‵ Rest ∷ []) ∵ move ! (1 ∷ []) $ fsplit ! $ fsplit ! $ move ! (3 ∷ []) $
        box_in E ! (record { ptr = ptr; alloc = alloc; value = w }) b o w at refl $ move ! (1 ∷ 0 ∷ []) $ fjoin ! $
        fpack ! (List Val) (λ us. fsep (cell_at full_share (OpaqueBox.the_row).mir us rb ro) ((OpaqueBox.the_row).own_val (new w) us)) (word E hv b o ∷ []) $ done !

    exits : (δ : GName)
        → ent 𝓤 (sep 𝓤 (sem 𝓛 ((MutRef (named 0) κ Contents.the_row).own_val (record { ref_ptr = (b, o); ghost_name = δ; now = x }) (vptr b o ∷ []))) (sep 𝓤 (A.lft κ q) (sem 𝓛 (follows OpaqueBox.the_row Contents.the_row γ δ new)))) (Post (Some x) (vptr b o))
    exits δ =
        qed 𝓛 (‵ ((MutRef (named 0) κ Contents.the_row).own_val (record { ref_ptr = (b, o); ghost_name = δ; now = x }) (vptr b o ∷ [])) ∷ ‵ (flft κ q) ∷ ‵ (follows OpaqueBox.the_row Contents.the_row γ δ new) ∷ []) ∵
        suffices ! _ (ends_at 𝓛 F.ended stayed (F.clauses 𝓛 at_mem run) (bound (Some x)) (vptr b o) (record { ref_ptr = (b, o); ghost_name = δ; now = x }) (tt, tt) (tt, tt)) $
        nothing ! $ nothing ! $ fjoin ! $ join ! $ nothing ! $ move ! (2 ∷ 0 ∷ []) $ join ! $ join ! $ frame ! $ says ! refl $ done !

  abbrev Had : X → List (Item 𝓤)
  Had x = ‵ (fobs γ ((OpaqueBox.the_row).coded.code (new x))) ∷ ‵ (fbor κ (Borrowed (mem OpaqueBox.the_row) rb ro γ)) ∷ ‵ (flft κ q) ∷ []

  walk : (x : X) → ent 𝓤 (⋆ 𝓛 (Had x)) (WpFn 𝓤 H C Λ code.function (vptr rb ro ∷ []) (Post (Some x)))
  walk x =
      let stored = (OpaqueBox.the_row).coded.code (new x) in
      qed 𝓛 (Had x) ∵ enter ! C Λ code.function (vptr rb ro ∷ []) _ $ alloc_all ! (λ l. pass_all ! refl ((tt, tt), tt) $
      let En : Env 𝓤 H = env code.function.locals l in
      opens ! tt OpaqueBox.the_row {h = new x} rb ro (λ us. move ! (1 ∷ []) $ use1 𝓛 (‵ ((B E).own_val (record { ptr = ptr; alloc = alloc; value = x }) us)) (id⊢ 𝓤 _) $
      box_out E ! (record { ptr = ptr; alloc = alloc; value = x }) us (λ b o hv at ws fa. move ! (1 ∷ 2 ∷ []) $ fjoin ! $ move ! (1 ∷ []) $
      rewrite ! 2 (λ (vs : List Val). ‵ (cell_at full_share (OpaqueBox.the_row).mir vs rb ro)) ws refl $
      first ! $ blocks ! $
      sets ! (of_opd ! (load ! (through ! refl (fld ! refl (stop !))) (look_in ! 2 (sub ! 0 refl (whole !))))) refl (tt, tt) $
      sets ! (of_opd ! (get ! refl)) refl (tt, tt) $
      sets_last ! (addr ! (through ! refl (stop !))) refl (tt, tt) $
      exec ! C Λ En (after 1 code.function.body) (at_ret En (Post (Some x))) $
      sets ! (of_opd ! (get ! refl)) refl (tt, tt) $
      move ! (1 ∷ 2 ∷ []) $ fjoin ! $ move ! (2 ∷ 3 ∷ 4 ∷ 1 ∷ 0 ∷ []) $ group ! 5 $
      use1 𝓛 (later (some (λ (δ : GName). raw (Part 𝓛 OpaqueBox.the_row Contents.the_row new (named 0) κ q rb ro b o γ (sem 𝓛 (Rest x b o hv)) (back x b o hv at) x δ))))
      (lends_Part 𝓛 OpaqueBox.the_row Contents.the_row new (named 0) κ q rb ro b o γ (sem 𝓛 (Rest x b o hv)) (back x b o hv at) stored stored x) $ await ! tt $ pick ! (λ δ.
      returns ! (look_at ! 0 refl) $ free_all ! refl $ keep ! (0 ∷ []) $ by ! (exits x b o hv δ)))))

  abbrev Enters : Option X → Type 1
  Enters held = ent 𝓤 (on_entry 𝓛 F.signature (κ, tt) (q, tt) (record { ref_ptr = (rb, ro); ghost_name = γ; now = boxed held }, tt) (vs, tt)) (WpFn 𝓤 H C Λ code.function (vs ++ []) (Post held))

  entry_some : (x : X) → Enters (Some x)
  entry_some x =
      qed 𝓛 ((‵ (flft κ q) ⊛ ‵ ftrue) ∷ ‵ (owns (MutRef (named 0) κ OpaqueBox.the_row ∷ []) (record { ref_ptr = (rb, ro); ghost_name = γ; now = new x }, tt) (vs, tt)) ∷ []) ∵
      split ! $ move ! (2 ∷ []) $ fsplit ! $ fsplit3 ! $ feq_l ! (λ e. keep ! (0 ∷ 1 ∷ 3 ∷ []) $
      by ! (subst (λ (us : List Val). ent 𝓤 (⋆ 𝓛 (Had x)) (WpFn 𝓤 H C Λ code.function (us ++ []) (Post (Some x)))) (sym e) (walk x)))

  entry : (held : Option X) → (x : X) × (held ≡ Some x) → Enters held
  entry held (x, e) = subst Enters (sym e) (entry_some x)

pub get_mut_spec : {M : Type 1} → stated.statement M
unfolding tables_of
get_mut_spec 𝓤 𝓛 𝓜 𝓡 wired =
    let 𝓣 : Tables 𝓤 𝓛.H = tables_of 𝓤 𝓛.H 𝓜 (tables 𝓤 𝓛.H 𝓜 𝓡 𝓡.env) in
    let held = F.clauses 𝓛 𝓜.mem 𝓡.returns in
    entered 𝓤 𝓛.H (triple_of 𝓛 F.signature (F.spec 𝓛 𝓜.mem 𝓡.returns)) 𝓣.C 𝓣.Λ #self code.function (code.unfolded 𝓤 𝓛.H 𝓜 𝓡 wired)
    (walk_Meets 𝓛 F.ended stayed (Goes-spent_ref 𝓛 1 (0 ∷ []) tt (plain (λ _. OpaqueBox.the_row)), tt) held (WpFn 𝓤 𝓛.H 𝓣.C 𝓣.Λ code.function) (WpFn-mono 𝓤 𝓛.H 𝓛.laws 𝓣 code.function)
    (λ z. let a = z.0.3.0 in needs 𝓤 ((x : X) × (a.now.held ≡ Some x)) _
    (entry 𝓛 𝓜.mem 𝓡.returns 𝓣.C 𝓣.Λ z.0.0.0 z.0.1.0 a.ref_ptr.0 a.ref_ptr.1 a.ghost_name a.now.ptr a.now.alloc z.0.4.0 a.now.held)))
