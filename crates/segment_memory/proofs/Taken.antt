-- The two cases of what `take` gave, and a block as room for a type. Assumes `Logic`.
use Rattle.std.proofs.Common.{◌≡◌, ℕ, Bool, ◌^◌, ◌<◌, ◌≤◌, List, [], ◌∷◌, ◌++◌, IfSome, None, Some, refl, sym, ap, subst, ◌∙◌, arith}
use seplogic.Ra.Ura.{Ura}
use mir.Syntax.{Ty, Width, w8, w16, w32, w64, w128}
use mir.Val.{Val, vcons, vnil, of_list, bytes}
use base.Logic.{ent, sep, never, fst∗}
use base.Fml.{fsep, fwand, froom}
use prog.Memory.{size, align, capped}
use prog.Align.{Dv, align_w, align-bytes}
use types.Logic.{Logic, sem}
use types.Kit.{Item, Goal, Seq, ‵, ◌⊛◌, ◌$◌, ◌∵◌, !, qed, move, drop, use1, split, frame, rewrite, fsplit, fjoin, fpick, fpack, feq_l, done}
use types.Match.{live}
use denote.RattleType.{RattleType}
use denote.RawPtr.{Ptr, block_ptr, null_ptr, in_a_block}
use denote.Shadow.{pure_l}
use denote.Steps.{only}
use Rattle.core.specs.contracts.option.Option as option
use Rattle.linked_list_allocator.proofs.Values.{sized_val, sized_own, sized_told}
use Rattle.linked_list_allocator.proofs.Nodes.{retypes}
use Rattle.segment_memory.specs.Blocks.{IsBlockSize, bytes_at, owed, block_owns, block_token}
use Rattle.segment_memory.specs.contracts.block.Block as block

abbrev pub Taken : RattleType
Taken = option.the_row block.the_row

-- what `take` says of a request of n bytes, aligned to a, where its block is to have m bytes
abbrev pub Told : Bool → ℕ → ℕ → ℕ → Taken.Denot → Type 0
Told heap m n a x = IfSome x (λ b. (b.of_heap ≡ heap) × (b.size ≡ m) × (n ≤ b.size) × (n < 2 ^ 63) × (a ≤ 16))

divides_16 : (w : Width) → Dv (bytes w) 16
divides_16 w8 = tt
divides_16 w16 = tt
divides_16 w32 = tt
divides_16 w64 = tt
divides_16 w128 = tt

pub hands_out : {M : Type 1} {𝓤 : Ura M} (𝓛 : Logic 𝓤) (heap : Bool) (τ : Ty) (b o m : ℕ) → IsBlockSize m → m < 2 ^ 64 → size τ ≤ m → size τ < 2 ^ 63
    → ent 𝓤 (sem 𝓛 (block_owns heap m (block_ptr b o))) (sep 𝓤 (𝓛.H.room τ b o) (sem 𝓛 (block_token heap m τ (block_ptr b o))))
hands_out {𝓤 = 𝓤} 𝓛 heap τ b o m sized fits enough short =
    let p : Ptr = block_ptr b o in
    qed 𝓛 (‵ (block_owns heap m p) ∷ []) ∵ fsplit ! $
    use1 𝓛 (‵ (froom τ b o) ⊛ ‵ (fwand (froom τ b o) (bytes_at p m)))
    (retypes 𝓛 b τ o m sized.1 enough (subst (λ (k : ℕ). Dv k 16) (sym (align-bytes τ)) (divides_16 (align_w τ)))) $ split ! $ frame ! $ fjoin ! $
    fpack ! (IsBlockSize m × (m < 2 ^ 64) × (size τ < 2 ^ 63)) (λ _. fsep (fwand (froom τ b o) (bytes_at p m)) (owed heap m p)) (sized, fits, short) $ done !

module _ {M : Type 1} {𝓤 : Ura M} {𝓛 : Logic 𝓤} {K : Type 0} {Γ : List (Item 𝓤)} {G : Goal 𝓤 𝓛.H} where
  pub taken : K → (heap : Bool) (m n a : ℕ) (x : Taken.Denot) (v : Val) → Told heap m n a x
      → ((b o : ℕ) → IsBlockSize m → m < 2 ^ 64 → n ≤ m → n < 2 ^ 63 → v ≡ live 1 (vcons (sized_val (block_ptr b o) m) vnil)
      → Seq K 𝓛 (‵ (block_owns heap m (block_ptr b o)) ∷ Γ) G) → (v ≡ live 0 vnil → Seq K 𝓛 Γ G) → Seq K 𝓛 (‵ (Taken.own_val x (v ∷ [])) ∷ Γ) G
  taken t heap m n a None v told some none =
      fpick t (λ us. fsplit t $ feq_l t (λ is. fpick t (λ vss. fsplit t $ feq_l t (λ is'. drop t $ none (ap only is ∙ ap (λ (ws : List Val). live 0 (of_list ws)) is')))))
  taken t heap m n a (Some w) v told some none =
      fpick t (λ us. fsplit t $ feq_l t (λ is. fpick t (λ vss. fsplit t $ feq_l t (λ is'. fsplit t $ move t (1 ∷ []) $ drop t $ fsplit t $ pure_l t (sized_own w.ptr w.size vss.0) (λ s.
      let parts = sized_told w.ptr w.size vss.0 s in
      in_a_block t w.ptr (λ p. block_owns w.of_heap w.size p) (fst∗ 𝓤 (never 𝓤) (sem 𝓛 (owed w.of_heap w.size null_ptr))) (λ b o at.
      rewrite t 0 (λ (u : Bool × ℕ). ‵ (block_owns u.0 u.1 (block_ptr b o))) (λ i. (told.0 i, told.1 i)) refl $
      some b o (subst IsBlockSize told.1 w.fits) (subst (λ (k : ℕ). k < 2 ^ 64) told.1 parts.1) (subst (λ (k : ℕ). n ≤ k) told.1 told.2) told.3
      (ap only is ∙ ap (λ (xs : List Val). live 1 (of_list xs)) (is' ∙ ap (λ (xs : List Val). xs ++ []) parts.0) ∙ (λ i. live 1 (vcons (sized_val (at i) (told.1 i)) vnil)))))))))
