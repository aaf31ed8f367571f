-- What the heap returned: the block and the right to free it, or nothing. Assumes `Logic`.
use Rattle.std.proofs.Common.{◌≡◌, ℕ, true, false, List, [], ◌∷◌, ◌++◌, ap, ◌∙◌, Ok, Err}
use seplogic.Ra.Ura.{Ura}
use mir.Syntax.{Ty}
use mir.Val.{Val, of_list}
use base.Logic.{never, fst∗}
use base.Fml.{ftrue, fsep, froom}
use types.Logic.{Logic, sem}
use types.Kit.{Item, Goal, Seq, ‵, ◌$◌, drop, move, fsplit, fpick, feq_l}
use types.Match.{live}
use denote.RawPtr.{Ptr, block_ptr, null_ptr, ptr_val, room_for, in_a_block}
use denote.Steps.{only}
use Rattle.core.specs.Allocator.{block_if_ok}
use Rattle.core.proofs.alloc.Calls.{Answer, answer_val}
use Rattle.segment_memory.specs.Blocks.{freeing}

module _ {M : Type 1} {𝓤 : Ura M} {𝓛 : Logic 𝓤} {K : Type 0} {Γ : List (Item 𝓤)} {G : Goal 𝓤 𝓛.H} where
  pub answered : K → (τ : Ty) (x : Answer.Denot) (v : Val)
      → ((b o : ℕ) → v ≡ answer_val true b o → Seq K 𝓛 (‵ (froom τ b o) ∷ ‵ (freeing τ (block_ptr b o)) ∷ Γ) G)
      → (v ≡ answer_val false 0 0 → Seq K 𝓛 Γ G) → Seq K 𝓛 (‵ (Answer.own_val x (v ∷ [])) ∷ ‵ (block_if_ok freeing τ x) ∷ Γ) G
  answered t τ (Ok r) v some none =
      fpick t (λ us. fsplit t $ feq_l t (λ e. fpick t (λ vss. fsplit t $ feq_l t (λ e'. fsplit t $ feq_l t (λ e''. drop t $
      in_a_block t r (λ z. fsep (room_for τ z) (freeing τ z)) (fst∗ 𝓤 (never 𝓤) (sem 𝓛 (freeing τ null_ptr))) (λ b o at. fsplit t $
      some b o (ap only e ∙ ap (λ (ws : List Val). live 0 (of_list ws)) (e' ∙ ap (λ (ws : List Val). ws ++ []) (e'' ∙ ap (λ (z : Ptr). ptr_val z ∷ []) at)))))))))
  answered t τ (Err n) v some none =
      fpick t (λ us. fsplit t $ feq_l t (λ e. fpick t (λ vss. fsplit t $ feq_l t (λ e'. fsplit t $ fpick t (λ nil. fsplit t $ feq_l t (λ e''. drop t $ drop t $ drop t $
      none (ap only e ∙ ap (λ (ws : List Val). live 1 (of_list ws)) (e' ∙ ap (λ (ws : List Val). ws ++ []) e''))))))))
