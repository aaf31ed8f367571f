-- What those who own blocks have, after a store and with a block more.
use Rattle.std.proofs.Common.{◌≡◌, ◌≢◌, ℕ, zero, suc, List, [], ◌∷◌, ◌++◌, length, set, sym, refl, ap, ◌∙◌}
use mathlib.Core.Logic.{dite}
use mathlib.Core.Option.{some, some-injective, some-ne-none}
use native.Mathlib.Decide.{ℕ_discrete}
use lib.ListN.{get_elem?}
use Rattle.atomic_table.proofs.Lists.{set_else, at_longer, at_last}
use Rattle.alloc_core.specs.declared.alloc.AllocStage.{AllocStage}
use Rattle.alloc_core.specs.declared.alloc.AllocStage.TheVariants.{LoadFlags, LoadFree, ExchangeFree, StoreSize, StoreCookie, StoreType, SetFull, Claimed, Full, Corrupt}
use Rattle.alloc_core.specs.Layout.{Block, queue_block, IsAmong}
use Rattle.alloc_core.specs.Laws.{own, Has}

pub set_at : {A : Type 0} (l : List A) (k : ℕ) (a b : A) → get_elem? l k ≡ some a → get_elem? (set l k b) k ≡ some b
set_at [] k a b e = absurd (some-ne-none a (sym e))
set_at (x ∷ xs) zero a b e = refl
set_at (x ∷ xs) (suc k) a b e = set_at xs k a b e

-- the block that was put is there
pub among_put : (blocks : List Block) (k : ℕ) (b b' : Block) → get_elem? blocks k ≡ some b → IsAmong (set blocks k b') b'
among_put blocks k b b' here = (k, set_at blocks k b b' here)

-- so is each block of another owner
pub among_else : (blocks : List Block) (k : ℕ) (b b' c : Block) → get_elem? blocks k ≡ some b → c.owner ≢ b.owner → IsAmong blocks c
    → IsAmong (set blocks k b') c
among_else blocks k b b' c here other (i, there) = (
  i,
  dite (ℕ_discrete i k)
      (λ same. absurd (other (ap (λ (z : Block). z.owner) (some-injective c b (sym there ∙ (ap (get_elem? blocks) same ∙ here))))))
      (λ ne. set_else blocks k i b' ne ∙ there),
)

-- each block is there when there is one more
pub among_longer : (blocks : List Block) (b c : Block) → IsAmong blocks c → IsAmong (blocks ++ b ∷ []) c
among_longer blocks b c (i, there) = (i, at_longer blocks (b ∷ []) i c there)

pub among_last : (blocks : List Block) (b : Block) → IsAmong (blocks ++ b ∷ []) b
among_last blocks b = (length blocks, at_last blocks b (length blocks) refl)

-- the blocks of an owner stay, so what it has stays
has_along : (blocks blocks' : List Block) (owner : ℕ) → ((at : ℕ) (words : List ℕ) → IsAmong blocks (own owner at words) → IsAmong blocks' (own owner at words))
    → (stage : AllocStage) → Has blocks owner stage → Has blocks' owner stage
has_along blocks blocks' owner stay LoadFlags has = tt
has_along blocks blocks' owner stay LoadFree has = tt
has_along blocks blocks' owner stay (ExchangeFree next purpose) has = tt
has_along blocks blocks' owner stay (StoreSize at size purpose) has = stay at _ has
has_along blocks blocks' owner stay (StoreCookie at size purpose) has = stay at _ has
has_along blocks blocks' owner stay (StoreType at size) has = stay at _ has
has_along blocks blocks' owner stay SetFull has = tt
has_along blocks blocks' owner stay (Claimed at size) (behind, long, has) = (behind, long, stay at _ has)
has_along blocks blocks' owner stay Full has = tt
has_along blocks blocks' owner stay Corrupt has = tt

-- a store of one owner leaves what another has
pub has_else : (blocks : List Block) (k : ℕ) (b b' : Block) (owner other : ℕ) → get_elem? blocks k ≡ some b → b.owner ≡ some owner → other ≢ owner
    → (stage : AllocStage) → Has blocks other stage → Has (set blocks k b') other stage
has_else blocks k b b' owner other here owned ne =
    has_along blocks (set blocks k b') other
    (λ at words. among_else blocks k b b' (own other at words) here (λ e. ne (some-injective other owner (e ∙ owned))))

-- so does another next of the queue block, which nobody has
pub has_beside_queue : (blocks : List Block) (old new owner : ℕ) → get_elem? blocks 0 ≡ some (queue_block old) → (stage : AllocStage)
    → Has blocks owner stage → Has (set blocks 0 (queue_block new)) owner stage
has_beside_queue blocks old new owner here =
    has_along blocks (set blocks 0 (queue_block new)) owner
    (λ at words. among_else blocks 0 (queue_block old) (queue_block new) (own owner at words) here (λ e. some-ne-none owner e))

-- a block more leaves what all have
pub has_longer : (blocks : List Block) (b : Block) (owner : ℕ) (stage : AllocStage) → Has blocks owner stage → Has (blocks ++ b ∷ []) owner stage
has_longer blocks b owner = has_along blocks (blocks ++ b ∷ []) owner (λ at words. among_longer blocks b (own owner at words))
