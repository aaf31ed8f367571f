-- A step for a new record leaves less.
use Rattle.segment_invariant.proofs.Prelude.Std.{◌≡◌, ◌≢◌, ℕ, suc, ◌+◌, ◌-◌, ◌<◌, ◌≤◌, Bool, true, false, List, [], ◌∷◌, length, set, refl, sym, ap, subst, ◌∙◌, arith, if◌then◌else◌, nat_lt, ltb-true}
use Rattle.alloc_core.specs.declared.alloc.AllocStep.{AllocStep}
use Rattle.alloc_core.specs.declared.alloc.AllocStep.TheVariants as said
use Rattle.alloc_core.specs.Alloc.{Allocation, IsLawful}
use Rattle.alloc_core.specs.Alloc as alloc
use Rattle.list_core.specs.declared.publish.PubStep.{PubStep}
use Rattle.list_core.specs.declared.publish.PubStep.TheVariants as put
use Rattle.list_core.specs.Publish.{Publishing as PublishingOf, IsReach, started}
use Rattle.list_core.specs.Publish as publish
use Rattle.hist_core.specs.declared.new_record.NewRecord.{NewRecord}
use Rattle.hist_core.specs.declared.new_record.NewRecordStep.{NewRecordStep}
use Rattle.hist_core.specs.declared.new_record.NewRecordStep.TheVariants.{More}
use Rattle.hist_core.specs.declared.new_record.NewRecordStage.{NewRecordStage}
use Rattle.hist_core.specs.declared.new_record.NewRecordStage.TheVariants.{Allocating, Filling, Publishing}
use Rattle.hist_core.specs.NewRecord.{IsAllocated, IsPayloadFilled, IsPublished}
use Rattle.hist_core.specs.Left.{is_less, publish_left, record_left, RecordIsOn, RecordLowers, room}
use Rattle.hist_core.proofs.Left.Less.{less_first, less_next}
use Rattle.hist_core.proofs.Left.Allocs.{less_on as allocates_on, less_then, room_beside}
use Rattle.hist_core.proofs.Left.Publishes.{less_on as publishes_on, room_same}

module _ (payload words new_words : List ℕ) (m : NewRecord) where
  -- ---- it claims its words

  module _ (x : Allocation) (allocates : m.stage ≡ Allocating x) (lawful : IsLawful x) (long : length words ≡ x.shape.size) (y : Allocation) where
    pub allocating_less : (says : AllocStep) (new : NewRecord) (result : NewRecordStep) → alloc.IsStep x words y new_words says
        → IsAllocated (record { stage = Allocating y }) says new result → RecordLowers payload m words new new_words result
    allocating_less said.More new result step (new_is, result_is) =
        subst (λ (p : NewRecord × NewRecordStep). RecordLowers payload m words p.0 new_words p.1) (λ i. (sym new_is i, sym result_is i))
        (λ chain has on. subst (λ (s : NewRecordStage). is_less (room new_words ∷ record_left new_words payload (Allocating y)) (room words ∷ record_left words payload s) ≡ true)
        (sym allocates) (allocates_on words x long lawful y new_words said.More step refl))
    allocating_less (said.Done at) new result step (new_is, result_is) =
        subst (λ (p : NewRecord × NewRecordStep). RecordLowers payload m words p.0 new_words p.1) (λ i. (sym new_is i, sym result_is i))
        (λ chain has on. subst (λ (s : NewRecordStage). is_less (room new_words ∷ record_left new_words payload (Filling at 0)) (room words ∷ record_left words payload s) ≡ true)
        (sym allocates) (less_then words x long lawful y new_words (said.Done at) step at refl ((length payload - 0) ∷ 0 ∷ [])))
    allocating_less said.Full new result step result_is = subst (λ (r : NewRecordStep). RecordLowers payload m words new new_words r) (sym result_is) tt
    allocating_less said.Corrupt new result step result_is = subst (λ (r : NewRecordStep). RecordLowers payload m words new new_words r) (sym result_is) tt

  -- ---- it stores the payload

  module _ (at index v : ℕ) (fills : m.stage ≡ Filling at index) (from : 16 ≤ at) (inside : index < length payload) where
    pub filling_less : (new : NewRecord) → new_words ≡ set words (at + (4 + index)) v → IsPayloadFilled payload at (index + 1) new
        → RecordLowers payload m words new new_words More
    filling_less new are (next, goes, new_is) = λ chain has on.
        subst (λ (p : NewRecordStage × NewRecordStage). is_less (room new_words ∷ record_left new_words payload p.0) (room words ∷ record_left words payload p.1) ≡ true)
        (λ i. (sym new_is i, sym fills i)) (by (nat_lt next (length payload)) refl)
      where
        same : room new_words ≡ room words
        same = ap room are ∙ room_beside words (at + (4 + index)) v (λ e. omega (arith, e, from))

        by : (b : Bool) → nat_lt next (length payload) ≡ b
            → is_less (room new_words ∷ record_left new_words payload (if b then Filling at next else Publishing (started at))) (room words ∷ 4 ∷ (length payload - index) ∷ 0 ∷ []) ≡ true
        by true e =
            let below = ltb-true next (length payload) e in
            let behind = goes.behind in
            less_next (room new_words) (room words) (4 ∷ (length payload - next) ∷ 0 ∷ []) (4 ∷ (length payload - index) ∷ 0 ∷ []) same
            (less_next 4 4 ((length payload - next) ∷ 0 ∷ []) ((length payload - index) ∷ 0 ∷ []) refl
            (less_first (length payload - next) (length payload - index) (0 ∷ []) (0 ∷ []) (omega (arith, below, behind, inside))))
        by false e = less_next (room new_words) (room words) (3 ∷ suc (length new_words) ∷ 0 ∷ []) (4 ∷ (length payload - index) ∷ 0 ∷ []) same refl

  -- ---- it is put on the list

  module _ (x : PublishingOf) (publishes : m.stage ≡ Publishing x) (reach : IsReach (length words) x) (y : PublishingOf) where
    goes_less : (says : PubStep) → publish.IsStep x words y new_words says → says ≢ put.Done → RecordLowers payload m words (record { stage = Publishing y }) new_words More
    goes_less says step goes = λ chain has on.
        subst (λ (s : NewRecordStage). is_less (room new_words ∷ 3 ∷ publish_left new_words y.stage) (room words ∷ record_left words payload s) ≡ true)
        (sym publishes) (publishes_on words x y new_words says reach step chain has (subst (RecordIsOn chain) publishes on) goes)

    pub publishing_less : (says : PubStep) (result : NewRecordStep) → publish.IsStep x words y new_words says → IsPublished says result
        → RecordLowers payload m words (record { stage = Publishing y }) new_words result
    publishing_less put.More result step result_is =
        subst (λ (r : NewRecordStep). RecordLowers payload m words (record { stage = Publishing y }) new_words r) (sym result_is) (goes_less put.More step (λ done. cc done))
    publishing_less put.Stray result step result_is =
        subst (λ (r : NewRecordStep). RecordLowers payload m words (record { stage = Publishing y }) new_words r) (sym result_is) (goes_less put.Stray step (λ done. cc done))
    publishing_less put.Done result step result_is =
        subst (λ (r : NewRecordStep). RecordLowers payload m words (record { stage = Publishing y }) new_words r) (sym result_is)
        (λ rest. subst (λ (s : NewRecordStage). is_less (room new_words ∷ 2 ∷ rest) (room words ∷ record_left words payload s) ≡ true)
        (sym publishes) (less_next (room new_words) (room words) (2 ∷ rest) (3 ∷ publish_left words x.stage) (room_same words x y new_words put.Done reach step) refl))
