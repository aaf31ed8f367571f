-- What a segment makes of a recorder that is passed to it.
use Rattle.std.proofs.Common.{◌≡◌, ◌≢◌, ◌⊎◌, ℕ, inl, inr, Option, Some, None, MatchOption, Result, Ok, Err, refl, sym, subst, ap, ◌∙◌}
use Rattle.std.specs.Arc.{arc_value}
use Rattle.atomic_table.specs.Seated.{TableId}
use Rattle.segment_machine.specs.Seats.{giver, joined}
use Rattle.live_segment.specs.Holders.{IsSameOpener, view_of_opener}
use Rattle.live_segment.specs.declared.opener.Opener.{Opener}
use Rattle.owned_recorder.specs.Holders.{IsRecorderOf, view_of_owned}
use Rattle.owned_recorder.specs.declared.owned.OwnedRecorder.{OwnedRecorder}
use Rattle.povundiri_c.specs.declared.joinable_recorder.JoinableRecorder.{JoinableRecorder}
use Rattle.povundiri_c.specs.declared.mailbox.Mailbox.{Mailbox}
use Rattle.povundiri_c.specs.declared.owned_segment.OwnedSegment.{OwnedSegment}
use Rattle.povundiri_c.specs.Joins.{HasJoined, HasOpener, IsRecorderFound, IsLendDone, IsNotFound, IsPassed, IsSameSegment, KeepsSegment, mailbox_of_recorder, mailbox_of_segment}
use Rattle.povundiri_c.specs.Mailbox.{BelongsTo, HasMetRecorder, IsOfOpener, MailboxSeat, Passes}

-- what a recorder was found to be
pub matched : {A : Type 0} (P : Type 0) (Q : A → Type 0) (found : Option A) (one : A) → found ≡ Some one → Q one → MatchOption found P Q
matched {A} P Q found one is holds = subst (λ (it : Option A). MatchOption it P Q) (sym is) holds

-- what `pass` says of a recorder, of the mailboxes that it and the segment have
module _ (joinable : JoinableRecorder) (old : OwnedSegment) (its own : Mailbox) (result : Result (Option OwnedRecorder × Option OwnedRecorder) OwnedRecorder) (after : MailboxSeat × MailboxSeat)
    (are : (its ≡ arc_value joinable.mailbox) × (own ≡ arc_value old.mailbox))
    (passes : Passes its.table.shared.table_id own.table.shared.table_id own.table.shared.key joinable.owned (old.keeper, old.gone) result after) where
  abbrev from : TableId
  from = mailbox_of_recorder joinable

  abbrev to : TableId
  to = mailbox_of_segment old

  abbrev key : Opener
  key = (arc_value old.mailbox).table.shared.key

  abbrev Says : Result (Option OwnedRecorder × Option OwnedRecorder) OwnedRecorder → Type 0
  Says one = Passes from to key joinable.owned (old.keeper, old.gone) one after

  said : Says result
  said = subst (λ (x : Mailbox × Mailbox). Passes x.0.table.shared.table_id x.1.table.shared.table_id x.1.table.shared.key joinable.owned (old.keeper, old.gone) result after)
      (λ i. (are.0 i, are.1 i)) passes

  -- it has come back, so it is of another segment
  pub back_is : (met : Option OwnedRecorder) (back : OwnedRecorder) → result ≡ Ok (met, Some back)
      → (back ≡ joinable.owned) × (after.1 ≡ old.gone) × (met ≡ None → after.0 ≡ old.keeper) × (from ≢ to)
  back_is met back is =
      let it = subst Says is said in
      (it.1.0, it.1.1, it.2, λ e. absurd (cc (ap (λ (x : Option OwnedRecorder × Option OwnedRecorder). x.1) (it.3 e))))

  -- what was found is of the segment
  pub met_is : (met back : Option OwnedRecorder) → result ≡ Ok (met, back) → IsOfOpener key met
  met_is met back is = (subst Says is said).0

  -- it has not come back, and this was found
  pub found_is : (found : OwnedRecorder) → result ≡ Ok (Some found, None)
      → BelongsTo found key × (from ≡ to → found ≡ joinable.owned) × (from ≢ to → HasMetRecorder from joinable.owned after.1)
  found_is found is =
      let it = subst Says is said in
      (it.0, (λ e. cc (ap (λ (x : Option OwnedRecorder × Option OwnedRecorder). x.0) (it.3 e))), it.1)

  -- it has not come back, and nothing was found
  pub gone_is : result ≡ Ok (None, None) → (from ≢ to) × (from ≢ to → HasMetRecorder from joinable.owned after.1)
  gone_is is =
      let it = subst Says is said in
      ((λ e. absurd (cc (ap (λ (x : Option OwnedRecorder × Option OwnedRecorder). x.0) (it.3 e)))), it.1)

  -- its mailbox was in use
  pub busy_is : (back : OwnedRecorder) → result ≡ Err back → (back ≡ joinable.owned) × (after ≡ (old.keeper, old.gone))
  busy_is back is = subst Says is said

-- what was found is joined, if anything
pub met_or : (met : Option OwnedRecorder) (old mid new : OwnedSegment) → (met ≡ None → IsSameSegment old mid) → MatchOption met (new ≡ mid) (λ owned. HasJoined owned old new)
    → IsSameSegment old new ⊎ ((owned : OwnedRecorder) × HasJoined owned old new)
met_or None old mid new same is = inl (subst (IsSameSegment old) (sym is) (same refl))
met_or (Some owned) old mid new same is = inr (owned, is)

-- ---- what is done with a recorder that was found

keeps_since : (old mid new : OwnedSegment) → HasOpener old mid → KeepsSegment mid new → KeepsSegment old new
keeps_since old mid new has keeps =
    (keeps.0 ∙ has.0, keeps.1 ∙ has.1, keeps.2 ∙ has.2, subst (λ (opener : Opener). IsSameOpener opener new.opener) has.3 keeps.3)

-- what it is joined to is the segment as it was
pub joined_since : (found : OwnedRecorder) (old mid new : OwnedSegment) → HasOpener old mid → HasJoined found mid new → HasJoined found old new
joined_since found old mid new has is = (
  keeps_since old mid new has is.0,
  subst (λ (opener : Opener). IsRecorderOf found opener) has.3 is.1,
  subst (λ (opener : Opener). view_of_opener new.opener ≡ joined (view_of_opener opener) (view_of_owned found)) has.3 is.2,
)

-- and so is what lends it units
pub lent_since : (units : ℕ) (found : OwnedRecorder) (old mid new : OwnedSegment) (status : ℕ) (back : Option JoinableRecorder)
    → HasOpener old mid → IsLendDone units found mid status back new → IsLendDone units found old status back new
lent_since units found old mid new status back has (done, (after, is, (keeps, of, shared, kept, mine, theirs, same))) = (
  done,
  (
    after,
    is,
    (
      keeps_since old mid new has keeps,
      subst (λ (opener : Opener). IsRecorderOf found opener) has.3 of,
      shared,
      kept,
      subst (λ (opener : Opener). view_of_opener new.opener ≡ giver (view_of_opener opener) units) has.3 mine,
      theirs,
      same,
    ),
  ),
)

module _ (Does : OwnedRecorder → OwnedSegment → ℕ → Option JoinableRecorder → OwnedSegment → Type 0) (Refuses : ℕ → Type 0)
    (joinable : JoinableRecorder) (old : OwnedSegment) (status : ℕ) (back : Option JoinableRecorder) (new : OwnedSegment) where
  -- it was found, and this is done with it
  pub passed : (found : OwnedRecorder) (mid : OwnedSegment) → IsRecorderFound joinable found old mid → new.gone ≡ mid.gone → Does found old status back new
      → IsPassed Does Refuses joinable old status back new
  passed found mid is same does = (
    λ own. inl (subst (λ (one : OwnedRecorder). Does one old status back new) (is.2 own) does),
    λ other. inr (inr (subst (λ (seat : MailboxSeat). HasMetRecorder (mailbox_of_recorder joinable) joinable.owned seat) (sym same) (is.3 other), inr (found, does))),
  )

  -- none was found
  pub not_passed : Refuses 15 → IsNotFound joinable old status back new → IsPassed Does Refuses joinable old status back new
  not_passed busy is = (
    λ own. inr (kept (is.0 own)),
    λ other. elim (is.1 other) [
      | inl foreign ↦ inl foreign
      | inr (inl one) ↦ inr (inl (kept one))
      | inr (inr (gone, elsewhere)) ↦ inr (inr (gone, inl elsewhere))
    ],
  )
    where
      kept : {P : Type 0} → (status ≡ 15) × P → Refuses status × P
      kept one = (subst Refuses (sym one.0) busy, one.1)
