-- How a recorder is passed from its own mailbox to another.
use Rattle.std.proofs.Common.{◌≡◌, ◌≢◌, ◌⊎◌, inl, inr, ◌==◌, ◌&&◌, cond, ℕ, Bool, true, false, List, ◌∷◌, [], Option, Some, None, MatchOption, Result, Ok, Err, ◌+◌, ◌%◌, ◌<◌, ◌≤◌, refl, sym, subst, ap, ◌∙◌, arith, ⊎_elim}
use Rattle.std.specs.Cmp.Derive.{both_true}
use Rattle.std.proofs.lemmas.Bool.{eq-eqb, eqb-true}
use Rattle.atomic_table.specs.Seated.{TableId}
use Rattle.atomic_table.specs.Table.{Me}
use Rattle.live_segment.specs.declared.opener.Opener.{Opener}
use Rattle.owned_recorder.specs.declared.owned.OwnedRecorder.{OwnedRecorder}
use Rattle.povundiri_c.specs.Seats.{have_same, is_same_table}
use Rattle.povundiri_c.specs.declared.seat_state.SeatState.{SeatState}
use Rattle.povundiri_c.specs.declared.seat_state.SeatState.TheVariants.{Laid, Met, Nothing, Reaches}
use Rattle.povundiri_c.proofs.Mailboxes.{missed_same, same_seat}
use Rattle.povundiri_c.specs.Mailbox.{FitsNumber, FitsState, HasLaid, HasMetRecorder, IsKeeper, IsOfOpener, MayReachInto, MayReachBy, MayReachFrom, MayTake, Passes, Replaces, ReplacesBy, KeeperTakes, MailboxSeat, View, missed_state}

-- ---- tables

and_both : (a b : Bool) → (a && b) ≡ true → (a ≡ true) × (b ≡ true)
and_both true b is = (refl, is)
and_both false b is = absurd (cc is)

lists_are : (xs ys : List ℕ) → have_same xs ys ≡ true → xs ≡ ys
lists_are [] [] is = refl
lists_are [] (y ∷ ys) is = absurd (cc is)
lists_are (x ∷ xs) [] is = absurd (cc is)
lists_are (x ∷ xs) (y ∷ ys) is = let t = and_both (x == y) (have_same xs ys) is in λ i. eqb-true x y t.0 i ∷ lists_are xs ys t.1 i

list_is : (xs : List ℕ) → have_same xs xs ≡ true
list_is [] = refl
list_is (x ∷ xs) = both_true (eq-eqb x x refl) (list_is xs)

tables_are : (a b : TableId) → is_same_table a b ≡ true → a ≡ b
tables_are a b is =
    let t6 = and_both _ (have_same a.slot_names b.slot_names) is in
    let t5 = and_both _ (a.offset == b.offset) t6.0 in
    let t4 = and_both _ (a.block == b.block) t5.0 in
    let t3 = and_both _ (a.atom == b.atom) t4.0 in
    let t2 = and_both _ (a.views_name == b.views_name) t3.0 in
    let t1 = and_both (a.words == b.words) (a.slots == b.slots) t2.0 in
    λ i. record {
      words = eqb-true a.words b.words t1.0 i;
      slots = eqb-true a.slots b.slots t1.1 i;
      views_name = eqb-true a.views_name b.views_name t2.1 i;
      atom = eqb-true a.atom b.atom t3.1 i;
      block = eqb-true a.block b.block t4.1 i;
      offset = eqb-true a.offset b.offset t5.1 i;
      slot_names = lists_are a.slot_names b.slot_names t6.1 i;
    }

table_is : (a : TableId) → is_same_table a a ≡ true
table_is a =
    both_true (both_true (both_true (both_true (both_true (both_true (eq-eqb a.words a.words refl) (eq-eqb a.slots a.slots refl)) (eq-eqb a.views_name a.views_name refl))
    (eq-eqb a.atom a.atom refl)) (eq-eqb a.block a.block refl)) (eq-eqb a.offset a.offset refl)) (list_is a.slot_names)

decided_by : (a b : TableId) (same : Bool) → is_same_table a b ≡ same → ((is_same_table a b ≡ true) × (a ≡ b)) ⊎ ((is_same_table a b ≡ false) × (a ≢ b))
decided_by a b true is = inl (is, tables_are a b is)
decided_by a b false is = inr (is, λ e. absurd (cc (sym (subst (λ (one : TableId). is_same_table a one ≡ true) e (table_is a)) ∙ is)))

-- two tables are the same, or not
decided : (a b : TableId) → ((is_same_table a b ≡ true) × (a ≡ b)) ⊎ ((is_same_table a b ≡ false) × (a ≢ b))
decided a b = decided_by a b (is_same_table a b) refl

-- ---- two seats

-- they are where they were before, or have changed places
abbrev Arranged : MailboxSeat → MailboxSeat → MailboxSeat → MailboxSeat → Type 0
Arranged one other one' other' =
    (one' ≡ cond (is_same_table one.table_id other.table_id) one other) × (other' ≡ cond (is_same_table one.table_id other.table_id) other one)

stand : (one other one' other' : MailboxSeat) → Arranged one other one' other'
    → ((one.table_id ≡ other.table_id) × (one' ≡ one) × (other' ≡ other)) ⊎ ((one.table_id ≢ other.table_id) × (one' ≡ other) × (other' ≡ one))
stand one other one' other' is =
    ⊎_elim (λ t. inl (t.1, is.0 ∙ ap (λ (same : Bool). cond same one other) t.0, is.1 ∙ ap (λ (same : Bool). cond same other one) t.0))
    (λ t. inr (t.1, is.0 ∙ ap (λ (same : Bool). cond same one other) t.0, is.1 ∙ ap (λ (same : Bool). cond same other one) t.0))
    (decided one.table_id other.table_id)

-- the first is of the second one's table then
pub acting_at : (table : TableId) (one other one' other' : MailboxSeat) → Arranged one other one' other' → one.me.1 ≡ [] → other.table_id ≡ table → other.me.1 ≡ []
    → (one'.table_id ≡ table) × (one'.me.1 ≡ [])
acting_at table one other one' other' is mine at theirs =
    ⊎_elim (λ t. (ap (λ (seat : MailboxSeat). seat.table_id) t.1 ∙ t.0 ∙ at, ap (λ (seat : MailboxSeat). seat.me.1) t.1 ∙ mine))
    (λ t. (ap (λ (seat : MailboxSeat). seat.table_id) t.1 ∙ at, ap (λ (seat : MailboxSeat). seat.me.1) t.1 ∙ theirs)) (stand one other one' other' is)

pub may_act : (number : ℕ) (one other one' other' : MailboxSeat) → Arranged one other one' other' → MayReachBy number (one, other) → MayReachInto number one'.me.0
may_act number one other one' other' is may =
    ⊎_elim (λ t. subst (λ (seat : MailboxSeat). MayReachInto number seat.me.0) (sym t.1) (may.0 t.0))
    (λ t. subst (λ (seat : MailboxSeat). MayReachInto number seat.me.0) (sym t.1) (may.1 t.0)) (stand one other one' other' is)

-- a seat is of the same table when it has put something on its mailbox
kept_table : (number : ℕ) (recorder : Option OwnedRecorder) (before after : MailboxSeat) (result : Result (Option OwnedRecorder) (Option OwnedRecorder))
    → Replaces number recorder before result after → after.table_id ≡ before.table_id
kept_table number recorder before after (Ok found) is = is.0
kept_table number recorder before after (Err back) is = is.1

-- whichever of the two it is has put something on its mailbox
pub replaced_by : (number : ℕ) (recorder : Option OwnedRecorder) (one other one' other' after one'' other'' : MailboxSeat)
    (result : Result (Option OwnedRecorder) (Option OwnedRecorder)) → Arranged one other one' other' → Replaces number recorder one' result after
    → Arranged after other' one'' other'' → ReplacesBy number recorder (one, other) result (one'', other'')
replaced_by number recorder one other one' other' after one'' other'' result before is behind =
    let table = kept_table number recorder one' after result is in
    let of : MailboxSeat → TableId = λ seat. seat.table_id in
    ⊎_elim
    (λ t. ⊎_elim
    (λ u. (
      (λ _. (subst (λ (x : MailboxSeat × MailboxSeat). Replaces number recorder x.0 result x.1) (λ i. (t.1 i, sym u.1 i)) is, u.2 ∙ t.2)),
      λ no. absurd (no t.0),
    ))
    (λ u. absurd (u.0 (table ∙ ap of t.1 ∙ t.0 ∙ sym (ap of t.2)))) (stand after other' one'' other'' behind))
    (λ t. ⊎_elim
    (λ u. absurd (t.0 (sym (ap of t.2) ∙ sym u.0 ∙ table ∙ ap of t.1)))
    (λ u. (
      (λ yes. absurd (t.0 yes)),
      λ _. (subst (λ (x : MailboxSeat × MailboxSeat). Replaces number recorder x.0 result x.1) (λ i. (t.1 i, sym u.2 i)) is, u.1 ∙ t.2),
    )) (stand after other' one'' other'' behind))
    (stand one other one' other' before)

-- ---- a recorder is passed

-- a number that the mailbox has is that at which its keeper has laid a recorder
pub laid_at : (other number : ℕ) (view : View) (recorder : OwnedRecorder) → HasLaid number recorder view → view.1 ≡ true → FitsNumber other view → other ≡ number
laid_at other number view recorder laid keeper fits =
    subst (λ (x : ℕ × SeatState). FitsState other view.1 x.0 x.1) (λ i. (laid.0 i, laid.1 i)) fits keeper

-- a seat that has nothing there is the same if it does not lay it
still : (number : ℕ) (recorder back : Option OwnedRecorder) (before after : MailboxSeat) → before.me.0.3 ≡ Nothing → Replaces number recorder before (Err back) after → after ≡ before
still number recorder back before after nothing is = same_seat after before is.1 is.2 (is.3 ∙ missed_same before.me nothing)

-- if neither of two seats has laid it, it comes back
pub refused : (number : ℕ) (recorder back : Option OwnedRecorder) (k0 s0 k1 s1 : MailboxSeat) → k0.me.0.3 ≡ Nothing → ReplacesBy number recorder (k0, s0) (Err back) (k1, s1)
    → (back ≡ recorder) × (k1 ≡ k0)
refused number recorder back k0 s0 k1 s1 nothing is =
    ⊎_elim (λ t. let it = (is.0 t.1).0 in (it.0, still number recorder back k0 k1 nothing it)) (λ t. let it = is.1 t.1 in (it.0.0, it.1)) (decided k0.table_id s0.table_id)

missed_by : (number : ℕ) (back : Option OwnedRecorder) (k0 k2 : MailboxSeat) (state : SeatState) → k0.me.0.3 ≡ state → k0.me.0.1 ≡ true → MayTake k0.me.0.2 k0.me.0.3 → FitsNumber number k0.me.0
    → Replaces number None k0 (Err back) k2 → KeeperTakes k0 None k2
missed_by number back k0 k2 Nothing has keeper may fits is = (still number None back k0 k2 has is, λ at recorder laid. absurd (cc (sym has ∙ laid.1)))
missed_by number back k0 k2 Reaches has keeper may fits is = absurd (subst (λ (state : SeatState). MayTake k0.me.0.2 state) has may)
missed_by number back k0 k2 (Met recorder) has keeper may fits is = absurd (subst (λ (state : SeatState). MayTake k0.me.0.2 state) has may)
missed_by number back k0 k2 (Laid recorder) has keeper may fits is =
    let one = laid_at number k0.me.0.2 k0.me.0 recorder (refl, has) keeper fits in
    let other = laid_at is.4.0 k0.me.0.2 k0.me.0 recorder (refl, has) keeper is.4.2 in
    absurd (is.4.1 (other ∙ sym one))

-- a keeper does not miss what it has found, unless it had nothing there itself
pub missed_keeper : (number : ℕ) (back : Option OwnedRecorder) (k0 k1 k2 : MailboxSeat) → k0.me.0.1 ≡ true → MayTake k0.me.0.2 k0.me.0.3 → k1.table_id ≡ k0.table_id → k1.id ≡ k0.id
    → k1.me ≡ k0.me → FitsNumber number k0.me.0 → Replaces number None k1 (Err back) k2 → KeeperTakes k0 None k2
missed_keeper number back k0 k1 k2 keeper may table id me fits is =
    let one : k1 ≡ k0 = same_seat k1 k0 table id me in
    let it : Replaces number None k0 (Err back) k2 = subst (λ (seat : MailboxSeat). Replaces number None seat (Err back) k2) one is in
    missed_by number back k0 k2 k0.me.0.3 refl keeper may fits it

-- a seat has laid a recorder
abbrev pub HasPut : ℕ → OwnedRecorder → MailboxSeat → MailboxSeat → Type 0
HasPut number recorder before after =
    (after.table_id ≡ before.table_id) × (after.me ≡ ((before.me.0.0, before.me.0.1, number + 2, Laid recorder), []))

-- the one of two seats that is of the recorder's mailbox has laid it there
abbrev pub IsLaid : ℕ → OwnedRecorder → MailboxSeat → MailboxSeat → MailboxSeat → MailboxSeat → Type 0
IsLaid number recorder k0 s0 k1 s1 =
    ((k0.table_id ≡ s0.table_id) × HasPut number recorder k0 k1 × (s1 ≡ s0)) ⊎ ((k0.table_id ≢ s0.table_id) × HasPut number recorder s0 s1 × (k1 ≡ k0))

pub laid : (number : ℕ) (recorder : OwnedRecorder) (k0 s0 k1 s1 : MailboxSeat) (result : Result (Option OwnedRecorder) (Option OwnedRecorder)) → result ≡ Ok None
    → ReplacesBy number (Some recorder) (k0, s0) result (k1, s1) → IsLaid number recorder k0 s0 k1 s1
laid number recorder k0 s0 k1 s1 result ok by =
    let is = subst (λ (one : Result (Option OwnedRecorder) (Option OwnedRecorder)). ReplacesBy number (Some recorder) (k0, s0) one (k1, s1)) ok by in
    ⊎_elim (λ t. let it = is.0 t.1 in inl (t.1, (it.0.0, it.0.1), it.1)) (λ t. let it = is.1 t.1 in inr (t.1, (it.0.0, it.0.1), it.1)) (decided k0.table_id s0.table_id)

-- the keeper's seat is one still
abbrev Keeps : TableId → Opener → MailboxSeat → Type 0
Keeps table opener seat = (seat.table_id ≡ table) × (seat.me.1 ≡ []) × (seat.me.0.0 ≡ opener) × (seat.me.0.1 ≡ true)

abbrev of_seat : MailboxSeat → TableId
of_seat seat = seat.table_id

pub keeps_1 : (to : TableId) (key : Opener) (number : ℕ) (recorder : OwnedRecorder) (k0 s0 k1 s1 : MailboxSeat) → IsKeeper to key k0 → IsLaid number recorder k0 s0 k1 s1
    → Keeps to key k1
keeps_1 to key number recorder k0 s0 k1 s1 is (inl own) =
    let me = own.1.1 in (
      own.1.0 ∙ is.0,
      ap (λ (x : Me (Option OwnedRecorder) View). x.1) me,
      ap (λ (x : Me (Option OwnedRecorder) View). x.0.0) me ∙ is.2,
      ap (λ (x : Me (Option OwnedRecorder) View). x.0.1) me ∙ is.3,
    )
keeps_1 to key number recorder k0 s0 k1 s1 is (inr other) =
    subst (Keeps to key) (sym other.2) (is.0, is.1, is.2, is.3)

pub may_take_1 : (to : TableId) (key : Opener) (number : ℕ) (recorder : OwnedRecorder) (k0 s0 k1 s1 : MailboxSeat) → IsKeeper to key k0 → number % 4 ≡ 0
    → number < 1152921504606846976 → IsLaid number recorder k0 s0 k1 s1 → MayTake k1.me.0.2 k1.me.0.3
may_take_1 to key number recorder k0 s0 k1 s1 is four low (inl own) =
    subst (λ (x : Me (Option OwnedRecorder) View). MayTake x.0.2 x.0.3) (sym own.1.1) (omega (arith, four), omega (arith, low))
may_take_1 to key number recorder k0 s0 k1 s1 is four low (inr other) =
    subst (λ (state : SeatState). MayTake k1.me.0.2 state) (sym (ap (λ (seat : MailboxSeat). seat.me.0.3) other.2 ∙ is.4)) tt

-- and so may reach for what it finds
pub may_reach : (number : ℕ) (keeper : Bool) (at : ℕ) (state : SeatState) → MayTake at state → keeper ≡ true → FitsState number keeper at state → MayReachFrom number keeper at state
may_reach number keeper at Nothing may is fits = inr is
may_reach number keeper at Reaches may is fits = may
may_reach number keeper at (Laid recorder) may is fits = fits is
may_reach number keeper at (Met recorder) may is fits = may

-- if both are of one mailbox, the keeper takes what it has laid
met_own : (number : ℕ) (recorder : OwnedRecorder) (k0 k1 k2 : MailboxSeat) (met : Option OwnedRecorder) → HasPut number recorder k0 k1 → KeeperTakes k1 met k2 → met ≡ Some recorder
met_own number recorder k0 k1 k2 met put takes =
    takes.1 (number + 2) recorder (ap (λ (x : Me (Option OwnedRecorder) View). x.0.2) put.1, ap (λ (x : Me (Option OwnedRecorder) View). x.0.3) put.1)

-- what it knows then, if it has taken something
took : (k1 k2 : MailboxSeat) (met : Option OwnedRecorder) (found : OwnedRecorder) → met ≡ Some found → KeeperTakes k1 met k2
    → (number : ℕ) × (k2.table_id ≡ k1.table_id) × (k2.me ≡ ((k1.me.0.0, true, number + 2, Nothing), [])) × IsOfOpener k1.me.0.0 (Some found) × FitsNumber number k1.me.0
took k1 k2 met found is takes = (subst (λ (one : Option OwnedRecorder). KeeperTakes k1 one k2) is takes).0

-- the keeper's seat has nothing there, when it has taken what was there
pub keeper_2 : (to : TableId) (key : Opener) (number : ℕ) (recorder : OwnedRecorder) (k0 s0 k1 s1 k2 : MailboxSeat) (met : Option OwnedRecorder) → IsKeeper to key k0
    → IsLaid number recorder k0 s0 k1 s1 → KeeperTakes k1 met k2 → IsKeeper to key k2
keeper_2 to key number recorder k0 s0 k1 s1 k2 (Some found) is put takes =
    let kept = keeps_1 to key number recorder k0 s0 k1 s1 is put in
    let t = takes.0 in (
      t.1 ∙ kept.0,
      ap (λ (x : Me (Option OwnedRecorder) View). x.1) t.2,
      ap (λ (x : Me (Option OwnedRecorder) View). x.0.0) t.2 ∙ kept.2,
      ap (λ (x : Me (Option OwnedRecorder) View). x.0.1) t.2,
      ap (λ (x : Me (Option OwnedRecorder) View). x.0.3) t.2,
    )
keeper_2 to key number recorder k0 s0 k1 s1 k2 None is (inl own) takes = absurd (cc (met_own number recorder k0 k1 k2 None own.1 takes))
keeper_2 to key number recorder k0 s0 k1 s1 k2 None is (inr other) takes = subst (IsKeeper to key) (sym (takes.0 ∙ other.2)) is

pub seats_2 : (from to : TableId) (key : Opener) (number : ℕ) (recorder : OwnedRecorder) (k0 s0 k1 s1 k2 : MailboxSeat) (met : Option OwnedRecorder) → IsKeeper to key k0
    → s0.table_id ≡ from → s0.me.1 ≡ [] → IsLaid number recorder k0 s0 k1 s1 → KeeperTakes k1 met k2 → (k2.me.1 ≡ []) × (s1.table_id ≡ from) × (s1.me.1 ≡ [])
seats_2 from to key number recorder k0 s0 k1 s1 k2 met is at empty (inl own) takes =
    ((keeper_2 to key number recorder k0 s0 k1 s1 k2 met is (inl own) takes).1, ap of_seat own.2 ∙ at, ap (λ (seat : MailboxSeat). seat.me.1) own.2 ∙ empty)
seats_2 from to key number recorder k0 s0 k1 s1 k2 met is at empty (inr other) takes =
    ((keeper_2 to key number recorder k0 s0 k1 s1 k2 met is (inr other) takes).1, other.1.0 ∙ at, ap (λ (x : Me (Option OwnedRecorder) View). x.1) other.1.1)

-- if both are of one mailbox, it does not lie there any more
gone : (number : ℕ) (recorder : OwnedRecorder) (k0 k1 k2 : MailboxSeat) (met : Option OwnedRecorder) → k0.me.0.1 ≡ true → HasPut number recorder k0 k1 → KeeperTakes k1 met k2
    → FitsNumber (number + 2) k2.me.0 → ⊥
gone number recorder k0 k1 k2 met keeper put takes fits =
    let t = took k1 k2 met recorder (met_own number recorder k0 k1 k2 met put takes) takes in
    let at : t.0 ≡ number + 2 = laid_at t.0 (number + 2) k1.me.0 recorder
    (ap (λ (x : Me (Option OwnedRecorder) View). x.0.2) put.1, ap (λ (x : Me (Option OwnedRecorder) View). x.0.3) put.1)
    (ap (λ (x : Me (Option OwnedRecorder) View). x.0.1) put.1 ∙ keeper) t.4 in
    let late : t.0 + 2 ≤ number + 2 = subst (λ (x : Me (Option OwnedRecorder) View). FitsNumber (number + 2) x.0) t.2 fits in
    omega (arith, at, late)

-- the keeper's seat is not the one that took it back
pub same_3 : (to : TableId) (key : Opener) (number : ℕ) (recorder : OwnedRecorder) (k0 s0 k1 s1 k2 k3 s3 : MailboxSeat) (met : Option OwnedRecorder)
    (result : Result (Option OwnedRecorder) (Option OwnedRecorder)) → IsKeeper to key k0 → IsLaid number recorder k0 s0 k1 s1 → KeeperTakes k1 met k2
    → ReplacesBy (number + 2) None (k2, s1) result (k3, s3) → k3 ≡ k2
same_3 to key number recorder k0 s0 k1 s1 k2 k3 s3 met (Err back) is put takes by =
    (refused (number + 2) None back k2 s1 k3 s3 (keeper_2 to key number recorder k0 s0 k1 s1 k2 met is put takes).4 by).1
same_3 to key number recorder k0 s0 k1 s1 k2 k3 s3 met (Ok back) is (inl own) takes by =
    let kept = keeper_2 to key number recorder k0 s0 k1 s1 k2 met is (inl own) takes in
    absurd (gone number recorder k0 k1 k2 met is.3 own.1 takes (by.0 (kept.0 ∙ sym is.0 ∙ own.0 ∙ sym (ap of_seat own.2))).0.5)
same_3 to key number recorder k0 s0 k1 s1 k2 k3 s3 met (Ok back) is (inr other) takes by =
    let kept = keeper_2 to key number recorder k0 s0 k1 s1 k2 met is (inr other) takes in
    (by.1 (λ e. other.0 (is.0 ∙ sym kept.0 ∙ e ∙ other.1.0))).1

-- what has come is of the mailbox's opener
came : (to : TableId) (key : Opener) (number : ℕ) (recorder : OwnedRecorder) (k0 s0 k1 s1 k2 : MailboxSeat) (met : Option OwnedRecorder) → IsKeeper to key k0
    → IsLaid number recorder k0 s0 k1 s1 → KeeperTakes k1 met k2 → IsOfOpener key met
came to key number recorder k0 s0 k1 s1 k2 None is put takes = tt
came to key number recorder k0 s0 k1 s1 k2 (Some found) is put takes =
    subst (λ (one : Opener). IsOfOpener one (Some found)) (keeps_1 to key number recorder k0 s0 k1 s1 is put).2 takes.0.3

-- if nothing has come, the keeper's seat is the same
idle : (number : ℕ) (recorder : OwnedRecorder) (k0 s0 k1 s1 k2 : MailboxSeat) (met : Option OwnedRecorder) → IsLaid number recorder k0 s0 k1 s1 → KeeperTakes k1 met k2 → met ≡ None → k2 ≡ k0
idle number recorder k0 s0 k1 s1 k2 met (inl own) takes none = absurd (cc (sym none ∙ met_own number recorder k0 k1 k2 met own.1 takes))
idle number recorder k0 s0 k1 s1 k2 met (inr other) takes none = (subst (λ (one : Option OwnedRecorder). KeeperTakes k1 one k2) none takes).0 ∙ other.2

own_met : (from to : TableId) (key : Opener) (number : ℕ) (recorder : OwnedRecorder) (k0 s0 k1 s1 k2 : MailboxSeat) (met : Option OwnedRecorder) → IsKeeper to key k0
    → s0.table_id ≡ from → IsLaid number recorder k0 s0 k1 s1 → KeeperTakes k1 met k2 → from ≡ to → met ≡ Some recorder
own_met from to key number recorder k0 s0 k1 s1 k2 met is at (inl own) takes e = met_own number recorder k0 k1 k2 met own.1 takes
own_met from to key number recorder k0 s0 k1 s1 k2 met is at (inr other) takes e = absurd (other.0 (is.0 ∙ sym e ∙ sym at))

-- if it is back, it is the one that was laid there
pub passes_in_ok : (from to : TableId) (key : Opener) (number : ℕ) (recorder : OwnedRecorder) (k0 s0 k1 s1 k2 k3 s3 l0 : MailboxSeat) (met back : Option OwnedRecorder)
    (result : Result (Option OwnedRecorder) (Option OwnedRecorder)) → IsKeeper to key k0 → s0.table_id ≡ from → IsLaid number recorder k0 s0 k1 s1 → KeeperTakes k1 met k2
    → result ≡ Ok back → ReplacesBy (number + 2) None (k2, s1) result (k3, s3) → Passes from to key recorder (k0, l0) (Ok (met, back)) (k3, l0)
passes_in_ok from to key number recorder k0 s0 k1 s1 k2 k3 s3 l0 met back result is at (inl own) takes ok all =
    let by = subst (λ (one : Result (Option OwnedRecorder) (Option OwnedRecorder)). ReplacesBy (number + 2) None (k2, s1) one (k3, s3)) ok all in
    let kept = keeper_2 to key number recorder k0 s0 k1 s1 k2 met is (inl own) takes in
    absurd (gone number recorder k0 k1 k2 met is.3 own.1 takes (by.0 (kept.0 ∙ sym is.0 ∙ own.0 ∙ sym (ap of_seat own.2))).0.5)
passes_in_ok from to key number recorder k0 s0 k1 s1 k2 k3 s3 l0 met back result is at (inr other) takes ok all =
    let by = subst (λ (one : Result (Option OwnedRecorder) (Option OwnedRecorder)). ReplacesBy (number + 2) None (k2, s1) one (k3, s3)) ok all in
    let kept = keeper_2 to key number recorder k0 s0 k1 s1 k2 met is (inr other) takes in
    let theirs = by.1 (λ e. other.0 (is.0 ∙ sym kept.0 ∙ e ∙ other.1.0)) in
    let mine : back ≡ Some recorder = theirs.0.3 recorder
    (ap (λ (x : Me (Option OwnedRecorder) View). x.0.2) other.1.1, ap (λ (x : Me (Option OwnedRecorder) View). x.0.3) other.1.1) in (
      came to key number recorder k0 s0 k1 s1 k2 met is (inr other) takes,
      subst (λ (one : Option OwnedRecorder). MatchOption one (from ≢ to → HasMetRecorder from recorder l0) (λ it. (it ≡ recorder) × (l0 ≡ l0))) (sym mine) (refl, refl),
      λ none. theirs.1 ∙ idle number recorder k0 s0 k1 s1 k2 met (inr other) takes none,
      λ e. absurd (other.0 (is.0 ∙ sym e ∙ sym at)),
    )

-- if it is not, another has taken it
has_met : (from to : TableId) (key : Opener) (number : ℕ) (recorder : OwnedRecorder) (k0 s0 k1 s1 k2 k3 s3 : MailboxSeat) (met back : Option OwnedRecorder) → IsKeeper to key k0
    → s0.table_id ≡ from → IsLaid number recorder k0 s0 k1 s1 → KeeperTakes k1 met k2 → ReplacesBy (number + 2) None (k2, s1) (Err back) (k3, s3) → from ≢ to
    → HasMetRecorder from recorder s3
has_met from to key number recorder k0 s0 k1 s1 k2 k3 s3 met back is at (inl own) takes by apart = absurd (apart (sym at ∙ sym own.0 ∙ is.0))
has_met from to key number recorder k0 s0 k1 s1 k2 k3 s3 met back is at (inr other) takes by apart =
    let kept = keeper_2 to key number recorder k0 s0 k1 s1 k2 met is (inr other) takes in
    let theirs = (by.1 (λ e. other.0 (is.0 ∙ sym kept.0 ∙ e ∙ other.1.0))).0 in (
      theirs.1 ∙ other.1.0 ∙ at,
      ap (λ (x : Me (Option OwnedRecorder) View). x.0.3) theirs.3 ∙ ap (λ (x : Me (Option OwnedRecorder) View). missed_state x.0.3) other.1.1,
    )

pub passes_in_err : (from to : TableId) (key : Opener) (number : ℕ) (recorder : OwnedRecorder) (k0 s0 k1 s1 k2 k3 s3 l0 : MailboxSeat) (met back : Option OwnedRecorder)
    (result : Result (Option OwnedRecorder) (Option OwnedRecorder)) → IsKeeper to key k0 → s0.table_id ≡ from → IsLaid number recorder k0 s0 k1 s1 → KeeperTakes k1 met k2
    → result ≡ Err back → ReplacesBy (number + 2) None (k2, s1) result (k3, s3) → Passes from to key recorder (k0, l0) (Ok (met, None)) (k3, s3)
passes_in_err from to key number recorder k0 s0 k1 s1 k2 k3 s3 l0 met back result is at put takes err all =
    let by = subst (λ (one : Result (Option OwnedRecorder) (Option OwnedRecorder)). ReplacesBy (number + 2) None (k2, s1) one (k3, s3)) err all in (
      came to key number recorder k0 s0 k1 s1 k2 met is put takes,
      has_met from to key number recorder k0 s0 k1 s1 k2 k3 s3 met back is at put takes by,
      λ none. same_3 to key number recorder k0 s0 k1 s1 k2 k3 s3 met result is put takes all ∙ idle number recorder k0 s0 k1 s1 k2 met put takes none,
      λ e. (λ i. (own_met from to key number recorder k0 s0 k1 s1 k2 met is at put takes e i, None)),
    )

took_one : (number : ℕ) (found : Option OwnedRecorder) (k0 k2 : MailboxSeat) → k0.me.0.1 ≡ true → number % 4 ≡ 2 → Replaces number None k0 (Ok found) k2
    → MatchOption found (k2 ≡ k0)
    (λ one. (at : ℕ) × (k2.table_id ≡ k0.table_id) × (k2.me ≡ ((k0.me.0.0, true, at + 2, Nothing), [])) × IsOfOpener k0.me.0.0 (Some one) × FitsNumber at k0.me.0)
took_one number None k0 k2 keeper two it = absurd (omega (arith, two, it.4))
took_one number (Some one) k0 k2 keeper two it = (number, it.0, it.1 ∙ (λ i. ((k0.me.0.0, keeper i, number + 2, Nothing), [])), it.2, it.5)

-- the keeper has taken what was there
pub took_it : (number : ℕ) (found : Option OwnedRecorder) (k0 k1 k2 : MailboxSeat) → k0.me.0.1 ≡ true → number % 4 ≡ 2 → k1.table_id ≡ k0.table_id → k1.id ≡ k0.id → k1.me ≡ k0.me
    → FitsNumber number k0.me.0 → Replaces number None k1 (Ok found) k2 → KeeperTakes k0 found k2
took_it number found k0 k1 k2 keeper two table id me fits is =
    let it : Replaces number None k0 (Ok found) k2 = subst (λ (seat : MailboxSeat). Replaces number None seat (Ok found) k2) (same_seat k1 k0 table id me) is in
    (took_one number found k0 k2 keeper two it, λ at recorder laid. it.3 recorder (laid.0 ∙ sym (laid_at number at k0.me.0 recorder laid keeper fits), laid.1))

may_by : (to : TableId) (key : Opener) (number : ℕ) (recorder : OwnedRecorder) (k0 s0 k1 s1 k2 : MailboxSeat) → IsKeeper to key k0 → IsKeeper to key k2 → k2.table_id ≢ s1.table_id
    → IsLaid number recorder k0 s0 k1 s1 → MayReachInto (number + 2) s1.me.0
may_by to key number recorder k0 s0 k1 s1 k2 is kept apart (inl own) = absurd (apart (kept.0 ∙ sym is.0 ∙ own.0 ∙ sym (ap of_seat own.2)))
may_by to key number recorder k0 s0 k1 s1 k2 is kept apart (inr other) = subst (λ (me : Me (Option OwnedRecorder) View). MayReachInto (number + 2) me.0) (sym other.1.1) refl

-- the one of two seats that has laid a recorder may take it back, or the keeper may
pub may_2 : (to : TableId) (key : Opener) (number : ℕ) (recorder : OwnedRecorder) (k0 s0 k1 s1 k2 : MailboxSeat) (met : Option OwnedRecorder) → IsKeeper to key k0
    → IsLaid number recorder k0 s0 k1 s1 → KeeperTakes k1 met k2 → MayReachBy (number + 2) (k2, s1)
may_2 to key number recorder k0 s0 k1 s1 k2 met is put takes =
    let kept = keeper_2 to key number recorder k0 s0 k1 s1 k2 met is put takes in (
      λ _. subst (λ (state : SeatState). MayReachFrom (number + 2) k2.me.0.1 k2.me.0.2 state) (sym kept.4) (inr kept.3),
      λ apart. may_by to key number recorder k0 s0 k1 s1 k2 is kept apart put,
    )
