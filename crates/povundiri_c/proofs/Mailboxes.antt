-- The steps in a mailbox keep its rule.
use Rattle.std.proofs.Common.{◌≡◌, ◌≢◌, inl, inr, ◌<◌, ◌+◌, ◌%◌, ◌==◌, ℕ, Bool, true, List, ◌∷◌, [], Option, Some, None, Ok, length, get_or, set, refl, sym, subst, ap, ◌∙◌, arith, ⊎_elim, length-set, get_or-set_same}
use mathlib.Core.Option.{some, none}
use mathlib.Core.Option as maybe
use lib.ListN.{get_elem?}
use prog.Atomic.{either}
use Rattle.std.proofs.Math.Option.{some-injective}
use Rattle.atomic_table.proofs.Lists.{at_set, at_snoc, exchanged, set_again, set_here}
use Rattle.atomic_table.specs.Table.{Me, Act, keeps, takes, gives, put_back, stepped, Valid, carried_after, Allows, Enters, rest}
use Rattle.live_segment.specs.declared.opener.Opener.{Opener}
use Rattle.owned_recorder.specs.declared.owned.OwnedRecorder.{OwnedRecorder}
use Rattle.povundiri_c.specs.declared.seat_state.SeatState.{SeatState}
use Rattle.povundiri_c.specs.declared.seat_state.SeatState.TheVariants.{Nothing, Reaches, Laid, Met}
use Rattle.povundiri_c.specs.Mailbox.{AreSo, FitsNumber, FitsState, HasLaid, HasReached, Home, IsInPlace, IsOfNote, IsOfOpener, IsPut, IsRight, IsSo, IsMailbox, MayReachInto, MayReachFrom, Replaces, MailboxSeat, View, missed, missed_state, noted, noted_of, stranger}

-- ---- what threads know

-- what a thread knows is still true when another has brought the number up
later : (number next : ℕ) (home home' : Home) (last last' id : ℕ) (keeper : Bool) (at : ℕ) (state : SeatState) → number < next → (number % 2 ≡ 1 → id ≡ last → ⊥)
    → (keeper ≡ true → number % 4 ≡ 2 → id ≡ last → ⊥) → IsSo number home last id keeper at state → IsSo next home' last' id keeper at state
later number next home home' last last' id keeper at Nothing up out alone is = omega (arith, up, is)
later number next home home' last last' id keeper at Reaches up out alone is = absurd (out is.1 is.2)
later number next home home' last last' id keeper at (Met recorder) up out alone is = omega (arith, up, is)
later number next home home' last last' id keeper at (Laid recorder) up out alone is = (
  omega (arith, up, is.0),
  is.1,
  λ e. absurd (omega (arith, up, is.0, e)),
  λ k. absurd (alone k (ap (λ n. n % 4) (is.3 k) ∙ is.1) (is.2 (is.3 k)).1),
)

-- what a seat knows is true, and it is of the opener, and the keeper's if it says so
abbrev IsSeat : Opener → ℕ → Home → ℕ → ℕ → ℕ → View → Type 0
IsSeat opener number home last kept_by id view = (view.0 ≡ opener) × (view.1 ≡ true → id ≡ kept_by) × IsSo number home last id view.1 view.2 view.3

-- a thread that makes a step knows what it made of the mailbox, and the others know what they knew
all_later : (opener : Opener) (number next : ℕ) (home home' : Home) (views : List View) (last last' kept_by id : ℕ) (mine : View) → number < next
    → ((other : ℕ) → other ≢ id → number % 2 ≡ 1 → other ≡ last → ⊥) → ((other : ℕ) → other ≢ id → other ≡ kept_by → number % 4 ≡ 2 → other ≡ last → ⊥)
    → IsSeat opener next home' last' kept_by id mine → ((j : ℕ) (view : View) → get_elem? views j ≡ some view → IsSeat opener number home last kept_by j view)
    → (j : ℕ) (view : View) → get_elem? (set views id mine) j ≡ some view → IsSeat opener next home' last' kept_by j view
all_later opener number next home home' views last last' kept_by id mine up out alone own are j view at =
    ⊎_elim
    (λ (t : (j ≡ id) × (mine ≡ view)). subst (λ (x : ℕ × View). IsSeat opener next home' last' kept_by x.0 x.1) (λ i. (sym t.0 i, t.1 i)) own)
    (λ (t : (j ≢ id) × (get_elem? views j ≡ some view)). let it = are j view t.1 in
    (it.0, it.1, later number next home home' last last' j view.1 view.2 view.3 up (out j t.0) (λ k. alone j t.0 (it.1 k)) it.2))
    (at_set views id j mine view at)

-- a thread knows what it put there
knows : (number last id : ℕ) (keeper : Bool) (opener : Opener) (kept_by : ℕ) (new : Option OwnedRecorder) → (keeper ≡ true → id ≡ kept_by) → id ≡ last → IsRight number new
    → IsSeat opener number (some (some new)) last kept_by id (noted number opener keeper new)
knows number last id keeper opener kept_by None mine is right = (refl, mine, omega arith)
knows number last id keeper opener kept_by (Some recorder) mine is right = (refl, mine, (omega arith, right, (λ _. (refl, is)), λ _. refl))

-- ---- steps

-- a mailbox is one after a step
made : (opener : Opener) (words : List ℕ) (homes : List (maybe.Option (Option OwnedRecorder))) (views : List View) (next : ℕ) (home : Home) → length words ≡ 1
    → length homes ≡ 1 → get_elem? homes 0 ≡ home → IsInPlace opener next home → AreSo opener next home views
    → IsMailbox opener record { words = set words 0 next; homes = homes; views = views }
made opener words homes views next home wide deep there place so =
    let one : get_or (set words 0 next) 0 0 ≡ next = get_or-set_same words 0 next 0 (omega (arith, wide)) in
    let both : IsInPlace opener (get_or (set words 0 next) 0 0) (get_elem? homes 0) × AreSo opener (get_or (set words 0 next) 0 0) (get_elem? homes 0) views =
    subst (λ (x : ℕ × Home). IsInPlace opener x.0 x.1 × AreSo opener x.0 x.1 views) (λ i. (sym one i, sym there i)) (place, so) in
    (length-set words 0 next ∙ wide, deep, both.0, both.1)

pub looks : (opener : Opener) (slots : ℕ) → Enters (IsMailbox opener) slots 0 (λ _ view. view ≡ stranger opener)
looks opener slots s g _ _ = (
  stranger opener,
  (
    g.0,
    g.1,
    g.2,
    (
      g.3.0,
      g.3.1,
      λ id view at. ⊎_elim (g.3.2 id view)
          (λ (e : stranger opener ≡ view). subst (λ (it : View). IsSeat opener (get_or s.words 0 0) (get_elem? s.homes 0) g.3.0 g.3.1 id it) e (refl, (λ k. absurd (cc k)), omega arith))
          (at_snoc s.views (stranger opener) view id at),
    ),
  ),
  refl,
)

-- a number at which a seat knows something fits that
fits : (number : ℕ) (home : Home) (last id : ℕ) (keeper : Bool) (at : ℕ) (state : SeatState) → IsSo number home last id keeper at state → FitsState number keeper at state
fits number home last id keeper at Nothing is = is
fits number home last id keeper at Reaches is = tt
fits number home last id keeper at (Laid recorder) is = is.3
fits number home last id keeper at (Met recorder) is = is

-- what lies there is what was laid there at the number, by the last that reached into the mailbox
lies : (number : ℕ) (home : Home) (last id : ℕ) (view : View) (recorder : OwnedRecorder) → IsSo number home last id view.1 view.2 view.3 → HasLaid number recorder view
    → (home ≡ some (some (Some recorder))) × (id ≡ last)
lies number home last id view recorder is laid =
    (subst (λ (x : ℕ × SeatState). IsSo number home last id view.1 x.0 x.1) (λ i. (laid.0 i, laid.1 i)) is).2 refl

-- a seat that looks is the same
pub sees : (opener : Opener) (slots id : ℕ) (me : Me (Option OwnedRecorder) View)
    → Allows (IsMailbox opener) slots id me 0 (λ n. n) (λ found after. (after ≡ me) × FitsNumber found me.0)
sees opener slots id me s g wide mine _ =
    let n = get_or s.words 0 0 in
    let own = g.3.2 id me.0 mine in (
      me.0,
      keeps,
      tt,
      made opener s.words s.homes (set s.views id me.0) n (get_elem? s.homes 0) g.0 g.1 refl g.2
          (g.3.0, g.3.1, λ j view at. g.3.2 j view (subst (λ (views : List View). get_elem? views j ≡ some view) (set_again s.views id me.0 mine) at)),
      (refl, fits n (get_elem? s.homes 0) g.3.0 id me.0.1 me.0.2 me.0.3 own.2),
    )

-- no other seat than one that may reach into the mailbox is the keeper's, and has laid what lies there
alone : (number last kept_by id : ℕ) (home : Home) (keeper : Bool) (at : ℕ) (state : SeatState) → (keeper ≡ true → id ≡ kept_by) → IsSo number home last id keeper at state
    → MayReachFrom number keeper at state → (other : ℕ) → other ≢ id → other ≡ kept_by → number % 4 ≡ 2 → other ≡ last → ⊥
alone number last kept_by id home keeper at Nothing mine is (inl vacant) other apart kept two reached = absurd (omega (arith, vacant, two))
alone number last kept_by id home keeper at Nothing mine is (inr keeps_it) other apart kept two reached = apart (kept ∙ sym (mine keeps_it))
alone number last kept_by id home keeper at Reaches mine is may other apart kept two reached = may
alone number last kept_by id home keeper at (Laid recorder) mine is may other apart kept two reached = apart (reached ∙ sym (is.2 may).1)
alone number last kept_by id home keeper at (Met recorder) mine is may other apart kept two reached = may

-- what a seat knows that has missed the number is true
missed_is : (n number : ℕ) (home : Home) (last id : ℕ) (keeper : Bool) (at : ℕ) (state : SeatState) → n ≢ number → MayReachFrom number keeper at state
    → IsSo n home last id keeper at state → IsSo n home last id keeper at (missed_state state)
missed_is n number home last id keeper at Nothing other may is = is
missed_is n number home last id keeper at Reaches other may is = is
missed_is n number home last id keeper at (Laid recorder) other may is = omega (arith, is.0, (λ (e : n ≡ at). other (e ∙ sym may)))
missed_is n number home last id keeper at (Met recorder) other may is = is

-- the same mailbox, if a seat knows something else
noticed : (opener : Opener) (s_words : List ℕ) (homes : List (maybe.Option (Option OwnedRecorder))) (views : List View) (id : ℕ) (mine : View) (last kept_by : ℕ)
    → IsSeat opener (get_or s_words 0 0) (get_elem? homes 0) last kept_by id mine
    → ((j : ℕ) (view : View) → get_elem? views j ≡ some view → IsSeat opener (get_or s_words 0 0) (get_elem? homes 0) last kept_by j view)
    → (j : ℕ) (view : View) → get_elem? (set views id mine) j ≡ some view → IsSeat opener (get_or s_words 0 0) (get_elem? homes 0) last kept_by j view
noticed opener s_words homes views id mine last kept_by own are j view at =
    ⊎_elim
    (λ (t : (j ≡ id) × (mine ≡ view)). subst (λ (x : ℕ × View). IsSeat opener (get_or s_words 0 0) (get_elem? homes 0) last kept_by x.0 x.1) (λ i. (sym t.0 i, t.1 i)) own)
    (λ (t : (j ≢ id) × (get_elem? views j ≡ some view)). are j view t.1)
    (at_set views id j mine view at)

pub reaches : (opener : Opener) (slots id number : ℕ) (me : Me (Option OwnedRecorder) View) → number % 2 ≡ 0 → me.1 ≡ [] → MayReachInto number me.0
    → Allows (IsMailbox opener) slots id me 0 (λ n. either (n == number) (number + 1) n) (HasReached number me)
reaches opener slots id number me even none_taken may s g wide mine _ =
    let n = get_or s.words 0 0 in
    let own = g.3.2 id me.0 mine in
    let last = g.3.0 in
    let kept_by = g.3.1 in
    let reached : View = (me.0.0, me.0.1, number + 1, Reaches) in
    let fit = fits n (get_elem? s.homes 0) last id me.0.1 me.0.2 me.0.3 own.2 in
    exchanged n number (number + 1)
    (λ next. (w : View) × (a : Act (Option OwnedRecorder)) × Valid s.homes me.1 a × IsMailbox opener (stepped s 0 next id me.1 w a) × HasReached number me n (w, carried_after me.1 a))
    (λ e. let t = g.2 (ap (λ k. k % 2) e ∙ even) in (
      reached,
      takes 0 t.0,
      t.1,
      made opener s.words (set s.homes 0 none) (set s.views id reached) (number + 1) (some none) g.0 (length-set s.homes 0 none ∙ g.1)
          (set_here s.homes 0 none (omega (arith, g.1))) (λ odd. absurd (omega (arith, even, odd))) (
            id,
            kept_by,
            all_later opener n (number + 1) (get_elem? s.homes 0) (some none) s.views last id kept_by id reached (omega (arith, e))
                (λ other apart odd _. omega (arith, even, e, odd))
                (alone n last kept_by id (get_elem? s.homes 0) me.0.1 me.0.2 me.0.3 own.1 own.2 (subst (λ (k : ℕ). MayReachInto k me.0) (sym e) may))
                (own.0, own.1, (refl, omega (arith, even), refl)) g.3.2,
          ),
      (
        fit,
        λ same. (
          t.0,
          refl,
          ap (λ (c : List (ℕ × Option OwnedRecorder)). (0, t.0) ∷ c) none_taken,
          subst (λ (one : Opener). IsOfOpener one t.0) (sym own.0) t.2,
          λ recorder laid. some-injective _ _ (some-injective _ _ (sym t.1 ∙ (lies n (get_elem? s.homes 0) last id me.0 recorder own.2 (laid.0 ∙ sym e, laid.1)).0)),
          subst (λ (k : ℕ). IsRight k t.0) e t.3,
        ),
        λ other. absurd (other e),
      ),
    ))
    (λ other. let after : View = (missed me).0 in (
      after,
      keeps,
      tt,
      made opener s.words s.homes (set s.views id after) n (get_elem? s.homes 0) g.0 g.1 refl g.2 (
        last,
        kept_by,
        noticed opener s.words s.homes s.views id after last kept_by
            (own.0, own.1, missed_is n number (get_elem? s.homes 0) last id me.0.1 me.0.2 me.0.3 other may own.2) g.3.2,
      ),
      (fit, (λ same. absurd (other same)), λ _. refl),
    ))

pub places : (opener : Opener) (slots id number : ℕ) (me : Me (Option OwnedRecorder) View) (new : Option OwnedRecorder) → number % 2 ≡ 0
    → me.0.2 ≡ number + 1 → me.0.3 ≡ Reaches → me.1 ≡ (0, new) ∷ [] → IsOfOpener opener new → IsRight (number + 2) new
    → Allows (IsMailbox opener) slots id me 0 (λ _. number + 2) (λ _. IsPut (number + 2) me)
places opener slots id number me new even at state one passed right s g wide mine _ =
    let own = g.3.2 id me.0 mine in
    let so : IsSo (get_or s.words 0 0) (get_elem? s.homes 0) g.3.0 id me.0.1 (number + 1) Reaches =
    subst (λ (x : ℕ × SeatState). IsSo (get_or s.words 0 0) (get_elem? s.homes 0) g.3.0 id me.0.1 x.0 x.1) (λ i. (at i, state i)) own.2 in
    let w : View = noted (number + 2) me.0.0 me.0.1 new in (
      w,
      gives,
      tt,
      subst (λ (c : List (ℕ × Option OwnedRecorder)). IsMailbox opener record { words = set s.words 0 (number + 2); homes = put_back s.homes c; views = set s.views id w }) (sym one)
          (made opener s.words (set s.homes 0 (some new)) (set s.views id w) (number + 2) (some (some new)) g.0 (length-set s.homes 0 (some new) ∙ g.1)
          (set_here s.homes 0 (some new) (omega (arith, g.1))) (λ _. (new, refl, passed, right)) (
            g.3.0,
            g.3.1,
            all_later opener (get_or s.words 0 0) (number + 2) (get_elem? s.homes 0) (some (some new)) s.views g.3.0 g.3.0 g.3.1 id w (omega (arith, so.0))
                (λ other apart _ is. apart (is ∙ sym so.2)) (λ other apart _ _ is. apart (is ∙ sym so.2))
                (subst (λ (one : Opener). IsSeat one (number + 2) (some (some new)) g.3.0 g.3.1 id w) own.0 (knows (number + 2) g.3.0 id me.0.1 me.0.0 g.3.1 new own.1 so.2 right)) g.3.2,
          )),
      (sym (ap (noted_of (number + 2) me.0) one), refl),
    )

-- ---- seats

-- if nothing was laid, a seat that has missed a number is the same
pub missed_same : (me : Me (Option OwnedRecorder) View) → me.0.3 ≡ Nothing → missed me ≡ me
missed_same me nothing = λ i. ((me.0.0, me.0.1, me.0.2, (ap missed_state nothing ∙ sym nothing) i), me.1)

-- a seat that differs in nothing is the same
pub same_seat : (one other : MailboxSeat) → one.table_id ≡ other.table_id → one.id ≡ other.id → one.me ≡ other.me → one ≡ other
same_seat one other table id me = λ i. record { marker = one.marker; table_id = table i; id = id i; me = me i }

-- what a seat has taken last
abbrev taken_last : List (ℕ × Option OwnedRecorder) → Option OwnedRecorder
taken_last [] = None
taken_last (one ∷ _) = one.1

-- what was put in its place at a number, and what was there, if the mailbox had that number
pub replaced : (number seen : ℕ) (recorder found : Option OwnedRecorder) (s0 s1 s2 s3 : MailboxSeat) → seen ≡ number → s1.table_id ≡ s0.table_id → HasReached number s0.me seen s1.me
    → s2.table_id ≡ s1.table_id → s1.me.1 ≡ (0, found) ∷ rest s1.me.1 → s2.me ≡ (s1.me.0, (0, recorder) ∷ rest s1.me.1) → s3.table_id ≡ s2.table_id → IsPut (number + 2) s2.me s3.me
    → Replaces number recorder s0 (Ok found) s3
replaced number seen recorder found s0 s1 s2 s3 e table1 reached table2 out back table3 put =
    let taken = reached.1 e in
    let same : taken.0 ≡ found = ap taken_last (sym taken.2 ∙ out) in (
      table3 ∙ table2 ∙ table1,
      (λ i. (put.0 i, put.1 i)) ∙ ap (λ (me : Me (Option OwnedRecorder) View). (noted_of (number + 2) me.0 me.1, rest me.1)) back
          ∙ (λ i. (noted (number + 2) (taken.1 i).0 (taken.1 i).1 recorder, rest (taken.2 i))),
      subst (IsOfOpener s0.me.0.0) same taken.3,
      subst (IsOfNote number s0.me.0) same taken.4,
      subst (IsRight number) same taken.5,
      subst (λ (n : ℕ). FitsNumber n s0.me.0) e reached.0,
    )
