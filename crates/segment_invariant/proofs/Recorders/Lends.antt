-- Units that are offered, lent, poured out of a purse or given back keep what holds: of actors only their shares become other ones, and what an opener offers.
use Rattle.segment_invariant.proofs.Prelude.Std.{Bool, true≢false, ◌≡◌, ◌≢◌, ℕ, suc, ◌+◌, ◌-◌, ◌≤◌, true, false, ◌||◌, fold, List, [], ◌∷◌, ◌++◌, map, length, set, inl, inr, refl, sym, ap, ◌∙◌, subst, subst₂, sum_by, arith, length-set, some, some-injective, get_elem?, if◌then◌else◌, IsPermutation, flat_map, Contains, All, IsPermutation-refl, sum_by-cons, at_set, set_else, set_here, sum_beside, below_length}
use Rattle.segment_invariant.proofs.Prelude.Machine.{Dimensions, Spent, SumLoaded, Actor, tally_sum, counted_of, summed_of, noted_of, taken_sum, units_of, taken_of, is_opener, made_of, offered_of, State, purse}
use Rattle.segment_invariant.proofs.Prelude.Invariant.{Anatomy, order_of, moving_at, is_living, summed_cost, RolesAreKept, StandsRight, Fits, Invariant, KeptOn}
use Rattle.segment_machine.specs.declared.actor.Role.{Role}
use Rattle.segment_machine.specs.Actor.{given_by}
use Rattle.segment_machine.specs.Seats.{offering, giver, getter, spent}
use Rattle.segment_invariant.specs.Keeps.{OffersKeep, LendsKeep, ReturnsKeep, PoursKeep}
use Rattle.list_lemmas.proofs.Maps.{each_of_two}
use Rattle.segment_invariant.proofs.Frames.Deeds.{Deeds, sums_of}
use Rattle.segment_invariant.proofs.Frames.GoesOn.{not_opener}
use Rattle.segment_invariant.proofs.Frames.Together.{LoadedBefore}
use Rattle.segment_invariant.proofs.Frames.Books.{GivenInOrder, books_of, books_by, kept_by}
use Rattle.segment_invariant.proofs.Frames.Roles.{same_living, Stood, AllStood, still_younger, still_apart, still_eldest, opens_first, still_heirs, fits_beside}
use Rattle.segment_invariant.proofs.Frames.Rises.{rises_itself}
use Rattle.segment_invariant.proofs.Frames.SumsRise.{sums_rest}
use Rattle.segment_invariant.proofs.Recorders.Shares.{OffersAnew, sharing, shared_fits}
use Rattle.segment_invariant.proofs.Frames.Standing.{grounds_itself, stands_on}

-- ---- actors with new shares

-- an actor became another in its share and its offer alone; only an opener offers
pub record Shares (a b : Actor) : Type 0 where
  pub same : b ≡ sharing a b.units.share b.role
  pub offers : OffersAnew a.role b.role
  pub spent : a.hand.place ≡ Spent → b.role ≡ a.role

pub record ShareAnew (old new : List Actor) : Type 0 where
  pub long : length new ≡ length old
  pub each : (k : ℕ) (b : Actor) → get_elem? new k ≡ some b → (a : Actor) × (get_elem? old k ≡ some a) × Shares a b

offers_itself : (role : Role) → OffersAnew role role
offers_itself role = record { opener = refl; made = refl; outstanding = refl; recorder = λ is. refl }

pub shares_itself : (a : Actor) → Shares a a
shares_itself a = record { same = refl; offers = offers_itself a.role; spent = λ is. refl }

-- the first, and those after it
module _ (a b : Actor) (old new : List Actor) (anew : ShareAnew (a ∷ old) (b ∷ new)) where
  first_shares : Shares a b
  first_shares =
      let (x, is, shares) = anew.each 0 b refl in
      subst (λ (x : Actor). Shares x b) (sym (some-injective a x is)) shares

  behind_share : ShareAnew old new
  behind_share = let long = anew.long in record { long = omega (arith, long); each = λ k c at. anew.each (suc k) c at }

-- what does not go by shares and offers is the same of all
module _ {M : Type 0} (total : List Actor → M)
    (step : (a b : Actor) (xs ys : List Actor) → Shares a b → total ys ≡ total xs → total (b ∷ ys) ≡ total (a ∷ xs)) where
  shared_total : (old new : List Actor) → ShareAnew old new → total new ≡ total old
  shared_total [] [] anew = refl
  shared_total (a ∷ old) (b ∷ new) anew =
      step a b old new (first_shares a b old new anew) (shared_total old new (behind_share a b old new anew))
  shared_total [] (b ∷ new) anew = let long = anew.long in absurd (omega (arith, long))
  shared_total (a ∷ old) [] anew = let long = anew.long in absurd (omega (arith, long))

module _ (old new : List Actor) (anew : ShareAnew old new) where
  module _ {B : Type 0} (f : Actor → List B) (same : (a : Actor) (share : ℕ) (role : Role) → f (sharing a share role) ≡ f a) where
    shared_rows : flat_map f new ≡ flat_map f old
    shared_rows = shared_total (flat_map f) (λ a b xs ys is rest. (λ i. (ap f is.same ∙ same a b.units.share b.role) i ++ rest i)) old new anew

    shared_all : IsPermutation (flat_map f new) (flat_map f old)
    shared_all = subst (λ (list : List B). IsPermutation list (flat_map f old)) (sym shared_rows) (IsPermutation-refl (flat_map f old))

  shared_sum : (f : Actor → ℕ) → ((a : Actor) (share : ℕ) (role : Role) → OffersAnew a.role role → f (sharing a share role) ≡ f a) → sum_by f new ≡ sum_by f old
  shared_sum f same = shared_total (sum_by f)
      (λ a b xs ys is rest.
      let now = sum_by-cons f b ys in
      let was = sum_by-cons f a xs in
      let one = ap f is.same ∙ same a b.units.share b.role is.offers in
      omega (arith, now, was, one, rest))
      old new anew

  shared_column : {B : Type 0} (f : Actor → B) → ((a : Actor) (share : ℕ) (role : Role) → f (sharing a share role) ≡ f a) → map f new ≡ map f old
  shared_column f same = shared_total (map f) (λ a b xs ys is rest. (λ i. (ap f is.same ∙ same a b.units.share b.role) i ∷ rest i)) old new anew

  shared_deeds : sum_by units_of new ≡ sum_by units_of old → Deeds old new
  shared_deeds units = record {
    counted = shared_all counted_of (λ a s o. refl);
    summed = λ name. ap (λ entries. tally_sum entries name) (shared_rows summed_of (λ a s o. refl));
    noted = shared_all noted_of (λ a s o. refl);
    claimed = shared_all (λ (a : Actor). a.done.claimed) (λ a s o. refl);
    published = shared_all (λ (a : Actor). a.done.published) (λ a s o. refl);
    names = shared_all (λ (a : Actor). a.answers.names) (λ a s o. refl);
    owed = shared_all (λ (a : Actor). a.answers.owed) (λ a s o. refl);
    given = λ k. shared_all (λ (a : Actor). given_by k a.done.given) (λ a s o. refl);
    taken = shared_all taken_of (λ a s o. refl);
    taken_sums = λ name. ap (λ taken. taken_sum taken name) (shared_rows taken_of (λ a s o. refl));
    moving = λ name key. shared_sum (λ a. moving_at a name key a.hand.place) (λ a s o anew. refl);
    costs = λ name. shared_sum (summed_cost name) (λ a s o anew. refl);
    units = units;
    spoiled = ap (fold ◌||◌ false) (shared_column (λ (a : Actor). a.done.spoiled) (λ a s o. refl));
    filled = ap (fold ◌||◌ false) (shared_column (λ (a : Actor). a.done.filled) (λ a s o. refl));
    noticed = ap (fold ◌||◌ false) (shared_column (λ (a : Actor). a.seen.corrupt) (λ a s o. refl));
  }

-- ---- the state with them

module _ (shape : Dimensions) (opened : Anatomy) (old : State) (kept : Invariant shape opened old) (new : List Actor) (anew : ShareAnew old.actors new)
    (share : ℕ) (role : Role) (first : get_elem? new 0 ≡ some (sharing kept.roles.opener share role)) (offering : OffersAnew kept.roles.opener.role role) (enough : offered_of role ≤ share)
    (units : sum_by units_of new ≡ sum_by units_of old.actors) where
  abbrev opener : Actor
  opener = kept.roles.opener

  abbrev later : Actor
  later = sharing opener share role

  deeds : Deeds old.actors new
  deeds = shared_deeds old.actors new anew units

  -- what holds of each that it was holds of each that it is now
  each_shared : (holds : ℕ → Actor → Type 0)
      → ((k : ℕ) (a : Actor) (share : ℕ) (role : Role) → get_elem? old.actors k ≡ some a → OffersAnew a.role role
      → (a.hand.place ≡ Spent → role ≡ a.role) → holds k (sharing a share role))
      → (k : ℕ) (b : Actor) → get_elem? new k ≡ some b → holds k b
  each_shared holds was k b at =
      let (a, there, shares) = anew.each k b at in
      subst (holds k) (sym shares.same) (was k a b.units.share b.role there shares.offers shares.spent)

  stood : AllStood old.actors new
  stood = each_shared (λ k c. is_living c ≡ true → Stood old.actors k c)
      (λ k a s o at offers spent lives. record {
        was = a;
        at = at;
        lives = sym (same_living a o a.role offers.opener) ∙ lives;
        made = sym offers.made;
        outstanding = sym offers.outstanding;
        inherited = refl;
      })

  roles : RolesAreKept new
  roles = record {
    opener = later;
    stands = first;
    opens = offering.opener ∙ kept.roles.opens;
    idle = kept.roles.idle;
    rests = kept.roles.rests;
    only = each_shared (λ k c. k ≢ 0 → (is_opener c.role ≡ false) × (c.entries.first ≡ []) × (c.entries.first_noted ≡ []) × (c.deltas.first_taken ≡ []) × (offered_of c.role ≡ 0))
        (λ k a s o at offers spent away.
        let was = kept.roles.only k a at away in
        (offers.opener ∙ was.0, was.1, was.2, was.3, offers.recorder was.0 ∙ was.4));
    offers = enough;
    living = shared_sum old.actors new anew (λ c. if is_living c then 1 else 0) (λ a s o anew. ap (λ (lives : Bool). if lives then 1 else 0) (same_living a o a.role anew.opener)) ∙ (kept.roles.living ∙ sym offering.outstanding);
    few = (let few = kept.roles.few in let same = offering.outstanding in omega (arith, few, same));
    younger = still_younger old.actors new kept.roles stood (made_of later.role) (let same = offering.made in omega (arith, same));
    apart = still_apart old.actors new kept.roles stood;
    eldest = still_eldest old.actors new kept.roles stood;
    heirs = still_heirs old.actors new kept.roles stood later refl offering.made;
  }

  standing : (k : ℕ) (c : Actor) → get_elem? new k ≡ some c → StandsRight shape kept.anatomy k c c.hand.place
  standing = each_shared (λ k c. StandsRight shape kept.anatomy k c c.hand.place)
      (λ k a s o at offers spent. stands_on shape kept.anatomy kept.anatomy k a (sharing a s o) (grounds_itself kept.anatomy k)
      (record {
        saw = (refl, refl, refl, refl, refl);
        late = (refl, refl);
        names = λ known has. has;
        words = λ s has. has;
        seen = λ at word has. has;
        chain = λ at has. has;
        own = λ block has. (block, has, refl, refl);
        spent = λ is. ap (λ (c : Actor). sharing c s o) is ∙ ap (sharing (purse 0) s) (spent (ap (λ (c : Actor). c.hand.place) is) ∙ ap (λ (c : Actor). c.role) is);
      })
      a.hand.place (kept.standing k a at))

  each : (k : ℕ) (c : Actor) → get_elem? new k ≡ some c → c.hand.place ≢ Spent → Fits shape kept.anatomy old.cursors new later k c
  each = each_shared (λ k c. c.hand.place ≢ Spent → Fits shape kept.anatomy old.cursors new later k c)
      (λ k a s o at offers spent live. shared_fits shape kept.anatomy old.cursors new later k a s o offers
      (fits_beside shape kept.anatomy old.cursors old.actors new opener later k a kept.roles.stands first offering.made (refl, refl) (sums_of old.actors new deeds) stood
      (kept.each k a at live)))

  loaded : LoadedBefore old.actors new
  loaded at sum = each_shared (λ k c. c.hand.place ≡ SumLoaded at sum → (j : ℕ) × (d : Actor) × (get_elem? old.actors j ≡ some d) × (d.hand.place ≡ SumLoaded at sum))
      (λ k a s o there offers spent stands. (k, a, there, stands))

  pub shared_kept : KeptOn shape opened kept (record old { actors = new })
  unfolding roles
  shared_kept = kept_by shape opened kept.anatomy old.words old.cursors new
      (books_by shape opened kept.anatomy old.words old.cursors old.actors new deeds loaded (books_of shape opened old kept))
      roles kept.first_noted
      (each_shared (λ k c. is_opener c.role ≡ false → GivenInOrder (order_of kept.anatomy) c.done.given) (λ k a s o at offers spent records. kept.cursors.ordered k a at (sym offers.opener ∙ records)))
      (each_shared (λ k c. All (λ g. Contains (order_of kept.anatomy) g.reference) c.done.given) (λ k a s o at offers spent. kept.cursors.given k a at))
      standing each kept (rises_itself kept.anatomy)
      (sums_rest shape old.words kept.anatomy kept.shown old.actors new (sums_of old.actors new deeds).costs)

-- ---- units go from one to the other

module _ (shape : Dimensions) (opened : Anatomy) (old : State) (kept : Invariant shape opened old) (other : ℕ) (b : Actor) (apart : 0 ≢ other)
    (there : get_elem? old.actors other ≡ some b) (records : is_opener b.role ≡ false) (live : b.hand.place ≢ Spent) (mine theirs : ℕ)
    (enough : offered_of kept.roles.opener.role ≤ mine) (units : mine + theirs ≡ kept.roles.opener.units.share + b.units.share) where
  abbrev lender : Actor
  lender = sharing kept.roles.opener mine kept.roles.opener.role

  abbrev borrower : Actor
  borrower = sharing b theirs b.role

  abbrev lent : List Actor
  lent = set (set old.actors 0 lender) other borrower

  -- the one opener and a recorder that lives have other shares, and all together have as many units as before
  pub moved_kept : KeptOn shape opened kept (record old { actors = lent })
  moved_kept =
      let opener : Actor = kept.roles.opener in
      let behind = set_else old.actors 0 other lender (λ e. apart (sym e)) ∙ there in
      let now = sum_beside units_of (set old.actors 0 lender) other b borrower behind in
      let before = sum_beside units_of old.actors 0 opener lender kept.roles.stands in
      shared_kept shape opened old kept lent
      (record {
        long = length-set (set old.actors 0 lender) other borrower ∙ length-set old.actors 0 lender;
        each = each_of_two (λ k c. (a : Actor) × (get_elem? old.actors k ≡ some a) × Shares a c) old.actors 0 other lender borrower
            (opener, kept.roles.stands, record { same = refl; offers = offers_itself opener.role; spent = λ is. absurd (cc (sym kept.roles.idle ∙ is)) })
            (b, there, record { same = refl; offers = offers_itself b.role; spent = λ is. absurd (live is) })
            (λ k c past front at. (c, at, shares_itself c));
      })
      mine opener.role
      (set_else (set old.actors 0 lender) other 0 borrower apart ∙ set_here old.actors 0 lender (below_length old.actors 0 opener kept.roles.stands))
      (offers_itself opener.role) enough (omega (arith, now, before, units))

-- the one that opens is the first
module _ (shape : Dimensions) (opened : Anatomy) (old : State) (kept : Invariant shape opened old) (id other : ℕ) (a : Actor) (stands : get_elem? old.actors id ≡ some a)
    (opens : is_opener a.role ≡ true) (x : Actor → Actor) (y : Actor) where
  first_kept : (((id ≡ 0) × (kept.roles.opener ≡ a)) → KeptOn shape opened kept (record old { actors = set (set old.actors 0 (x kept.roles.opener)) other y }))
      → KeptOn shape opened kept (record old { actors = set (set old.actors id (x a)) other y })
  first_kept keeps =
      let opener = opens_first old.actors kept.roles id a stands opens in
      subst₂ (λ (k : ℕ) (c : Actor). KeptOn shape opened kept (record old { actors = set (set old.actors k (x c)) other y })) (sym opener.0) opener.1 (keeps opener)

pub lends_keep : LendsKeep
lends_keep shape opened old new id other units kept (a, b, apart, stands, there, (opens, records, live, enough), is) =
    subst (KeptOn shape opened kept) (sym is)
    (first_kept shape opened old kept id other a stands opens (λ c. giver c units) (getter b units)
    (λ opener.
    let share = ap (λ (c : Actor). c.units.share) opener.1 in
    let offered = ap (λ (c : Actor). offered_of c.role) opener.1 in
    moved_kept shape opened old kept other b (λ e. apart (opener.0 ∙ e)) there records live (kept.roles.opener.units.share - units) (b.units.share + units)
    (omega (arith, enough, share, offered)) (omega (arith, enough, share, offered))))

pub returns_keep : ReturnsKeep
returns_keep shape opened old new id other units kept (a, b, apart, stands, there, (opens, records, live, enough), is) =
    subst (KeptOn shape opened kept) (sym is)
    (first_kept shape opened old kept id other a stands opens (λ c. getter c units) (giver b units)
    (λ opener.
    let offers = kept.roles.offers in
    moved_kept shape opened old kept other b (λ e. apart (opener.0 ∙ e)) there records live (kept.roles.opener.units.share + units) (b.units.share - units)
    (omega (arith, offers)) (omega (arith, enough))))

-- ---- a purse is poured out

-- what was a purse has no units then
emptied : (units : ℕ) → Shares (purse units) spent
emptied units = record { same = refl; offers = offers_itself spent.role; spent = λ is. refl }

module _ (shape : Dimensions) (opened : Anatomy) (old : State) (kept : Invariant shape opened old) (id other : ℕ) (b c : Actor) (apart : id ≢ other)
    (stands : get_elem? old.actors id ≡ some b) (there : get_elem? old.actors other ≡ some c) (records : is_opener b.role ≡ false)
    (carries : c ≡ purse c.units.share) where
  abbrev richer : Actor
  richer = getter b c.units.share

  abbrev poured : List Actor
  poured = set (set old.actors id richer) other spent

  not_first : id ≢ 0
  not_first = not_opener shape opened old kept id b stands records

  nor_other : other ≢ 0
  nor_other = not_opener shape opened old kept other c there (ap (λ (a : Actor). is_opener a.role) carries)

  pub pour_kept : KeptOn shape opened kept (record old { actors = poured })
  pour_kept =
      let opener : Actor = kept.roles.opener in
      let now = sum_beside units_of (set old.actors id richer) other c spent (set_else old.actors id other richer (λ e. apart (sym e)) ∙ there) in
      let before = sum_beside units_of old.actors id b richer stands in
      let carried = ap units_of carries in
      shared_kept shape opened old kept poured
      (record {
        long = length-set (set old.actors id richer) other spent ∙ length-set old.actors id richer;
        each = each_of_two (λ k x. (a : Actor) × (get_elem? old.actors k ≡ some a) × Shares a x) old.actors id other richer spent
            (b, stands, record { same = refl; offers = offers_itself b.role; spent = λ is. refl })
            (c, there, subst (λ (a : Actor). Shares a spent) (sym carries) (emptied c.units.share))
            (λ k x past front at. (x, at, shares_itself x));
      })
      opener.units.share opener.role
      (set_else (set old.actors id richer) other 0 spent (λ e. nor_other (sym e)) ∙ (set_else old.actors id 0 richer (λ e. not_first (sym e)) ∙ kept.roles.stands))
      (offers_itself opener.role) kept.roles.offers (omega (arith, now, before, carried))

pub pours_keep : PoursKeep
pours_keep shape opened old new id other kept (b, c, apart, stands, there, (records, live, carries), is) =
    subst (KeptOn shape opened kept) (sym is) (pour_kept shape opened old kept id other b c apart stands there records carries)

-- ---- units are offered

pub offers_keep : OffersKeep
offers_keep shape opened old new id units kept (a, stands, (idle, opens, enough), is) =
    let opener : Actor = kept.roles.opener in
    let (front, same) = opens_first old.actors kept.roles id a stands opens in
    let later : Actor = offering opener units in
    let share = ap (λ (c : Actor). c.units.share) same in
    let all = sum_beside units_of old.actors 0 opener later kept.roles.stands in
    let anew : OffersAnew opener.role later.role =
    record { opener = sym kept.roles.opens; made = refl; outstanding = refl; recorder = λ records. absurd (true≢false (sym kept.roles.opens ∙ records)) } in
    subst (KeptOn shape opened kept) (sym is)
    (subst₂ (λ (k : ℕ) (c : Actor). KeptOn shape opened kept (record old { actors = set old.actors k (offering c units) })) (sym front) same
    (shared_kept shape opened old kept (set old.actors 0 later)
    (record {
      long = length-set old.actors 0 later;
      each = λ k c at. elim (at_set old.actors 0 k later c at) [
        | inl t ↦
            subst₂ (λ (k : ℕ) (c : Actor). (a : Actor) × (get_elem? old.actors k ≡ some a) × Shares a c) (sym t.0) t.1 (
              opener,
              kept.roles.stands,
              record {
                same = refl;
                offers = anew;
                spent = λ is. absurd (cc (sym kept.roles.idle ∙ is));
              },
            )
        | inr t ↦ (c, t.1, shares_itself c)
      ];
    })
    opener.units.share later.role (set_here old.actors 0 later (below_length old.actors 0 opener kept.roles.stands)) anew (omega (arith, enough, share)) (omega (arith, all))))
