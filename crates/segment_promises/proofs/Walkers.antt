-- An opener does nothing. So it may as well have walked along the whole list: the state in which it has is kept too.
use Rattle.segment_invariant.proofs.Prelude.Std.{true≢false, ◌≡◌, ◌≢◌, ℕ, true, false, ◌||◌, List, [], fold, set, inl, inr, refl, sym, ap, ◌∙◌, subst, arith, IsPermutation, if◌then◌else◌, flat_map, Contains, All, append-nil, All-weaker, Contains-append_left, IsPermutation-refl, some, get_elem?, at_set, set_here, rows, column, sum_same, below_length}
use Rattle.segment_invariant.proofs.Prelude.Machine.{Dimensions, IsPrefix, Actor, Spent, counted_of, summed_of, noted_of, units_of, taken_of, taken_sum, is_opener, made_of, offered_of, tally_sum, State}
use Rattle.segment_invariant.proofs.Prelude.Invariant.{Anatomy, order_of, moving_at, Sees, WasMet, is_living, summed_cost, RolesAreKept, StandsRight, FinalsAreExact, Fits, Invariant}
use Rattle.segment_machine.specs.Actor.{given_by}
use Rattle.segment_invariant.proofs.Frames.Books.{books_of, books_by, kept_by, GivenInOrder}
use Rattle.segment_invariant.proofs.Frames.Rises.{rises_itself}
use Rattle.segment_invariant.proofs.Frames.SumsRise.{sums_rest}
use Rattle.segment_invariant.proofs.Frames.Deeds.{Deeds, sums_of}
use Rattle.segment_invariant.proofs.Frames.Roles.{Stood, AllStood, opens_nothing, still_younger, still_apart, still_eldest, still_heirs, fits_beside}
use Rattle.segment_invariant.proofs.Frames.Standing.{met_more}
use Rattle.segment_invariant.proofs.Frames.Together.{loaded_set}

-- ---- an opener that has walked along the whole list

module _ (shape : Dimensions) (opened : Anatomy) (state : State) (kept : Invariant shape opened state) where
  abbrev pub opener : Actor
  opener = kept.roles.opener

  abbrev order : List ℕ
  order = order_of kept.anatomy

  abbrev pub walker : Actor
  walker = record opener { seen = record opener.seen { chain = order } }

  abbrev pub beside : List Actor
  beside = set state.actors 0 walker

  pub lives : opener.hand.place ≢ Spent
  lives is = cc (sym kept.roles.idle ∙ is)

  same_rows : {B : Type 0} (f : Actor → List B) → f walker ≡ f opener → IsPermutation (flat_map f beside) (flat_map f state.actors)
  same_rows f is =
      subst (λ list. IsPermutation list (flat_map f state.actors)) (sym (rows f state.actors 0 opener walker kept.roles.stands is))
      (IsPermutation-refl (flat_map f state.actors))

  deeds : Deeds state.actors beside
  deeds = record {
    counted = same_rows counted_of refl;
    summed = λ name. ap (λ entries. tally_sum entries name) (rows summed_of state.actors 0 opener walker kept.roles.stands refl);
    noted = same_rows noted_of refl;
    claimed = same_rows (λ (a : Actor). a.done.claimed) refl;
    published = same_rows (λ (a : Actor). a.done.published) refl;
    names = same_rows (λ (a : Actor). a.answers.names) refl;
    owed = same_rows (λ (a : Actor). a.answers.owed) refl;
    given = λ k. same_rows (λ (a : Actor). given_by k a.done.given) refl;
    taken = same_rows taken_of refl;
    taken_sums = λ name. ap (λ taken. taken_sum taken name) (rows taken_of state.actors 0 opener walker kept.roles.stands refl);
    moving = λ name key. sum_same (λ a. moving_at a name key a.hand.place) state.actors 0 opener walker kept.roles.stands refl;
    costs = λ name. sum_same (summed_cost name) state.actors 0 opener walker kept.roles.stands refl;
    units = sum_same units_of state.actors 0 opener walker kept.roles.stands refl;
    spoiled = ap (fold ◌||◌ false) (column (λ (a : Actor). a.done.spoiled) state.actors 0 opener walker kept.roles.stands refl);
    filled = ap (fold ◌||◌ false) (column (λ (a : Actor). a.done.filled) state.actors 0 opener walker kept.roles.stands refl);
    noticed = ap (fold ◌||◌ false) (column (λ (a : Actor). a.seen.corrupt) state.actors 0 opener walker kept.roles.stands refl);
  }

  -- it comes first, and the others stay where they were
  pub stands_first : get_elem? beside 0 ≡ some walker
  stands_first = set_here state.actors 0 walker (below_length state.actors 0 opener kept.roles.stands)

  -- what holds of the walker, and of all others, holds of each
  each_beside : (holds : ℕ → Actor → Type 0) → holds 0 walker → ((id : ℕ) (a : Actor) → id ≢ 0 → get_elem? state.actors id ≡ some a → holds id a)
      → (id : ℕ) (a : Actor) → get_elem? beside id ≡ some a → holds id a
  each_beside holds first others id a at = elim (at_set state.actors 0 id walker a at) [
    | inl t ↦ subst (λ (p : ℕ × Actor). holds p.0 p.1) (λ i. (sym t.0 i, t.1 i)) first
    | inr t ↦ others id a t.0 t.1
  ]

  stood : AllStood state.actors beside
  stood = each_beside (λ k c. is_living c ≡ true → Stood state.actors k c)
      (λ alive. absurd (opens_nothing walker kept.roles.opens alive))
      (λ k c away at alive. record { was = c; at = at; lives = alive; made = refl; outstanding = refl; inherited = refl })

  roles : RolesAreKept beside
  roles = record {
    opener = walker;
    stands = stands_first;
    opens = kept.roles.opens;
    idle = kept.roles.idle;
    rests = kept.roles.rests;
    only = each_beside (λ k c. k ≢ 0 → (is_opener c.role ≡ false) × (c.entries.first ≡ []) × (c.entries.first_noted ≡ []) × (c.deltas.first_taken ≡ []) × (offered_of c.role ≡ 0))
        (λ away. absurd (away refl)) (λ k c away at behind. kept.roles.only k c at away);
    offers = kept.roles.offers;
    living = sum_same (λ c. if is_living c then 1 else 0) state.actors 0 opener walker kept.roles.stands refl ∙ kept.roles.living;
    few = kept.roles.few;
    younger = still_younger state.actors beside kept.roles stood (made_of opener.role) (omega arith);
    apart = still_apart state.actors beside kept.roles stood;
    eldest = still_eldest state.actors beside kept.roles stood;
    heirs = still_heirs state.actors beside kept.roles stood walker refl refl;
  }

  -- it has walked no less
  further : (at : ℕ) → Contains opener.seen.chain at → Contains order at
  further at has =
      let front : IsPrefix opener.seen.chain order = (kept.each 0 opener kept.roles.stands lives).sees.walked in
      subst (λ (list : List ℕ). Contains list at) (sym front.1) (Contains-append_left opener.seen.chain front.0 at has)

  walks : Sees kept.anatomy state.cursors walker.seen
  walks =
      let sees = (kept.each 0 opener kept.roles.stands lives).sees in record {
        free = sees.free;
        walked = ([], sym (append-nil order));
        tails = sees.tails;
        singles = sees.singles;
        counters = sees.counters;
        in_use = sees.in_use;
        met = All-weaker (WasMet kept.anatomy.pieces opener.seen) (WasMet kept.anatomy.pieces walker.seen)
            (λ s. met_more kept.anatomy.pieces opener.seen walker.seen further (λ at word has. has) s) opener.seen.counts sees.met;
        fixed = sees.fixed;
        shared = sees.shared;
      }

  finals : FinalsAreExact state.actors opener 0 walker
  finals =
      let exact = (kept.each 0 opener kept.roles.stands lives).finals in record {
        deltas = exact.deltas;
        snapshots = exact.snapshots;
        each = exact.each;
        moments = λ m of. let is = exact.moments m of in is;
        swapped = exact.swapped;
      }

  walker_fits : Fits shape kept.anatomy state.cursors state.actors opener 0 walker
  walker_fits =
      let fits = kept.each 0 opener kept.roles.stands lives in
      let opens = kept.roles.opens in record {
        shaped = fits.shaped;
        versioned = fits.versioned;
        numbered = fits.numbered;
        sees = walks;
        ahead = fits.ahead;
        names = fits.names;
        own = fits.own;
        apart = fits.apart;
        owes = fits.owes;
        calls = record {
          ordered = fits.calls.ordered;
          within = fits.calls.within;
          held = fits.calls.held;
          ended = fits.calls.ended;
          spent = fits.calls.spent;
          met = λ entry of counted units first.
              let (at, sampled, met, saw) = fits.calls.met entry of counted units first in
              (at, sampled, further at met, saw);
          taking = fits.calls.taking;
        };
        looks = λ records. absurd (true≢false (sym kept.roles.opens ∙ records));
        finals = finals;
        snapshots = fits.snapshots;
      }

  fits_all : (id : ℕ) (a : Actor) → get_elem? beside id ≡ some a → a.hand.place ≢ Spent → Fits shape kept.anatomy state.cursors beside walker id a
  fits_all = each_beside (λ id a. a.hand.place ≢ Spent → Fits shape kept.anatomy state.cursors beside walker id a)
      (λ alive. along 0 walker walker_fits) (λ id a away at alive. along id a (kept.each id a at alive))
    where
      along : (id : ℕ) (a : Actor) → Fits shape kept.anatomy state.cursors state.actors opener id a → Fits shape kept.anatomy state.cursors beside walker id a
      along id a = fits_beside shape kept.anatomy state.cursors state.actors beside opener walker id a kept.roles.stands stands_first refl (refl, refl)
          (sums_of state.actors beside deeds) stood

  -- the state with it is kept
  pub walker_kept : Invariant shape opened (record state { actors = beside })
  unfolding roles
  walker_kept = (kept_by shape opened kept.anatomy state.words state.cursors beside
      (books_by shape opened kept.anatomy state.words state.cursors state.actors beside deeds
      (loaded_set state.actors 0 opener walker kept.roles.stands (λ at sum is. is)) (books_of shape opened state kept))
      roles kept.first_noted
      (each_beside (λ k c. is_opener c.role ≡ false → GivenInOrder order c.done.given) (kept.cursors.ordered 0 opener kept.roles.stands)
      (λ k c away at. kept.cursors.ordered k c at))
      (each_beside (λ k c. All (λ g. Contains order g.reference) c.done.given) (kept.cursors.given 0 opener kept.roles.stands)
      (λ k c away at. kept.cursors.given k c at))
      (each_beside (λ k c. StandsRight shape kept.anatomy k c c.hand.place)
      (subst (StandsRight shape kept.anatomy 0 walker) (sym kept.roles.idle) tt) (λ k c away at. kept.standing k c at))
      fits_all kept (rises_itself kept.anatomy)
      (sums_rest shape state.words kept.anatomy kept.shown state.actors beside (sums_of state.actors beside deeds).costs)).0
