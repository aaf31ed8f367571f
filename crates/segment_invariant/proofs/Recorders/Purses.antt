-- A purse that an opener fills keeps what holds: it is one actor more, which has units and nothing else.
use Rattle.segment_invariant.proofs.Prelude.Std.{◌≡◌, ◌≢◌, ℕ, ◌-◌, ◌≤◌, Bool, true, true≢false, List, [], ◌∷◌, ◌++◌, set, refl, sym, ap, subst, subst₂, arith, if◌then◌else◌, some, get_elem?, flat_map, sum_by-append, IsPermutation-refl, sum_beside}
use Rattle.segment_invariant.proofs.Prelude.Machine.{Dimensions, Spent, Actor, all_counted, all_noted, all_published, all_taken, made_of, offered_of, outstanding_of, State, purse}
use Rattle.segment_invariant.proofs.Prelude.Invariant.{Anatomy, is_living, RolesAreKept, Fits, Invariant, KeptOn}
use Rattle.std.proofs.Math.Bool.{or-false}
use Rattle.segment_machine.specs.Actor.{all_given, all_names, all_owed}
use Rattle.segment_machine.specs.Seats.{MayFill, lender}
use Rattle.segment_invariant.specs.Keeps.{FillsKeep}
use Rattle.list_lemmas.proofs.Maps.{each_of_more}
use Rattle.segment_invariant.proofs.Frames.Deeds.{Deeds, deeds_more, sums_of}
use Rattle.segment_invariant.proofs.Frames.Books.{books_of, books_by, kept_by}
use Rattle.segment_invariant.proofs.Frames.Roles.{no_recorder, opens_nothing, AllStood, Stood, still_younger, still_apart, still_eldest, still_heirs, opens_first, fits_beside}
use Rattle.segment_invariant.proofs.Frames.Rises.{rises_itself}
use Rattle.segment_invariant.proofs.Frames.SumsRise.{sums_rest}
use Rattle.segment_invariant.proofs.Recorders.Shares.{opener_fits}
use Rattle.segment_invariant.proofs.Recorders.Newcomers.{Comes, comes}

-- what both did together
fill_deeds : (a : Actor) → offered_of a.role ≤ a.units.share → Deeds (a ∷ []) (lender a ∷ purse (offered_of a.role) ∷ [])
fill_deeds a enough = record {
  counted = IsPermutation-refl (all_counted (a ∷ []));
  summed = λ name. refl;
  noted = IsPermutation-refl (all_noted (a ∷ []));
  claimed = IsPermutation-refl (flat_map (λ (c : Actor). c.done.claimed) (a ∷ []));
  published = IsPermutation-refl (all_published (a ∷ []));
  names = IsPermutation-refl (all_names (a ∷ []));
  owed = IsPermutation-refl (all_owed (a ∷ []));
  given = λ k. IsPermutation-refl (all_given (a ∷ []) k);
  taken = IsPermutation-refl (all_taken (a ∷ []));
  taken_sums = λ name. refl;
  moving = λ name key. omega arith;
  costs = λ name. omega arith;
  units = omega (arith, enough);
  spoiled = or-false a.done.spoiled;
  filled = or-false a.done.filled;
  noticed = or-false a.seen.corrupt;
}

module _ (shape : Dimensions) (opened : Anatomy) (old : State) (kept : Invariant shape opened old) (may : MayFill kept.roles.opener) where
  abbrev opener : Actor
  opener = kept.roles.opener

  abbrev later : Actor
  later = lender opener

  abbrev carrier : Actor
  carrier = purse (offered_of opener.role)

  abbrev more : List Actor
  more = set old.actors 0 later ++ carrier ∷ []

  deeds : Deeds old.actors more
  deeds = deeds_more old.actors opener later carrier kept.roles.stands (fill_deeds opener may.2)

  came : Comes shape kept.anatomy old later carrier
  came = comes shape opened old kept (opener.units.share - offered_of opener.role) (made_of opener.role) (outstanding_of opener.role) carrier (refl, refl, refl, refl, refl) refl refl (λ at sum is. cc is)

  -- the same recorders live
  stood : AllStood old.actors more
  stood = each_of_more (λ k c. is_living c ≡ true → Stood old.actors k c) old.actors 0 later carrier
      (λ lives. absurd (opens_nothing later refl lives))
      (λ lives. absurd (true≢false (sym lives)))
      (λ k c within front at lives. record { was = c; at = at; lives = lives; made = refl; outstanding = refl; inherited = refl })

  roles : RolesAreKept more
  roles = record {
    opener = later;
    stands = came.first;
    opens = refl;
    idle = kept.roles.idle;
    rests = kept.roles.rests;
    only = came.only;
    offers = omega arith;
    living = (
        let one : Actor → ℕ = λ c. if is_living c then 1 else 0 in
        let all = sum_by-append one (set old.actors 0 later) (carrier ∷ []) in
        let now = sum_beside one old.actors 0 opener later kept.roles.stands in
        let was = kept.roles.living in
        let opens : one opener ≡ 0 = ap (λ (lives : Bool). if lives then 1 else 0) (no_recorder opener kept.roles.opens) in
        omega (arith, all, now, was, opens));
    few = kept.roles.few;
    younger = still_younger old.actors more kept.roles stood (made_of later.role) (omega arith);
    apart = still_apart old.actors more kept.roles stood;
    eldest = still_eldest old.actors more kept.roles stood;
    heirs = still_heirs old.actors more kept.roles stood later refl refl;
  }

  beside : (k : ℕ) (c : Actor) → Fits shape kept.anatomy old.cursors old.actors opener k c → Fits shape kept.anatomy old.cursors more later k c
  beside k c = fits_beside shape kept.anatomy old.cursors old.actors more opener later k c kept.roles.stands came.first refl (refl, refl) (sums_of old.actors more deeds) stood

  each : (k : ℕ) (c : Actor) → get_elem? more k ≡ some c → c.hand.place ≢ Spent → Fits shape kept.anatomy old.cursors more later k c
  each = each_of_more (λ k c. c.hand.place ≢ Spent → Fits shape kept.anatomy old.cursors more later k c) old.actors 0 later carrier
      (λ live. opener_fits shape kept.anatomy old.cursors more later 0 opener (opener.units.share - offered_of opener.role) 0 (made_of opener.role) (outstanding_of opener.role)
      kept.roles.rests.2 (beside 0 opener (kept.each 0 opener kept.roles.stands live)))
      (λ live. absurd (live refl))
      (λ k c within front at live. beside k c (kept.each k c at live))

  pub fill_kept : KeptOn shape opened kept (record old { actors = more })
  unfolding roles
  fill_kept = kept_by shape opened kept.anatomy old.words old.cursors more
      (books_by shape opened kept.anatomy old.words old.cursors old.actors more deeds came.loaded (books_of shape opened old kept))
      roles kept.first_noted came.ordered came.given came.standing each kept (rises_itself kept.anatomy)
      (sums_rest shape old.words kept.anatomy kept.shown old.actors more (sums_of old.actors more deeds).costs)

pub fills_keep : FillsKeep
fills_keep shape opened old new id kept (a, stands, may, is) =
    let opener = opens_first old.actors kept.roles id a stands may.1 in
    subst (KeptOn shape opened kept) (sym is)
    (subst₂
    (λ (k : ℕ) (c : Actor). KeptOn shape opened kept (record old { actors = set old.actors k (lender c) ++ purse (offered_of c.role) ∷ [] }))
    (sym opener.0) opener.1
    (fill_kept shape opened old kept (subst MayFill (sym opener.1) may)))
