-- The first actor of a segment that opens, a new one or an adopted image: it has done nothing yet, and has accepted and seen what was there.
use Rattle.segment_invariant.proofs.Prelude.Std.{◌≡◌, ◌≢◌, ℕ, zero, suc, ◌<◌, ◌≤◌, true, false, List, [], ◌∷◌, replicate, inl, inr, refl, sym, subst, true≢false, arith, max, All, Contains, append-nil, length-replicate, All-nil, IsPermutation-refl, some, get_elem?, none_in, none_at}
use Rattle.segment_invariant.proofs.Prelude.Machine.{Dimensions, IsStop, Actor, Cost, Known, Moment, Portion, Entry, Seen, is_opener, made_of, cost_of, tally_noted, SawSample}
use Rattle.segment_invariant.proofs.Prelude.Invariant.{Anatomy, order_of, IsFirst, IsFirstOf, Sees, IsRightlyKnown, is_living, RolesAreKept, CallsRight, FinalsAreExact, Fits}
use Rattle.std.proofs.lemmas.List.{get_or-replicate}
use Rattle.bucket_ranges.specs.declared.spec.Spec.TheVariants as spec
use Rattle.segment_machine.specs.declared.actor.Role.TheVariants.{Opener}
use Rattle.segment_machine.specs.Seats.{idle}
use Rattle.segment_invariant.specs.Invariant.{CursorsAreKept, IsMomentOf}
use Rattle.segment_invariant.proofs.Frames.Ahead.{ahead_anew}
use Rattle.list_lemmas.proofs.Elements.{each_of_one}

-- there are no two of a list of one
pub no_two : {X : Type 0} (one : X) (i j : ℕ) (x y : X) → get_elem? (one ∷ []) i ≡ some x → get_elem? (one ∷ []) j ≡ some y → i ≢ j → ⊥
no_two one zero zero x y a b apart = apart refl
no_two one zero (suc j) x y a b apart = none_at j y b
no_two one (suc i) j x y a b apart = none_at i x a

module _ (shape : Dimensions) (version cursors share : ℕ) (costs first_noted : List Cost) (first : List Entry) (first_taken : List Portion)
    (names : List Known) (seen : Seen) where
  abbrev pub first_actor : Actor
  first_actor = record (idle shape version cursors 0 share) {
    role = Opener 0 0 0;
    units = record { share = share; costs = costs; held = [] };
    entries = record { first = first; first_noted = first_noted; inherited = []; log = []; running = [] };
    deltas = record { first_taken = first_taken; taken = []; taking = false; snapshots = [] };
    answers = record { names = names; owed = [] };
    seen = seen;
  }

  abbrev pub actors : List Actor
  actors = first_actor ∷ []

  -- it is the one opener, and no recorder
  pub no_recorder : is_living first_actor ≡ true → ⊥
  no_recorder lives = cc lives

  abbrev pub first_roles : RolesAreKept actors
  first_roles = record {
    opener = first_actor;
    stands = refl;
    opens = refl;
    idle = refl;
    rests = (refl, refl, refl, refl, refl);
    only = each_of_one first_actor (λ k a. k ≢ 0 → _) (λ apart. absurd (apart refl));
    offers = omega arith;
    living = refl;
    few = omega arith;
    younger = each_of_one first_actor (λ k a. is_living a ≡ true → made_of a.role < 0) (λ lives. absurd (no_recorder lives));
    apart = λ i j a b x y lives others ne. absurd (no_two first_actor i j a b x y ne);
    eldest = λ i j a b x y lives others ne. absurd (no_two first_actor i j a b x y ne);
    heirs = each_of_one first_actor (λ k a. is_living a ≡ true → _) (λ lives. absurd (no_recorder lives));
  }

  -- the shared cursors are at the begin of any list, and have given nothing
  pub first_cursors : (chain : List ℕ) → CursorsAreKept chain (replicate cursors 12) actors
  first_cursors chain = record {
    stand = λ k below.
        let within : k < cursors = omega (arith, below, length-replicate {A = ℕ} cursors 12) in
        (0, omega arith, sym (get_or-replicate cursors k 12 0 within), IsPermutation-refl []);
    ordered = each_of_one first_actor (λ k a. is_opener a.role ≡ false → _) (λ records. absurd (true≢false records));
    given = each_of_one first_actor (λ k a. All (λ g. Contains chain g.reference) a.done.given) (All-nil _);
  }

  -- no delta and no snapshot has begun
  no_moment : (m : Moment) → IsMomentOf first_actor m → ⊥
  no_moment m (inl (t, there, is)) = none_in t there
  no_moment m (inr (s, there, is)) = none_in s there

  finals : FinalsAreExact actors first_actor 0 first_actor
  finals = record {
    deltas = λ t there. absurd (none_in t there);
    snapshots = λ s there. absurd (none_in s there);
    each = λ n t there. absurd (none_at n t there);
    moments = λ m of. absurd (no_moment m of);
    swapped = λ before last e. cc e;
  }

  -- What has to be shown of it: what it has seen is no later than the present, it knows the first records of names, what it has accepted is
  -- spent, and it visited the samples of all that was counted before.
  module _ (anatomy : Anatomy) (sees : Sees anatomy (replicate cursors 12) seen) (stop : IsStop (order_of anatomy) anatomy.tail)
      (knows : All (IsRightlyKnown anatomy) names) (covers : (name : List ℕ) → max (tally_noted first name) (cost_of first_noted name) ≤ cost_of costs name)
      (met : (entry : Entry) (of : ℕ) → Contains first entry → 0 < entry.units → IsFirst anatomy.records entry.name spec.Sparse of
      → (at : ℕ) × IsFirstOf anatomy.records of entry.key at × Contains seen.chain at × SawSample seen of entry.key at) where
    calls : CallsRight anatomy first_actor
    calls = record {
      ordered = record {
        one_by_one = λ i j x y below there. absurd (none_at i x there);
        counted_first = All-nil _;
        summed_next = All-nil _;
        amounted = All-nil _;
      };
      within = λ runs. absurd (runs refl);
      held = omega arith;
      ended = All-nil _;
      spent = λ name. let all = covers name in omega (arith, all);
      met = λ entry of there. met entry of (subst (λ (list : List Entry). Contains list entry) (append-nil first) there);
      taking = λ e. cc e;
    }

    pub first_fits : version ≡ anatomy.version → Fits shape anatomy (replicate cursors 12) actors first_actor 0 first_actor
    first_fits versioned = record {
      shaped = refl;
      versioned = versioned;
      numbered = sym (length-replicate {A = ℕ} cursors 12);
      sees = sees;
      ahead = ahead_anew (order_of anatomy) anatomy.tail (replicate cursors 12) cursors stop (sym (length-replicate {A = ℕ} cursors 12))
          (λ k below. (0, omega arith, sym (get_or-replicate cursors k 12 0 (omega (arith, below, length-replicate {A = ℕ} cursors 12)))));
      names = knows;
      own = All-nil _;
      apart = λ i j x y there. absurd (none_at i x there);
      owes = All-nil _;
      calls = calls;
      looks = λ e. absurd (true≢false e);
      finals = finals;
      snapshots = All-nil _;
    }
