-- An actor is added after all that there are, while the opener gets another share and another role: what both leave unchanged of the
-- others.
use Rattle.segment_invariant.proofs.Prelude.Std.{◌≡◌, ◌≢◌, ℕ, List, [], ◌∷◌, ◌++◌, length, All, Contains, set, false, true≢false, sym, subst, some, get_elem?, at_longer, set_here, below_length, none_at, All-nil, refl}
use Rattle.segment_invariant.proofs.Prelude.Machine.{Dimensions, Actor, Given, State, SumLoaded, is_opener}
use Rattle.segment_invariant.proofs.Prelude.Invariant.{Anatomy, order_of, StandsRight, Invariant}
use Rattle.segment_machine.specs.Actor.{offered_of}
use Rattle.list_lemmas.proofs.Maps.{each_of_more}
use Rattle.segment_invariant.proofs.Frames.Together.{LoadedBefore}
use Rattle.segment_invariant.proofs.Frames.Books.{GivenInOrder}
use Rattle.segment_invariant.proofs.Recorders.Shares.{turned}

-- all actors then
abbrev pub beside : State → Actor → Actor → List Actor
beside old later c = set old.actors 0 later ++ c ∷ []

pub record Comes (shape : Dimensions) (anatomy : Anatomy) (old : State) (later c : Actor) : Type 0 where
  pub first : get_elem? (beside old later c) 0 ≡ some later
  pub only : (k : ℕ) (x : Actor) → get_elem? (beside old later c) k ≡ some x → k ≢ 0
      → (is_opener x.role ≡ false) × (x.entries.first ≡ []) × (x.entries.first_noted ≡ []) × (x.deltas.first_taken ≡ []) × (offered_of x.role ≡ 0)
  pub ordered : (k : ℕ) (x : Actor) → get_elem? (beside old later c) k ≡ some x → is_opener x.role ≡ false → GivenInOrder (order_of anatomy) x.done.given
  pub given : (k : ℕ) (x : Actor) → get_elem? (beside old later c) k ≡ some x → All (λ g. Contains (order_of anatomy) g.reference) x.done.given
  pub standing : (k : ℕ) (x : Actor) → get_elem? (beside old later c) k ≡ some x → StandsRight shape anatomy k x x.hand.place
  pub loaded : LoadedBefore old.actors (beside old later c)

module _ (shape : Dimensions) (opened : Anatomy) (old : State) (kept : Invariant shape opened old) (share made outstanding : ℕ) (c : Actor) where
  abbrev opener : Actor
  opener = kept.roles.opener

  abbrev later : Actor
  later = turned opener share 0 made outstanding

  -- it is bare, and has no sum loaded
  pub comes : (is_opener c.role ≡ false) × (c.entries.first ≡ []) × (c.entries.first_noted ≡ []) × (c.deltas.first_taken ≡ []) × (offered_of c.role ≡ 0) → c.done.given ≡ []
      → StandsRight shape kept.anatomy (length old.actors) c c.hand.place → ((at : ℕ) (sum : _) → c.hand.place ≢ SumLoaded at sum) → Comes shape kept.anatomy old later c
  comes bare none_given stands unsummed = record {
    first = at_longer (set old.actors 0 later) (c ∷ []) 0 later (set_here old.actors 0 later (below_length old.actors 0 opener kept.roles.stands));
    only = each_of_more (λ k x. k ≢ 0 → (is_opener x.role ≡ false) × (x.entries.first ≡ []) × (x.entries.first_noted ≡ []) × (x.deltas.first_taken ≡ []) × (offered_of x.role ≡ 0)) old.actors 0 later c
        (λ away. absurd (away refl))
        (λ away. bare)
        (λ k x within front at away. kept.roles.only k x at away);
    ordered = each_of_more (λ k x. is_opener x.role ≡ false → GivenInOrder (order_of kept.anatomy) x.done.given) old.actors 0 later c
        (λ records. absurd (true≢false records))
        (λ records. subst (GivenInOrder (order_of kept.anatomy)) (sym none_given) (λ i j k l x y below here. absurd (none_at i x here)))
        (λ k x within front at. kept.cursors.ordered k x at);
    given = each_of_more (λ k x. All (λ g. Contains (order_of kept.anatomy) g.reference) x.done.given) old.actors 0 later c
        (kept.cursors.given 0 opener kept.roles.stands)
        (subst (All (λ (g : Given). Contains (order_of kept.anatomy) g.reference)) (sym none_given) (All-nil (λ (g : Given). Contains (order_of kept.anatomy) g.reference)))
        (λ k x within front at. kept.cursors.given k x at);
    standing = each_of_more (λ k x. StandsRight shape kept.anatomy k x x.hand.place) old.actors 0 later c
        (subst (StandsRight shape kept.anatomy 0 later) (sym kept.roles.idle) tt)
        stands
        (λ k x within front at. kept.standing k x at);
    loaded = λ at sum. each_of_more
        (λ k x. x.hand.place ≡ SumLoaded at sum → (j : ℕ) × (d : Actor) × (get_elem? old.actors j ≡ some d) × (d.hand.place ≡ SumLoaded at sum))
        old.actors 0 later c
        (λ stands. (0, opener, kept.roles.stands, stands))
        (λ stands. absurd (unsummed at sum stands))
        (λ k x within front is stands. (k, x, is, stands));
  }
