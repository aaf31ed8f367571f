-- Openers and recorders, if the recorders that live now lived before.
use Rattle.segment_invariant.proofs.Prelude.Std.{◌≡◌, ◌≢◌, ℕ, ◌+◌, ◌<◌, ◌≤◌, true, false, List, [], ◌++◌, set, inl, inr, refl, sym, ap, ◌∙◌, subst, true≢false, arith, if◌then◌else◌, ℕ_discrete, some, get_elem?, at_set, set_else, sum_same}
use Rattle.segment_invariant.proofs.Prelude.Machine.{Dimensions, Entry, Actor, log_of, is_opener, made_of, offered_of, outstanding_of}
use Rattle.segment_invariant.proofs.Prelude.Invariant.{Anatomy, is_living, RolesAreKept, IsAlone, Fits}
use Rattle.segment_invariant.proofs.Frames.Deeds.{SameSums}
use Rattle.segment_invariant.proofs.Frames.Together.{fits}
use Rattle.list_lemmas.proofs.Maps.{one_at}
use Rattle.segment_machine.specs.declared.actor.Role.TheVariants.{Opener, Recorder}
use Rattle.segment_machine.specs.declared.actor.Role.{Role}

-- of two actors that differ in their roles alone, either both live or none, if their roles are of one kind
pub same_living : (a : Actor) (now was : Role) → is_opener now ≡ is_opener was → is_living (record a { role = now }) ≡ is_living (record a { role = was })
same_living a (Opener m o f) (Opener n p g) same = refl
same_living a (Opener m o f) (Recorder n p) same = absurd (true≢false same)
same_living a (Recorder m o) (Opener n p g) same = absurd (true≢false (sym same))
same_living a (Recorder m o) (Recorder n p) same = refl

-- an opener is no recorder that lives
pub no_recorder : (a : Actor) → is_opener a.role ≡ true → is_living a ≡ false
no_recorder a opens = same_living a a.role (Opener 0 0 0) opens

pub opens_nothing : (a : Actor) → is_opener a.role ≡ true → is_living a ≡ true → ⊥
opens_nothing a opens lives = absurd (true≢false (sym lives ∙ no_recorder a opens))

-- a recorder that lives has lived before, made when it is said to be, with what it is said to have inherited
pub record Stood (old : List Actor) (k : ℕ) (c : Actor) : Type 0 where
  pub was : Actor
  pub at : get_elem? old k ≡ some was
  pub lives : is_living was ≡ true
  pub made : made_of was.role ≡ made_of c.role
  pub outstanding : outstanding_of was.role ≡ outstanding_of c.role
  pub inherited : was.entries.inherited ≡ c.entries.inherited

abbrev pub AllStood : List Actor → List Actor → Type 0
AllStood old new = (k : ℕ) (c : Actor) → get_elem? new k ≡ some c → is_living c ≡ true → Stood old k c

module _ (old new : List Actor) (roles : RolesAreKept old) (stood : AllStood old new) where
  pub still_younger : (made : ℕ) → made_of roles.opener.role ≤ made → (id : ℕ) (a : Actor) → get_elem? new id ≡ some a → is_living a ≡ true → made_of a.role < made
  still_younger made more id a at lives =
      let s = stood id a at lives in
      let younger = roles.younger id s.was s.at s.lives in
      let e = s.made in
      omega (arith, younger, e, more)

  pub still_apart : (i j : ℕ) (a b : Actor) → get_elem? new i ≡ some a → get_elem? new j ≡ some b → is_living a ≡ true → is_living b ≡ true
      → i ≢ j → made_of a.role ≢ made_of b.role
  still_apart i j a b first last lives alive ne same =
      let s = stood i a first lives in
      let t = stood j b last alive in
      roles.apart i j s.was t.was s.at t.at s.lives t.lives ne (s.made ∙ same ∙ sym t.made)

  pub still_eldest : (i j : ℕ) (a b : Actor) → get_elem? new i ≡ some a → get_elem? new j ≡ some b → is_living a ≡ true → is_living b ≡ true
      → i ≢ j → outstanding_of a.role ≡ 0 → made_of a.role < made_of b.role
  still_eldest i j a b first last lives alive ne none =
      let s = stood i a first lives in
      let t = stood j b last alive in
      let below = roles.eldest i j s.was t.was s.at t.at s.lives t.lives ne (s.outstanding ∙ none) in
      let e = s.made in
      let f = t.made in
      omega (arith, below, e, f)

  -- of another opener with the same log, which made as many, they are heirs too
  pub still_heirs : (later : Actor) → log_of later ≡ log_of roles.opener → made_of later.role ≡ made_of roles.opener.role → (id : ℕ) (a : Actor) → get_elem? new id ≡ some a
      → is_living a ≡ true
      → (more : List Entry) × (log_of later ≡ a.entries.inherited ++ more) × (outstanding_of a.role ≡ 0 → made_of a.role + 1 ≡ made_of later.role → more ≡ [])
  still_heirs later log made id a at lives =
      let s = stood id a at lives in
      let was = roles.heirs id s.was s.at s.lives in (
        was.0,
        log ∙ (was.1 ∙ ap (λ (list : List Entry). list ++ was.0) s.inherited),
        λ none last. was.2 (s.outstanding ∙ none) (ap (λ (n : ℕ). n + 1) s.made ∙ (last ∙ made)),
      )

-- a recorder that is alone now was alone before, if the opener has made no other since
pub alone_before : (old new : List Actor) (opener later a : Actor) → get_elem? old 0 ≡ some opener → get_elem? new 0 ≡ some later
    → made_of later.role ≡ made_of opener.role → IsAlone new a → IsAlone old a
alone_before old new opener later a first last e alone =
    let same = one_at new 0 alone.0 later alone.1 last in
    (opener, first, alone.2, alone.3 ∙ ap (λ (c : Actor). made_of c.role) same ∙ e)

-- an actor that fitted among the others still fits
pub fits_beside : (shape : Dimensions) (anatomy : Anatomy) (cursors : List ℕ) (old new : List Actor) (opener later : Actor) (id : ℕ) (a : Actor)
    → get_elem? old 0 ≡ some opener → get_elem? new 0 ≡ some later → made_of later.role ≡ made_of opener.role
    → (later.entries.first ≡ opener.entries.first) × (later.entries.first_noted ≡ opener.entries.first_noted) → SameSums old new → AllStood old new
    → Fits shape anatomy cursors old opener id a → Fits shape anatomy cursors new later id a
fits_beside shape anatomy cursors old new opener later id a first last made begins sums stood = fits shape anatomy cursors old new opener later id a sums
    (record {
      first = begins;
      more = omega (arith, made);
      last = λ n below e. e ∙ made;
      lives = λ k c at lives. let s = stood k c at lives in inl (s.was, s.at, s.lives, s.made);
    })
    (λ either. alone_before old new opener later a first last made)

-- ---- one recorder becomes another

-- two actors have the same role
pub record SameRole (b c : Actor) : Type 0 where
  pub living : is_living b ≡ is_living c
  pub opener : is_opener b.role ≡ is_opener c.role
  pub first : b.entries.first ≡ c.entries.first
  pub first_noted : b.entries.first_noted ≡ c.entries.first_noted
  pub first_taken : b.deltas.first_taken ≡ c.deltas.first_taken
  pub made : made_of b.role ≡ made_of c.role
  pub outstanding : outstanding_of b.role ≡ outstanding_of c.role
  pub inherited : b.entries.inherited ≡ c.entries.inherited
  pub offered : offered_of b.role ≡ offered_of c.role

-- an actor has the role that it had if it lives as it did, began with the same and inherited the same
pub role_kept : (a b : Actor) → is_living b ≡ is_living a → b.role ≡ a.role → b.entries.first ≡ a.entries.first → b.entries.first_noted ≡ a.entries.first_noted
    → b.entries.inherited ≡ a.entries.inherited → b.deltas.first_taken ≡ a.deltas.first_taken → SameRole b a
role_kept a b living role first first_noted inherited first_taken = record {
  living = living;
  opener = ap is_opener role;
  first = first;
  first_noted = first_noted;
  first_taken = first_taken;
  made = ap made_of role;
  outstanding = ap outstanding_of role;
  inherited = inherited;
  offered = ap offered_of role;
}

-- the recorders that live lived before, and the opener is what it was
pub record SameRoles (old new : List Actor) : Type 0 where
  pub stood : AllStood old new
  pub opener : get_elem? new 0 ≡ get_elem? old 0

module _ (actors : List Actor) (id : ℕ) (a b : Actor) (mine : get_elem? actors id ≡ some a) (same : SameRole b a) where
  pub stood_set : AllStood actors (set actors id b)
  stood_set k c at lives = elim (at_set actors id k b c at) [
    | inl t ↦ record {
      was = a;
      at = ap (get_elem? actors) t.0 ∙ mine;
      lives = sym same.living ∙ (ap is_living t.1 ∙ lives);
      made = sym same.made ∙ ap (λ (c : Actor). made_of c.role) t.1;
      outstanding = sym same.outstanding ∙ ap (λ (c : Actor). outstanding_of c.role) t.1;
      inherited = sym same.inherited ∙ ap (λ (c : Actor). c.entries.inherited) t.1;
    }
    | inr t ↦ record { was = c; at = t.1; lives = lives; made = refl; outstanding = refl; inherited = refl }
  ]

  pub same_roles : id ≢ 0 → SameRoles actors (set actors id b)
  same_roles records = record { stood = stood_set; opener = set_else actors id 0 b (λ first. records (sym first)) }

  abbrev pub roles_set : id ≢ 0 → RolesAreKept actors → RolesAreKept (set actors id b)
  roles_set records roles = record {
    opener = roles.opener;
    stands = set_else actors id 0 b (λ first. records (sym first)) ∙ roles.stands;
    opens = roles.opens;
    idle = roles.idle;
    rests = roles.rests;
    only = λ k c at away. elim (at_set actors id k b c at) [
      | inl t ↦
          let was = roles.only id a mine records in
          subst (λ (c : Actor). (is_opener c.role ≡ false) × (c.entries.first ≡ []) × (c.entries.first_noted ≡ []) × (c.deltas.first_taken ≡ []) × (offered_of c.role ≡ 0)) t.1
          (same.opener ∙ was.0, same.first ∙ was.1, same.first_noted ∙ was.2, same.first_taken ∙ was.3, same.offered ∙ was.4)
      | inr t ↦ roles.only k c t.1 away
    ];
    offers = roles.offers;
    living = sum_same (λ c. if is_living c then 1 else 0) actors id a b mine (ap (λ lives. if lives then 1 else 0) same.living) ∙ roles.living;
    few = roles.few;
    younger = still_younger actors (set actors id b) roles stood_set (made_of roles.opener.role) (omega arith);
    apart = still_apart actors (set actors id b) roles stood_set;
    eldest = still_eldest actors (set actors id b) roles stood_set;
    heirs = still_heirs actors (set actors id b) roles stood_set roles.opener refl refl;
  }

-- ---- who opens

-- an opener is the first actor
pub opens_first : (actors : List Actor) (roles : RolesAreKept actors) (id : ℕ) (a : Actor) → get_elem? actors id ≡ some a → is_opener a.role ≡ true
    → (id ≡ 0) × (roles.opener ≡ a)
opens_first actors roles id a at opens =
    let front = front_of (ℕ_discrete id 0) in
    (front, one_at actors 0 roles.opener a roles.stands (subst (λ (k : ℕ). get_elem? actors k ≡ some a) front at))
  where
    front_of : Dec (id ≡ 0) → id ≡ 0
    front_of (yes e) = e
    front_of (no ne) = let records = (roles.only id a at ne).0 in absurd (true≢false (sym opens ∙ records))
