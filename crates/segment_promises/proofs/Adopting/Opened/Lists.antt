-- The list of an image in its anatomy: each record is there as what was given to its maker, and no others are there; each claimed block
-- says its size.
use Rattle.segment_invariant.proofs.Prelude.Std.{◌≡◌, ◌≢◌, inl, inr, true, ℕ, ◌+◌, ◌-◌, ◌^◌, ◌<◌, ◌≤◌, List, [], length, drop, take, All, Contains, refl, sym, ap, ◌∙◌, subst, arith, get_or-drop, slice_index, append-nil, IsPermutation-refl, none, some, get_elem?, all_of, contains_map, contains_mapped}
use Rattle.segment_invariant.proofs.Prelude.Machine.{head_of, IsListed, Reading, reading_along, IsStop, IsLinked}
use Rattle.segment_invariant.proofs.Prelude.Invariant.{Body, queue, plain, held, histogram, counts, sample, other, words_of, is_claimed, Piece, extent_of, Listed, Anatomy, Stands, StandsAs, ClaimedRight}
use Rattle.std.proofs.Common.{get_or-take}
use Rattle.segment_invariant.specs.Invariant.{ListIsKept}
use Rattle.segment_invariant.specs.Invariant as invariant
use Rattle.segment_promises.specs.Adoption.{IsAdoptable}
use Rattle.segment_promises.proofs.Adopting.Slices.{run_long}
use Rattle.segment_promises.proofs.Adopting.Bodies.{size_at}
use Rattle.segment_promises.proofs.Adopting.Images.{is_linked, free_bounds}
use Rattle.segment_promises.proofs.Adopting.Openers.{actors}
use Rattle.segment_promises.proofs.Adopting.Opened.Anatomy.{made_by, listed_at, opened, order_is, placed}
use Rattle.segment_promises.proofs.Adopting.Opened.Blocks.{begins, record_body}
use Rattle.segment_promises.proofs.Adopting.Opened.NoRepeats.{listed_begins}
use Rattle.segment_promises.proofs.Adopting.Opened.Pieces.{claimed_block, stood_block, record_cases, body_cases, listed_is, listed_body, owned_counts}

-- ---- what is there as a body is there as what was given to its maker

-- a body that a record on a list can be
abbrev pub IsListable : Body → Type 0
IsListable (histogram r) = Unit {0}
IsListable (sample s) = Unit {0}
IsListable (other size tag next payload) = (tag ≢ 3) × (1 ≤ length payload)
IsListable _ = ⊥

stands_as : (pieces : List Piece) (at : ℕ) (b : Body) → Stands pieces at none b → IsListable b → StandsAs pieces (record { reference = at; made = made_by b }) (made_by b)
stands_as pieces at (histogram r) has listable = (r, has, refl, refl)
stands_as pieces at (sample s) has listable = (s, has, refl, refl)
stands_as pieces at (other size tag next payload) has (unlike, long) = (size, tag, next, payload, has, unlike, long)
stands_as pieces at (queue next) has listable = absurd listable
stands_as pieces at (plain words) has listable = absurd listable
stands_as pieces at (held block) has listable = absurd listable
stands_as pieces at (counts c) has listable = absurd listable

-- a body that is on a list if it was given to a maker
listed_as : (records : List Listed) (at : ℕ) (b : Body) → Contains records (record { reference = at; made = made_by b }) → invariant.IsOnList records at b
listed_as records at (histogram r) there = there
listed_as records at (sample s) there = there
listed_as records at (other size tag next payload) there = λ tagged. there
listed_as records at (queue next) there = tt
listed_as records at (plain words) there = tt
listed_as records at (held block) there = tt
listed_as records at (counts c) there = tt

-- a counts block need not be
abbrev IsUnlisted : Body → Type 0
IsUnlisted (counts c) = Unit {0}
IsUnlisted (other size tag next payload) = tag ≡ 2
IsUnlisted _ = ⊥

unlisted_as : (records : List Listed) (at : ℕ) (b : Body) → IsUnlisted b → invariant.IsOnList records at b
unlisted_as records at (counts c) is = tt
unlisted_as records at (other size tag next payload) is = λ tagged. absurd (tagged is)
unlisted_as records at (queue next) is = absurd is
unlisted_as records at (plain words) is = absurd is
unlisted_as records at (held block) is = absurd is
unlisted_as records at (histogram r) is = absurd is
unlisted_as records at (sample s) is = absurd is

-- ---- an image

module _ (words references : List ℕ) (reading : Reading) (narrow : All (λ word. word < 2 ^ 64) words) (listed : IsListed words (head_of words) references)
    (reads : reading ≡ reading_along words (head_of words) references) (adoptable : IsAdoptable words references reading) where
  abbrev its : Anatomy
  its = opened words references reading narrow listed reads adoptable

  -- a block that is taken word by word has a payload
  payload_long : (at : ℕ) → begins words references at ≡ true → 1 ≤ length (take (size_at words at - 4) (drop (at + 4) words))
  payload_long at begun =
      let p = placed words references reading narrow listed reads adoptable at begun in
      let least = p.least in
      let within = p.within in
      let bound = (free_bounds words references reading listed reads adoptable).1 in
      let long = run_long words (at + 4) (size_at words at - 4) (omega (arith, least, within, bound)) in
      omega (arith, long, least)

  listable : (at : ℕ) → Contains references at → IsListable (record_body words references at)
  listable at there =
      let long = payload_long at (listed_begins words references reading narrow listed reads adoptable at there) in
      elim (record_cases words references reading narrow listed reads adoptable at) [
        | inl (one, read, is) ↦ subst IsListable (sym is) tt
        | inr (inl (one, read, is)) ↦ subst IsListable (sym is) ((λ three. omega (arith, one, three)), long)
        | inr (inr (inl (three, is))) ↦ subst IsListable (sym is) tt
        | inr (inr (inr (un, third, is))) ↦ subst IsListable (sym is) (third, long)
      ]

  standing : All (λ (l : Listed). StandsAs its.pieces l l.made) its.records
  standing =
      all_of (λ (l : Listed). StandsAs its.pieces l l.made) its.records
      (λ l there.
      let (at, among, is) = contains_mapped (listed_at words references) references l there in
      subst (λ (l : Listed). StandsAs its.pieces l l.made) is
      (stands_as its.pieces at (record_body words references at) (listed_body words references reading narrow listed reads adoptable at among) (listable at among)))

  -- a claimed block is on the list, or one of counts
  alone : (at : ℕ) (b : Body) → Stands its.pieces at none b → is_claimed b ≡ true → invariant.IsOnList its.records at b
  alone at b has claimed =
      let (begun, unowned_there, is) = stood_block words references reading narrow listed reads adoptable at none b has claimed in
      elim (body_cases words references reading narrow listed reads adoptable at begun) [
        | inl (among, kinds) ↦ listed_as its.records at b
            (subst (λ (b : Body). Contains its.records (record { reference = at; made = made_by b })) (sym (is ∙ listed_is words references reading narrow listed reads adoptable at among))
            (contains_map (listed_at words references) references at among))
        | inr (unlisted, (owner, owns, inl (read, that))) ↦ unlisted_as its.records at b (subst IsUnlisted (sym (is ∙ that)) tt)
        | inr (unlisted, (owner, owns, inr (read, that))) ↦ unlisted_as its.records at b
            (subst IsUnlisted (sym (is ∙ that)) (owned_counts words references reading narrow listed reads adoptable at owner owns).0)
      ]

  alone_each : (at : ℕ) (b : Body) → Stands its.pieces at none b → invariant.IsOnList its.records at b
  alone_each at (queue next) has = tt
  alone_each at (plain words) has = tt
  alone_each at (held block) has = tt
  alone_each at (histogram r) has = alone at (histogram r) has refl
  alone_each at (counts c) has = tt
  alone_each at (sample s) has = alone at (sample s) has refl
  alone_each at (other size tag next payload) has = alone at (other size tag next payload) has refl

  -- the list is kept
  pub list_kept : (cursors : ℕ) → ListIsKept words its its (actors words references reading cursors)
  list_kept cursors = record {
    linked = subst (IsLinked words) (sym (order_is words references reading narrow listed reads adoptable)) (is_linked words references reading listed reads adoptable);
    once = ([], sym (append-nil its.records), IsPermutation-refl []);
    standing = standing;
    alone = alone_each;
    tail = subst (λ (chain : List ℕ). IsStop chain its.tail) (sym (order_is words references reading narrow listed reads adoptable)) adoptable.undamaged.tail;
  }

  -- each claimed block says its size
  pub blocks_kept : (k : ℕ) (piece : Piece) → get_elem? its.pieces k ≡ some piece → ClaimedRight piece
  blocks_kept k piece there claimed =
      let (begun, is) = claimed_block words references reading narrow listed reads adoptable k piece there claimed in
      let p = placed words references reading narrow listed reads adoptable piece.at begun in
      let least = p.least in
      let long = ap (λ (q : Piece). extent_of q) is ∙ p.long in (
        ap (λ (q : Piece). slice_index (words_of q.body) 0) is
            ∙ (ap (λ (ws : List ℕ). slice_index ws 0) p.holds
            ∙ (get_or-take (size_at words piece.at) (drop piece.at words) 0 0 (omega (arith, least))
            ∙ (get_or-drop piece.at words 0 0 ∙ sym long))),
        omega (arith, long, least),
        inl (ap (λ (q : Piece). q.owner) is),
      )
