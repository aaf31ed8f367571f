-- Records that are passed over, and the blocks of which nothing changes but their nexts: they stay, and what the opening has of them holds of
-- the present ones.
use Rattle.segment_invariant.proofs.Prelude.Std.{◌≡◌, ◌≢◌, ◌⊎◌, ℕ, List, [], ◌∷◌, ◌++◌, Contains, set, inl, inr, refl, sym, ap, ◌∙◌, subst, arith, None, none, Contains-append_right, Contains-append_cases}
use Rattle.segment_invariant.proofs.Prelude.Machine.{Dimensions, Sighting}
use Rattle.segment_invariant.proofs.Prelude.Invariant.{Record, Counts, Body, histogram, counts, other, Piece, Listed, Anatomy, Stands, WasFixed, IsPassedOver}
use Rattle.segment_invariant.specs.Seen.{HasStill, HoldsAs}
use Rattle.segment_invariant.specs.Invariant.{IsOfOtherType, ArePassedOver, HasPassedOver}
use Rattle.segment_invariant.specs.Words.{AreLaid}
use Rattle.segment_invariant.proofs.Frames.Growth.{Stays}
use Rattle.segment_invariant.proofs.Frames.Onward.{Onward, fixed_on}

-- ---- they stay

-- from one list of blocks to another they stay
abbrev pub StillStay : List Piece → List Piece → Type 0
StillStay old new =
    ((at size tag : ℕ) (payload : List ℕ) → HasStill old at size tag payload → HasStill new at size tag payload)
    × ((s : Sighting) → WasFixed old s → WasFixed new s)

pub still_there : (old new : List Piece) → Stays old new → StillStay old new
still_there old new stays = (
  λ at size tag payload (next, stands). (next, stays.there at (other size tag next payload) stands),
  λ s was. (was.0, was.1, was.2, stays.there was.0 was.2 was.3, was.4, was.5, was.6),
)

pub still_onward : (old new : Anatomy) (added : ℕ → Body → Type 0) → Onward old new added → StillStay old.pieces new.pieces
still_onward old new added onward = (
  λ at size tag payload (next, stands).
      let (body, now, (n, is)) = onward.goes at (other size tag next payload) refl stands in
      (n, subst (Stands new.pieces at none) is now),
  fixed_on old new added onward,
)

pub passed_on : (page : ℕ) (opened : Anatomy) (old new : List Piece) → StillStay old new → ArePassedOver page opened old → ArePassedOver page opened new
passed_on page opened old new stay are = record {
  stay = λ at size tag payload still. stay.0 at size tag payload (are.stay at size tag payload still);
  fixed = λ s was. stay.1 s (are.fixed s was);
  each = are.each;
  apart = are.apart;
  unlisted = are.unlisted;
}

-- ---- the present ones

-- a record to which nothing was given is not among those that come after others
in_front : (xs more front behind : List Listed) (at : ℕ) → xs ++ more ≡ front ++ record { reference = at; made = None } ∷ behind
    → ((l : Listed) → Contains more l → l.made ≢ None) → (left : List Listed) × (xs ≡ front ++ record { reference = at; made = None } ∷ left)
in_front [] more front behind at same given =
    let l : Listed = record { reference = at; made = None } in
    absurd (given l (subst (λ (list : List Listed). Contains list l) (sym same) (Contains-append_right front (l ∷ behind) l (0, omega arith, refl))) refl)
in_front (x ∷ xs) more [] behind at same given =
    let first : x ≡ record { reference = at; made = None } = cc same in
    (xs, ap (λ (l : Listed). l ∷ xs) first)
in_front (x ∷ xs) more (y ∷ front) behind at same given =
    let first : x ≡ y = cc same in
    let (left, rest) = in_front xs more front behind at (cc same) given in
    (left, λ i. first i ∷ rest i)

module _ (shape : Dimensions) (opened : Anatomy) (words : List ℕ) (kept : AreLaid shape opened words) where
  -- a record to which nothing was given is one of the opening
  pub in_opening : (at : ℕ) → Contains kept.anatomy.records (record { reference = at; made = None }) → Contains opened.records (record { reference = at; made = None })
  in_opening at among = elim (Contains-append_cases opened.records kept.list.longer.0 (record { reference = at; made = None })
      (subst (λ (list : List Listed). Contains list (record { reference = at; made = None })) kept.list.longer.1 among)) [
        | inl old ↦ old
        | inr new ↦ absurd (kept.list.longer.2 (record { reference = at; made = None }) new refl)
      ]

  -- a block that holds what a record or a counts block would holds it still, with another next
  record_holds_on : (at : ℕ) (r : Record) → HoldsAs opened.pieces at (histogram r) → (n : ℕ) × HoldsAs kept.anatomy.pieces at (histogram (record r { next = n }))
  record_holds_on at r (size, tag, next, payload, stands, is) =
      let (n, now) = kept.passed_over.stay at size tag payload (next, stands) in
      (n, (size, tag, n, payload, now, ap (λ (words : List ℕ). set words 3 n) is))

  counts_hold_on : (at : ℕ) (c : Counts) → HoldsAs opened.pieces at (counts c) → (n : ℕ) × HoldsAs kept.anatomy.pieces at (counts (record c { next = n }))
  counts_hold_on at c (size, tag, next, payload, stands, is) =
      let (n, now) = kept.passed_over.stay at size tag payload (next, stands) in
      (n, (size, tag, n, payload, now, ap (λ (words : List ℕ). set words 3 n) is))

  -- a record that is passed over, and that the opening had, up to its next
  abbrev pub PassedOver : List Listed → ℕ → Record → Type 0
  PassedOver front at r =
      IsPassedOver kept.anatomy.version shape.page kept.anatomy.pieces front at r × (n : ℕ) × HasPassedOver opened at (record r { next = n })

  -- a record to which nothing was given is of another type, or passed over
  pub none_given : (front behind : List Listed) (at : ℕ) → kept.anatomy.records ≡ front ++ record { reference = at; made = None } ∷ behind
      → IsOfOtherType kept.anatomy.pieces at ⊎ ((r : Record) × PassedOver front at r)
  none_given front behind at is =
      let (left, split) = in_front opened.records kept.list.longer.0 front behind at (sym kept.list.longer.1 ∙ is) kept.list.longer.2 in
      elim (kept.passed_over.each front left at split) [
        | inl (size, tag, next, payload, stands, differs) ↦
            let (n, now) = kept.passed_over.stay at size tag payload (next, stands) in
            inl (size, tag, n, payload, now, differs)
        | inr (r, over) ↦
            let (n, holds) = record_holds_on at r over.stands in
            let l : Listed = record { reference = at; made = None } in
            let among = subst (λ (list : List Listed). Contains list l) (sym split) (Contains-append_right front (l ∷ left) l (0, omega arith, refl)) in
            inr (record r { next = n }, (now_over front at r n holds over, r.next, (among, over.stands)))
      ]
    where
      now_over : (front : List Listed) (at : ℕ) (r : Record) (n : ℕ) → HoldsAs kept.anatomy.pieces at (histogram (record r { next = n }))
          → IsPassedOver opened.version shape.page opened.pieces front at r
          → IsPassedOver kept.anatomy.version shape.page kept.anatomy.pieces front at (record r { next = n })
      now_over front at r n holds over = subst (λ (version : ℕ). IsPassedOver version shape.page kept.anatomy.pieces front at (record r { next = n })) (sym kept.same)
          record {
            stands = holds;
            lawful = over.lawful;
            named = over.named;
            counted = λ mounts.
                let (c, before, of_it, bounded) = over.counted mounts in
                let (m, there) = counts_hold_on r.counts c before in
                (record c { next = m }, there, of_it, bounded);
            packed = over.packed;
            sums = over.sums;
          }
