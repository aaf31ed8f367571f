-- What the records of a schedule make of the copies of a look.
use Rattle.std.proofs.Common.{◌≡◌, ℕ, zero, suc, ◌+◌, ◌<◌, ◌≤◌, List, [], ◌∷◌, ◌++◌, length, take, drop, get_or, refl, sym, ap, subst, ◌∙◌, arith, if◌then◌else◌}
use Rattle.std.proofs.lemmas.List.{at_drop_more, take-append-drop, take_more}
use Rattle.std.specs.Prelude.{Option, Some, None, Result, Ok, Err, MatchResult}
use Rattle.segment_image.specs.declared.head.SegmentHead.{SegmentHead}
use Rattle.segment_looks.specs.Looks.{IsLook, head_of_copies}
use Rattle.segment_looks.specs.declared.fault.LookFault.{LookFault}
use Rattle.segment_looks.specs.declared.fault.LookFault.TheVariants.{NoMemory}
use Rattle.hist_core.specs.declared.world_state.WorldState.{WorldState}
use Rattle.schedule.specs.declared.order.Order.{Order}
use Rattle.stepped.specs.Lines.{Deed}
use Rattle.stepped.specs.Look.{GivesImage, Look, TakesLook, begun_behind, first_bad, is_bad_load, look_behind}
use Rattle.stepped.specs.Replay.{DoesOrder}

-- ---- images

-- what three copies give is their image
pub image_of : (look : Look) (one two three : List ℕ) (made : Result (List ℕ) LookFault) (image : List ℕ) → one ≡ look.one → two ≡ look.two → three ≡ look.three
    → MatchResult (head_of_copies one two three)
    (λ head. MatchResult made (λ words. IsLook head one two three words) (λ fault. fault ≡ NoMemory)) (λ fault. made ≡ Err fault)
    → made ≡ Ok image → GivesImage look image
image_of look one two three made image is_one is_two is_three promise is =
    subst (λ (l : List ℕ). (head : SegmentHead) × (head_of_copies l look.two look.three ≡ Ok head) × IsLook head l look.two look.three image) is_one
    (subst (λ (l : List ℕ). (head : SegmentHead) × (head_of_copies one l look.three ≡ Ok head) × IsLook head one l look.three image) is_two
    (subst (λ (l : List ℕ). (head : SegmentHead) × (head_of_copies one two l ≡ Ok head) × IsLook head one two l image) is_three
    (by (head_of_copies one two three) refl promise)))
  where
    by : (h : Result SegmentHead LookFault) → head_of_copies one two three ≡ h
        → MatchResult h (λ head. MatchResult made (λ words. IsLook head one two three words) (λ fault. fault ≡ NoMemory)) (λ fault. made ≡ Err fault)
        → (head : SegmentHead) × (head_of_copies one two three ≡ Ok head) × IsLook head one two three image
    by (Ok head) at told =
        (head, at, subst (λ (r : Result (List ℕ) LookFault). MatchResult r (λ words. IsLook head one two three words) (λ fault. fault ≡ NoMemory)) is told)
    by (Err fault) at told = absurd (cc (sym told ∙ is))

-- ---- valid loads

-- the first record whose load is not valid, at the record of a place
pub first_bad-at : (size number begun : ℕ) (orders : List Order) (i : ℕ) (order : Order) → i < length orders → order ≡ get_or orders i order
    → first_bad size number begun (drop i orders)
    ≡ (if is_bad_load size begun order.actor order.kind then Some number
    else first_bad size (number + 1) (begun_behind begun order.actor order.kind) (drop (i + 1) orders))
first_bad-at size number begun orders i order near is =
    at_drop_more (first_bad size number begun) orders i order near
    ∙ ap (λ (o : Order). first_bad size number begun (o ∷ drop (i + 1) orders)) (sym is)

-- ---- records

-- one record more
pub looks_more : (done : List Order) (order : Order) (left : ℕ) (old mid new : WorldState) (left_then then_left : ℕ) (look look_then : Look)
    (deeds : List Deed) → TakesLook done left old mid left_then look look_then → 0 < left_then
    → DoesOrder order.actor order.kind left_then mid new then_left deeds
    → TakesLook (done ++ order ∷ []) left old new then_left look (look_behind look_then order.actor order.kind mid.words.items)
looks_more [] order left old mid new zero then_left look look_then deeds (same, all, kept) some does = absurd (omega (arith, some))
looks_more [] order left old mid new (suc n) then_left look look_then deeds (same, all, kept) some does =
    subst (λ (l : ℕ). TakesLook (order ∷ []) l old new then_left look (look_behind look_then order.actor order.kind mid.words.items)) all (
      new,
      then_left,
      deeds,
      subst (λ (b : WorldState). DoesOrder order.actor order.kind (suc n) b new then_left deeds) same does,
      (
        refl,
        refl,
        ap (λ (l : Look). look_behind l order.actor order.kind mid.words.items) kept
            ∙ ap (λ (w : WorldState). look_behind look order.actor order.kind w.words.items) same,
      ),
    )
looks_more (first ∷ done) order zero old mid new left_then then_left look look_then deeds (same, none_left, kept) some does =
    absurd (omega (arith, some, none_left))
looks_more (first ∷ done) order (suc left) old mid new left_then then_left look look_then deeds (b, n, its, did, rest) some does =
    (b, n, its, did, looks_more done order n b mid new left_then then_left (look_behind look first.actor first.kind old.words.items) look_then deeds rest some does)

-- if no event is left, later records do nothing
pub looks_no_more : (done rest : List Order) (left : ℕ) (old mid : WorldState) (look look_then : Look) → TakesLook done left old mid 0 look look_then
    → TakesLook (done ++ rest) left old mid 0 look look_then
looks_no_more [] [] left old mid look look_then looks = looks
looks_no_more [] (next ∷ rest) left old mid look look_then (same, all, kept) =
    subst (λ (l : ℕ). TakesLook (next ∷ rest) l old mid 0 look look_then) all (same, refl, kept)
looks_no_more (first ∷ done) rest zero old mid look look_then looks = looks
looks_no_more (first ∷ done) rest (suc left) old mid look look_then (b, n, its, did, later) =
    (b, n, its, did, looks_no_more done rest n b mid (look_behind look first.actor first.kind old.words.items) look_then later)

-- the next record is done too
pub looks_next : (orders : List Order) (i : ℕ) (order : Order) (left : ℕ) (old mid new : WorldState) (left_then then_left : ℕ) (look look_then : Look)
    (deeds : List Deed) → i < length orders → order ≡ get_or orders i order → TakesLook (take i orders) left old mid left_then look look_then → 0 < left_then
    → DoesOrder order.actor order.kind left_then mid new then_left deeds
    → TakesLook (take (i + 1) orders) left old new then_left look (look_behind look_then order.actor order.kind mid.words.items)
looks_next orders i order left old mid new left_then then_left look look_then deeds near is looks some does =
    subst (λ (l : List Order). TakesLook l left old new then_left look (look_behind look_then order.actor order.kind mid.words.items))
    (sym (take_more orders i order near ∙ ap (λ (o : Order). take i orders ++ o ∷ []) (sym is)))
    (looks_more (take i orders) order left old mid new left_then then_left look look_then deeds looks some does)

-- no event is left, so all is done
pub looks_all : (orders : List Order) (i left : ℕ) (old mid : WorldState) (then_left : ℕ) (look look_then : Look) → then_left ≡ 0
    → TakesLook (take i orders) left old mid then_left look look_then → TakesLook orders left old mid then_left look look_then
looks_all orders i left old mid then_left look look_then none looks =
    subst (λ (n : ℕ). TakesLook orders left old mid n look look_then) (sym none)
    (subst (λ (l : List Order). TakesLook l left old mid 0 look look_then) (take-append-drop i orders)
    (looks_no_more (take i orders) (drop i orders) left old mid look look_then
    (subst (λ (n : ℕ). TakesLook (take i orders) left old mid n look look_then) none looks)))
