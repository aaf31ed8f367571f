-- An event of an allocation leaves less of it.
use Rattle.std.proofs.Common.{◌≡◌, ◌≢◌, ℕ, ◌+◌, ◌-◌, ◌==◌, Bool, true, false, List, [], ◌∷◌, length, set, refl, sym, ap, subst, ◌∙◌, arith, length-set, eq-eqb}
use Rattle.std.specs.Prelude.{Some, bit_and, if◌then◌else◌}
use Rattle.std.proofs.Props.{props}
use Rattle.std.proofs.lemmas.Bool.{eqb-true}
use Rattle.std.proofs.lemmas.List.{get_or-set_same, get_or-set_other}
use lib.Seq.{set-get_or}
use Rattle.segment_image.specs.Words.{word_at}
use Rattle.alloc_core.specs.declared.planned.Planned.{Planned}
use Rattle.alloc_core.specs.declared.planned.Planned.TheVariants as plan
use Rattle.alloc_core.specs.declared.alloc.Purpose.{Purpose}
use Rattle.alloc_core.specs.declared.alloc.Purpose.TheVariants as purpose
use Rattle.alloc_core.specs.declared.alloc.AllocStage.{AllocStage}
use Rattle.alloc_core.specs.declared.alloc.AllocStage.TheVariants.{LoadFlags, LoadFree, ExchangeFree, StoreSize, StoreCookie, StoreType, SetFull, Claimed, Full, Corrupt}
use Rattle.alloc_core.specs.declared.alloc.AllocStep.{AllocStep}
use Rattle.alloc_core.specs.declared.alloc.AllocStep.TheVariants as said
use Rattle.alloc_core.specs.Event.{Access, load_flags, load_free, exchange_free, store_size, store_cookie, store_type, spot, after}
use Rattle.alloc_core.specs.Planned.{planned, is_pointer}
use Rattle.alloc_core.specs.Alloc.{Allocation, IsAimed, IsLawful, answer, cookie_of, event_at, moved, seen_after, stage_after, stage_of_plan}
use Rattle.alloc_core.specs.Alloc as alloc
use Rattle.hist_core.specs.Left.{alloc_left, is_less, room}
use Rattle.hist_core.proofs.Left.Less.{less_first, less_next}

-- ---- the room

-- another word than the free pointer is stored
pub room_beside : (words : List ℕ) (at v : ℕ) → 7 ≢ at → room (set words at v) ≡ room words
room_beside words at v apart =
    let long : length (set words at v) ≡ length words = length-set words at v in
    let same : word_at (set words at v) 7 ≡ word_at words 7 = get_or-set_other words at 7 v 0 apart in
    λ i. long i - same i

-- a word is loaded
pub room_loaded : (words : List ℕ) (at : ℕ) → room (set words at (word_at words at)) ≡ room words
room_loaded words at = ap room (set-get_or words at 0)

-- what holds at a stage holds in one way at most
pub aimed_one_way : (x : Allocation) (stage : AllocStage) → IsProp (IsAimed x stage)
aimed_one_way x LoadFlags = hlevel props
aimed_one_way x LoadFree = hlevel props
aimed_one_way x (ExchangeFree next purpose.Claim) = hlevel props
aimed_one_way x (ExchangeFree next purpose.Waste) = hlevel props
aimed_one_way x (StoreSize at size purpose.Claim) = hlevel props
aimed_one_way x (StoreSize at size purpose.Waste) = hlevel props
aimed_one_way x (StoreCookie at size purpose.Claim) = hlevel props
aimed_one_way x (StoreCookie at size purpose.Waste) = hlevel props
aimed_one_way x (StoreType at size) = hlevel props
aimed_one_way x SetFull = hlevel props
aimed_one_way x (Claimed at size) = hlevel props
aimed_one_way x Full = hlevel props
aimed_one_way x Corrupt = hlevel props

-- ---- an event

no_block : (b : Bool) (at : ℕ) → answer (if b then LoadFree else Corrupt) ≡ said.Done at → ⊥
no_block true at done = cc done
no_block false at done = cc done

no_block_planned : (b : Bool) (found : ℕ) (p : Planned) (at : ℕ) → answer (if b then stage_of_plan found p else Corrupt) ≡ said.Done at → ⊥
no_block_planned true found (plan.Claim size next) at done = cc done
no_block_planned true found (plan.Waste rest) at done = cc done
no_block_planned true found plan.Full at done = cc done
no_block_planned false found p at done = cc done

no_block_taken : (b : Bool) (found next : ℕ) (p : Purpose) (at : ℕ) → answer (if b then StoreSize found (next - found) p else LoadFlags) ≡ said.Done at → ⊥
no_block_taken true found next p at done = cc done
no_block_taken false found next p at done = cc done

module _ (words : List ℕ) (x : Allocation) (long : length words ≡ x.shape.size) where
  -- what is left after an event that found a number
  abbrev Left : Access → AllocStage → List ℕ
  Left event stage = room (after event words) ∷ alloc_left (after event words) (seen_after x (word_at words (spot event)) stage) (stage_after x (word_at words (spot event)) stage)

  -- it continues, with less left than before
  abbrev GoesOn : AllocStage → Access → Type 0
  GoesOn stage event = answer (stage_after x (word_at words (spot event)) stage) ≡ said.More → is_less (Left event stage) (room words ∷ alloc_left words x.seen stage) ≡ true

  flags : GoesOn LoadFlags load_flags
  flags more = by (bit_and (word_at words 6) 1 == 0) more
    where
      loaded : List ℕ
      loaded = set words 6 (word_at words 6)

      by : (b : Bool) → answer (if b then LoadFree else Corrupt) ≡ said.More
          → is_less (room (set words 6 (word_at words 6)) ∷ alloc_left (set words 6 (word_at words 6)) x.seen (if b then LoadFree else Corrupt)) (room words ∷ 1 ∷ 3 ∷ 0 ∷ []) ≡ true
      by true more = less_next (room (set words 6 (word_at words 6))) (room words) (1 ∷ 2 ∷ 0 ∷ []) (1 ∷ 3 ∷ 0 ∷ []) (room_loaded words 6) refl
      by false more = absurd (cc more)

  free : GoesOn LoadFree load_free
  free more = by (is_pointer x.shape (word_at words 7)) (planned (word_at words 7) x.size x.shape) more
    where
      fresh : (word_at (set words 7 (word_at words 7)) 7 == word_at words 7) ≡ true
      fresh = eq-eqb (word_at (set words 7 (word_at words 7)) 7) (word_at words 7) (ap (λ (l : List ℕ). word_at l 7) (set-get_or words 7 0))

      tries : (next : ℕ) (p : Purpose)
          → is_less (room (set words 7 (word_at words 7)) ∷ alloc_left (set words 7 (word_at words 7)) (word_at words 7) (ExchangeFree next p)) (room words ∷ 1 ∷ 2 ∷ 0 ∷ []) ≡ true
      tries next p = less_next (room (set words 7 (word_at words 7))) (room words)
          (1 ∷ (if word_at (set words 7 (word_at words 7)) 7 == word_at words 7 then 1 else 4) ∷ 0 ∷ []) (1 ∷ 2 ∷ 0 ∷ []) (room_loaded words 7)
          (subst (λ (b : Bool). is_less (1 ∷ (if b then 1 else 4) ∷ 0 ∷ []) (1 ∷ 2 ∷ 0 ∷ []) ≡ true) (sym fresh) refl)

      by : (b : Bool) (p : Planned) → answer (if b then stage_of_plan (word_at words 7) p else Corrupt) ≡ said.More
          → is_less (room (set words 7 (word_at words 7)) ∷ alloc_left (set words 7 (word_at words 7)) (word_at words 7) (if b then stage_of_plan (word_at words 7) p else Corrupt))
          (room words ∷ 1 ∷ 2 ∷ 0 ∷ []) ≡ true
      by true (plan.Claim size next) more = tries next purpose.Claim
      by true (plan.Waste rest) more = tries (word_at words 7 + rest) purpose.Waste
      by true plan.Full more = less_next (room (set words 7 (word_at words 7))) (room words) (1 ∷ 0 ∷ 0 ∷ []) (1 ∷ 2 ∷ 0 ∷ []) (room_loaded words 7) refl
      by false p more = absurd (cc more)

  exchanged : (next : ℕ) (p : Purpose) → IsAimed x (ExchangeFree next p) → GoesOn (ExchangeFree next p) (exchange_free x.seen next)
  exchanged next p (from, rise, suits) more = by (word_at words 7 == x.seen) refl
    where
      by : (b : Bool) → (word_at words 7 == x.seen) ≡ b
          → is_less (room (set words 7 (if b then next else word_at words 7))
          ∷ alloc_left (set words 7 (if b then next else word_at words 7)) x.seen (if b then StoreSize (word_at words 7) (next - word_at words 7) p else LoadFlags))
          (room words ∷ 1 ∷ (if b then 1 else 4) ∷ 0 ∷ []) ≡ true
      by true e =
          let here : word_at words 7 ≡ x.seen = eqb-true (word_at words 7) x.seen e in
          let five = rise.five in
          let within = rise.within in
          let then_long : length (set words 7 next) ≡ length words = length-set words 7 next in
          let now : word_at (set words 7 next) 7 ≡ next = get_or-set_same words 7 next 0 (omega (arith, from, five, within, long)) in
          less_first (room (set words 7 next)) (room words) (5 ∷ 2 ∷ 0 ∷ []) (1 ∷ 1 ∷ 0 ∷ []) (omega (arith, here, five, within, then_long, now, long, from))
      by false e = less_next (room (set words 7 (word_at words 7))) (room words) (1 ∷ 3 ∷ 0 ∷ []) (1 ∷ 4 ∷ 0 ∷ []) (room_loaded words 7) refl

  -- it does so
  goes_on : (stage : AllocStage) → IsAimed x stage → (event : Access) → event_at x stage ≡ Some event → GoesOn stage event
  goes_on LoadFlags aimed event next = let e : load_flags ≡ event = cc in subst (GoesOn LoadFlags) e flags
  goes_on LoadFree aimed event next = let e : load_free ≡ event = cc in subst (GoesOn LoadFree) e free
  goes_on (ExchangeFree to p) aimed event next = let e : exchange_free x.seen to ≡ event = cc in subst (GoesOn (ExchangeFree to p)) e (exchanged to p aimed)
  goes_on (StoreSize at size p) (from, rise, suits) event next =
      let e : store_size at size ≡ event = cc in
      subst (GoesOn (StoreSize at size p)) e
      (λ more. less_next (room (set words at size)) (room words) (5 ∷ 1 ∷ 0 ∷ []) (5 ∷ 2 ∷ 0 ∷ []) (room_beside words at size (λ same. omega (arith, from, same))) refl)
  goes_on (StoreCookie at size purpose.Claim) (from, rise, suits) event next =
      let e : store_cookie at (cookie_of purpose.Claim) ≡ event = cc in
      subst (GoesOn (StoreCookie at size purpose.Claim)) e
      (λ more. less_next (room (set words (at + 1) (cookie_of purpose.Claim))) (room words) (5 ∷ 0 ∷ 0 ∷ []) (5 ∷ 1 ∷ 0 ∷ [])
      (room_beside words (at + 1) (cookie_of purpose.Claim) (λ same. omega (arith, from, same))) refl)
  goes_on (StoreCookie at size purpose.Waste) (from, rise, suits) event next =
      let e : store_cookie at (cookie_of purpose.Waste) ≡ event = cc in
      subst (GoesOn (StoreCookie at size purpose.Waste)) e
      (λ more. less_next (room (set words (at + 1) (cookie_of purpose.Waste))) (room words) (1 ∷ 3 ∷ 0 ∷ []) (5 ∷ 1 ∷ 0 ∷ [])
      (room_beside words (at + 1) (cookie_of purpose.Waste) (λ same. omega (arith, from, same))) refl)
  goes_on (StoreType at size) aimed event next = λ more. absurd (cc more)
  goes_on SetFull aimed event next = λ more. absurd (cc more)
  goes_on (Claimed at size) aimed event next = absurd (cc next)
  goes_on Full aimed event next = absurd (cc next)
  goes_on Corrupt aimed event next = absurd (cc next)

  -- once it has its block, a fourth part is left
  has_block : (stage : AllocStage) → IsAimed x stage → (event : Access) → event_at x stage ≡ Some event → (block : ℕ)
      → answer (stage_after x (word_at words (spot event)) stage) ≡ said.Done block → (rest : List ℕ)
      → is_less (room (after event words) ∷ 4 ∷ rest) (room words ∷ alloc_left words x.seen stage) ≡ true
  has_block (StoreType at size) (from, rise, suits) event next block done rest =
      let e : store_type at x.tag ≡ event = cc in
      subst (λ (ev : Access). is_less (room (after ev words) ∷ 4 ∷ rest) (room words ∷ 5 ∷ 0 ∷ 0 ∷ []) ≡ true) e
      (less_next (room (set words (at + 2) x.tag)) (room words) (4 ∷ rest) (5 ∷ 0 ∷ 0 ∷ []) (room_beside words (at + 2) x.tag (λ same. omega (arith, from, same))) refl)
  has_block LoadFlags aimed event next block done rest = absurd (no_block (bit_and (word_at words (spot event)) 1 == 0) block done)
  has_block LoadFree aimed event next block done rest =
      absurd (no_block_planned (is_pointer x.shape (word_at words (spot event))) (word_at words (spot event)) (planned (word_at words (spot event)) x.size x.shape) block done)
  has_block (ExchangeFree to p) aimed event next block done rest = absurd (no_block_taken (word_at words (spot event) == x.seen) (word_at words (spot event)) to p block done)
  has_block (StoreSize at size p) aimed event next block done rest = absurd (cc done)
  has_block (StoreCookie at size purpose.Claim) aimed event next block done rest = absurd (cc done)
  has_block (StoreCookie at size purpose.Waste) aimed event next block done rest = absurd (cc done)
  has_block SetFull aimed event next block done rest = absurd (cc done)
  has_block (Claimed at size) aimed event next block done rest = absurd (cc next)
  has_block Full aimed event next block done rest = absurd (cc next)
  has_block Corrupt aimed event next block done rest = absurd (cc next)

  module _ (lawful : IsLawful x) (y : Allocation) (new_words : List ℕ) (says : AllocStep) (step : alloc.IsStep x words y new_words says) where
    -- a step after which it continues
    pub less_on : says ≡ said.More → is_less (room new_words ∷ alloc_left new_words y.seen y.stage) (room words ∷ alloc_left words x.seen x.stage) ≡ true
    less_on more =
        subst (λ (p : List ℕ × Allocation). is_less (room p.0 ∷ alloc_left p.0 p.1.seen p.1.stage) (room words ∷ alloc_left words x.seen x.stage) ≡ true)
        (λ i. (sym step.words_are i, sym step.new_is i))
        (goes_on x.stage lawful.aimed step.event step.next (ap (λ (z : Allocation). answer z.stage) (sym step.new_is) ∙ (sym step.answers ∙ more)))

    -- a step after which it has its block
    pub less_then : (block : ℕ) → says ≡ said.Done block → (rest : List ℕ) → is_less (room new_words ∷ 4 ∷ rest) (room words ∷ alloc_left words x.seen x.stage) ≡ true
    less_then block done rest =
        subst (λ (l : List ℕ). is_less (room l ∷ 4 ∷ rest) (room words ∷ alloc_left words x.seen x.stage) ≡ true) (sym step.words_are)
        (has_block x.stage lawful.aimed step.event step.next block (ap (λ (z : Allocation). answer z.stage) (sym step.new_is) ∙ (sym step.answers ∙ done)) rest)
