-- Each event of each allocation keeps the allocation invariant.
use Rattle.std.proofs.Common.{◌≡◌, ◌≢◌, ℕ, ◌+◌, ◌-◌, ◌/◌, ◌%◌, ◌<◌, ◌≤◌, ◌==◌, eq-eqb, ne_eqb, Bool, true, false, List, [], ◌∷◌, ◌++◌, length, replicate, set, inl, inr, ⊎_elim, sym, refl, ap, ◌∙◌, subst, arith, length-set}
use Rattle.std.specs.Prelude.{bit_and, if◌then◌else◌, Some, Result, Ok, Err, max, nat_lt}
use Rattle.std.proofs.lemmas.List.{length-replicate}
use mathlib.Core.Logic.{dite}
use mathlib.Core.Option.{some, some-ne-none}
use native.Mathlib.Decide.{ℕ_discrete}
use lib.ListN.{get_elem?}
use Rattle.atomic_table.proofs.Lists.{at_set, at_snoc, set_again}
use Rattle.segment_image.specs.Shape.{Dimensions}
use Rattle.segment_image.specs.Words.{word_at}
use Rattle.alloc_core.specs.declared.alloc.Purpose.{Purpose}
use Rattle.alloc_core.specs.declared.alloc.Purpose.TheVariants as purpose
use Rattle.alloc_core.specs.declared.alloc.AllocStage.{AllocStage}
use Rattle.alloc_core.specs.declared.alloc.AllocStage.TheVariants.{LoadFlags, LoadFree, ExchangeFree, StoreSize, StoreCookie, StoreType, SetFull, Claimed, Full, Corrupt}
use Rattle.alloc_core.specs.declared.alloc.TooLarge.{TooLarge}
use Rattle.alloc_core.specs.declared.planned.Planned.{Planned}
use Rattle.alloc_core.specs.declared.planned.Planned.TheVariants as plan
use Rattle.alloc_core.specs.Layout.{queue_block, Block, Layout, free_of, render, IsShown, IsAmong, put, raw_block, grown}
use Rattle.alloc_core.specs.Planned.{planned, is_pointer}
use Rattle.alloc_core.specs.Event.{Access, load_flags, load_free, exchange_free, store_size, store_cookie, store_type, store_payload, set_flag, spot, after}
use Rattle.alloc_core.specs.Alloc.{Allocation, cookie_of, stage_of_plan, stage_of_cookie, stage_after, seen_after, event_at, first_of, started, IsRise, IsAimed, IsLawful}
use Rattle.alloc_core.specs.Laws.{Behind, own, claimed_words, Has, AllocationFits, Keeps, IsListWord, IsImageWord, Leaves}
use Rattle.alloc_core.specs.Layout.{IsShape}
use Rattle.std.proofs.Math.Nat.{le-max_right, max-le}
use Rattle.std.proofs.lemmas.Bool.{cases_order, ltb-false}
use Rattle.alloc_core.proofs.Lawful.{moved_lawful}
use Rattle.alloc_core.proofs.Flags.{word_of_flags}
use Rattle.alloc_core.proofs.Layouts.{headed, shown_headed, flags_put, shown_tail, shown_queue, free_word, free_from, free_grown, free_put}
use Rattle.alloc_core.proofs.EventKinds.{corrupt_set, full_set, sized, marked, length-sized, length-marked, length-claimed, flags_loaded, free_loaded, free_kept, free_exchanged, size_stored, cookie_stored, type_stored, behind_stored}
use Rattle.alloc_core.proofs.Owners.{among_put, among_else, among_longer, among_last, has_else, has_longer, has_beside_queue}

Behind-le : (m n : ℕ) → Behind m n → m ≤ n
Behind-le m n b = ⊎_elim (λ (e : m ≡ n). let h : m ≤ n = omega arith in h) (λ (e : m + 5 ≤ n). let h : m ≤ n = omega arith in h) b

module _ (shape : Dimensions) (words : List ℕ) (allocations : List Allocation) (owner : ℕ) (a : Allocation)
    (keeps : Keeps shape words allocations) (mine : get_elem? allocations owner ≡ some a) where
  fits : AllocationFits shape keeps.layout owner a
  fits = keeps.each owner a mine

  -- what the words become, and the allocations become, keeps what holds, and leaves the blocks that nobody owns
  abbrev GoesTo : List ℕ → List Allocation → Type 0
  GoesTo words' allocations' = (later : Keeps shape words' allocations') × Leaves keeps.layout later.layout

  abbrev Goes : List ℕ → Allocation → Type 0
  Goes words' a' = GoesTo words' (set allocations owner a')

  -- if the others fit as they are
  goes : (words' : List ℕ) (layout' : Layout) (a' : Allocation) → IsShown shape words' layout' → AllocationFits shape layout' owner a'
      → ((j : ℕ) (x : Allocation) → j ≢ owner → AllocationFits shape keeps.layout j x → AllocationFits shape layout' j x) → Leaves keeps.layout layout' → Goes words' a'
  goes words' layout' a' shown fits' others leaves = (
    record {
      layout = layout';
      shown = shown;
      each = λ j x there. ⊎_elim
          (λ (t : (j ≡ owner) × (a' ≡ x)). subst (λ (y : ℕ × Allocation). AllocationFits shape layout' y.0 y.1) (λ i. (sym t.0 i, t.1 i)) fits')
          (λ (t : (j ≢ owner) × (get_elem? allocations j ≡ some x)). others j x t.0 (keeps.each j x t.1))
          (at_set allocations owner j a' x there);
    },
    leaves,
  )

  -- if no word changes
  stays : (words' : List ℕ) (a' : Allocation) → words' ≡ words → AllocationFits shape keeps.layout owner a' → Goes words' a'
  stays words' a' same fits' =
      goes words' keeps.layout a' (subst (λ (ws : List ℕ). IsShown shape ws keeps.layout) (sym same) keeps.shown) fits' (λ _ _ _ f. f) (λ b among nobody. among)

  -- what the allocation is after an event at a stage
  abbrev at_stage : ℕ → AllocStage → Allocation
  at_stage found stage = record a { seen = seen_after a found stage; stage = stage_after a found stage }

  lawful_at : (found : ℕ) (stage : AllocStage) → a.stage ≡ stage → IsLawful (at_stage found stage)
  lawful_at found stage e = subst (λ (s : AllocStage). IsLawful (at_stage found s)) e (moved_lawful a found fits.lawful)

  pub aimed_at : (stage : AllocStage) → a.stage ≡ stage → IsAimed a stage
  aimed_at stage e = subst (IsAimed a) e fits.lawful.aimed

  pub has_at : (stage : AllocStage) → a.stage ≡ stage → Has keeps.layout.blocks owner stage
  has_at stage e = subst (Has keeps.layout.blocks owner) e fits.has

  has_flags : (clear : Bool) → Has keeps.layout.blocks owner (if clear then LoadFree else Corrupt)
  has_flags true = tt
  has_flags false = tt

  loads_flags : a.stage ≡ LoadFlags → Goes (after load_flags words) (at_stage (word_at words 6) LoadFlags)
  loads_flags e =
      let found : ℕ = word_at words 6 in
      stays (after load_flags words) (at_stage found LoadFlags) (flags_loaded words) record {
        shaped = fits.shaped;
        lawful = lawful_at found LoadFlags e;
        behind = fits.behind;
        has = has_flags (bit_and found 1 == 0);
      }

  has_tried : (found : ℕ) (good : Bool) (p : Planned) → Has keeps.layout.blocks owner (if good then stage_of_plan found p else Corrupt)
  has_tried found true (plan.Claim size next) = tt
  has_tried found true (plan.Waste room) = tt
  has_tried found true plan.Full = tt
  has_tried found false p = tt

  loads_free : a.stage ≡ LoadFree → Goes (after load_free words) (at_stage (word_at words 7) LoadFree)
  loads_free e =
      let found : ℕ = word_at words 7 in
      stays (after load_free words) (at_stage found LoadFree) (free_loaded words) record {
        shaped = fits.shaped;
        lawful = lawful_at found LoadFree e;
        behind = inl (free_word shape words keeps.layout keeps.shown);
        has = has_tried found (is_pointer a.shape found) (planned found a.size a.shape);
      }

  -- an exchange that went through
  hits : (next : ℕ) (purpose : Purpose) (found : ℕ) → found ≡ word_at words 7 → found ≡ a.seen → IsRise shape a.seen next
      → IsLawful (record a { stage = StoreSize found (next - found) purpose })
      → Goes (after (exchange_free a.seen next) words) (record a { stage = StoreSize found (next - found) purpose })
  hits next purpose found read same up lawful =
      let n : ℕ = next - a.seen in
      let five = up.five in
      let is : found ≡ free_of keeps.layout = read ∙ free_word shape words keeps.layout keeps.shown in
      let end : free_of (grown keeps.layout owner n) ≡ next = omega (arith, free_grown keeps.layout owner n, is, same, five) in
      goes (after (exchange_free a.seen next) words) (grown keeps.layout owner n) (record a { stage = StoreSize found (next - found) purpose })
      (free_exchanged shape words keeps.layout owner a.seen next keeps.shown (sym read ∙ same) up)
      record {
        shaped = fits.shaped;
        lawful = lawful;
        behind = inr (omega (arith, end, five));
        has = subst (λ (m : ℕ × ℕ). IsAmong (grown keeps.layout owner n).blocks (own owner m.0 (replicate (next - m.1) 0))) (λ i. (sym is i, sym same i))
            (among_last keeps.layout.blocks (raw_block (free_of keeps.layout) owner n));
      }
      (λ j x ne f. record {
        shaped = f.shaped;
        lawful = f.lawful;
        behind = inr (omega (arith, Behind-le x.seen (free_of keeps.layout) f.behind, end, is, same, five));
        has = has_longer keeps.layout.blocks (raw_block (free_of keeps.layout) owner n) j x.stage f.has;
      })
      (λ b among nobody. among_longer keeps.layout.blocks (raw_block (free_of keeps.layout) owner n) b among)

  exchanges : (next : ℕ) (purpose : Purpose) → a.stage ≡ ExchangeFree next purpose
      → Goes (after (exchange_free a.seen next) words) (at_stage (word_at words 7) (ExchangeFree next purpose))
  exchanges next purpose e =
      let found : ℕ = word_at words 7 in
      let stage_by : Bool → AllocStage = λ b. if b then StoreSize found (next - found) purpose else LoadFlags in
      let law : IsLawful (record a { stage = stage_by (found == a.seen) }) = lawful_at found (ExchangeFree next purpose) e in
      let up : IsRise shape a.seen next = subst (λ (s : Dimensions). IsRise s a.seen next) fits.shaped (aimed_at (ExchangeFree next purpose) e).1 in
      let ends : Bool → Type 0 = λ b. Goes (after (exchange_free a.seen next) words) (record a { stage = stage_by b }) in
      dite (ℕ_discrete found a.seen)
      (λ same. let hit = eq-eqb found a.seen same in
      subst ends (sym hit) (hits next purpose found refl same up (subst (λ (b : Bool). IsLawful (record a { stage = stage_by b })) hit law)))
      (λ other. let miss = ne_eqb found a.seen other in
      subst ends (sym miss) (stays (after (exchange_free a.seen next) words) (record a { stage = LoadFlags }) (free_kept words a.seen next other) record {
        shaped = fits.shaped;
        lawful = subst (λ (b : Bool). IsLawful (record a { stage = stage_by b })) miss law;
        behind = fits.behind;
        has = tt;
      }))

  -- a store into the allocation's own block, from one list of words to another
  own_store : (at k : ℕ) (ws ws' words' : List ℕ) (stage : AllocStage) → get_elem? keeps.layout.blocks k ≡ some (own owner at ws)
      → length ws' ≡ length ws → IsShown shape words' (put keeps.layout k (own owner at ws')) → IsLawful (record a { stage = stage })
      → ((blocks : List Block) → IsAmong blocks (own owner at ws') → Has blocks owner stage) → Goes words' (record a { stage = stage })
  own_store at k ws ws' words' stage there long shown lawful has =
      let b : Block = own owner at ws in
      let b' : Block = own owner at ws' in
      let ends : free_of (put keeps.layout k b') ≡ free_of keeps.layout = free_put keeps.layout k b b' there long in
      goes words' (put keeps.layout k b') (record a { stage = stage }) shown
      record {
        shaped = fits.shaped;
        lawful = lawful;
        behind = subst (Behind a.seen) (sym ends) fits.behind;
        has = has (set keeps.layout.blocks k b') (among_put keeps.layout.blocks k b b' there);
      }
      (λ y x ne f. record {
        shaped = f.shaped;
        lawful = f.lawful;
        behind = subst (Behind x.seen) (sym ends) f.behind;
        has = has_else keeps.layout.blocks k b b' owner y there refl ne x.stage f.has;
      })
      (λ c among nobody. among_else keeps.layout.blocks k b b' c there (λ e. some-ne-none owner (sym e ∙ nobody)) among)

  stores_size : (at size : ℕ) (purpose : Purpose) → a.stage ≡ StoreSize at size purpose
      → Goes (after (store_size at size) words) (at_stage (word_at words at) (StoreSize at size purpose))
  stores_size at size purpose e =
      let (k, there) = has_at (StoreSize at size purpose) e in
      let five : 5 ≤ size = let h = (aimed_at (StoreSize at size purpose) e).1.five in omega (arith, h) in
      own_store at k (replicate size 0) (sized size) (after (store_size at size) words) (StoreCookie at size purpose) there
      (omega (arith, length-replicate {A = ℕ} size 0, length-sized size five))
      (size_stored shape words keeps.layout owner at size k keeps.shown there five)
      (lawful_at 0 (StoreSize at size purpose) e) (λ blocks among. among)

  -- the stage after the cookie of a claim has the block, and that after a waste nothing
  has_cookie : (at size : ℕ) (purpose : Purpose) (blocks : List Block) → IsAmong blocks (own owner at (marked size (cookie_of purpose)))
      → Has blocks owner (stage_of_cookie at size purpose)
  has_cookie at size purpose.Claim blocks among = among
  has_cookie at size purpose.Waste blocks among = tt

  stores_cookie : (at size : ℕ) (purpose : Purpose) → a.stage ≡ StoreCookie at size purpose
      → Goes (after (store_cookie at (cookie_of purpose)) words) (at_stage (word_at words (at + 1)) (StoreCookie at size purpose))
  stores_cookie at size purpose e =
      let (k, there) = has_at (StoreCookie at size purpose) e in
      let five : 5 ≤ size = let h = (aimed_at (StoreCookie at size purpose) e).1.five in omega (arith, h) in
      let cookie : ℕ = cookie_of purpose in
      own_store at k (sized size) (marked size cookie) (after (store_cookie at cookie) words) (stage_of_cookie at size purpose) there
      (omega (arith, length-sized size five, length-marked size cookie five))
      (cookie_stored shape words keeps.layout owner at size cookie k keeps.shown there five)
      (lawful_at 0 (StoreCookie at size purpose) e) (has_cookie at size purpose)

  stores_type : (at size : ℕ) → a.stage ≡ StoreType at size
      → Goes (after (store_type at a.tag) words) (at_stage (word_at words (at + 2)) (StoreType at size))
  stores_type at size e =
      let (k, there) = has_at (StoreType at size) e in
      let five : 5 ≤ size = let h = (aimed_at (StoreType at size) e).1.five in omega (arith, h) in
      own_store at k (marked size 0xC8799269) (claimed_words size a.tag) (after (store_type at a.tag) words) (Claimed at size) there
      (omega (arith, length-marked size 0xC8799269 five, length-claimed size a.tag five))
      (type_stored shape words keeps.layout owner at size a.tag k keeps.shown there five)
      (lawful_at 0 (StoreType at size) e)
      (λ blocks among. (a.tag ∷ replicate (size - 3) 0, omega (arith, length-claimed size a.tag five), among))

  sets_full : a.stage ≡ SetFull → Goes (after (set_flag 2) words) (at_stage (word_at words 6) SetFull)
  sets_full e =
      goes (after (set_flag 2) words) (record keeps.layout { full = true }) (at_stage (word_at words 6) SetFull)
      (full_set shape words keeps.layout keeps.shown)
      record { shaped = fits.shaped; lawful = lawful_at (word_at words 6) SetFull e; behind = fits.behind; has = tt }
      (λ _ _ _ f. record { shaped = f.shaped; lawful = f.lawful; behind = f.behind; has = f.has })
      (λ b among nobody. among)

  by : (stage : AllocStage) (event other : Access) → event ≡ other → Goes (after event words) (at_stage (word_at words (spot event)) stage)
      → Goes (after other words) (at_stage (word_at words (spot other)) stage)
  by stage event other same = subst (λ (v : Access). Goes (after v words) (at_stage (word_at words (spot v)) stage)) same

  -- whatever the next event is
  pub step_keeps : (stage : AllocStage) (event : Access) → a.stage ≡ stage → event_at a stage ≡ Some event
      → Goes (after event words) (at_stage (word_at words (spot event)) stage)
  step_keeps LoadFlags event e is = by LoadFlags load_flags event (cc is) (loads_flags e)
  step_keeps LoadFree event e is = by LoadFree load_free event (cc is) (loads_free e)
  step_keeps (ExchangeFree next purpose) event e is =
      by (ExchangeFree next purpose) (exchange_free a.seen next) event (cc is) (exchanges next purpose e)
  step_keeps (StoreSize at size purpose) event e is =
      by (StoreSize at size purpose) (store_size at size) event (cc is) (stores_size at size purpose e)
  step_keeps (StoreCookie at size purpose) event e is =
      by (StoreCookie at size purpose) (store_cookie at (cookie_of purpose)) event (cc is) (stores_cookie at size purpose e)
  step_keeps (StoreType at size) event e is = by (StoreType at size) (store_type at a.tag) event (cc is) (stores_type at size e)
  step_keeps SetFull event e is = by SetFull (set_flag 2) event (cc is) (sets_full e)
  step_keeps (Claimed at size) event e is = absurd (cc is)
  step_keeps Full event e is = absurd (cc is)
  step_keeps Corrupt event e is = absurd (cc is)

  -- a store into the allocation's claimed block, after its size and its cookie
  pub behind_keeps : (at size index v : ℕ) → a.stage ≡ Claimed at size → 2 + index < size → GoesTo (set words (at + (2 + index)) v) allocations
  behind_keeps at size index v e lt =
      let (behind, long, (k, there)) = has_at (Claimed at size) e in
      let stored : List ℕ = set behind index v in
      let same : set allocations owner (record a { stage = Claimed at size }) ≡ allocations =
      ap (λ (s : AllocStage). set allocations owner (record a { stage = s })) (sym e) ∙ set_again allocations owner a mine in
      subst (GoesTo (set words (at + (2 + index)) v)) same
      (own_store at k (size ∷ 0xC8799269 ∷ behind) (size ∷ 0xC8799269 ∷ stored) (set words (at + (2 + index)) v) (Claimed at size) there
      (omega (arith, length-set behind index v))
      (behind_stored shape words keeps.layout owner at size 0xC8799269 index v behind k keeps.shown there (omega (arith, long, lt)))
      (subst (λ (s : AllocStage). IsLawful (record a { stage = s })) e fits.lawful)
      (λ blocks among. (stored, omega (arith, long, length-set behind index v), among)))

  -- and into its payload
  pub fill_keeps : (at size index v : ℕ) → a.stage ≡ Claimed at size → 4 + index < size → GoesTo (after (store_payload at index v) words) allocations
  fill_keeps at size index v e lt =
      let place : at + (2 + (2 + index)) ≡ at + (4 + index) = omega arith in
      subst (λ (i : ℕ). GoesTo (set words i v) allocations) place (behind_keeps at size (2 + index) v e (omega (arith, lt)))

-- the words become those of a layout with another header
module _ (shape : Dimensions) (words : List ℕ) (allocations : List Allocation) (keeps : Keeps shape words allocations) where
  abbrev l : Layout
  l = keeps.layout

  beside : (words' : List ℕ) (version id : ℕ) (corrupt full : Bool) (other_flags tail : ℕ) (reserved : ℕ × ℕ × ℕ)
      → words' ≡ render shape (headed l version id corrupt full other_flags tail reserved) → Keeps shape words' allocations
  beside words' version id corrupt full other_flags tail reserved shows = record {
    layout = headed l version id corrupt full other_flags tail reserved;
    shown = shown_headed shape words words' l version id corrupt full other_flags tail reserved keeps.shown shows;
    each = λ owner a there. let f = keeps.each owner a there in record { shaped = f.shaped; lawful = f.lawful; behind = f.behind; has = f.has };
  }

  -- somebody sets the corrupt flag
  pub corrupt_keeps : (later : Keeps shape (after (set_flag 1) words) allocations) × Leaves l later.layout
  unfolding beside
  corrupt_keeps = (
    beside (after (set_flag 1) words) l.version l.id true l.full l.other_flags l.tail l.reserved (corrupt_set shape words l keeps.shown).shows,
    λ b among nobody. among,
  )

  -- another tail
  tail_keeps : (v : ℕ) → Keeps shape (set words 8 v) allocations
  tail_keeps v =
      beside (set words 8 v) l.version l.id l.corrupt l.full l.other_flags v l.reserved (shown_tail shape words l v keeps.shown).shows

  -- a word that may be another in an image
  pub image_word_keeps : (at v : ℕ) → IsImageWord at → Keeps shape (set words at v) allocations
  image_word_keeps at v (inl version) =
      subst (λ i. Keeps shape (set words i v) allocations) (sym version)
      (beside (set words 1 v) v l.id l.corrupt l.full l.other_flags l.tail l.reserved (ap (λ ws. set ws 1 v) keeps.shown.shows))
  image_word_keeps at v (inr (inl id)) =
      subst (λ i. Keeps shape (set words i v) allocations) (sym id)
      (beside (set words 4 v) l.version v l.corrupt l.full l.other_flags l.tail l.reserved (ap (λ ws. set ws 4 v) keeps.shown.shows))
  image_word_keeps at v (inr (inr (inl flags))) =
      subst (λ i. Keeps shape (set words i v) allocations) (sym flags)
      (beside (set words 6 v) l.version l.id (v % 2 == 1) (v / 2 % 2 == 1) (v / 4) l.tail l.reserved
      (flags_put shape words l v _ keeps.shown (sym (word_of_flags v))))
  image_word_keeps at v (inr (inr (inr (behind, before)))) = elim (cases_order at 10) [
    | inl ten ↦ subst (λ i. Keeps shape (set words i v) allocations) (sym ten)
        (beside (set words 10 v) l.version l.id l.corrupt l.full l.other_flags l.tail (l.reserved.0, v, l.reserved.2) (ap (λ ws. set ws 10 v) keeps.shown.shows))
    | inr other ↦ elim other [
      | inl below ↦ subst (λ i. Keeps shape (set words i v) allocations) (let nine : 9 ≡ at = omega (arith, behind, below) in nine)
          (beside (set words 9 v) l.version l.id l.corrupt l.full l.other_flags l.tail (v, l.reserved.1, l.reserved.2) (ap (λ ws. set ws 9 v) keeps.shown.shows))
      | inr above ↦ subst (λ i. Keeps shape (set words i v) allocations) (let eleven : 11 ≡ at = omega (arith, before, above) in eleven)
          (beside (set words 11 v) l.version l.id l.corrupt l.full l.other_flags l.tail (l.reserved.0, l.reserved.1, v) (ap (λ ws. set ws 11 v) keeps.shown.shows))
    ]
  ]

-- what an allocation is at its start
started_fits : (shape : Dimensions) (layout : Layout) (owner payload tag : ℕ) (a : Allocation) (over : Bool) → nat_lt shape.page (payload + 4) ≡ over
    → if◌then◌else◌ {A = Result Allocation TooLarge} over (Err (record {})) (Ok (first_of shape payload tag)) ≡ Ok a
    → IsShape shape → 16 ≤ free_of layout → AllocationFits shape layout owner a
started_fits shape layout owner payload tag a true over is lawful from = absurd (cc is)
started_fits shape layout owner payload tag a false over is lawful from =
    let fits = ltb-false shape.page (payload + 4) over in
    let wide = lawful.wide in
    let least : 1 ≤ max payload 1 = le-max_right payload 1 in
    let most : max payload 1 ≤ shape.page - 4 = max-le (omega (arith, fits)) (omega (arith, wide)) in
    let same : first_of shape payload tag ≡ a = cc is in
    subst (AllocationFits shape layout owner) same (record {
      shaped = refl;
      lawful = record { shaped = lawful; least = omega (arith, least); most = omega (arith, most, wide); aimed = tt };
      behind = inr (omega (arith, from));
      has = tt;
    })

-- an allocation begins
pub start_keeps : (shape : Dimensions) (words : List ℕ) (allocations : List Allocation) (payload tag : ℕ) (a : Allocation)
    → started shape payload tag ≡ Ok a → (keeps : Keeps shape words allocations)
    → (later : Keeps shape words (allocations ++ a ∷ [])) × Leaves keeps.layout later.layout
start_keeps shape words allocations payload tag a is keeps = (
  record {
    layout = keeps.layout;
    shown = keeps.shown;
    each = λ owner x there. ⊎_elim
        (λ old. keeps.each owner x old)
        (λ (same : a ≡ x). subst (AllocationFits shape keeps.layout owner) same
        (started_fits shape keeps.layout owner payload tag a (nat_lt shape.page (payload + 4)) refl is keeps.shown.sound.lawful
        (free_from shape words keeps.layout keeps.shown)))
        (at_snoc allocations a x owner there);
  },
  λ b among nobody. among,
)

-- a word of the list is stored
pub list_keeps : (shape : Dimensions) (words : List ℕ) (allocations : List Allocation) (at v : ℕ) → IsListWord allocations at
    → Keeps shape words allocations → Keeps shape (set words at v) allocations
list_keeps shape words allocations at v (inl tail) keeps =
    subst (λ (i : ℕ). Keeps shape (set words i v) allocations) (sym tail) (tail_keeps shape words allocations keeps v)
list_keeps shape words allocations at v (inr (inl queue)) keeps =
    let old : Block = queue_block keeps.shown.sound.queue.0 in
    let here = keeps.shown.sound.queue.1 in
    let ends : free_of (put keeps.layout 0 (queue_block v)) ≡ free_of keeps.layout = free_put keeps.layout 0 old (queue_block v) here refl in
    subst (λ (i : ℕ). Keeps shape (set words i v) allocations) (sym queue) record {
      layout = put keeps.layout 0 (queue_block v);
      shown = shown_queue shape words keeps.layout v keeps.shown;
      each = λ owner a there. let f = keeps.each owner a there in record {
        shaped = f.shaped;
        lawful = f.lawful;
        behind = subst (Behind a.seen) (sym ends) f.behind;
        has = has_beside_queue keeps.layout.blocks keeps.shown.sound.queue.0 v owner here a.stage f.has;
      };
    }
list_keeps shape words allocations at v (inr (inr (reference, (owner, a, size, mine, stage), place))) keeps =
    let five = (subst (IsAimed a) stage (keeps.each owner a mine).lawful.aimed).five in
    let there : at ≡ reference + (2 + 1) = omega arith in
    subst (λ (i : ℕ). Keeps shape (set words i v) allocations) (sym there)
    (behind_keeps shape words allocations owner a keeps mine reference size 1 v stage (omega (arith, five))).0
