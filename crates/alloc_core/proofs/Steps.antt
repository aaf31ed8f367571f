-- What a step says, and what the words are then.
use Rattle.std.proofs.Common.{◌≡◌, ◌≢◌, ◌⊎◌, ℕ, ◌+◌, ◌-◌, ◌%◌, ◌<◌, ◌≤◌, ◌==◌, Bool, true, false, List, ◌∷◌, length, replicate, set, take, drop, inl, inr, sym, refl, ap, ◌∙◌, subst, arith}
use Rattle.std.specs.Prelude.{bit_and, if◌then◌else◌, Option, Some, None, is_some, IfSome}
use Rattle.std.proofs.lemmas.List.{length-replicate}
use Rattle.std.proofs.lemmas.Bool.{eq-eqb}
use mathlib.Core.Option.{some, some-injective}
use lib.ListN.{get_elem?}
use Rattle.segment_image.specs.Shape.{Dimensions}
use Rattle.segment_image.specs.Words.{word_at}
use Rattle.alloc_core.specs.declared.alloc.AllocStep.{AllocStep}
use Rattle.alloc_core.specs.declared.alloc.AllocStep.TheVariants as said
use Rattle.alloc_core.specs.declared.alloc.Purpose.{Purpose}
use Rattle.alloc_core.specs.declared.alloc.Purpose.TheVariants as purpose
use Rattle.alloc_core.specs.declared.alloc.AllocStage.{AllocStage}
use Rattle.alloc_core.specs.declared.alloc.AllocStage.TheVariants.{LoadFlags, LoadFree, ExchangeFree, StoreSize, StoreCookie, StoreType, SetFull, Claimed, Full, Corrupt}
use Rattle.alloc_core.specs.declared.planned.Planned.{Planned}
use Rattle.alloc_core.specs.declared.planned.Planned.TheVariants as plan
use Rattle.alloc_core.specs.Layout.{Block, extent, Layout, IsAmong, put}
use Rattle.alloc_core.specs.Planned.{planned, is_pointer}
use Rattle.alloc_core.specs.Event.{Access, load_flags, load_free, store_type, spot, after}
use Rattle.alloc_core.specs.Alloc.{Allocation, stage_of_plan, stage_of_cookie, stage_after, event_at, next_event, moved, answer, IsStep, IsCorruptBy, IsAimed, IsLawful}
use Rattle.alloc_core.specs.Laws.{own, claimed_words, Has, Keeps, taken, Apart, IsNewBlock}
use Rattle.std.proofs.lemmas.Bool.{cases_order}
use Rattle.alloc_core.specs.Layout.{IsLaid}
use Rattle.alloc_core.proofs.Layouts.{apart, ends_within, free_word, slice_shown}
use Rattle.alloc_core.proofs.Owners.{set_at}
use Rattle.alloc_core.proofs.Keeping.{step_keeps, aimed_at, has_at}
use Rattle.alloc_core.proofs.EventKinds.{marked, length-marked, length-claimed, type_stored}

-- what each answer says of the stage
full_stage : (stage : AllocStage) → answer stage ≡ said.Full → stage ≡ Full
full_stage LoadFlags e = absurd (cc e)
full_stage LoadFree e = absurd (cc e)
full_stage (ExchangeFree next purpose) e = absurd (cc e)
full_stage (StoreSize at size purpose) e = absurd (cc e)
full_stage (StoreCookie at size purpose) e = absurd (cc e)
full_stage (StoreType at size) e = absurd (cc e)
full_stage SetFull e = absurd (cc e)
full_stage (Claimed at size) e = absurd (cc e)
full_stage Full e = refl
full_stage Corrupt e = absurd (cc e)

corrupt_stage : (stage : AllocStage) → answer stage ≡ said.Corrupt → stage ≡ Corrupt
corrupt_stage LoadFlags e = absurd (cc e)
corrupt_stage LoadFree e = absurd (cc e)
corrupt_stage (ExchangeFree next purpose) e = absurd (cc e)
corrupt_stage (StoreSize at size purpose) e = absurd (cc e)
corrupt_stage (StoreCookie at size purpose) e = absurd (cc e)
corrupt_stage (StoreType at size) e = absurd (cc e)
corrupt_stage SetFull e = absurd (cc e)
corrupt_stage (Claimed at size) e = absurd (cc e)
corrupt_stage Full e = absurd (cc e)
corrupt_stage Corrupt e = refl

-- an allocation that is to continue has a next event
more_goes : (a : Allocation) (stage : AllocStage) → answer stage ≡ said.More → is_some (event_at a stage) ≡ true
more_goes a LoadFlags e = refl
more_goes a LoadFree e = refl
more_goes a (ExchangeFree next purpose) e = refl
more_goes a (StoreSize at size purpose) e = refl
more_goes a (StoreCookie at size purpose) e = refl
more_goes a (StoreType at size) e = refl
more_goes a SetFull e = refl
more_goes a (Claimed at size) e = absurd (cc e)
more_goes a Full e = absurd (cc e)
more_goes a Corrupt e = absurd (cc e)

pub goes_on : (a : Allocation) (step : AllocStep) → step ≡ answer a.stage → step ≡ said.More → is_some (next_event a) ≡ true
goes_on a step is more = more_goes a a.stage (sym is ∙ more)

-- Full has its cause
pub full_cause : (a : Allocation) (step : AllocStep) → IsLawful a → step ≡ answer a.stage → step ≡ said.Full → a.shape.size < a.seen + a.size
full_cause a step lawful is full = subst (IsAimed a) (full_stage a.stage (sym is ∙ full)) lawful.aimed

flags_cause : (flags : ℕ) (clear : Bool) → (bit_and flags 1 == 0) ≡ clear → (if clear then LoadFree else Corrupt) ≡ Corrupt → bit_and flags 1 ≢ 0
flags_cause flags true e is = absurd (cc is)
flags_cause flags false e is = λ zero. absurd (cc (sym e ∙ eq-eqb (bit_and flags 1) 0 zero))

tried_cause : (free : ℕ) (good : Bool) (p : Planned) → (if good then stage_of_plan free p else Corrupt) ≡ Corrupt → good ≡ false
tried_cause free true (plan.Claim size next) is = absurd (cc is)
tried_cause free true (plan.Waste room) is = absurd (cc is)
tried_cause free true plan.Full is = absurd (cc is)
tried_cause free false p is = refl

exchange_goes : (at size : ℕ) (purpose : Purpose) (hit : Bool) → (if hit then StoreSize at size purpose else LoadFlags) ≢ Corrupt
exchange_goes at size purpose true is = absurd (cc is)
exchange_goes at size purpose false is = absurd (cc is)

cookie_goes : (at size : ℕ) (purpose : Purpose) → stage_of_cookie at size purpose ≢ Corrupt
cookie_goes at size purpose.Claim is = absurd (cc is)
cookie_goes at size purpose.Waste is = absurd (cc is)

-- Corrupt has its cause
module _ (a : Allocation) (words : List ℕ) where
  corrupt_at : (stage : AllocStage) (event : Access) → a.stage ≡ stage → event_at a stage ≡ Some event
      → stage_after a (word_at words (spot event)) stage ≡ Corrupt → IsCorruptBy a words
  corrupt_at LoadFlags event e is to =
      let same : event ≡ load_flags = cc is in
      inl (e, flags_cause (word_at words 6) _ refl (ap (λ (v : Access). stage_after a (word_at words (spot v)) LoadFlags) (sym same) ∙ to))
  corrupt_at LoadFree event e is to =
      let same : event ≡ load_free = cc is in
      let free : ℕ = word_at words 7 in
      inr (
        e,
        tried_cause free (is_pointer a.shape free) (planned free a.size a.shape)
            (ap (λ (v : Access). stage_after a (word_at words (spot v)) LoadFree) (sym same) ∙ to),
      )
  corrupt_at (ExchangeFree next purpose) event e is to =
      let found : ℕ = word_at words (spot event) in absurd (exchange_goes found (next - found) purpose (found == a.seen) to)
  corrupt_at (StoreSize at size purpose) event e is to = absurd (cc to)
  corrupt_at (StoreCookie at size purpose) event e is to = absurd (cookie_goes at size purpose to)
  corrupt_at (StoreType at size) event e is to = absurd (cc to)
  corrupt_at SetFull event e is to = absurd (cc to)
  corrupt_at (Claimed at size) event e is to = absurd (cc to)
  corrupt_at Full event e is to = absurd (cc to)
  corrupt_at Corrupt event e is to = absurd (cc is)

pub corrupt_cause : (old new : Allocation) (words new_words : List ℕ) (step : AllocStep) → IsStep old words new new_words step
    → step ≡ said.Corrupt → IsCorruptBy old words
corrupt_cause old new words new_words step is corrupt =
    corrupt_at old words old.stage is.event refl is.next
    (sym (ap (λ (a : Allocation). a.stage) is.new_is) ∙ corrupt_stage new.stage (sym is.answers ∙ corrupt))

-- a step keeps what holds of all allocations
pub steps_keep : (old new : Allocation) (words new_words : List ℕ) (step : AllocStep) (allocations : List Allocation) (owner : ℕ)
    → IsStep old words new new_words step → get_elem? allocations owner ≡ some old → Keeps old.shape words allocations
    → Keeps old.shape new_words (set allocations owner new)
steps_keep old new words new_words step allocations owner is mine keeps =
    subst (λ (s : List ℕ × Allocation). Keeps old.shape s.0 (set allocations owner s.1)) (λ i. (sym is.words_are i, sym is.new_is i))
    (step_keeps old.shape words allocations owner old keeps mine old.stage is.event refl is.next).0

-- what both halves of a step say of the event that was next
pub record Happened (next : Option Access) (words new_words : List ℕ) (found : ℕ) : Type 0 where
  pub event : Access
  pub next_is : next ≡ Some event
  pub changed : new_words ≡ after event words
  pub seen : found ≡ word_at words (spot event)

pub happened : (next : Option Access) (words new_words : List ℕ) (found : ℕ) → is_some next ≡ true
    → IfSome next (λ event. new_words ≡ after event words) → IfSome next (λ event. found ≡ word_at words (spot event))
    → Happened next words new_words found
happened None words new_words found running changed seen = absurd (cc running)
happened (Some event) words new_words found running changed seen = record { event = event; next_is = refl; changed = changed; seen = seen }

-- so they are a step
pub stepped : (old new : Allocation) (words new_words : List ℕ) (step : AllocStep) (found : ℕ) → is_some (next_event old) ≡ true
    → IfSome (next_event old) (λ event. new_words ≡ after event words) → IfSome (next_event old) (λ event. found ≡ word_at words (spot event))
    → new ≡ moved old found → step ≡ answer new.stage → IsStep old words new new_words step
stepped old new words new_words step found running changed seen moves says =
    let one = happened (next_event old) words new_words found running changed seen in
    record { event = one.event; next = one.next_is; words_are = one.changed; new_is = moves ∙ ap (moved old) one.seen; answers = says }

-- the words that a stage has taken are a block of its owner
pub taken_among : (a : Allocation) (blocks : List Block) (owner : ℕ) (block : ℕ × ℕ) (stage : AllocStage) → IsAimed a stage → Has blocks owner stage
    → taken stage ≡ Some block → (ws : List ℕ) × (length ws ≡ block.1) × IsAmong blocks (own owner block.0 ws)
taken_among a blocks owner block LoadFlags aimed has e = absurd (cc e)
taken_among a blocks owner block LoadFree aimed has e = absurd (cc e)
taken_among a blocks owner block (ExchangeFree next purpose) aimed has e = absurd (cc e)
taken_among a blocks owner block (StoreSize at size purpose) aimed has e =
    let same : (at, size) ≡ block = cc e in
    subst (λ (p : ℕ × ℕ). (ws : List ℕ) × (length ws ≡ p.1) × IsAmong blocks (own owner p.0 ws)) same
    (replicate size 0, length-replicate {A = ℕ} size 0, has)
taken_among a blocks owner block (StoreCookie at size purpose) aimed has e =
    let same : (at, size) ≡ block = cc e in
    let five = aimed.1.five in
    subst (λ (p : ℕ × ℕ). (ws : List ℕ) × (length ws ≡ p.1) × IsAmong blocks (own owner p.0 ws)) same
    (size ∷ replicate (size - 1) 0, omega (arith, length-replicate {A = ℕ} (size - 1) 0, five), has)
taken_among a blocks owner block (StoreType at size) aimed has e =
    let same : (at, size) ≡ block = cc e in
    let five = aimed.1.five in
    subst (λ (p : ℕ × ℕ). (ws : List ℕ) × (length ws ≡ p.1) × IsAmong blocks (own owner p.0 ws)) same
    (size ∷ 0xC8799269 ∷ replicate (size - 2) 0, omega (arith, length-replicate {A = ℕ} (size - 2) 0, five), has)
taken_among a blocks owner block SetFull aimed has e = absurd (cc e)
taken_among a blocks owner block (Claimed at size) aimed (behind, long, has) e =
    let same : (at, size) ≡ block = cc e in
    subst (λ (p : ℕ × ℕ). (ws : List ℕ) × (length ws ≡ p.1) × IsAmong blocks (own owner p.0 ws)) same
    (size ∷ 0xC8799269 ∷ behind, omega (arith, long), has)
taken_among a blocks owner block Full aimed has e = absurd (cc e)
taken_among a blocks owner block Corrupt aimed has e = absurd (cc e)

-- two blocks are one, or apart
blocks_apart : (page : ℕ) (blocks : List Block) (b c : Block) → IsLaid page 12 blocks → IsAmong blocks b → IsAmong blocks c
    → (b ≡ c) ⊎ Apart (b.at, extent b) (c.at, extent c)
blocks_apart page blocks b c laid (k, there) (m, here) = elim (cases_order k m) [
  | inl same ↦ inl (some-injective b c (sym there ∙ (ap (get_elem? blocks) same ∙ here)))
  | inr apart_by ↦ elim apart_by [
    | inl before ↦ inr (inl (apart page 12 blocks k m b c laid there here before))
    | inr behind ↦ inr (inr (apart page 12 blocks m k c b laid here there behind))
  ]
]

-- so blocks of two owners are apart
owners_apart : (page : ℕ) (blocks : List Block) (i j : ℕ) (b c : Block) → IsLaid page 12 blocks → i ≢ j → b.owner ≡ some i → c.owner ≡ some j
    → IsAmong blocks b → IsAmong blocks c → Apart (b.at, extent b) (c.at, extent c)
owners_apart page blocks i j b c laid ne mine yours one other = elim (blocks_apart page blocks b c laid one other) [
  | inl same ↦ absurd (ne (some-injective i j (sym mine ∙ (ap (λ (z : Block). z.owner) same ∙ yours))))
  | inr apart_by ↦ apart_by
]

-- and a block at another place
places_apart : (page : ℕ) (blocks : List Block) (b c : Block) → IsLaid page 12 blocks → IsAmong blocks b → IsAmong blocks c → c.at ≢ b.at
    → Apart (b.at, extent b) (c.at, extent c)
places_apart page blocks b c laid one other elsewhere = elim (blocks_apart page blocks b c laid one other) [
  | inl same ↦ absurd (elsewhere (sym (ap (λ (z : Block). z.at) same)))
  | inr apart_by ↦ apart_by
]

-- the words that two allocations have taken are apart
pub taken_apart : (shape : Dimensions) (words : List ℕ) (allocations : List Allocation) (i j : ℕ) (a b : Allocation) (block other : ℕ × ℕ)
    → Keeps shape words allocations → i ≢ j → get_elem? allocations i ≡ some a → get_elem? allocations j ≡ some b
    → taken a.stage ≡ Some block → taken b.stage ≡ Some other → Apart block other
taken_apart shape words allocations i j a b block other keeps ne mine yours e f =
    let p = keeps.each i a mine in
    let q = keeps.each j b yours in
    let (ws, long, among) = taken_among a keeps.layout.blocks i block a.stage p.lawful.aimed p.has e in
    let (vs, wide, there) = taken_among b keeps.layout.blocks j other b.stage q.lawful.aimed q.has f in
    subst (λ (n : ℕ × ℕ). Apart (block.0, n.0) (other.0, n.1)) (λ k. (long k, wide k))
    (owners_apart shape.page keeps.layout.blocks i j (own i block.0 ws) (own j other.0 vs) keeps.shown.sound.laid ne refl refl among there)

-- what Done says of the stages before and after it
claimed_stage : (stage : AllocStage) (reference : ℕ) → answer stage ≡ said.Done reference → (size : ℕ) × (stage ≡ Claimed reference size)
claimed_stage LoadFlags reference e = absurd (cc e)
claimed_stage LoadFree reference e = absurd (cc e)
claimed_stage (ExchangeFree next purpose) reference e = absurd (cc e)
claimed_stage (StoreSize at size purpose) reference e = absurd (cc e)
claimed_stage (StoreCookie at size purpose) reference e = absurd (cc e)
claimed_stage (StoreType at size) reference e = absurd (cc e)
claimed_stage SetFull reference e = absurd (cc e)
claimed_stage (Claimed at size) reference e = let same : at ≡ reference = cc e in (size, ap (λ (n : ℕ). Claimed n size) same)
claimed_stage Full reference e = absurd (cc e)
claimed_stage Corrupt reference e = absurd (cc e)

flags_else : (clear : Bool) (at size : ℕ) → (if clear then LoadFree else Corrupt) ≢ Claimed at size
flags_else true at size is = absurd (cc is)
flags_else false at size is = absurd (cc is)

tried_else : (free : ℕ) (good : Bool) (p : Planned) (at size : ℕ) → (if good then stage_of_plan free p else Corrupt) ≢ Claimed at size
tried_else free true (plan.Claim n next) at size is = absurd (cc is)
tried_else free true (plan.Waste room) at size is = absurd (cc is)
tried_else free true plan.Full at size is = absurd (cc is)
tried_else free false p at size is = absurd (cc is)

exchange_else : (from n : ℕ) (purpose : Purpose) (hit : Bool) (at size : ℕ) → (if hit then StoreSize from n purpose else LoadFlags) ≢ Claimed at size
exchange_else from n purpose true at size is = absurd (cc is)
exchange_else from n purpose false at size is = absurd (cc is)

cookie_else : (from n : ℕ) (purpose : Purpose) (at size : ℕ) → stage_of_cookie from n purpose ≢ Claimed at size
cookie_else from n purpose.Claim at size is = absurd (cc is)
cookie_else from n purpose.Waste at size is = absurd (cc is)

typed_stage : (a : Allocation) (found at size : ℕ) (stage : AllocStage) (event : Access) → event_at a stage ≡ Some event
    → stage_after a found stage ≡ Claimed at size → stage ≡ StoreType at size
typed_stage a found at size LoadFlags event is to = absurd (flags_else (bit_and found 1 == 0) at size to)
typed_stage a found at size LoadFree event is to = absurd (tried_else found (is_pointer a.shape found) (planned found a.size a.shape) at size to)
typed_stage a found at size (ExchangeFree next purpose) event is to = absurd (exchange_else found (next - found) purpose (found == a.seen) at size to)
typed_stage a found at size (StoreSize from n purpose) event is to = absurd (cc to)
typed_stage a found at size (StoreCookie from n purpose) event is to = absurd (cookie_else from n purpose at size to)
typed_stage a found at size (StoreType from n) event is to =
    let same : (from, n) ≡ (at, size) = cc to in ap (λ (p : ℕ × ℕ). StoreType p.0 p.1) same
typed_stage a found at size SetFull event is to = absurd (cc to)
typed_stage a found at size (Claimed from n) event is to = absurd (cc is)
typed_stage a found at size Full event is to = absurd (cc to)
typed_stage a found at size Corrupt event is to = absurd (cc to)

-- the block that was claimed, when its type is stored
module _ (words : List ℕ) (allocations : List Allocation) (owner : ℕ) (a : Allocation) (reference size : ℕ) (keeps : Keeps a.shape words allocations)
    (mine : get_elem? allocations owner ≡ some a) (e : a.stage ≡ StoreType reference size) where
  new_block : (b : Allocation) → b.shape ≡ a.shape → b.size ≡ a.size → b.tag ≡ a.tag
      → IsNewBlock b reference (after (store_type reference a.tag) words) keeps.layout allocations owner
  new_block b shaped sized tagged =
      let (k, there) = has_at a.shape words allocations owner a keeps mine (StoreType reference size) e in
      let aimed = aimed_at a.shape words allocations owner a keeps mine (StoreType reference size) e in
      let five = aimed.1.five in
      let one_page = aimed.1.one_page in
      let old : List ℕ = marked size 0xC8799269 in
      let least : 5 ≤ size = omega (arith, five) in
      let now : length (claimed_words size a.tag) ≡ size = length-claimed size a.tag least in
      let block : Block = own owner reference (claimed_words size a.tag) in
      let layout : Layout = put keeps.layout k block in
      let shown = type_stored a.shape words keeps.layout owner reference size a.tag k keeps.shown there least in
      let here : get_elem? layout.blocks k ≡ some block = set_at keeps.layout.blocks k (own owner reference old) block there in
      let ends = ends_within a.shape.page 12 layout.blocks k block shown.sound.laid here in
      let free = free_word a.shape (set words (reference + 2) a.tag) layout shown in
      let slice = slice_shown a.shape (set words (reference + 2) a.tag) layout k block shown here in
      record {
        size = size;
        enough = omega (arith, aimed.2.0, sized);
        spare = omega (arith, aimed.2.1, sized);
        holds = subst (λ (p : ℕ × ℕ). take p.0 (drop reference (set words (reference + 2) a.tag)) ≡ claimed_words size p.1) (λ i. (now i, sym tagged i)) slice;
        from = aimed.0;
        below = omega (arith, ends, free, now);
        one_page = subst (λ (s : Dimensions). reference % s.page + size ≤ s.page) (sym shaped) (omega (arith, one_page));
        alone = λ other among elsewhere.
            subst (λ (n : ℕ). Apart (reference, n) (other.at, extent other)) (length-marked size 0xC8799269 least)
            (places_apart a.shape.page keeps.layout.blocks (own owner reference old) other keeps.shown.sound.laid (k, there) among elsewhere);
        apart = λ other c found ne yours has.
            taken_apart a.shape words allocations owner other a c (reference, size) found keeps (λ same. ne (sym same)) mine yours (ap taken e) has;
      }

-- what an allocation says that it has claimed
pub done_block : (old new : Allocation) (words new_words : List ℕ) (step : AllocStep) (reference : ℕ) (allocations : List Allocation) (owner : ℕ)
    → IsStep old words new new_words step → step ≡ said.Done reference → get_elem? allocations owner ≡ some old
    → (keeps : Keeps old.shape words allocations) → IsNewBlock new reference new_words keeps.layout allocations owner
done_block old new words new_words step reference allocations owner is done mine keeps =
    let (size, claimed) = claimed_stage new.stage reference (sym is.answers ∙ done) in
    let stage = typed_stage old (word_at words (spot is.event)) reference size old.stage is.event is.next
    (sym (ap (λ (a : Allocation). a.stage) is.new_is) ∙ claimed) in
    let event : is.event ≡ store_type reference old.tag = cc (is.next, ap (event_at old) stage) in
    let changed : new_words ≡ after (store_type reference old.tag) words = is.words_are ∙ ap (λ (v : Access). after v words) event in
    subst (λ (ws : List ℕ). IsNewBlock new reference ws keeps.layout allocations owner) (sym changed)
    (new_block words allocations owner old reference size keeps mine stage new
    (ap (λ (a : Allocation). a.shape) is.new_is) (ap (λ (a : Allocation). a.size) is.new_is) (ap (λ (a : Allocation). a.tag) is.new_is))
