-- A try of an allocation: what a recorder knows once it has loaded a free pointer, and where the exchange of it may go.
use Rattle.std.proofs.Common.{◌≡◌, ◌≢◌, ◌⊎◌, ℕ, List, [], ◌∷◌, ◌++◌, ne_eqb, ◌+◌, ◌-◌, ◌<◌, ◌≤◌, Bool, true, false, if◌then◌else◌, inl, inr, refl, sym, ap, subst, ◌∙◌, ⊎_elim, eq-eqb, arith}
use Rattle.std.specs.Prelude.{bit_and, Err}
use Rattle.std.proofs.lemmas.List.{append-nil, append_assoc}
use Rattle.std.proofs.lemmas.List.Elements.{All-nil, All-push}
use Rattle.segment_image.specs.Shape.{Dimensions}
use Rattle.alloc_core.specs.declared.planned.Planned.{Planned}
use Rattle.alloc_core.specs.declared.planned.Planned.TheVariants.{Claim, Full, Waste}
use Rattle.alloc_core.specs.Planned.{planned, is_pointer}
use Rattle.alloc_core.specs.Alloc.{IsAimed, IsPlace, stage_of_plan}
use Rattle.segment_machine.specs.declared.actor.Actor.{Actor}
use Rattle.segment_machine.specs.declared.actor.Rise.{Rise}
use Rattle.segment_machine.specs.declared.place.Place.TheVariants.{FlagsLoaded, FreeLoaded, Idle}
use Rattle.segment_machine.specs.Actor.{is_opener}
use Rattle.segment_machine.specs.Event.{allocating_event, next}
use Rattle.segment_machine.specs.Allocating.{load_flags, load_free, exchange_free, set_full, MayRise}
use Rattle.segment_invariant.proofs.Allocating.Rises.{plan_aims}
use Rattle.live_segment.specs.declared.segment.Segment.{Segment}
use Rattle.live_segment.specs.Rule.{IsOf}
use Rattle.live_segment.specs.Steps.{Pass, IsSame, Stepped}
use Rattle.live_segment.specs.Holders.{table_of, MayStep}
use Rattle.live_segment.specs.Alloc.Allocation.{Allocates, IsLost, Wastes, saw_free, claimed, filled, noticed, raised_on}
use Rattle.live_segment.specs.Alloc.Rises.{IsWasteFor, RaisesFor, WastesFor}
use Rattle.live_segment.specs.Add.Refusal.{flags_notes, given_up, refusing_notes}
use Rattle.segment_promises.specs.Follows.{noted_by}
use Rattle.segment_calls.specs.declared.refusal.Refusal.TheVariants as refusal
use Rattle.live_segment.proofs.lemmas.Add.Refusing.{flags_seen, only_given_up}

-- a recorder has loaded a free pointer, and has made these rises
pub record HasLoaded (segment : Segment) (first seat : Pass) (free : ℕ) (raised : List Rise) : Type 0 where
  pub table : seat.table_id ≡ table_of segment
  pub view : seat.me.0 ≡ saw_free first.me.0 (FreeLoaded free) free raised
  pub behind : first.me.0.seen.free ≤ free
  pub pointer : is_pointer segment.setting.shape free ≡ true

pub loaded : (segment : Segment) (first old mid new : Pass) (found free : ℕ) → first.table_id ≡ table_of segment → IsOf segment.setting first.me.0
    → IsSame first old → old.me.0 ≡ saw_free first.me.0 old.me.0.hand.place old.me.0.seen.free old.me.0.done.raised → first.me.0.seen.free ≤ old.me.0.seen.free
    → bit_and found 1 ≡ 0 → Stepped old (allocating_event load_flags) found mid → Stepped mid (allocating_event load_free) free new
    → HasLoaded segment first new free old.me.0.done.raised
loaded segment first old mid new found free table of same view behind clear flags load =
    let before : Actor = saw_free first.me.0 old.me.0.hand.place old.me.0.seen.free old.me.0.done.raised in
    let between : mid.me.0 ≡ record before { hand = record before.hand { place = FlagsLoaded } } =
    flags.view
    ∙ (ap (λ (a : Actor). next a (allocating_event load_flags) found) view
    ∙ ap (flags_seen before) (eq-eqb (bit_and found 1) 0 clear)) in
    let shape : mid.me.0.segment.shape ≡ segment.setting.shape = ap (λ (a : Actor). a.segment.shape) between ∙ of.shape in
    let seen : mid.me.0.seen.free ≡ old.me.0.seen.free = ap (λ (a : Actor). a.seen.free) flags.view in
    let later : mid.me.0.seen.free ≤ free = ⊎_elim (λ e. omega (arith, e)) (λ e. omega (arith, e)) load.learned.0 in record {
      table = load.same.0 ∙ (flags.same.0 ∙ (same.0 ∙ table));
      view = load.view ∙ ap (λ (a : Actor). next a (allocating_event load_free) free) between;
      behind = omega (arith, later, seen, behind);
      pointer = subst (λ (s : Dimensions). is_pointer s free ≡ true) shape load.learned.1;
    }

-- ---- what is wasted

-- so far it has only wasted rests; then one more rest
pub wastes_one : (shape : Dimensions) (words : ℕ) (old mid : List Rise) (rise : Rise) → IsWasteFor shape words rise → WastesFor shape words old mid
    → WastesFor shape words old (mid ++ rise ∷ [])
wastes_one shape words old mid rise is (wastes, are, all) =
    (wastes ++ rise ∷ [], ap (λ (l : List Rise). l ++ rise ∷ []) are ∙ append_assoc old wastes (rise ∷ []), All-push (IsWasteFor shape words) wastes rise all is)

pub wastes_none : (shape : Dimensions) (words : ℕ) (old : List Rise) → WastesFor shape words old old
wastes_none shape words old = ([], sym (append-nil old), All-nil (IsWasteFor shape words))

-- and at last the block is claimed
raises_one : (shape : Dimensions) (words at to : ℕ) (old mid : List Rise) → at ≤ to → WastesFor shape words old mid
    → RaisesFor shape words (record { at = at; size = to - at }) old (mid ++ record { from = at; to = to; wanted = words } ∷ [])
raises_one shape words at to old mid behind (wastes, are, all) =
    let ends : to ≡ at + (to - at) = omega arith in (wastes, λ i. are i ++ record { from = at; to = ends i; wanted = words } ∷ [], all)

module _ (segment : Segment) (first seat : Pass) (size free : ℕ) (raised : List Rise) (has : HasLoaded segment first seat free raised) (of : IsOf segment.setting first.me.0)
    (records : is_opener first.me.0.role ≡ false) (least : 5 ≤ size) (most : size ≤ segment.setting.shape.page) where
  shape_there : seat.me.0.segment.shape ≡ segment.setting.shape
  shape_there = ap (λ (a : Actor). a.segment.shape) has.view ∙ of.shape

  aims : (plan : Planned) → plan ≡ planned free size segment.setting.shape
      → IsAimed (record { shape = segment.setting.shape; size = size; tag = 0; seen = free; stage = stage_of_plan free plan }) (stage_of_plan free plan)
  aims plan = plan_aims segment.setting.shape size free plan segment.shaped least most has.pointer

  -- the exchange may go where the plan says
  rises : (to : ℕ)
      → ((words : ℕ) × (planned free size segment.setting.shape ≡ Claim words to)) ⊎ ((room : ℕ) × (planned free size segment.setting.shape ≡ Waste room) × (to ≡ free + room))
      → MayStep segment seat (allocating_event (exchange_free free to size))
  rises to way = record {
    table = has.table;
    recorder = ap (λ (a : Actor). is_opener a.role) has.view ∙ records;
    ready = (
      ap (λ (a : Actor). a.hand.place) has.view,
      subst (λ (s : Dimensions). is_pointer s free ≡ true) (sym shape_there) has.pointer,
      subst (λ (s : Dimensions). MayRise s free to size) (sym shape_there) (least, most, way),
    );
  }

  pub may_claim : (words to : ℕ) → Claim words to ≡ planned free size segment.setting.shape
      → MayStep segment seat (allocating_event (exchange_free free to size))
  may_claim words to is = rises to (inl (words, sym is))

  -- up to there are enough words
  pub has_enough : (words to : ℕ) → Claim words to ≡ planned free size segment.setting.shape → size ≤ to - free
  has_enough words to is = (aims (Claim words to) is).2.0

  pub may_waste : (room : ℕ) → Waste room ≡ planned free size segment.setting.shape
      → MayStep segment seat (allocating_event (exchange_free free (free + room) size))
  may_waste room is = rises (free + room) (inr (room, sym is, refl))

  pub is_short : (room : ℕ) → Waste room ≡ planned free size segment.setting.shape → free + room - free < size
  is_short room is = (aims (Waste room) is).2

  -- another recorder was first: nothing is wasted
  pub loses : (b : Actor) → IsLost seat.me.0 free b → WastesFor first.me.0.segment.shape size first.me.0.done.raised raised
      → (b ≡ saw_free first.me.0 Idle b.seen.free b.done.raised) × WastesFor first.me.0.segment.shape size first.me.0.done.raised b.done.raised
      × (free + 5 ≤ b.seen.free) × (b.seen.free ≤ segment.setting.shape.size) × (b.hand.place ≡ Idle)
  loses b lost before =
      let whole : b ≡ saw_free first.me.0 Idle lost.found raised =
      lost.view ∙ ap (λ (a : Actor). saw_free a Idle lost.found a.done.raised) has.view in
      let seen : b.seen.free ≡ lost.found = ap (λ (a : Actor). a.seen.free) whole in
      let now : b.done.raised ≡ raised = ap (λ (a : Actor). a.done.raised) whole in
      let further = lost.further in (
        whole ∙ (λ i. saw_free first.me.0 Idle (sym seen i) (sym now i)),
        subst (WastesFor first.me.0.segment.shape size first.me.0.done.raised) (sym now) before,
        omega (arith, seen, further),
        let inside = subst (λ (s : Dimensions). lost.found ≤ s.size) shape_there lost.within in omega (arith, seen, inside),
        ap (λ (a : Actor). a.hand.place) whole,
      )

  -- the rest that is wasted is too short
  pub wastes_more : (room : ℕ) → Waste room ≡ planned free size segment.setting.shape → (b : Actor) → Wastes size free (free + room) seat.me.0 b
      → WastesFor first.me.0.segment.shape size first.me.0.done.raised raised
      → (b ≡ saw_free first.me.0 Idle b.seen.free b.done.raised) × WastesFor first.me.0.segment.shape size first.me.0.done.raised b.done.raised
      × (free + 5 ≤ b.seen.free) × (b.seen.free ≤ segment.setting.shape.size) × (b.hand.place ≡ Idle)
  wastes_more room is b (inl (view, further, within)) before =
      let rise : Rise = record { from = free; to = free + room; wanted = size } in
      let whole : b ≡ saw_free first.me.0 Idle (free + room) (raised ++ rise ∷ []) =
      view ∙ ap (λ (a : Actor). saw_free a Idle (free + room) (raised_on a free (free + room) size)) has.view in
      let same : room ≡ free + room - free = omega arith in
      let short : planned free size first.me.0.segment.shape ≡ Waste (free + room - free) =
      ap (λ (s : Dimensions). planned free size s) of.shape ∙ (sym is ∙ ap Waste same) in
      let seen : b.seen.free ≡ free + room = ap (λ (a : Actor). a.seen.free) whole in
      let now : b.done.raised ≡ raised ++ rise ∷ [] = ap (λ (a : Actor). a.done.raised) whole in (
        whole ∙ (λ i. saw_free first.me.0 Idle (sym seen i) (sym now i)),
        subst (WastesFor first.me.0.segment.shape size first.me.0.done.raised) (sym now) (wastes_one _ size _ raised rise (refl, short) before),
        omega (arith, seen, further),
        let inside = subst (λ (s : Dimensions). free + room ≤ s.size) shape_there within in omega (arith, seen, inside),
        ap (λ (a : Actor). a.hand.place) whole,
      )
  wastes_more room is b (inr lost) before = loses b lost before

  -- the full flag may be set if the plan says so
  pub may_fill : Full ≡ planned free size segment.setting.shape → MayStep segment seat (allocating_event (set_full size))
  may_fill is = record {
    table = has.table;
    recorder = ap (λ (a : Actor). is_opener a.role) has.view ∙ records;
    ready = (
      free,
      ap (λ (a : Actor). a.hand.place) has.view,
      subst (λ (s : Dimensions). size ≤ s.page) (sym shape_there) most,
      subst (λ (s : Dimensions). s.size < free + size) (sym shape_there) (aims Full is),
    );
  }

  -- the full flag is set, and the call is refused
  pub fills : (tag found : ℕ) (b : Actor) → Full ≡ planned free size segment.setting.shape
      → b ≡ noted_by (next seat.me.0 (allocating_event (set_full 0)) found) (refusing_notes seat.me.0.entries.running)
      → WastesFor first.me.0.segment.shape size first.me.0.done.raised raised → Allocates size tag first.me.0 (Err refusal.Full) b
  fills tag found b is view before =
      let last : Actor = filled (saw_free first.me.0 Idle free raised) in
      let whole : b ≡ given_up last =
      view ∙ ap (λ (a : Actor). noted_by (next a (allocating_event (set_full 0)) found) (refusing_notes a.entries.running)) has.view in
      let now : b.done.raised ≡ raised = ap (λ (a : Actor). a.done.raised) (whole ∙ only_given_up last) in (
        free,
        whole ∙ ap (λ (l : List Rise). given_up (filled (saw_free first.me.0 Idle free l))) (sym now),
        has.behind,
        subst (λ (s : Dimensions). s.size < free + size) (sym of.shape) (aims Full is),
        subst (WastesFor first.me.0.segment.shape size first.me.0.done.raised) (sym now) before,
      )

  -- the block that it then claims
  pub claims : (words to tag : ℕ) (b : Actor) → Claim words to ≡ planned free size segment.setting.shape
      → b ≡ claimed seat.me.0 free to tag (raised_on seat.me.0 free to size)
      → WastesFor first.me.0.segment.shape size first.me.0.done.raised raised
      → (b ≡ claimed first.me.0 free to tag b.done.raised) × (first.me.0.seen.free ≤ free) × (free + size ≤ to) × (to < free + size + 5)
      × IsPlace first.me.0.segment.shape free (to - free)
      × RaisesFor first.me.0.segment.shape size (record { at = free; size = to - free }) first.me.0.done.raised b.done.raised
  claims words to tag b is view before =
      let (from, rise, suits) = aims (Claim words to) is in
      let five = rise.five in let within = rise.within in let (enough, few) = suits in
      let place : IsPlace segment.setting.shape free (to - free) = record {
        from = from;
        five = omega arith;
        within = omega arith;
        one_page = rise.one_page;
      } in
      let whole : b ≡ claimed first.me.0 free to tag (raised ++ record { from = free; to = to; wanted = size } ∷ []) =
      view ∙ ap (λ (a : Actor). claimed a free to tag (raised_on a free to size)) has.view in
      let now : b.done.raised ≡ raised ++ record { from = free; to = to; wanted = size } ∷ [] = ap (λ (a : Actor). a.done.raised) whole in (
        whole ∙ ap (claimed first.me.0 free to tag) (sym now),
        has.behind,
        omega arith,
        omega arith,
        subst (λ (s : Dimensions). IsPlace s free (to - free)) (sym of.shape) place,
        subst (RaisesFor first.me.0.segment.shape size (record { at = free; size = to - free }) first.me.0.done.raised) (sym now)
            (raises_one _ size free to _ raised (omega arith) before),
      )

-- flags with the corrupt one were loaded, and the call is refused
pub warned : (size tag found : ℕ) (first old b : Actor) → old ≡ saw_free first old.hand.place old.seen.free old.done.raised → first.seen.free ≤ old.seen.free
    → bit_and found 1 ≢ 0 → b ≡ noted_by (next old (allocating_event load_flags) found) (flags_notes old.entries.running found)
    → WastesFor first.segment.shape size first.done.raised old.done.raised → Allocates size tag first (Err refusal.Corrupt) b
warned size tag found first old b was behind set view before =
    let last : Actor = noticed (saw_free first Idle old.seen.free old.done.raised) in
    let whole : b ≡ given_up last =
    view
    ∙ (ap (λ (clear : Bool). noted_by (flags_seen old clear) (if clear then [] else refusing_notes old.entries.running)) (ne_eqb (bit_and found 1) 0 set)
    ∙ ap (λ (a : Actor). noted_by (flags_seen a false) (refusing_notes a.entries.running)) was) in
    let now : b.done.raised ≡ old.done.raised = ap (λ (a : Actor). a.done.raised) (whole ∙ only_given_up last) in (
      old.seen.free,
      whole ∙ ap (λ (l : List Rise). given_up (noticed (saw_free first Idle old.seen.free l))) (sym now),
      behind,
      subst (WastesFor first.segment.shape size first.done.raised) (sym now) before,
    )
