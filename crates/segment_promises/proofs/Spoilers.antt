-- A recorder that has set the corrupt flag claims no more blocks: an allocation begins with a load of the flags, and finds that flag set.
use Rattle.segment_invariant.proofs.Prelude.Std.{◌≡◌, ◌≢◌, ◌⊎◌, ℕ, ◌==◌, ◌&&◌, Bool, true, false, true≢false, List, [], ◌∷◌, set, inl, inr, ⊎_elim, refl, sym, ap, subst, ◌∙◌, if◌then◌else◌, bit_and, nat_lt, dite, some, some-injective, ℕ_discrete, get_elem?, at_longer, set_else, set_here, all_at, below_length, All-cons, All-nil, All-push, All}
use Rattle.segment_invariant.proofs.Prelude.Machine.{Actor, Claim, Place, Spent, Idle, is_bound, is_opener, back, Event, Ready, Learned, next, allocating_event, publishing_event, walking_event, counting_event, taking_event, packing_event, load_flags, load_free, exchange_free, store_size, store_cookie, store_type, store_payload, set_corrupt, set_full, store_own_next, load_tail, link, move_tail, after_link, load_next, load_published, load_counts, add_count, add_sum, load_count, raise_mark, load_sum, swap_sum_mark, load_redundant, raise_single_mark, load_single, pack, mount_counts, purge_block, disable, add_moved, after_pack, after_mount, after_disable, Note, Notes, noted, begins, purse, State, Dimensions}
use Rattle.segment_invariant.proofs.Prelude.Invariant.{Anatomy, Invariant, found_at}
use Rattle.segment_machine.specs.declared.actor.Done.{Done}
use Rattle.segment_machine.specs.declared.place.Place.TheVariants as place
use Rattle.segment_machine.specs.Event.{cursor_event}
use Rattle.segment_machine.specs.Allocating.{after_free}
use Rattle.segment_machine.specs.Walking.{behind}
use Rattle.segment_machine.specs.Counting.{add_redundant}
use Rattle.segment_machine.specs.Taking.{at_count}
use Rattle.segment_machine.specs.Cursors.{load_cursor, move_cursor, after_cursor}
use Rattle.segment_machine.specs.Note.{goes_on, amounts, asks, knows, takes, has_taken, looks, answers, ends, refused, declines}
use Rattle.segment_machine.specs.Reached.{IsReached, started, stepped, announced, offered, split, lent, returned, purse_filled, purse_poured, joined_in}
use Rattle.segment_machine.specs.Seats.{joined, lender, newcomer, offering, parent, spent}
use Rattle.segment_machine.specs.State.{IsStep}
use Rattle.std.proofs.lemmas.List.Elements.{All-set}
use Rattle.segment_promises.specs.Spoilers.{SpoilersClaimNothing}
use Rattle.segment_promises.proofs.Reached.{reached_states_follow}
use Rattle.segment_promises.proofs.Steps.{steps_follow}

-- ---- places

-- whether an allocation is running
abbrev allocates : Place → Bool
allocates place.FlagsLoaded = true
allocates (place.FreeLoaded free) = true
allocates (place.Raised at size wanted) = true
allocates (place.Sized at size wanted) = true
allocates (place.Marked at size) = true
allocates p = false

back_rests : (p : Place) → allocates (back p) ≡ false
back_rests (place.Losing look at) = refl
back_rests (place.Moving look bucket units) = refl
back_rests (place.CountLoaded look bucket count) = refl
back_rests (place.Looking look) = refl
back_rests p = refl

counted_rests : (p : Place) (at count : ℕ) → allocates (at_count p at count) ≡ false
counted_rests (place.Looking look) at count = refl
counted_rests (place.CountLoaded look bucket before) at count = refl
counted_rests p at count = refl

behind_rests : (p : Place) (from found : ℕ) → allocates p ≡ false → allocates (behind p from found) ≡ false
behind_rests (place.CursorLoaded cursor at) from found rests = by (from == at) (found == 12)
  where
    by : (b e : Bool) → allocates (if b then (if e then Idle else place.BehindCursor cursor at found) else place.CursorLoaded cursor at) ≡ false
    by true true = refl
    by true false = refl
    by false e = refl
behind_rests p from found rests = rests

either : (p q : Place) → allocates p ≡ false → allocates q ≡ false → (b : Bool) → allocates (if b then p else q) ≡ false
either p q one other true = one
either p q one other false = other

-- ---- an event of an actor that is at no allocation once it has set the corrupt flag

-- it is at none if it has set the flag
abbrev Rests : Actor → Type 0
Rests x = x.done.spoiled ≡ true → allocates x.hand.place ≡ false

module _ (a : Actor) (rests : Rests a) where
  -- it is at none after an event either, and the event claims nothing
  abbrev Steady : Actor → Type 0
  Steady b = Rests b × (a.done.spoiled ≡ true → (b.done.spoiled ≡ true) × (b.done.claimed ≡ a.done.claimed))

  -- it is at no place of an allocation
  never : {X : Type 0} (p : Place) → allocates p ≡ true → a.hand.place ≡ p → a.done.spoiled ≡ true → X
  never p is at spoiled = absurd (true≢false (sym is ∙ (sym (ap allocates at) ∙ rests spoiled)))

  -- it has done the same, and is at none
  at_rest : (b : Actor) → b.done ≡ a.done → (a.done.spoiled ≡ true → allocates b.hand.place ≡ false) → Steady b
  at_rest b same stands =
      (λ spoiled. stands (ap (λ (d : Done). d.spoiled) (sym same) ∙ spoiled), λ spoiled. (ap (λ (d : Done). d.spoiled) same ∙ spoiled, ap (λ (d : Done). d.claimed) same))

  -- an event of an allocation, which it cannot do then
  out_of : (b : Actor) (p : Place) → allocates p ≡ true → a.hand.place ≡ p → b.done.spoiled ≡ a.done.spoiled → Steady b
  out_of b p is at same = (λ spoiled. never p is at (sym same ∙ spoiled), λ spoiled. never p is at spoiled)

  linked : (b : Bool) (tail at found : ℕ) → Steady (after_link b a tail at found)
  linked true tail at found = (λ spoiled. refl, λ spoiled. (spoiled, refl))
  linked false tail at found = (λ spoiled. refl, λ spoiled. (spoiled, refl))

  freed : (b : Bool) (old new wanted found : ℕ) → (after_free b a old new wanted found).done.spoiled ≡ a.done.spoiled
  freed true old new wanted found = refl
  freed false old new wanted found = refl

  packed : (b : Bool) (histogram new found : ℕ) → Steady (after_pack b a histogram new found)
  packed true histogram new found = at_rest (after_pack true a histogram new found) refl (λ spoiled. refl)
  packed false histogram new found = at_rest (after_pack false a histogram new found) refl (λ spoiled. refl)

  mounted : (b : Bool) (histogram at found : ℕ) → Steady (after_mount b a histogram at found)
  mounted true histogram at found = at_rest (after_mount true a histogram at found) refl (λ spoiled. refl)
  mounted false histogram at found = at_rest (after_mount false a histogram at found) refl (λ spoiled. refl)

  disabled : (b : Bool) (histogram old found : ℕ) → Steady (after_disable b a histogram old found)
  disabled true histogram old found = at_rest (after_disable true a histogram old found) refl
      (λ spoiled. either (place.Moving _ _ _) (place.Looking _) refl refl ((a.segment.version == 1) && nat_lt 0 old))
  disabled false histogram old found = at_rest (after_disable false a histogram old found) refl (λ spoiled. refl)

  gave : (b : Bool) (cursor new found : ℕ) → Steady (after_cursor b a cursor new found)
  gave true cursor new found = (λ spoiled. refl, λ spoiled. (spoiled, refl))
  gave false cursor new found = (λ spoiled. refl, λ spoiled. (spoiled, refl))

  -- the flags that it loads have the corrupt one
  flags_loaded : (found : ℕ) → bit_and found 1 ≡ 1 → allocates (if bit_and found 1 == 0 then place.FlagsLoaded else Idle) ≡ false
  flags_loaded found is = ap (λ (n : ℕ). allocates (if n == 0 then place.FlagsLoaded else Idle)) is

  steady_on : (event : Event) (found : ℕ) → Ready a event → Learned a event found → Steady (next a event found)
  steady_on (allocating_event load_flags) found ready learned =
      at_rest (next a (allocating_event load_flags) found) refl (λ spoiled. flags_loaded found (learned spoiled))
  steady_on (allocating_event load_free) found ready learned = out_of (next a (allocating_event load_free) found) place.FlagsLoaded refl ready refl
  steady_on (allocating_event (exchange_free old new wanted)) found ready learned =
      out_of (next a (allocating_event (exchange_free old new wanted)) found) (place.FreeLoaded old) refl ready.0 (freed (found == old) old new wanted found)
  steady_on (allocating_event (store_size at size)) found ready learned =
      out_of (next a (allocating_event (store_size at size)) found) (place.Raised at size ready.0) refl ready.1 refl
  steady_on (allocating_event (store_cookie at cookie)) found ready learned =
      out_of (next a (allocating_event (store_cookie at cookie)) found) (place.Sized at ready.0 ready.1) refl ready.2 refl
  steady_on (allocating_event (store_type at tag)) found ready learned =
      out_of (next a (allocating_event (store_type at tag)) found) (place.Marked at ready.0.0) refl ready.0.1 refl
  steady_on (allocating_event (store_payload at index value)) found ready learned = (rests, λ spoiled. (spoiled, refl))
  steady_on (allocating_event set_corrupt) found ready learned = (λ spoiled. refl, λ spoiled. (refl, refl))
  steady_on (allocating_event (set_full wanted)) found ready learned = (λ spoiled. refl, λ spoiled. (spoiled, refl))
  steady_on (publishing_event (store_own_next at)) found ready learned = (rests, λ spoiled. (spoiled, refl))
  steady_on (publishing_event load_tail) found ready learned = (λ spoiled. refl, λ spoiled. (spoiled, refl))
  steady_on (publishing_event (link tail at)) found ready learned = linked (found == 12) tail at found
  steady_on (publishing_event (move_tail old new)) found ready learned = (λ spoiled. refl, λ spoiled. (spoiled, refl))
  steady_on (walking_event (load_next at)) found ready learned =
      at_rest (next a (walking_event (load_next at)) found) refl (λ spoiled. behind_rests a.hand.place at found (rests spoiled))
  steady_on (walking_event (load_published at index)) found ready learned = (rests, λ spoiled. (spoiled, refl))
  steady_on (counting_event (load_counts histogram)) found ready learned = (λ spoiled. refl, λ spoiled. (spoiled, refl))
  steady_on (counting_event (add_count at units)) found ready learned = (λ spoiled. refl, λ spoiled. (spoiled, refl))
  steady_on (counting_event (add_sum histogram amount)) found ready learned = (λ spoiled. refl, λ spoiled. (spoiled, refl))
  steady_on (counting_event (add_redundant histogram units)) found ready learned = (λ spoiled. refl, λ spoiled. (spoiled, refl))
  steady_on (taking_event (load_count at)) found ready learned = (λ spoiled. counted_rests a.hand.place at found, λ spoiled. (spoiled, refl))
  steady_on (taking_event (raise_mark at least)) found ready learned = (λ spoiled. back_rests a.hand.place, λ spoiled. (spoiled, refl))
  steady_on (taking_event (load_sum histogram)) found ready learned = (λ spoiled. refl, λ spoiled. (spoiled, refl))
  steady_on (taking_event (swap_sum_mark histogram sum)) found ready learned = (λ spoiled. refl, λ spoiled. (spoiled, refl))
  steady_on (taking_event (load_redundant histogram)) found ready learned = (rests, λ spoiled. (spoiled, refl))
  steady_on (taking_event (raise_single_mark histogram least)) found ready learned = (λ spoiled. back_rests a.hand.place, λ spoiled. (spoiled, refl))
  steady_on (packing_event (load_single histogram)) found ready learned = (λ spoiled. refl, λ spoiled. (spoiled, refl))
  steady_on (packing_event (pack histogram old new)) found ready learned = packed (found == old) histogram new found
  steady_on (packing_event (mount_counts histogram at)) found ready learned = mounted (found == 0) histogram at found
  steady_on (packing_event (purge_block at)) found ready learned = (λ spoiled. back_rests a.hand.place, λ spoiled. (spoiled, refl))
  steady_on (packing_event (disable histogram old)) found ready learned = disabled (found == old) histogram old found
  steady_on (packing_event (add_moved counts bucket units)) found ready learned = (λ spoiled. back_rests a.hand.place, λ spoiled. (spoiled, refl))
  steady_on (cursor_event (load_cursor cursor)) found ready learned = (λ spoiled. refl, λ spoiled. (spoiled, refl))
  steady_on (cursor_event (move_cursor cursor old new)) found ready learned = gave (found == old) cursor new found

-- ---- an event of an actor that was joined

-- it does none that leads elsewhere
module _ (a : Actor) (gone : a.hand.place ≡ Spent) where
  -- it is bound
  turned : {X : Type 0} → is_bound a.hand.place ≡ false → X
  turned free = absurd (true≢false (sym (ap is_bound gone) ∙ free))

  -- it is nowhere else
  stands : {X : Type 0} (p : Place) → p ≢ Spent → a.hand.place ≡ p → X
  stands p ne at = absurd (ne (sym at ∙ gone))

  loads : {X : Type 0} (at : ℕ) → Ready a (taking_event (load_count at)) → X
  loads at (inl (look, known, bucket, inl off, below, spot)) = stands (place.Looking look) (λ e. cc e) off.0
  loads at (inl (look, known, bucket, inr (b, count, there, of), below, spot)) = stands (place.CountLoaded look b count) (λ e. cc e) there
  loads at (inr (known, sample, value, of, met, saw, spot, free, apart)) = turned free

  raises : {X : Type 0} (at least : ℕ) → Ready a (taking_event (raise_mark at least)) → X
  raises at least (some_units, inl (look, known, bucket, word, there, takes_it, single, other, spot)) = stands (place.CountLoaded look bucket least) (λ e. cc e) there
  raises at least (some_units, inr (sample, histogram, known, there, seen, takes_it, spot)) = stands (place.SampleLoaded sample least) (λ e. cc e) there

  raises_single : {X : Type 0} (histogram least : ℕ) → Ready a (taking_event (raise_single_mark histogram least)) → X
  raises_single histogram least (some_units, takes_it, inl (look, known, word, looks_at, saw, is)) = stands (place.Looking look) (λ e. cc e) looks_at.0
  raises_single histogram least (some_units, takes_it, inr (look, bucket, count, word, there, of, single, packs, is)) =
      stands (place.CountLoaded look bucket count) (λ e. cc e) there

  counts : {X : Type 0} (at units : ℕ) → Ready a (counting_event (add_count at units)) → X
  counts at units (c, known, is_next, named, of, inl (look, bucket, off, keyed, spot)) = stands (place.Looking look) (λ e. cc e) off.0
  counts at units (c, known, is_next, named, of, inr (sample, free, sparse, first, spot)) = turned free

  moves : {X : Type 0} (old new : ℕ) → Ready a (publishing_event (move_tail old new)) → X
  moves old new (inl at) = stands (place.Linked new old) (λ e. cc e) at
  moves old new (inr at) = stands (place.Beaten old new) (λ e. cc e) at

  gone_on : (event : Event) (found : ℕ) → Ready a event → (next a event found).hand.place ≡ Spent
  gone_on (allocating_event load_flags) found ready = turned ready
  gone_on (allocating_event load_free) found ready = stands place.FlagsLoaded (λ e. cc e) ready
  gone_on (allocating_event (exchange_free old new wanted)) found ready = stands (place.FreeLoaded old) (λ e. cc e) ready.0
  gone_on (allocating_event (store_size at size)) found ready = stands (place.Raised at size ready.0) (λ e. cc e) ready.1
  gone_on (allocating_event (store_cookie at cookie)) found ready = stands (place.Sized at ready.0 ready.1) (λ e. cc e) ready.2
  gone_on (allocating_event (store_type at tag)) found ready = stands (place.Marked at ready.0.0) (λ e. cc e) ready.0.1
  gone_on (allocating_event (store_payload at index value)) found ready = gone
  gone_on (allocating_event set_corrupt) found ready = turned ready
  gone_on (allocating_event (set_full wanted)) found ready = stands (place.FreeLoaded ready.0) (λ e. cc e) ready.1
  gone_on (publishing_event (store_own_next at)) found ready = gone
  gone_on (publishing_event load_tail) found ready = turned ready.0
  gone_on (publishing_event (link tail at)) found ready = stands (place.TailLoaded tail) (λ e. cc e) ready.2
  gone_on (publishing_event (move_tail old new)) found ready = moves old new ready
  gone_on (walking_event (load_next at)) found ready = turned ready.0
  gone_on (walking_event (load_published at index)) found ready = turned ready.0
  gone_on (counting_event (load_counts histogram)) found ready = turned ready.0
  gone_on (counting_event (add_count at units)) found ready = counts at units ready
  gone_on (counting_event (add_sum histogram amount)) found ready = turned ready.0
  gone_on (counting_event (add_redundant histogram units)) found ready = turned ready.0
  gone_on (taking_event (load_count at)) found ready = loads at ready
  gone_on (taking_event (raise_mark at least)) found ready = raises at least ready
  gone_on (taking_event (load_sum histogram)) found ready = turned ready.0
  gone_on (taking_event (swap_sum_mark histogram sum)) found ready = stands (place.SumLoaded histogram sum) (λ e. cc e) ready.2
  gone_on (taking_event (load_redundant histogram)) found ready = stands (place.SumLoaded histogram ready.0.0) (λ e. cc e) ready.0.1
  gone_on (taking_event (raise_single_mark histogram least)) found ready = raises_single histogram least ready
  gone_on (packing_event (load_single histogram)) found ready = turned ready.0
  gone_on (packing_event (pack histogram old new)) found ready = stands (place.Looking ready.1) (λ e. cc e) ready.5.0
  gone_on (packing_event (mount_counts histogram at)) found ready = turned ready.2
  gone_on (packing_event (purge_block at)) found ready = stands (place.Losing ready.0 at) (λ e. cc e) ready.1
  gone_on (packing_event (disable histogram old)) found ready = stands (place.Looking ready.0) (λ e. cc e) ready.2.0
  gone_on (packing_event (add_moved counts bucket units)) found ready = stands (place.Moving ready.0 bucket units) (λ e. cc e) ready.1
  gone_on (cursor_event (load_cursor cursor)) found ready = turned ready.0
  gone_on (cursor_event (move_cursor cursor old new)) found ready = stands (place.BehindCursor cursor old new) (λ e. cc e) ready

-- ---- notes

-- a note leaves its actor's place, and what the actor has done to the segment
note_leaves : (a : Actor) (note : Note) → ((noted a note).hand.place ≡ a.hand.place) × ((noted a note).done ≡ a.done)
note_leaves a (begins name cost entries) = (refl, refl)
note_leaves a (goes_on entry cost) = (refl, refl)
note_leaves a (amounts amount) = (refl, refl)
note_leaves a (asks at made) = (refl, refl)
note_leaves a (knows known) = (refl, refl)
note_leaves a (declines mine) = (refl, refl)
note_leaves a (takes name) = (refl, refl)
note_leaves a has_taken = (refl, refl)
note_leaves a looks = (refl, refl)
note_leaves a (answers answered) = (refl, refl)
note_leaves a ends = (refl, refl)
note_leaves a (refused added) = (refl, refl)

pub notes_leave : (notes : List Note) (a b : Actor) → Notes a notes b → (b.hand.place ≡ a.hand.place) × (b.done ≡ a.done)
notes_leave [] a b same = (ap (λ (x : Actor). x.hand.place) (sym same), ap (λ (x : Actor). x.done) (sym same))
notes_leave (note ∷ rest) a b (may, more) =
    let one = note_leaves a note in
    let others = notes_leave rest (noted a note) b more in
    (others.0 ∙ one.0, others.1 ∙ one.1)

-- ---- whatever happens

-- it is at no allocation, and has claimed these
abbrev Quiet : List Claim → Place → Done → Type 0
Quiet claimed p d = (allocates p ≡ false) × (d.spoiled ≡ true) × (d.claimed ≡ claimed)

-- it was joined, or has claimed no more
abbrev Still : List Claim → Place → Done → Type 0
Still claimed p d = (p ≡ Spent) ⊎ Quiet claimed p d

still_as : (claimed : List Claim) (p q : Place) (d e : Done) → q ≡ p → e ≡ d → Still claimed p d → Still claimed q e
still_as claimed p q d e placed done = subst (λ (x : Place × Done). Still claimed x.0 x.1) (λ i. (sym placed i, sym done i))

-- its event
still_on : (claimed : List Claim) (a : Actor) (event : Event) (found : ℕ) → Ready a event → Learned a event found → Still claimed a.hand.place a.done
    → Still claimed (next a event found).hand.place (next a event found).done
still_on claimed a event found ready learned (inl gone) = inl (gone_on a gone event found ready)
still_on claimed a event found ready learned (inr (rests, spoiled, is)) =
    let steady = steady_on a (λ sets. rests) event found ready learned in
    let (sets, same) = steady.1 spoiled in
    inr (steady.0 sets, sets, same ∙ is)

-- the actor of this number is still
abbrev IsStill : List Claim → List Actor → ℕ → Type 0
IsStill claimed actors who = (c : Actor) × (get_elem? actors who ≡ some c) × Still claimed c.hand.place c.done

-- another record of an actor, which is still if the actor is the one
another : (claimed : List Claim) (actors : List Actor) (id who : ℕ) (a x : Actor) → get_elem? actors id ≡ some a
    → (Still claimed a.hand.place a.done → Still claimed x.hand.place x.done) → IsStill claimed actors who → IsStill claimed (set actors id x) who
another claimed actors id who a x there on (c, stands_there, still) = dite (ℕ_discrete who id)
    (λ same.
    let one : a ≡ c = some-injective a c (sym there ∙ (ap (get_elem? actors) (sym same) ∙ stands_there)) in (
      x,
      ap (get_elem? (set actors id x)) same ∙ set_here actors id x (below_length actors id a there),
      on (subst (λ (b : Actor). Still claimed b.hand.place b.done) (sym one) still),
    ))
    (λ apart. (c, set_else actors id who x apart ∙ stands_there, still))

pub spoilers_claim_nothing : SpoilersClaimNothing
spoilers_claim_nothing shape opened start state who a b kept there records spoiled idle reached now lives =
    let (c, here, still) = go state reached in
    let same : c ≡ b = some-injective c b (sym here ∙ now) in
    ⊎_elim (λ gone. absurd (lives (ap (λ (x : Actor). x.hand.place) (sym same) ∙ gone)))
    (λ (quiet : Quiet a.done.claimed c.hand.place c.done). ap (λ (x : Actor). x.done.claimed) (sym same) ∙ quiet.2)
    still
  where
    claimed : List Claim
    claimed = a.done.claimed

    -- it is not the opener, which comes first
    not_first : who ≢ 0
    not_first first =
        let one : a ≡ kept.roles.opener = some-injective _ _ (sym there ∙ (ap (get_elem? start.actors) first ∙ kept.roles.stands)) in
        true≢false (sym kept.roles.opens ∙ (ap (λ (x : Actor). is_opener x.role) (sym one) ∙ records))

    keeps : (state : State) → IsReached opened.version start state → Invariant shape opened state
    keeps state reached = reached_states_follow shape opened start state kept reached

    all : (old new : State) (actors : List Actor) → new.actors ≡ actors → IsStill claimed actors who → IsStill claimed new.actors who
    all old new actors are = subst (λ (list : List Actor). IsStill claimed list who) (sym are)

    go : (state : State) → IsReached opened.version start state → IsStill claimed state.actors who
    go state started = (a, there, inr (ap allocates idle, spoiled, refl))
    go state (stepped old new id event before step) =
        all old new (set old.actors id step.then_is) step.actors_are (another claimed old.actors id who step.actor step.then_is step.there
        (λ still.
        let first = notes_leave step.before step.actor step.at step.notes_before in
        let last = notes_leave step.behind (next step.at event (found_at old event)) step.then_is step.notes_behind in
        let learned = (steps_follow shape opened old new id event step (keeps old before)).1 in
        still_as claimed _ _ _ _ last.0 last.1
        (still_on claimed step.at event (found_at old event) step.ready learned (still_as claimed _ _ _ _ first.0 first.1 still)))
        (go old before))
    go state (announced old new id before (x, y, notes, stands_there, recorder, noting, is)) =
        all old new (set old.actors id y) (ap (λ (s : State). s.actors) is) (another claimed old.actors id who x y stands_there
        (λ still. let same = notes_leave notes x y noting in still_as claimed _ _ _ _ same.0 same.1 still) (go old before))
    go state (offered old new id units before (x, stands_there, may, is)) =
        all old new _ (ap (λ (s : State). s.actors) is) (another claimed old.actors id who x _ stands_there (λ still. still) (go old before))
    go state (split old new id before (x, stands_there, may, is)) =
        let (c, here, still) = another claimed old.actors id who x (parent x) stands_there (λ still. still) (go old before) in
        all old new _ (ap (λ (s : State). s.actors) is) (c, at_longer (set old.actors id (parent x)) _ who c here, still)
    go state (lent old new id other units before (x, y, apart, stands_there, beside, may, is)) =
        all old new _ (ap (λ (s : State). s.actors) is)
        (another claimed _ other who y _ (set_else old.actors id other _ (λ e. apart (sym e)) ∙ beside) (λ still. still)
        (another claimed old.actors id who x _ stands_there (λ still. still) (go old before)))
    go state (returned old new id other units before (x, y, apart, stands_there, beside, may, is)) =
        all old new _ (ap (λ (s : State). s.actors) is)
        (another claimed _ other who y _ (set_else old.actors id other _ (λ e. apart (sym e)) ∙ beside) (λ still. still)
        (another claimed old.actors id who x _ stands_there (λ still. still) (go old before)))
    go state (purse_filled old new id before (x, stands_there, may, is)) =
        let (c, here, still) = another claimed old.actors id who x (lender x) stands_there (λ still. still) (go old before) in
        all old new _ (ap (λ (s : State). s.actors) is) (c, at_longer (set old.actors id (lender x)) _ who c here, still)
    go state (purse_poured old new id other before (x, y, apart, stands_there, beside, may, is)) =
        all old new _ (ap (λ (s : State). s.actors) is)
        (another claimed _ other who y _ (set_else old.actors id other _ (λ e. apart (sym e)) ∙ beside) (λ still. inl refl)
        (another claimed old.actors id who x _ stands_there (λ still. still) (go old before)))
    go state (joined_in old new id other before (x, y, apart, stands_there, beside, may, is)) =
        let (c, here, still) = go old before in
        let other_one : who ≢ id = λ same.
        let opens : is_opener x.role ≡ true = may.1 in
        let one : c ≡ x = some-injective c x (sym here ∙ (ap (get_elem? old.actors) same ∙ stands_there)) in
        true≢false (sym opens ∙ (ap (λ (k : Actor). is_opener k.role) (sym one) ∙ ((keeps old before).roles.only who c here not_first).0)) in
        all old new _ (ap (λ (s : State). s.actors) is)
        (another claimed _ other who y _ (set_else old.actors id other _ (λ e. apart (sym e)) ∙ beside) (λ still. inl refl)
        (c, set_else old.actors id who _ other_one ∙ here, still))

-- ---- in the states that are reached from a kept one in which an opener is alone

-- a recorder is at no allocation once it has set the corrupt flag
abbrev RecorderRests : Actor → Type 0
RecorderRests x = is_opener x.role ≡ false → Rests x

-- its step
module _ (shape : Dimensions) (opened : Anatomy) (old new : State) (who : ℕ) (event : Event) (kept : Invariant shape opened old)
    (step : IsStep opened.version old who event new) (rests : RecorderRests step.actor) where
  step_of : Rests step.then_is × (step.actor.done.spoiled ≡ true → (step.then_is.done.spoiled ≡ true) × (step.then_is.done.claimed ≡ step.actor.done.claimed))
  step_of =
      let first = notes_leave step.before step.actor step.at step.notes_before in
      let last = notes_leave step.behind (next step.at event (found_at old event)) step.then_is step.notes_behind in
      let learned = (steps_follow shape opened old new who event step kept).1 in
      let stood : Rests step.at = subst (λ (x : Place × Done). x.1.spoiled ≡ true → allocates x.0 ≡ false) (λ i. (sym first.0 i, sym first.1 i)) (rests step.is_recorder) in
      let steady = steady_on step.at stood event (found_at old event) step.ready learned in
      subst (λ (x : Place × Done × Done). (x.1.spoiled ≡ true → allocates x.0 ≡ false) × (x.2.spoiled ≡ true → (x.1.spoiled ≡ true) × (x.1.claimed ≡ x.2.claimed)))
      (λ i. (sym last.0 i, sym last.1 i, first.1 i)) steady

module _ (shape : Dimensions) (opened : Anatomy) (start : State) (kept : Invariant shape opened start) (opener : Actor) (alone : start.actors ≡ opener ∷ [])
    (first_opens : is_opener opener.role ≡ true) where
  keeps : (state : State) → IsReached opened.version start state → Invariant shape opened state
  keeps state reached = reached_states_follow shape opened start state kept reached

  opens : (x : Actor) → is_opener x.role ≡ true → RecorderRests x
  opens x is records = absurd (true≢false (sym is ∙ records))

  -- this holds for all of them
  all_rest : (state : State) → IsReached opened.version start state → All RecorderRests state.actors
  all_rest state started =
      subst (All RecorderRests) (sym alone) (All-cons RecorderRests opener [] (opens opener first_opens) (All-nil RecorderRests))
  all_rest state (stepped old new who event before step) =
      let all = all_rest old before in
      subst (All RecorderRests) (sym step.actors_are) (All-set RecorderRests old.actors who step.then_is
      (λ records. (step_of shape opened old new who event (keeps old before) step (all_at RecorderRests old.actors who step.actor all step.there)).0) all)
  all_rest state (announced old new who before (x, y, notes, there, recorder, noting, is)) =
      let same = notes_leave notes x y noting in
      let all = all_rest old before in
      let stood = all_at RecorderRests old.actors who x all there recorder in
      subst (All RecorderRests) (sym (ap (λ (s : State). s.actors) is)) (All-set RecorderRests old.actors who y
      (λ records. subst (λ (p : Place × Done). p.1.spoiled ≡ true → allocates p.0 ≡ false) (λ i. (sym same.0 i, sym same.1 i)) stood) all)
  all_rest state (offered old new who units before (x, there, may, is)) =
      subst (All RecorderRests) (sym (ap (λ (s : State). s.actors) is)) (All-set RecorderRests old.actors who _ (opens (offering x units) refl) (all_rest old before))
  all_rest state (split old new who before (x, there, may, is)) =
      subst (All RecorderRests) (sym (ap (λ (s : State). s.actors) is)) (All-push RecorderRests _ (newcomer x)
      (All-set RecorderRests old.actors who _ (opens (parent x) refl) (all_rest old before)) (λ records spoiled. refl))
  all_rest state (lent old new who other units before (x, y, apart, there, beside, may, is)) =
      let all = all_rest old before in
      subst (All RecorderRests) (sym (ap (λ (s : State). s.actors) is)) (All-set RecorderRests _ other _ (all_at RecorderRests old.actors other y all beside)
      (All-set RecorderRests old.actors who _ (all_at RecorderRests old.actors who x all there) all))
  all_rest state (returned old new who other units before (x, y, apart, there, beside, may, is)) =
      let all = all_rest old before in
      subst (All RecorderRests) (sym (ap (λ (s : State). s.actors) is)) (All-set RecorderRests _ other _ (all_at RecorderRests old.actors other y all beside)
      (All-set RecorderRests old.actors who _ (all_at RecorderRests old.actors who x all there) all))
  all_rest state (purse_filled old new who before (x, there, may, is)) =
      subst (All RecorderRests) (sym (ap (λ (s : State). s.actors) is)) (All-push RecorderRests _ (purse _)
      (All-set RecorderRests old.actors who _ (opens (lender x) refl) (all_rest old before)) (λ records spoiled. refl))
  all_rest state (purse_poured old new who other before (x, y, apart, there, beside, may, is)) =
      let all = all_rest old before in
      subst (All RecorderRests) (sym (ap (λ (s : State). s.actors) is)) (All-set RecorderRests _ other spent (λ records spoiled. refl)
      (All-set RecorderRests old.actors who _ (all_at RecorderRests old.actors who x all there) all))
  all_rest state (joined_in old new who other before (x, y, apart, there, beside, may, is)) =
      subst (All RecorderRests) (sym (ap (λ (s : State). s.actors) is)) (All-set RecorderRests _ other spent (λ records spoiled. refl)
      (All-set RecorderRests old.actors who _ (opens (joined x y) refl) (all_rest old before)))

  -- a recorder that has set the corrupt flag has still set it after a step, which claims nothing
  pub spoilers_step_on : (old new : State) (who : ℕ) (event : Event) → IsReached opened.version start old → (step : IsStep opened.version old who event new)
      → step.actor.done.spoiled ≡ true → (step.then_is.done.spoiled ≡ true) × (step.then_is.done.claimed ≡ step.actor.done.claimed)
  spoilers_step_on old new who event reached step =
      (step_of shape opened old new who event (keeps old reached) step (all_at RecorderRests old.actors who step.actor (all_rest old reached) step.there)).1
