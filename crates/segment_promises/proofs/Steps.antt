-- What follows at once for code that steps a segment.
use Rattle.segment_invariant.proofs.Prelude.Std.{◌≡◌, ℕ, Bool, true, false, List, take, drop, length, set, refl, sym, ap, subst, ◌∙◌, set-set, take-append_seam, some, get_elem?}
use Rattle.segment_invariant.proofs.Prelude.Machine.{Dimensions, Actor, Event, Ready, Learned, allocating_event, publishing_event, walking_event, counting_event, taking_event, packing_event, next, load_flags, load_free, exchange_free, store_size, store_cookie, store_type, store_payload, set_corrupt, set_full, store_own_next, load_tail, link, move_tail, after_link, load_next, load_published, load_counts, add_count, add_sum, load_count, raise_mark, load_sum, swap_sum_mark, load_redundant, raise_single_mark, load_single, pack, mount_counts, purge_block, disable, add_moved, after_pack, after_mount, after_disable, Note, Notes, State, is_opener}
use Rattle.segment_invariant.proofs.Prelude.Invariant.{Anatomy, Invariant, KeptOn, found_at}
use Rattle.std.proofs.Common.{eqb}
use Rattle.std.proofs.Math.Seq.{drop-append_seam}
use Rattle.alloc_core.proofs.Owners.{set_at}
use Rattle.segment_machine.specs.Event.{cursor_event, after}
use Rattle.segment_machine.specs.Allocating.{after_free}
use Rattle.segment_machine.specs.Counting.{add_redundant}
use Rattle.segment_machine.specs.Cursors.{load_cursor, move_cursor, after_cursor}
use Rattle.segment_machine.specs.State.{memory, IsStep}
use Rattle.segment_invariant.proofs.Events.{events_keep}
use Rattle.segment_invariant.proofs.Frames.Rises.{kept_again}
use Rattle.segment_invariant.proofs.Notes.Announcements.{with_actor, notes_follow}
use Rattle.segment_promises.specs.Follows.{StepsFollow}

-- ---- steps

-- nor does what becomes of an actor whose exchange succeeded or failed
module _ (a : Actor) where
  freed : (b : Bool) (old new wanted found : ℕ) → is_opener (after_free b a old new wanted found).role ≡ is_opener a.role
  freed true old new wanted found = refl
  freed false old new wanted found = refl

  linked : (b : Bool) (tail at found : ℕ) → is_opener (after_link b a tail at found).role ≡ is_opener a.role
  linked true tail at found = refl
  linked false tail at found = refl

  packed : (b : Bool) (histogram new found : ℕ) → is_opener (after_pack b a histogram new found).role ≡ is_opener a.role
  packed true histogram new found = refl
  packed false histogram new found = refl

  mounted : (b : Bool) (histogram at found : ℕ) → is_opener (after_mount b a histogram at found).role ≡ is_opener a.role
  mounted true histogram at found = refl
  mounted false histogram at found = refl

  disabled : (b : Bool) (histogram old found : ℕ) → is_opener (after_disable b a histogram old found).role ≡ is_opener a.role
  disabled true histogram old found = refl
  disabled false histogram old found = refl

  gave : (b : Bool) (cursor new found : ℕ) → is_opener (after_cursor b a cursor new found).role ≡ is_opener a.role
  gave true cursor new found = refl
  gave false cursor new found = refl

-- nor does an event
acts_on : (a : Actor) (event : Event) (found : ℕ) → is_opener (next a event found).role ≡ is_opener a.role
acts_on a (allocating_event load_flags) found = refl
acts_on a (allocating_event load_free) found = refl
acts_on a (allocating_event (exchange_free old new wanted)) found = freed a (eqb found old) old new wanted found
acts_on a (allocating_event (store_size at size)) found = refl
acts_on a (allocating_event (store_cookie at cookie)) found = refl
acts_on a (allocating_event (store_type at tag)) found = refl
acts_on a (allocating_event (store_payload at index value)) found = refl
acts_on a (allocating_event set_corrupt) found = refl
acts_on a (allocating_event (set_full wanted)) found = refl
acts_on a (publishing_event (store_own_next at)) found = refl
acts_on a (publishing_event load_tail) found = refl
acts_on a (publishing_event (link tail at)) found = linked a (eqb found 12) tail at found
acts_on a (publishing_event (move_tail old new)) found = refl
acts_on a (walking_event (load_next at)) found = refl
acts_on a (walking_event (load_published at index)) found = refl
acts_on a (counting_event (load_counts histogram)) found = refl
acts_on a (counting_event (add_count at units)) found = refl
acts_on a (counting_event (add_sum histogram amount)) found = refl
acts_on a (counting_event (add_redundant histogram units)) found = refl
acts_on a (taking_event (load_count at)) found = refl
acts_on a (taking_event (raise_mark at least)) found = refl
acts_on a (taking_event (load_sum histogram)) found = refl
acts_on a (taking_event (swap_sum_mark histogram sum)) found = refl
acts_on a (taking_event (load_redundant histogram)) found = refl
acts_on a (packing_event (load_single histogram)) found = refl
acts_on a (packing_event (pack histogram old new)) found = packed a (eqb found old) histogram new found
acts_on a (packing_event (mount_counts histogram at)) found = mounted a (eqb found 0) histogram at found
acts_on a (packing_event (purge_block at)) found = refl
acts_on a (packing_event (disable histogram old)) found = disabled a (eqb found old) histogram old found
acts_on a (packing_event (add_moved counts bucket units)) found = refl
acts_on a (taking_event (raise_single_mark histogram least)) found = refl
acts_on a (cursor_event (load_cursor cursor)) found = refl
acts_on a (cursor_event (move_cursor cursor old new)) found = gave a (eqb found old) cursor new found

-- the words and cursors of a state are the front and the back of its memory
pub words_of_memory : (s : State) (n : ℕ) (m : List ℕ) → length s.words ≡ n → memory s ≡ m → take n m ≡ s.words
words_of_memory s n m size is = sym (ap (λ (p : ℕ). take p m) size) ∙ (ap (take (length s.words)) (sym is) ∙ take-append_seam s.words s.cursors)

cursors_of_memory : (s : State) (n : ℕ) (m : List ℕ) → length s.words ≡ n → memory s ≡ m → drop n m ≡ s.cursors
cursors_of_memory s n m size is = sym (ap (λ (p : ℕ). drop p m) size) ∙ (ap (drop (length s.words)) (sym is) ∙ drop-append_seam s.words s.cursors)

-- An event keeps what holds, with notes before and after it, and its actor learns of the number that was found.
module _ (shape : Dimensions) (opened : Anatomy) (old : State) (id : ℕ) (a at : Actor) (before : List Note) (event : Event) where
  -- the number that the event finds
  abbrev found : ℕ
  found = found_at old event

  abbrev all : List ℕ
  all = after (length old.words) opened.version event (memory old)

  -- the state after the event and the notes after that
  abbrev then_with : Actor → State
  then_with b = record { words = take (length old.words) all; cursors = drop (length old.words) all; actors = set old.actors id b }

  -- and what is published continues
  pub happens_on : (kept : Invariant shape opened old) → get_elem? old.actors id ≡ some a → is_opener a.role ≡ false → Notes a before at
      → Ready at event → (behind : List Note) (then_is : Actor)
      → (Learned at event found → Notes (next at event found) behind then_is)
      → KeptOn shape opened kept (then_with then_is) × Learned at event found
  happens_on kept there records notes_before ready behind then_is goes =
      let first = notes_follow shape opened before old id a at kept there records notes_before in
      let did = events_keep event shape opened (with_actor old id at) id at first.0.0 (set_at old.actors id a at there) first.1 ready in
      let acted : Actor = next at event found in
      let mid : State = record { words = take (length old.words) all; cursors = drop (length old.words) all; actors = set (set old.actors id at) id acted } in
      let stands = set_at (set old.actors id at) id at acted (set_at old.actors id a at there) in
      let last = notes_follow shape opened behind mid id acted then_is did.0.0 stands (acts_on at event found ∙ first.1) (goes did.1) in
      let actors = set-set (set old.actors id at) id acted then_is ∙ set-set old.actors id at then_is in (
        subst (λ list. KeptOn shape opened kept (record (then_with then_is) { actors = list })) actors
            (kept_again shape opened old kept first.0 (kept_again shape opened (with_actor old id at) first.0.0 did.0 last.0)),
        did.1,
      )

  pub happens : Invariant shape opened old → get_elem? old.actors id ≡ some a → is_opener a.role ≡ false → Notes a before at
      → Ready at event → (behind : List Note) (then_is : Actor)
      → (Learned at event found → Notes (next at event found) behind then_is)
      → Invariant shape opened (then_with then_is) × Learned at event found
  happens kept there records notes_before ready behind then_is goes =
      let did = happens_on kept there records notes_before ready behind then_is goes in
      (did.0.0, did.1)

-- so does a step, and what is published continues
pub steps_rise : (shape : Dimensions) (opened : Anatomy) (old new : State) (id : ℕ) (event : Event) (step : IsStep opened.version old id event new)
    (kept : Invariant shape opened old) → KeptOn shape opened kept new × Learned step.at event (found_at old event)
steps_rise shape opened old new id event step kept =
    let did = happens_on shape opened old id step.actor step.at step.before event kept step.there step.is_recorder step.notes_before
    step.ready step.behind step.then_is (λ learned. step.notes_behind) in
    let size = length old.words in
    let all = after size opened.version event (memory old) in
    let actors : set old.actors id step.then_is ≡ new.actors = sym step.actors_are in (
      subst (KeptOn shape opened kept)
          (λ i. record {
            words = words_of_memory new size all step.size step.memory_is i;
            cursors = cursors_of_memory new size all step.size step.memory_is i;
            actors = actors i;
          })
          did.0,
      did.1,
    )

pub steps_follow : StepsFollow
steps_follow shape opened old new id event step kept =
    let did = steps_rise shape opened old new id event step kept in
    (did.0.0, did.1)
