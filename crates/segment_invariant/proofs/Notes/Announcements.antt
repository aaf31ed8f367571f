-- Notes keep what holds one after the other, and so does an announcement of them.
use Rattle.segment_invariant.proofs.Prelude.Std.{◌≡◌, ℕ, List, [], ◌∷◌, set, refl, sym, ap, subst, ◌∙◌, false, set-set, some, get_elem?}
use Rattle.segment_invariant.proofs.Prelude.Machine.{Dimensions, Actor, Note, Notes, noted, begins, State, is_opener}
use Rattle.segment_invariant.proofs.Prelude.Invariant.{Anatomy, Invariant, KeptOn}
use Rattle.atomic_table.proofs.Lists.{set_again}
use Rattle.alloc_core.proofs.Owners.{set_at}
use Rattle.segment_machine.specs.Note.{goes_on, amounts, asks, knows, takes, has_taken, looks, answers, ends, refused, declines}
use Rattle.segment_invariant.specs.Keeps.{AnnouncementsKeep}
use Rattle.segment_invariant.proofs.Frames.Rises.{kept_again, kept_itself}
use Rattle.segment_invariant.proofs.Notes.Keeps.{notes_keep}

-- a note makes no opener of a recorder
still_records : (a : Actor) (note : Note) → is_opener (noted a note).role ≡ is_opener a.role
still_records a (begins name cost entries) = refl
still_records a (goes_on entry cost) = refl
still_records a (amounts amount) = refl
still_records a (asks at made) = refl
still_records a (knows known) = refl
still_records a (declines mine) = refl
still_records a (takes name) = refl
still_records a has_taken = refl
still_records a looks = refl
still_records a (answers answered) = refl
still_records a ends = refl
still_records a (refused added) = refl

-- the state with another record of an actor
abbrev pub with_actor : State → ℕ → Actor → State
with_actor state id a = record state { actors = set state.actors id a }

-- notes keep what holds one after the other
pub notes_follow : (shape : Dimensions) (opened : Anatomy) (notes : List Note) (state : State) (id : ℕ) (a b : Actor) (kept : Invariant shape opened state)
    → get_elem? state.actors id ≡ some a → is_opener a.role ≡ false → Notes a notes b
    → KeptOn shape opened kept (with_actor state id b) × (is_opener b.role ≡ false)
notes_follow shape opened [] state id a b kept there records same = (
  subst (λ actors. KeptOn shape opened kept (record state { actors = actors }))
      (sym (set_again state.actors id a there) ∙ ap (λ x. set state.actors id x) same) (kept_itself shape opened state kept),
  sym (ap (λ (x : Actor). is_opener x.role) same) ∙ records,
)
notes_follow shape opened (note ∷ notes) state id a b kept there records (may, more) =
    let first = notes_keep note shape opened state id a kept there records may in
    let after_it = notes_follow shape opened notes (with_actor state id (noted a note)) id (noted a note) b first.0
    (set_at state.actors id a (noted a note) there) (still_records a note ∙ records) more in (
      subst (λ actors. KeptOn shape opened kept (record state { actors = actors })) (set-set state.actors id (noted a note) b)
          (kept_again shape opened state kept first after_it.0),
      after_it.1,
    )

pub announcements_keep : AnnouncementsKeep
announcements_keep shape opened old new id kept (a, b, notes, there, records, noting, is) =
    subst (KeptOn shape opened kept) (sym is) (notes_follow shape opened notes old id a b kept there records noting).0
