-- That the rule of a segment's table allows the announcement of a snapshot's answer.
use Rattle.std.proofs.Common.{◌≡◌, ℕ, false, ◌==◌, [], ◌∷◌, refl, sym, ap, ◌∙◌}
use mathlib.Core.Option.{some, some-injective}
use prog.Atomic.{either}
use Rattle.atomic_table.specs.Table.{step, Allows}
use Rattle.segment_calls.specs.declared.answer.Snapshot.{Snapshot}
use Rattle.segment_machine.specs.declared.actor.Known.{Known}
use Rattle.segment_machine.specs.Actor.{is_opener}
use Rattle.segment_machine.specs.Note.{Note, answers, noted, MayNote}
use Rattle.live_segment.specs.declared.rule.Announcement.{Announcement}
use Rattle.live_segment.specs.declared.rule.Announcement.TheVariants.{Answer}
use Rattle.live_segment.specs.declared.rule.Opening.{Opening}
use Rattle.live_segment.specs.Rule.{Runs}
use Rattle.live_segment.specs.Steps.{Sat}
use Rattle.live_segment.specs.Steps.Taking.{NotesAnswer, answered_as}
use Rattle.live_segment.specs.Steps.GhostNotes.{KnowsAlone}
use Rattle.live_segment.proofs.Seating.Openings.{announces}
use Rattle.live_segment.proofs.Seating.Seated.{nothing_exchanged}
use Rattle.live_segment.proofs.lemmas.Steps.GhostNoted.{one_known}

-- what is announced is the answer of only one histogram
module _ (histogram : ℕ) (snapshot : Snapshot) where
  abbrev reference_said : Announcement → ℕ
  reference_said (Answer n s) = n
  reference_said _ = histogram

  abbrev snapshot_said : Announcement → Snapshot
  snapshot_said (Answer n s) = s
  snapshot_said _ = snapshot

pub one_answer : (one other : Known) (x y : Snapshot) → some (Answer one.reference x) ≡ some (Answer other.reference y)
    → (one.reference ≡ other.reference) × (x ≡ y)
one_answer one other x y same =
    let said = some-injective (Answer one.reference x) (Answer other.reference y) same in
    (ap (reference_said one.reference x) said, ap (snapshot_said one.reference x) said)

module _ (given : Opening) (slots id : ℕ) (me : Sat) (records : is_opener me.0.role ≡ false) where
  pub answers_said : (said : Announcement) (known : Known) (snapshot : Snapshot) → said ≡ Answer known.reference snapshot → KnowsAlone me.0 known
      → MayNote me.0 (answers (answered_as me.0 known snapshot))
      → Allows (Runs given) slots id me 0 (λ n. either (n == 0) 0 n) (NotesAnswer (step slots 0 0 0 (some said)) me)
  answers_said said known snapshot says alone may s run wide mine small =
      let note : Known → Snapshot → Note = λ k x. answers (answered_as me.0 k x) in
      let (view, act, valid, holds, told) =
      announces given (note known snapshot ∷ []) slots id me (λ n. either (n == 0) 0 n) nothing_exchanged
      records (may, refl) s run wide mine small in (
        view,
        act,
        valid,
        holds,
        λ other saw is knows.
            let same = one_answer known other snapshot saw (ap some (sym says) ∙ is) in
            let one : known ≡ other = one_known me.0 known other same.0 alone knows in
            (told.0 ∙ (λ i. noted me.0 (note (one i) (same.1 i))), told.1),
      )
