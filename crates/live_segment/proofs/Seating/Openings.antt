-- What keeps a segment, with whatever blocks it was opened, keeps its rule: a step, an announcement, a seat that is split or joined.
use Rattle.std.proofs.Common.{◌≡◌, ℕ, ◌+◌, false, List, subst}
use Rattle.atomic_table.specs.Table.{Allows, Splits, Joins}
use Rattle.segment_machine.specs.declared.actor.Actor.{Actor}
use Rattle.segment_machine.specs.Actor.{is_opener}
use Rattle.segment_machine.specs.Event.{Event, spot, change, next, Ready, Learned}
use Rattle.segment_machine.specs.Note.{Note}
use Rattle.segment_invariant.specs.Body.{Anatomy}
use Rattle.segment_promises.specs.Follows.{GhostNoted, MayNoteAll, Running, noted_by}
use Rattle.segment_promises.proofs.Tables.{tables_follow, tables_announce}
use Rattle.live_segment.specs.declared.rule.Announcement.{Announcement}
use Rattle.live_segment.specs.declared.rule.Opening.{Opening}
use Rattle.live_segment.specs.Rule.{IsOpenedAs, Runs, opening_state}
use Rattle.live_segment.specs.Steps.{Sat}

module _ (given : Opening) where
  pub allows : (slots id : ℕ) (me : Sat) (word : ℕ) (becomes : ℕ → ℕ) (then : ℕ → Sat → Type 0)
      → ((opened : Anatomy) → IsOpenedAs given opened → Allows (Running Announcement given.setting.shape opened (opening_state given)) slots id me word becomes then)
      → Allows (Runs given) slots id me word becomes then
  allows slots id me word becomes then each s run wide mine small =
      let (view, act, valid, holds, told) = each run.opened run.as_said s run.running wide mine small in
      (view, act, valid, record { opened = run.opened; as_said = run.as_said; start = run.start; running = holds }, told)

  pub splits_all : (id : ℕ) (a left right : Actor) → ((opened : Anatomy) → Splits (Running Announcement given.setting.shape opened (opening_state given)) id a left right)
      → Splits (Runs given) id a left right
  splits_all id a left right each s run mine =
      record { opened = run.opened; as_said = run.as_said; start = run.start; running = each run.opened s run.running mine }

  pub joins_all : (id other : ℕ) (a b both spent : Actor) → ((opened : Anatomy) → Joins (Running Announcement given.setting.shape opened (opening_state given)) id a other b both spent)
      → Joins (Runs given) id a other b both spent
  joins_all id other a b both spent each s run mine apart theirs =
      record { opened = run.opened; as_said = run.as_said; start = run.start; running = each run.opened s run.running mine apart theirs }

  pub follows : (before : List Note) (event : Event) (behind : ℕ → List Note) (slots id : ℕ) (me : Sat) (word : ℕ)
      → word ≡ spot given.setting.shape.size event + 1 → is_opener me.0.role ≡ false → MayNoteAll me.0 before → Ready (noted_by me.0 before) event
      → ((found : ℕ) → Learned (noted_by me.0 before) event found → MayNoteAll (next (noted_by me.0 before) event found) (behind found))
      → Allows (Runs given) slots id me word (change given.setting.version event) (GhostNoted before event behind me)
  follows before event behind slots id me word at records may ready goes = allows slots id me word (change given.setting.version event) (GhostNoted before event behind me)
      (λ opened as_said.
      subst (λ (version : ℕ). Allows (Running Announcement given.setting.shape opened (opening_state given)) slots id me word (change version event) (GhostNoted before event behind me)) as_said.version
      (tables_follow Announcement given.setting.shape opened (opening_state given) before event behind slots id me word at records may ready goes))

  pub announces : (notes : List Note) (slots id : ℕ) (me : Sat) (becomes : ℕ → ℕ) → ((n : ℕ) → becomes n ≡ n) → is_opener me.0.role ≡ false
      → MayNoteAll me.0 notes → Allows (Runs given) slots id me 0 becomes (λ found me'. (me'.0 ≡ noted_by me.0 notes) × (me'.1 ≡ me.1))
  announces notes slots id me becomes same records may =
      allows slots id me 0 becomes (λ found me'. (me'.0 ≡ noted_by me.0 notes) × (me'.1 ≡ me.1))
      (λ opened as_said. tables_announce Announcement given.setting.shape opened (opening_state given) notes slots id me becomes same records may)
