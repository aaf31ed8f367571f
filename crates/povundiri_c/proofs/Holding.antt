-- What a segment that C holds and its mailbox have is of that segment.
use Rattle.std.proofs.Common.{◌≡◌, ◌<◌, ◌≤◌, ℕ, refl, sym, ap, ◌∙◌, subst, Option, Some, None, Result, Ok, Err, MatchOption, MatchResult, arith}
use Rattle.std.proofs.Props.{props}
use Rattle.std.proofs.lemmas.Result.{MatchResult-at_ok}
use Rattle.std.specs.Arc.{arc_value}
use Rattle.std.specs.declared.alloc.Global.{Global}
use Rattle.std.specs.declared.sync.Arc.{Arc}
use Rattle.segment_calls.specs.declared.refusal.Refusal.{Refusal}
use Rattle.segment_machine.specs.Seats.{getter, giver}
use Rattle.live_segment.specs.declared.opener.Opener.{Opener}
use Rattle.owned_recorder.specs.declared.owned.OwnedRecorder.{OwnedRecorder}
use Rattle.live_segment.specs.declared.segment.Segment.{Segment}
use Rattle.live_segment.specs.Holders.{IsMadeWith, IsSameOpener, view_of_opener}
use Rattle.live_segment.specs.Opener.{LendsUnits}
use Rattle.live_segment.specs.RecorderState.{IsSameRecorder, view_of_state}
use Rattle.owned_recorder.specs.Holders.{IsRecorderOf, RecordsInto, view_of_owned}
use Rattle.povundiri_c.specs.declared.joinable_recorder.JoinableRecorder.{JoinableRecorder}
use Rattle.povundiri_c.specs.Mailbox.{BelongsTo, cursors_of}

-- ---- a segment that C holds

-- its segment has as many shared cursors as the opener says
pub counts : (segment : Segment) (cursors : ℕ) (opener : Opener) → IsMadeWith segment opener → cursors ≡ segment.setting.cursors → cursors ≡ cursors_of opener
counts segment cursors opener made is = is ∙ sym made.of.cursors

-- ---- a recorder

-- one of the segment is one of the mailbox's opener
pub of_mailbox : (segment : Segment) (key : Opener) (owned : OwnedRecorder) → IsMadeWith segment key → arc_value owned.segment ≡ segment
    → RecordsInto segment owned → BelongsTo owned key
of_mailbox segment key owned first is into =
    (into ∙ sym first.table, ap (λ (one : Segment). one.setting.cursors) is ∙ sym first.of.cursors)

-- one of the mailbox's opener is one of the segment's
pub of_opener : (segment : Segment) (key opener : Opener) (owned : OwnedRecorder) → IsMadeWith segment key → IsMadeWith segment opener → BelongsTo owned key
    → IsRecorderOf owned opener
of_opener segment key opener owned first made of = of.0 ∙ first.table ∙ sym made.table

-- one that was lent units is one of the same opener's segment still
pub belongs_still : (key : Opener) (old new : OwnedRecorder) → new.segment ≡ old.segment → IsSameRecorder old.state new.state → BelongsTo old key → BelongsTo new key
belongs_still key old new kept same of = (same.table ∙ of.0, ap (λ (segment : Arc Segment Global). (arc_value segment).setting.cursors) kept ∙ of.1)

-- units that the opener had were lent
pub lent : (units : ℕ) (result : Result (Unit {0}) Refusal) (old new : Opener) (before after : OwnedRecorder) → LendsUnits units (view_of_opener old) result
    → units ≤ (view_of_opener old).units.share
    → MatchResult result (λ _. IsSameOpener old new × (view_of_opener new ≡ giver (view_of_opener old) units)) (λ _. new ≡ old)
    → MatchResult result (λ _. IsSameRecorder before.state after.state × (view_of_owned after ≡ getter (view_of_owned before) units)) (λ _. after ≡ before)
    → (IsSameOpener old new × (view_of_opener new ≡ giver (view_of_opener old) units))
    × (IsSameRecorder before.state after.state × (view_of_owned after ≡ getter (view_of_owned before) units))
lent units (Ok done) old new before after has enough mine theirs = (mine, theirs)
lent units (Err why) old new before after has enough mine theirs = absurd (omega (arith, has.1, enough))

-- if one was made, there was no fault
pub unrefused : {T : Type 0} (fault : Option T) (result : Result OwnedRecorder T) (owned : OwnedRecorder) (P : OwnedRecorder → Type 0)
    → MatchOption fault (MatchResult result P (λ _. ⊥)) (λ why. result ≡ Err why) → result ≡ Ok owned → (fault ≡ None) × P owned
unrefused {T} None result owned P held is = (refl, MatchResult-at_ok P (λ _. ⊥) owned is held)
unrefused {T} (Some why) result owned P held is = absurd (subst (λ (one : Result OwnedRecorder T). MatchResult one (λ _. Unit {0}) (λ _. ⊥)) (sym is ∙ held) tt)

-- one that came back is the one that it was
pub same_recorder : (joinable : JoinableRecorder) (owned : OwnedRecorder) (fits : BelongsTo owned (arc_value joinable.mailbox).table.shared.key)
    (counted : joinable.cursors ≡ cursors_of (arc_value joinable.mailbox).table.shared.key) → owned ≡ joinable.owned
    → ◌≡◌ {A = JoinableRecorder} (record { owned = owned; mailbox = joinable.mailbox; cursors = joinable.cursors; fits = fits; counted = counted }) joinable
same_recorder joinable owned fits counted is =
    let key = (arc_value joinable.mailbox).table.shared.key in
    let fitting : IsProp (BelongsTo joinable.owned key) = hlevel props in
    let counts : IsProp (joinable.cursors ≡ cursors_of key) = hlevel props in
    subst (λ (one : OwnedRecorder). (of : BelongsTo one key)
    → ◌≡◌ {A = JoinableRecorder} (record { owned = one; mailbox = joinable.mailbox; cursors = joinable.cursors; fits = of; counted = counted }) joinable) (sym is)
    (λ of i. record { owned = joinable.owned; mailbox = joinable.mailbox; cursors = joinable.cursors; fits = fitting of joinable.fits i; counted = counts counted joinable.counted i }) fits

-- its segment has a shared cursor of this number
pub has_cursor : (key : Opener) (owned : OwnedRecorder) (cursor cursors : ℕ) → BelongsTo owned key → cursors ≡ cursors_of key → cursor < cursors
    → cursor < (view_of_state owned.state).segment.cursors
has_cursor key owned cursor cursors of is below =
    subst (λ (n : ℕ). cursor < n) (is ∙ sym of.1 ∙ sym owned.at.seated.of.cursors) below
