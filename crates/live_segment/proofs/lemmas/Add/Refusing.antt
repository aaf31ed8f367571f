-- A call that counts ends if it is refused: that it may note this, and what becomes of its recorder.
use Rattle.std.proofs.Common.{◌≡◌, ℕ, ◌+◌, ◌==◌, Bool, true, false, if◌then◌else◌, List, [], ◌∷◌, All, take, drop, refl, sym, ap, ◌∙◌, subst, eq-eqb}
use Rattle.std.specs.Prelude.{bit_and}
use Rattle.std.proofs.lemmas.List.Elements.{All-nil}
use Rattle.segment_machine.specs.declared.entry.EntryProgress.{EntryProgress}
use Rattle.segment_machine.specs.declared.actor.Actor.{Actor}
use Rattle.segment_machine.specs.declared.place.Place.TheVariants.{FlagsLoaded, Idle}
use Rattle.segment_machine.specs.Actor.{is_bound, is_opener}
use Rattle.segment_machine.specs.Allocating.{load_flags, set_full}
use Rattle.segment_machine.specs.Entry.{has_ended}
use Rattle.segment_machine.specs.Event.{allocating_event, next, Ready, spot, change}
use Rattle.segment_machine.specs.Note.{is_untouched}
use Rattle.segment_promises.specs.Follows.{MayNoteAll, noted_by}
use Rattle.atomic_table.specs.Table.{Allows}
use Rattle.live_segment.specs.declared.rule.Opening.{Opening}
use Rattle.live_segment.specs.Rule.{Runs}
use Rattle.live_segment.specs.Steps.{Pass, Sat, Stepped}
use Rattle.live_segment.specs.Steps.GhostNotes.{Noted}
use Rattle.live_segment.specs.Add.Refusal.{how_many_ended, MayEnd, MayGiveUp, refusing_notes, given_up, flags_notes, LoadsFlags, SetsFull}
use Rattle.live_segment.proofs.Seating.Openings.{follows}

-- ---- if no entry runs

-- nothing has to be shown of no entry
pub may_at_rest : (a : Actor) → a.entries.running ≡ [] → MayGiveUp a
may_at_rest a none = subst MayEnd (sym none) (record { ended = All-nil _; unsummed = All-nil _; untouched = All-nil _ })

-- and nothing becomes of its recorder
pub at_rest : (a : Actor) → a.entries.running ≡ [] → given_up a ≡ a
at_rest a none = ap (λ (r : List EntryProgress). noted_by a (refusing_notes r)) none

-- ---- what it leaves unchanged

pub only_given_up : (a : Actor)
    → given_up a ≡ (let b = given_up a in record a { units = b.units; entries = b.entries; since = b.since })
only_given_up a = by a.entries.running
  where
    by : (running : List EntryProgress)
        → noted_by a (refusing_notes running)
        ≡ (let b = noted_by a (refusing_notes running) in record a { units = b.units; entries = b.entries; since = b.since })
    by [] = refl
    by (c ∷ rest) = refl

-- ---- that it may note this

pub may_end : (a : Actor) (running : List EntryProgress) → MayEnd running → a.entries.running ≡ running → is_bound a.hand.place ≡ false
    → MayNoteAll a (refusing_notes running)
may_end a [] may is free = refl
may_end a (c ∷ rest) may is free =
    let added = how_many_ended (c ∷ rest) in (
      (
        free,
        subst (λ (r : List EntryProgress). All (λ x. has_ended x ≡ true) (take added r)) (sym is) may.ended,
        subst (λ (r : List EntryProgress). All (λ x. is_untouched x ≡ true) (drop added r)) (sym is) may.untouched,
        subst (λ (r : List EntryProgress). All (λ x. x.summed ≡ false) (take added r)) (sym is) may.unsummed,
      ),
      refl,
    )

-- ---- the steps that refuse

-- flags without the corrupt one note nothing
pub clear : (old new : Pass) (found : ℕ)
    → Noted old [] (allocating_event load_flags) (flags_notes old.me.0.entries.running found) found new → bit_and found 1 ≡ 0
    → Stepped old (allocating_event load_flags) found new
clear old new found noted none = record {
  same = noted.same;
  view = noted.view
      ∙ ap (λ (b : Bool). noted_by (next old.me.0 (allocating_event load_flags) found) (if b then [] else refusing_notes old.me.0.entries.running))
      (eq-eqb (bit_and found 1) 0 none);
  learned = noted.learned;
}

-- it has loaded flags without the corrupt one, or with it
abbrev pub flags_seen : Actor → Bool → Actor
flags_seen a clear = record a {
  hand = record a.hand { place = if clear then FlagsLoaded else Idle };
  seen = record a.seen { corrupt = if clear then a.seen.corrupt else true; warned = if clear then a.seen.warned else a.seen.warned + 1 };
}

module _ (given : Opening) (slots id : ℕ) (me : Sat) (word : ℕ) (records : is_opener me.0.role ≡ false) (may : MayGiveUp me.0) where
  pub loads_flags : word ≡ spot given.setting.shape.size (allocating_event load_flags) + 1 → Ready me.0 (allocating_event load_flags)
      → Allows (Runs given) slots id me word (change given.setting.version (allocating_event load_flags)) (LoadsFlags me)
  loads_flags at ready =
      follows given [] (allocating_event load_flags) (flags_notes me.0.entries.running) slots id me word at records
      refl ready (λ found learned. by_test found (bit_and found 1 == 0) refl)
    where
      by_test : (found : ℕ) (b : Bool) → (bit_and found 1 == 0) ≡ b
          → MayNoteAll (next me.0 (allocating_event load_flags) found) (flags_notes me.0.entries.running found)
      by_test found b is =
          subst (λ (x : Bool). MayNoteAll (flags_seen me.0 x) (if x then [] else refusing_notes me.0.entries.running))
          (sym is) (by b)
        where
          by : (b : Bool) → MayNoteAll (flags_seen me.0 b) (if b then [] else refusing_notes me.0.entries.running)
          by true = refl
          by false = may_end (flags_seen me.0 false) me.0.entries.running may refl refl

  pub sets_full : (wanted : ℕ) → word ≡ spot given.setting.shape.size (allocating_event (set_full wanted)) + 1 → Ready me.0 (allocating_event (set_full wanted))
      → Allows (Runs given) slots id me word (change given.setting.version (allocating_event (set_full wanted))) (SetsFull me)
  sets_full wanted at ready =
      follows given [] (allocating_event (set_full wanted)) (λ found. refusing_notes me.0.entries.running) slots id me word at
      records refl ready (λ found learned. may_end (next me.0 (allocating_event (set_full wanted)) found) me.0.entries.running may refl refl)
