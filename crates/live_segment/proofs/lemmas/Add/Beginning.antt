-- A call begins with an entry: it may note that, its entry is then next, and once it is counted the call continues.
use Rattle.std.proofs.Common.{◌≡◌, ℕ, suc, ◌+◌, ◌-◌, ◌*◌, ◌≤◌, ◌==◌, ℤ, map, length, not, ◌||◌, ◌&&◌, Bool, true, false, true≢false, if◌then◌else◌, pos, List, [], ◌∷◌, ◌++◌, Some, refl, sym, ap, ◌∙◌, subst, arith, filter, inl, inr, ◌⊎◌}
use Rattle.std.specs.Prelude.{unsigned_abs, fold, ◌+ℤ◌}
use Rattle.std.specs.List.{Contains}
use Rattle.std.specs.Ordering.{int_eq}
use Rattle.std.specs.Str.{bytes_eq}
use Rattle.std.proofs.lemmas.Bool.{eqb-true, ne_eqb}
use Rattle.std.proofs.lemmas.List.Elements.{All-nil}
use Rattle.segment_machine.specs.declared.entry.EntryProgress.{EntryProgress}
use Rattle.segment_machine.specs.declared.entry.Entry.{Entry}
use Rattle.segment_machine.specs.declared.actor.Actor.{Actor}
use Rattle.segment_machine.specs.declared.actor.Entries.{Entries}
use Rattle.segment_machine.specs.declared.actor.Hand.{Hand}
use Rattle.segment_machine.specs.declared.actor.Cost.{Cost}
use Rattle.segment_machine.specs.declared.actor.Known.{Known}
use Rattle.segment_machine.specs.declared.actor.Units.{Units}
use Rattle.segment_machine.specs.declared.place.Place.{Place}
use Rattle.segment_machine.specs.declared.seen.Seen.{Seen}
use Rattle.segment_machine.specs.declared.seen.Sighting.{Sighting}
use Rattle.segment_machine.specs.Actor.{is_bound, is_opener, known_at, Buckets}
use Rattle.segment_machine.specs.Calls.{IsNext}
use Rattle.segment_machine.specs.Entry.{AreWithin, fresh, has_ended}
use Rattle.segment_machine.specs.Note.{Note, begins, goes_on}
use Rattle.segment_promises.specs.Follows.{MayNoteAll, noted_by}
use Rattle.segment_invariant.proofs.Lists.Elements.{all_from, each_of_one}
use Rattle.segment_invariant.proofs.Lists.Maps.{contains_map}
use Rattle.segment_promises.specs.Onward.{SeesOn}
use Rattle.live_segment.specs.Steps.GhostNotes.{bucket_entry, entry_notes, opening_notes}
use Rattle.live_segment.specs.Add.Progress.{CountsAlone, HaveEnded, IsOpenTo, LooksOn, MayCountInBucket, MayGoOnWith, HasNotBegun, EntryWaits, HasBegunEntry, LooksFor, HasCounted, counted_next}
use Rattle.live_segment.proofs.lemmas.Add.Ended.{goes_on_with, next_behind, notes_nothing}
use Rattle.live_segment.proofs.lemmas.Steps.Proceeding.{does_not, proceeds_on, sees_single}

-- ---- what is known

pub known_there : (names : List Known) (reference : ℕ) (known : Known) → known_at names reference ≡ Some known
    → Contains names known × (known.reference ≡ reference)
known_there [] reference known is = absurd (cc is)
known_there (x ∷ rest) reference known is = by_test (x.reference == reference) refl is (known_there rest reference known)
  where
    by_test : (b : Bool) → (x.reference == reference) ≡ b → (if b then Some x else known_at rest reference) ≡ Some known
        → (known_at rest reference ≡ Some known → Contains rest known × (known.reference ≡ reference))
        → Contains (x ∷ rest) known × (known.reference ≡ reference)
    by_test true here found later = let it : x ≡ known = cc found in
        ((0, omega arith, it), ap (λ (k : Known). k.reference) (sym it) ∙ eqb-true x.reference reference here)
    by_test false there found later = let ((k, below, same), refers) = later found in ((suc k, omega (arith, below), same), refers)

-- ---- while it looks

-- it loads a single word, or comes too late to change it
pub singled : (a : Actor) (place : Place) (more : List Sighting) → is_bound place ≡ false
    → LooksOn a (record a { hand = record a.hand { place = place }; seen = record a.seen { singles = a.seen.singles ++ more } })
singled a place more free = record {
  proceeds = record {
    same = refl;
    free = free;
    done = does_not a.done;
    seen = sees_single a.seen more;
  };
  units = refl;
  entries = refl;
}

-- ---- how it begins

-- the notes of a call that has not begun
abbrev begun : Entry → List Note
begun entry = begins entry.name entry.units (entry ∷ []) ∷ []

pub notes_new : (a : Actor) (entry : Entry) → HasNotBegun a entry.units → entry_notes a entry ≡ begun entry
notes_new a entry new = ap (λ (r : List EntryProgress). opening_notes r entry entry.units) new.0

-- what waits has not ended
open_still : (entry : Entry) → 1 ≤ entry.units → has_ended (fresh entry) ≡ false
open_still entry some = falls (int_eq entry.amount (pos 0))
  where
    none : (entry.units == 0) ≡ false
    none = ne_eqb entry.units 0 (λ e. omega (arith, e, some))

    falls : (b : Bool) → ((false || (entry.units == 0)) && (false || b) && (false || (entry.units == 0))) ≡ false
    falls b = ap (λ (z : Bool). (false || z) && (false || b) && (false || z)) none

-- one that waits notes nothing
notes_waiting : (a : Actor) (entry : Entry) → 1 ≤ entry.units → EntryWaits a entry → entry_notes a entry ≡ []
notes_waiting a entry some waits =
    ap (λ (r : List EntryProgress). opening_notes r entry entry.units) waits.runs
    ∙ notes_nothing (fresh entry) (open_still entry some) waits.before entry entry.units waits.ended.ended

-- an entry with which a call continues is added to those that have ended
notes_going : (a : Actor) (entry : Entry) → MayGoOnWith a entry → entry_notes a entry ≡ goes_on entry entry.units ∷ []
notes_going a entry may = goes_on_with a.entries.running entry entry.units may.runs may.ended.ended

within : (entry : Entry) → entry.amount ≡ pos 0 → AreWithin entry.name entry.units (entry ∷ [])
within entry none = record {
  of_name = all_from (λ (e : Entry). e.name ≡ entry.name) (entry ∷ []) (each_of_one entry (λ i (e : Entry). e.name ≡ entry.name) refl);
  units = least (bytes_eq entry.name entry.name);
  one = subst (λ (z : ℤ). length (if not (int_eq z (pos 0)) then entry ∷ [] else []) ≤ 1) (sym none) (omega arith);
  amount = subst (λ (z : ℤ). unsigned_abs (fold ◌+ℤ◌ (pos 0) ((if bytes_eq entry.name entry.name then z else pos 0) ∷ [])) ≤ 2147483648 * entry.units) (sym none)
      (nothing (bytes_eq entry.name entry.name));
}
  where
    least : (b : Bool) → 0 + (if b then entry.units else 0) ≤ entry.units
    least true = omega arith
    least false = omega arith

    nothing : (b : Bool) → unsigned_abs (fold ◌+ℤ◌ (pos 0) ((if b then pos 0 else pos 0) ∷ [])) ≤ 2147483648 * entry.units
    nothing true = omega arith
    nothing false = omega arith

pub may_tell : (a : Actor) (known : Known) (entry : Entry) → CountsAlone a known entry → MayNoteAll a (entry_notes a entry)
may_tell a known entry may = by may.begun
  where
    by : IsOpenTo a entry → MayNoteAll a (entry_notes a entry)
    by (inl new) = subst (MayNoteAll a) (sym (notes_new a entry new)) (
      (
        λ e. true≢false (sym (ap is_bound e) ∙ may.free),
        may.recorder,
        new.0,
        new.1,
        may.takes,
        new.2,
        subst (Contains (map (λ (k : Known). k.name) a.answers.names)) may.named
            (contains_map (λ (k : Known). k.name) a.answers.names known (known_there a.answers.names known.reference known may.alone).0),
        within entry may.amount,
      ),
      refl,
    )
    by (inr (inl going)) = subst (MayNoteAll a) (sym (notes_going a entry going)) (
      (going.runs, going.ended.ended, going.enough, (entry.name, going.spent, going.holds, going.within)),
      refl,
    )
    by (inr (inr waits)) = subst (MayNoteAll a) (sym (notes_waiting a entry may.some waits)) refl

-- the entry then waits
pub then_waits : (a : Actor) (known : Known) (entry : Entry) → CountsAlone a known entry → EntryWaits (noted_by a (entry_notes a entry)) entry
then_waits a known entry may = by may.begun
  where
    same : (ns : List Note) → entry_notes a entry ≡ ns → (noted_by a (entry_notes a entry)).entries.running ≡ (noted_by a ns).entries.running
    same ns is = ap (λ (n : List Note). (noted_by a n).entries.running) is

    by : IsOpenTo a entry → EntryWaits (noted_by a (entry_notes a entry)) entry
    by (inl new) = record {
      before = [];
      ended = record { ended = All-nil (λ c. has_ended c ≡ true); unsummed = All-nil (λ c. c.summed ≡ false) };
      runs = same _ (notes_new a entry new);
    }
    by (inr (inl going)) = record { before = a.entries.running; ended = going.ended; runs = same _ (notes_going a entry going) }
    by (inr (inr waits)) = record { before = waits.before; ended = waits.ended; runs = same _ (notes_waiting a entry may.some waits) ∙ waits.runs }

-- and is next
pub is_next : (a : Actor) (known : Known) (entry : Entry) → CountsAlone a known entry
    → IsNext (noted_by a (entry_notes a entry)) (fresh entry)
is_next a known entry may =
    let waits = then_waits a known entry may in (
      [],
      ap (filter (λ (x : EntryProgress). not (has_ended x))) waits.runs ∙ next_behind (fresh entry) (open_still entry may.some) waits.before waits.ended.ended,
    )

-- nothing else changes
pub only_begun : (a : Actor) (known : Known) (entry : Entry) → CountsAlone a known entry
    → noted_by a (entry_notes a entry)
    ≡ (let x = noted_by a (entry_notes a entry) in record a { units = x.units; entries = x.entries })
only_begun a known entry may = by may.begun
  where
    Same : List Note → Type 0
    Same ns = noted_by a ns ≡ record a { units = (noted_by a ns).units; entries = (noted_by a ns).entries }

    by : IsOpenTo a entry → Same (entry_notes a entry)
    by (inl new) = subst Same (sym (notes_new a entry new)) refl
    by (inr (inl going)) = subst Same (sym (notes_going a entry going)) refl
    by (inr (inr waits)) = subst Same (sym (notes_waiting a entry may.some waits)) refl

pub knows : (a : Actor) (known : Known) (bucket units : ℕ) → MayCountInBucket a known bucket units → Buckets a known.reference known
knows a known bucket units may = ((known_there a.answers.names known.reference known may.counts.alone).0, refl, may.bucketed)

-- ---- while it waits

pub looks_for : (entry : Entry) (a b : Actor) → LooksOn a b → LooksFor entry a b
looks_for entry a b looks = record { proceeds = looks.proceeds; begun = inl (looks.units, looks.entries) }

-- it may still count them
pub may_still : (a b : Actor) (known : Known) (entry : Entry) → CountsAlone a known entry → LooksFor entry a b
    → CountsAlone b known entry
may_still a b known entry may looks =
    let same = looks.proceeds.same in record {
      recorder = ap (λ (x : Actor). is_opener x.role) same ∙ may.recorder;
      free = looks.proceeds.free;
      takes = ap (λ (x : Actor). x.deltas.taking) same ∙ may.takes;
      begun = by looks.begun may.begun;
      alone = ap (λ (x : Actor). known_at x.answers.names known.reference) same ∙ may.alone;
      named = may.named;
      some = may.some;
      amount = may.amount;
    }
  where
    by : ((b.units ≡ a.units) × (b.entries ≡ a.entries)) ⊎ HasBegunEntry entry a b → IsOpenTo a entry → IsOpenTo b entry
    by (inl (same_units, same_entries)) (inl new) =
        inl (
          ap (λ (e : Entries). e.running) same_entries ∙ new.0,
          ap (λ (u : Units). u.held) same_units ∙ new.1,
          subst (λ (u : Units). entry.units ≤ u.share) (sym same_units) new.2,
        )
    by (inl (same_units, same_entries)) (inr (inl going)) =
        let same : b.entries.running ≡ a.entries.running = ap (λ (e : Entries). e.running) same_entries in
        inr (inl (record {
          runs = λ none. going.runs (sym same ∙ none);
          ended = subst HaveEnded (sym same) going.ended;
          enough = subst (λ (u : Units). entry.units ≤ u.share) (sym same_units) going.enough;
          spent = going.spent;
          holds = ap (λ (u : Units). u.held) same_units ∙ going.holds;
          within = subst (λ (l : List EntryProgress). AreWithin entry.name (going.spent + entry.units) (map (λ c. c.entry) l ++ entry ∷ [])) (sym same) going.within;
        }))
    by (inl (same_units, same_entries)) (inr (inr waits)) =
        inr (inr (record { before = waits.before; ended = waits.ended; runs = ap (λ (e : Entries). e.running) same_entries ∙ waits.runs }))
    by (inr (units_are, entries_are)) begun =
        let waits = then_waits a known entry may in
        inr (inr (record { before = waits.before; ended = waits.ended; runs = ap (λ (e : Entries). e.running) entries_are ∙ waits.runs }))

pub may_yet : (a b : Actor) (known : Known) (bucket units : ℕ) → MayCountInBucket a known bucket units → LooksFor (bucket_entry known bucket units) a b
    → MayCountInBucket b known bucket units
may_yet a b known bucket units may looks = record { counts = may_still a b known (bucket_entry known bucket units) may.counts looks; bucketed = may.bucketed }

-- it begins only once
pub begins_once : (a b : Actor) (known : Known) (entry : Entry) → CountsAlone a known entry → LooksFor entry a b
    → let first = noted_by a (entry_notes a entry) in let next = noted_by b (entry_notes b entry) in
    (next.units ≡ first.units) × (next.entries ≡ first.entries)
begins_once a b known entry may looks = by looks.begun may.begun
  where
    notes : Actor → List Note
    notes x = entry_notes x entry

    waiting : EntryWaits b entry → b.units ≡ (noted_by a (notes a)).units → b.entries ≡ (noted_by a (notes a)).entries
        → ((noted_by b (notes b)).units ≡ (noted_by a (notes a)).units) × ((noted_by b (notes b)).entries ≡ (noted_by a (notes a)).entries)
    waiting waits units_are entries_are =
        let none = notes_waiting b entry may.some waits in
        (ap (λ (ns : List Note). (noted_by b ns).units) none ∙ units_are, ap (λ (ns : List Note). (noted_by b ns).entries) none ∙ entries_are)

    by : ((b.units ≡ a.units) × (b.entries ≡ a.entries)) ⊎ HasBegunEntry entry a b → IsOpenTo a entry
        → ((noted_by b (notes b)).units ≡ (noted_by a (notes a)).units) × ((noted_by b (notes b)).entries ≡ (noted_by a (notes a)).entries)
    by (inl (same_units, same_entries)) (inl new) =
        let mine = notes_new a entry new in
        let again : notes b ≡ begun entry =
        ap (λ (e : Entries). opening_notes e.running entry entry.units) same_entries ∙ mine in (
          ap (λ (ns : List Note). (noted_by b ns).units) again
              ∙ (ap (λ (u : Units). record u { share = u.share - entry.units; held = record { name = entry.name; units = entry.units } ∷ [] }) same_units
              ∙ sym (ap (λ (ns : List Note). (noted_by a ns).units) mine)),
          ap (λ (ns : List Note). (noted_by b ns).entries) again
              ∙ (ap (λ (e : Entries). record e { running = fresh entry ∷ [] }) same_entries ∙ sym (ap (λ (ns : List Note). (noted_by a ns).entries) mine)),
        )
    by (inl (same_units, same_entries)) (inr (inl going)) =
        let mine = notes_going a entry going in
        let again : notes b ≡ goes_on entry entry.units ∷ [] =
        ap (λ (e : Entries). opening_notes e.running entry entry.units) same_entries ∙ mine in (
          ap (λ (ns : List Note). (noted_by b ns).units) again
              ∙ (ap (λ (u : Units). record u { share = u.share - entry.units; held = map (λ (h : Cost). record h { units = h.units + entry.units }) u.held }) same_units
              ∙ sym (ap (λ (ns : List Note). (noted_by a ns).units) mine)),
          ap (λ (ns : List Note). (noted_by b ns).entries) again
              ∙ (ap (λ (e : Entries). record e { running = e.running ++ fresh entry ∷ [] }) same_entries ∙ sym (ap (λ (ns : List Note). (noted_by a ns).entries) mine)),
        )
    by (inl (same_units, same_entries)) (inr (inr waits)) =
        let mine = notes_waiting a entry may.some waits in
        waiting (record { before = waits.before; ended = waits.ended; runs = ap (λ (e : Entries). e.running) same_entries ∙ waits.runs })
        (same_units ∙ sym (ap (λ (ns : List Note). (noted_by a ns).units) mine))
        (same_entries ∙ sym (ap (λ (ns : List Note). (noted_by a ns).entries) mine))
    by (inr (units_are, entries_are)) begun =
        let waits = then_waits a known entry may in
        waiting (record { before = waits.before; ended = waits.ended; runs = ap (λ (e : Entries). e.running) entries_are ∙ waits.runs }) units_are entries_are

pub looks_for_on : (a b c : Actor) (known : Known) (entry : Entry) → CountsAlone a known entry → LooksFor entry a b
    → LooksFor entry b c → LooksFor entry a c
looks_for_on a b c known entry may first second =
    record { proceeds = proceeds_on a b c first.proceeds second.proceeds; begun = by first.begun second.begun }
  where
    by : ((b.units ≡ a.units) × (b.entries ≡ a.entries)) ⊎ HasBegunEntry entry a b
        → ((c.units ≡ b.units) × (c.entries ≡ b.entries)) ⊎ HasBegunEntry entry b c
        → ((c.units ≡ a.units) × (c.entries ≡ a.entries)) ⊎ HasBegunEntry entry a c
    by (inl was) (inl is) = inl (is.0 ∙ was.0, is.1 ∙ was.1)
    by (inr was) (inl is) = inr (is.0 ∙ was.0, is.1 ∙ was.1)
    by was (inr is) = let once = begins_once a b known entry may first in inr (is.0 ∙ once.0, is.1 ∙ once.1)

-- ---- an exchange

-- one that comes too late has begun the call, and it has seen a single word
pub late : (a b : Actor) (known : Known) (entry : Entry) (hand : Hand) (more : List Sighting) → CountsAlone a known entry
    → is_bound hand.place ≡ false
    → b ≡ (let x = noted_by a (entry_notes a entry) in record x { hand = hand; seen = record x.seen { singles = x.seen.singles ++ more } })
    → LooksFor entry a b × (b.done ≡ a.done) × (b.seen.counts ≡ a.seen.counts) × (b.seen.singles ≡ a.seen.singles ++ more)
late a b known entry hand more may free is =
    let x = noted_by a (entry_notes a entry) in
    let only = only_begun a known entry may in
    let all : b ≡ record a { units = x.units; entries = x.entries; hand = hand; seen = record a.seen { singles = a.seen.singles ++ more } } =
    is ∙ ap (λ (y : Actor). record y { hand = hand; seen = record y.seen { singles = y.seen.singles ++ more } }) only in (
      subst (LooksFor entry a) (sym all) (record {
        proceeds = record { same = refl; free = free; done = does_not a.done; seen = sees_single a.seen more };
        begun = inr (refl, refl);
      }),
      ap (λ (y : Actor). y.done) all,
      ap (λ (y : Actor). y.seen.counts) all,
      ap (λ (y : Actor). y.seen.singles) all,
    )

-- ---- once it is counted

pub counted : (a b : Actor) (known : Known) (entry : Entry) (hand : Hand) (seen : Seen) → CountsAlone a known entry
    → is_bound hand.place ≡ false → SeesOn a.seen seen
    → b ≡ (let x = noted_by a (entry_notes a entry) in record x { hand = hand; entries = counted_next x.entries; seen = seen })
    → HasCounted entry a b
counted a b known entry hand seen may free sees is =
    let x = noted_by a (entry_notes a entry) in
    let only = only_begun a known entry may in
    let all : b ≡ record a { units = x.units; entries = counted_next x.entries; hand = hand; seen = seen } =
    is ∙ ap (λ (y : Actor). record y { hand = hand; entries = counted_next x.entries; seen = seen }) only in
    subst (HasCounted entry a) (sym all) (record {
      proceeds = record { same = refl; free = free; done = does_not a.done; seen = sees };
      units_are = refl;
      entries_are = refl;
      filled = refl;
    })

-- it looked before
pub counted_behind : (a b c : Actor) (known : Known) (entry : Entry) → CountsAlone a known entry → LooksFor entry a b
    → b.done.filled ≡ a.done.filled → HasCounted entry b c → HasCounted entry a c
counted_behind a b c known entry may looks filled has =
    let once = begins_once a b known entry may looks in record {
      proceeds = proceeds_on a b c looks.proceeds has.proceeds;
      units_are = has.units_are ∙ once.0;
      entries_are = has.entries_are ∙ ap counted_next once.1;
      filled = has.filled ∙ filled;
    }
