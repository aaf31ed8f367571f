-- A sample that is turned away leaves its recorder unchanged, at rest, and without a block that it needed.
use Rattle.std.proofs.Common.{◌≡◌, ◌⊎◌, ℕ, ◌-◌, ◌≤◌, Bool, true, false, true≢false, if◌then◌else◌, ℤ, List, [], ◌∷◌, ◌++◌, length, refl, sym, ap, ◌∙◌, subst, arith, inl, inr}
use Rattle.std.specs.Prelude.{Err, MatchResult, Ok, Result}
use Rattle.std.specs.Str.{bytes_eq}
use Rattle.std.proofs.lemmas.List.{append-nil}
use Rattle.std.proofs.lemmas.List.Sums.{sum_by-append}
use Rattle.segment_calls.specs.declared.refusal.Refusal.{Refusal}
use Rattle.segment_machine.specs.declared.entry.EntryProgress.{EntryProgress}
use Rattle.segment_machine.specs.declared.entry.Entry.{Entry}
use Rattle.segment_machine.specs.declared.actor.Actor.{Actor}
use Rattle.segment_machine.specs.declared.actor.Cost.{Cost}
use Rattle.segment_machine.specs.declared.actor.Entries.{Entries}
use Rattle.segment_machine.specs.declared.actor.Known.{Known}
use Rattle.segment_machine.specs.declared.actor.Units.{Units}
use Rattle.segment_machine.specs.declared.seen.Seen.{Seen}
use Rattle.segment_machine.specs.declared.place.Place.TheVariants.{Idle}
use Rattle.segment_machine.specs.Actor.{cost_of, has_buckets, is_bound, is_opener}
use Rattle.segment_machine.specs.Entry.{fresh, key_of}
use Rattle.segment_machine.specs.Calls.{IsKeyOfBucket}
use Rattle.segment_machine.specs.Form.{IsPacking}
use Rattle.bucket_ranges.specs.Ranges.{boundaries_of}
use Rattle.segment_machine.specs.Note.{Note, refused}
use Rattle.segment_promises.specs.Follows.{noted_by}
use Rattle.live_segment.specs.Add.Sample.{IsRefused}
use Rattle.live_segment.specs.Add.Finish.{item_of}
use Rattle.live_segment.specs.Steps.GhostNotes.{bucket_entry}
use Rattle.segment_promises.specs.Onward.{DoesOn, GoesOn, SeesOn, is_holding}
use Rattle.live_segment.specs.Add.Refusal.{given_up, how_many_ended, refusing_notes, IsNotCounted, IsTurnedAway}
use Rattle.live_segment.specs.Steps.{IsAtRest}
use Rattle.live_segment.specs.Add.Progress.{HasBegunEntry, HasCounted, LooksFor}
use Rattle.live_segment.proofs.lemmas.Add.Beginning.{notes_new}
use Rattle.live_segment.proofs.lemmas.Add.Refusing.{only_given_up}
use Rattle.live_segment.proofs.lemmas.Add.Ended.{still_open}

nothing : (b : Bool) → ◌≡◌ {A = ℕ} (if b then 0 else 0) 0
nothing true = refl
nothing false = refl

-- 0 units of a name make no difference
spends_none : (costs : List Cost) (name other : List ℕ) → cost_of (costs ++ record { name = name; units = 0 } ∷ []) other ≡ cost_of costs other
spends_none costs name other =
    let both = sum_by-append (λ (c : Cost). if bytes_eq c.name other then c.units else 0) costs (record { name = name; units = 0 } ∷ []) in
    let none = nothing (bytes_eq name other) in omega (arith, both, none)

module _ (entry : Entry) (old last new : Actor) (rest : IsAtRest old) (some : 1 ≤ entry.units) (enough : entry.units ≤ old.units.share)
    (looks : LooksFor entry old last) (ends : new ≡ given_up last) where
  -- it had begun nothing, or takes back what it had begun with
  record Back : Type 0 where
    pub units_back : new.units.share ≡ old.units.share
    pub costs_back : (other : List ℕ) → cost_of new.units.costs other ≡ cost_of old.units.costs other
    pub held_back : new.units.held ≡ []
    pub entries_back : new.entries ≡ old.entries
    pub else_as_last : new ≡ record last { units = new.units; entries = new.entries; since = new.since }

  back : Back
  back = by looks.begun
    where
      by : ((last.units ≡ old.units) × (last.entries ≡ old.entries)) ⊎ HasBegunEntry entry old last → Back
      by (inl (units_are, entries_are)) =
          let is : new ≡ last =
          ends ∙ ap (λ (r : List EntryProgress). noted_by last (refusing_notes r)) (ap (λ (e : Entries). e.running) entries_are ∙ rest.runs) in record {
            units_back = ap (λ (x : Actor). x.units.share) is ∙ ap (λ (u : Units). u.share) units_are;
            costs_back = λ other. ap (λ (x : Actor). cost_of x.units.costs other) is ∙ ap (λ (u : Units). cost_of u.costs other) units_are;
            held_back = ap (λ (x : Actor). x.units.held) is ∙ (ap (λ (u : Units). u.held) units_are ∙ rest.holds);
            entries_back = ap (λ (x : Actor). x.entries) is ∙ entries_are;
            else_as_last = subst (λ (x : Actor). x ≡ record last { units = x.units; entries = x.entries; since = x.since }) (sym is) refl;
          }
      by (inr (units_are, entries_are)) =
          let notes = notes_new old entry (rest.runs, rest.holds, enough) in
          let u : last.units ≡ record old.units { share = old.units.share - entry.units; held = record { name = entry.name; units = entry.units } ∷ [] } =
          units_are ∙ ap (λ (ns : List Note). (noted_by old ns).units) notes in
          let e : last.entries ≡ record old.entries { running = fresh entry ∷ [] } = entries_are ∙ ap (λ (ns : List Note). (noted_by old ns).entries) notes in
          let none : how_many_ended (fresh entry ∷ []) ≡ 0 =
          ap (λ (b : Bool). length (if b then fresh entry ∷ [] else [])) (still_open (fresh entry) refl some) in
          let view : new ≡ noted_by (record last {
            units = record old.units { share = old.units.share - entry.units; held = record { name = entry.name; units = entry.units } ∷ [] };
            entries = record old.entries { running = fresh entry ∷ [] };
          }) (refused 0 ∷ []) =
          ends ∙ (ap (λ (r : List EntryProgress). noted_by last (refusing_notes r)) (ap (λ (x : Entries). x.running) e)
          ∙ (ap (λ (n : ℕ). noted_by last (refused n ∷ [])) none
          ∙ (λ i. noted_by (record last { units = u i; entries = e i }) (refused 0 ∷ [])))) in record {
            units_back = ap (λ (x : Actor). x.units.share) view ∙ omega (arith, enough);
            costs_back = λ other. ap (λ (x : Actor). cost_of x.units.costs other) view ∙ spends_none old.units.costs entry.name other;
            held_back = ap (λ (x : Actor). x.units.held) view;
            entries_back = ap (λ (x : Actor). x.entries) view
                ∙ (λ i. record old.entries { log = append-nil old.entries.log i; running = sym rest.runs i });
            else_as_last = subst (λ (x : Actor). x ≡ record last { units = x.units; entries = x.entries; since = x.since }) (sym view) refl;
          }

  pub turned_onward : GoesOn old new
  turned_onward =
      let of_last = back.else_as_last in
      let same = looks.proceeds.same in
      let entries : new.entries ≡ record old.entries { log = new.entries.log } =
      subst (λ (e : Entries). e ≡ record old.entries { log = e.log }) (sym back.entries_back) refl in record {
        same = of_last
            ∙ ((λ i. record (same i) { units = new.units; entries = entries i; since = new.since })
            ∙ sym (ap (λ (x : Actor). record old {
              units = new.units;
              entries = record old.entries { log = new.entries.log };
              hand = x.hand;
              done = x.done;
              seen = x.seen;
              since = new.since;
            }) of_last));
        done = subst (DoesOn old.done) (sym (ap (λ (x : Actor). x.done) of_last)) looks.proceeds.done;
        seen = subst (SeesOn old.seen) (sym (ap (λ (x : Actor). x.seen) of_last)) looks.proceeds.seen;
      }

  pub turned_rests : new.hand.place ≡ Idle → IsAtRest new
  turned_rests idle = let kept = turned_onward.same in record {
    recorder = ap (λ (x : Actor). is_opener x.role) kept ∙ rest.recorder;
    free = ap (λ (x : Actor). is_bound x.hand.place) back.else_as_last ∙ looks.proceeds.free;
    apart = ap is_holding idle;
    holds = back.held_back;
    runs = ap (λ (e : Entries). e.running) back.entries_back ∙ rest.runs;
    takes = ap (λ (x : Actor). x.deltas.taking) kept ∙ rest.takes;
    owes = ap (λ (x : Actor). x.answers.owed) kept ∙ rest.owes;
  }

  pub turned_refused : last.seen.counts ≡ old.seen.counts → IsRefused entry.name old new
  turned_refused untouched = record {
    logged = back.entries_back;
    pays = record {
      share = let same = back.units_back in omega (arith, same);
      spent = λ other. let same = back.costs_back other in let none = nothing (bytes_eq entry.name other) in omega (arith, same, none);
    };
    untouched = ap (λ (x : Actor). x.seen.counts) back.else_as_last ∙ untouched;
    onward = turned_onward;
  }

-- units of a bucket are units of a value, which are not counted: the single word that was loaded could not take them, and no other bucket has
-- the value
pub turned_not_counted : (why : Refusal) (known : Known) (bucket : ℕ) (value : ℤ) (units : ℕ) (old new : Actor) → has_buckets known.spec ≡ true
    → ((other : ℕ) → IsKeyOfBucket known other (key_of (boundaries_of known.spec) value) → other ≡ bucket)
    → bucket_entry known bucket units ≡ item_of known value units → IsTurnedAway why known bucket units old new
    → IsNotCounted why known value units old new
turned_not_counted why known bucket value units old new bucketed one is_of turned = record {
  last = turned.last;
  looks = subst (λ (e : Entry). LooksFor e old turned.last) is_of turned.looks;
  untouched = turned.untouched;
  ends = turned.ends;
  idle = turned.idle;
  lacks = (
    record {
      buckets = λ has.
          let (word, saw, on, none) = turned.cannot in
          ((word, saw, on, λ other packed key packs. none packed (subst (λ (b : ℕ). IsPacking b units word packed) (one other key) packs)), turned.none, turned.loaded);
      values = λ sparse. absurd (true≢false (sym bucketed ∙ ap has_buckets sparse));
    },
    turned.room,
  );
}

-- units of a bucket were counted or not: it has seen more
pub bucket_seen : {A : Type 0} (result : Result A Refusal) (known : Known) (bucket units : ℕ) (old new : Actor)
    → MatchResult result (λ x. HasCounted (bucket_entry known bucket units) old new) (λ why. IsTurnedAway why known bucket units old new)
    → SeesOn old.seen new.seen
bucket_seen (Ok x) known bucket units old new has = has.proceeds.seen
bucket_seen (Err why) known bucket units old new turned =
    subst (λ (s : Seen). SeesOn old.seen s) (sym (ap (λ (x : Actor). x.seen) (turned.ends ∙ only_given_up turned.last))) turned.looks.proceeds.seen
