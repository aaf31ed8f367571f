-- A sample that is counted is finished: its amount is noted and added to the sum, its units are noted, and its call ends.
use Rattle.std.proofs.Common.{◌≡◌, ◌≢◌, ℕ, ◌+◌, ◌*◌, ◌≤◌, not, ◌&&◌, Bool, true, false, ℤ, pos, List, [], ◌∷◌, ◌++◌, map, filter, All, Some, refl, sym, ap, ◌∙◌, subst, arith}
use Rattle.std.specs.Prelude.{unsigned_abs}
use Rattle.std.specs.Ordering.{int_eq}
use Rattle.std.proofs.lemmas.Bool.Decides.{Decides-int_eq}
use Rattle.std.proofs.lemmas.List.{map-append}
use Rattle.std.proofs.lemmas.List.Elements.{All-nil, All-cons, All-append}
use Rattle.segment_machine.specs.declared.entry.EntryProgress.{EntryProgress}
use Rattle.segment_machine.specs.declared.entry.Entry.{Entry}
use Rattle.segment_machine.specs.declared.actor.Actor.{Actor}
use Rattle.segment_machine.specs.declared.actor.Cost.{Cost}
use Rattle.segment_machine.specs.declared.actor.Known.{Known}
use Rattle.segment_machine.specs.declared.place.Place.TheVariants.{Idle}
use Rattle.segment_machine.specs.Actor.{cost_total, is_opener, known_at}
use Rattle.segment_machine.specs.Calls.{change_last, change_next, sight}
use Rattle.segment_machine.specs.Counting.{add_redundant}
use Rattle.segment_machine.specs.Entry.{has_ended}
use Rattle.segment_machine.specs.Event.{counting_event, next, Ready}
use Rattle.segment_machine.specs.Note.{amounts, ends}
use Rattle.segment_promises.specs.Follows.{noted_by}
use Rattle.live_segment.specs.Add.Finish.{counted_entry, item_of, IsCounted, HasCountedSample, IsSummed, HasEnded}
use Rattle.live_segment.specs.Steps.{IsSame, Pass}
use Rattle.live_segment.specs.Steps.GhostNotes.{MayAmount, HasAmount, MayDo, Noted}
use Rattle.live_segment.proofs.lemmas.Add.Beginning.{known_there}
use Rattle.live_segment.proofs.lemmas.Add.Ended.{changed_behind, next_behind, still_open}

-- ---- its amount

-- an amount of 0 is left out
pub leaves_out : (known : Known) (value : ℤ) (units : ℕ) (amount : ℤ) (before : List EntryProgress) (a : Actor) → IsCounted known value units before a
    → amount ≡ pos 0 → IsSummed (record (item_of known value units) { amount = amount }) before a a
leaves_out known value units amount before a is none = record {
  summed = false;
  left_out = (Decides-int_eq amount (pos 0)).1 none;
  view = ap (λ (l : List EntryProgress). record a { entries = record a.entries { running = l } })
      (is.runs ∙ ap (λ (n : ℤ). before ++ counted_entry (record (item_of known value units) { amount = n }) false ∷ []) (sym none));
  free = is.free;
}

module _ (known : Known) (value : ℤ) (units : ℕ) (amount : ℤ) (seat : Pass) (is : HasCountedSample known value units seat.me.0) (some : amount ≢ pos 0) where
  abbrev a : Actor
  a = seat.me.0

  abbrev entry : Entry
  entry = record (item_of known value units) { amount = amount }

  abbrev told : EntryProgress
  told = counted_entry entry false

  runs_told : change_last (λ c. let e = c.entry in record c { entry = record e { amount = amount } }) a.entries.running ≡ told ∷ []
  runs_told = ap (change_last (λ c. let e = c.entry in record c { entry = record e { amount = amount } })) is.counted.runs

  amounts_not : int_eq amount (pos 0) ≡ false
  amounts_not = by_test (int_eq amount (pos 0)) refl
    where
      by_test : (b : Bool) → int_eq amount (pos 0) ≡ b → b ≡ false
      by_test true e = absurd (some ((Decides-int_eq amount (pos 0)).0 e))
      by_test false e = refl

  goes : has_ended told ≡ false
  goes = still_open told refl is.counted.some

  pub may_amount : (histogram : ℕ) → known.reference ≡ histogram → unsigned_abs amount ≤ 2147483648 * units → MayAmount seat histogram amount
  may_amount histogram here small = (
    record { known = known; amount = amount },
    (here, is.counted.alone, refl),
    record {
      recorder = is.counted.recorder;
      may = (
        (
          ([], counted_entry (item_of known value units) false, is.counted.runs, refl, refl),
          subst (All (λ c. c.entry.amount ≡ pos 0)) (sym is.counted.runs)
              (All-cons (λ (c : EntryProgress). c.entry.amount ≡ pos 0) (counted_entry (item_of known value units) false) [] refl (All-nil _)),
          subst (λ (costs : List Cost). unsigned_abs amount ≤ 2147483648 * cost_total costs) (sym is.holds) (omega (arith, small)),
        ),
        refl,
      );
      ready = (
        is.counted.free,
        told,
        known,
        (([], ap (filter (λ x. not (has_ended x))) runs_told ∙ next_behind told goes [] (All-nil _)), refl, amounts_not),
        refl,
        (known_there a.answers.names known.reference known is.counted.alone).0,
        refl,
        refl,
      );
      goes = λ found learned. refl;
    },
  )

  pub still_same : (histogram found : ℕ) (after : Pass) → known.reference ≡ histogram → HasAmount seat histogram amount found after → IsSame seat after
  still_same histogram found after here has = (has (record { known = known; amount = amount }) (here, is.counted.alone, refl)).same

  pub adds : (histogram found : ℕ) (after : Pass) → known.reference ≡ histogram → HasAmount seat histogram amount found after
      → IsSummed entry [] a after.me.0
  adds histogram found after here has =
      let noted = has (record { known = known; amount = amount }) (here, is.counted.alone, refl) in
      let running : change_next (λ c. record c { summed = true }) (noted_by a (amounts amount ∷ [])).entries.running ≡ counted_entry entry true ∷ [] =
      ap (change_next (λ c. record c { summed = true })) runs_told ∙ changed_behind told goes (λ c. record c { summed = true }) [] (All-nil _) in
      let view : after.me.0 ≡ record a { hand = record a.hand { place = Idle }; entries = record a.entries { running = counted_entry entry true ∷ [] } } =
      noted.view ∙ ap (λ (l : List EntryProgress). record a { hand = record a.hand { place = Idle }; entries = record a.entries { running = l } }) running in
      subst (IsSummed entry [] a) (sym view) (record { summed = true; left_out = refl; view = refl; free = refl })

-- ---- its units

module _ (entry : Entry) (before : List EntryProgress) (known : Known) (first : Actor) (seat : Pass) (is : IsSummed entry before first seat.me.0)
    (records : is_opener first.role ≡ false) (alone : known_at first.answers.names known.reference ≡ Some known) (named : known.name ≡ entry.name)
    (some : 1 ≤ entry.units) (ended : All (λ c. has_ended c ≡ true) before) where
  abbrev b : Actor
  b = seat.me.0

  abbrev last : EntryProgress
  last = counted_entry entry is.summed

  abbrev done : EntryProgress
  done = record last { noted = true }

  runs_last : b.entries.running ≡ before ++ last ∷ []
  runs_last = ap (λ (x : Actor). x.entries.running) is.view

  goes_on : has_ended last ≡ false
  goes_on = still_open last refl some

  runs_done : change_next (λ c. record c { noted = true }) b.entries.running ≡ before ++ done ∷ []
  runs_done = ap (change_next (λ c. record c { noted = true })) runs_last ∙ changed_behind last goes_on (λ c. record c { noted = true }) before ended

  over : has_ended done ≡ true
  over = λ i. is.left_out i && true

  all_over : All (λ c. has_ended c ≡ true) (before ++ done ∷ [])
  all_over = All-append (λ c. has_ended c ≡ true) before (done ∷ []) ended (All-cons (λ c. has_ended c ≡ true) done [] over (All-nil _))

  -- it may be noted
  pub noted_ready : (histogram units : ℕ) → known.reference ≡ histogram → entry.units ≡ units → Ready b (counting_event (add_redundant histogram units))
  noted_ready histogram units here many = (
    is.free,
    last,
    known,
    (([], ap (filter (λ x. not (has_ended x))) runs_last ∙ next_behind last goes_on before ended), refl, is.left_out),
    many,
    (known_there b.answers.names known.reference known (ap (λ (x : Actor). known_at x.answers.names known.reference) is.view ∙ alone)).0,
    here,
    named,
  )

  pub may_last : (histogram units : ℕ) → known.reference ≡ histogram → entry.units ≡ units
      → MayDo seat [] (counting_event (add_redundant histogram units)) (ends ∷ [])
  may_last histogram units here many = record {
    recorder = ap (λ (x : Actor). is_opener x.role) is.view ∙ records;
    may = refl;
    ready = noted_ready histogram units here many;
    goes = λ found learned. ((refl, subst (All (λ c. has_ended c ≡ true)) (sym runs_done) all_over), refl);
  }

  pub ends_so : (histogram units found : ℕ) (after : Pass) → Noted seat [] (counting_event (add_redundant histogram units)) (ends ∷ []) found after
      → HasEnded (map (λ c. c.entry) before ++ entry ∷ []) first after.me.0
  ends_so histogram units found after noted =
      let event = counting_event (add_redundant histogram units) in
      let view : after.me.0 ≡ noted_by (next (record first { hand = record first.hand { place = b.hand.place }; entries = record first.entries { running = before ++ last ∷ [] } }) event found) (ends ∷ []) =
      noted.view ∙ ap (λ (y : Actor). noted_by (next y event found) (ends ∷ [])) is.view in
      let log : after.me.0.entries.log ≡ first.entries.log ++ (before ++ done ∷ []) =
      ap (λ (y : Actor). y.entries.log) noted.view ∙ (λ i. (is.view i).entries.log ++ runs_done i) in
      let counts : after.me.0.seen.counts ≡ first.seen.counts ++ sight (histogram + 13) (found + units) =
      ap (λ (y : Actor). y.seen.counts) noted.view ∙ ap (λ (y : Actor). y.seen.counts ++ sight (histogram + 13) (found + units)) is.view in record {
        same = subst (λ (y : Actor). y ≡ record first {
          units = record first.units { costs = first.units.costs ++ first.units.held; held = [] };
          entries = record first.entries { log = y.entries.log; running = [] };
          hand = record first.hand { place = y.hand.place };
          seen = record first.seen { counts = y.seen.counts };
          since = y.since;
        }) (sym view) refl;
        logged = ap (map (λ c. c.entry)) log
            ∙ (map-append (λ c. c.entry) first.entries.log (before ++ done ∷ [])
            ∙ ap (λ (l : List Entry). map (λ c. c.entry) first.entries.log ++ l) (map-append (λ c. c.entry) before (done ∷ [])));
        idle = ap (λ (y : Actor). y.hand.place) noted.view;
        counts = (sight (histogram + 13) (found + units), counts);
      }
