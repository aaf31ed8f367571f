-- The units of the entry that is next are added to the redundant count of its histogram.
use Rattle.segment_invariant.proofs.Prelude.Std.{◌≡◌, ◌≢◌, ℕ, ◌+◌, ◌%◌, ◌^◌, ◌<◌, ◌≤◌, pos, Bool, true, false, cond, not, ◌&&◌, List, [], ◌∷◌, ◌++◌, map, filter, length, set, Contains, inl, inr, ⊎_elim, refl, sym, ap, ◌∙◌, subst, arith, length-append, if◌then◌else◌, ◌==◌, drop, take, bytes_eq, +ℤ_idr, drop-append-le, length-map, get_or-set_same, All-contains, Contains-append_right, bytes_eq-Decides, some, none, get_elem?, at_from, sum_at_least, sum_same, contains_map}
use Rattle.segment_invariant.proofs.Prelude.Machine.{Dimensions, word_at, buckets_of, EntryProgress, Entry, Actor, Known, Spent, Idle, Sighting, is_counted, is_summed, is_noted, has_ended, is_of, tally_sum, tally_noted, noted_among, is_bound, cost_of, cost_total, units_of, summed_of, noted_of, is_opener, counting_event, State}
use Rattle.segment_invariant.proofs.Prelude.Invariant.{Record, Counts, Sample, histogram, counts, sample, Anatomy, layout_of, of_name, HasRecord, HasCounts, HasSample, WasCounter, LooksBack, summed_cost, Invariant, KeptOn, EventKeeps}
use Rattle.std.proofs.lemmas.List.Elements.{All-take}
use Rattle.alloc_core.proofs.Layouts.{length_shown}
use Rattle.segment_machine.specs.Entry.{summed_among}
use Rattle.segment_machine.specs.Counting.{add_redundant}
use Rattle.list_lemmas.proofs.Elements.{not_empty}
use Rattle.segment_invariant.proofs.Frames.LaidOut.{laid_out}
use Rattle.segment_invariant.proofs.Lists.Countings.{noted_total}
use Rattle.segment_invariant.proofs.Blocks.Pieces.{piece_word}
use Rattle.segment_invariant.proofs.Frames.GoesOn.{happens}
use Rattle.segment_invariant.proofs.Frames.SeesMore.{seer}
use Rattle.segment_invariant.proofs.Frames.Together.{loaded_set}
use Rattle.segment_invariant.proofs.Walking.Walks.{block_within}
use Rattle.segment_invariant.proofs.Counting.Running.{Next, next_of, passes_same, passes_beside}
use Rattle.segment_invariant.proofs.Counting.Amounts.{with_amount, turner_lives, the_record, later, deed, amount_added}
use Rattle.segment_invariant.proofs.Counting.Bounds.{noted_fits}
use Rattle.segment_invariant.proofs.Counting.Looks.{same_block, one_record, body_word, counter_now, counts_seen, knows_of, looks_count}
use Rattle.segment_invariant.proofs.Counting.Sights.{word_within}
use Rattle.segment_invariant.proofs.Counting.Whole.{whole_noted}
use Rattle.segment_invariant.proofs.Consistency.Firsts.{sample_of_first}
use Rattle.alloc_core.proofs.Owners.{set_at}
use Rattle.segment_invariant.proofs.Changes.Others.{Deed}
use Rattle.segment_invariant.proofs.Changes.Looks as changes
use Rattle.segment_invariant.proofs.Changes.Sums.{SameSum, sums_on}
use Rattle.segment_invariant.proofs.Changes.Words.{Turns, behind, came_from, stands_then, word_turns, record_sums}

module _ (shape : Dimensions) (opened : Anatomy) (state : State) (kept : Invariant shape opened state) (id : ℕ) (a : Actor)
    (mine : get_elem? state.actors id ≡ some a) (recorder : is_opener a.role ≡ false) (unbound : is_bound a.hand.place ≡ false)
    (c : EntryProgress) (next : Next a.entries.running c) (known : Known) (has : Contains a.answers.names known) (named : known.name ≡ c.entry.name)
    (counted : is_counted c ≡ true) (summed : is_summed c ≡ true) (unnoted : is_noted c ≡ false) where
  abbrev d : EntryProgress
  d = record c { noted = true }

  abbrev units : ℕ
  units = c.entry.units

  pub lived : a.hand.place ≢ Spent
  lived = turner_lives shape opened state kept id a mine recorder unbound c d next refl known has

  abbrev r : Record
  r = (the_record shape opened state kept id a mine recorder unbound c d next refl known has).0

  abbrev stands : HasRecord kept.anatomy.pieces known.reference r
  stands = (the_record shape opened state kept id a mine recorder unbound c d next refl known has).1

  called : r.name ≡ c.entry.name
  called = (the_record shape opened state kept id a mine recorder unbound c d next refl known has).2 ∙ named

  abbrev v : ℕ
  v = r.noted + units

  pub turns : Turns kept.anatomy.version (histogram r) (histogram (with_amount r r.sum v)) 13 v
  turns = word_turns kept.anatomy.version (histogram r) (histogram (with_amount r r.sum v)) 13 v refl refl refl (omega arith) (omega arith)
      (with_amount r r.sum v, refl, record { is = refl; counts = λ there. refl; single = inl refl; mark = omega arith; noted = omega arith })

  pub narrow : r.sum < 2 ^ 64
  narrow = (kept.records.lawful known.reference r stands).narrow.0

  abbrev s : Sighting
  s = record { at = known.reference + 13; word = v }

  abbrev b : Actor
  b = later shape opened state kept id a mine recorder unbound c d next refl known has r.sum v 13 v turns narrow (a.seen.counts ++ s ∷ []) refl

  abbrev actors : List Actor
  actors = set state.actors id b

  abbrev new : Anatomy
  new = behind shape opened state kept known.reference (histogram r) (histogram (with_amount r r.sum v)) 13 v stands turns

  -- ---- its entries

  summed_same : summed_of b ≡ summed_of a
  summed_same = passes_same is_summed next.behind c d refl refl a.entries.first a.entries.log next.front ∙ ap (λ (l : List EntryProgress). a.entries.first ++ summed_among (a.entries.log ++ l)) (sym next.is)

  -- they come to `units` more
  noted_more : (name : List ℕ) → tally_noted (noted_of b) name ≡ tally_noted (noted_of a) name + of_name r.name name units
  noted_more name =
      let beside = passes_beside is_noted [] a.entries.log next.front next.behind c d (λ entries. tally_noted entries name) (noted_total name) in
      let off : tally_noted (map (λ (c : EntryProgress). c.entry) (cond (is_noted c) (c ∷ []) [])) name ≡ 0 =
      ap (λ (t : Bool). tally_noted (map (λ (c : EntryProgress). c.entry) (cond t (c ∷ []) [])) name) unnoted in
      let on : tally_noted (c.entry ∷ []) name ≡ 0 + of_name r.name name units = ap (λ (n : List ℕ). 0 + (if bytes_eq n name then units else 0)) (sym called) in
      let was = ap (λ (l : List EntryProgress). tally_noted (noted_among (a.entries.log ++ l)) name) next.is in
      omega (arith, beside, off, on, was)

  held_more : (name : List ℕ) → of_name r.name name v ≡ of_name r.name name r.noted + of_name r.name name units
  held_more name = by_test (bytes_eq r.name name)
    where
      by_test : (t : Bool) → (if t then v else 0) ≡ (if t then r.noted else 0) + (if t then units else 0)
      by_test true = refl
      by_test false = omega arith

  -- ---- blocks

  -- nothing else has that word
  no_counts : (place i : ℕ) (x : Counts) → HasCounts kept.anatomy.pieces place x → 4 ≤ i → i < 4 + (length x.units + length x.marks) → known.reference + 13 ≡ place + i → ⊥
  no_counts place i x there from below same =
      let long = length-append x.units x.marks in
      let all = length-append (x.units ++ x.marks) x.rest in
      cc (same_block shape opened state kept known.reference place 13 i (histogram r) (counts x) stands there (omega arith) (omega (arith, below, long, all)) same).1

  no_sample : (place i : ℕ) (x : Sample) → HasSample kept.anatomy.pieces place x → i < 8 → known.reference + 13 ≡ place + i → ⊥
  no_sample place i x there below same =
      cc (same_block shape opened state kept known.reference place 13 i (histogram r) (sample x) stands there (omega arith) (omega (arith, below)) same).1

  -- a record that is there names the counts that one named
  named_then : (place : ℕ) (z : Record) → HasRecord new.pieces place z → (y : Record) × HasRecord kept.anatomy.pieces place y × (y.counts ≡ z.counts)
  named_then place z there = ⊎_elim
      (λ was. (z, was.0, refl))
      (λ is.
      let one : with_amount r r.sum v ≡ z = cc (sym is.1) in
      (r, subst (λ (n : ℕ). HasRecord kept.anatomy.pieces n r) (sym is.0) stands, ap (λ (w : Record). w.counts) one))
      (came_from shape opened state kept known.reference (histogram r) (histogram (with_amount r r.sum v)) 13 v stands turns place none (histogram z) there)

  no_bucket : (place bucket : ℕ) (y : Record) → HasRecord kept.anatomy.pieces place y → y.counts ≢ 0 → bucket < buckets_of y.spec → known.reference + 13 ≡ y.counts + 4 + bucket → ⊥
  no_bucket place bucket y there mounts below same =
      let (x, mounted, of_it) = kept.records.mounted place y there mounts in
      let units = of_it.units in
      no_counts y.counts (4 + bucket) x mounted (omega arith) (omega (arith, below, units)) (omega (arith, same))

  -- ---- what it sees

  found_is : word_at state.words (known.reference + 13) ≡ r.noted
  found_is = piece_word shape state.words kept.anatomy kept.shown stands.0 _ 13 stands.1 (omega arith)

  -- what the count was before was no less than what was accepted
  looked : LooksBack kept.anatomy state.actors kept.roles.opener
      (seer a Idle (record a.seen { counts = a.seen.counts ++ record { at = known.reference + 13; word = word_at state.words (known.reference + 13) } ∷ [] }) a.done.given a.done.lost)
  looked = looks_count shape opened state kept id a mine recorder lived (known.reference + 13) Idle a.done.given
      (λ look bucket units moving. cc (unbound, ap is_bound moving)) (λ reference sum is. absurd (cc is))

  begun : a.since.counts ≤ length a.seen.counts
  begun = ((kept.each id a mine lived).looks recorder).begun.1

  counter : changes.Counter new actors kept.roles.opener a s
  counter = record {
    most = λ other bucket single place knows below saw off seen same.
        let (y, first, there, name, many, keys) = knows_of shape opened state kept id a mine recorder lived other knows in
        let (place_is, mounts) = counts_seen shape opened state kept id a mine recorder lived other.reference place y there seen in
        absurd (no_bucket other.reference bucket y there mounts (omega (arith, below, many)) (omega (arith, same, place_is)));
    counted = λ other bucket z knows below there mounts same settled.
        let (y, was, refers) = named_then other.reference z there in
        let (w, first, stood, name, many, keys) = knows_of shape opened state kept id a mine recorder lived other knows in
        let one = ap (λ (x : Record). buckets_of x.spec) (one_record shape opened state kept other.reference w y stood was) in
        absurd (no_bucket other.reference bucket y was (λ none_there. mounts (sym refers ∙ none_there)) (omega (arith, below, many, one)) (omega (arith, same, refers)));
    samples = λ other value place knows first same.
        let (x, (there, of_it, valued)) = sample_of_first shape opened state.words (laid_out shape opened state kept) other.reference value place first in
        absurd (no_sample place 6 x there (omega arith) same);
    rising = λ t before same.
        let was = All-contains (WasCounter kept.anatomy.pieces) (take a.since.counts a.seen.counts) t
        (All-take (WasCounter kept.anatomy.pieces) a.since.counts a.seen.counts (kept.each id a mine lived).sees.counters) before in
        let now = counter_now shape opened state kept t was in
        let spot = ap (word_at state.words) same in
        omega (arith, now, spot, found_is);
    noted = λ other knows same.
        let z : Sighting = record { at = other.reference + 13; word = word_at state.words (known.reference + 13) } in
        let mine_is : record { at = known.reference + 13; word = word_at state.words (known.reference + 13) } ≡ z =
        λ i. record { at = same i; word = word_at state.words (known.reference + 13) } in
        let least = looked.noted other (word_at state.words (known.reference + 13)) knows
        (subst (λ (l : List Sighting). Contains l z) (sym (drop-append-le a.since.counts a.seen.counts _ begun))
        (Contains-append_right (drop a.since.counts a.seen.counts) _ z (0, omega arith, mine_is))) in
        omega (arith, least, found_is);
  }

  -- ---- the state

  pub units_added : KeptOn shape opened kept (record { words = set state.words (known.reference + 13) v; cursors = state.cursors; actors = actors })
  units_added = amount_added shape opened state kept id a mine recorder unbound c d next refl known has r.sum v 13 v turns narrow (a.seen.counts ++ s ∷ []) refl
      (untouched_off c.counted c.summed) (λ is. counted) (λ noted. summed) amounts
      (λ name. (pos 0, sym (+ℤ_idr _), ap (λ entries. tally_sum entries name) summed_same ∙ sym (+ℤ_idr _)))
      (λ name.
      let held = held_more name in
      let more = noted_more name in
      omega (arith, held, more))
      (λ name other. ap (λ entries. tally_sum entries name) summed_same)
      (λ name other.
      let more = noted_more name in
      let none_of : of_name r.name name units ≡ 0 = ap (λ (n : List ℕ). if bytes_eq n name then units else 0) called ∙ ap (λ (t : Bool). if t then units else 0) other in
      omega (arith, more, none_of))
      (sums_on shape state.words kept.anatomy kept.shown new.pieces state.actors actors sum_stays (loaded_set state.actors id a b mine (λ at sum is. absurd (cc is)))
      (λ name. let all = sum_same (summed_cost name) state.actors id a b mine (cost_same name) in omega (arith, all)) kept.sums)
      (λ sees. changes.sees_count new state.cursors a.seen s
      (known.reference, 13, histogram (with_amount r r.sum v), stands_now, refl, inr refl, omega arith)
      (λ place i x there same from below. absurd (no_counts place i x (counts_was place x there) from below same))
      (λ place x there which. absurd (⊎_elim
      (λ six. no_sample place 6 x (sample_was place x there) (omega arith) six)
      (λ seven. no_sample place 7 x (sample_was place x there) (omega arith) seven) which)) sees)
      (λ looks. changes.looks_count new actors kept.roles.opener a s (deed_is) counter looks)
    where
      untouched_off : (x y : Bool) → (not x && not y && not true) ≡ false
      untouched_off true y = refl
      untouched_off false true = refl
      untouched_off false false = refl

      deed_is : Deed
      deed_is = deed shape opened state kept id a mine recorder unbound c d next refl known has r.sum v 13 v turns narrow (a.seen.counts ++ s ∷ []) refl

      amounts : d.summed ≡ true → d.entry.amount ≢ pos 0
      amounts is = All-contains (λ (c : EntryProgress). c.summed ≡ true → c.entry.amount ≢ pos 0) a.entries.running c (kept.each id a mine lived).calls.ordered.amounted
          (subst (λ (l : List EntryProgress). Contains l c) (sym next.is) (Contains-append_right next.front (c ∷ next.behind) c (0, omega arith, refl))) is

      stands_now : HasRecord new.pieces known.reference (with_amount r r.sum v)
      stands_now = stands_then shape opened state kept known.reference (histogram r) (histogram (with_amount r r.sum v)) 13 v stands turns

      counts_was : (place : ℕ) (x : Counts) → HasCounts new.pieces place x → HasCounts kept.anatomy.pieces place x
      counts_was place x there = ⊎_elim (λ was. was.0) (λ is. absurd (cc is.1))
          (came_from shape opened state kept known.reference (histogram r) (histogram (with_amount r r.sum v)) 13 v stands turns place none (counts x) there)

      sample_was : (place : ℕ) (x : Sample) → HasSample new.pieces place x → HasSample kept.anatomy.pieces place x
      sample_was place x there = ⊎_elim (λ was. was.0) (λ is. absurd (cc is.1))
          (came_from shape opened state kept known.reference (histogram r) (histogram (with_amount r r.sum v)) 13 v stands turns place none (sample x) there)

      sum_stays : SameSum kept.anatomy.pieces new.pieces
      sum_stays = record_sums shape opened state kept known.reference r (with_amount r r.sum v) 13 v stands turns refl refl refl

      cost_same : (name : List ℕ) → summed_cost name b ≡ summed_cost name a
      cost_same name =
          let long : length (filter (λ (c : EntryProgress). c.summed) (next.front ++ d ∷ next.behind)) ≡ length (filter (λ (c : EntryProgress). c.summed) a.entries.running) =
          sym (length-map (filter (λ (c : EntryProgress). c.summed) (next.front ++ d ∷ next.behind)) (λ (c : EntryProgress). c.entry))
          ∙ (ap length (passes_same (λ (c : EntryProgress). c.summed) next.behind c d refl refl [] [] next.front)
          ∙ (length-map (filter (λ (c : EntryProgress). c.summed) (next.front ++ c ∷ next.behind)) (λ (c : EntryProgress). c.entry)
          ∙ ap (λ (l : List EntryProgress). length (filter (λ (c : EntryProgress). c.summed) l)) (sym next.is))) in
          ap (λ (n : ℕ). cost_of a.units.costs name + (if n == 0 then 0 else cost_of a.units.held name)) long

  -- ---- its units are few

  units_few : units ≤ 4294967295
  units_few =
      let fits = kept.each id a mine lived in
      let (name, cost, held, within, knows) = fits.calls.within (λ none_runs. not_empty next.front next.behind c (sym next.is ∙ none_runs)) in
      let entries = map (λ (c : EntryProgress). c.entry) a.entries.running in
      let there : Contains entries c.entry = contains_map (λ (c : EntryProgress). c.entry) a.entries.running c
      (subst (λ (l : List EntryProgress). Contains l c) (sym next.is) (Contains-append_right next.front (c ∷ next.behind) c (0, omega arith, refl))) in
      let its : c.entry.name ≡ name = All-contains (λ (e : Entry). e.name ≡ name) entries c.entry within.of_name there in
      let (i, at) = at_from entries c.entry there in
      let least = sum_at_least (λ (e : Entry). if is_of name e then e.units else 0) entries i c.entry at in
      let one : (if is_of name c.entry then units else 0) ≡ units = ap (λ (t : Bool). if t then units else 0) ((bytes_eq-Decides c.entry.name name).1 its) in
      let most = within.units in
      let all : cost_total a.units.held ≡ 0 + cost = ap cost_total held in
      let mine_units = sum_at_least units_of state.actors id a mine in
      let pool = kept.pool in
      omega (arith, least, one, most, all, mine_units, pool)

  -- the count that is left is no more than all units
  pub noted_small : v ≤ 4294967295
  noted_small =
      let after : State = record { words = set state.words (known.reference + 13) v; cursors = state.cursors; actors = actors } in
      let (w, first, there, name, many, keys) = knows_of shape opened after units_added.0 id b (set_at state.actors id a b mine) recorder (λ e. cc e) known has in
      let word = body_word shape opened after units_added.0 known.reference 13 (histogram w) there (omega arith) in
      let is = get_or-set_same state.words (known.reference + 13) v 0 (word_within shape opened state kept known.reference 13 (histogram r) stands refl (omega arith)) in
      let whole = whole_noted shape opened after units_added.0 known.name w.spec known.reference w first there name in
      let bound = noted_fits shape opened after units_added.0 known.name in
      omega (arith, word, is, whole, bound)

  pub no_carry : (r.noted + units) % 2 ^ 64 ≡ v
  no_carry = let small = noted_small in omega (arith, small)

-- the event
pub add_redundant_kept : (at units : ℕ) → EventKeeps (counting_event (add_redundant at units))
add_redundant_kept at amount shape opened state id a kept mine recorder (unbound, c, known, ((rest, is_next), counted, summed), units_are, has, refers, named) =
    let next = next_of a.entries.running c rest is_next in
    let d : EntryProgress = record c { noted = true } in
    let unnoted = last_open c counted summed next.goes in
    let (r, (k, there), called) = the_record shape opened state kept id a mine recorder unbound c d next refl known has in
    let found : word_at state.words (at + 13) ≡ r.noted =
    ap (λ (n : ℕ). word_at state.words (n + 13)) (sym refers) ∙ piece_word shape state.words kept.anatomy kept.shown k _ 13 there (omega arith) in
    let (from, five, within) = block_within shape opened state kept known.reference (histogram r) (k, there) refl in
    let size = length_shown shape state.words (layout_of kept.anatomy) kept.shown in
    let whole = units_added shape opened state kept id a mine recorder unbound c next known has named counted summed unnoted in
    let small = noted_small shape opened state kept id a mine recorder unbound c next known has named counted summed unnoted in
    let carry = no_carry shape opened state kept id a mine recorder unbound c next known has named counted summed unnoted in
    happens opened.version state id a (counting_event (add_redundant at amount)) (omega (arith, within, size, refers)) shape opened kept (
      subst (λ (p : ℕ × ℕ × ℕ × ℕ × List EntryProgress). KeptOn shape opened kept (record {
        words = set state.words (p.0 + 13) p.1;
        cursors = state.cursors;
        actors = set state.actors id (record a {
          hand = record a.hand { place = Idle };
          entries = record a.entries { running = p.4 };
          seen = record a.seen { counts = a.seen.counts ++ record { at = p.0 + 13; word = p.2 + p.3 } ∷ [] };
        });
      })) (λ i. (refers i, (sym carry ∙ (λ j. (sym found j + units_are j) % 2 ^ 64)) i, sym found i, units_are i, sym (next.changed (λ c. record c { noted = true })) i)) whole,
      omega (arith, found, units_are, small),
    )
  where
    last_open : (c : EntryProgress) → is_counted c ≡ true → is_summed c ≡ true → has_ended c ≡ false → is_noted c ≡ false
    last_open c counted summed goes = sym ((λ i. counted i && summed i && is_noted c)) ∙ goes
