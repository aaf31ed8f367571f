-- Whatever recorders are not joined, the words of a closed segment read as those of a stop. Its opener's log is in them, except for units
-- in transit; and the units beyond the log are those that were handed out.
use Rattle.std.proofs.Common.{◌≡◌, ℕ, ◌+◌, ◌≤◌, ◌-◌, ℤ, Bool, true, false, if◌then◌else◌, List, [], ◌∷◌, sum_by, flat_map, Contains, refl, sym, ap, subst, ◌∙◌, arith}
use Rattle.std.specs.Ordering.{int_eq}
use Rattle.std.proofs.lemmas.Bool.Decides.{Decides-int_eq}
use Rattle.std.proofs.lemmas.List.Elements.{All-contains, Contains-append_right}
use Rattle.std.proofs.lemmas.List.Sums.{sum_by-cons}
use mathlib.Core.Option.{some, some-injective, some-ne-none}
use lib.ListN.{get_elem?}
use Rattle.bucket_ranges.specs.declared.spec.Spec.{Spec}
use Rattle.bucket_ranges.specs.Spec.{SameSpec}
use Rattle.bucket_ranges.specs.Reading.{Histogram, Reading}
use Rattle.segment_machine.specs.declared.entry.Entry.{Entry}
use Rattle.segment_machine.specs.declared.actor.Actor.{Actor}
use Rattle.segment_machine.specs.declared.actor.Known.{Known}
use Rattle.segment_machine.specs.Entry.{is_of, tally_units, tally_noted}
use Rattle.segment_machine.specs.Actor.{log_of, units_of, units_listed, counted_of, all_counted, all_costs}
use Rattle.segment_machine.specs.State.{State}
use Rattle.segment_invariant.specs.Body.{Anatomy}
use Rattle.segment_invariant.specs.Ledger.{all_moving}
use Rattle.segment_invariant.specs.Seen.{IsFirst, IsRightlyKnown}
use Rattle.segment_invariant.specs.Invariant.{Invariant}
use Rattle.segment_invariant.proofs.Consistency.Books.{one_first}
use Rattle.segment_invariant.proofs.Counting.Bounds.{each_covered}
use Rattle.segment_invariant.proofs.Frames.Spending.{all_spent}
use Rattle.segment_invariant.proofs.Lists.Countings.{units_total}
use Rattle.segment_promises.specs.Reads.{units_read, ReadsNames, ReadsUnits}
use Rattle.segment_promises.proofs.Adopting.Sums.{under, covered}
use Rattle.segment_promises.proofs.Adopting.Units.{under_key, sum_below, spent_spread}
use Rattle.segment_promises.proofs.Joined.{fits, own_log}
use Rattle.segment_promises.proofs.Readings.Stopped.{stopped_reads}
use Rattle.live_segment.specs.declared.rule.Opening.{Opening}
use Rattle.live_segment.specs.declared.rule.Setting.{Setting}
use Rattle.live_segment.specs.Rule.{Closes}
use Rattle.live_segment.specs.Closing.{units_beyond, units_out, ReadsStopped}
use Rattle.live_segment.proofs.Closing.Given.{gave_all}
use Rattle.live_segment.proofs.Closing.Joined.{known, read_there}

-- ---- one histogram

-- numbers of a key, each beyond another number, come to no more than all of them beyond that
module _ (logged : ℤ → ℕ) (key : ℤ) where
  abbrev beyond : List (ℤ × ℕ) → ℕ
  beyond counts = under (λ (count : ℤ × ℕ). count.0) (λ (count : ℤ × ℕ). count.1 - logged count.0) counts key

  beyond_key : (counts : List (ℤ × ℕ)) → beyond counts ≤ units_listed counts key - logged key
  beyond_key [] = omega arith
  beyond_key (count ∷ rest) =
      let one = sum_by-cons (λ (count : ℤ × ℕ). if int_eq count.0 key then count.1 - logged count.0 else 0) count rest in
      let all = sum_by-cons (λ (count : ℤ × ℕ). if int_eq count.0 key then count.1 else 0) count rest in
      by_test (int_eq count.0 key) refl one all (beyond_key rest)
    where
      by_test : (b : Bool) → int_eq count.0 key ≡ b → beyond (count ∷ rest) ≡ (if b then count.1 - logged count.0 else 0) + beyond rest
          → units_listed (count ∷ rest) key ≡ (if b then count.1 else 0) + units_listed rest key → beyond rest ≤ units_listed rest key - logged key
          → beyond (count ∷ rest) ≤ units_listed (count ∷ rest) key - logged key
      by_test true is one all behind =
          let same = ap logged ((Decides-int_eq count.0 key).0 is) in
          omega (arith, one, all, behind, same)
      by_test false is one all behind = omega (arith, one, all, behind)

-- if of each key no more is read than two lists of entries have, all beyond the one is no more than the other has
beyond_most : (log others : List Entry) (h : Histogram)
    → ((key : ℤ) → units_read h key ≤ tally_units log h.name key + tally_units others h.name key) → units_beyond log h ≤ tally_noted others h.name
beyond_most log others h most =
    covered (λ (count : ℤ × ℕ). count.0) (λ (count : ℤ × ℕ). count.1 - tally_units log h.name count.0) (λ (e : Entry). e.key)
    (λ (e : Entry). if is_of h.name e then e.units else 0) h.counts others
    (λ key.
    let more = beyond_key (λ key. tally_units log h.name key) key h.counts in
    let under_it = under_key h.name others key in
    let read = most key in
    omega (arith, more, under_it, read))

-- ---- the opener and the others

-- if a list has a first element, the others come after it
behind_first : {X : Type 0} (x : X) (list : List X) → get_elem? list 0 ≡ some x → (rest : List X) × (list ≡ x ∷ rest)
behind_first x [] first = absurd (some-ne-none x (sym first))
behind_first x (y ∷ rest) first = (rest, ap (λ (y : _). y ∷ rest) (some-injective y x first))

module _ (setting : Setting) (opened : Anatomy) (state : State) (kept : Invariant setting.shape opened state) (opener : Actor)
    (stands : get_elem? state.actors 0 ≡ some opener) where
  -- the histograms that were returned to joined recorders are read
  answers_read : (reading : Reading) → ReadsNames kept.anatomy.records reading → (known : Known) → Contains opener.answers.names known
      → (h : Histogram) × Contains reading.hists h × (h.name ≡ known.name) × (h.reference ≡ known.reference) × SameSpec h.spec known.spec
  answers_read reading names known among =
      let its = All-contains (IsRightlyKnown kept.anatomy) opener.answers.names known (fits setting.shape opened state opener kept stands).names among in
      let (h, there, named) = names.read known.name its.first_spec known.reference its.first in
      let (kind, first, same) = names.given h there in
      let (place, equal) = one_first setting.shape opened state kept known.name its.first_spec kind known.reference h.reference its.first
      (subst (λ (name : List ℕ). IsFirst kept.anatomy.records name kind h.reference) named first) in
      let given : SameSpec kind known.spec = subst (λ (kind : Spec). SameSpec kind known.spec) equal its.same in
      (h, there, named, sym place, (same.0 ∙ given.0, same.1 ∙ given.1))

  module _ (rest : List Actor) (all : state.actors ≡ opener ∷ rest) where
    -- what is counted is the log and what the others have counted
    counted_parts : (name : List ℕ) (key : ℤ)
        → tally_units (all_counted state.actors) name key ≡ tally_units (log_of opener) name key + tally_units (flat_map counted_of rest) name key
    counted_parts name key =
        ap (λ (actors : List Actor). tally_units (all_counted actors) name key) all
        ∙ (units_total name key (counted_of opener) (flat_map counted_of rest)
        ∙ ap (λ (entries : List Entry). tally_units entries name key + tally_units (flat_map counted_of rest) name key)
        (own_log setting.shape opened state opener kept stands))

    -- what the others have counted, they have spent or hold
    others_covered : (name : List ℕ) → tally_noted (flat_map counted_of rest) name ≤ all_costs rest name
    others_covered name = all_spent counted_of rest name
        (λ a among. each_covered setting.shape opened state kept name a
        (subst (λ (actors : List Actor). Contains actors a) (sym all) (Contains-append_right (opener ∷ []) rest a among)))

    -- and all that they have is what was handed out
    others_have : sum_by units_of rest ≤ units_out opener
    others_have =
        let pool = kept.pool in
        let actors = ap (λ (actors : List Actor). sum_by units_of actors) all in
        let parts = sum_by-cons units_of opener rest in
        omega (arith, pool, actors, parts)

    module _ (reading : Reading) (once : ReadsNames kept.anatomy.records reading)
        (reads : (h : Histogram) → Contains reading.hists h → ReadsUnits setting.version state h) where
      least : (h : Histogram) (key : ℤ) → Contains reading.hists h
          → tally_units (log_of opener) h.name key ≤ units_read h key + all_moving h.name key state.actors
      least h key there =
          let counted = (reads h there).counted key in
          let parts = counted_parts h.name key in
          omega (arith, counted, parts)

      most : sum_by (units_beyond (log_of opener)) reading.hists ≤ units_out opener
      most =
          let each = sum_below (units_beyond (log_of opener)) (λ (h : Histogram). all_costs rest h.name) reading.hists
          (λ h there.
          let beyond = beyond_most (log_of opener) (flat_map counted_of rest) h
          (λ key. let counted = (reads h there).counted key in let parts = counted_parts h.name key in omega (arith, counted, parts)) in
          let covers = others_covered h.name in
          omega (arith, beyond, covers)) in
          let spread = spent_spread reading.hists once.once rest in
          let have = others_have in
          omega (arith, each, spread, have)

-- ---- the reading

pub stopped : (given : Opening) (opener : Actor) (words : List ℕ) → Closes given opener words → ReadsStopped given opener words
stopped given opener words closes = record {
  closed = closes;
  reads = λ reading is.
      let setting = given.setting in
      let state = closes.state in
      let kept = closes.kept in
      let (lawful, head, names, each) = stopped_reads setting.shape closes.opened state reading kept (read_there given opener words closes reading is) in
      let (rest, all) = behind_first opener state.actors closes.stands in
      let units = λ (h : Histogram) (there : Contains reading.hists h).
      subst (λ (version : ℕ). ReadsUnits version state h) closes.as_said.version (each h there).0 in
      record {
        lawful = lawful;
        head = head;
        names = names;
        each = λ h there. (units h there, (each h there).1);
        first_noted = known given opener words closes;
        answered = answers_read setting closes.opened state kept opener closes.stands reading names;
        least = least setting closes.opened state kept opener closes.stands rest all reading names units;
        most = most setting closes.opened state kept opener closes.stands rest all reading names units;
      };
  gave = gave_all given opener words closes;
}
