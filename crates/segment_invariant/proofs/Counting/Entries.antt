-- A recorder moves on with an entry of its running call: its call stays right, and of other names nothing changes.
use Rattle.segment_invariant.proofs.Prelude.Std.{◌≡◌, ◌≢◌, ◌⊎◌, ℕ, ◌<◌, ℤ, pos, true, false, List, [], ◌∷◌, ◌++◌, map, All, Contains, inl, ⊎_elim, refl, sym, ap, ◌∙◌, subst, arith, map-append, All-contains, Contains-append_right}
use Rattle.segment_invariant.proofs.Prelude.Machine.{Entry, EntryProgress, Actor, is_counted, is_summed, is_of, tally_units, tally_sum, tally_noted, counted_of, all_counted, all_summed, all_noted, all_taken, taken_units, taken_sum, SawSample, is_untouched}
use Rattle.segment_invariant.proofs.Prelude.Invariant.{Anatomy, IsFirst, IsFirstOf, CallsRight, IsQuiet, RolesAreKept, FinalsAreExact}
use Rattle.bucket_ranges.specs.declared.spec.Spec.TheVariants as spec
use Rattle.segment_machine.specs.Entry.{AreWithin}
use Rattle.list_lemmas.proofs.Elements.{not_empty}
use Rattle.segment_invariant.proofs.Frames.Roles.{SameRoles}
use Rattle.segment_invariant.proofs.Frames.Together.{moment}
use Rattle.segment_invariant.proofs.Changes.Others.{Deed, changed, is_later}
use Rattle.segment_invariant.proofs.Counting.Running.{Next, ordered_next, all_replaced}

module _ (a : Actor) (c d : EntryProgress) (next : Next a.entries.running c) (entry : d.entry ≡ c.entry) where
  abbrev pub after : List EntryProgress
  after = next.front ++ d ∷ next.behind

  -- its deed is then this
  abbrev pub going : Deed → Deed
  going deed = record deed { running = after; own = a.hand.own; taken = a.deltas.taken }

  same_entries : map (λ (c : EntryProgress). c.entry) after ≡ map (λ (c : EntryProgress). c.entry) a.entries.running
  same_entries =
      map-append (λ (c : EntryProgress). c.entry) next.front (d ∷ next.behind)
      ∙ (ap (λ (e : Entry). map (λ (c : EntryProgress). c.entry) next.front ++ e ∷ map (λ (c : EntryProgress). c.entry) next.behind) entry
      ∙ (sym (map-append (λ (c : EntryProgress). c.entry) next.front (c ∷ next.behind)) ∙ ap (map (λ (c : EntryProgress). c.entry)) (sym next.is)))

  runs : a.entries.running ≢ []
  runs none_runs = not_empty next.front next.behind c (sym next.is ∙ none_runs)

  -- its call stays right, if it visited the samples of what it counted
  pub calls_next : (old new : Anatomy) (deed : Deed)
      → (d.summed ≡ true → is_counted d ≡ true) → (d.noted ≡ true → is_summed d ≡ true) → (d.summed ≡ true → d.entry.amount ≢ pos 0)
      → ((entry : Entry) (of : ℕ) → Contains (a.entries.inherited ++ counted_of (changed a (going deed))) entry → 0 < entry.units → IsFirst new.records entry.name spec.Sparse of
      → (at : ℕ) × IsFirstOf new.records of entry.key at × Contains deed.seen.chain at × SawSample deed.seen of entry.key at)
      → CallsRight old a → CallsRight new (changed a (going deed))
  calls_next old new deed counted summed amounted met calls = record {
    ordered = ordered_next a.entries.running c d next calls.ordered counted summed amounted;
    within = λ some_run.
        let (name, cost, holds, within, known) = calls.within runs in
        (name, cost, holds, subst (AreWithin name cost) (sym same_entries) within, known);
    held = calls.held;
    ended = calls.ended;
    spent = calls.spent;
    met = met;
    taking = λ taking. absurd (runs (calls.taking taking).0);
  }

  -- it is quiet of a name if it was, and then the entry is of another
  quiet_next : (deed : Deed) (name : List ℕ) (k : ℕ) → is_untouched d ≡ false → IsQuiet (changed a (going deed)) name k → IsQuiet a name k × (is_of name c.entry ≡ false)
  quiet_next deed name k touched quiet =
      let holds : EntryProgress → Type 0 = λ c. (is_of name c.entry ≡ false) ⊎ (is_untouched c ≡ true) in
      let one : holds d = All-contains holds after d quiet.1 (Contains-append_right next.front (d ∷ next.behind) d (0, omega arith, refl)) in
      let apart : is_of name c.entry ≡ false =
      ap (is_of name) (sym entry) ∙ ⊎_elim (λ other. other) (λ untouched. absurd (cc (untouched, touched))) one in
      ((quiet.0, subst (All holds) (sym next.is) (all_replaced holds next.front next.behind d c quiet.1 (inl apart))), apart)

  -- so what was taken and returned is as exact as it was
  module _ (old new : List Actor) (roles : RolesAreKept old) (beside : SameRoles old new) (id : ℕ) (deed : Deed)
      (touched : is_untouched d ≡ false) (taken : all_taken new ≡ all_taken old)
      (counted : (name : List ℕ) (key : ℤ) → is_of name c.entry ≡ false → tally_units (all_counted new) name key ≡ tally_units (all_counted old) name key)
      (summed : (name : List ℕ) → is_of name c.entry ≡ false → tally_sum (all_summed new) name ≡ tally_sum (all_summed old) name)
      (noted : (name : List ℕ) → is_of name c.entry ≡ false → tally_noted (all_noted new) name ≡ tally_noted (all_noted old) name)
      (calls : a.deltas.taking ≡ true → a.entries.running ≡ []) where
    pub finals_next : FinalsAreExact old roles.opener id a → FinalsAreExact new roles.opener id (changed a (going deed))
    finals_next exact = record {
      deltas = λ t has eldest youngest rests.
          let (quiet, apart) = quiet_next deed t.name t.moment.log touched rests in
          let was = exact.deltas t has eldest youngest quiet in (
            λ key. ap (λ list. taken_units list t.name key) taken ∙ (was.0 key ∙ sym (counted t.name key apart)),
            ap (λ list. taken_sum list t.name) taken ∙ (was.1 ∙ sym (summed t.name apart)),
          );
      snapshots = λ s has eldest youngest rests.
          let (quiet, apart) = quiet_next deed s.name s.moment.log touched rests in
          let was = exact.snapshots s has eldest youngest quiet in (
            λ key. was.0 key ∙ sym (counted s.name key apart),
            was.1 ∙ sym (summed s.name apart),
            (let redundant = was.2 in let same = noted s.name apart in omega (arith, redundant, same)),
          );
      each = λ n t has eldest youngest.
          let was = exact.each n t has eldest youngest in (
            λ key. ap (λ list. taken_units list t.name key) taken ∙ was.0 key,
            ap (λ list. taken_sum list t.name) taken ∙ was.1,
          );
      moments = λ m of.
          moment old new roles.opener roles.opener id a m (is_later old new roles beside) (exact.moments m of);
      swapped = λ before last taking. absurd (runs (calls taking));
    }
