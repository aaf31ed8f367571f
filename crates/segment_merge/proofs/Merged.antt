-- How histograms are merged, one after the other.
use Rattle.std.proofs.Common.{◌≡◌, ℕ, ◌+◌, ◌<◌, ℤ, List, [], ◌∷◌, ◌++◌, map, take, flat_map, if◌then◌else◌, inl, inr, refl, sym, ap, ◌∙◌, subst, arith, append_assoc, append-nil}
use Rattle.std.specs.List.{All, Contains}
use Rattle.std.specs.Str.{bytes_eq}
use Rattle.std.proofs.lemmas.List.Concat.{flat_map-append}
use Rattle.std.proofs.lemmas.List.Elements.{All-append, All-cons, All-nil, All-weaker, Contains-append_left, Contains-append_right}
use Rattle.std.proofs.lemmas.List.Sums.{sum_by-append}
use Rattle.bucket_ranges.specs.Ranges.{boundaries_of}
use Rattle.bucket_ranges.specs.Reading.{Histogram}
use Rattle.bucket_ranges.specs.Spec.{SameSpec}
use Rattle.segment_machine.specs.declared.actor.Actor.{Actor}
use Rattle.segment_machine.specs.declared.actor.Known.{Known}
use Rattle.segment_machine.specs.declared.actor.Entries.{Entries}
use Rattle.segment_machine.specs.declared.actor.Units.{Units}
use Rattle.segment_machine.specs.declared.entry.EntryProgress.{EntryProgress}
use Rattle.segment_machine.specs.declared.entry.Entry.{Entry}
use Rattle.segment_machine.specs.Actor.{cost_of, log_of}
use Rattle.segment_machine.specs.Entry.{batch_entries, item_entry}
use Rattle.segment_invariant.proofs.Consistency.Keys.{same_boundaries}
use Rattle.segment_invariant.proofs.Lists.Elements.{contains_at}
use Rattle.segment_calls.specs.declared.asked.Asked.{Asked}
use Rattle.segment_calls.specs.declared.refusal.Refusal.{Refusal}
use Rattle.segment_calls.specs.declared.refusal.Refusal.TheVariants.{NoUnits}
use Rattle.live_segment.specs.declared.recorder.Hist.{Hist}
use Rattle.live_segment.specs.Add.Batch.{IsBatched, IsCutShort}
use Rattle.live_segment.specs.Hist.Answer.{IsAnsweredWith, IsRefusedWith}
use Rattle.segment_promises.specs.Onward.{DoesOn, GoesOn, SeesOn}
use Rattle.live_segment.specs.Hist.Search.{asked_at}
use Rattle.live_segment.specs.Hist.Outcome.{ComesToKnow, LooksAround}
use Rattle.live_segment.proofs.lemmas.Steps.Proceeding.{does_not, does_on, sees_not, sees_on}
use Rattle.segment_merge.specs.Merge.{GoesOnWith, HasFound, IsMerged, IsOneOf, KnowsAs, StopsAt, cost_left, entries_left, items_left, sum_left}

-- ---- continuing

-- those of some are of more
one_of_first : (xs ys : List Histogram) (known : Known) → IsOneOf xs known → IsOneOf (xs ++ ys) known
one_of_first xs ys known (h, among, name, spec) = (h, Contains-append_left xs ys h among, name, spec)

one_of_second : (xs ys : List Histogram) (known : Known) → IsOneOf ys known → IsOneOf (xs ++ ys) known
one_of_second xs ys known (h, among, name, spec) = (h, Contains-append_right xs ys h among, name, spec)

pub goes_on_with : (xs ys : List Histogram) (a b c : Actor) → GoesOnWith xs a b → GoesOnWith ys b c → GoesOnWith (xs ++ ys) a c
goes_on_with xs ys a b c first second = record {
  same = second.same ∙ ap (λ (m : Actor). record m {
    units = c.units;
    entries = record m.entries { log = c.entries.log };
    hand = c.hand;
    done = c.done;
    seen = c.seen;
    since = c.since;
    answers = c.answers;
  }) first.same;
  done = does_on a.done b.done c.done first.done second.done;
  seen = sees_on a.seen b.seen c.seen first.seen second.seen;
  more = first.more ++ second.more;
  names = second.names ∙ (ap (λ (names : List Known). names ++ second.more) first.names ∙ append_assoc a.answers.names first.more second.more);
  of_these = All-append (IsOneOf (xs ++ ys)) first.more second.more
      (All-weaker (IsOneOf xs) (IsOneOf (xs ++ ys)) (one_of_first xs ys) first.more first.of_these)
      (All-weaker (IsOneOf ys) (IsOneOf (xs ++ ys)) (one_of_second xs ys) second.more second.of_these);
}

-- with no histogram at all
pub goes_nowhere : (a : Actor) → GoesOnWith [] a a
goes_nowhere a = record {
  same = refl;
  done = does_not a.done;
  seen = sees_not a.seen;
  more = [];
  names = sym (append-nil a.answers.names);
  of_these = All-nil (IsOneOf []);
}

-- all but what may change is the same
all_but : (a b : Actor) → b.segment ≡ a.segment → b.entries ≡ record a.entries { log = b.entries.log } → b.deltas ≡ a.deltas → b.role ≡ a.role
    → b ≡ record a {
      units = b.units;
      entries = record a.entries { log = b.entries.log };
      hand = b.hand;
      done = b.done;
      seen = b.seen;
      since = b.since;
      answers = b.answers;
    }
all_but a b segment entries deltas role = λ i. record {
  segment = segment i;
  units = b.units;
  entries = entries i;
  hand = b.hand;
  done = b.done;
  seen = b.seen;
  since = b.since;
  answers = b.answers;
  deltas = deltas i;
  role = role i;
}

-- entries that are the same are the same except for the log
entries_but : (old new : Entries) → new ≡ old → new ≡ record old { log = new.log }
entries_but old new same = same ∙ ap (λ (log : List EntryProgress). record old { log = log }) (sym (ap (λ (e : Entries). e.log) same))

-- a call that counts continues without a new histogram
counts_on : (a b : Actor) → GoesOn a b → GoesOnWith [] a b
counts_on a b on = record {
  same = all_but a b (ap (λ (m : Actor). m.segment) on.same) (ap (λ (m : Actor). m.entries) on.same) (ap (λ (m : Actor). m.deltas) on.same)
      (ap (λ (m : Actor). m.role) on.same);
  done = on.done;
  seen = on.seen;
  more = [];
  names = ap (λ (m : Actor). m.answers.names) on.same ∙ sym (append-nil a.answers.names);
  of_these = All-nil (IsOneOf []);
}

-- ---- a list of them

-- what is known is still known
knows_still : (xs : List Histogram) (b c : Actor) (ys : List Histogram) → GoesOnWith ys b c → All (KnowsAs b) xs → All (KnowsAs c) xs
knows_still xs b c ys on all =
    All-weaker (KnowsAs b) (KnowsAs c)
    (λ h knows. (
      knows.0,
      subst (λ (names : List Known). Contains names knows.0) (sym on.names) (Contains-append_left b.answers.names on.more knows.0 knows.1),
      knows.2,
      knows.3,
    ))
    xs all

-- none are merged
pub merged_none : (a : Actor) → IsMerged [] a a
merged_none a = record {
  logged = sym (append-nil (log_of a));
  share = omega arith;
  spent = λ name. omega arith;
  knows = All-nil (KnowsAs a);
  filled = refl;
  onward = goes_nowhere a;
}

-- some, and then others
pub merged_then : (xs ys : List Histogram) (a b c : Actor) → IsMerged xs a b → IsMerged ys b c → IsMerged (xs ++ ys) a c
merged_then xs ys a b c first second = record {
  logged = second.logged
      ∙ (ap (λ (log : List Entry). log ++ flat_map entries_left ys) first.logged
      ∙ (append_assoc (log_of a) (flat_map entries_left xs) (flat_map entries_left ys)
      ∙ ap (λ (more : List Entry). log_of a ++ more) (sym (flat_map-append entries_left xs ys))));
  share = let one = first.share in
      let two = second.share in
      let sum = sum_by-append cost_left xs ys in
      omega (arith, one, two, sum);
  spent = λ name.
      let one = first.spent name in
      let two = second.spent name in
      let sum = sum_by-append (λ (h : Histogram). if bytes_eq h.name name then cost_left h else 0) xs ys in
      omega (arith, one, two, sum);
  knows = All-append (KnowsAs c) xs ys (knows_still xs b c ys second.onward first.knows) second.knows;
  filled = second.filled ∙ first.filled;
  onward = goes_on_with xs ys a b c first.onward second.onward;
}

-- ---- one of them

-- it is found: nothing is counted yet
record IsFoundOnly (h : Histogram) (old new : Actor) : Type 0 where
  logged : log_of new ≡ log_of old
  units_are : new.units ≡ old.units
  filled : new.done.filled ≡ old.done.filled
  onward : GoesOnWith (h ∷ []) old new

-- it continues with a histogram, if it has come to know no other
with_one : (h : Histogram) (a b : Actor) → GoesOnWith [] a b → GoesOnWith (h ∷ []) a b
with_one h a b on = record {
  same = on.same;
  done = on.done;
  seen = on.seen;
  more = on.more;
  names = on.names;
  of_these = All-weaker (IsOneOf []) (IsOneOf (h ∷ [])) (one_of_first [] (h ∷ [])) on.more on.of_these;
}

-- looking around, it gets to know no new histogram
looks_on : (a b : Actor) → LooksAround a b → GoesOnWith [] a b
looks_on a b looks = record {
  same = all_but a b (ap (λ (m : Actor). m.segment) looks.same) (entries_but a.entries b.entries (ap (λ (m : Actor). m.entries) looks.same))
      (ap (λ (m : Actor). m.deltas) looks.same) (ap (λ (m : Actor). m.role) looks.same);
  done = looks.done;
  seen = looks.seen;
  more = [];
  names = ap (λ (m : Actor). m.answers.names) looks.same ∙ sym (append-nil a.answers.names);
  of_these = All-nil (IsOneOf []);
}

-- coming to know what was asked for
comes_on : (h : Histogram) (asked : Asked) (reference : ℕ) (a b : Actor) → asked.name.items ≡ h.name → asked.spec ≡ h.spec
    → ComesToKnow asked reference a b → GoesOnWith (h ∷ []) a b
comes_on h asked reference a b name spec comes =
    let looks = comes.looks in
    let last : Actor = comes.last in record {
      same = all_but a b
          (ap (λ (m : Actor). m.segment) comes.view ∙ ap (λ (m : Actor). m.segment) looks.same)
          (entries_but a.entries b.entries (ap (λ (m : Actor). m.entries) comes.view ∙ ap (λ (m : Actor). m.entries) looks.same))
          (ap (λ (m : Actor). m.deltas) comes.view ∙ ap (λ (m : Actor). m.deltas) looks.same)
          (ap (λ (m : Actor). m.role) comes.view ∙ ap (λ (m : Actor). m.role) looks.same);
      done = subst (DoesOn a.done) (sym (ap (λ (m : Actor). m.done) comes.view)) looks.done;
      seen = subst (SeesOn a.seen) (sym (ap (λ (m : Actor). m.seen) comes.view)) looks.seen;
      more = asked_at asked reference ∷ [];
      names = ap (λ (m : Actor). m.answers.names) comes.view;
      of_these = All-cons (IsOneOf (h ∷ [])) (asked_at asked reference) [] (h, (0, omega arith, refl), name, spec) (All-nil (IsOneOf (h ∷ [])));
    }

-- it is returned: nothing is counted yet
found_only : (h : Histogram) (histogram : Hist) (a b : Actor) → IsAnsweredWith h.name h.spec histogram a b → IsFoundOnly h a b
found_only h histogram a b (inl (known, named, same, may, view)) =
    subst (IsFoundOnly h a) (sym view) (record { logged = refl; units_are = refl; filled = refl; onward = with_one h a a (goes_nowhere a) })
found_only h histogram a b (inr (none, index, (asked, reference, is, comes))) =
    let looks = comes.looks in record {
      logged = ap (λ (m : Actor). log_of m) comes.view ∙ ap (λ (m : Actor). log_of m) looks.same;
      units_are = ap (λ (m : Actor). m.units) comes.view ∙ ap (λ (m : Actor). m.units) looks.same;
      filled = comes.filled;
      onward = comes_on h asked reference a b is.named is.specified comes;
    }

-- so the share is unchanged
pub share_found : (h : Histogram) (known : Known) (a b : Actor) → HasFound h known a b → b.units.share ≡ a.units.share
share_found h known a b found = ap (λ (u : Units). u.share) (found_only h found.histogram a b found.answered).units_are

-- it is found, and then counted
found_on : (h : Histogram) (a b c : Actor) → IsFoundOnly h a b → GoesOn b c → GoesOnWith (h ∷ []) a c
found_on h a b c found on = goes_on_with (h ∷ []) [] a b c found.onward (counts_on b c on)

-- the boundaries are those of the spec that is read
module _ (h : Histogram) (known : Known) (named : known.name ≡ h.name) (same : SameSpec known.spec h.spec) where
  bounds : boundaries_of known.spec ≡ boundaries_of h.spec
  bounds = same_boundaries known.spec h.spec same

  entries_are : batch_entries known.name (boundaries_of known.spec) (items_left h) (sum_left h) ≡ entries_left h
  entries_are = λ i. batch_entries (named i) (bounds i) (items_left h) (sum_left h)

  items_are : (items : List (ℤ × ℕ)) → map (item_entry known.name (boundaries_of known.spec)) items ≡ map (item_entry h.name (boundaries_of h.spec)) items
  items_are items = λ i. map (item_entry (named i) (bounds i)) items

-- it is merged once its batch is accepted
pub merged_one : (h : Histogram) (known : Known) (a b c : Actor) → HasFound h known a b → IsBatched known (items_left h) (sum_left h) b c
    → IsMerged (h ∷ []) a c
merged_one h known a b c found batched =
    let only = found_only h found.histogram a b found.answered in
    let on = found_on h a b c only batched.onward in
    let named = found.known_is.1 in record {
      logged = batched.logged
          ∙ ((λ i. only.logged i ++ entries_are h known named found.same i)
          ∙ ap (λ (more : List Entry). log_of a ++ more) (sym (append-nil (entries_left h))));
      share = let pays = batched.pays.share in
          let units = ap (λ (u : Units). u.share) only.units_are in
          omega (arith, pays, units);
      spent = λ name.
          let pays : cost_of c.units.costs name ≡ cost_of b.units.costs name + (if bytes_eq h.name name then cost_left h else 0) =
          subst (λ (own : List ℕ). cost_of c.units.costs name ≡ cost_of b.units.costs name + (if bytes_eq own name then cost_left h else 0)) named (batched.pays.spent name) in
          let units = ap (λ (u : Units). cost_of u.costs name) only.units_are in
          omega (arith, pays, units);
      knows = All-cons (KnowsAs c) h [] (
        known,
        subst (λ (names : List Known). Contains names known) (sym (ap (λ (m : Actor). m.answers.names) batched.onward.same))
            (contains_at b.answers.names found.histogram.index known found.known_is.0),
        named,
        found.same,
      )
          (All-nil (KnowsAs c));
      filled = batched.filled ∙ only.filled;
      onward = on;
    }

-- ---- one that stops

-- its `hist` is refused
pub stops_unfound : (h : Histogram) (why : Refusal) (a b : Actor) → IsRefusedWith h.name h.spec why a b → StopsAt h 0 why a b
stops_unfound h why a b refused =
    let looked : (log_of b ≡ log_of a) × (b.units ≡ a.units) × GoesOnWith (h ∷ []) a b = elim refused [
      | inl early ↦ unmoved h a b early.1
      | inr later ↦ elim later [
        | inl other ↦ unmoved h a b other.3
        | inr around ↦ let looks = around.2 in (ap (λ (m : Actor). log_of m) looks.same, ap (λ (m : Actor). m.units) looks.same, with_one h a b (looks_on a b looks))
      ]
    ] in record {
      logged = looked.0 ∙ sym (append-nil (log_of a));
      share = let units = ap (λ (u : Units). u.share) looked.1 in omega (arith, units);
      onward = looked.2;
      cause = inl (refl, refused);
    }
  where
    unmoved : (h : Histogram) (a b : Actor) → b ≡ a → (log_of b ≡ log_of a) × (b.units ≡ a.units) × GoesOnWith (h ∷ []) a b
    unmoved h a b same =
        subst (λ (m : Actor). (log_of m ≡ log_of a) × (m.units ≡ a.units) × GoesOnWith (h ∷ []) a m) (sym same) (refl, refl, with_one h a a (goes_nowhere a))

-- the share has fewer units than it costs
pub stops_short : (h : Histogram) (known : Known) (a b : Actor) → HasFound h known a b → b.units.share < cost_left h → StopsAt h 0 NoUnits a b
stops_short h known a b found short =
    let only = found_only h found.histogram a b found.answered in record {
      logged = only.logged ∙ sym (append-nil (log_of a));
      share = let units = ap (λ (u : Units). u.share) only.units_are in omega (arith, units);
      onward = only.onward;
      cause = inr (b, known, found, inl (refl, refl, short, refl));
    }

-- an item needs a block, and none can be claimed
pub stops_cut : (h : Histogram) (known : Known) (items : ℕ) (why : Refusal) (a b c : Actor) → HasFound h known a b
    → IsCutShort known (items_left h) (record { added = items; why = why }) b c → StopsAt h items why a c
stops_cut h known items why a b c found cut =
    let only = found_only h found.histogram a b found.answered in
    let named = found.known_is.1 in record {
      logged = cut.logged ∙ (λ i. only.logged i ++ items_are h known named found.same (take items (items_left h)) i);
      share = let pays = cut.pays.share in
          let units = ap (λ (u : Units). u.share) only.units_are in
          omega (arith, pays, units);
      onward = found_on h a b c only cut.onward;
      cause = inr (b, known, found, inr cut);
    }
