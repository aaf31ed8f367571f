-- A delta continues, which is the last of its actor: what was taken, and that final deltas and snapshots are as exact as they were.
use Rattle.segment_invariant.proofs.Prelude.Std.{◌≡◌, ◌⊎◌, ℕ, ◌+◌, ◌-◌, ◌<◌, ◌≤◌, ℤ, pos, ◌+ℤ◌, Bool, true, false, List, [], ◌∷◌, ◌++◌, length, take, drop, Contains, inl, inr, ⊎_elim, refl, sym, ap, ◌∙◌, subst, arith, map, if◌then◌else◌, bytes_eq, +ℤ_idl, +ℤ_idr, take-append_seam, length_push, drop-append-le, Contains-append_cases, Contains-append_left, Contains-append_right, some, get_elem?, one_in, below_length}
use Rattle.segment_invariant.proofs.Prelude.Machine.{Actor, Portion, Moment, Taken, Entry, Place, Sighting, SawSample, change_last, tally_units, tally_sum, tally_noted, counted_of, units_listed, taken_units, taken_sum, all_counted, all_summed, all_noted, all_taken, portion_of, is_opener, made_of}
use Rattle.segment_invariant.proofs.Prelude.Invariant.{Listed, Anatomy, IsFirst, IsFirstOf, of_name, IsAlone, CallsRight, RolesAreKept, FinalsAreExact}
use Rattle.std.proofs.Math.IntN.{+ℤ_assoc}
use Rattle.std.proofs.lemmas.List.{same_from_push}
use Rattle.std.proofs.lemmas.List.Sums.{sum_by_push}
use Rattle.bucket_ranges.specs.declared.spec.Spec.TheVariants as spec
use Rattle.segment_invariant.specs.Ledger.{amount_of_name}
use Rattle.segment_invariant.specs.Invariant.{ended_deltas, accepted_at, IsMoment, IsMomentOf}
use Rattle.segment_invariant.proofs.Lists.FewTerms.{if_nothing}
use Rattle.segment_invariant.proofs.Notes.Amounts.{last_changed}
use Rattle.segment_invariant.proofs.Frames.Roles.{SameRoles}
use Rattle.segment_invariant.proofs.Frames.Together.{moment, ended_began}
use Rattle.segment_invariant.proofs.Changes.Others.{Deed, deed_of, changed, is_later, alone_was}
use Rattle.segment_invariant.proofs.Lists.Portions.{taken_sum_total, portions_push}

-- the last of a list of what was taken continues, and keeps its name and its moment
module _ (taken before : List Taken) (last : Taken) (is : taken ≡ before ++ last ∷ []) (f : Taken → Taken) (named : (f last).name ≡ last.name)
    (began : (f last).moment ≡ last.moment) where
  abbrev pub further : List Taken
  further = change_last f taken

  pub further_is : further ≡ before ++ f last ∷ []
  further_is = ap (change_last f) is ∙ last_changed f before last

  pub last_in : Contains taken last
  last_in = subst (λ (l : List Taken). Contains l last) (sym is) (Contains-append_right before (last ∷ []) last (0, omega arith, refl))

  -- each was there, or is the last
  pub further_from : (t : Taken) → Contains further t → Contains taken t ⊎ (t ≡ f last)
  further_from t has = ⊎_elim
      (λ old. inl (subst (λ (l : List Taken). Contains l t) (sym is) (Contains-append_left before (last ∷ []) t old)))
      (λ new. inr (sym (one_in (f last) t new)))
      (Contains-append_cases before (f last ∷ []) t (subst (λ (l : List Taken). Contains l t) further_is has))

  -- those before it stay
  front_of : (list : List Taken) (x : Taken) → list ≡ before ++ x ∷ [] → take (length list - 1) list ≡ before
  front_of list x e =
      let long = length_push before x in
      let count : length (before ++ x ∷ []) - 1 ≡ length before = omega (arith, long) in
      ap (λ (l : List Taken). take (length l - 1) l) e ∙ (ap (λ (k : ℕ). take k (before ++ x ∷ [])) count ∙ take-append_seam before (x ∷ []))

  pub front_same : take (length further - 1) further ≡ take (length taken - 1) taken
  front_same = front_of further (f last) further_is ∙ sym (front_of taken last is)

  -- units that were taken, on top of those that had been taken before
  pub units_further : (first : List Portion) (name : List ℕ) (key : ℤ)
      → taken_units (first ++ map portion_of further) name key + of_name last.name name (units_listed last.counts key)
      ≡ taken_units (first ++ map portion_of taken) name key + of_name last.name name (units_listed (f last).counts key)
  units_further first name key =
      let now = ap (λ (l : List Taken). taken_units (first ++ map portion_of l) name key) further_is in
      let was = ap (λ (l : List Taken). taken_units (first ++ map portion_of l) name key) is in
      let each : (t : Taken) → taken_units (first ++ map portion_of (before ++ t ∷ [])) name key
      ≡ taken_units (first ++ map portion_of before) name key + of_name t.name name (units_listed t.counts key) =
      λ t. ap (λ l. taken_units l name key) (portions_push first before t)
      ∙ sum_by_push (λ (t : Portion). if bytes_eq t.name name then units_listed t.counts key else 0) (first ++ map portion_of before) (portion_of t) in
      let new = each (f last) in
      let old = each last in
      let same = ap (λ (n : List ℕ). of_name n name (units_listed (f last).counts key)) named in
      omega (arith, now, was, new, old, same)

  -- and of the sum
  pub sum_further : (first : List Portion) (d : ℤ) → (f last).sum ≡ last.sum +ℤ d → (name : List ℕ)
      → taken_sum (first ++ map portion_of further) name ≡ taken_sum (first ++ map portion_of taken) name +ℤ amount_of_name last.name name d
  sum_further first d more name =
      ap (λ (l : List Taken). taken_sum (first ++ map portion_of l) name) further_is
      ∙ (parts (f last)
      ∙ (ap (λ (z : ℤ). front +ℤ z) (+ℤ_idl (amount (f last)) ∙ (grown ∙ ap (λ (z : ℤ). z +ℤ amount_of_name last.name name d) (sym (+ℤ_idl (amount last)))))
      ∙ (sym (+ℤ_assoc front (pos 0 +ℤ amount last) (amount_of_name last.name name d))
      ∙ ap (λ (z : ℤ). z +ℤ amount_of_name last.name name d) (sym (parts last) ∙ sym (ap (λ (l : List Taken). taken_sum (first ++ map portion_of l) name) is)))))
    where
      front : ℤ
      front = taken_sum (first ++ map portion_of before) name

      amount : Taken → ℤ
      amount t = if bytes_eq t.name name then t.sum else pos 0

      parts : (t : Taken) → taken_sum (first ++ map portion_of (before ++ t ∷ [])) name ≡ front +ℤ (pos 0 +ℤ amount t)
      parts t = ap (λ l. taken_sum l name) (portions_push first before t) ∙ taken_sum_total name (first ++ map portion_of before) (portion_of t ∷ [])

      by_test : (b : Bool) → (if b then (f last).sum else pos 0) ≡ (if b then last.sum else pos 0) +ℤ (if b then d else pos 0)
      by_test true = more
      by_test false = refl

      grown : amount (f last) ≡ amount last +ℤ amount_of_name last.name name d
      grown = ap (λ (n : List ℕ). if bytes_eq n name then (f last).sum else pos 0) named ∙ by_test (bytes_eq last.name name)

-- what was taken by the deltas after one that has ended: the last is among them
module _ (taken before : List Taken) (last : Taken) (is : taken ≡ before ++ last ∷ []) (f : Taken → Taken) (named : (f last).name ≡ last.name)
    (began : (f last).moment ≡ last.moment) (n : ℕ) (low : n + 1 ≤ length before) where
  abbrev later : List Taken
  later = drop (n + 1) taken

  later_is : later ≡ drop (n + 1) before ++ last ∷ []
  later_is = ap (drop (n + 1)) is ∙ drop-append-le (n + 1) before (last ∷ []) low

  later_further : drop (n + 1) (change_last f taken) ≡ change_last f later
  later_further =
      ap (drop (n + 1)) (further_is taken before last is f named began)
      ∙ (drop-append-le (n + 1) before (f last ∷ []) low ∙ sym (further_is later (drop (n + 1) before) last later_is f named began))

  pub units_later : (name : List ℕ) (key : ℤ)
      → taken_units (map portion_of (drop (n + 1) (change_last f taken))) name key + of_name last.name name (units_listed last.counts key)
      ≡ taken_units (map portion_of later) name key + of_name last.name name (units_listed (f last).counts key)
  units_later name key =
      let all = units_further later (drop (n + 1) before) last later_is f named began [] name key in
      let same = ap (λ (l : List Taken). taken_units (map portion_of l) name key) later_further in
      omega (arith, all, same)

  pub sum_later : (d : ℤ) → (f last).sum ≡ last.sum +ℤ d → (name : List ℕ)
      → taken_sum (map portion_of (drop (n + 1) (change_last f taken))) name ≡ taken_sum (map portion_of later) name +ℤ amount_of_name last.name name d
  sum_later d more name =
      ap (λ (l : List Taken). taken_sum (map portion_of l) name) later_further
      ∙ sum_further later (drop (n + 1) before) last later_is f named began [] d more name

-- while a delta is in progress, one that has ended is one before it
pub ended_before : (a : Actor) (before : List Taken) (last : Taken) → a.deltas.taken ≡ before ++ last ∷ [] → a.deltas.taking ≡ true → ended_deltas a ≡ before
ended_before a before last is taking =
    ap (λ (b : Bool). if b then take (length a.deltas.taken - 1) a.deltas.taken else a.deltas.taken) taking
    ∙ front_of a.deltas.taken before last is (λ (t : Taken). t) refl refl a.deltas.taken last is

-- the actor whose delta continues
module _ (a : Actor) (before : List Taken) (last : Taken) (is : a.deltas.taken ≡ before ++ last ∷ []) (f : Taken → Taken) (named : (f last).name ≡ last.name)
    (began : (f last).moment ≡ last.moment) (taking : a.deltas.taking ≡ true) (place : Place) (counts : List Sighting) where
  abbrev pub takes_on : Deed
  takes_on = record (deed_of a) { place = place; taken = change_last f a.deltas.taken; seen = record a.seen { counts = counts } }

  abbrev b : Actor
  b = changed a takes_on

  -- its call stays right
  pub calls_taken : (old new : Anatomy) → new.records ≡ old.records → CallsRight old a → CallsRight new b
  calls_taken old new records calls = record {
    ordered = calls.ordered;
    within = calls.within;
    held = calls.held;
    ended = calls.ended;
    spent = calls.spent;
    met = subst (λ (l : List Listed). (entry : Entry) (of : ℕ) → Contains (a.entries.inherited ++ counted_of a) entry → 0 < entry.units → IsFirst l entry.name spec.Sparse of
        → (at : ℕ) × IsFirstOf l of entry.key at × Contains a.seen.chain at × SawSample a.seen of entry.key at) (sym records) calls.met;
    taking = λ goes.
        let (runs, (front, one, ends, at)) = calls.taking taking in
        let same = (same_from_push before front last one (sym is ∙ ends)).1 in
        (runs, (before, f last, further_is a.deltas.taken before last is f named began, ap (λ (m : Moment). m.log) (began ∙ ap (λ (t : Taken). t.moment) same) ∙ at));
  }

  -- the deltas that have ended are those that had
  ended_same : ended_deltas b ≡ ended_deltas a
  ended_same =
      ap (λ (b : Bool). if b then take (length (change_last f a.deltas.taken) - 1) (change_last f a.deltas.taken) else change_last f a.deltas.taken) taking
      ∙ (front_same a.deltas.taken before last is f named began ∙ sym (ap (λ (b : Bool). if b then take (length a.deltas.taken - 1) a.deltas.taken else a.deltas.taken) taking))

  -- a moment of it was one
  moment_was : (m : Moment) → IsMomentOf b m → IsMomentOf a m
  moment_was m (inl (t, has, at)) = ⊎_elim
      (λ old. inl (t, old, at))
      (λ same. inl (last, last_in a.deltas.taken before last is f named began, sym began ∙ (ap (λ (t : Taken). t.moment) (sym same) ∙ at)))
      (further_from a.deltas.taken before last is f named began t has)
  moment_was m (inr answered) = inr answered

  -- Nothing is counted, added or noted; no less is taken of a key, and no more than was counted. Then final deltas and snapshots are as
  -- exact, if one that is alone leaves what was taken of a sum exact
  module _ (old new : List Actor) (roles : RolesAreKept old) (beside : SameRoles old new) (id : ℕ) (recorder : is_opener a.role ≡ false)
      (counted : all_counted new ≡ all_counted old) (summed : all_summed new ≡ all_summed old) (noted : all_noted new ≡ all_noted old)
      (more : (name : List ℕ) (key : ℤ) → taken_units (all_taken new) name key + of_name last.name name (units_listed last.counts key)
      ≡ taken_units (all_taken old) name key + of_name last.name name (units_listed (f last).counts key))
      (up : (name : List ℕ) (key : ℤ) → taken_units (all_taken old) name key ≤ taken_units (all_taken new) name key)
      (most : (name : List ℕ) (key : ℤ) → taken_units (all_taken new) name key ≤ tally_units (all_counted new) name key)
      (added : (name : List ℕ) → taken_sum (all_taken new) name ≡ taken_sum (all_taken old) name) (no_sum : (f last).sum ≡ last.sum)
      (exact_sum : IsAlone old a → (name : List ℕ) → taken_sum (all_taken old) name ≡ tally_sum (all_summed old) name
      → taken_sum (all_taken new) name ≡ tally_sum (all_summed old) name)
      (swapped : IsAlone old a → (f last).swapped ≡ true → taken_sum (all_taken new) (f last).name ≡ tally_sum (all_summed old) (f last).name) where
    -- an actor that has a final moment is alone
    alone_at : (m : Moment) → IsMoment old roles.opener id a m → m.outstanding ≡ 0 → m.before + 1 ≡ made_of roles.opener.role → IsAlone old a
    alone_at m is none youngest =
        let (made, outstanding) = is.mine recorder in
        (roles.opener, roles.stands, sym outstanding ∙ none, ap (λ (n : ℕ). n + 1) (sym made) ∙ youngest)

    pub finals_taken : FinalsAreExact old roles.opener id a → FinalsAreExact new roles.opener id b
    finals_taken exact = record {
      deltas = λ t has none youngest quiet.
          let there = subst (λ (l : List Taken). Contains l t) ended_same has in
          let was = exact.deltas t there none youngest quiet in (
            λ key.
                let more = up t.name key in
                let few = most t.name key in
                let same = was.0 key in
                let tally = ap (λ entries. tally_units entries t.name key) counted in
                omega (arith, more, few, same, tally),
            exact_sum (alone_at t.moment (exact.moments t.moment (ended_began a t there)) none youngest) t.name was.1
                ∙ ap (λ entries. tally_sum entries t.name) (sym summed),
          );
      snapshots = λ s has none youngest quiet.
          let was = exact.snapshots s has none youngest quiet in (
            λ key. was.0 key ∙ ap (λ entries. tally_units entries s.name key) (sym counted),
            was.1 ∙ ap (λ entries. tally_sum entries s.name) (sym summed),
            (let redundant = was.2 in let same = ap (λ entries. tally_noted entries s.name) noted in omega (arith, redundant, same)),
          );
      each = λ n t has none youngest.
          let there = subst (λ (l : List Taken). get_elem? l n ≡ some t) ended_same has in
          let was = exact.each n t there none youngest in
          let low = below_length before n t (subst (λ (l : List Taken). get_elem? l n ≡ some t) (ended_before a before last is taking) there) in
          let at : n + 1 ≤ length before = omega (arith, low) in (
            λ key.
                let its = was.0 key in
                let all = more t.name key in
                let later = units_later a.deltas.taken before last is f named began n at t.name key in
                omega (arith, its, all, later),
            added t.name
                ∙ (was.1
                ∙ ap (λ (z : ℤ). tally_sum (accepted_at a t.moment) t.name +ℤ z)
                (sym (sum_later a.deltas.taken before last is f named began n at (pos 0) (no_sum ∙ sym (+ℤ_idr last.sum)) t.name
                ∙ (ap (λ (z : ℤ). taken_sum (map portion_of (drop (n + 1) a.deltas.taken)) t.name +ℤ z) (if_nothing (bytes_eq last.name t.name) (pos 0) (pos 0) refl)
                ∙ +ℤ_idr (taken_sum (map portion_of (drop (n + 1) a.deltas.taken)) t.name))))),
          );
      moments = λ m of.
          moment old new roles.opener roles.opener id a m (is_later old new roles beside) (exact.moments m (moment_was m of));
      swapped = λ front x goes ends was_swapped alone.
          let same = (same_from_push before front (f last) x
          (sym (further_is a.deltas.taken before last is f named began) ∙ ends)).1 in
          subst (λ (t : Taken). taken_sum (all_taken new) t.name ≡ tally_sum (all_summed new) t.name) same
          (swapped (alone_was old new roles beside b a refl refl alone) (ap (λ (t : Taken). t.swapped) same ∙ was_swapped)
          ∙ ap (λ entries. tally_sum entries (f last).name) (sym summed));
    }
