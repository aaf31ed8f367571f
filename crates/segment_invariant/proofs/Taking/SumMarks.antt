-- The sum mark is swapped for the sum that was loaded.
use Rattle.segment_invariant.proofs.Prelude.Std.{◌≡◌, ◌≢◌, ℕ, ◌+◌, ◌-◌, ◌*◌, ◌^◌, ◌<◌, ◌≤◌, ℤ, pos, ◌+ℤ◌, ◌-ℤ◌, Bool, true, false, if◌then◌else◌, List, [], ◌∷◌, ◌++◌, length, take, drop, set, Contains, inl, inr, ⊎_elim, refl, sym, ap, ◌∙◌, subst, arith, length-append, append-nil, map, unsigned_abs, w64, cast_signed, cast_unsigned, bytes_eq, +ℤ_idl, +ℤ_idr, take-append_seam, to_z-of_z, All-contains, Contains-append_left, Contains-append_right, Contains-append_cases, bytes_eq-Decides, some, none, get_elem?, rows, row_in, one_in, below_length, sum_same}
use Rattle.segment_invariant.proofs.Prelude.Machine.{Dimensions, word_at, Entry, Actor, Portion, Known, Moment, Taken, Spent, Idle, SumLoaded, change_last, tally_units, tally_sum, tally_noted, counted_of, summed_of, noted_of, taken_units, taken_sum, all_counted, all_summed, all_noted, all_taken, cost_of, taken_of, portion_of, is_opener, State, swap_sum_mark, taking_event}
use Rattle.segment_invariant.proofs.Prelude.Invariant.{Record, histogram, Anatomy, HasRecord, IsFirst, IsRightlyKnown, IsLawfulRecord, IsAlone, IsSumOf, SumsAreNear, summed_cost, FinalsAreExact, Invariant, KeptOn, HasKey, is_beaten, EventKeeps}
use Rattle.std.proofs.Common.{neg_ℤ}
use Rattle.std.proofs.Math.Facts.{Fits-of_z}
use Rattle.std.proofs.Math.IntN.{+ℤ_assoc, +ℤ_comm, +ℤ_invr}
use Rattle.std.proofs.lemmas.Int.{fits_signed_from_abs}
use Rattle.std.proofs.lemmas.List.{same_from_push}
use Rattle.std.proofs.lemmas.Simd.{below_from_Fits}
use Rattle.segment_machine.specs.Taking.{swap_sum}
use Rattle.segment_invariant.specs.Ledger.{amount_of_name}
use Rattle.segment_invariant.specs.Invariant.{ended_deltas, accepted_at, IsMomentOf, summed_costs}
use Rattle.segment_invariant.proofs.Frames.LaidOut.{laid_out}
use Rattle.segment_invariant.proofs.Lists.Ends.{snoc_split}
use Rattle.segment_invariant.proofs.Frames.Anatomies.{calls_same}
use Rattle.segment_invariant.proofs.Frames.Answers.{first_one}
use Rattle.segment_invariant.proofs.Frames.GoesOn.{happens}
use Rattle.segment_invariant.proofs.Frames.OneActor.{rests_at}
use Rattle.segment_invariant.specs.Rises.{SumsRise}
use Rattle.segment_invariant.proofs.Frames.Roles.{SameRoles}
use Rattle.segment_invariant.proofs.Frames.SumsRise.{sums_come}
use Rattle.segment_invariant.proofs.Frames.Together.{loaded_set, moment, ended_began}
use Rattle.segment_invariant.proofs.Changes.Ledgers.{rows_beside, amounts_moved}
use Rattle.segment_invariant.proofs.Changes.Others.{Deed, deed_of, changed, changed_roles, alone_was, is_later}
use Rattle.segment_invariant.proofs.Changes.Records.{record_kept}
use Rattle.segment_invariant.proofs.Changes.Words.{Turns, behind, came_from, sees_turned, turned_on, looks_turned, word_turns}
use Rattle.segment_invariant.proofs.Consistency.Sums.{sum_is, sum_mark_is}
use Rattle.segment_invariant.proofs.Notes.Amounts.{last_changed}
use Rattle.segment_invariant.proofs.Taking.Lasts.{further_is, units_later, sum_later, ended_before}
use Rattle.segment_invariant.proofs.Counting.Bounds.{sum_fits, sums_fit}
use Rattle.segment_invariant.proofs.Counting.Looks.{knows_of, body_word}
use Rattle.segment_invariant.proofs.Counting.Sights.{word_within}
use Rattle.std.proofs.lemmas.Grind.{flat_map-append}
use Rattle.segment_invariant.proofs.Lists.Portions.{taken_total, taken_sum_total, portions_push, portion_in, portion_from, portion_first}
use Rattle.segment_invariant.proofs.Frames.Anew.{lawful_anew}

-- ---- lists and amounts

-- what is before the last
before_last : {X : Type 0} (front : List X) (x : X) → take (length (front ++ x ∷ []) - 1) (front ++ x ∷ []) ≡ front
before_last front x =
    let long = length-append front (x ∷ []) in
    let less : length (front ++ x ∷ []) - 1 ≡ length front = omega (arith, long) in
    ap (λ (n : ℕ). take n (front ++ x ∷ [])) less ∙ take-append_seam front (x ∷ [])

last_one : {X : Type 0} (front other : List X) (x y : X) → front ++ x ∷ [] ≡ other ++ y ∷ [] → x ≡ y
last_one front other x y is = ⊎_elim
    (λ t. let one = ap length is in let two = ap length t.1 in
    let a = length-append front (x ∷ []) in let b = length-append other (y ∷ []) in let c = length-append other (y ∷ t.0) in
    absurd (omega (arith, one, two, a, b, c)))
    (λ t. t.0)
    (snoc_split front other [] x y is)

-- an amount and what another has more is that other
onward : (m s : ℤ) → m +ℤ (s -ℤ m) ≡ s
onward m s = ap (λ z. m +ℤ z) (+ℤ_comm s (neg_ℤ m)) ∙ (sym (+ℤ_assoc m (neg_ℤ m) s) ∙ (ap (λ z. z +ℤ s) (+ℤ_invr m) ∙ +ℤ_idl s))

-- ---- the record with another sum mark

abbrev with_mark : Record → ℕ → Record
with_mark r mark = record r { sum_mark = mark }

lawful_mark : (version page : ℕ) (r : Record) (mark : ℕ) → mark < 2 ^ 64 → IsLawfulRecord version page r → IsLawfulRecord version page (with_mark r mark)
lawful_mark version page r mark narrow is = lawful_anew version page r r.counts r.single r.mark r.sum mark r.noted is
    is.formed is.unpacked is.off is.sparse (is.narrow.0, narrow)

-- ---- the state

module _ (shape : Dimensions) (opened : Anatomy) (state : State) (kept : Invariant shape opened state) (id : ℕ) (a : Actor)
    (mine : get_elem? state.actors id ≡ some a) (recorder : is_opener a.role ≡ false) (sum : ℤ) (known : Known) (has : Contains a.answers.names known) (taking : a.deltas.taking ≡ true)
    (front : List Taken) (last : Taken) (taken_is : a.deltas.taken ≡ front ++ last ∷ []) (named : last.name ≡ known.name) (placed : a.hand.place ≡ SumLoaded known.reference sum) where
  lived : a.hand.place ≢ Spent
  lived spent = cc (sym placed ∙ spent)

  abbrev r : Record
  r = (knows_of shape opened state kept id a mine recorder lived known has).0

  first : IsFirst kept.anatomy.records known.name r.spec known.reference
  first = (knows_of shape opened state kept id a mine recorder lived known has).1

  abbrev stands : HasRecord kept.anatomy.pieces known.reference r
  stands = (knows_of shape opened state kept id a mine recorder lived known has).2

  called : r.name ≡ known.name
  called = (knows_of shape opened state kept id a mine recorder lived known has).3

  abbrev mark : ℤ
  mark = cast_signed w64 r.sum_mark

  abbrev v : ℕ
  v = cast_unsigned w64 sum

  loaded_one : IsSumOf state.actors known.reference r sum
  loaded_one = inr (inr (inr (id, a, mine, placed)))

  small : unsigned_abs sum < 2 ^ 63
  small = let fits = sum_fits shape opened state kept known.reference r sum stands loaded_one in omega (arith, fits)

  back : cast_signed w64 v ≡ sum
  back = to_z-of_z w64 sum (fits_signed_from_abs w64 sum small)

  narrow : v < 2 ^ 64
  narrow = (below_from_Fits w64 (v ∷ []) (Fits-of_z {w = w64} {z = sum} (fits_signed_from_abs w64 sum small), tt)).0

  turns : Turns kept.anatomy.version (histogram r) (histogram (with_mark r v)) 12 v
  turns = word_turns kept.anatomy.version (histogram r) (histogram (with_mark r v)) 12 v refl refl refl (omega arith) (omega arith)
      (with_mark r v, refl, record { is = refl; counts = λ there. refl; single = inl refl; mark = omega arith; noted = omega arith })

  abbrev new : Anatomy
  new = behind shape opened state kept known.reference (histogram r) (histogram (with_mark r v)) 12 v stands turns

  abbrev swapped_one : Taken
  swapped_one = swap_sum sum mark last

  abbrev d : Deed
  d = record (deed_of a) { place = Idle; taken = front ++ swapped_one ∷ [] }

  abbrev b : Actor
  b = changed a d

  abbrev actors : List Actor
  actors = set state.actors id b

  beside : SameRoles state.actors actors
  beside = changed_roles shape opened state kept id a mine recorder lived d (λ e. cc e)

  counted : all_counted actors ≡ all_counted state.actors
  counted = rows counted_of state.actors id a b mine refl

  summed : all_summed actors ≡ all_summed state.actors
  summed = rows summed_of state.actors id a b mine refl

  noted : all_noted actors ≡ all_noted state.actors
  noted = rows noted_of state.actors id a b mine refl

  -- ---- what it took

  took_same : (name : List ℕ) (key : ℤ) → taken_units (taken_of b) name key ≡ taken_units (taken_of a) name key
  took_same name key =
      let total = taken_total name key (a.deltas.first_taken ++ map portion_of front) in
      ap (λ list. taken_units list name key) (portions_push a.deltas.first_taken front swapped_one)
      ∙ (total (portion_of swapped_one ∷ [])
      ∙ (sym (total (portion_of last ∷ []))
      ∙ (sym (ap (λ list. taken_units list name key) (portions_push a.deltas.first_taken front last))
      ∙ ap (λ (list : List Taken). taken_units (a.deltas.first_taken ++ map portion_of list) name key) (sym taken_is))))

  took_all_same : (name : List ℕ) (key : ℤ) → taken_units (all_taken actors) name key ≡ taken_units (all_taken state.actors) name key
  took_all_same name key =
      let all = rows_beside (λ list. taken_units list name key)
      (taken_total name key) taken_of state.actors id a b mine in
      let same = took_same name key in
      omega (arith, all, same)

  abbrev more_of : List ℕ → ℤ
  more_of name = amount_of_name r.name name (sum -ℤ mark)

  name_is : last.name ≡ r.name
  name_is = named ∙ sym called

  took_more : (name : List ℕ) → taken_sum (taken_of b) name ≡ taken_sum (taken_of a) name +ℤ more_of name
  took_more name =
      let before : List Portion = a.deltas.first_taken ++ map portion_of front in
      let total = taken_sum_total name before in
      ap (λ list. taken_sum list name) (portions_push a.deltas.first_taken front swapped_one)
      ∙ (total (portion_of swapped_one ∷ [])
      ∙ (ap (λ z. taken_sum before name +ℤ z) one_more
      ∙ (sym (+ℤ_assoc (taken_sum before name) (taken_sum (portion_of last ∷ []) name) (more_of name))
      ∙ ap (λ z. z +ℤ more_of name) (sym (total (portion_of last ∷ []))
      ∙ (sym (ap (λ list. taken_sum list name) (portions_push a.deltas.first_taken front last))
      ∙ ap (λ (list : List Taken). taken_sum (a.deltas.first_taken ++ map portion_of list) name) (sym taken_is))))))
    where
      by_test : (t : Bool) → pos 0 +ℤ (if t then last.sum +ℤ (sum -ℤ mark) else pos 0) ≡ (pos 0 +ℤ (if t then last.sum else pos 0)) +ℤ (if t then sum -ℤ mark else pos 0)
      by_test true = sym (+ℤ_assoc (pos 0) last.sum (sum -ℤ mark))
      by_test false = refl

      one_more : taken_sum (portion_of swapped_one ∷ []) name ≡ taken_sum (portion_of last ∷ []) name +ℤ more_of name
      one_more = by_test (bytes_eq last.name name) ∙ ap (λ (n : List ℕ). taken_sum (portion_of last ∷ []) name +ℤ amount_of_name n name (sum -ℤ mark)) name_is

  took_all_more : (name : List ℕ) → taken_sum (all_taken actors) name ≡ taken_sum (all_taken state.actors) name +ℤ more_of name
  took_all_more name = all_sums_more name (took_more name)
    where
      all_sums_more : (name : List ℕ) → taken_sum (taken_of b) name ≡ taken_sum (taken_of a) name +ℤ more_of name
          → taken_sum (all_taken actors) name ≡ taken_sum (all_taken state.actors) name +ℤ more_of name
      all_sums_more name more = amounts_moved (λ (list : List Actor). taken_sum (all_taken list) name)
          (λ xs ys. ap (λ list. taken_sum list name) (flat_map-append taken_of xs ys)
          ∙ taken_sum_total name (all_taken xs) (all_taken ys)) state.actors id a b (more_of name) mine
          (ap (λ list. taken_sum list name) (append-nil (taken_of b)) ∙ (more ∙ ap (λ list. taken_sum list name +ℤ more_of name) (sym (append-nil (taken_of a)))))

  mark_more : (name : List ℕ) → amount_of_name r.name name (cast_signed w64 v) ≡ amount_of_name r.name name mark +ℤ more_of name
  mark_more name = by_test (bytes_eq r.name name)
    where
      by_test : (t : Bool) → (if t then cast_signed w64 v else pos 0) ≡ (if t then mark else pos 0) +ℤ (if t then sum -ℤ mark else pos 0)
      by_test true = back ∙ sym (onward mark sum)
      by_test false = refl

  -- ---- whose key it has

  was_taken : (p : Portion) → Contains (taken_of a) p → (count : ℤ × ℕ) → Contains p.counts count → HasKey kept.anatomy.records p.name count.0
  was_taken p old count = kept.taken_keys p count (row_in taken_of state.actors id a p mine old)

  swapped_keys : (t : Taken) → Contains d.taken t → (count : ℤ × ℕ) → Contains t.counts count → HasKey kept.anatomy.records t.name count.0
  swapped_keys t there count among = ⊎_elim
      (λ old. was_taken (portion_of t) (portion_in a t (subst (λ (list : List Taken). Contains list t) (sym taken_is) (Contains-append_left front (last ∷ []) t old))) count among)
      (λ one.
      let same = one_in swapped_one t one in
      subst (λ (n : List ℕ). HasKey kept.anatomy.records n count.0) (ap (λ (t : Taken). t.name) same)
      (was_taken (portion_of last)
      (portion_in a last (subst (λ (list : List Taken). Contains list last) (sym taken_is) (Contains-append_right front (last ∷ []) last (0, omega arith, refl))))
      count (subst (λ (list : List (ℤ × ℕ)). Contains list count) (sym (ap (λ (t : Taken). t.counts) same)) among)))
      (Contains-append_cases front (swapped_one ∷ []) t there)

  -- ---- the sum

  -- a recorder that is alone has taken the sum then
  taken_now : IsAlone state.actors a → taken_sum (all_taken actors) known.name ≡ tally_sum (all_summed actors) known.name
  taken_now alone =
      let amount : amount_of_name r.name known.name (sum -ℤ mark) ≡ sum -ℤ mark = ap (λ (t : Bool). if t then sum -ℤ mark else pos 0) ((bytes_eq-Decides r.name known.name).1 called) in
      let was : taken_sum (all_taken state.actors) known.name ≡ mark =
      sym (kept.balanced.sum_marks known.name) ∙ sum_mark_is shape opened state.words (laid_out shape opened state kept) known.name r.spec known.reference r first stands called in
      took_all_more known.name
      ∙ ((λ i. was i +ℤ amount i)
      ∙ (onward mark sum
      ∙ (((kept.each id a mine lived).looks recorder).sum known.reference sum r placed alone stands
      ∙ (sym (sum_is shape opened state.words (laid_out shape opened state kept) known.name r.spec known.reference r first stands called)
      ∙ (kept.balanced.sums known.name ∙ ap (λ entries. tally_sum entries known.name) (sym summed))))))

  -- ---- sums

  sum_was : (x : ℤ) → IsSumOf actors known.reference (with_mark r v) x → IsSumOf state.actors known.reference r x
  sum_was x (inl none_there) = inl none_there
  sum_was x (inr (inl now)) = inr (inl now)
  sum_was x (inr (inr (inl is))) = subst (IsSumOf state.actors known.reference r) (sym (is ∙ back)) loaded_one
  sum_was x (inr (inr (inr (who, c, there, stands_at)))) =
      inr (inr (inr (loaded_set state.actors id a b mine (λ at sum is. absurd (cc is)) known.reference x who c there stands_at)))

  sum_before : (at : ℕ) (s : Record) (x : ℤ) → IsSumOf actors at s x → IsSumOf state.actors at s x
  sum_before at s x (inl none_there) = inl none_there
  sum_before at s x (inr (inl now)) = inr (inl now)
  sum_before at s x (inr (inr (inl is))) = inr (inr (inl is))
  sum_before at s x (inr (inr (inr (who, c, there, stands_at)))) =
      inr (inr (inr (loaded_set state.actors id a b mine (λ at sum is. absurd (cc is)) at x who c there stands_at)))

  near : SumsAreNear new.pieces actors
  near at s x y there one two =
      let costs = sum_same (summed_cost s.name) state.actors id a b mine refl in
      ⊎_elim
      (λ was. let bound = kept.sums at s x y was.0 (sum_before at s x one) (sum_before at s y two) in omega (arith, bound, costs))
      (λ is.
      let same : with_mark r v ≡ s = cc (sym is.1) in
      let bound = subst (λ (p : ℕ × Record). IsSumOf actors p.0 p.1 x → IsSumOf actors p.0 p.1 y → unsigned_abs (x -ℤ y) ≤ 2147483648 * summed_costs p.1.name state.actors)
      (λ i. (sym is.0 i, same i)) (λ p q. kept.sums known.reference r x y stands (sum_was x p) (sum_was y q)) one two in
      omega (arith, bound, costs))
      (came_from shape opened state kept known.reference (histogram r) (histogram (with_mark r v)) 12 v stands turns at none (histogram s) there)

  -- the sum itself stays
  rising : SumsRise kept.anatomy.pieces new.pieces state.actors actors
  rising = sums_come shape state.words kept.anatomy kept.shown new.pieces state.actors actors
      (λ name. let costs = sum_same (summed_cost name) state.actors id a b mine refl in omega (arith, costs))
      (λ at s there. ⊎_elim
      (λ was. (s, was.0, refl))
      (λ is.
      let same : with_mark r v ≡ s = cc (sym is.1) in
      (r, subst (λ (n : ℕ). HasRecord kept.anatomy.pieces n r) (sym is.0) stands, ap (λ (z : Record). z.sum) same))
      (came_from shape opened state kept known.reference (histogram r) (histogram (with_mark r v)) 12 v stands turns at none (histogram s) there))

  -- ---- deltas and snapshots

  abbrev opener : Actor
  opener = kept.roles.opener

  ended_was : (t : Taken) → Contains (ended_deltas b) t → Contains (ended_deltas a) t
  ended_was t there =
      let now : Contains front t = subst (λ (list : List Taken). Contains list t)
      (ap (λ (on : Bool). if on then take (length d.taken - 1) d.taken else d.taken) taking ∙ before_last front swapped_one) there in
      subst (λ (list : List Taken). Contains list t)
      (sym (ap (λ (on : Bool). if on then take (length a.deltas.taken - 1) a.deltas.taken else a.deltas.taken) taking
      ∙ (ap (λ (list : List Taken). take (length list - 1) list) taken_is ∙ before_last front last))) now

  ended_now : ended_deltas b ≡ front
  ended_now = ended_before b front swapped_one refl taking

  moment_was : (m : Moment) → IsMomentOf b m → IsMomentOf a m
  moment_was m (inr answered) = inr answered
  moment_was m (inl (t, there, is)) = ⊎_elim
      (λ old. inl (t, subst (λ (list : List Taken). Contains list t) (sym taken_is) (Contains-append_left front (last ∷ []) t old), is))
      (λ one. inl (
        last,
        subst (λ (list : List Taken). Contains list last) (sym taken_is) (Contains-append_right front (last ∷ []) last (0, omega arith, refl)),
        ap (λ (t : Taken). t.moment) (one_in swapped_one t one) ∙ is,
      ))
      (Contains-append_cases front (swapped_one ∷ []) t there)

  finals : FinalsAreExact actors opener id b
  finals =
      let exact = (kept.each id a mine lived).finals in record {
        deltas = λ t there none_out youngest quiet.
            let ended = ended_was t there in
            let was = exact.deltas t ended none_out youngest quiet in
            let its = (exact.moments t.moment (ended_began a t ended)).mine recorder in
            let alone : IsAlone state.actors a = (opener, kept.roles.stands, sym its.1 ∙ none_out, ap (λ (n : ℕ). n + 1) (sym its.0) ∙ youngest) in (
              λ key. took_all_same t.name key ∙ (was.0 key ∙ ap (λ entries. tally_units entries t.name key) (sym counted)),
              by_name t alone was.1 (bytes_eq r.name t.name) refl,
            );
        snapshots = λ s there none_out youngest quiet.
            let was = exact.snapshots s there none_out youngest quiet in (
              λ key. was.0 key ∙ ap (λ entries. tally_units entries s.name key) (sym counted),
              was.1 ∙ ap (λ entries. tally_sum entries s.name) (sym summed),
              was.2 ∙ ap (λ entries. cost_of opener.entries.first_noted s.name + tally_noted entries s.name) (sym noted),
            );
        each = λ n t there none_out youngest.
            let ended = subst (λ (list : List Taken). get_elem? list n ≡ some t) (ended_now ∙ sym (ended_before a front last taken_is taking)) there in
            let was = exact.each n t ended none_out youngest in
            let low = below_length front n t (subst (λ (list : List Taken). get_elem? list n ≡ some t) ended_now there) in
            let at : n + 1 ≤ length front = omega (arith, low) in
            let later : List Portion = map portion_of (drop (n + 1) a.deltas.taken) in
            let entries : List Entry = accepted_at a t.moment in
            let changed_is : drop (n + 1) (change_last (swap_sum sum mark) a.deltas.taken) ≡ drop (n + 1) d.taken =
            ap (drop (n + 1)) (further_is a.deltas.taken front last taken_is (swap_sum sum mark) refl refl) in (
              λ key.
                  let same = took_all_same t.name key in
                  let its = was.0 key in
                  let units = units_later a.deltas.taken front last taken_is (swap_sum sum mark) refl refl n at t.name key in
                  let changed = ap (λ (list : List Taken). taken_units (map portion_of list) t.name key) changed_is in
                  omega (arith, same, its, units, changed),
              took_all_more t.name
                  ∙ (ap (λ z. z +ℤ more_of t.name) was.1
                  ∙ (+ℤ_assoc (tally_sum entries t.name) (taken_sum later t.name) (more_of t.name)
                  ∙ ap (λ z. tally_sum entries t.name +ℤ z)
                  (ap (λ (n : List ℕ). taken_sum later t.name +ℤ amount_of_name n t.name (sum -ℤ mark)) (sym name_is)
                  ∙ (sym (sum_later a.deltas.taken front last taken_is (swap_sum sum mark) refl refl n at (sum -ℤ mark) refl t.name)
                  ∙ ap (λ (list : List Taken). taken_sum (map portion_of list) t.name) changed_is)))),
            );
        moments = λ m of.
            moment state.actors actors opener opener id a m (is_later state.actors actors kept.roles beside) (exact.moments m (moment_was m of));
        swapped = λ before one on is swapped alone.
            let same = last_one front before swapped_one one is in
            let name : known.name ≡ one.name = sym named ∙ ap (λ (t : Taken). t.name) same in
            subst (λ (n : List ℕ). taken_sum (all_taken actors) n ≡ tally_sum (all_summed actors) n) name
            (taken_now (alone_was state.actors actors kept.roles beside b a refl refl alone));
      }
    where
      by_name : (t : Taken) → IsAlone state.actors a → taken_sum (all_taken state.actors) t.name ≡ tally_sum (all_summed state.actors) t.name
          → (same : Bool) → bytes_eq r.name t.name ≡ same → taken_sum (all_taken actors) t.name ≡ tally_sum (all_summed actors) t.name
      by_name t alone was true is =
          let name : known.name ≡ t.name = sym called ∙ (bytes_eq-Decides r.name t.name).0 is in
          subst (λ (n : List ℕ). taken_sum (all_taken actors) n ≡ tally_sum (all_summed actors) n) name (taken_now alone)
      by_name t alone was false is =
          took_all_more t.name
          ∙ (ap (λ (x : Bool). taken_sum (all_taken state.actors) t.name +ℤ (if x then sum -ℤ mark else pos 0)) is
          ∙ (+ℤ_idr (taken_sum (all_taken state.actors) t.name) ∙ (was ∙ ap (λ entries. tally_sum entries t.name) (sym summed))))

  -- ---- all of it

  sum_marked : KeptOn shape opened kept (record { words = set state.words (known.reference + 12) v; cursors = state.cursors; actors = actors })
  sum_marked =
      let fits = kept.each id a mine lived in
      let calls = calls_same kept.anatomy new a refl fits.calls in
      let knows = All-contains (IsRightlyKnown kept.anatomy) a.answers.names known fits.names has in
      let records = record_kept shape opened state kept known.reference r (with_mark r v) 12 v stands turns refl
      (lawful_mark kept.anatomy.version shape.page r v narrow (kept.records.lawful known.reference r stands))
      (λ c there is. is)
      (kept.records.packed known.reference r stands)
      (λ kind place is. first_one kept.anatomy.records known.name kind knows.first_spec place known.reference
      (subst (λ (name : List ℕ). IsFirst kept.anatomy.records name kind place) called is) knows.first) in
      turned_on shape opened state kept known.reference (histogram r) (histogram (with_mark r v)) 12 v stands turns id a mine recorder lived d (record {
        records = records;
        balances = record {
          units = λ name key. let rests = rests_at a name key a.hand.place (λ look bucket units moving. cc (sym placed ∙ moving)) in omega (arith, rests);
          marks = λ name key. let same = took_same name key in omega (arith, same);
          sums = λ name. (pos 0, sym (+ℤ_idr _), sym (+ℤ_idr _));
          sum_marks = λ name. (more_of name, mark_more name, took_more name);
          noted = λ name. refl;
        };
        taken = λ name key.
            let was = kept.balanced.taken name key in
            let took = took_all_same name key in
            let same = ap (λ entries. tally_units entries name key) counted in
            omega (arith, was, took, same);
        counted = λ name key. omega arith;
        keys = λ entry there units. kept.keys entry (row_in counted_of state.actors id a entry mine there) units;
        taken_keys = λ p count there among. ⊎_elim
            (λ old. was_taken p (portion_first a.deltas.first_taken a.deltas.taken p old) count among)
            (λ (t, is_there, is). subst (λ (p : Portion). Contains p.counts count → HasKey kept.anatomy.records p.name count.0) is (swapped_keys t is_there count) among)
            (portion_from a.deltas.first_taken d.taken p there);
        sums = (near, rising);
        lives = λ e. cc e;
        stood = tt;
        sees = sees_turned shape opened state kept known.reference (histogram r) (histogram (with_mark r v)) 12 v stands turns a.seen fits.sees;
        noticed = λ saw. saw;
        up = λ free. ap is_beaten placed;
        own = refl;
        calls = record {
          ordered = calls.ordered;
          within = calls.within;
          held = calls.held;
          ended = calls.ended;
          spent = calls.spent;
          met = calls.met;
          taking = λ on.
              let (runs, (before, one, ends, at)) = calls.taking on in
              (runs, (front, swapped_one, refl, ap (λ (t : Taken). t.moment.log) (same_from_push front before last one (sym taken_is ∙ ends)).1 ∙ at));
        };
        looks = looks_turned shape opened state kept known.reference (histogram r) (histogram (with_mark r v)) 12 v stands turns id a mine recorder lived d
            (λ e. cc e) (λ reference sum loaded. cc loaded) records
            (λ name key. let same = ap (λ entries. tally_units entries name key) counted in omega (arith, same));
        finals = finals;
      })

-- the event
pub sum_mark_swapped : (h : ℕ) (sum : ℤ) → EventKeeps (taking_event (swap_sum_mark h sum))
sum_mark_swapped h sum shape opened state id a kept mine recorder (known, (taking, has, refers, (front, last, taken_is, named)), placed) =
    let here : a.hand.place ≡ SumLoaded known.reference sum = placed ∙ ap (λ (n : ℕ). SumLoaded n sum) (sym refers) in
    let lives = lived shape opened state kept id a mine recorder sum known has taking front last taken_is named here in
    let (r, first, there, called, many, keys) = knows_of shape opened state kept id a mine recorder lives known has in
    let found : word_at state.words (h + 12) ≡ r.sum_mark =
    ap (λ (n : ℕ). word_at state.words (n + 12)) (sym refers) ∙ body_word shape opened state kept known.reference 12 (histogram r) there (omega arith) in
    let within = word_within shape opened state kept known.reference 12 (histogram r) there refl (omega arith) in
    let loaded : IsSumOf state.actors known.reference r sum = inr (inr (inr (id, a, mine, here))) in
    let mark : IsSumOf state.actors known.reference r (cast_signed w64 (word_at state.words (h + 12))) = inr (inr (inl (ap (cast_signed w64) found))) in
    happens opened.version state id a (taking_event (swap_sum_mark h sum)) (subst (λ (n : ℕ). n + 12 < length state.words) refers within) shape opened kept (
      subst (λ (p : ℕ × List Taken). KeptOn shape opened kept (record {
        words = set state.words (p.0 + 12) (cast_unsigned w64 sum);
        cursors = state.cursors;
        actors = set state.actors id (record a { hand = record a.hand { place = Idle }; deltas = record a.deltas { taken = p.1 } });
      })) (λ i. (
        refers i,
        sym (ap (change_last (swap_sum sum (cast_signed w64 (word_at state.words (h + 12))))) taken_is
            ∙ (last_changed (swap_sum sum (cast_signed w64 (word_at state.words (h + 12)))) front last
            ∙ ap (λ (n : ℕ). front ++ swap_sum sum (cast_signed w64 n) last ∷ []) found)) i,
      )) (sum_marked shape opened state kept id a mine recorder sum known has taking front last taken_is named here),
      (
        sum_fits shape opened state kept known.reference r (cast_signed w64 (word_at state.words (h + 12))) there mark,
        sum_fits shape opened state kept known.reference r sum there loaded,
        sums_fit shape opened state kept known.reference r sum (cast_signed w64 (word_at state.words (h + 12))) there loaded mark,
      ),
    )
