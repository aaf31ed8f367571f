-- A `batch` counts its next item.
use Rattle.segment_invariant.proofs.Prelude.Std.{◌≡◌, ◌≤◌, ◌+◌, ◌-◌, ◌==◌, ℕ, ℤ, pos, Bool, true, false, List, [], ◌∷◌, ◌++◌, map, length, take, drop, set, All, inl, inr, refl, sym, ap, subst, ◌∙◌, arith, length-append, append_assoc, ◌&&◌, if◌then◌else◌, vec_len, ◌⊎◌, int_eq, eq-eqb, ne_eqb, map-append, append-nil, length-map, All-cons, All-head, All-tail, All-contains, All-weaker, Contains-append_left, Contains-append_right, sum_by-cons, sum_by-append, at_map, some, get_elem?, Contains}
use Rattle.segment_invariant.proofs.Prelude.Machine.{Dimensions, Actor, Known, EntryProgress, Entry, known_at, fresh, has_ended, is_untouched, Refusal}
use Rattle.std.proofs.lemmas.List.Elements.{All-take, All-drop, All-set}
use Rattle.std.proofs.lemmas.List.Sums.{sum_by_push}
use Rattle.segment_invariant.proofs.Lists.Elements.{contains_at}
use Rattle.segment_invariant.proofs.Lists.Maps.{contains_map}
use Rattle.segment_machine.specs.declared.actor.Made.TheVariants.{Sample}
use Rattle.hist_core.specs.declared.add.Add.{Add}
use Rattle.hist_core.specs.declared.add.AddStep.{AddStep}
use Rattle.hist_core.specs.declared.add.AddStep.TheVariants as said
use Rattle.hist_core.specs.declared.add.AddStage.{AddStage}
use Rattle.hist_core.specs.declared.batch.Batch.{Batch}
use Rattle.hist_core.specs.declared.batch.BatchStep.{BatchStep}
use Rattle.hist_core.specs.declared.batch.BatchStep.TheVariants.{More, Done, Refused}
use Rattle.hist_core.specs.Add.{IsAdd, FrameOfAdd, SawNeedOfBlock, StaysOpen, HasEntry, EntryHasEnded, AddSteps, AddGives, block_words, counted_entry, ended_entry}
use Rattle.hist_core.specs.Add.{serves_counted as add_serves}
use Rattle.hist_core.specs.NewRecord.{IsCause, is_full}
use Rattle.hist_core.specs.Batch.{IsBatch, IsItem, CountsItem, SumsUp, EntriesHaveEnded, BatchGives, IsItemSaid, ItemWaits, amid_of, counted_entries, serves_counted, sample_of, sum_entries, units_among}
use Rattle.hist_core.specs.StepsBy.{SharedEffect, links, raises, DoesOnly, StepsBy, IsFree}
use Rattle.hist_core.proofs.Parts.Allocations.{goes_with}
use Rattle.hist_core.proofs.Parts.Deeds.{does_less}
use Rattle.hist_core.proofs.Worlds.Free.{free_turns}
use Rattle.hist_core.proofs.AddCall.Counts.{counts_on}
use Rattle.hist_core.proofs.AddCall.Entries.{counting_of}
use Rattle.hist_core.proofs.AddCall.Samples.{stands_first}
use Rattle.hist_core.proofs.Worlds.Quiet.{met_split}
use Rattle.hist_core.proofs.BatchCall.Entries.{ended_are, fresh_are, all_over, all_untouched, none_summed, one_sum, no_sum}

-- a front of a list, and what is after it
module _ {X : Type 0} where
  pub front_is : (xs ys : List X) → take (length xs) (xs ++ ys) ≡ xs
  front_is [] ys = refl
  front_is (x ∷ xs) ys = ap (λ (l : List X). x ∷ l) (front_is xs ys)

  pub behind_is : (xs ys : List X) → drop (length xs) (xs ++ ys) ≡ ys
  behind_is [] ys = refl
  behind_is (x ∷ xs) ys = behind_is xs ys

  pub set_behind : (xs : List X) (x y : X) (ys : List X) → set (xs ++ x ∷ ys) (length xs) y ≡ xs ++ y ∷ ys
  set_behind [] x y ys = refl
  set_behind (z ∷ xs) x y ys = ap (λ (l : List X). z ∷ l) (set_behind xs x y ys)

-- what comes after a front
at_front : {X : Type 0} (xs : List X) (x : X) (ys : List X) → get_elem? (xs ++ x ∷ ys) (length xs) ≡ some x
at_front [] x ys = refl
at_front (y ∷ xs) x ys = at_front xs x ys

-- the entries of a call whose next item has this entry
pub parts_are : (known : Known) (name : List ℕ) (sum : ℤ) (done rest : List Add) (item : Add) (c : EntryProgress) → c.entry ≡ counted_entry known item
    → map (λ (x : EntryProgress). x.entry) (map (ended_entry known) done ++ c ∷ map fresh (map (counted_entry known) rest ++ sum_entries name sum))
    ≡ map (counted_entry known) (done ++ item ∷ rest) ++ sum_entries name sum
parts_are known name sum done rest item c is =
    let behind = map (counted_entry known) rest ++ sum_entries name sum in
    map-append (λ (x : EntryProgress). x.entry) (map (ended_entry known) done) (c ∷ map fresh behind)
    ∙ ((λ i. ended_are known done i ++ is i ∷ fresh_are behind i)
    ∙ (sym (append_assoc (map (counted_entry known) done) (map (counted_entry known) (item ∷ rest)) (sum_entries name sum))
    ∙ ap (λ (l : List Entry). l ++ sum_entries name sum) (sym (map-append (counted_entry known) done (item ∷ rest)))))

module _ (shape : Dimensions) (known : Known) (batch : Batch) (a : Actor) (is : IsBatch shape known batch a) (c : CountsItem shape known batch a) (at : AddStage) (mid : Batch)
    (stored : mid.items.items ≡ set batch.items.items batch.added (record c.item { stage = at })) where
  abbrev item : Add
  item = record c.item { stage = at }

  -- with the item as it is then
  abbrev now : Batch
  now = record batch { items = mid.items }

  there : mid.items.items ≡ c.done ++ item ∷ c.rest
  there = stored ∙ ((λ i. set (c.are i) (c.added i) item) ∙ set_behind c.done c.item item c.rest)

  units_there : units_among mid.items.items ≡ units_among batch.items.items
  units_there =
      ap units_among there
      ∙ (sum_by-append (λ (x : Add). x.units) c.done (item ∷ c.rest)
      ∙ (ap (λ n. units_among c.done + n) (sum_by-cons (λ (x : Add). x.units) item c.rest ∙ sym (sum_by-cons (λ (x : Add). x.units) c.item c.rest))
      ∙ (sym (sum_by-append (λ (x : Add). x.units) c.done (c.item ∷ c.rest)) ∙ ap units_among (sym c.are))))

  abbrev IsOne : Add → Type 0
  IsOne = IsItem shape a.segment.version known

  one : IsOne c.item
  one = All-contains IsOne batch.items.items c.item is.items (subst (λ (l : List Add). Contains l c.item) (sym c.are)
      (Contains-append_right c.done (c.item ∷ c.rest) c.item (contains_at (c.item ∷ c.rest) 0 c.item refl)))

  these : All IsOne (c.done ++ c.item ∷ c.rest)
  these = subst (All IsOne) c.are is.items

  all_done : All IsOne c.done
  all_done = subst (All IsOne) (front_is c.done (c.item ∷ c.rest)) (All-take IsOne (length c.done) (c.done ++ c.item ∷ c.rest) these)

  all_rest : All IsOne c.rest
  all_rest = All-tail IsOne c.item c.rest (subst (All IsOne) (behind_is c.done (c.item ∷ c.rest)) (All-drop IsOne (length c.done) (c.done ++ c.item ∷ c.rest) these))

  still_one : IsOne item
  still_one = record { counting = counts_on shape known c.item at one.counting; versioned = one.versioned; amount = one.amount }

  -- a sample that it makes is of an item's value
  serves_item : (full : Bool) (b : Actor) → DoesOnly false full (add_serves known item a) a b → DoesOnly false full (serves_counted known now a) a b
  serves_item full b = does_less false full (add_serves known item a) (serves_counted known now a) a b so
    where
      inside : Contains (map sample_of mid.items.items) (sample_of item)
      inside = subst (λ (l : List Add). Contains (map sample_of l) (sample_of item)) (sym there)
          (contains_map sample_of (c.done ++ item ∷ c.rest) item (Contains-append_right c.done (item ∷ c.rest) item (contains_at (item ∷ c.rest) 0 item refl)))

      so : (deed : SharedEffect) → add_serves known item a deed → serves_counted known now a deed
      so (links made) it = (
        sample_of item,
        inside,
        it ∙ ap (λ (histogram : ℕ). Sample histogram item.value) (sym still_one.counting.reference ∙ is.reference),
      )
      so (raises words) (it, needs) = (it, (sample_of item, inside, needs))

  module _ (b : Actor) (aside : FrameOfAdd a b) (stays : StaysOpen a b) where
    -- it has visited the histogram's record
    met_now : Contains b.seen.chain known.reference
    met_now = subst (λ (l : List ℕ). Contains l known.reference) (sym aside.chain.1) (Contains-append_left a.seen.chain aside.chain.0 known.reference is.met)

    -- it is still a batch, in this state
    still_batch : (added left : ℕ) → let new : Batch = record now { added = added; left = left } in CountsItem shape known new b ⊎ SumsUp known new b
        → IsBatch shape known new b
    still_batch added left stands = record {
      reference = is.reference;
      within = is.within;
      segment = ap (λ s. s.shape) aside.segment ∙ is.segment;
      lawful_shape = is.lawful_shape;
      knows = subst (λ (l : List Known). Contains l known) (sym aside.names) is.knows;
      alone = ap (λ (l : List Known). known_at l known.reference) aside.names ∙ is.alone;
      reach = is.reach;
      met = met_now;
      rests = ap (λ d. d.taking) aside.deltas ∙ is.rests;
      held = ap (λ u. u.held) stays.0 ∙ is.held;
      items = subst (λ (v : ℕ). All (IsItem shape v known) mid.items.items) (sym (ap (λ s. s.version) aside.segment))
          (subst (All IsOne) (sym stored) (All-set IsOne batch.items.items batch.added item still_one is.items));
      enough = subst (λ (n : ℕ). n ≤ batch.cost) (sym units_there) is.enough;
      stands = stands;
    }

    -- the item continues
    pub still_counted : DoesOnly false false (add_serves known item a) a b → IsAdd shape known (amid_of known batch c.done c.rest) item b → BatchGives shape known now More a b
    still_counted does counting = (
      aside,
      stays,
      serves_item false b does,
      still_batch batch.added batch.left (inl (record { done = c.done; item = item; rest = c.rest; are = there; added = c.added; left = c.left; waits = c.waits; stands = counting })),
    )

    -- it is counted
    module _ (does : DoesOnly false false (add_serves known item a) a b) (turns : IsFree b) (over : EntryHasEnded known (amid_of known batch c.done c.rest) item b) where
      abbrev next : Batch
      next = record now { added = batch.added + 1; left = batch.left - c.item.units }

      abbrev behind : List Add → List EntryProgress
      behind rest = map fresh (map (counted_entry known) rest ++ sum_entries known.name batch.sum)

      -- it has ended, after those before it
      ended_now : (rest : List EntryProgress) → map (ended_entry known) c.done ++ ended_entry known item ∷ rest ≡ map (ended_entry known) (c.done ++ item ∷ []) ++ rest
      ended_now rest = sym (ap (λ (l : List EntryProgress). l ++ rest) (map-append (ended_entry known) c.done (item ∷ []))
          ∙ append_assoc (map (ended_entry known) c.done) (ended_entry known item ∷ []) rest)

      added_now : batch.added + 1 ≡ length (c.done ++ item ∷ [])
      added_now = ap (λ n. n + 1) c.added ∙ sym (length-append c.done (item ∷ []))

      left_now : batch.left - c.item.units + units_among (c.done ++ item ∷ []) ≡ batch.cost
      left_now =
          let more = sum_by_push (λ (x : Add). x.units) c.done item in let left = c.left in
          let parts = ap units_among c.are ∙ (sum_by-append (λ (x : Add). x.units) c.done (c.item ∷ c.rest) ∙ ap (λ n. units_among c.done + n) (sum_by-cons (λ (x : Add). x.units) c.item c.rest)) in
          let enough = is.enough in omega (arith, more, left, parts, enough)

      -- how many items there are
      count_is : vec_len mid.items ≡ batch.added + 1 + length c.rest
      count_is =
          let ok = mid.items.ok.0 in let whole = ap length there ∙ length-append c.done (item ∷ c.rest) in let added = c.added in omega (arith, ok, whole, added)

      -- another item is next
      counts_next : (x : Add) (rest : List Add) → c.rest ≡ x ∷ rest → IsBatch shape known next b
      counts_next x rest are = still_batch (batch.added + 1) (batch.left - c.item.units) (inl (record {
        done = c.done ++ item ∷ [];
        item = x;
        rest = rest;
        are = there ∙ (ap (λ (l : List Add). c.done ++ item ∷ l) are ∙ sym (append_assoc c.done (item ∷ []) (x ∷ rest)));
        added = added_now;
        left = left_now;
        waits = All-tail (ItemWaits shape known) x rest waiting;
        stands = record {
          counting = its.counting;
          segment = ap (λ s. s.shape) aside.segment ∙ is.segment;
          version = ap (λ s. s.version) aside.segment ∙ its.versioned;
          lawful_shape = is.lawful_shape;
          knows = subst (λ (l : List Known). Contains l known) (sym aside.names) is.knows;
          alone = ap (λ (l : List Known). known_at l known.reference) aside.names ∙ is.alone;
          rests = ap (λ d. d.taking) aside.deltas ∙ is.rests;
          held = ap (λ u. u.held) stays.0 ∙ is.held;
          over = all_over known (c.done ++ item ∷ []);
          stands = stands_first shape known (amid_of known batch (c.done ++ item ∷ []) rest) x b x.stage (All-head (ItemWaits shape known) x rest waiting)
              (ap (λ s. s.shape) aside.segment ∙ is.segment) is.lawful_shape (subst (λ (l : List Known). Contains l known) (sym aside.names) is.knows) is.reach
              (met_split b.seen.chain known.reference met_now)
              (over ∙ (ap (λ (l : List Add). map (ended_entry known) c.done ++ ended_entry known item ∷ behind l) are ∙ ended_now (behind (x ∷ rest)))) turns;
        };
      }))
        where
          waiting : All (ItemWaits shape known) (x ∷ rest)
          waiting = subst (All (ItemWaits shape known)) are c.waits

          its : IsOne x
          its = All-head IsOne x rest (subst (All IsOne) are all_rest)

      -- all items are counted
      last_over : c.rest ≡ [] → b.entries.running ≡ map (ended_entry known) mid.items.items ++ map fresh (sum_entries known.name batch.sum)
      last_over are =
          over ∙ (ap (λ (l : List Add). map (ended_entry known) c.done ++ ended_entry known item ∷ behind l) are
          ∙ (ended_now (behind [])
          ∙ ap (λ (l : List Add). map (ended_entry known) l ++ map fresh (sum_entries known.name batch.sum)) (sym (there ∙ ap (λ (l : List Add). c.done ++ item ∷ l) are))))

      sums_next : c.rest ≡ [] → int_eq batch.sum (pos 0) ≡ false → IsBatch shape known next b
      sums_next are sums = still_batch (batch.added + 1) (batch.left - c.item.units) (inr (record {
        added = added_now ∙ ap length (sym (there ∙ ap (λ (l : List Add). c.done ++ item ∷ l) are));
        turns = free_turns b.hand.place turns;
        some = sums;
        runs = last_over are ∙ ap (λ (l : List Entry). map (ended_entry known) mid.items.items ++ map fresh l) (one_sum known.name batch.sum sums);
      }))

      has_counted : c.rest ≡ [] → int_eq batch.sum (pos 0) ≡ true → EntriesHaveEnded (counted_entries known next) b
      has_counted are none =
          let ends : b.entries.running ≡ map (ended_entry known) mid.items.items =
          last_over are ∙ (ap (λ (l : List Entry). map (ended_entry known) mid.items.items ++ map fresh l) (no_sum known.name batch.sum none)
          ∙ append-nil (map (ended_entry known) mid.items.items)) in (
            ap (map (λ (x : EntryProgress). x.entry)) ends
                ∙ (ended_are known mid.items.items
                ∙ (sym (append-nil (map (counted_entry known) mid.items.items))
                ∙ ap (λ (l : List Entry). map (counted_entry known) mid.items.items ++ l) (sym (no_sum known.name batch.sum none)))),
            subst (All (λ x. has_ended x ≡ true)) (sym ends) (all_over known mid.items.items),
          )

      -- what a counted item leads to
      pub counted_so : (result : BatchStep) → result ≡ (if (batch.added + 1 == vec_len mid.items) && int_eq batch.sum (pos 0) then Done else More)
          → BatchGives shape known next result a b
      counted_so result result_is = by c.rest refl
        where
          says : (last none : Bool) → (batch.added + 1 == vec_len mid.items) ≡ last → int_eq batch.sum (pos 0) ≡ none
              → (if last && none then Done else More) ≡ result
          says last none is_last is_none = sym (result_is ∙ (λ i. if is_last i && is_none i then Done else More))

          at_sum : (none : Bool) → int_eq batch.sum (pos 0) ≡ none → c.rest ≡ [] → BatchGives shape known next result a b
          at_sum true none are = subst (λ (r : BatchStep). BatchGives shape known next r a b)
              (says true true (eq-eqb _ _ (let count = count_is in let last = ap length are in omega (arith, count, last))) none)
              (aside, stays, serves_item false b does, turns, has_counted are none)
          at_sum false sums are = subst (λ (r : BatchStep). BatchGives shape known next r a b)
              (says true false (eq-eqb _ _ (let count = count_is in let last = ap length are in omega (arith, count, last))) sums)
              (aside, stays, serves_item false b does, sums_next are sums)

          by : (rest : List Add) → c.rest ≡ rest → BatchGives shape known next result a b
          by [] are = at_sum (int_eq batch.sum (pos 0)) refl are
          by (x ∷ rest) are = subst (λ (r : BatchStep). BatchGives shape known next r a b)
              (says false (int_eq batch.sum (pos 0)) (ne_eqb _ _ (λ e. let count = count_is in let long = ap length are in omega (arith, count, e, long))) refl)
              (aside, stays, serves_item false b does, counts_next x rest are)

    abbrev others : List EntryProgress
    others = counting_of known item false false ∷ map fresh (map (counted_entry known) c.rest ++ sum_entries known.name batch.sum)

    -- it is refused
    pub refused_so : (why : Refusal) → DoesOnly false (is_full why) (add_serves known item a) a b → IsFree b → IsCause why (block_words known) a b → HasEntry known (amid_of known batch c.done c.rest) item b false false
        → SawNeedOfBlock known (item.value, item.units) b
        → BatchGives shape known now (Refused (record { added = batch.added; why = why })) a b
    refused_so why does turns cause has met = (
      aside,
      stays,
      serves_item (is_full why) b does,
      turns,
      cause,
      record {
        runs = ap (map (λ (x : EntryProgress). x.entry)) has
            ∙ (parts_are known known.name batch.sum c.done c.rest item (counting_of known item false false) refl
            ∙ ap (λ (l : List Add). map (counted_entry known) l ++ sum_entries known.name batch.sum) (sym there));
        ended = subst (All (λ x. has_ended x ≡ true)) (sym first_are) (all_over known c.done);
        untouched = subst (All (λ x. is_untouched x ≡ true)) (sym others_are)
            (All-cons (λ x. is_untouched x ≡ true) (counting_of known item false false) _ refl (all_untouched (map (counted_entry known) c.rest ++ sum_entries known.name batch.sum)));
        unsummed = subst (All (λ (x : EntryProgress). x.summed ≡ false)) (sym first_are)
            (none_summed known c.done (All-weaker IsOne (λ (x : Add). x.amount ≡ pos 0) (λ x one. one.amount) c.done all_done));
      },
      (let whole = ap length there ∙ length-append c.done (item ∷ c.rest) in let added = c.added in omega (arith, whole, added)),
      ap (λ (l : List Add). batch.left + units_among l) (ap (take batch.added) there ∙ (ap (λ n. take n (c.done ++ item ∷ c.rest)) c.added ∙ front_is c.done (item ∷ c.rest))) ∙ c.left,
      (sample_of item, at_next, met),
    )
      where
        long : batch.added ≡ length (map (ended_entry known) c.done)
        long = c.added ∙ sym (length-map c.done (ended_entry known))

        first_are : take batch.added b.entries.running ≡ map (ended_entry known) c.done
        first_are = (λ i. take (long i) (has i)) ∙ front_is (map (ended_entry known) c.done) others

        -- it is the next item
        at_next : get_elem? (map sample_of mid.items.items) batch.added ≡ some (sample_of item)
        at_next = at_map sample_of mid.items.items batch.added item ((λ i. get_elem? (there i) (c.added i)) ∙ at_front c.done item c.rest)

        others_are : drop batch.added b.entries.running ≡ others
        others_are = (λ i. drop (long i) (has i)) ∙ behind_is (map (ended_entry known) c.done) others

  -- for each result of a step of the item
  pub item_goes : (words new_words : List ℕ) (says : AddStep) → length words ≡ shape.size → AddSteps c.item words item new_words says → (new : Batch) (result : BatchStep)
      → IsItemSaid now says c.item.units new result → StepsBy shape.size a.segment.version a words new_words (BatchGives shape known new result a)
  item_goes words new_words says long steps new result is_said = by says (its says steps) is_said
    where
      its : (says : AddStep) → AddSteps c.item words item new_words says
          → StepsBy shape.size a.segment.version a words new_words (AddGives shape known (amid_of known batch c.done c.rest) item says a)
      its says steps = subst (λ (v : ℕ). StepsBy shape.size v a words new_words (AddGives shape known (amid_of known batch c.done c.rest) item says a)) (sym c.stands.version)
          (steps shape known (amid_of known batch c.done c.rest) a long c.stands)

      by : (says : AddStep) → StepsBy shape.size a.segment.version a words new_words (AddGives shape known (amid_of known batch c.done c.rest) item says a)
          → IsItemSaid now says c.item.units new result → StepsBy shape.size a.segment.version a words new_words (BatchGives shape known new result a)
      by said.More go (new_is, result_is) = goes_with go (λ b (aside, stays, does, counting).
          subst (λ (p : Batch × BatchStep). BatchGives shape known p.0 p.1 a b) (λ i. (sym new_is i, sym result_is i)) (still_counted b aside stays does counting))
      by said.Done go (new_is, result_is) = goes_with go (λ b (aside, stays, does, turns, over).
          subst (λ (n : Batch). BatchGives shape known n result a b) (sym new_is) (counted_so b aside stays does turns over result result_is))
      by (said.Refused why) go (new_is, result_is) = goes_with go (λ b (aside, stays, does, turns, cause, has, met).
          subst (λ (p : Batch × BatchStep). BatchGives shape known p.0 p.1 a b) (λ i. (sym new_is i, sym result_is i)) (refused_so b aside stays why does turns cause has met))
