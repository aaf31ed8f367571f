-- A `batch` of an actor continues: what becomes of its entries and its units.
use Rattle.segment_invariant.proofs.Prelude.Std.{◌≡◌, ◌≤◌, ◌<◌, ◌+◌, ◌-◌, ℕ, Bool, true, false, pos, List, [], ◌∷◌, ◌++◌, map, length, take, set, refl, sym, ap, subst, ◌∙◌, arith, length-append, ⊎_elim, vec_len, ◌&&◌, ◌==◌, if◌then◌else◌, int_eq, props, ∥∥₁_elim, length-map, map-append, sum_by-append, sum_by-cons, some, some-injective, get_elem?, bytes_eq-Decides}
use Rattle.segment_invariant.proofs.Prelude.Machine.{Dimensions, Actor, EntryProgress, fresh, tally_noted}
use Rattle.std.proofs.lemmas.List.{take-append-le, take-map, map-set}
use Rattle.atomic_table.proofs.Lists.{set_again}
use Rattle.segment_machine.specs.declared.actor.Known.{Known}
use Rattle.segment_machine.specs.declared.entry.Entry.{Entry as MachineEntry}
use Rattle.segment_machine.specs.Entry.{sum_entry}
use Rattle.hist_core.specs.declared.add.Add.{Add}
use Rattle.hist_core.specs.declared.add.AddStep.{AddStep}
use Rattle.hist_core.specs.declared.add.AddStep.TheVariants as said
use Rattle.hist_core.specs.StepsBy.{StepsBy}
use Rattle.hist_core.specs.declared.batch.Batch.{Batch}
use Rattle.hist_core.specs.declared.batch.BatchStep.{BatchStep}
use Rattle.hist_core.specs.declared.batch.BatchStep.TheVariants.{More, Done}
use Rattle.hist_core.specs.Add.{counted_entry, IsAdd, IsSomeAdd, AddSteps}
use Rattle.hist_core.specs.Batch.{IsBatch, IsSomeBatch, CountsItem, SumsUp, RunsEntries, BatchGives, IsItemSaid, IsRefusedAt, IsSameBatch, amid_of, sample_of, counted_entries, sum_entries, units_among}
use Rattle.hist_core.proofs.AddCall.Adding.{has_entry}
use Rattle.hist_core.proofs.BatchCall.Entries.{ended_are, one_sum, noted_are}
use Rattle.hist_core.proofs.BatchCall.Items.{parts_are, item_goes}

-- its record lies in the words, which are few
pub some_inside : (batch : Batch) (words : List ℕ) → ∥ IsSomeBatch (length words) batch ∥₁ → (batch.histogram + 15 ≤ length words) × (length words ≤ 1048576)
some_inside batch words stands = ∥∥₁_elim stands (hlevel props) (λ (shape, known, a, long, is).
    let within = is.within in let many = is.lawful_shape.many in (omega (arith, long, within), omega (arith, long, many)))

module _ (shape : Dimensions) (known : Known) (batch : Batch) (a : Actor) (is : IsBatch shape known batch a) where
  -- of an item that is counted there is one more
  below : CountsItem shape known batch a → batch.added < length batch.items.items
  below c = let whole = ap length c.are ∙ length-append c.done (c.item ∷ c.rest) in let added = c.added in omega (arith, whole, added)

  -- if all items are counted, the sum is next
  pub sums_there : batch.added ≡ vec_len batch.items → SumsUp known batch a
  sums_there all = ⊎_elim (λ c. absurd (let less = below c in let ok = batch.items.ok.0 in omega (arith, less, ok, all))) (λ sums. sums) is.stands

  -- else an item is
  pub item_there : batch.added < vec_len batch.items → CountsItem shape known batch a
  item_there less = ⊎_elim (λ c. c) (λ sums. absurd (let all = sums.added in let ok = batch.items.ok.0 in omega (arith, less, ok, all))) is.stands

  -- no more are counted than there are
  pub not_more : batch.added ≤ vec_len batch.items
  not_more = ⊎_elim (λ c. let less = below c in let ok = batch.items.ok.0 in omega (arith, less, ok)) (λ sums. let all = sums.added in let ok = batch.items.ok.0 in omega (arith, ok, all)) is.stands

  -- its entries run
  pub runs_so : RunsEntries (counted_entries known batch) a
  runs_so = ⊎_elim
      (λ c. let has = has_entry shape known (amid_of known batch c.done c.rest) c.item a c.item.stage c.stands.stands in
      ap (map (λ (x : EntryProgress). x.entry)) has.2
      ∙ (parts_are known known.name batch.sum c.done c.rest c.item _ refl ∙ ap (λ (l : List Add). map (counted_entry known) l ++ sum_entries known.name batch.sum) (sym c.are)))
      (λ sums. ap (map (λ (x : EntryProgress). x.entry)) sums.runs
      ∙ (map-append (λ (x : EntryProgress). x.entry) _ (fresh (sum_entry known.name batch.sum) ∷ [])
      ∙ ((λ i. ended_are known batch.items.items i ++ sum_entry known.name batch.sum ∷ [])
      ∙ ap (λ (l : List MachineEntry). map (counted_entry known) batch.items.items ++ l) (sym (one_sum known.name batch.sum sums.some)))))
      is.stands

-- the units of its first entries, which are those of items
pub first_units : (known : Known) (batch : Batch) (added : ℕ) → added ≤ length batch.items.items
    → tally_noted (take added (counted_entries known batch)) known.name ≡ units_among (take added batch.items.items)
first_units known batch added few =
    ap (λ l. tally_noted l known.name)
    (take-append-le added (map (counted_entry known) batch.items.items) (sum_entries known.name batch.sum) (let long = length-map batch.items.items (counted_entry known) in omega (arith, few, long))
    ∙ take-map (counted_entry known) added batch.items.items)
    ∙ noted_are known (take added batch.items.items) ((bytes_eq-Decides known.name known.name).1 refl)

-- ---- a step of an item

-- what comes after a front
at_behind : {X : Type 0} (xs : List X) (x : X) (ys : List X) → get_elem? (xs ++ x ∷ ys) (length xs) ≡ some x
at_behind [] x ys = refl
at_behind (y ∷ xs) x ys = at_behind xs x ys

module _ (shape : Dimensions) (known : Known) (batch : Batch) (a : Actor) (is : IsBatch shape known batch a) (less : batch.added < vec_len batch.items) (x : Add)
    (at : get_elem? batch.items.items batch.added ≡ some x) where
  -- that is the item that is counted
  item_is : (item_there shape known batch a is less).item ≡ x
  item_is =
      let c = item_there shape known batch a is less in
      some-injective c.item x (sym (at_behind c.done c.item c.rest) ∙ ((λ i. get_elem? (sym c.are i) (sym c.added i)) ∙ at))

  pub adds_there : (n : ℕ) → n ≡ shape.size → IsSomeAdd n x
  adds_there n long = let c = item_there shape known batch a is less in
      (shape, known, amid_of known batch c.done c.rest, a, long, subst (λ (y : Add). IsAdd shape known (amid_of known batch c.done c.rest) y a) item_is c.stands)

  -- its units are no more than are left
  pub fits_there : x.units ≤ batch.left
  fits_there = let c = item_there shape known batch a is less in
      let parts = ap units_among c.are ∙ (sum_by-append (λ (y : Add). y.units) c.done (c.item ∷ c.rest) ∙ ap (λ n. units_among c.done + n) (sum_by-cons (λ (y : Add). y.units) c.item c.rest)) in
      let left = c.left in let enough = is.enough in let same = ap (λ (y : Add). y.units) item_is in omega (arith, parts, left, enough, same)

  pub item_on : (y : Add) → y ≡ record x { stage = y.stage } → (mid : Batch) → mid ≡ record batch { items = mid.items } → mid.items.items ≡ set batch.items.items batch.added y → (words new_words : List ℕ)
      → length words ≡ shape.size → (says : AddStep) → AddSteps x words y new_words says → (new : Batch) (result : BatchStep)
      → IsItemSaid mid says x.units new result → StepsBy shape.size a.segment.version a words new_words (BatchGives shape known new result a)
  item_on y same mid mid_is stored words new_words long says steps new result is_said =
      let c = item_there shape known batch a is less in
      let then_is : y ≡ record c.item { stage = y.stage } = same ∙ ap (λ (z : Add). record z { stage = y.stage }) (sym item_is) in
      item_goes shape known batch a is c y.stage mid (stored ∙ ap (set batch.items.items batch.added) then_is) words new_words says long
      (subst (λ (p : Add × Add). AddSteps p.0 words p.1 new_words says) (λ i. (sym item_is i, then_is i)) steps) new result
      (subst (λ (p : Batch × ℕ). IsItemSaid p.0 says p.1 new result) (λ i. (mid_is i, (sym item_is i).units)) is_said)

-- it counts the same, whatever its item said
pub same_on : (batch : Batch) (x y : Add) → get_elem? batch.items.items batch.added ≡ some x → y ≡ record x { stage = y.stage } → (mid : Batch)
    → mid ≡ record batch { items = mid.items } → mid.items.items ≡ set batch.items.items batch.added y → (says : AddStep) (units : ℕ) (new : Batch) (result : BatchStep)
    → IsItemSaid mid says units new result → IsSameBatch batch new
same_on batch x y at same mid mid_is stored says units new result is_said = by says (subst (λ (m : Batch). IsItemSaid m says units new result) mid_is is_said)
  where
    stays : {X : Type 0} (f : Add → X) → f y ≡ f x → map f mid.items.items ≡ map f batch.items.items
    stays f alike =
        ap (map f) stored
        ∙ (map-set f batch.items.items batch.added y
        ∙ (ap (set (map f batch.items.items) batch.added) alike
        ∙ (sym (map-set f batch.items.items batch.added x) ∙ ap (map f) (set_again batch.items.items batch.added x at))))

    so : (n s : ℕ) → IsSameBatch batch (record batch { items = mid.items; added = n; left = s })
    so n s = record {
      histogram = refl;
      samples = stays sample_of (ap sample_of same);
      entries = λ known. stays (counted_entry known) (ap (counted_entry known) same);
      sum = refl;
      cost = refl;
    }

    by : (says : AddStep) → IsItemSaid (record batch { items = mid.items }) says units new result → IsSameBatch batch new
    by said.More (new_is, result_is) = subst (IsSameBatch batch) (sym new_is) (so batch.added batch.left)
    by said.Done (new_is, result_is) = subst (IsSameBatch batch) (sym new_is) (so (batch.added + 1) (batch.left - units))
    by (said.Refused why) (new_is, result_is) = subst (IsSameBatch batch) (sym new_is) (so batch.added batch.left)

-- it is refused at an item that is not counted
pub refused_on : (batch mid new : Batch) (says : AddStep) (units : ℕ) (result : BatchStep) → mid.added ≡ batch.added → mid.left ≡ batch.left
    → batch.added < vec_len batch.items → IsItemSaid mid says units new result → IsRefusedAt batch new result
refused_on batch mid new said.More units result same left less (new_is, result_is) = subst (IsRefusedAt batch new) (sym result_is) tt
refused_on batch mid new said.Done units result same left less (new_is, result_is) =
    subst (IsRefusedAt batch new) (sym result_is) (by ((mid.added + 1 == vec_len mid.items) && int_eq mid.sum (pos 0)))
  where
    by : (last : Bool) → IsRefusedAt batch new (if last then Done else More)
    by true = tt
    by false = tt
refused_on batch mid new (said.Refused why) units result same left less (new_is, result_is) =
    subst (IsRefusedAt batch new) (sym result_is) (same, subst (λ (n : ℕ). n < vec_len batch.items) (sym same) less, ap (λ (b : Batch). b.left) new_is ∙ left)
