-- A look of a later life has all histograms of one of an earlier life, and no fewer units: the words at the stop have what the earlier look
-- read, each life begins with the words that the one before left, and what is counted stays.
use Rattle.segment_invariant.proofs.Prelude.Std.{◌≡◌, ℕ, zero, suc, ◌+◌, ◌-◌, ◌<◌, ◌≤◌, ℤ, List, refl, sym, ap, subst, ◌∙◌, arith, dite, ℕ_discrete, Contains}
use Rattle.segment_invariant.proofs.Prelude.Machine.{Dimensions, State, head_of, Histogram, Reading, Spec, all_counted, tally_units}
use Rattle.segment_invariant.proofs.Prelude.Invariant.{IsFirst, Invariant}
use Rattle.bucket_ranges.specs.Reading.{IsReading}
use Rattle.bucket_ranges.specs.Spec.{SameSpec}
use Rattle.segment_looks.specs.Looks.{IsLook}
use Rattle.segment_promises.specs.Reads.{units_read}
use Rattle.segment_promises.proofs.Readings.Blocks.{words_read}
use Rattle.segment_promises.proofs.Readings.Stopped.{stopped_reads}
use Rattle.look_promises.specs.Lives.{Life, FollowEachOther, IsBeyond, IsReadIn, ReadingsRiseToTheStop, ReadingsRiseAcrossRestarts, words_left}
use Rattle.look_promises.proofs.Moments.Runs.{Run, run_of, kept_at}
use Rattle.look_promises.proofs.Copies.ThreeCopies.{ThreeCopies, three_copies, hd_of}
use Rattle.look_promises.proofs.Looked.Adopted.{words_kept}
use Rattle.look_promises.proofs.Looked.Kinds.{one_kind, same_as, same_back, same_on}
use Rattle.look_promises.proofs.Looked.Rises.{first_at, units_then}
use Rattle.look_promises.proofs.Kept.Then.{first_here, counted_least}
use Rattle.look_promises.proofs.Amounts.Calls.{no_moving}
use Rattle.look_promises.proofs.Lives.Grows.{Grows, grows_on, grows_over, grows_again}

-- what is read is in a state: each histogram, and no fewer units of each key
abbrev pub IsHeldAt : (run : Run) → ℕ → Reading → Type 0
IsHeldAt run m reading = (g : Histogram) → Contains reading.hists g
    → ((kind : Spec) × (x : ℕ) × IsFirst (kept_at run m).anatomy.records g.name kind x × SameSpec g.spec kind)
    × ((key : ℤ) → units_read g key ≤ tally_units (all_counted (run.at m).actors) g.name key)

-- a state is in what is read
abbrev pub HasAllAt : (run : Run) → ℕ → Reading → Type 0
HasAllAt run m reading = (name : List ℕ) (kind : Spec) (x : ℕ) → IsFirst (kept_at run m).anatomy.records name kind x
    → (h : Histogram) × Contains reading.hists h × (h.name ≡ name) × SameSpec h.spec kind
    × ((key : ℤ) → tally_units (all_counted (run.at m).actors) h.name key ≤ units_read h key)

-- ---- a look

module _ (copies : ThreeCopies) (image : List ℕ) (look : IsLook (hd_of copies) copies.one copies.two copies.three image) (reading : Reading)
    (is : IsReading image (head_of image) reading) (m : ℕ) (le : m ≤ copies.last) where
  open copies use {run, shape, opened, moments}

  -- it is in a state after its second copy
  pub held_at : ((i : ℕ) → i < shape.size → moments.two i ≤ m) → IsHeldAt run m reading
  held_at behind g there =
      let reads = words_read shape opened image reading (words_kept copies image look) is in
      let (kind, its, same) = reads.1.given g there in (
        (kind, g.reference, first_at copies image look m le behind g.name kind g.reference its, same),
        λ key.
            let units = (reads.2 g there).units key in
            let most = units_then copies image look m le behind g.name key kind g.reference its in
            omega (arith, units, most),
      )

  -- and has all of a state before it
  pub has_all_at : ((i : ℕ) → i < shape.size → m ≤ moments.two i) → HasAllAt run m reading
  has_all_at before name kind x its =
      let reads = words_read shape opened image reading (words_kept copies image look) is in
      let here = first_here copies image look m le before name kind x its in
      let (h, among, named) = reads.1.read name kind x here in
      let (sort, its_again, same) = reads.1.given h among in
      let one = one_kind _ name h.name kind sort x h.reference named here its_again in (
        h,
        among,
        named,
        same_as h.spec sort kind same (sym one),
        λ key.
            let units = (reads.2 h among).units key in
            let least = counted_least copies image look m le before h.name key in
            omega (arith, units, least),
      )

-- ---- a life

module _ (shape : Dimensions) (life : Life shape) where
  abbrev pub run : Run
  run = run_of shape life.opened life.at life.runs

  module _ (reading : Reading) (read : IsReadIn life reading) where
    open read use {first, last, moments, one, two, three, image, loaded, in_time, look, is}

    -- the copies of a look, up to the end of the life
    abbrev pub copies : ThreeCopies
    copies = three_copies shape life.opened life.at first life.stop moments one two three life.runs (record {
      copy_one = loaded.copy_one;
      copy_two = loaded.copy_two;
      copy_three = loaded.copy_three;
      ordered = record {
        begins = loaded.ordered.begins;
        second = loaded.ordered.second;
        third = loaded.ordered.third;
        ends = λ i below. let ends = loaded.ordered.ends i below in
            let early = in_time in omega (arith, ends, early);
      };
    })

    pub held_at_end : IsHeldAt run life.stop reading
    held_at_end = held_at copies image look reading is life.stop (omega arith) (λ i below.
        let after = loaded.ordered.third i i below below in
        let ends = loaded.ordered.ends i below in
        let early = in_time in
        omega (arith, after, ends, early))

    pub has_all_at_start : HasAllAt run 0 reading
    has_all_at_start = has_all_at copies image look reading is 0 (omega arith) (λ i below. omega arith)

  -- its words have all of its last state
  left_has_all : (left : Reading) → IsReading (words_left life) (head_of (words_left life)) left → HasAllAt run life.stop left
  left_has_all left is name kind x its =
      let kept = kept_at run life.stop in
      let reads = stopped_reads shape life.opened (life.at life.stop) left kept is in
      let (h, among, named) = reads.2.read name kind x its in
      let (sort, its_again, same) = reads.2.given h among in
      let one = one_kind _ name h.name kind sort x h.reference named its its_again in (
        h,
        among,
        named,
        same_as h.spec sort kind same (sym one),
        λ key.
            let units = (reads.3 h among).0.counted key in
            let still = no_moving shape life.opened (life.at life.stop) kept (kept.same.0 ∙ life.runs.version) h.name key in
            omega (arith, units, still),
      )

  pub rises_to_the_stop : (reading left : Reading) → IsReadIn life reading → IsReading (words_left life) (head_of (words_left life)) left → IsBeyond reading left
  rises_to_the_stop reading left read is g there =
      let ((kind, x, its, same), most) = held_at_end reading read g there in
      let (h, among, named, alike, least) = left_has_all left is g.name kind x its in (
        h,
        among,
        named,
        same_on g.spec kind h.spec same (same_back h.spec kind alike),
        λ key.
            let up = most key in
            let on = least key in
            let tally : tally_units (all_counted (life.at life.stop).actors) h.name key ≡ tally_units (all_counted (life.at life.stop).actors) g.name key =
            ap (λ (name : List ℕ). tally_units (all_counted (life.at life.stop).actors) name key) named in
            omega (arith, up, on, tally),
      )

pub readings_rise_to_the_stop : ReadingsRiseToTheStop
readings_rise_to_the_stop shape life reading left read is = rises_to_the_stop shape life reading left read is

-- ---- lives

module _ (shape : Dimensions) (lives : ℕ → Life shape) (follow : FollowEachOther lives) where
  abbrev pub run_at : ℕ → Run
  run_at n = run shape (lives n)

  abbrev pub first_of : (n : ℕ) → Invariant shape (lives n).opened ((lives n).at 0)
  first_of n = kept_at (run_at n) 0

  abbrev pub last_of : (n : ℕ) → Invariant shape (lives n).opened ((lives n).at (lives n).stop)
  last_of n = kept_at (run_at n) (lives n).stop

  -- the next life begins with what the one before left
  over : (n : ℕ) → Grows shape (lives n).opened (lives (suc n)).opened ((lives n).at (lives n).stop) ((lives (suc n)).at 0) (last_of n) (first_of (suc n))
  over n =
      grows_over shape (lives n).opened (lives (suc n)).opened ((lives n).at (lives n).stop) ((lives (suc n)).at 0) (last_of n) (first_of (suc n))
      ((last_of n).same.0 ∙ (lives n).runs.version) ((first_of (suc n)).same.0 ∙ (lives (suc n)).runs.version) (follow n)

  abbrev Leads : ℕ → ℕ → Type 0
  Leads i j = Grows shape (lives i).opened (lives (suc j)).opened ((lives i).at (lives i).stop) ((lives (suc j)).at 0) (last_of i) (first_of (suc j))

  -- and so does each later one
  pub across : (i j : ℕ) → i ≤ j → Leads i j
  across i zero le = let same : i ≡ 0 = omega (arith, le) in subst (λ (k : ℕ). Leads k 0) (sym same) (over 0)
  across i (suc j) le = dite (ℕ_discrete i (suc j))
      (λ same. subst (λ (k : ℕ). Leads k (suc j)) (sym same) (over (suc j)))
      (λ ne.
      grows_again shape (lives i).opened (lives (suc j)).opened (lives (suc (suc j))).opened ((lives i).at (lives i).stop) ((lives (suc j)).at 0)
      ((lives (suc (suc j))).at 0) (last_of i) (first_of (suc j)) (first_of (suc (suc j))) (across i j (omega (arith, le, ne)))
      (grows_again shape (lives (suc j)).opened (lives (suc j)).opened (lives (suc (suc j))).opened ((lives (suc j)).at 0)
      ((lives (suc j)).at (lives (suc j)).stop) ((lives (suc (suc j))).at 0) (first_of (suc j)) (last_of (suc j)) (first_of (suc (suc j)))
      (grows_on (run_at (suc j)) 0 (lives (suc j)).stop (omega arith)) (over (suc j))))

  beyond_by : (i j : ℕ) → i ≤ j → (reading beyond : Reading) → IsReadIn (lives i) reading → IsReadIn (lives (suc j)) beyond → IsBeyond reading beyond
  beyond_by i j le reading beyond read read_later g there =
      let ((kind, x, its, same), most) = held_at_end shape (lives i) reading read g there in
      let ((sort, y, later, same_sort), more) = across i j le g.name kind x its in
      let (h, among, named, alike, least) = has_all_at_start shape (lives (suc j)) beyond read_later g.name sort y later in (
        h,
        among,
        named,
        same_on g.spec kind h.spec same (same_on kind sort h.spec same_sort (same_back h.spec sort alike)),
        λ key.
            let up = most key in
            let on = more key in
            let rest = least key in
            let tally : tally_units (all_counted ((lives (suc j)).at 0).actors) h.name key ≡ tally_units (all_counted ((lives (suc j)).at 0).actors) g.name key =
            ap (λ (name : List ℕ). tally_units (all_counted ((lives (suc j)).at 0).actors) name key) named in
            omega (arith, up, on, rest, tally),
      )

pub readings_rise_across_restarts : ReadingsRiseAcrossRestarts
readings_rise_across_restarts shape lives earlier later reading beyond follow before read read_later =
    let is : later ≡ suc (later - 1) = omega (arith, before) in
    beyond_by shape lives follow earlier (later - 1) (omega (arith, before)) reading beyond read (subst (λ (j : ℕ). IsReadIn (lives j) beyond) is read_later)
