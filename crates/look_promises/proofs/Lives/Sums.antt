-- If no amount of a name is negative, its sum rises across restarts: each life begins with the sum that the one before left.
use Rattle.segment_invariant.proofs.Prelude.Std.{◌≡◌, ℕ, zero, suc, ◌+◌, ◌-◌, ◌<◌, ◌≤◌, ℤ, List, flat_map, refl, sym, ap, subst, ◌∙◌, arith, dite, ℕ_discrete, Contains}
use Rattle.segment_invariant.proofs.Prelude.Machine.{Dimensions, Histogram, Reading, Spec, all_summed, tally_sum}
use Rattle.segment_invariant.proofs.Prelude.Invariant.{IsFirst}
use Rattle.std.specs.Prelude.{◌≤ℤ◌}
use Rattle.std.proofs.lemmas.Int.{ints}
use Rattle.segment_promises.specs.Reads.{begun_of}
use Rattle.look_promises.specs.Lives.{Life, FollowEachOther, IsReadIn, SumsRiseAcrossRestarts}
use Rattle.look_promises.specs.Sums.{NoneNegative}
use Rattle.look_promises.proofs.Moments.Runs.{kept_at}
use Rattle.look_promises.proofs.Copies.Named.{two_within}
use Rattle.look_promises.proofs.Kept.Sums.{says_its_sums, sum_inside}
use Rattle.look_promises.proofs.Kept.SumsRise.{sums_rise}
use Rattle.look_promises.proofs.Lives.Beyond.{copies, held_at_end, run_at, first_of, last_of, across}
use Rattle.look_promises.proofs.Lives.Grows.{grows_on, same_sums}

module _ (shape : Dimensions) (lives : ℕ → Life shape) (follow : FollowEachOther lives) (name : List ℕ) where
  abbrev at_start : ℕ → ℤ
  at_start n = tally_sum (all_summed ((lives n).at 0).actors) name

  abbrev at_stop : ℕ → ℤ
  at_stop n = tally_sum (all_summed ((lives n).at (lives n).stop).actors) name

  -- a life begins with the sum that the one before left
  over : (n : ℕ) (kind : Spec) (x : ℕ) → IsFirst (last_of shape lives follow n).anatomy.records name kind x → at_stop n ≡ at_start (suc n)
  over n kind x its =
      let was = last_of shape lives follow n in
      let is = first_of shape lives follow (suc n) in
      same_sums shape (lives n).opened (lives (suc n)).opened ((lives n).at (lives n).stop) ((lives (suc n)).at 0) was is
      (was.same.0 ∙ (lives n).runs.version) (is.same.0 ∙ (lives (suc n)).runs.version) (follow n) name kind x its

  abbrev HasNone : ℕ → Type 0
  HasNone n = NoneNegative (flat_map begun_of ((lives n).at (lives n).stop).actors) name

  -- and its sum rises
  across_sums : (i j : ℕ) → i ≤ j → (kind : Spec) (x : ℕ) → ((k : ℕ) → k ≤ j → HasNone k) → IsFirst (last_of shape lives follow i).anatomy.records name kind x
      → at_stop i ≤ℤ at_start (suc j)
  across_sums i zero le kind x higher its =
      let none : i ≡ 0 = omega (arith, le) in
      let same = over 0 kind x (subst (λ (k : ℕ). IsFirst (last_of shape lives follow k).anatomy.records name kind x) none its) in
      let mine = ap at_stop none in
      omega (arith, ints, same, mine)
  across_sums i (suc j) le kind x higher its = dite (ℕ_discrete i (suc j))
      (λ is.
      let same = over (suc j) kind x (subst (λ (k : ℕ). IsFirst (last_of shape lives follow k).anatomy.records name kind x) is its) in
      let mine = ap at_stop is in
      omega (arith, ints, same, mine))
      (λ ne.
      let before = across_sums i j (omega (arith, le, ne)) kind x (λ k few. higher k (omega (arith, few))) its in
      let ((sort, y, began, same_sort), counted) = across shape lives follow i j (omega (arith, le, ne)) name kind x its in
      let ((last, z, there, same_last), more) = grows_on (run_at shape lives follow (suc j)) 0 (lives (suc j)).stop (omega arith) name sort y began in
      let up = sums_rise (run_at shape lives follow (suc j)) name (lives (suc j)).stop (higher (suc j) (omega arith)) 0 (lives (suc j)).stop (omega arith) (omega arith) in
      let same = over (suc j) last z there in
      omega (arith, ints, before, up, same))

  by_number : (i j : ℕ) → i ≤ j → (earlier beyond : Reading) (g h : Histogram) → IsReadIn (lives i) earlier → IsReadIn (lives (suc j)) beyond
      → Contains earlier.hists g → Contains beyond.hists h → g.name ≡ name → h.name ≡ name → ((k : ℕ) → k ≤ suc j → HasNone k) → g.sum ≤ℤ h.sum
  by_number i j le earlier beyond g h read read_later there there_later named named_later higher =
      let first_copies = copies shape (lives i) earlier read in
      let later_copies = copies shape (lives (suc j)) beyond read_later in
      let inside = sum_inside first_copies read.image read.look earlier read.is g there in
      let inside_later = sum_inside later_copies read_later.image read_later.look beyond read_later.is h there_later in
      let sum = (says_its_sums first_copies read.image read.look earlier read.is g there).sum in
      let sum_later = (says_its_sums later_copies read_later.image read_later.look beyond read_later.is h there_later).sum in
      let upto = (two_within first_copies (g.reference + 11) inside).1 in
      let upto_later = (two_within later_copies (h.reference + 11) inside_later).1 in
      let rest = sums_rise (run_at shape lives follow i) name (lives i).stop (higher i (omega (arith, le))) (read.moments.two (g.reference + 11)) (lives i).stop upto (omega arith) in
      let ((kind, x, its, same), most) = held_at_end shape (lives i) earlier read g there in
      let between = across_sums i j le kind x (λ k few. higher k (omega (arith, few)))
      (subst (λ (name : List ℕ). IsFirst (last_of shape lives follow i).anatomy.records name kind x) named its) in
      let first = sums_rise (run_at shape lives follow (suc j)) name (lives (suc j)).stop (higher (suc j) (omega arith)) 0
      (read_later.moments.two (h.reference + 11)) (omega arith) upto_later in
      let mine = ap (tally_sum (all_summed ((lives i).at (read.moments.two (g.reference + 11))).actors)) named in
      let later = ap (tally_sum (all_summed ((lives (suc j)).at (read_later.moments.two (h.reference + 11))).actors)) named_later in
      omega (arith, ints, sum, sum_later, rest, between, first, mine, later)

pub sums_rise_across_restarts : SumsRiseAcrossRestarts
sums_rise_across_restarts shape lives earlier later reading beyond g h follow before read read_later there there_later named higher =
    let is : later ≡ suc (later - 1) = omega (arith, before) in
    by_number shape lives follow g.name earlier (later - 1) (omega (arith, before)) reading beyond g h read (subst (λ (j : ℕ). IsReadIn (lives j) beyond) is read_later) there there_later
    refl named (λ k few. higher k (omega (arith, few, is)))
