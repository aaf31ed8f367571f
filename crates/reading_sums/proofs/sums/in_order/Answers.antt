-- A sort only moves.
use Rattle.std.proofs.Common.{◌≡◌, ◌∙◌, List, ℕ, Bor, ap, map, rules, subst, sym, IsPermutation}
use Rattle.std.specs.Cmp.Lexicographic.{nat_list_cmp_total}
use Rattle.std.proofs.lemmas.Fn.{always_returns_same}
use Rattle.std.proofs.lemmas.Simd.{map-map}
use Rattle.std.proofs.lemmas.List.Sorted.{ranks_by, IsPermutation-sym, IsPermutation-map}
use Rattle.image_reader.specs.Views.{histogram_view}
use Rattle.image_reader.specs.declared.reading.HistReading.{HistReading}
use Rattle.reading_sums.proofs.sums.in_order.Goals as goal

pub returns-clause-same : goal.returns-clause-same
returns-clause-same c =
    let listed : List (Bor HistReading) = c.in_ok-ordered.ordered.items in
    let sorted : List (Bor HistReading) = c.sort_by.new.self.items in
    let moved = IsPermutation-map (λ one. histogram_view one.now) sorted listed (IsPermutation-sym listed sorted c.in_ok-sort_by.ensures.permutation) in
    let collected : map (λ one. one.now) listed ≡ c.args.hists.now = search rules in
    let same : map (λ one. histogram_view one.now) listed ≡ map histogram_view c.args.hists.now =
    sym (map-map histogram_view (λ one. one.now) listed) ∙ ap (map histogram_view) collected in
    subst (IsPermutation (map (λ one. histogram_view one.now) sorted)) same moved

pub returns-clause-ordered : goal.returns-clause-ordered
returns-clause-ordered c =
    let name : Bor HistReading → List ℕ = λ one. one.now.name.items in
    c.in_ok-sort_by.ensures.sorted _ (ranks_by nat_list_cmp_total name) (always_returns_same _ _ _ (λ a r f k. search rules))
