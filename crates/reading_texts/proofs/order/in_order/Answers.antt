use Rattle.std.proofs.Common.{◌≡◌, ◌∙◌, List, ℕ, Bor, ap, map, nat_cmp, rules, subst, sym, IsPermutation}
use Rattle.std.specs.Cmp.Lexicographic.{slice_cmp, nat_list_cmp_total}
use Rattle.std.proofs.lemmas.Fn.{always_returns_same}
use Rattle.std.proofs.lemmas.Simd.{map-map}
use Rattle.std.proofs.lemmas.List.Sorted.{ranks_by, IsPermutation-sym, IsPermutation-map}
use Rattle.image_reader.specs.Views.{histogram_view}
use Rattle.image_reader.specs.declared.reading.HistReading.{HistReading}
use Rattle.reading_texts.proofs.Ascending.{IsSortedByKey-map}
use Rattle.reading_texts.proofs.order.in_order.Goals as goal

pub returns : goal.returns
returns c =
    let sort = c.in_ok-sort_by.ensures in
    let listed : List (Bor HistReading) = c.in_ok-hists.hists.items in
    let sorted : List (Bor HistReading) = c.sort_by.new.self.items in
    let moved = IsPermutation-map (λ one. histogram_view one.now) sorted listed (IsPermutation-sym listed sorted sort.permutation) in
    let collected : map (λ one. one.now) listed ≡ c.args.reading.now.hists.items = search rules in
    let same : map (λ one. histogram_view one.now) listed ≡ map histogram_view c.args.reading.now.hists.items =
    sym (map-map histogram_view (λ one. one.now) listed) ∙ ap (map histogram_view) collected in
    let name : Bor HistReading → List ℕ = λ one. one.now.name.items in record {
      same = subst (IsPermutation (map (λ one. histogram_view one.now) sorted)) same moved;
      ascending = IsSortedByKey-map (λ one. histogram_view one.now) (λ hist. hist.name) (slice_cmp nat_cmp) sorted
          (sort.sorted _ (ranks_by nat_list_cmp_total name) (always_returns_same _ _ _ (λ a r f k. search rules)));
    }
