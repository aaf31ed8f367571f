use Rattle.std.proofs.Common.{◌≡◌, ◌∙◌, List, ℕ, Bor, ap, map, nat_cmp, rules, subst, IsPermutation}
use Rattle.std.specs.List.{filter}
use Rattle.std.specs.Cmp.Lexicographic.{slice_cmp, nat_list_cmp_total}
use Rattle.std.proofs.lemmas.Fn.{always_returns_same}
use Rattle.std.proofs.lemmas.List.{take_all}
use Rattle.std.proofs.lemmas.List.Sorted.{ranks_by, IsPermutation-sym, IsPermutation-map}
use Rattle.image_reader.specs.Views.{histogram_view}
use Rattle.image_reader.specs.declared.reading.HistReading.{HistReading}
use Rattle.reading_shows.specs.Choice.{is_chosen}
use Rattle.reading_texts.proofs.Ascending.{IsSortedByKey-map}
use Rattle.reading_shows.proofs.choice.chosen.Goals as goal

pub returns : goal.returns
returns c =
    let sort = c.in_ok-sort_by.ensures in
    let listed : List (Bor HistReading) = c.loop-hist.hists.items in
    let sorted : List (Bor HistReading) = c.sort_by.new.self.items in
    let all : List HistReading = c.args.reading.now.hists.items in
    let moved = IsPermutation-map (λ one. histogram_view one.now) sorted listed (IsPermutation-sym listed sorted sort.permutation) in
    let ended = rw c.deref-hist-items.ensures.value at c.loop-hist-test.false in
    let same : map (λ one. histogram_view one.now) listed ≡ filter (is_chosen c.args.choice.now) (map histogram_view all) =
    c.loop-hist.invariant ∙ ap (λ some. filter (is_chosen c.args.choice.now) (map histogram_view some)) (take_all c.loop-hist.hist-index all ended) in
    let name : Bor HistReading → List ℕ = λ one. one.now.name.items in record {
      same = subst (IsPermutation (map (λ one. histogram_view one.now) sorted)) same moved;
      ascending = IsSortedByKey-map (λ one. histogram_view one.now) (λ hist. hist.name) (slice_cmp nat_cmp) sorted
          (sort.sorted _ (ranks_by nat_list_cmp_total name) (always_returns_same _ _ _ (λ a r f k. search rules)));
    }
