use Rattle.std.proofs.Common.{rules, ℕ, List}
use Rattle.std.proofs.lemmas.Cmp.{nat_list_cmp_total}
use Rattle.std.proofs.lemmas.Fn.{always_returns_same}
use Rattle.std.proofs.lemmas.List.Sorted.{ranks_by}
use Rattle.image_reader.specs.declared.reading.HistReading.{HistReading}
use Rattle.segment_merge.proofs.marked.by_name.Goals as goal

pub returns-clause-sorted : goal.returns-clause-sorted
returns-clause-sorted c =
    let sort = c.in_ok-sort_by.ensures in
    let name : HistReading → List ℕ = λ one. one.name.items in
    sort.sorted _ (ranks_by nat_list_cmp_total name) (always_returns_same _ _ _ (λ a r f k. search rules))
