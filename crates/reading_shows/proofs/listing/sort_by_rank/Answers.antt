use Rattle.std.proofs.Common.{List, ℕ, nat_cmp, rules}
use Rattle.std.specs.Cmp.Lexicographic.{slice_cmp, nat_list_cmp_total}
use Rattle.std.proofs.lemmas.Fn.{always_returns_same}
use Rattle.std.proofs.lemmas.List.Sorted.{ranks_by, IsPermutation-map}
use Rattle.reading_texts.proofs.Ascending.{IsSortedByKey-map}
use Rattle.reading_shows.specs.declared.listing.ListEntry.{ListEntry}
use Rattle.reading_shows.specs.ListViews.{entry_view}
use Rattle.reading_shows.proofs.listing.sort_by_rank.Goals as goal

pub returns : goal.returns
returns c =
    let sort = c.in_ok-sort_by.ensures in
    let found : List ListEntry = c.args.entries.now.items in
    let sorted : List ListEntry = c.sort_by.new.self.items in
    let rank : ListEntry → List ℕ = λ entry. entry.rank.items in record {
      same = IsPermutation-map entry_view found sorted sort.permutation;
      ascending = IsSortedByKey-map entry_view (λ line. line.rank) (slice_cmp nat_cmp) sorted
          (sort.sorted _ (ranks_by nat_list_cmp_total rank) (always_returns_same _ _ _ (λ a r f k. search rules)));
    }
