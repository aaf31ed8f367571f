use Rattle.std.proofs.Common.{◌≡◌, ◌++◌, map, take}
use Rattle.std.specs.List.{flat_map, enumerate_from}
use Rattle.image_reader.specs.Views.{histogram_view}
use Rattle.reading_shows.specs.PageLists.{row_of_numbered}
use Rattle.reading_shows.proofs.page_lists.put_list_rows.Given as goal

abbrev pub invariant-loop-i : goal.invariant-loop-i
invariant-loop-i l =
    l.text.items ≡ l.initial.text.items ++ flat_map row_of_numbered (take l.i (enumerate_from 0 (map (λ hist. histogram_view hist.now) l.hists)))
