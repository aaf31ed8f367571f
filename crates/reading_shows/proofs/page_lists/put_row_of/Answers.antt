use Rattle.std.proofs.Common.{◌≡◌, ◌++◌, subst}
use Rattle.std.specs.Prelude.{OnOk}
use Rattle.reading_shows.specs.PageLists.{list_row}
use Rattle.reading_shows.proofs.page_lists.put_row_of.Goals as goal

pub returns : goal.returns
returns c =
    subst (λ line. OnOk c.put_list_row.result (c.put_list_row.new.text.items ≡ c.args.text.now.items ++ list_row c.args.number line)) c.in_ok-entry.ensures c.put_list_row.ensures
