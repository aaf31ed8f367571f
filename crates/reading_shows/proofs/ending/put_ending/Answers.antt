use Rattle.reading_texts.proofs.Adding.{written-both}
use Rattle.reading_shows.proofs.ending.put_ending.Goals as goal

pub returns : goal.returns
returns c =
    let bad = rw c.as_slice.ensures.value at c.in_ok-put_all_bad.ensures in
    let flags = written-both _ _ _ (written-both _ _ _ c.in_ok-put_none.ensures c.in_ok-put_flag.ensures) c.in_ok-put_flag-2.ensures in
    written-both _ _ _ (written-both _ _ _ flags bad) c.in_ok-put_stopped.ensures
