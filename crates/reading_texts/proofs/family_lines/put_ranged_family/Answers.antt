use Rattle.reading_texts.proofs.Adding.{written-both}
use Rattle.reading_texts.proofs.family_lines.put_ranged_family.Goals as goal

pub returns : goal.returns
returns c = written-both _ _ _ c.in_ok-put_heading.ensures c.in_ok-put_all_lines.ensures
