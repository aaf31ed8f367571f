use Rattle.std.proofs.Common.{◌≡◌, ◌∙◌, List, ℕ, [], ◌∷◌, ◌++◌, ap, map, append_assoc}
use Rattle.std.specs.Prelude.{codes}
use Rattle.std.proofs.lemmas.List.{append-nil}
use Rattle.reading_texts.specs.Labels.{label_view}
use Rattle.reading_texts.specs.Exporting.{joined, heading_text, sample_text, flag_sample}
use Rattle.reading_texts.proofs.Adding.{written-both}
use Rattle.reading_texts.proofs.exporting.put_flags.Goals as goal

three : (a b c : List ℕ) → (a ++ b) ++ c ≡ a ++ (b ++ (c ++ []))
three a b c = simp (append_assoc, append-nil)

pub returns : goal.returns
returns c =
    let prefix = c.args.prefix.now in
    let line_labels = map label_view c.args.line_labels.now in
    let name = c.in_ok-put_parts.ensures ∙ ap (λ s. s ++ joined (prefix ∷ codes "_segment_flag" ∷ [])) c.new-name.ensures.items in
    let heading = rw (c.deref.ensures.value, name) at c.in_ok-put_heading.ensures in
    let first = rw (c.deref-2.ensures.value, name) at c.in_ok-put_flag.ensures in
    let second = rw (c.deref-3.ensures.value, name) at c.in_ok-put_flag-2.ensures in
    let flag = flag_sample (prefix ++ codes "_segment_flag") line_labels in
    let before : List ℕ = c.args.text.now.items in
    let head : List ℕ = heading_text (prefix ++ codes "_segment_flag") (codes "Whether a flag of the segment is set.") (codes "gauge") in
    let corrupt : List ℕ = sample_text (flag (codes "corrupt") c.args.reading.now.corrupt) in
    let full : List ℕ = sample_text (flag (codes "full") c.args.reading.now.full) in
    written-both before (head ++ corrupt) full (written-both before head corrupt heading first) second
    ∙ ap (λ s. c.args.text.now.items ++ s)
    (three head corrupt full)
