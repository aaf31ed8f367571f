use Rattle.std.proofs.Common.{◌≡◌, ◌∙◌, ◌++◌, ap, sym, codes, subst, true, false, length, take, drop, ◌-◌, Some}
use Rattle.std.proofs.lemmas.Bool.{false≢true}
use Rattle.std.proofs.lemmas.Bool.Decides.{Decides-eqb}
use Rattle.std.proofs.lemmas.List.{append_cancel_right, take-append-drop}
use Rattle.std.proofs.lemmas.Slice.Eq.{strip_suffix_is}
use Rattle.recording_folders.specs.Names.{IsRandom, IsProcess, IsProcessAndRandom}
use Rattle.recording_folders.proofs.Hyphen.{front_of, back_of}
use Rattle.recording_folders.proofs.random.is_process_and_random.Goals as goal

pub returns-then-is_process : goal.returns-then-is_process
returns-then-is_process c =
    let front : c.split_at.result.0.now ≡ c.in-Some.process.now ++ codes "-" =
    strip_suffix_is Decides-eqb c.split_at.result.0.now (codes "-") (Some c.in-Some.process) c.in-Some.ensures.cases in (
      λ is_random. record {
        process = c.in-Some.process.now;
        random = c.split_at.result.1.now;
        is = sym (take-append-drop (length c.args.text.now - 16) c.args.text.now)
            ∙ ap (λ s. s ++ drop (length c.args.text.now - 16) c.args.text.now) (sym c.split_at.ensures.front ∙ front)
            ∙ ap (λ s. c.in-Some.process.now ++ codes "-" ++ s) (sym c.split_at.ensures.back);
        number = c.is_process.ensures.0 c.if-is_process.true;
        digits = c.is_random.ensures.0 is_random;
      },
      λ h. c.is_random.ensures.1
          (subst IsRandom (sym (back_of h.process h.random c.args.text.now h.digits.0 h.is) ∙ sym c.split_at.ensures.back) h.digits),
    )

pub returns-else-is_process : goal.returns-else-is_process
returns-else-is_process c =
    let front : c.split_at.result.0.now ≡ c.in-Some.process.now ++ codes "-" =
    strip_suffix_is Decides-eqb c.split_at.result.0.now (codes "-") (Some c.in-Some.process) c.in-Some.ensures.cases in (
      λ is_process. absurd (false≢true (sym c.if-is_process.false ∙ is_process)),
      λ h. c.is_process.ensures.1
          (
          subst IsProcess
          (
          append_cancel_right h.process c.in-Some.process.now (codes "-")
          (sym (front_of h.process h.random c.args.text.now h.digits.0 h.is) ∙ sym c.split_at.ensures.front ∙ front)
          )
          h.number
          ),
    )
