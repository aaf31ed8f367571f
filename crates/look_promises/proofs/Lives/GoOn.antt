-- The words that a life left open another one: they may be adopted, and the opener alone is a run that rests.
use Rattle.segment_invariant.proofs.Prelude.Std.{◌≡◌, ℕ, ◌^◌, ◌<◌, List, All, refl, sym, subst, ◌∙◌}
use Rattle.segment_invariant.proofs.Prelude.Machine.{Dimensions, State, head_of, reading_along}
use Rattle.segment_invariant.proofs.Prelude.Invariant.{Anatomy, Invariant, layout_of, order_of}
use Rattle.segment_machine.specs.Reached.{started}
use Rattle.segment_invariant.proofs.Frames.LaidOut.{laid_out}
use Rattle.segment_promises.specs.Adoption.{adopted}
use Rattle.segment_promises.proofs.Adopting.Kept.{kept_are_adoptable}
use Rattle.segment_promises.proofs.Adopting.Opened.Opens.{adoption_opens}
use Rattle.segment_promises.proofs.Readings.Heads.{shape_is, version_is, version_shown}
use Rattle.segment_promises.proofs.Readings.Lists.{list_laid}
use Rattle.look_promises.specs.Lives.{Life, LivesGoOn, words_left}
use Rattle.look_promises.proofs.Moments.Runs.{run_of, kept_at}

pub lives_go_on : LivesGoOn
lives_go_on shape life cursors narrow intact =
    let left : State = life.at life.stop in
    let kept = kept_at (run_of shape life.opened life.at life.runs) life.stop in
    let references : List ℕ = order_of kept.anatomy in
    let listed = list_laid shape life.opened left.words (laid_out shape life.opened left kept) in
    let adoptable = kept_are_adoptable shape life.opened left references kept life.runs.version intact listed in
    let (opened, shown, order, opens, opening, words) =
    adoption_opens left.words references (reading_along left.words (head_of left.words) references) cursors narrow listed refl adoptable in
    let version : opened.version ≡ 2 =
    sym (version_shown (head_of left.words).shape left.words opened shown) ∙ (version_is shape life.opened left kept ∙ (kept.same.0 ∙ life.runs.version)) in (
      record {
        opened = opened;
        at = λ n. adopted left.words references (reading_along left.words (head_of left.words) references) cursors;
        stop = 0;
        runs = record {
          version = version;
          kept = subst (λ (s : Dimensions). Invariant s opened (adopted left.words references (reading_along left.words (head_of left.words) references) cursors))
              (shape_is shape life.opened left kept) opens;
          goes_on = λ n. started;
        };
      },
      (references, reading_along left.words (head_of left.words) references, listed, refl, refl),
    )
