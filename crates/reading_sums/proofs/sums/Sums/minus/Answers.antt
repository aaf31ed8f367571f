-- What was counted in the histograms since.
use Rattle.std.proofs.Common.{List, map, ℕ}
use Rattle.std.specs.Bool.{⊤}
use Rattle.std.proofs.lemmas.Result.{err_from_is_err_and}
use Rattle.reading_sums.specs.Since.{AreSince, HasFallen, HasChangedSpec, HasTooMany, IsGrown, IsReason}
use Rattle.reading_sums.specs.Views.{part_of}
use Rattle.reading_sums.specs.Whole.{AreWhole}
use Rattle.reading_sums.proofs.HistsGrown.{same-lists}
use Rattle.reading_sums.proofs.HistsWalk.{reasons}
use Rattle.reading_sums.proofs.sums.Sums.minus.Goals as goal

pub returns-clause-since : goal.returns-clause-since
returns-clause-since c =
    same-lists (λ a b. AreSince (map part_of a) (map part_of b) (map part_of c.in_ok-hists.hists.items)) _ _ _ _ c.deref.ensures.value c.deref-2.ensures.value
    c.in_ok-hists.ensures.since

pub returns-clause-well_formed : goal.returns-clause-well_formed
returns-clause-well_formed c =
    same-lists (λ a b. AreWhole a → AreWhole c.in_ok-hists.hists.items) _ _ _ _ c.deref.ensures.value c.deref-2.ensures.value c.in_ok-hists.ensures.whole

pub returns-clause-only : goal.returns-clause-only
returns-clause-only c =
    same-lists (λ a b. AreWhole a → AreWhole b → IsGrown a b) _ _ _ _ c.deref.ensures.value c.deref-2.ensures.value c.in_ok-hists.ensures.grown

pub returns-in_err-hists-clause-fell : goal.returns-in_err-hists-clause-fell
returns-in_err-hists-clause-fell c =
    let p = err_from_is_err_and c.from_residual.result c.from_residual.ensures.1 in
    let laters = c.args.self.now.hists.items in
    let earliers = c.args.earlier.now.hists.items in
    let fault = c.in_err-hists.field-0.0 in
    rw (p.1, p.2) (λ one other.
    reasons fault (HasTooMany laters earliers) ⊤ (HasFallen laters earliers) (HasFallen laters earliers) (HasChangedSpec laters earliers) (λ (name : List ℕ). ⊤) (λ is. tt) (λ name is. is) (λ name is. tt)
    (same-lists (λ a b. AreWhole a → AreWhole b → IsReason a b fault) _ _ _ _ c.deref.ensures.value c.deref-2.ensures.value c.in_err-hists.ensures.refused one other))

pub returns-in_err-hists-clause-other_spec : goal.returns-in_err-hists-clause-other_spec
returns-in_err-hists-clause-other_spec c =
    let p = err_from_is_err_and c.from_residual.result c.from_residual.ensures.1 in
    let laters = c.args.self.now.hists.items in
    let earliers = c.args.earlier.now.hists.items in
    let fault = c.in_err-hists.field-0.0 in
    rw (p.1, p.2) (λ one other.
    reasons fault (HasTooMany laters earliers) ⊤ (HasFallen laters earliers) (λ (name : List ℕ). ⊤) (HasChangedSpec laters earliers) (HasChangedSpec laters earliers) (λ is. tt) (λ name is. tt) (λ name is. is)
    (same-lists (λ a b. AreWhole a → AreWhole b → IsReason a b fault) _ _ _ _ c.deref.ensures.value c.deref-2.ensures.value c.in_err-hists.ensures.refused one other))

pub returns-in_err-hists-clause-too_many : goal.returns-in_err-hists-clause-too_many
returns-in_err-hists-clause-too_many c =
    let p = err_from_is_err_and c.from_residual.result c.from_residual.ensures.1 in
    let laters = c.args.self.now.hists.items in
    let earliers = c.args.earlier.now.hists.items in
    let fault = c.in_err-hists.field-0.0 in
    rw (p.1, p.2) (λ one other.
    reasons fault (HasTooMany laters earliers) (HasTooMany laters earliers) (HasFallen laters earliers) (λ (name : List ℕ). ⊤) (HasChangedSpec laters earliers) (λ (name : List ℕ). ⊤) (λ is. is) (λ name is. tt) (λ name is. tt)
    (same-lists (λ a b. AreWhole a → AreWhole b → IsReason a b fault) _ _ _ _ c.deref.ensures.value c.deref-2.ensures.value c.in_err-hists.ensures.refused one other))
