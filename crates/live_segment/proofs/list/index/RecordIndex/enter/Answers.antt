use Rattle.std.proofs.Common.{ℕ, ◌+◌, ◌++◌, ◌∷◌, [], Option, ap, sym, subst, ◌∙◌}
use Rattle.list_index.specs.declared.firsts.Firsts.{Firsts}
use Rattle.list_index.specs.Firsts.{Holds, is_grouping}
use Rattle.list_index.proofs.Meeting.{holds_more, holds_passed}
use Rattle.live_segment.specs.declared.list.index.RecordIndex.{RecordIndex}
use Rattle.live_segment.proofs.list.index.RecordIndex.enter.Goals as goal
use Rattle.live_segment.proofs.list.index.RecordIndex.enter.Goals.{in-Some+else-not-enter, in_default}

pub returns : goal.returns
returns c = elim c.match-key.branch [
  | in-Some+else-not-enter w ↦ (
    ap (λ (r : RecordIndex). record { given = r.place.given + 1; at = c.args.at }) w.self-is,
    ap (λ (r : RecordIndex). r.kind) w.self-is,
    ap (λ (r : RecordIndex). is_grouping r.firsts) w.self-is ∙ w.enter.ensures.grouping,
    λ met holds.
        subst (λ (f : Firsts). Holds (met ++ (c.args.at, c.args.key) ∷ []) f) (sym (ap (λ (r : RecordIndex). r.firsts) w.self-is))
        (subst (λ (o : Option ℕ). Holds (met ++ (c.args.at, o) ∷ []) w.enter.new.self) (sym w.in-Some.is)
        (holds_more met c.args.self.now.firsts w.enter.new.self c.args.at w.in-Some.key holds (w.enter.ensures.entered w.if-not-enter.false)
        (w.enter.ensures.listed w.if-not-enter.false) w.enter.ensures.grouping)),
  )
  | in_default w ↦ (
    ap (λ (r : RecordIndex). record { given = r.place.given + 1; at = c.args.at }) w.self-is,
    ap (λ (r : RecordIndex). r.kind) w.self-is,
    ap (λ (r : RecordIndex). is_grouping r.firsts) w.self-is,
    λ met holds.
        subst (λ (f : Firsts). Holds (met ++ (c.args.at, c.args.key) ∷ []) f) (sym (ap (λ (r : RecordIndex). r.firsts) w.self-is))
        (subst (λ (o : Option ℕ). Holds (met ++ (c.args.at, o) ∷ []) c.args.self.now.firsts) (sym w.in_default.is)
        (holds_passed met c.args.self.now.firsts c.args.at holds)),
  )
]
