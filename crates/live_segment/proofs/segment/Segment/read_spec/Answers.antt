use Rattle.std.proofs.Common.{◌+◌, inl, ap, ◌∙◌}
use Rattle.std.specs.Prelude.{Some}
use Rattle.segment_promises.proofs.Growing.{still}
use Rattle.live_segment.proofs.lemmas.List.Showing.{sees_one, seen_one}
use Rattle.live_segment.proofs.segment.Segment.read_spec.Goals as goal

pub read_linear-requires-clause-tag : goal.read_linear-requires-clause-tag
read_linear-requires-clause-tag c =
    still _ _ (sees_one _ _ c.args.at 4 c.load_published-kind.result c.load_published-kind.ensures).words (c.args.at + 2) 1 c.requires.tag

pub read_linear-requires-clause-kind : goal.read_linear-requires-clause-kind
read_linear-requires-clause-kind c =
    seen_one _ _ c.args.at 4 c.load_published-kind.result c.load_published-kind.ensures ∙ ap Some c.if-kind-eq-KIND_LINEAR.true

pub read_custom-requires-clause-tag : goal.read_custom-requires-clause-tag
read_custom-requires-clause-tag c =
    still _ _ (sees_one _ _ c.args.at 4 c.load_published-kind.result c.load_published-kind.ensures).words (c.args.at + 2) 1 c.requires.tag

pub read_custom-requires-clause-kind : goal.read_custom-requires-clause-kind
read_custom-requires-clause-kind c =
    seen_one _ _ c.args.at 4 c.load_published-kind.result c.load_published-kind.ensures ∙ ap Some c.if-kind-eq-KIND_CUSTOM.true

pub read_custom-requires-clause-name : goal.read_custom-requires-clause-name
read_custom-requires-clause-name c =
    let (len, long, letters) = c.requires.name in
    (len, still _ _ (sees_one _ _ c.args.at 4 c.load_published-kind.result c.load_published-kind.ensures).words (c.args.at + 14) len long, letters)

pub returns-then-kind-eq-KIND_LINEAR-clause-outcome : goal.returns-then-kind-eq-KIND_LINEAR-clause-outcome
returns-then-kind-eq-KIND_LINEAR-clause-outcome c = c.read_linear.ensures.outcome c.args.letters

pub returns-then-kind-eq-KIND_BOOLEAN-clause-outcome : goal.returns-then-kind-eq-KIND_BOOLEAN-clause-outcome
returns-then-kind-eq-KIND_BOOLEAN-clause-outcome c =
    seen_one _ _ c.args.at 4 c.load_published-kind.result c.load_published-kind.ensures ∙ ap Some c.if-kind-eq-KIND_BOOLEAN.true

pub returns-then-kind-eq-KIND_SPARSE-clause-outcome : goal.returns-then-kind-eq-KIND_SPARSE-clause-outcome
returns-then-kind-eq-KIND_SPARSE-clause-outcome c =
    seen_one _ _ c.args.at 4 c.load_published-kind.result c.load_published-kind.ensures ∙ ap Some c.if-kind-eq-KIND_SPARSE.true

pub returns-clause-outcome : goal.returns-clause-outcome
returns-clause-outcome c = inl (
  c.load_published-kind.result,
  seen_one _ _ c.args.at 4 c.load_published-kind.result c.load_published-kind.ensures,
  c.if-kind-eq-KIND_LINEAR.false,
  c.if-kind-eq-KIND_CUSTOM.false,
  c.if-kind-eq-KIND_BOOLEAN.false,
  c.if-kind-eq-KIND_SPARSE.false,
)
