-- What `hist` returns, in any kept state: the first record of a name, with the same spec; it refuses only if that record has another one.
use Rattle.segment_invariant.proofs.Prelude.Std.{ℕ, List, sym, subst, ◌∙◌, All-contains}
use Rattle.segment_invariant.proofs.Prelude.Machine.{Spec, spec_of, SameSpec}
use Rattle.segment_invariant.proofs.Prelude.Invariant.{IsHistogram, IsRightlyKnown}
use Rattle.segment_invariant.proofs.Frames.LaidOut.{laid_out}
use Rattle.segment_invariant.proofs.Consistency.Specs.{record_spec, same_spelled}
use Rattle.segment_invariant.proofs.Consistency.Firsts.{name_of_first, record_of_first}
use Rattle.segment_invariant.proofs.Notes.Names as names
use Rattle.segment_promises.specs.Lists.{NamesAreFirst, OthersDiffer}
use Rattle.segment_promises.proofs.Lists.{chain_is}

pub names_are_first : NamesAreFirst
names_are_first shape opened state chain kept is id a mine lives known among =
    let knows = All-contains (IsRightlyKnown kept.anatomy) a.answers.names known (kept.each id a mine lives).names among in
    let (r, (has, named, specified)) = record_of_first shape opened state.words (laid_out shape opened state kept) known.name knows.first_spec known.reference knows.first in
    let spelled = record_spec shape state.words kept.anatomy kept.shown kept.anatomy.version known.reference r has (kept.records.lawful known.reference r has) in
    let same = same_spelled r.spec in
    let its : SameSpec (spec_of state.words known.reference) r.spec = subst (λ (s : Spec). SameSpec s r.spec) (sym spelled) same in
    let given : SameSpec r.spec known.spec = subst (λ (s : Spec). SameSpec s known.spec) (sym specified) knows.same in (
      subst (λ (chain : List ℕ). IsHistogram state.words chain known.name known.reference) (chain_is shape opened state kept chain is)
          (name_of_first shape opened state.words (laid_out shape opened state kept) known.name knows.first_spec known.reference knows.first),
      (its.0 ∙ given.0, its.1 ∙ given.1),
    )

pub others_differ : OthersDiffer
others_differ shape opened state kept id a mine lives name letters spec at are named unlike =
    names.others_differ shape opened state kept id a mine lives name letters spec at are named unlike
