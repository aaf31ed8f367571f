-- A kept state reads as what actors did: what its blocks hold, by the ledger.
use Rattle.segment_invariant.proofs.Prelude.Std.{◌≡◌, ℕ, List, sym, ap, subst, ◌∙◌}
use Rattle.segment_invariant.proofs.Prelude.Machine.{Dimensions, name_of, Histogram, State}
use Rattle.segment_invariant.proofs.Prelude.Invariant.{Anatomy, IsFirst, Invariant}
use Rattle.segment_promises.specs.Reads.{ReadsBlocks, ReadsAmounts, StoppedReads}
use Rattle.segment_invariant.proofs.Consistency.Firsts.{record_of_first}
use Rattle.segment_promises.proofs.Readings.Kept.{words_kept}
use Rattle.segment_promises.proofs.Readings.Blocks.{words_read}
use Rattle.segment_promises.proofs.Readings.Units.{units_are_read}
use Rattle.segment_promises.proofs.Readings.Heads.{reads_head}
use Rattle.segment_promises.proofs.Readings.Names.{read_first}
use Rattle.segment_invariant.proofs.Frames.LaidOut.{laid_out}

amounts_are_read : (shape : Dimensions) (opened : Anatomy) (state : State) (kept : Invariant shape opened state) (h : Histogram) → ReadsBlocks kept.anatomy h
    → ReadsAmounts opened state h
amounts_are_read shape opened state kept h reads = record {
  sum = reads.sum ∙ kept.balanced.sums h.name;
  redundant = reads.redundant ∙ kept.balanced.noted h.name;
  marks = λ key. reads.marks key ∙ kept.balanced.marks h.name key;
  sum_mark = reads.sum_mark ∙ kept.balanced.sum_marks h.name;
}

pub stopped_reads : StoppedReads
stopped_reads shape opened state reading kept is =
    let words = words_kept shape opened state kept in
    let (sound, names, blocks) = words_read shape opened state.words reading words is in (
      sound,
      reads_head shape opened state kept reading is,
      names,
      λ h there. let (kind, at, made, first, same) = read_first shape opened state.words words reading is h there in
          let (r, (has, named, specified)) = record_of_first shape opened state.words (laid_out shape opened state kept) (name_of state.words at) kind at first in
          let mine = subst (λ (name : List ℕ). IsFirst kept.anatomy.records name kind at) (sym named) first in
          let its_name : h.name ≡ r.name = sym (ap (λ (h : Histogram). h.name) made) ∙ sym named in
          let reads : ReadsBlocks kept.anatomy h = blocks h there in (
            units_are_read shape opened state kept at r has kind mine specified h (sym (ap (λ (h : Histogram). h.reference) made)) its_name
                (sym (ap (λ (h : Histogram). h.spec) made)) reads.units,
            amounts_are_read shape opened state kept h reads,
          ),
    )
