-- The words of a kept state are laid out.
use Rattle.segment_invariant.proofs.Prelude.Std.{◌≡◌, ◌≢◌, Contains, map, sym, ap, Some, None, Contains-permutation, contains_mapped}
use Rattle.segment_invariant.proofs.Prelude.Machine.{Dimensions, State, all_published}
use Rattle.segment_invariant.proofs.Prelude.Invariant.{Listed, listed, Anatomy, Invariant}
use Rattle.segment_invariant.specs.Words.{AreLaid}

module _ (shape : Dimensions) (opened : Anatomy) (state : State) (kept : Invariant shape opened state) where
  -- what an actor linked was given
  pub linked_given : (l : Listed) → Contains (kept.list.once.0) l → l.made ≢ None
  linked_given l among none_given =
      let (more, all, permuted) = kept.list.once in
      let (p, there, is) = contains_mapped listed (all_published state.actors) l (Contains-permutation more (map listed (all_published state.actors)) l permuted among) in
      let given : l.made ≡ Some p.made = sym (ap (λ (l : Listed). l.made) is) in
      cc (given, none_given)

  abbrev pub laid_out : AreLaid shape opened state.words
  laid_out = record {
    anatomy = kept.anatomy;
    shown = kept.shown;
    same = kept.same.0;
    versions = kept.versions;
    blocks = kept.blocks;
    list = record {
      linked = kept.list.linked;
      longer = (kept.list.once.0, kept.list.once.1, linked_given);
      standing = kept.list.standing;
      alone = kept.list.alone;
      tail = kept.list.tail;
    };
    records = kept.records;
    passed_over = kept.passed_over;
  }
