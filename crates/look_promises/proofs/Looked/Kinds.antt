-- The first record of a name has one spec, so what is read of it at two moments has the same.
use Rattle.segment_invariant.proofs.Prelude.Std.{◌≡◌, ℕ, List, sym, ap, subst, ◌∙◌}
use Rattle.segment_invariant.proofs.Prelude.Machine.{Spec}
use Rattle.segment_invariant.proofs.Prelude.Invariant.{IsFirst}
use Rattle.std.specs.Prelude.{Option, Some}
use Rattle.bucket_ranges.specs.Spec.{SameSpec}
use Rattle.list_lemmas.proofs.Firsts.{first_unique}
use Rattle.segment_invariant.specs.Body.{Listed}
use Rattle.segment_invariant.specs.Seen.{IsRecordNamed}
use Rattle.segment_machine.specs.declared.actor.Made.{Made}
use Rattle.segment_machine.specs.declared.actor.Made.TheVariants as made

-- by what is equal of two records
kind_is : {name : List ℕ} (kind other : Spec) (at place : ℕ)
    → ◌≡◌ {A = Listed} (record { reference = at; made = Some (made.Histogram name kind) }) (record { reference = place; made = Some (made.Histogram name other) })
    → kind ≡ other
kind_is {name} kind other at place same = ap (λ (l : Listed). spec_in l.made) same
  where
    spec_in : Option Made → Spec
    spec_in (Some (made.Histogram n s)) = s
    spec_in _ = kind

pub one_kind : (records : List Listed) (name other : List ℕ) (kind sort : Spec) (x y : ℕ) → other ≡ name → IsFirst records name kind x → IsFirst records other sort y
    → kind ≡ sort
one_kind records name other kind sort x y same its again =
    kind_is kind sort x y (first_unique (IsRecordNamed name) records _ _ its (subst (λ (name : List ℕ). IsFirst records name sort y) same again))

-- ---- specs that are the same

pub same_back : (a b : Spec) → SameSpec a b → SameSpec b a
same_back a b (fields, ranges) = (sym fields, sym ranges)

pub same_on : (a b c : Spec) → SameSpec a b → SameSpec b c → SameSpec a c
same_on a b c (fields, ranges) (more, others) = (fields ∙ more, ranges ∙ others)

pub same_as : (a b c : Spec) → SameSpec a b → b ≡ c → SameSpec a c
same_as a b c same is = subst (SameSpec a) is same
