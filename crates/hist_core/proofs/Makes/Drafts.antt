-- What a record that is made is to hold.
use Rattle.segment_invariant.proofs.Prelude.Std.{◌≡◌, ℕ, ◌+◌, ◌*◌, ◌≤◌, max, List, refl, sym, ap, subst, arith, Contains}
use Rattle.segment_invariant.proofs.Prelude.Machine.{Dimensions, buckets_of, IsShape, Actor, Known, Made, Own, MayTurn}
use Rattle.segment_machine.specs.declared.actor.Made.TheVariants.{Histogram, Sample}
use Rattle.segment_machine.specs.Publishing.{MayPublish}
use Rattle.hist_core.specs.declared.new_record.NewRecord.{NewRecord}
use Rattle.hist_core.specs.StepsBy.{FrameOfStep}
use Rattle.hist_core.specs.NewRecord.{Wanted, MayMake, IsNewRecord, IsStarted, StandsAtStage, tag_of}

-- a valid shape has 64 words at least
pub is_wide : (shape : Dimensions) → IsShape shape → 64 ≤ shape.size
is_wide shape lawful = let from = lawful.wide in let to = lawful.one in omega (arith, from, to)

-- ---- what an actor may make, it may still

may_publish : (a b : Actor) → FrameOfStep a b → (own : Own) (made : Made) → MayPublish a own made → MayPublish b own made
may_publish a b beside own (Histogram name spec) (tag, named, lawful, fits) =
    (tag, named, lawful, subst (λ (d : Dimensions). 4 + 2 * buckets_of spec ≤ d.page) (sym (ap (λ s. s.shape) beside.segment)) fits)
may_publish a b beside own (Sample histogram value) (tag, enough, fits, (known, (knows, here, sparse))) =
    (tag, enough, fits, (known, (subst (λ (l : List Known). Contains l known) (sym beside.names) knows, here, sparse)))

pub may_still : (shape : Dimensions) (wanted : Wanted) (a b : Actor) → FrameOfStep a b → MayMake shape wanted a → MayMake shape wanted b
may_still shape wanted a b beside may = record {
  some = may.some;
  first = may.first;
  enough = may.enough;
  one_page = may.one_page;
  holds = may.holds;
  may = λ own tag size. may_publish a b beside own wanted.made (may.may own tag size);
}

-- ---- it begins

tag_least : (made : Made) → 1 ≤ tag_of made
tag_least (Histogram name spec) = omega arith
tag_least (Sample histogram value) = omega arith

tag_most : (made : Made) → tag_of made ≤ 3
tag_most (Histogram name spec) = omega arith
tag_most (Sample histogram value) = omega arith

max_one : (n : ℕ) → 1 ≤ n → max n 1 ≡ n
max_one n some = omega (arith, some)

-- an actor that may turn to it, and may make it, begins to claim its words
pub begins : (shape : Dimensions) (wanted : Wanted) (m : NewRecord) (a : Actor) → a.segment.shape ≡ shape → IsShape shape → MayMake shape wanted a → MayTurn a
    → IsStarted shape wanted.room (tag_of wanted.made) m → IsNewRecord shape wanted m a
begins shape wanted m a segment lawful may turns starts =
    let some = may.some in
    let enough = may.enough in
    let one_page = may.one_page in
    let room : ℕ = wanted.room in
    let same : max room 1 ≡ room = max_one room (omega (arith, some, enough)) in
    let tag : ℕ = tag_of wanted.made in record {
      segment = segment;
      lawful_shape = lawful;
      draft = may;
      stands = subst (StandsAtStage shape wanted a) (sym starts) (
        record {
          lawful = record {
            shaped = lawful;
            least = omega (arith, same, some, enough);
            most = omega (arith, same, one_page);
            aimed = tt;
          };
          shape = sym segment;
          least = tag_least wanted.made;
          most = tag_most wanted.made;
          stands = turns;
        },
        refl,
        refl,
        omega (arith, same),
      );
    }
