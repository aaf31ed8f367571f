-- Once all recorders are joined, the words of a closed segment read as what its opener has gathered.
use Rattle.std.proofs.Common.{◌≡◌, Bool, ◌||◌, ℕ, List, refl, sym, ap, subst, ◌∙◌, arith}
use mathlib.Core.Option.{some}
use lib.ListN.{get_elem?}
use Rattle.segment_image.specs.Shape.{Dimensions}
use Rattle.segment_image.specs.Head.{head_of}
use Rattle.bucket_ranges.specs.Reading.{Reading, IsReading, reading_along}
use Rattle.segment_machine.specs.declared.actor.Actor.{Actor}
use Rattle.segment_machine.specs.Actor.{cost_of, outstanding_of}
use Rattle.segment_machine.specs.State.{State}
use Rattle.segment_invariant.specs.Body.{Anatomy, order_of}
use Rattle.segment_invariant.specs.Invariant.{Invariant}
use Rattle.segment_promises.specs.Reads.{noted_at_opening}
use Rattle.segment_promises.proofs.Adopting.Headers.{header_is}
use Rattle.segment_promises.proofs.Joined.{opener_is, final_deltas_take_all, lone_deltas_take_all, final_snapshots_are_exact, snapshots_stay_below}
use Rattle.segment_promises.proofs.Readings.Heads.{shape_is, version_is, reads_head}
use Rattle.segment_promises.proofs.Readings.Joined.{joined_reads}
use Rattle.segment_promises.proofs.Readings.Lists.{is_list}
use Rattle.live_segment.specs.declared.rule.Opening.{Opening}
use Rattle.live_segment.specs.Rule.{Closes, IsOpenedAs}
use Rattle.live_segment.specs.Closing.{IsImageOf, ReadsJoined, DeltasAddUp, SnapshotsAgree}

-- the words of a kept state are an image with the setting of the segment's opening
pub of_kept : (given : Opening) (opened : Anatomy) (state : State) → IsOpenedAs given opened → Invariant given.setting.shape opened state
    → IsImageOf given.setting state.words
of_kept given opened state as_said kept =
    let setting = given.setting in
    let reading = reading_along state.words (head_of state.words) (order_of kept.anatomy) in
    let is : IsReading state.words (head_of state.words) reading = (order_of kept.anatomy, is_list setting.shape opened state kept, refl) in
    record {
      header = header_is setting.shape opened state kept;
      shape = shape_is setting.shape opened state kept;
      version = version_is setting.shape opened state kept ∙ (kept.same.0 ∙ as_said.version);
      id = (reads_head setting.shape opened state kept reading is).id ∙ as_said.id;
      reading = (reading, is);
    }

-- its opener knows the redundant counts that it was opened with
pub knows_noted : (shape : Dimensions) (opened : Anatomy) (state : State) (opener : Actor) → Invariant shape opened state → get_elem? state.actors 0 ≡ some opener
    → (name : List ℕ) → noted_at_opening opened name ≡ cost_of opener.entries.first_noted name
knows_noted shape opened state opener kept stands name =
    sym (kept.first_noted name) ∙ ap (λ (a : Actor). cost_of a.entries.first_noted name) (opener_is shape opened state opener kept stands)

module _ (given : Opening) (opener : Actor) (words : List ℕ) (closes : Closes given opener words) where
  pub image_of : IsImageOf given.setting words
  image_of = subst (IsImageOf given.setting) (sym closes.words_are) (of_kept given closes.opened closes.state closes.as_said closes.kept)

  -- what is read of the words is read of the state's
  pub read_there : (reading : Reading) → IsReading words (head_of words) reading → IsReading closes.state.words (head_of closes.state.words) reading
  read_there reading is = subst (λ (ws : List ℕ). IsReading ws (head_of ws) reading) closes.words_are is

  pub known : (name : List ℕ) → noted_at_opening closes.opened name ≡ cost_of opener.entries.first_noted name
  known = knows_noted given.setting.shape closes.opened closes.state opener closes.kept closes.stands

  module _ (none : outstanding_of opener.role ≡ 0) where
    pub joined : ReadsJoined given.setting opener words
    joined reading is =
        let (lawful, answers, logs, id, corrupt, full) =
        joined_reads given.setting.shape closes.opened closes.state opener reading closes.kept (closes.stands, none) (read_there reading is) in
        record {
          lawful = lawful;
          answers = answers;
          tallies = λ h there.
              let log = logs h there in
              let noted = log.redundant in
              let first = known h.name in
              record { units = log.units; sum = log.sum; redundant = omega (arith, noted, first); marks = log.marks; sum_mark = log.sum_mark };
          id = id ∙ closes.as_said.id;
          corrupt = corrupt ∙ ap (λ (b : Bool). b || opener.done.spoiled) closes.as_said.intact;
          full = full ∙ ap (λ (b : Bool). b || opener.done.filled) closes.as_said.full;
        }

    pub deltas : DeltasAddUp opener
    deltas = record {
      all = λ delta among final. final_deltas_take_all given.setting.shape closes.opened closes.state opener delta closes.kept (closes.stands, none) among final;
      each = λ front behind delta. lone_deltas_take_all given.setting.shape closes.opened closes.state opener front behind delta closes.kept (closes.stands, none);
    }

    pub snapshots : SnapshotsAgree opener
    snapshots = record {
      below = λ answer among. snapshots_stay_below given.setting.shape closes.opened closes.state opener answer closes.kept (closes.stands, none) among;
      exact = λ answer among final.
          let (units, sum, noted) =
          final_snapshots_are_exact given.setting.shape closes.opened closes.state opener answer closes.kept (closes.stands, none) among final in
          let first = known answer.name in
          (units, sum, omega (arith, noted, first));
    }
