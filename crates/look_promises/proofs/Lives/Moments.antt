-- What a stopped segment had noted it had counted, so that a life that begins with its words tells moments as it did.
use Rattle.segment_invariant.proofs.Prelude.Std.{◌≡◌, ℕ, ◌+◌, ◌≤◌, ℤ, List, [], ◌∷◌, length, refl, sym, ap, subst, ◌∙◌, arith, All, Contains}
use Rattle.segment_invariant.proofs.Prelude.Machine.{Dimensions, State, Actor, Entry, head_of, Histogram, Reading, all_counted}
use Rattle.segment_invariant.proofs.Prelude.Invariant.{Invariant}
use Rattle.image_rules.specs.Adoption.{HasNoFault}
use Rattle.bucket_ranges.specs.Reading.{IsReading}
use Rattle.segment_promises.specs.Adoption.{adopted, adopter}
use Rattle.segment_promises.specs.Reads.{ReadsHead, ReadsNames, ReadsUnits, ReadsAmounts, noted_at_opening, units_read}
use Rattle.segment_promises.proofs.Readings.Heads.{shape_is}
use Rattle.segment_promises.proofs.Readings.Stopped.{stopped_reads}
use Rattle.look_promises.specs.Lives.{Life, IsAdoptedFrom, LivesTellMoments, TellsMoments, words_left}
use Rattle.look_promises.specs.OneMoment.{CountsFirst, all_units_read, units_at_opening}
use Rattle.look_promises.proofs.Amounts.Calls.{no_moving}
use Rattle.look_promises.proofs.Kept.Certificate.{counts_at, lone_openers_count_first, opened_with}
use Rattle.look_promises.proofs.Kept.Keys.{held, in_all, units_named, as_tally}
use Rattle.look_promises.proofs.Kept.Noted.{first_counted}
use Rattle.look_promises.proofs.Kept.Openings.{openings_note_no_more}
use Rattle.look_promises.proofs.Lives.Beyond.{run}
use Rattle.look_promises.proofs.Moments.Runs.{kept_at}

module _ (shape : Dimensions) (life : Life shape) (tells : TellsMoments life) where
  abbrev left_state : State
  left_state = life.at life.stop

  abbrev kept : Invariant shape life.opened left_state
  kept = kept_at (run shape life) life.stop

  -- ---- what is read of the words that it left

  module _ (left : Reading) (h : Histogram) (is : IsReading (words_left life) (head_of (words_left life)) left) (there : Contains left.hists h) where
    reads : ReadsUnits life.opened.version left_state h × ReadsAmounts life.opened left_state h
    reads = (stopped_reads shape life.opened left_state left kept is).3 h there

    abbrev entries : List Entry
    entries = all_counted left_state.actors

    below : (k : ℤ) → held (λ (e : Entry). e.key) (units_named h.name) entries k ≤ units_read h k
    below k =
        let units = reads.0.counted k in
        let still = no_moving shape life.opened left_state kept (kept.same.0 ∙ life.runs.version) h.name k in
        let tally = as_tally h.name entries k in
        omega (arith, units, still, tally)

    noted_less : h.redundant ≤ all_units_read h
    noted_less =
        let noted = reads.1.redundant in
        let counted = first_counted shape life.opened left_state kept (counts_at (run shape life) tells.0 life.stop) h.name in
        let opens = opened_with (run shape life) tells.0 life.stop h.name in
        let opening = tells.1 h.name in
        let most = in_all (λ (e : Entry). e.key) (units_named h.name) (λ (count : ℤ × ℕ). count.0) (λ (count : ℤ × ℕ). count.1) (length h.counts) entries h.counts (omega arith) below in
        omega (arith, noted, counted, opens, opening, most)

  -- ---- a life that begins with them

  tells_again : (cursors : ℕ) (next : Life shape) → IsAdoptedFrom life cursors next → TellsMoments next
  tells_again cursors next (references, reading, listed, along, is) = (
    lone_openers_count_first shape next.opened (next.at 0) (adopter (words_left life) references reading cursors) next.runs.kept (ap (λ (s : State). s.actors) is),
    λ name.
        subst (λ (s : State). noted_at_opening next.opened name ≤ units_at_opening s.actors name) (sym is)
        (openings_note_no_more.1 (words_left life) references name reading cursors next.opened opens (λ h there named. noted_less reading h (references, listed, along) there)),
  )
    where
      opens : Invariant (head_of (words_left life)).shape next.opened (adopted (words_left life) references reading cursors)
      opens = subst (λ (s : Dimensions). Invariant s next.opened (adopted (words_left life) references reading cursors)) (sym (shape_is shape life.opened left_state kept))
          (subst (Invariant shape next.opened) is next.runs.kept)

  pub tell_moments : ((left : Reading) (h : Histogram) → IsReading (words_left life) (head_of (words_left life)) left → Contains left.hists h → h.redundant ≤ all_units_read h)
      × ((cursors : ℕ) (next : Life shape) → IsAdoptedFrom life cursors next → TellsMoments next)
  tell_moments = (noted_less, tells_again)

pub lives_tell_moments : LivesTellMoments
lives_tell_moments shape life tells = tell_moments shape life tells
