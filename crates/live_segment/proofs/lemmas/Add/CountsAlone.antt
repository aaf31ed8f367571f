-- An entry that a call counts alone, in a bucket or in a sample: the call may end before, and continues once its units are added to a
-- count.
use Rattle.std.proofs.Common.{◌≡◌, ℕ, ◌+◌, ◌≤◌, ◌∙◌, ◌||◌, Bool, true, false, List, [], ◌∷◌, ◌++◌, take, drop, All, inl, inr, refl, sym, ap, subst, arith}
use Rattle.std.proofs.lemmas.Bool.{ne_eqb}
use Rattle.std.proofs.lemmas.List.Elements.{All-nil, All-cons}
use Rattle.std.proofs.Math.Seq.{drop-append_seam, drop-length, take-append_seam, take-length}
use Rattle.segment_machine.specs.declared.actor.Actor.{Actor}
use Rattle.segment_machine.specs.declared.actor.Known.{Known}
use Rattle.segment_machine.specs.declared.entry.EntryProgress.{EntryProgress}
use Rattle.segment_machine.specs.declared.entry.Entry.{Entry}
use Rattle.segment_machine.specs.declared.place.Place.TheVariants.{Idle}
use Rattle.segment_machine.specs.Calls.{CountsNext, sight}
use Rattle.segment_machine.specs.Counting.{add_count}
use Rattle.segment_machine.specs.Entry.{fresh, has_ended}
use Rattle.segment_machine.specs.Event.{counting_event}
use Rattle.segment_machine.specs.Note.{is_untouched}
use Rattle.segment_promises.specs.Follows.{noted_by}
use Rattle.segment_promises.specs.Onward.{SeesOn}
use Rattle.live_segment.specs.Add.Refusal.{MayEnd, MayGiveUp, how_many_ended}
use Rattle.live_segment.specs.Steps.{Pass}
use Rattle.live_segment.specs.Steps.GhostNotes.{Noted, entry_notes}
use Rattle.live_segment.specs.Add.Progress.{CountsAlone, HasCounted, HaveEnded, IsOpenTo}
use Rattle.live_segment.proofs.lemmas.Add.Beginning.{counted, is_next, only_begun}
use Rattle.live_segment.proofs.lemmas.Add.Ended.{how_many, how_many_before, still_open}
use Rattle.live_segment.proofs.lemmas.Add.Refusing.{may_at_rest}
use Rattle.live_segment.proofs.lemmas.Steps.Proceeding.{sees_count}

-- if all that runs has ended
may_end_ended : (running : List EntryProgress) → HaveEnded running → MayEnd running
may_end_ended running ended =
    let all = how_many running ended.ended in record {
      ended = subst (λ (l : List EntryProgress). All (λ c. has_ended c ≡ true) l) (sym (ap (λ (n : ℕ). take n running) all ∙ take-length running)) ended.ended;
      unsummed = subst (λ (l : List EntryProgress). All (λ c. c.summed ≡ false) l) (sym (ap (λ (n : ℕ). take n running) all ∙ take-length running)) ended.unsummed;
      untouched = subst (λ (l : List EntryProgress). All (λ c. is_untouched c ≡ true) l) (sym (ap (λ (n : ℕ). drop n running) all ∙ drop-length running)) (All-nil _);
    }

-- if one waits after those that have ended
may_end_waiting : (entry : Entry) → 1 ≤ entry.units → (before : List EntryProgress) → HaveEnded before → MayEnd (before ++ fresh entry ∷ [])
may_end_waiting entry some before ended =
    let one = fresh entry in
    let all = how_many_before one (still_open one refl some) before ended.ended in
    let first : take (how_many_ended (before ++ one ∷ [])) (before ++ one ∷ []) ≡ before =
    ap (λ (n : ℕ). take n (before ++ one ∷ [])) all ∙ take-append_seam before (one ∷ []) in
    let rest : drop (how_many_ended (before ++ one ∷ [])) (before ++ one ∷ []) ≡ one ∷ [] =
    ap (λ (n : ℕ). drop n (before ++ one ∷ [])) all ∙ drop-append_seam before (one ∷ []) in record {
      ended = subst (λ (l : List EntryProgress). All (λ c. has_ended c ≡ true) l) (sym first) ended.ended;
      unsummed = subst (λ (l : List EntryProgress). All (λ c. c.summed ≡ false) l) (sym first) ended.unsummed;
      untouched = subst (λ (l : List EntryProgress). All (λ c. is_untouched c ≡ true) l) (sym rest)
          (All-cons (λ c. is_untouched c ≡ true) one [] refl (All-nil (λ c. is_untouched c ≡ true)));
    }

module _ (a : Actor) (known : Known) (entry : Entry) (may : CountsAlone a known entry) where
  abbrev one : EntryProgress
  one = fresh entry

  pub goes : has_ended one ≡ false
  goes = still_open one refl may.some

  -- its call may end if there is no block for it
  pub may_give_up : MayGiveUp a
  may_give_up = by may.begun
    where
      by : IsOpenTo a entry → MayGiveUp a
      by (inl new) = may_at_rest a new.0
      by (inr (inl going)) = may_end_ended a.entries.running going.ended
      by (inr (inr waits)) = subst MayEnd (sym waits.runs) (may_end_waiting entry may.some waits.before waits.ended)

  -- its units are the next to be counted
  pub counts_next : CountsNext (noted_by a (entry_notes a entry)) one
  counts_next = (is_next a known entry may, ap (λ (z : Bool). false || z) (ne_eqb entry.units 0 (let some = may.some in λ e. omega (arith, e, some))))

-- its units are added to a count
pub counted_at : (known : Known) (entry : Entry) (at found : ℕ) (seat after : Pass) → CountsAlone seat.me.0 known entry
    → Noted seat (entry_notes seat.me.0 entry) (counting_event (add_count at entry.units)) [] found after → HasCounted entry seat.me.0 after.me.0
counted_at known entry at found seat after may told =
    let a = seat.me.0 in
    let x = noted_by a (entry_notes a entry) in
    counted a after.me.0 known entry (record x.hand { place = Idle }) (record x.seen { counts = x.seen.counts ++ sight at (found + entry.units) }) may refl
    (subst (λ (y : Actor). SeesOn a.seen (record y.seen { counts = y.seen.counts ++ sight at (found + entry.units) })) (sym (only_begun a known entry may))
    (sees_count a.seen (sight at (found + entry.units))))
    told.view
