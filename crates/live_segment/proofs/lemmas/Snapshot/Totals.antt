-- A recorder loads the counts of all buckets of a histogram: that it may load the next one, and what it has seen then.
use Rattle.std.proofs.Common.{◌≡◌, ℕ, ◌+◌, ◌-◌, ◌<◌, ◌≤◌, ℤ, List, [], ◌++◌, drop, length, set, inl, inr, ⊎_elim, refl, sym, ap, subst, ◌∙◌, arith}
use Rattle.std.specs.List.{Contains}
use Rattle.std.proofs.lemmas.List.{drop-append-le, length-append, append_assoc, append-nil}
use Rattle.std.proofs.lemmas.List.Elements.{Contains-append_left, Contains-append_right}
use Rattle.atomic_table.proofs.Lists.{at_set}
use Rattle.segment_machine.specs.declared.actor.Actor.{Actor}
use Rattle.segment_machine.specs.declared.actor.Known.{Known}
use Rattle.segment_machine.specs.declared.place.Look.{Look}
use Rattle.segment_machine.specs.declared.place.Place.{Place}
use Rattle.segment_machine.specs.declared.seen.Sighting.{Sighting}
use Rattle.segment_machine.specs.Actor.{SawCount, is_opener}
use Rattle.segment_machine.specs.Calls.{sight, IsUnits}
use Rattle.segment_machine.specs.Event.{Event, next, taking_event}
use Rattle.segment_machine.specs.Taking.{load_count, at_count}
use Rattle.live_segment.specs.declared.segment.Segment.{Segment}
use Rattle.live_segment.specs.Holders.{MayStep}
use Rattle.live_segment.specs.Snapshot.Counts.{StandsAt, MayLookAt, HasLookedAt}
use Rattle.live_segment.specs.Steps.{Pass, IsSame, Stepped}

-- a recorder that has loaded a count is at the same counts
stands_on : (a : Actor) (look : Look) (known : Known) (at found : ℕ) → StandsAt a look known
    → StandsAt (next a (taking_event (load_count at)) found) look known
stands_on a look known at found stands =
    let then_at = λ (p : Place). at_count p at found in
    inr (⊎_elim
    (λ (place, _, _, buckets). (at - (look.counts + 4), found, ap then_at place, buckets))
    (λ (bucket, count, place, buckets). (at - (look.counts + 4), found, ap then_at place, buckets)) stands)

-- what it had seen it has still seen, and what it loaded
module _ (a : Actor) (at found : ℕ) (since : a.since.counts ≤ length a.seen.counts) where
  behind : drop a.since.counts (a.seen.counts ++ sight at found) ≡ drop a.since.counts a.seen.counts ++ sight at found
  behind = drop-append-le a.since.counts a.seen.counts (sight at found) since

  saw_still : (other word : ℕ) → SawCount a other word → SawCount (next a (taking_event (load_count at)) found) other word
  saw_still other word saw =
      let seen : Sighting = record { at = other; word = word } in
      subst (λ (l : List Sighting). Contains l seen) (sym behind) (Contains-append_left (drop a.since.counts a.seen.counts) (sight at found) seen saw)

  saw_found : SawCount (next a (taking_event (load_count at)) found) at found
  saw_found =
      let seen : Sighting = record { at = at; word = found } in
      subst (λ (l : List Sighting). Contains l seen) (sym behind)
      (Contains-append_right (drop a.since.counts a.seen.counts) (sight at found) seen (0, omega arith, refl))

module _ (segment : Segment) (counts buckets : ℕ) (first seat : Pass) (may : MayLookAt segment first counts buckets) (passed : ℕ) (totals : List (ℤ × ℕ))
    (has : HasLookedAt counts first.me.0 passed totals seat.me.0) where
  pub may_load : IsSame first seat → passed < buckets → MayStep segment seat (taking_event (load_count (counts + 4 + passed)))
  may_load same lt = record {
    table = same.0 ∙ may.table;
    recorder = ap (λ (a : Actor). is_opener a.role) has.view ∙ may.recorder;
    ready = inl (
      may.look,
      may.known,
      passed,
      has.stands may.look may.known may.stands,
      subst (λ (n : ℕ). passed < n) may.all lt,
      ap (λ (n : ℕ). n + 4 + passed) may.where_is,
    );
  }

  since_on : seat.me.0.since.counts ≤ length seat.me.0.seen.counts
  since_on =
      let same : seat.me.0.since.counts ≡ first.me.0.since.counts = ap (λ (a : Actor). a.since.counts) has.view in
      let (more, grown) = has.more in
      let long : length seat.me.0.seen.counts ≡ length first.me.0.seen.counts + length more = ap length grown ∙ length-append first.me.0.seen.counts more in
      let least = may.since in
      omega (arith, same, long, least)

  pub looked : (new : Pass) (key : ℤ) (found : ℕ) → Stepped seat (taking_event (load_count (counts + 4 + passed))) found new
      → HasLookedAt counts first.me.0 (passed + 1) (set totals passed (key, found)) new.me.0
  looked new key found step =
      let at : ℕ = counts + 4 + passed in
      let event : Event = taking_event (load_count at) in
      let then_is : Actor = next seat.me.0 event found in
      subst (λ (a : Actor). HasLookedAt counts first.me.0 (passed + 1) (set totals passed (key, found)) a) (sym step.view) (record {
        saw = λ bucket total lt there.
            ⊎_elim
            (λ (is, same). subst (λ (p : ℕ × ℕ). SawCount then_is (counts + 4 + p.0) p.1) (λ i. (sym is i, (same i).1)) (saw_found seat.me.0 at found since_on))
            (λ (other, there_is). saw_still seat.me.0 at found since_on (counts + 4 + bucket) total.1 (has.saw bucket total (omega (arith, lt, other)) there_is))
            (at_set totals passed bucket (key, found) total there);
        few = λ bucket total lt there.
            ⊎_elim
            (λ (is, same). subst (λ (t : ℤ × ℕ). IsUnits t.1) same step.learned.0)
            (λ (other, there_is). has.few bucket total (omega (arith, lt, other)) there_is)
            (at_set totals passed bucket (key, found) total there);
        stands = λ look known stands. stands_on seat.me.0 look known at found (has.stands look known stands);
        more = (has.more.0 ++ sight at found, ap (λ (l : List Sighting). l ++ sight at found) has.more.1 ∙ append_assoc first.me.0.seen.counts has.more.0 (sight at found));
        view = ap (λ (a : Actor). next a event found) has.view;
      })

-- before the first
pub looks_first : (counts : ℕ) (a : Actor) (totals : List (ℤ × ℕ)) → HasLookedAt counts a 0 totals a
looks_first counts a totals = record {
  saw = λ bucket total lt there. absurd (omega (arith, lt));
  few = λ bucket total lt there. absurd (omega (arith, lt));
  stands = λ look known stands. stands;
  more = ([], sym (append-nil a.seen.counts));
  view = refl;
}
