-- What deltas and snapshots have is no more than what is counted in the state in which they end.
use Rattle.std.proofs.Common.{◌≡◌, ℕ, ◌+◌, ◌≤◌, ℤ, Bool, List, [], ◌∷◌, ◌++◌, take, flat_map, zero, suc, map, sum_by, refl, sym, ap, subst, arith}
use Rattle.std.specs.Prelude.{if◌then◌else◌}
use Rattle.std.specs.List.{Contains}
use Rattle.std.specs.Str.{bytes_eq}
use Rattle.std.proofs.lemmas.List.{map-append, take-append-drop}
use Rattle.std.proofs.lemmas.List.Elements.{All-contains, Contains-append_right}
use Rattle.std.proofs.lemmas.List.Sums.{sum_by-append, sum_by_push}
use Rattle.std.proofs.lemmas.Slice.Eq.{bytes_eq-Decides}
use mathlib.Core.Option.{some, some-injective, some-ne-none}
use lib.ListN.{get_elem?}
use Rattle.segment_image.specs.Words.{word_at}
use Rattle.segment_calls.specs.declared.answer.Snapshot.{Snapshot}
use Rattle.segment_machine.specs.declared.actor.Actor.{Actor}
use Rattle.segment_machine.specs.declared.actor.Answered.{Answered}
use Rattle.segment_machine.specs.declared.actor.Known.{Known}
use Rattle.segment_machine.specs.declared.actor.Portion.{Portion}
use Rattle.segment_machine.specs.declared.actor.Taken.{Taken}
use Rattle.segment_machine.specs.declared.seen.Sighting.{Sighting}
use Rattle.segment_machine.specs.Actor.{portion_of, taken_of, taken_units, units_listed}
use Rattle.segment_machine.specs.State.{State}
use Rattle.segment_invariant.specs.Consistent.{IsWithinCounts, units_taken}
use Rattle.segment_invariant.specs.Invariant.{Fits}
use Rattle.segment_invariant.specs.Seen.{IsRightlyKnown}
use Rattle.segment_invariant.proofs.Blocks.Pieces.{piece_word}
use Rattle.segment_invariant.proofs.Consistency.Marks.{marks_are_taken}
use Rattle.segment_invariant.proofs.Consistency.Sums.{noted_is}
use Rattle.segment_invariant.proofs.Counting.Whole.{known_first}
use Rattle.segment_invariant.proofs.Frames.LaidOut.{laid_out}
use Rattle.segment_promises.proofs.Enough.{knower_lives}
use Rattle.live_segment.specs.declared.rule.Opening.{Opening}
use Rattle.live_segment.specs.Delta.Outcome.{HasTaken, taken_as}
use Rattle.live_segment.specs.Delta.Owed.{HasNoMore}
use Rattle.live_segment.specs.Snapshot.Outcome.{HasSnapshot}
use Rattle.live_segment.specs.Standing.{Standing}
use Rattle.live_segment.specs.Steps.Taking.{answered_as}

-- the units of a key that a delta of a name took
abbrev of_name : List ℕ → ℤ → Portion → ℕ
of_name name key t = if bytes_eq t.name name then units_listed t.counts key else 0

-- ---- of deltas

-- what one actor's deltas took, all took
taken_within : (actors : List Actor) (id : ℕ) (a : Actor) (name : List ℕ) (key : ℤ) → get_elem? actors id ≡ some a
    → taken_units (taken_of a) name key ≤ units_taken actors name key
taken_within [] id a name key there = absurd (some-ne-none a (sym there))
taken_within (x ∷ rest) zero a name key there =
    let both = sum_by-append (of_name name key) (taken_of x) (flat_map taken_of rest) in
    let same = ap (λ (x : Actor). taken_units (taken_of x) name key) (some-injective x a there) in
    omega (arith, both, same)
taken_within (x ∷ rest) (suc id) a name key there =
    let both = sum_by-append (of_name name key) (taken_of x) (flat_map taken_of rest) in
    let behind = taken_within rest id a name key there in
    omega (arith, both, behind)

-- so they took what a delta took that is noted
pub took_among : (given : Opening) (number : ℕ) (known : Known) (delta : List (ℤ × ℕ)) (sum : ℤ) (old new : Actor) → HasTaken known delta sum old new
    → (standing : Standing given number new) → (key : ℤ) → units_listed delta key ≤ units_taken standing.state.actors known.name key
took_among given number known delta sum old new taken standing key =
    let mine : Taken = taken_as old known taken.counts sum in
    let own = taken.each key in
    let all = taken_within standing.state.actors number new known.name key standing.stands in
    let listed = ap (λ (a : Actor). taken_units (taken_of a) known.name key) taken.same in
    let parts = sum_by-append (of_name known.name key) old.deltas.first_taken (map portion_of (old.deltas.taken ++ mine ∷ [])) in
    let last = ap (sum_by (of_name known.name key)) (map-append portion_of old.deltas.taken (mine ∷ [])) in
    let both = sum_by_push (of_name known.name key) (map portion_of old.deltas.taken) (portion_of mine) in
    let named : of_name known.name key (portion_of mine) ≡ units_listed taken.counts key =
    ap (λ (b : Bool). if b then units_listed taken.counts key else 0) ((bytes_eq-Decides known.name known.name).1 refl) in
    omega (arith, own, all, listed, parts, last, both, named)

-- ---- of a snapshot

-- what a snapshot returned is among what its recorder has returned
answered_there : (known : Known) (snapshot : Snapshot) (old new : Actor) → HasSnapshot known old snapshot new
    → Contains new.deltas.snapshots (answered_as old known snapshot)
answered_there known snapshot old new has =
    subst (λ (list : List Answered). Contains list (answered_as old known snapshot)) (sym (ap (λ (a : Actor). a.deltas.snapshots) has.same))
    (Contains-append_right old.deltas.snapshots (answered_as old known snapshot ∷ []) (answered_as old known snapshot) (0, omega arith, refl))

pub has_no_more : (given : Opening) (number : ℕ) (known : Known) (snapshot : Snapshot) (old new : Actor) → HasSnapshot known old snapshot new
    → Contains old.answers.names known → Standing given number new → HasNoMore given number known snapshot new
has_no_more given number known snapshot old new has among standing =
    let shape = given.setting.shape in
    let state : State = standing.state in
    let kept = standing.kept in
    let knows = subst (λ (names : List Known). Contains names known) (sym (ap (λ (a : Actor). a.answers.names) has.same)) among in
    let lives = knower_lives shape standing.opened state kept number new standing.stands known knows in
    let fits : Fits shape kept.anatomy state.cursors state.actors kept.roles.opener number new = kept.each number new standing.stands lives in
    let right = All-contains (IsRightlyKnown kept.anatomy) new.answers.names known fits.names knows in
    let (r, first, stands, named, many, keys) = known_first shape standing.opened state kept known right in
    let word = piece_word shape state.words kept.anatomy kept.shown stands.0 _ 13 stands.1 (omega arith) in
    let held = noted_is shape standing.opened state.words (laid_out shape standing.opened state kept) known.name r.spec known.reference r first stands named in
    let balance = kept.balanced.noted known.name in
    let (before, loaded) = has.saw.redundant in
    let last : Sighting = record { at = known.reference + 13; word = snapshot.redundant } in
    let seen : Contains new.seen.counts last =
    subst (λ (list : List Sighting). Contains list last) (take-append-drop new.since.counts new.seen.counts)
    (Contains-append_right (take new.since.counts new.seen.counts) _ last
    (subst (λ (list : List Sighting). Contains list last) (sym loaded) (Contains-append_right before (last ∷ []) last (0, omega arith, refl)))) in
    let below = All-contains (λ (s : Sighting). s.word ≤ word_at state.words s.at) new.seen.counts last
    ((marks_are_taken shape standing.opened state kept).seen number new standing.stands lives) seen in
    record {
      standing = standing;
      totals = All-contains (IsWithinCounts state.actors) new.deltas.snapshots (answered_as old known snapshot) fits.snapshots (answered_there known snapshot old new has);
      redundant = omega (arith, below, word, held, balance);
    }
