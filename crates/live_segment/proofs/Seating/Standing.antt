-- A seat of a segment's table is in a state of the segment; what its list then has, and what a shared cursor gave.
use Rattle.std.proofs.Common.{◌≡◌, ℕ, suc, ◌+◌, ◌<◌, List, ◌∷◌, ◌++◌, length, set, refl, sym, ap, subst, ◌∙◌, slice_index, arith, Option, Some}
use Rattle.std.proofs.lemmas.List.{get_or_append_left}
use mathlib.Core.Option.{some}
use lib.ListN.{get_elem?}
use lib.Seq.{set-get_or}
use Rattle.atomic_table.specs.Table.{Allows, State, keeps, stepped}
use Rattle.atomic_table.proofs.Lists.{set_again}
use Rattle.segment_image.specs.Words.{word_at}
use Rattle.segment_machine.specs.declared.actor.Actor.{Actor}
use Rattle.segment_machine.specs.Reached.{IsReached}
use Rattle.live_segment.specs.declared.rule.Announcement.{Announcement}
use Rattle.live_segment.specs.declared.rule.Opening.{Opening}
use Rattle.live_segment.specs.Rule.{Runs, opening_state}
use Rattle.live_segment.specs.Standing.{SeesNext, Standing, StandsStill}
use Rattle.live_segment.specs.Steps.{Pass, Sat}

-- a seat that is the same, with the same view
pub same_seat : (old new : Pass) → new.table_id ≡ old.table_id → new.id ≡ old.id → new.me.0 ≡ old.me.0 → new.me.1 ≡ old.me.1 → new ≡ old
same_seat old new table id view slots i = record { marker = old.marker; table_id = table i; id = id i; me = (view i, slots i) }

-- the holder of a seat is in the state that the table has
pub stands_kept : (given : Opening) (s : State Announcement Actor) → Runs given s → (id : ℕ) (a : Actor) → get_elem? s.views id ≡ some a → Standing given id a
stands_kept given s run id a there = record {
  opened = run.opened;
  as_said = run.as_said;
  start = run.start;
  state = run.running.segment;
  come = subst (λ (version : ℕ). IsReached version (opening_state given) run.running.segment) run.as_said.version run.running.reached;
  kept = run.running.kept;
  stands = ap (λ list. get_elem? list id) (sym run.running.views) ∙ there;
}

-- in which a block may have this next
pub sees_next : (given : Opening) (s : State Announcement Actor) (run : Runs given s) (id : ℕ) (a : Actor) → get_elem? s.views id ≡ some a → (at next : ℕ)
    → word_at run.running.segment.words (at + 3) ≡ next → SeesNext given id at next a
unfolding stands_kept
sees_next given s run id a there at next is = record { standing = stands_kept given s run id a there; next_is = is }

-- what holds for a seat of a segment holds if it is known which seat that is
pub as_known : (P : Opening → ℕ → Type 0) (given : Opening) (place : Option Opening) (number id : ℕ) → place ≡ Some given → number ≡ id → P given id
    → (opening : Opening) → place ≡ Some opening → P opening number
as_known P given place number id is same so opening also =
    let both : Some given ≡ Some opening = sym is ∙ also in
    let one : given ≡ opening = cc in
    subst (λ (p : Opening × ℕ). P p.0 p.1) (λ i. (one i, sym same i)) so

-- a word that a step found and left unchanged is that of the state after it
pub found_there : (words shared all : List ℕ) (anchor word at : ℕ) → set all word (slice_index all word) ≡ anchor ∷ words ++ shared → word ≡ at + 1
    → at < length words → slice_index words at ≡ slice_index all word
found_there words shared all anchor word at are is below =
    let next : suc at ≡ word = omega (arith, is) in
    sym (get_or_append_left words shared 0 at below)
    ∙ (ap (λ (l : List ℕ). slice_index l (suc at)) (sym are ∙ set-get_or all word 0) ∙ ap (slice_index all) next)

pub stands_still : (given : Opening) (slots id : ℕ) (me : Sat) (place : Option Opening) (number : ℕ) → place ≡ Some given → number ≡ id
    → Allows (Runs given) slots id me 0 (λ n. n) (StandsStill place number me)
stands_still given slots id me place number is same s run wide mine small =
    let first = set-get_or s.words 0 0 in
    let view = set_again s.views id me.0 mine in
    let still : stepped s 0 (slice_index s.words 0) id me.1 me.0 keeps ≡ s = λ i. record { words = first i; homes = s.homes; views = view i } in (
      me.0,
      keeps,
      tt,
      subst (Runs given) (sym still) run,
      (refl, refl, as_known (λ opening n. Standing opening n me.0) given place number id is same (stands_kept given s run id me.0 mine)),
    )
