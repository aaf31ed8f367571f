-- An `add` performs one event of its actor.
use Rattle.segment_invariant.proofs.Prelude.Std.{◌≡◌, ℕ, Bool, true, false, ◌==◌, List, [], refl, sym, ap, ◌∙◌, ◌++◌, subst, append-nil, Contains}
use Rattle.segment_invariant.proofs.Prelude.Machine.{Dimensions, word_at, Actor, Known, sight_counts, spot, next, Ready, Learned, packing_event, Event, load_single, pack, mount_counts, purge_block, disable, add_moved, after_pack, after_mount, after_disable, known_at}
use Rattle.segment_machine.specs.Event.{after}
use Rattle.segment_machine.specs.Packing.{PackingEvent}
use Rattle.hist_core.proofs.Parts.Alone.{by_event}
use Rattle.hist_core.specs.declared.add.Add.{Add}
use Rattle.hist_core.specs.declared.add.AddStep.TheVariants.{More}
use Rattle.hist_core.specs.declared.add.AddStage.{AddStage}
use Rattle.hist_core.specs.StepsBy.{DoesOnly, StepsBy}
use Rattle.hist_core.specs.Add.{Amid, FrameOfAdd, StaysOpen, StandsAtStage, IsAdd, AddGives, serves_counted}
use Rattle.hist_core.proofs.Parts.Deeds.{does_nothing}
use Rattle.hist_core.proofs.AddCall.Counts.{counts_on}

-- ---- what stays unchanged

-- if it has seen no more of the chain and of the words of records
pub aside_still : (a b : Actor) → b.role ≡ a.role → b.segment ≡ a.segment → b.deltas ≡ a.deltas → b.answers.names ≡ a.answers.names
    → b.seen.chain ≡ a.seen.chain → b.seen.words ≡ a.seen.words → FrameOfAdd a b
aside_still a b role segment deltas names chain words = record {
  role = role;
  segment = segment;
  deltas = deltas;
  names = names;
  chain = ([], chain ∙ sym (append-nil a.seen.chain));
  words = ([], words ∙ sym (append-nil a.seen.words));
}

-- if it has seen a counts reference
pub aside_counts : (a b : Actor) (histogram found : ℕ) → b.role ≡ a.role → b.segment ≡ a.segment → b.deltas ≡ a.deltas → b.answers.names ≡ a.answers.names
    → b.seen.chain ≡ a.seen.chain → b.seen.words ≡ a.seen.words ++ sight_counts histogram found → FrameOfAdd a b
aside_counts a b histogram found role segment deltas names chain words = record {
  role = role;
  segment = segment;
  deltas = deltas;
  names = names;
  chain = ([], chain ∙ sym (append-nil a.seen.chain));
  words = (sight_counts histogram found, words);
}

-- packing leaves what no call of `add` changes
pub packing_aside : (a : Actor) (e : PackingEvent) (found : ℕ) → FrameOfAdd a (next a (packing_event e) found) × StaysOpen a (next a (packing_event e) found) × ((next a (packing_event e) found).done ≡ a.done)
packing_aside a (load_single histogram) found = (aside_still a (next a (packing_event (load_single histogram)) found) refl refl refl refl refl refl, (refl, refl), refl)
packing_aside a (pack histogram old new) found = by (found == old)
  where
    by : (same : Bool) → FrameOfAdd a (after_pack same a histogram new found) × StaysOpen a (after_pack same a histogram new found)
        × ((after_pack same a histogram new found).done ≡ a.done)
    by true = (aside_still a (after_pack true a histogram new found) refl refl refl refl refl refl, (refl, refl), refl)
    by false = (aside_still a (after_pack false a histogram new found) refl refl refl refl refl refl, (refl, refl), refl)
packing_aside a (mount_counts histogram at) found = by (found == 0)
  where
    by : (none : Bool) → FrameOfAdd a (after_mount none a histogram at found) × StaysOpen a (after_mount none a histogram at found)
        × ((after_mount none a histogram at found).done ≡ a.done)
    by true = (aside_counts a (after_mount true a histogram at found) histogram at refl refl refl refl refl refl, (refl, refl), refl)
    by false = (aside_counts a (after_mount false a histogram at found) histogram found refl refl refl refl refl refl, (refl, refl), refl)
packing_aside a (purge_block at) found = (aside_still a (next a (packing_event (purge_block at)) found) refl refl refl refl refl refl, (refl, refl), refl)
packing_aside a (disable histogram old) found = by (found == old)
  where
    by : (same : Bool) → FrameOfAdd a (after_disable same a histogram old found) × StaysOpen a (after_disable same a histogram old found)
        × ((after_disable same a histogram old found).done ≡ a.done)
    by true = (aside_still a (after_disable true a histogram old found) refl refl refl refl refl refl, (refl, refl), refl)
    by false = (aside_still a (after_disable false a histogram old found) refl refl refl refl refl refl, (refl, refl), refl)
packing_aside a (add_moved counts bucket units) found =
    (aside_still a (next a (packing_event (add_moved counts bucket units)) found) refl refl refl refl refl refl, (refl, refl), refl)

-- ---- a step

module _ (shape : Dimensions) (known : Known) (amid : Amid) (add : Add) (a : Actor) (is : IsAdd shape known amid add a) (stage : AddStage) where
  -- it continues at another stage
  pub goes_still : (b : Actor) → FrameOfAdd a b → StaysOpen a b → DoesOnly false false (serves_counted known add a) a b → StandsAtStage shape known amid (record add { stage = stage }) b stage
      → AddGives shape known amid (record add { stage = stage }) More a b
  goes_still b beside (units, entries) does stands = (
    beside,
    (units, entries),
    does,
    record {
      counting = counts_on shape known add stage is.counting;
      segment = ap (λ s. s.shape) beside.segment ∙ is.segment;
      version = ap (λ s. s.version) beside.segment ∙ is.version;
      lawful_shape = is.lawful_shape;
      knows = subst (λ (l : List Known). Contains l known) (sym beside.names) is.knows;
      alone = ap (λ (l : List Known). known_at l known.reference) beside.names ∙ is.alone;
      rests = ap (λ d. d.taking) beside.deltas ∙ is.rests;
      held = ap (λ u. u.held) units ∙ is.held;
      over = is.over;
      stands = stands;
    },
  )

  -- by an event that it may do
  module _ (words new_words : List ℕ) (event : Event) where
    abbrev found : ℕ
    found = word_at words (spot shape.size event)

    abbrev acted : Actor
    acted = next a event found

    pub acts_on : Ready a event → new_words ≡ after shape.size add.version event words → FrameOfAdd a acted × StaysOpen a acted × (acted.done ≡ a.done)
        → (Learned a event found → StandsAtStage shape known amid (record add { stage = stage }) acted stage)
        → StepsBy shape.size add.version a words new_words (AddGives shape known amid (record add { stage = stage }) More a)
    acts_on ready are beside stands = by_event event ready
        are
        (λ learned apart ordered. goes_still acted beside.0 beside.1 (does_nothing (serves_counted known add a) a acted beside.2) (stands learned))

  pub packs_on : (words new_words : List ℕ) (e : PackingEvent) → Ready a (packing_event e) → new_words ≡ after shape.size add.version (packing_event e) words
      → (Learned a (packing_event e) (word_at words (spot shape.size (packing_event e)))
      → StandsAtStage shape known amid (record add { stage = stage }) (next a (packing_event e) (word_at words (spot shape.size (packing_event e)))) stage)
      → StepsBy shape.size add.version a words new_words (AddGives shape known amid (record add { stage = stage }) More a)
  packs_on words new_words e ready are stands =
      acts_on words new_words (packing_event e) ready are (packing_aside a e (word_at words (spot shape.size (packing_event e)))) stands
