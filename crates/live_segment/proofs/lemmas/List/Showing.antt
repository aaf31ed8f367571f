-- Words of a record on the list are loaded, one after the other: what their recorder has seen between two loads.
use Rattle.std.proofs.Common.{◌≡◌, ◌≢◌, ℕ, ◌+◌, ◌<◌, ◌^◌, Bool, false, List, [], ◌∷◌, ◌++◌, length, slice_index, inl, inr, refl, sym, ap, subst, ◌∙◌, arith, eq-eqb, ne_eqb}
use Rattle.std.specs.Prelude.{Some, if◌then◌else◌}
use mathlib.Core.Logic.{dite}
use native.Mathlib.Decide.{ℕ_discrete}
use Rattle.std.specs.Int.{from_le_bytes, w64}
use Rattle.std.proofs.lemmas.List.{append-nil}
use Rattle.std.proofs.lemmas.Nat.{from_le_bytes-to_le_bytes_8}
use Rattle.segment_image.specs.Words.{bytes_of_words}
use Rattle.segment_machine.specs.declared.actor.Actor.{Actor}
use Rattle.segment_machine.specs.declared.seen.Sighting.{Sighting}
use Rattle.segment_machine.specs.Actor.{is_opener, word_seen}
use Rattle.segment_machine.specs.Calls.{sight}
use Rattle.segment_machine.specs.Event.{walking_event}
use Rattle.segment_machine.specs.Walking.{load_published, IsFixed, IsFixedBehind}
use Rattle.live_segment.specs.declared.segment.Segment.{Segment}
use Rattle.live_segment.specs.Holders.{table_of, MayStep}
use Rattle.segment_promises.specs.Onward.{Grows}
use Rattle.live_segment.specs.Steps.{Pass, IsSame, Stepped}
use Rattle.live_segment.specs.Hist.ListSearch.{MayLoadRecord, SeesWords, ShowsWords}
use Rattle.segment_promises.proofs.Growing.{grows_on, still}

-- ---- what was seen stays

fixed_behind : (a b : Actor) (at index : ℕ) → Grows a.seen.words b.seen.words → IsFixedBehind a at index → IsFixedBehind b at index
fixed_behind a b at index grows (inl field) = inl field
fixed_behind a b at index grows (inr (inl length_is)) = inr (inl length_is)
fixed_behind a b at index grows (inr (inr (len, seen, from, inl name))) =
    inr (inr (len, still a.seen.words b.seen.words grows (at + 14) len seen, from, inl name))
fixed_behind a b at index grows (inr (inr (len, seen, from, inr (n, kind, many, range)))) =
    inr (inr (
      len,
      still a.seen.words b.seen.words grows (at + 14) len seen,
      from,
      inr (n, still a.seen.words b.seen.words grows (at + 4) 3 kind, still a.seen.words b.seen.words grows (at + 7) n many, range),
    ))

fixed_still : (a b : Actor) (at index : ℕ) → Grows a.seen.words b.seen.words → IsFixed a at index → IsFixed b at index
fixed_still a b at index grows (inl tag) = inl tag
fixed_still a b at index grows (inr (inl (tag, behind))) =
    inr (inl (still a.seen.words b.seen.words grows (at + 2) 1 tag, fixed_behind a b at index grows behind))
fixed_still a b at index grows (inr (inr (tag, from, to))) = inr (inr (still a.seen.words b.seen.words grows (at + 2) 3 tag, from, to))

-- a word that is seen now is what was found, also if it was seen before
seen_now : (list : List Sighting) (at found : ℕ) → ((word : ℕ) → word_seen list at ≡ Some word → found ≡ word)
    → word_seen (list ++ sight at found) at ≡ Some found
seen_now [] at found same = ap (λ (b : Bool). if b then Some found else word_seen [] at) (eq-eqb at at refl)
seen_now (s ∷ rest) at found same = dite (ℕ_discrete s.at at)
    (λ here.
    let now = ap (λ (b : Bool). if b then Some s.word else word_seen rest at) (eq-eqb s.at at here) in
    ap (λ (b : Bool). if b then Some s.word else word_seen (rest ++ sight at found) at) (eq-eqb s.at at here) ∙ ap Some (sym (same s.word now)))
    (λ apart.
    let now = ap (λ (b : Bool). if b then Some s.word else word_seen rest at) (ne_eqb s.at at apart) in
    ap (λ (b : Bool). if b then Some s.word else word_seen (rest ++ sight at found) at) (ne_eqb s.at at apart)
    ∙ seen_now rest at found (λ word is. same word (now ∙ is)))

-- ---- between two loads

pub sees_not : (a : Actor) → SeesWords a a
sees_not a = record { view = refl; words = ([], sym (append-nil a.seen.words)) }

pub sees_on : (a b c : Actor) → SeesWords a b → SeesWords b c → SeesWords a c
sees_on a b c one two = record {
  view = two.view ∙ ap (λ (x : Actor). record x { seen = record x.seen { words = c.seen.words } }) one.view;
  words = grows_on a.seen.words b.seen.words c.seen.words one.words two.words;
}

-- a record that was visited is still one that was visited
pub meets_still : (at : ℕ) (a b : Actor) → SeesWords a b → MayLoadRecord at a → MayLoadRecord at b
meets_still at a b sees met = subst (MayLoadRecord at) (sym sees.view) met

-- ---- a load

module _ (old new : Pass) (at index found : ℕ) (step : Stepped old (walking_event (load_published at index)) found new) where
  words_are : new.me.0.seen.words ≡ old.me.0.seen.words ++ sight (at + index) found
  words_are = ap (λ (a : Actor). a.seen.words) step.view

  pub sees_one : SeesWords old.me.0 new.me.0
  sees_one = record {
    view = step.view ∙ ap (λ (l : List Sighting). record old.me.0 { seen = record old.me.0.seen { words = l } }) (sym words_are);
    words = (sight (at + index) found, words_are);
  }

  pub seen_one : word_seen new.me.0.seen.words (at + index) ≡ Some found
  seen_one = ap (λ (l : List Sighting). word_seen l (at + index)) words_are ∙ seen_now old.me.0.seen.words (at + index) found step.learned.1

module _ (segment : Segment) (first old : Pass) (at : ℕ) (table : first.table_id ≡ table_of segment) (records : is_opener first.me.0.role ≡ false)
    (met : MayLoadRecord at first.me.0) (same : IsSame first old) (sees : SeesWords first.me.0 old.me.0) where
  -- a word may be loaded that never changes
  pub may_load_fixed : (index : ℕ) → IsFixed old.me.0 at index → MayStep segment old (walking_event (load_published at index))
  may_load_fixed index fixed = record {
    table = same.0 ∙ table;
    recorder = ap (λ (a : Actor). is_opener a.role) sees.view ∙ records;
    ready = let there = meets_still at first.me.0 old.me.0 sees met in (there.0, there.1, fixed);
  }

  -- as one that was known before never to change
  pub may_load : (index : ℕ) → IsFixed first.me.0 at index → MayStep segment old (walking_event (load_published at index))
  may_load index fixed = may_load_fixed index (fixed_still first.me.0 old.me.0 at index sees.words fixed)

pub same_on : (a b c : Pass) → IsSame a b → IsSame b c → IsSame a c
same_on a b c one two = (two.0 ∙ one.0, two.1 ∙ one.1, two.2 ∙ one.2)

-- ---- several words

-- words of 64 bits that differ have other bytes
pub words_apart : (x y : ℕ) → x < 2 ^ 64 → y < 2 ^ 64 → x ≢ y → bytes_of_words (x ∷ []) ≢ bytes_of_words (y ∷ [])
words_apart x y low below apart same =
    apart (sym (from_le_bytes-to_le_bytes_8 x low) ∙ (ap (from_le_bytes w64) same ∙ from_le_bytes-to_le_bytes_8 y below))

module _ (old new : Pass) (at from k found : ℕ) (words : List ℕ) (step : Stepped old (walking_event (load_published at (from + k))) found new) where
  seen_there : word_seen new.me.0.seen.words (at + from + k) ≡ Some found
  seen_there =
      let here : at + (from + k) ≡ at + from + k = omega arith in
      ap (word_seen new.me.0.seen.words) (sym here) ∙ seen_one old new at (from + k) found step

  -- one more word is as it has to be
  pub one_more : ((j : ℕ) → j < k → word_seen old.me.0.seen.words (at + from + j) ≡ Some (slice_index words j)) → found ≡ slice_index words k
      → (j : ℕ) → j < k + 1 → word_seen new.me.0.seen.words (at + from + j) ≡ Some (slice_index words j)
  one_more shown is j below = dite (ℕ_discrete j k)
      (λ here. subst (λ (n : ℕ). word_seen new.me.0.seen.words (at + from + n) ≡ Some (slice_index words n)) (sym here) (seen_there ∙ ap Some is))
      (λ apart. still old.me.0.seen.words new.me.0.seen.words (sees_one old new at (from + k) found step).words (at + from + j) (slice_index words j)
      (shown j (omega (arith, below, apart))))

  pub one_other : k < length words → found ≢ slice_index words k → found < 2 ^ 64 → slice_index words k < 2 ^ 64 → ShowsWords at from words false new.me.0.seen
  one_other inside other small small_own = (k, found, inside, seen_there, words_apart found (slice_index words k) small small_own other)
