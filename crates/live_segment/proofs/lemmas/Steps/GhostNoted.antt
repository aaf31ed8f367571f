-- A step with notes keeps the rule, and reports what any account of it says, since only one account fits it.
use Rattle.std.proofs.Common.{◌≡◌, ℕ, ◌+◌, ◌≤◌, false, List, [], ◌∷◌, ⊎_elim, sym, ap, ◌∙◌, subst, slice_index, arith, Option, Some, w64}
use Rattle.std.specs.Int.{cast_unsigned, cast_signed}
use Rattle.std.proofs.lemmas.Int.{to_z-of_z}
use Rattle.atomic_table.specs.Table.{carried_after, Allows}
use Rattle.segment_machine.specs.declared.actor.Actor.{Actor}
use Rattle.segment_machine.specs.declared.actor.Known.{Known}
use Rattle.segment_machine.specs.declared.place.Look.{Look}
use Rattle.segment_machine.specs.declared.place.Place.{Place}
use Rattle.segment_machine.specs.declared.place.Place.TheVariants.{Looking, Moving}
use Rattle.segment_machine.specs.Actor.{is_opener, known_at, word_seen}
use Rattle.segment_machine.specs.Event.{Event, spot, change, Ready, Learned, next, packing_event}
use Rattle.segment_machine.specs.Form.{IsPacking, packed_word}
use Rattle.segment_machine.specs.Note.{Note, takes}
use Rattle.segment_machine.specs.Packing.{add_moved}
use Rattle.segment_machine.proofs.Values.{value_word}
use Rattle.segment_promises.specs.Follows.{MayNoteAll, noted_by, GhostNoted}
use Rattle.live_segment.specs.declared.rule.Opening.{Opening}
use Rattle.live_segment.specs.declared.segment.Segment.{Segment}
use Rattle.live_segment.specs.Holders.{opened_with}
use Rattle.live_segment.specs.Rule.{Runs}
use Rattle.live_segment.specs.Steps.{Pass, Sat, Does}
use Rattle.live_segment.specs.Steps.GhostNotes.{TellsOf, InWord, InCounts, InSample, InSum, KnowsAlone, IsPacked, IsAddedTo, IsAddedToSample, IsAddedToSum, AddsMoved, MayDo}
use Rattle.live_segment.specs.Steps.Taking.{IsFirstOfDelta, MayBeginDelta}
use Rattle.live_segment.proofs.Seating.Openings.{follows}
use Rattle.live_segment.proofs.lemmas.Steps.Allowed.{does}

-- ---- one account fits

-- a histogram that is the only known one with its reference
pub one_known : (a : Actor) (x y : Known) → x.reference ≡ y.reference → KnowsAlone a x → KnowsAlone a y → x ≡ y
one_known a x y same one other =
    let both : Some x ≡ Some y = sym one ∙ (ap (known_at a.answers.names) same ∙ other) in cc

-- a packed word has only one bucket and one number of units
one_word : (b c j k : ℕ) → j ≤ 65535 → k ≤ 65535 → packed_word b j ≡ packed_word c k → (b ≡ c) × (j ≡ k)
one_word b c j k small few same = (omega arith, omega arith)

-- an exchange packs the units of only one bucket
one_packing : (b c k l old new : ℕ) → IsPacking b k old new → IsPacking c l old new → (b ≡ c) × (k ≡ l)
one_packing b c k l old new (few, first) (small, second) =
    ⊎_elim
    (λ (none, made). ⊎_elim
    (λ (nothing, same). one_word b c k l few small (sym made ∙ same))
    (λ (j, some, most, from, to). absurd (omega arith)) second)
    (λ (i, some, most, from, to). ⊎_elim
    (λ (nothing, same). absurd (omega arith))
    (λ (j, any, more, is, becomes).
    let one = one_word b c i j (omega arith) (omega arith) (sym from ∙ is) in
    let then_is = one_word b c (i + k) (j + l) most more (sym to ∙ becomes) in
    (one.0, let e : i ≡ j = one.1 in let f : i + k ≡ j + l = then_is.1 in omega arith)) second) first

pub one_packed : (a : Actor) (word old new : ℕ) (x y : InWord) → word ≡ x.known.reference + 9 + 1 → word ≡ y.known.reference + 9 + 1
    → IsPacked a x.known.reference old new x → IsPacked a y.known.reference old new y → x ≡ y
one_packed a word old new x y here there (_, knows, packs) (_, known, packed) =
    let same : x.known ≡ y.known = one_known a x.known y.known (omega arith) knows known in
    let parts = one_packing x.bucket y.bucket x.units y.units old new packs packed in
    (λ i. record { known = same i; bucket = parts.0 i; units = parts.1 i })

-- a place looks at only one histogram
abbrev looks : Place → Option Look
looks (Looking look) = Some look
looks _ = Option.None

pub one_added : (a : Actor) (word units : ℕ) (x y : InCounts) → word ≡ x.counts + 4 + x.bucket + 1 → word ≡ y.counts + 4 + y.bucket + 1
    → IsAddedTo a (x.counts + 4 + x.bucket) units x → IsAddedTo a (y.counts + 4 + y.bucket) units y → x ≡ y
one_added a word units x y here there ((one, stands, counts, of), knows, _, many) ((other, place, behind, from), known, _, few) =
    let both : Some one ≡ Some other = ap looks (sym stands ∙ place) in
    let look : one ≡ other = cc in
    let same : x.known ≡ y.known = one_known a x.known y.known (of ∙ (ap (λ (l : Look). l.histogram) look ∙ sym from)) knows known in
    let at : x.counts ≡ y.counts = counts ∙ (ap (λ (l : Look). l.counts) look ∙ sym behind) in
    let bucket : x.bucket ≡ y.bucket = omega arith in
    (λ i. record { known = same i; counts = at i; bucket = bucket i; units = (many ∙ sym few) i })

pub one_sampled : (a : Actor) (word units : ℕ) (x y : InSample) → word ≡ x.sample + 6 + 1 → word ≡ y.sample + 6 + 1
    → IsAddedToSample a x.sample units x → IsAddedToSample a y.sample units y → x ≡ y
one_sampled a word units x y here there (_, knows, (_, of, value, fits), many) (_, known, (_, from, word_is, small), few) =
    let sample : x.sample ≡ y.sample = omega arith in
    let histograms : Some x.known.reference ≡ Some y.known.reference = sym of ∙ (ap (λ (n : ℕ). word_seen a.seen.words (n + 4)) sample ∙ from) in
    let reference : x.known.reference ≡ y.known.reference = cc in
    let words : Some (cast_unsigned w64 x.value) ≡ Some (cast_unsigned w64 y.value) = sym value ∙ (ap (λ (n : ℕ). word_seen a.seen.words (n + 5)) sample ∙ word_is) in
    let one : cast_unsigned w64 x.value ≡ cast_unsigned w64 y.value = cc in
    let values : x.value ≡ y.value = sym (value_word x.value fits) ∙ (ap (cast_signed w64) one ∙ value_word y.value small) in
    let same : x.known ≡ y.known = one_known a x.known y.known reference knows known in
    (λ i. record { known = same i; sample = sample i; value = values i; units = (many ∙ sym few) i })

pub one_summed : (a : Actor) (word number : ℕ) (x y : InSum) → word ≡ x.known.reference + 11 + 1 → word ≡ y.known.reference + 11 + 1
    → IsAddedToSum a x.known.reference number x → IsAddedToSum a y.known.reference number y → x ≡ y
one_summed a word number x y here there (_, knows, is, fits) (_, known, same, small) =
    let one : x.known ≡ y.known = one_known a x.known y.known (omega arith) knows known in
    let amount : x.amount ≡ y.amount = sym (to_z-of_z w64 x.amount fits) ∙ (ap (cast_signed w64) (is ∙ sym same) ∙ to_z-of_z w64 y.amount small) in
    (λ i. record { known = one i; amount = amount i })

-- ---- a step with notes

module _ (given : Opening) (slots id : ℕ) (me : Sat) (word : ℕ) (records : is_opener me.0.role ≡ false) where
  pub tells : (X : Type 0) (Fits : X → Type 0) (before : X → List Note) (event : X → Event) (behind : List Note) (x : X)
      → ((y : X) → Fits y → x ≡ y) → word ≡ spot given.setting.shape.size (event x) + 1 → MayNoteAll me.0 (before x) → Ready (noted_by me.0 (before x)) (event x)
      → ((found : ℕ) → Learned (noted_by me.0 (before x)) (event x) found → MayNoteAll (next (noted_by me.0 (before x)) (event x) found) behind)
      → Allows (Runs given) slots id me word (change given.setting.version (event x)) (TellsOf X Fits before event behind me)
  tells X Fits before event behind x one at may ready goes s run wide mine small =
      let (view, act, valid, holds, told) =
      follows given (before x) (event x) (λ found. behind) slots id me word at records may ready goes s run wide mine small in
      (view, act, valid, holds, λ y fits. subst (λ (z : X). GhostNoted (before z) (event z) (λ found. behind) me (slice_index s.words word) (view, carried_after me.1 act)) (one y fits) told)

  -- what is in transit says where it goes
  pub moves : (counts bucket units : ℕ) → word ≡ counts + 4 + bucket + 1 → (ready : Ready me.0 (packing_event (add_moved counts bucket units)))
      → Allows (Runs given) slots id me word (change given.setting.version (packing_event (add_moved counts bucket units))) (AddsMoved units me)
  moves counts bucket units at ready s run wide mine small =
      let (view, act, valid, holds, told) = does given slots id me word records (packing_event (add_moved counts bucket units)) at ready s run wide mine small in
      let (mine_is, stands, from) = ready in (
        view,
        act,
        valid,
        holds,
        λ look other moving place.
            let one : Moving mine_is bucket units ≡ Moving look other moving = sym stands ∙ place in
            let of : mine_is ≡ look = cc in
            let which : bucket ≡ other = cc in
            let where_is : counts ≡ look.counts = sym from ∙ ap (λ (l : Look). l.counts) of in
            subst (λ (p : ℕ × ℕ). Does (packing_event (add_moved p.0 p.1 units)) me (slice_index s.words word) (view, carried_after me.1 act))
            (λ i. (where_is i, which i)) told,
      )

-- a step of a recorder's seat on a word at an offset from where it happens
module _ (segment : Segment) {seat : Pass} {slots word : ℕ} (id offset : ℕ) (event : ℕ → Event) (at : ℕ) (here : word ≡ at + offset + 1) where
  -- its notes are the same wherever it happens
  pub tells_at : {before behind : List Note} → MayDo seat before (event at) behind
      → word ≡ spot (opened_with segment).setting.shape.size (event at) + 1
      → Allows (Runs (opened_with segment)) slots id seat.me word (change (opened_with segment).setting.version (event at))
      (TellsOf ℕ (λ y. word ≡ y + offset + 1) (λ y. before) event behind seat.me)
  tells_at {before} {behind} may there =
      tells (opened_with segment) slots id seat.me word may.recorder ℕ (λ (y : ℕ). word ≡ y + offset + 1) (λ (y : ℕ). before) event behind at
      (λ y e. omega arith) there may.may may.ready may.goes

  -- it begins a delta of a histogram
  pub begins_delta : (may : MayBeginDelta seat at event) → word ≡ spot (opened_with segment).setting.shape.size (event may.0.reference) + 1
      → Allows (Runs (opened_with segment)) slots id seat.me word (change (opened_with segment).setting.version (event may.0.reference))
      (IsFirstOfDelta offset event word seat.me)
  begins_delta (x, fits, may) there =
      tells (opened_with segment) slots id seat.me word may.recorder Known (λ (y : Known). (word ≡ y.reference + offset + 1) × KnowsAlone seat.me.0 y)
      (λ (y : Known). takes y.name ∷ []) (λ (y : Known). event y.reference) [] x
      (λ y (where_it_is, knows). one_known seat.me.0 x y (let e = fits.0 in omega arith) fits.1 knows) there may.may may.ready may.goes
