-- Where an actor is: at the single word or the counts of a histogram, or after a next that it loaded.
use Rattle.segment_invariant.proofs.Prelude.Std.{◌≡◌, ℕ, ◌==◌, Bool, true, false, if◌then◌else◌, refl, ap, ◌∙◌, eq-eqb, eqb-true}
use Rattle.segment_invariant.proofs.Prelude.Machine.{Look, Place, Looking, is_bound, look_of}
use Rattle.segment_machine.specs.declared.place.Place.TheVariants as place
use Rattle.segment_machine.specs.Calls.{nothing_of}
use Rattle.segment_machine.specs.Taking.{is_looking}
use Rattle.segment_machine.specs.Walking.{behind}
use Rattle.segment_promises.specs.Onward.{is_holding}

-- ---- an actor that has loaded a next holds nothing if it held nothing, and may turn if it could

-- what is not so of its place before is not so of its place then, if it is not so of an idle actor or of one that is after a shared cursor
pub behind_is : (so : Place → Bool) → so place.Idle ≡ false → ((cursor from next : ℕ) → so (place.BehindCursor cursor from next) ≡ false) → (p : Place) (at found : ℕ)
    → so p ≡ false → so (behind p at found) ≡ false
behind_is so idle passed (place.CursorLoaded cursor from) at found was = by (at == from) (found == 12)
  where
    by : (here ends : Bool) → so (if here then (if ends then place.Idle else place.BehindCursor cursor from found) else place.CursorLoaded cursor from) ≡ false
    by true true = idle
    by true false = passed cursor from found
    by false ends = was
behind_is so idle passed p at found was = was

pub behind_apart : (p : Place) (at found : ℕ) → is_holding p ≡ false → is_holding (behind p at found) ≡ false
behind_apart = behind_is is_holding refl (λ cursor from next. refl)

-- and is at no single word and no counts
pub not_looking : (p : Place) → is_holding p ≡ false → is_looking p ≡ false
not_looking (place.FreeLoaded free) holds = absurd (cc holds)
not_looking p holds = holds

pub behind_free : (p : Place) (at found : ℕ) → is_bound p ≡ false → is_bound (behind p at found) ≡ false
behind_free = behind_is is_bound refl (λ cursor from next. refl)

-- ---- what it looks at

-- what it continues with is of the histogram that it looks at
pub looks_there : (place : Place) (histogram : ℕ) → (look_of place histogram).histogram ≡ histogram
looks_there (Looking look) histogram = by_test (look.histogram == histogram) refl
  where
    by_test : (b : Bool) → (look.histogram == histogram) ≡ b → (if b then look else nothing_of histogram).histogram ≡ histogram
    by_test true same = eqb-true look.histogram histogram same
    by_test false apart = refl
looks_there place histogram = refl

-- if it looked at this before, it continues with this
pub looks_again : (place : Place) (look : Look) (histogram : ℕ) → place ≡ Looking look → look.histogram ≡ histogram → look_of place histogram ≡ look
looks_again place look histogram placed same =
    ap (λ (p : Place). look_of p histogram) placed
    ∙ ap (λ (b : Bool). if b then look else nothing_of histogram) (eq-eqb look.histogram histogram same)
