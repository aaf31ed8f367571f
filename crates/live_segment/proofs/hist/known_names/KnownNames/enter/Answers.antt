use Rattle.std.proofs.Common.{◌≡◌, ◌∙◌, ◌==◌, ◌+◌, ℕ, ◌++◌, ◌∷◌, [], length, Some, None, if◌then◌else◌, ap, refl, subst, sym}
use Rattle.std.specs.Option.{option_or}
use Rattle.list_index.specs.Firsts.{first_of}
use Rattle.list_index.specs.Keys.{byte_key_of}
use Rattle.live_segment.specs.Hist.Answer.{NoneHasName}
use Rattle.live_segment.specs.Hist.KnownNames.{HasNames}
use Rattle.live_segment.specs.declared.hist.known_names.KnownNames.{KnownNames}
use Rattle.live_segment.proofs.lemmas.Hist.NamesHeld.{names_entered, names_longer, names_same}
use Rattle.live_segment.proofs.hist.known_names.KnownNames.enter.Goals as goal
use Rattle.live_segment.proofs.hist.known_names.KnownNames.enter.Goals.{else-self-place-via-then-self-place+else-enter, else-self-place-via-else-self-place}

pub returns-else-self-place : goal.returns-else-self-place
returns-else-self-place c = λ last named.
    let known = c.args.known.now in
    let old = c.args.self.now in
    let none = subst (NoneHasName known) (sym named) c.requires.none in
    elim c.else-self-place.branch [
      | else-self-place-via-then-self-place+else-enter w ↦
          let new : KnownNames = record { entered = old.entered; places = w.enter.new.self } in
          subst (HasNames (known ++ last ∷ [])) (sym w.self-is)
          (names_longer known last new (names_same known old new refl (w.enter.ensures.kept w.if-enter.false).first c.requires.has) none)
      | else-self-place-via-else-self-place w ↦ subst (HasNames (known ++ last ∷ [])) (sym w.self-is) (names_longer known last old c.requires.has none)
    ]

pub returns-then-enter : goal.returns-then-enter
returns-then-enter c = λ last named.
    let known = c.args.known.now in
    let old = c.args.self.now in
    let new : KnownNames = record { entered = old.entered + 1; places = c.enter.new.self } in
    let none = subst (NoneHasName known) (sym named) c.requires.none in
    names_entered known last old new (length known) c.if-self-place.true refl
    (subst (λ (key : ℕ). (other : ℕ) → first_of new.places other ≡ option_or (first_of old.places other) (if key == other then Some (length known) else None))
    (c.key_of_bytes.ensures ∙ ap byte_key_of (sym named)) (c.if-enter.ensures.entered refl))
    c.requires.has none
