use Rattle.std.proofs.Common.{rules, ◌≡◌, ◌∙◌, ℕ, List, [], ◌∷◌, refl, ap, subst}
use Rattle.std.specs.Io.KnownBytes.{Appends}
use Rattle.hist_core.specs.declared.call.Stepped.{Stepped}
use Rattle.hist_core.specs.declared.call.Stepped.TheVariants.{More, Done}
use Rattle.hist_core.specs.Moves.{IsStepped}
use Rattle.stepped.specs.declared.form.Form.{Form}
use Rattle.stepped.specs.Form.{counted, text_of}
use Rattle.stepped.specs.Lines.{effect_of}
use Rattle.stepped.specs.Lines.Deed.{Steps, Ends}
use Rattle.stepped.specs.Replay.{next_found, next_miss}
use Rattle.stepped.proofs.Shown.{writes_one, writes_placed}
use Rattle.stepped.proofs.replay.Replay.step.Goals as goal

pub returns-in-More-clause-ok : goal.returns-in-More-clause-ok
returns-in-More-clause-ok g c =
    let start = g.W.Write.contents c.args.writer.now in let last = g.W.Write.contents c.show_event.new.writer in let change = c.in_ok-said.change in let effect = c.of-effect.result in
    let place = c.args.place in let words = c.advance.new.self.world.world_state.words.items in let form = c.args.self.now.form in
    let did = c.in_ok-said.ensures.ok in
    let old = c.args.self.now.world.world_state in
    let is_effect : effect ≡ effect_of change (next_miss old place.actor) (next_found old place.actor) =
    c.of-effect.ensures ∙ (ap (λ m. effect_of change m c.next_found-load.result) c.next_miss-miss.ensures ∙ ap (effect_of change (next_miss old place.actor)) c.next_found-load.ensures) in
    let raw : Appends start last (text_of c.advance.new.self.form place (Steps c.words.result.now effect)) = search rules in
    let shown : Appends start last (text_of form place (Steps words effect)) =
    subst (λ (w : List ℕ). Appends start last (text_of form place (Steps w effect))) c.words.ensures.words
    (subst (λ (f : Form). Appends start last (text_of f place (Steps c.words.result.now effect))) c.advance.ensures.form raw) in
    let behind : c.show_event.new.self ≡ counted form = c.show_event.ensures.form ∙ ap counted c.advance.ensures.form in (
      Steps words effect ∷ [],
      (More, subst (λ (said : Stepped). IsStepped place.actor c.args.self.now.world.world_state c.advance.new.self.world.world_state said) c.in-More.is did.0, (change, did.1, ap (λ e. Steps words e ∷ []) is_effect)),
      writes_one place form c.show_event.new.self start last (Steps words effect) behind shown,
      λ is. absurd (cc is),
    )

pub returns-in_ok-map_err-in-Done-clause-ok : goal.returns-in_ok-map_err-in-Done-clause-ok
returns-in_ok-map_err-in-Done-clause-ok g c =
    let start = g.W.Write.contents c.args.writer.now in let event = g.W.Write.contents c.show_event.new.writer in
    let last = g.W.Write.contents c.show_end.new.writer in let change = c.in_ok-said.change in let effect = c.of-effect.result in let answer = c.in-Done.answer in
    let place = c.args.place in let words = c.advance.new.self.world.world_state.words.items in let form = c.args.self.now.form in
    let did = c.in_ok-said.ensures.ok in
    let old = c.args.self.now.world.world_state in
    let is_effect : effect ≡ effect_of change (next_miss old place.actor) (next_found old place.actor) =
    c.of-effect.ensures ∙ (ap (λ m. effect_of change m c.next_found-load.result) c.next_miss-miss.ensures ∙ ap (effect_of change (next_miss old place.actor)) c.next_found-load.ensures) in
    let raw : Appends start event (text_of c.advance.new.self.form place (Steps c.words.result.now effect)) = search rules in
    let shown : Appends start event (text_of form place (Steps words effect)) =
    subst (λ (w : List ℕ). Appends start event (text_of form place (Steps w effect))) c.words.ensures.words
    (subst (λ (f : Form). Appends start event (text_of f place (Steps c.words.result.now effect))) c.advance.ensures.form raw) in
    let behind : c.show_event.new.self ≡ counted form = c.show_event.ensures.form ∙ ap counted c.advance.ensures.form in
    let ended : Appends event last (text_of c.show_event.new.self place (Ends answer)) = search rules in (
      Steps words effect ∷ Ends answer ∷ [],
      (Done answer, subst (λ (said : Stepped). IsStepped place.actor c.args.self.now.world.world_state c.advance.new.self.world.world_state said) c.in-Done.is did.0, (change, did.1, ap (λ e. Steps words e ∷ Ends answer ∷ []) is_effect)),
      writes_placed place.number place.actor form c.show_event.new.self c.show_event.new.self start event last (Steps words effect ∷ []) (Ends answer ∷ [])
          (writes_one place form c.show_event.new.self start event (Steps words effect) behind shown)
          (writes_one place c.show_event.new.self c.show_event.new.self event last (Ends answer) refl ended),
      λ is. (Steps words effect ∷ [], answer, refl),
    )
