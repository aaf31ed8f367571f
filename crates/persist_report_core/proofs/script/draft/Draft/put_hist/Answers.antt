use Rattle.std.proofs.Common.{◌≡◌, ◌∙◌, ◌==◌, ◌++◌, ◌∷◌, [], true, length, map, if◌then◌else◌, Some, None, ap, refl, sym}
use Rattle.std.proofs.lemmas.List.{map-append, length-map}
use Rattle.std.specs.Option.{option_or}
use Rattle.std.specs.Str.{bytes_eq}
use Rattle.persist_report_core.specs.Script.{HistRecord, hist_view, script_view}
use Rattle.persist_report_core.specs.Draft.{known_place}
use Rattle.persist_report_core.proofs.DraftLemmas.{lawful_hist, extended-hist, known_place-push}
use Rattle.persist_report_core.proofs.script.draft.Draft.put_hist.Goals as goal
use Rattle.persist_report_core.proofs.script.draft.Draft.put_hist.Goals.{in-Ok, in-Err}

pub returns : goal.returns
returns c = elim c.match-push.branch [
  | in-Ok w ↦
      let script = script_view c.args.self.now.script in
      let one : HistRecord = record { name = c.args.name.now; spec = c.args.spec; number = c.args.number } in
      let none : (length script.calls == 0) ≡ true = ap (λ count. count == 0) (sym c.args.self.now.script.calls.ok.0) ∙ (sym c.is_empty.ensures ∙ c.if-not-is_empty.false) in
      let all : map hist_view c.push.new.self.items ≡ script.hists ++ one ∷ [] =
      ap (map hist_view) w.in-Ok.ensures.items
      ∙ (map-append hist_view c.args.self.now.script.hists.items _
      ∙ ap (λ name. script.hists ++ (record { name = name; spec = one.spec; number = one.number }) ∷ []) c.in_ok-name.ensures.items) in
      rw w.result-is (record {
        lawful = lawful_hist c.args.self.now.pool c.args.number script one.name one.spec none;
        script_is = extended-hist script.shape script.id script.hists (map hist_view c.push.new.self.items) script.calls c.args.number one.name one.spec all;
        keeps = record {
          placed = λ name.
              c.in_ok-insert_first.ensures name
              ∙ (ap (λ known. option_or known (if bytes_eq one.name name then Some c.len-place.result else None)) (c.requires.draft.placed name)
              ∙ (ap (λ place. option_or (known_place script.hists name) (if bytes_eq one.name name then Some place else None))
              (c.len-place.ensures ∙ (c.args.self.now.script.hists.ok.0 ∙ sym (length-map c.args.self.now.script.hists.items hist_view)))
              ∙ (sym (known_place-push script.hists one name)
              ∙ ap (λ hists. known_place hists name) (sym all))));
          taken = c.requires.draft.taken;
          within = c.requires.draft.within;
        };
        pool_is = refl;
      })
  | in-Err w ↦ rw w.result-is tt
]
