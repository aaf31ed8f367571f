use Rattle.std.proofs.Common.{◌≡◌, ◌∙◌, ℕ, Bool, List, [], Bor, Option, None, not, false, ap, subst, sym}
use Rattle.std.specs.Prelude.{◌↔◌, is_some}
use Rattle.std.specs.List.{find}
use Rattle.std.proofs.lemmas.List.{take_all}
use Rattle.image_reader.specs.Views.{reading_view}
use Rattle.reading_shows.specs.Missing.{is_there, names_of, AreAllThere}
use Rattle.reading_shows.proofs.AllThere.{none-exactly}
use Rattle.reading_shows.proofs.Steps.{found_at, unfound-more}
use Rattle.reading_shows.proofs.missing.first_missing.Goals as goal

pub returns-then-not-is_there-clause-first : goal.returns-then-not-is_there-clause-first
returns-then-not-is_there-clause-first c =
    let test : Bor (List ℕ) → Bool = λ name. not (is_there (reading_view c.args.reading.now) name) in
    let names = c.names_of-name-items.result.now in
    let found = found_at test names c.loop-name.name-index (record { ref_ptr = (0, 0); now = [] }) c.loop-name-test.true c.loop-name.invariant
    (ap not (sym c.is_there.ensures ∙ c.if-not-is_there.true)) in
    sym (ap (find test) (sym c.names_of-name-items.ensures) ∙ found)

pub loop-name-preserved : goal.loop-name-preserved
loop-name-preserved c =
    let test : Bor (List ℕ) → Bool = λ name. not (is_there (reading_view c.args.reading.now) name) in
    unfound-more test c.names_of-name-items.result.now c.loop-name.name-index (record { ref_ptr = (0, 0); now = [] }) c.loop-name-test.true c.loop-name.invariant
    (ap not (sym c.is_there.ensures ∙ c.if-not-is_there.false))

pub returns-clause-none : goal.returns-clause-none
returns-clause-none c =
    let there : Bor (List ℕ) → Bool = is_there (reading_view c.args.reading.now) in
    let names = c.names_of-name-items.result.now in
    let none : find (λ name. not (there name)) (names_of c.args.choice.now) ≡ None =
    ap (find (λ name. not (there name))) (sym c.names_of-name-items.ensures ∙ sym (take_all c.loop-name.name-index names c.loop-name-test.false)) ∙ c.loop-name.invariant in
    subst (λ (one : Option (Bor (List ℕ))). (is_some one ≡ false) ↔ AreAllThere c.args.choice.now (reading_view c.args.reading.now)) none (none-exactly there (names_of c.args.choice.now))
