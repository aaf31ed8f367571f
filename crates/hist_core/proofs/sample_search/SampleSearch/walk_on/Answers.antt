use Rattle.segment_invariant.proofs.Prelude.Std.{◌≡◌, ◌≤◌, ℕ, ◌∷◌, ◌++◌, true, sym, subst, arith, props, ∥∥₁_elim}
use Rattle.segment_invariant.proofs.Prelude.Machine.{Dimensions, IsShape, is_reference}
use Rattle.hist_core.proofs.Left.Searches.{ends_less, meets_less, strays_less}
use Rattle.hist_core.proofs.Makes.Drafts.{is_wide}
use Rattle.hist_core.proofs.AddCall.Searches.{ends, meets, strays}
use Rattle.hist_core.proofs.sample_search.SampleSearch.walk_on.Goals as goal

pub step-requires-clause-headed : goal.step-requires-clause-headed
step-requires-clause-headed c = ∥∥₁_elim c.requires.stands (hlevel props) (λ (shape, a, long, is). let wide = is_wide shape is.lawful_shape in omega (arith, wide, long))

pub step-requires-clause-reach : goal.step-requires-clause-reach
step-requires-clause-reach c =
    ∥∥₁_elim c.requires.stands (hlevel props) (λ (shape, a, long, is). subst (λ (n : ℕ). is_reference n c.args.self.now.walk ≡ true) (sym long) is.reach)

pub start-new_record-requires-clause-lawful : goal.start-new_record-requires-clause-lawful
start-new_record-requires-clause-lawful c = ∥∥₁_elim c.requires.stands (hlevel props) (λ (shape, a, long, is). subst IsShape (sym is.shaped) is.lawful_shape)

pub start-new_record-requires-clause-one_page : goal.start-new_record-requires-clause-one_page
start-new_record-requires-clause-one_page c = ∥∥₁_elim c.requires.stands (hlevel props)
    (λ (shape, a, long, is). subst (λ (d : Dimensions). 8 ≤ d.page) (sym is.shaped) (let wide = is.lawful_shape.wide in omega (arith, wide)))

pub returns-in-Record-clause-steps : goal.returns-in-Record-clause-steps
returns-in-Record-clause-steps c = λ shape version a long is.
    let did = c.in-Record.ensures in
    meets shape version c.args.self.now a c.args.words.now long is c.requires.walks c.in-Record.at c.step.new.self did.says (did.given (is.front ++ c.args.self.now.histogram ∷ is.behind) is.walk) did.reach did.stands

pub returns-in-End-clause-steps : goal.returns-in-End-clause-steps
returns-in-End-clause-steps c = λ shape version a long is.
    let did = c.in-End.ensures in
    ends shape version c.args.self.now a c.args.words.now long is c.requires.walks c.step.new.self c.start-new_record.result did.says did.stands c.start-new_record.ensures

pub returns-in-Stray-clause-steps : goal.returns-in-Stray-clause-steps
returns-in-Stray-clause-steps c = λ shape version a long is.
    let did = c.in-Stray.ensures in
    strays shape version c.args.self.now a c.args.words.now long is c.requires.walks c.step.new.self did.says did.stands

pub returns-in-Record-clause-less : goal.returns-in-Record-clause-less
returns-in-Record-clause-less c =
    let did = c.in-Record.ensures in
    meets_less c.args.self.now c.args.words.now c.requires.walks c.in-Record.at c.step.new.self did.says did.stands

pub returns-in-End-clause-less : goal.returns-in-End-clause-less
returns-in-End-clause-less c =
    ends_less c.args.self.now c.args.words.now c.requires.walks c.step.new.self 4 3 c.start-new_record.result c.start-new_record.ensures

pub returns-in-Stray-clause-less : goal.returns-in-Stray-clause-less
returns-in-Stray-clause-less c =
    let did = c.in-Stray.ensures in strays_less c.args.self.now c.args.words.now c.requires.walks c.step.new.self did.says
