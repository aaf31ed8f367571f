use Rattle.std.proofs.Common.{List, ℕ, IfOk, subst}
use Rattle.segment_machine.specs.declared.actor.Actor.{Actor}
use Rattle.live_segment.specs.declared.rule.Opening.{Opening}
use Rattle.live_segment.specs.Holders.{IsOpened}
use Rattle.live_segment.proofs.Seating.Seated.{blank_but_for_version, opener_is_first, opens_new}
use Rattle.live_segment.proofs.segment.Segment.new.Goals as goal

pub open-requires-clause-kept : goal.open-requires-clause-kept
open-requires-clause-kept c =
    opens_new (record { setting = c.args.setting; words = c.in_ok-words.words; references = c.new-references.result }) c.requires.shaped c.requires.versioned
    c.requires.empty c.new-references.ensures.items c.in_ok-words.ensures

pub returns : goal.returns
returns c =
    let given : Opening = record { setting = c.args.setting; words = c.in_ok-words.words; references = c.new-references.result } in
    let shaped = c.requires.shaped in
    let versioned = c.requires.versioned in
    let none = c.new-references.ensures.items in
    let words = blank_but_for_version given shaped versioned c.requires.empty none c.in_ok-words.ensures in
    let first = opener_is_first given shaped versioned c.requires.empty none c.in_ok-words.ensures in
    subst (λ (p : List ℕ × Actor). IfOk c.open.result (λ made. IsOpened c.args.setting p.0 p.1 made.0 made.1)) (λ i. (words i, first i)) c.open.ensures
