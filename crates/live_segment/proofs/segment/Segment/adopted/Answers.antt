use Rattle.std.proofs.Common.{◌-◌, ◌^◌, ◌<◌, ◌∙◌, ℕ, All, refl, sym, ap, arith}
use Rattle.std.proofs.lemmas.Grind.{get_or_default_zero}
use Rattle.segment_machine.specs.declared.actor.Actor.{Actor}
use Rattle.live_segment.proofs.Seating.Adopted.{goes_on, opener_is_adopter, opens_image, said_by}
use Rattle.live_segment.proofs.segment.Segment.adopted.Goals as goal

pub open-requires-clause-kept : goal.open-requires-clause-kept
open-requires-clause-kept c =
    let words = c.args.words.now in
    let narrow : All (λ word. word < 2 ^ 64) words = λ k d h. rw (get_or_default_zero words k d h) (omega (arith, c.type_inv.words k)) in
    let said = said_by words c.args.cursors c.in-Ok.head c.setting_of-setting.result c.in-Ok.ensures c.requires.adoptable.header c.setting_of-setting.ensures in
    opens_image (record { setting = c.setting_of-setting.result; words = c.in_ok-words.words; references = c.args.references }) words c.args.references.items
    c.args.cursors narrow c.requires.listed c.requires.adoptable said refl c.in_ok-words.ensures

pub open-requires-clause-units : goal.open-requires-clause-units
open-requires-clause-units c =
    let words = c.args.words.now in
    let narrow : All (λ word. word < 2 ^ 64) words = λ k d h. rw (get_or_default_zero words k d h) (omega (arith, c.type_inv.words k)) in
    let said = said_by words c.args.cursors c.in-Ok.head c.setting_of-setting.result c.in-Ok.ensures c.requires.adoptable.header c.setting_of-setting.ensures in
    ap (λ (n : ℕ). 4294967295 - n) c.requires.used
    ∙ sym (ap (λ (a : Actor). a.units.share)
    (opener_is_adopter (record { setting = c.setting_of-setting.result; words = c.in_ok-words.words; references = c.args.references }) words c.args.references.items
    c.args.cursors narrow c.requires.listed c.requires.adoptable said refl c.in_ok-words.ensures))

pub returns : goal.returns
returns c =
    let words = c.args.words.now in
    let narrow : All (λ word. word < 2 ^ 64) words = λ k d h. rw (get_or_default_zero words k d h) (omega (arith, c.type_inv.words k)) in
    let said = said_by words c.args.cursors c.in-Ok.head c.setting_of-setting.result c.in-Ok.ensures c.requires.adoptable.header c.setting_of-setting.ensures in
    goes_on (record { setting = c.setting_of-setting.result; words = c.in_ok-words.words; references = c.args.references }) words c.args.references.items
    c.args.cursors narrow c.requires.listed c.requires.adoptable said refl c.in_ok-words.ensures
    c.open.result c.requires.few c.open.ensures
