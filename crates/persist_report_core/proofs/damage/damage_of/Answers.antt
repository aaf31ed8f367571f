use Rattle.std.proofs.Common.{◌≡◌, ◌∙◌, ap, false, map, subst, sym}
use Rattle.std.specs.Prelude.{◌↔◌, is_some, option_copied}
use Rattle.image_reader.specs.Views.{bad_view, reading_view}
use Rattle.persist_report_core.specs.Damage.{IsReadWhole}
use Rattle.persist_report_core.proofs.Wholeness.{first_is_bad, none_is_bad, whole_exactly}
use Rattle.persist_report_core.proofs.damage.damage_of.Goals as goal

pub returns-in-Some : goal.returns-in-Some
returns-in-Some c =
    let all = c.args.reading.now.bad.items in
    let stopped = c.args.reading.now.stopped in
    let found = rw c.deref.ensures.value at c.first.ensures.value in
    let is = sym (ap option_copied c.in-Some.is) ∙ found in
    let fault = first_is_bad all c.in-Some.bad.now stopped is in
    record {
      fault = fault;
      whole = subst (λ one. (is_some one ≡ false) ↔ IsReadWhole (reading_view c.args.reading.now)) (sym fault) (whole_exactly (map bad_view all) stopped);
    }

pub returns-in-None : goal.returns-in-None
returns-in-None c =
    let all = c.args.reading.now.bad.items in
    let stopped = c.args.reading.now.stopped in
    let found = rw c.deref.ensures.value at c.first.ensures.value in
    let is = sym (ap option_copied c.in-None.is) ∙ found in
    let fault = c.fault_of_stop.ensures ∙ sym (none_is_bad all stopped is) in
    record {
      fault = fault;
      whole = subst (λ one. (is_some one ≡ false) ↔ IsReadWhole (reading_view c.args.reading.now)) (sym fault) (whole_exactly (map bad_view all) stopped);
    }
