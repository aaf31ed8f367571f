use Rattle.std.proofs.Common.{ap, refl, sym, subst, Option}
use Rattle.reading_sums.specs.declared.sums.Sums.{Sums}
use Rattle.povundiri_c.specs.Sums.{AddsOther, sums_in}
use Rattle.povundiri_c.proofs.Summing.{by_sums, no_sums}
use Rattle.povundiri_c.proofs.contents.Contents.add_other.Goals as goal

pub returns-in-Sums-other : goal.returns-in-Sums-other
returns-in-Sums-other c =
    by_sums 5 (AddsOther (sums_in c.args.other.now)) c.args.self.now c.in-Sums.sums c.add_other.new.sums c.add_other.result c.in-Sums.is
    (subst (λ (one : Option Sums). AddsOther one c.in-Sums.sums c.add_other.result c.add_other.new.sums) (sym (ap sums_in c.in-Sums-other.is)) c.add_other.ensures)

pub returns-in_default-other : goal.returns-in_default-other
returns-in_default-other c =
    by_sums 5 (AddsOther (sums_in c.args.other.now)) c.args.self.now c.in-Sums.sums c.in-Sums.sums 5 c.in-Sums.is
    (subst (λ (one : Option Sums). AddsOther one c.in-Sums.sums 5 c.in-Sums.sums) (sym (no_sums c.args.other.now c.in_default-other.not-Sums)) (refl, refl))
