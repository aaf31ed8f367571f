-- What each mark says.
use Rattle.std.proofs.Common.{◌≡◌, Bool, true, false, refl, sym, ◌∙◌, if◌then◌else◌, ◌||◌}
use Rattle.sum_commands.specs.declared.kind.InputKind.TheVariants.{Image, Totals, Other}
use Rattle.sum_commands.specs.Kinds.{begins_with, totals_line, cookie as cookie_bytes, mapped as mapped_bytes}
use Rattle.sum_commands.proofs.kind.kind_of.Goals as goal

by-mapped : (totals cookie mapped : Bool) → totals ≡ false → cookie ≡ false → mapped ≡ true
    → Image ≡ (if totals then Totals else (if cookie || mapped then Image else Other))
by-mapped totals cookie mapped t c m = rw (t, c, m) refl

by-none : (totals cookie mapped : Bool) → totals ≡ false → cookie ≡ false → mapped ≡ false
    → Other ≡ (if totals then Totals else (if cookie || mapped then Image else Other))
by-none totals cookie mapped t c m = rw (t, c, m) refl

pub returns-then-starts_with-3 : goal.returns-then-starts_with-3
returns-then-starts_with-3 c = record {
  kind = by-mapped (begins_with totals_line c.args.front.now) (begins_with cookie_bytes c.args.front.now)
      (begins_with mapped_bytes c.args.front.now) (sym c.starts_with.ensures.value ∙ c.if-starts_with.false)
      (sym c.starts_with-2.ensures.value ∙ c.if-starts_with-2.false) (sym c.starts_with-3.ensures.value ∙ c.if-starts_with-3.true);
}
