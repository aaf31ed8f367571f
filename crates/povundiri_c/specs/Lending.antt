-- What an opaque box holds after a borrow.
use Rattle.std.specs.Prelude.{Some}
use Rattle.std.specs.Borrow.{Fml, Lends, MutBor}
use Rattle.povundiri_c.specs.declared.contents.Contents.{Contents}
use Rattle.povundiri_c.specs.declared.opaque_box.OpaqueBox.{OpaqueBox}
use Rattle.povundiri_c.specs.contracts.contents.Contents.{the_row as contents_row}
use Rattle.povundiri_c.specs.contracts.opaque_box.OpaqueBox.{the_row as box_row}

-- the box with this in it
abbrev pub with_held : OpaqueBox → Contents → OpaqueBox
with_held box held = record box { held = Some held }

-- the box holds what the borrower has left there
abbrev pub LendsContents : MutBor OpaqueBox → MutBor Contents → Fml
LendsContents s r = Lends box_row contents_row s r (with_held s.now)
