-- How what is done is shown: by lines, or by the rows of a picture.
use Rattle.std.specs.Prelude.{◌≡◌, ℕ, ◌+◌, min, List, [], ◌∷◌, ◌++◌, Option}
use Rattle.std.specs.Fmt.{decimal}
use Rattle.std.specs.Io.KnownBytes.{Appends}
use Rattle.stepped.specs.declared.form.Form.{Form}
use Rattle.stepped.specs.declared.form.Form.TheVariants.{Lines, Picture}
use Rattle.stepped.specs.declared.lines.LinePlace.{LinePlace}
use Rattle.stepped.specs.Lines.{Deed, deed_line, load_of}
use Rattle.stepped.specs.Lines.Deed.{Begins, AtOnce, Steps, Ends, Looks}
use Rattle.stepped.specs.Picture.{answer_cell, begin_cell, event_cell, load_cell, row}

-- the number of the event after this many: it stays at the greatest of its type
abbrev pub next_number : ℕ → ℕ
next_number events = min (events + 1) 18446744073709551615

-- a picture counts its events
abbrev pub counted : Form → Form
counted Lines = Lines
counted (Picture events) = Picture (next_number events)

-- how the next is shown after what was done
abbrev pub form_after : Deed → Form → Form
form_after (Begins call) form = form
form_after (AtOnce call answer) form = form
form_after (Steps words effect) form = counted form
form_after (Ends answer) form = form
form_after (Looks words at) form = form

-- the text of what was done: in a picture a begin, an event, an answer and a load of a look have a row each
abbrev pub text_of : Form → LinePlace → Deed → List ℕ
text_of Lines place deed = deed_line place deed
text_of (Picture events) place (Begins call) = row [] place.actor (begin_cell place.actor call)
text_of (Picture events) place (AtOnce call answer) = row [] place.actor (begin_cell place.actor call) ++ row [] place.actor (answer_cell answer)
text_of (Picture events) place (Steps words effect) = row (decimal (next_number events)) place.actor (event_cell words effect)
text_of (Picture events) place (Ends answer) = row [] place.actor (answer_cell answer)
text_of (Picture events) place (Looks words at) = row [] 0 (load_cell place.actor words (load_of words at))

-- how the next is shown after all that was done, each at its place
abbrev pub form_behind : Form → List (LinePlace × Deed) → Form
form_behind form [] = form
form_behind form (done ∷ rest) = form_behind (form_after done.1 form) rest

-- the text of all that was done, one after the other
abbrev pub texts : Form → List (LinePlace × Deed) → List ℕ
texts form [] = []
texts form (done ∷ rest) = text_of form done.0 done.1 ++ texts (form_after done.1 form) rest

-- all that was done is written, and the next is shown after it
abbrev pub Writes : Form → Form → Option (List ℕ) → Option (List ℕ) → List (LinePlace × Deed) → Type 0
Writes old new before behind done = (new ≡ form_behind old done) × Appends before behind (texts old done)
