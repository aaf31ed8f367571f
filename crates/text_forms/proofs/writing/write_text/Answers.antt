-- The words have the bytes that the reader had left.
use Rattle.std.proofs.Common.{◌≡◌, List, ℕ, true}
use Rattle.std.specs.Io.KnownBytes.{Appends}
use Rattle.image_reader.specs.Views.{reading_view}
use Rattle.segment_image.specs.Watched.{has_failed, watched_inner}
use Rattle.persist_report_core.specs.Report.{IsReadingOf}
use Rattle.persist_report_core.proofs.Answering.{never_read, not_told}
use Rattle.text_forms.specs.Writing.{HasNoTextFrom, IsWrittenFrom}
use Rattle.text_forms.proofs.Answering.{done_on_bytes, fault_of_bytes, value_of_bytes}
use Rattle.text_forms.proofs.writing.write_text.Goals as goal

pub returns-clause-text : goal.returns-clause-text
returns-clause-text g c =
    done_on_bytes c.write_of_words.result c.in_ok-words.words.items
    (λ bytes. (text : List ℕ) × IsWrittenFrom c.args.form bytes text × Appends (g.W.Write.contents (watched_inner c.args.writer.now)) (g.W.Write.contents (watched_inner c.write_of_words.new.writer)) text)
    (rw c.deref.ensures.value at c.write_of_words.ensures.text) (g.R.Read.remaining (watched_inner c.args.reader.now)) c.in_ok-words.ensures.words

pub returns-clause-reading : goal.returns-clause-reading
returns-clause-reading g c =
    value_of_bytes c.write_of_words.result c.in_ok-words.words.items (λ bytes reading. IsReadingOf bytes (reading_view reading))
    (rw c.deref.ensures.value at c.write_of_words.ensures.reading) (g.R.Read.remaining (watched_inner c.args.reader.now)) c.in_ok-words.ensures.words

pub returns-clause-cause : goal.returns-clause-cause
returns-clause-cause g c =
    fault_of_bytes c.write_of_words.result c.in_ok-words.words.items (HasNoTextFrom c.args.form)
    (rw c.deref.ensures.value at c.write_of_words.ensures.cause) (g.R.Read.remaining (watched_inner c.args.reader.now)) c.in_ok-words.ensures.words

pub returns-clause-read : goal.returns-clause-read
returns-clause-read g c =
    never_read c.write_of_words.result (has_failed c.read_input.new.reader ≡ true) c.write_of_words.ensures.other
    (not_told c.read_input.result c.in_ok-words.words _ c.in_ok-words.was c.read_input.ensures.read)
