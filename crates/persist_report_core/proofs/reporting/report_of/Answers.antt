use Rattle.image_reader.specs.Views.{reading_view}
use Rattle.persist_report_core.proofs.reporting.report_of.Goals as goal

pub returns-clause-text : goal.returns-clause-text
returns-clause-text c =
    record { reading = reading_view c.in_ok-reading.reading; reading_is = c.in_ok-reading.ensures.reading; text_is = c.in_ok-report_text.ensures }
