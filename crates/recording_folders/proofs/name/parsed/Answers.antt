use Rattle.std.proofs.Common.{◌∙◌, ap}
use Rattle.std.specs.Result.{result_ok}
use Rattle.recording_folders.proofs.Padded.{of_err, of_ok, padded_text, padded_parses}
use Rattle.recording_folders.proofs.name.parsed.Goals as goal

pub returns-in_err-text : goal.returns-in_err-text
returns-in_err-text c number small is =
    absurd ((of_err _ _ c.from_utf8.result c.in_err-text.ensures.value c.from_utf8.ensures.cases).1.0 (padded_text _ number small is))

pub returns : goal.returns
returns c number small is =
    let text = (of_ok _ _ c.from_utf8.result c.in_ok-text.text c.in_ok-text.ensures.value c.from_utf8.ensures.cases).0 in
    c.ok-2.ensures.value ∙ ap result_ok (padded_parses c.in_ok-text.text.now number c.parse.result small (text ∙ is) c.parse.ensures.value.0)
