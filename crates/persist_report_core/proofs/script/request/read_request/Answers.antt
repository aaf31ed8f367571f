use Rattle.std.proofs.Common.{◌≡◌, IfOk, option_map, subst, sym}
use Rattle.csv.specs.Records.{fields_of}
use Rattle.persist_report_core.specs.Request.{request_view}
use Rattle.persist_report_core.proofs.Requests.{request_in-empty, request_in-word}
use Rattle.persist_report_core.proofs.script.request.read_request.Goals as goal

pub returns-in-Some : goal.returns-in-Some
returns-in-Some c =
    subst (λ asked. IfOk c.read_behind.result (λ request. option_map request_view request ≡ asked))
    (sym (request_in-word (fields_of c.args.fields.now) c.in-Some.word.now (sym c.in-Some.ensures.value))) c.read_behind.ensures

pub returns-in-None : goal.returns-in-None
returns-in-None c = sym (request_in-empty (fields_of c.args.fields.now) (sym c.in-None.ensures.value))
