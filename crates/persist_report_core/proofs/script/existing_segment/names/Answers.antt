use Rattle.std.proofs.Common.{ℕ, List, [], ◌∷◌, true, false, rules, sym, ap, ◌∙◌}
use Rattle.std.specs.Prelude.{slice_index_or}
use Rattle.csv.specs.Reading.{strip_bom}
use Rattle.csv.specs.Records.{fields_of}
use Rattle.persist_report_core.specs.Request.{request_in}
use Rattle.persist_report_core.specs.Script.{names_segment}
use Rattle.persist_report_core.proofs.Records.{found_is, records-behind, starts}
use Rattle.persist_report_core.proofs.script.existing_segment.names.Goals as goal

pub returns-then-not-branch : goal.returns-then-not-branch
returns-then-not-branch c =
    let start = starts c.args.bytes.now c.from_reader-reader.result (search rules) (search rules) (search rules) (search rules) in
    let next = c.in_ok-next_fields.ensures.next (strip_bom c.args.bytes.now) [] start in
    let none = found_is (strip_bom c.args.bytes.now) [] c.from_reader-reader.result c.next_fields.new.reader _ false (fields_of c.next_fields.new.fields) c.if-not-branch.true next in
    ap (λ (rows : List (List (List ℕ))). names_segment c.args.shape c.args.id (request_in (slice_index_or rows 0 []))) (sym none)

pub returns : goal.returns
returns c =
    let start = starts c.args.bytes.now c.from_reader-reader.result (search rules) (search rules) (search rules) (search rules) in
    let next = c.in_ok-next_fields.ensures.next (strip_bom c.args.bytes.now) [] start in
    let fields = fields_of c.next_fields.new.fields in
    let behind = (found_is (strip_bom c.args.bytes.now) [] c.from_reader-reader.result c.next_fields.new.reader _ true fields c.if-not-branch.false next).0 in
    let (more, all) = records-behind (strip_bom c.args.bytes.now) (fields ∷ []) c.next_fields.new.reader behind in
    c.is_of_segment.ensures
    ∙ ap (names_segment c.args.shape c.args.id)
    (c.in_ok-read_request.ensures ∙ ap (λ (rows : List (List (List ℕ))). request_in (slice_index_or rows 0 [])) (sym all))
