use Rattle.std.proofs.Common.{◌+◌, ◌++◌, ◌∷◌, [], true, false, option_map, rules, arith}
use Rattle.csv.specs.Reading.{strip_bom}
use Rattle.csv.specs.Records.{fields_of}
use Rattle.persist_report_core.specs.Request.{request_view}
use Rattle.persist_report_core.specs.Script.{IsScriptFault, later_fault, opening_fault, script_view}
use Rattle.persist_report_core.proofs.Records.{found_is, length-strip_bom, passed_on, records-behind, starts}
use Rattle.persist_report_core.proofs.ReadScripts.{few_hists, fault_told, read-first, read-more, script_of-empty, script_of-first, script_of-later, script_of-read}
use Rattle.persist_report_core.proofs.script.reading.script_in.Goals as goal

pub returns-then-not-branch-clause-answer : goal.returns-then-not-branch-clause-answer
returns-then-not-branch-clause-answer c =
    let start = starts c.args.bytes.now c.from_reader-reader.result (search rules) (search rules) (search rules) (search rules) in
    let next = c.in_ok-next_fields.ensures.next (strip_bom c.args.bytes.now) [] start in
    (c.requires, script_of-empty c.args.pool c.args.bytes.now (found_is (strip_bom c.args.bytes.now) [] c.from_reader-reader.result c.next_fields.new.reader _ false (fields_of c.next_fields.new.fields) c.if-not-branch.true next))

pub returns-in_err-draft-clause-answer : goal.returns-in_err-draft-clause-answer
returns-in_err-draft-clause-answer c =
    let start = starts c.args.bytes.now c.from_reader-reader.result (search rules) (search rules) (search rules) (search rules) in
    let next = c.in_ok-next_fields.ensures.next (strip_bom c.args.bytes.now) [] start in
    let fields = fields_of c.next_fields.new.fields in
    let behind = (found_is (strip_bom c.args.bytes.now) [] c.from_reader-reader.result c.next_fields.new.reader _ true fields c.if-not-branch.false next).0 in
    let (more, all) = records-behind (strip_bom c.args.bytes.now) (fields ∷ []) c.next_fields.new.reader behind in
    let request = option_map request_view c.in_ok-read_request.field-0 in
    passed_on c.from_residual-in_err-draft.result _ (IsScriptFault c.args.pool c.args.bytes.now) c.in_err-draft.field-0.0 c.from_residual-in_err-draft.ensures.1
    (fault_told c.args.pool c.args.bytes.now (opening_fault request) c.in_err-draft.field-0.0 c.requires
    (λ fault is. script_of-first c.args.pool c.args.bytes.now fields request more fault all c.in_ok-read_request.ensures is) c.in_err-draft.ensures)

pub records-init : goal.records-init
records-init c =
    let start = starts c.args.bytes.now c.from_reader-reader.result (search rules) (search rules) (search rules) (search rules) in
    let next = c.in_ok-next_fields.ensures.next (strip_bom c.args.bytes.now) [] start in
    let fields = fields_of c.next_fields.new.fields in
    let behind = (found_is (strip_bom c.args.bytes.now) [] c.from_reader-reader.result c.next_fields.new.reader _ true fields c.if-not-branch.false next).0 in record {
      flexible = c.in_ok-next_fields.ensures.flexible;
      ready = c.in_ok-next_fields.ensures.ready c.if-not-branch.false;
      read = (fields ∷ [], behind, read-first c.args.pool fields _ c.in_ok-draft.draft c.in_ok-read_request.ensures c.in_ok-draft.ensures);
    }

pub overflow_add-number : goal.overflow_add-number
overflow_add-number c =
    let (rows, behind, read) = c.records.invariant.read in
    omega (arith, behind.room, read.numbered, length-strip_bom c.args.bytes.now)

pub put-requires-clause-few : goal.put-requires-clause-few
put-requires-clause-few c =
    let (rows, behind, read) = c.records.invariant.read in
    few_hists c.args.pool rows c.records.draft c.records.number read

pub records-smaller : goal.records-smaller
records-smaller c =
    let (rows, behind, read) = c.records.invariant.read in
    let next = c.in_ok-next_fields-2.ensures.next (strip_bom c.args.bytes.now) rows behind in
    (found_is (strip_bom c.args.bytes.now) rows c.records.reader c.next_fields-in-records.new.reader _ true (fields_of c.next_fields-in-records.new.fields) c.if-branch.true next).1

pub records-preserved : goal.records-preserved
records-preserved c =
    let (rows, behind, read) = c.records.invariant.read in
    let fields = fields_of c.next_fields-in-records.new.fields in
    let next = c.in_ok-next_fields-2.ensures.next (strip_bom c.args.bytes.now) rows behind in
    let more = (found_is (strip_bom c.args.bytes.now) rows c.records.reader c.next_fields-in-records.new.reader _ true fields c.if-branch.true next).0 in record {
      flexible = c.in_ok-next_fields-2.ensures.flexible;
      ready = c.in_ok-next_fields-2.ensures.ready c.if-branch.true;
      read = (rows ++ fields ∷ [], more, read-more c.args.pool rows c.records.draft c.put.new.self c.records.number fields _ read c.in_ok-read_request-2.ensures c.in_ok-put.ensures);
    }

pub returns-in_err-put-clause-answer : goal.returns-in_err-put-clause-answer
returns-in_err-put-clause-answer c =
    let (rows, behind, read) = c.records.invariant.read in
    let fields = fields_of c.next_fields-in-records.new.fields in
    let next = c.in_ok-next_fields-2.ensures.next (strip_bom c.args.bytes.now) rows behind in
    let further = (found_is (strip_bom c.args.bytes.now) rows c.records.reader c.next_fields-in-records.new.reader _ true fields c.if-branch.true next).0 in
    let (more, all) = records-behind (strip_bom c.args.bytes.now) (rows ++ fields ∷ []) c.next_fields-in-records.new.reader further in
    let request = option_map request_view c.in_ok-read_request-2.field-0 in
    let expected = later_fault c.records.draft.pool (c.records.number + 1) (script_view c.records.draft.script) request in
    passed_on c.from_residual-in_err-put.result _ (IsScriptFault c.args.pool c.args.bytes.now) c.in_err-put.field-0.0 c.from_residual-in_err-put.ensures.1
    (fault_told c.args.pool c.args.bytes.now expected c.in_err-put.field-0.0 c.requires
    (λ fault is. script_of-later c.args.pool c.args.bytes.now rows c.records.draft c.records.number fields request more fault read all c.in_ok-read_request-2.ensures is) c.in_err-put.ensures)

pub returns-clause-answer : goal.returns-clause-answer
returns-clause-answer c =
    let (rows, behind, read) = c.records.invariant.read in
    let next = c.in_ok-next_fields-2.ensures.next (strip_bom c.args.bytes.now) rows behind in
    let all = found_is (strip_bom c.args.bytes.now) rows c.records.reader c.next_fields-in-records.new.reader _ false (fields_of c.next_fields-in-records.new.fields) c.if-branch.false next in
    script_of-read c.args.pool c.args.bytes.now rows c.records.draft c.records.number all read
