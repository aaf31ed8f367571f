use Rattle.std.proofs.Common.{arith, ◌≡◌, ◌∙◌, ◌++◌, ◌∷◌, [], map, true, false, sym, subst, ap, rules}
use Rattle.std.proofs.lemmas.List.{length-map, map-append}
use Rattle.csv.specs.Reading.{strip_bom}
use Rattle.csv.specs.Records.{fields_of}
use Rattle.persist_report_core.specs.Rows.{IsBehind}
use Rattle.persist_report_core.proofs.Records.{found_is, length-strip_bom, starts}
use Rattle.persist_report_core.proofs.rows.read_rows.Goals as goal

pub records-init : goal.records-init
records-init c = record {
  flexible = search rules;
  ready = search rules;
  behind = subst (λ rows. IsBehind (strip_bom c.args.text.now) (map fields_of rows) c.from_reader-reader.result) (sym c.new-rows.ensures.items)
      (starts c.args.text.now c.from_reader-reader.result (search rules) (search rules) (search rules) (search rules));
}

pub records-smaller : goal.records-smaller
records-smaller c =
    let next = c.in_ok-next_fields.ensures.next (strip_bom c.args.text.now) (map fields_of c.records.rows.items) c.records.invariant.behind in
    (found_is (strip_bom c.args.text.now) _ c.records.reader c.next_fields.new.reader _ true (fields_of c.next_fields.new.fields) c.if-branch.true next).1

pub records-preserved : goal.records-preserved
records-preserved c =
    let text = strip_bom c.args.text.now in
    let rows = map fields_of c.records.rows.items in
    let fields = fields_of c.next_fields.new.fields in
    let next = c.in_ok-next_fields.ensures.next text rows c.records.invariant.behind in
    let more = (found_is text rows c.records.reader c.next_fields.new.reader _ true fields c.if-branch.true next).0 in
    let pushed : rows ++ fields ∷ [] ≡ map fields_of c.push.new.self.items =
    sym (map-append fields_of c.records.rows.items (c.next_fields.new.fields ∷ [])) ∙ ap (map fields_of) (sym c.in_ok-push.ensures.items) in record {
      flexible = c.in_ok-next_fields.ensures.flexible;
      ready = c.in_ok-next_fields.ensures.ready c.if-branch.true;
      behind = subst (λ all. IsBehind text all c.next_fields.new.reader) pushed more;
    }

pub returns-clause-rows : goal.returns-clause-rows
returns-clause-rows c =
    let text = strip_bom c.args.text.now in
    let rows = map fields_of c.records.rows.items in
    let next = c.in_ok-next_fields.ensures.next text rows c.records.invariant.behind in
    sym (found_is text rows c.records.reader c.next_fields.new.reader _ false (fields_of c.next_fields.new.fields) c.if-branch.false next)

pub returns-clause-few : goal.returns-clause-few
returns-clause-few c =
    let behind = c.records.invariant.behind in
    omega (arith, behind.room, length-map c.records.rows.items fields_of, length-strip_bom c.args.text.now)
