-- A sample goes in if there is none of its histogram and value, and nothing changes if there is one.
use Rattle.std.proofs.Common.{◌≡◌, true, not, ℕ, ℤ, List, ap, sym, ◌∙◌, subst}
use mir.Syntax.{w32}
use mir.Val.{to_z, of_z}
use Rattle.std.specs.Prelude.{All, is_some}
use Rattle.std.specs.BTreeSet.{insert_key}
use Rattle.std.specs.BTreeMap.{insert_entry, is_at}
use Rattle.std.specs.Map.{lookup}
use Rattle.std.specs.Ordering.{int_cmp, is_eq}
use Rattle.std.specs.List.{filter, list_any}
use Rattle.bucket_ranges.specs.Reading.{is_i32}
use Rattle.std.proofs.lemmas.Map.Views.{All-insert_key}
use Rattle.image_reader.specs.Samples.{Entry, by_key, entry_of}
use Rattle.image_reader.proofs.SampleMaps.{by_entry, by_key-total, insert_entry-absent, insert_entry-restored, insert_key-present, filter-insert, of, i32-read}
use Rattle.image_reader.proofs.Laters.{known-is}
use Rattle.image_reader.proofs.sample.Samples.insert.Goals as goal
use Rattle.image_reader.proofs.sample.Samples.insert.Goals.{In_default, In_ok-insert}

-- the entries afterwards, if there was none of its histogram and value
added : (c : In_default) → c.insert.new.self.entries ≡ insert_key by_entry c.args.self.now.map.entries (entry_of c.args.sample.now)
added c =
    let v : ℤ = to_z w32 (of_z w32 c.args.sample.now.value) in
    c.in_ok-first.ensures.entries
    ∙ (insert_entry-absent by_key c.args.self.now.map.entries (c.args.sample.now.histogram, v) (c.args.sample.now.count, c.args.sample.now.mark)
    (sym c.in_ok-first.ensures.old ∙ c.in_default.is)
    ∙ ap (λ (value : ℤ). insert_key by_entry c.args.self.now.map.entries ((c.args.sample.now.histogram, value), (c.args.sample.now.count, c.args.sample.now.mark)))
    (i32-read c.args.sample.now.value c.requires.small))

pub returns-clause-held : goal.returns-clause-held
returns-clause-held c = λ h.
    ap (λ (es : List Entry). filter (of h) es) (added c) ∙ filter-insert h c.args.self.now.map.entries (entry_of c.args.sample.now) c.requires.are.ordered

pub returns-clause-are : goal.returns-clause-are
returns-clause-are c = record {
  ordered = c.in_ok-first.ensures.ordered;
  small = subst (All (λ (entry : Entry). is_i32 entry.0.1 ≡ true)) (sym (added c))
      (All-insert_key by_entry (entry_of c.args.sample.now) (λ (entry : Entry). is_i32 entry.0.1 ≡ true) c.args.self.now.map.entries
      c.requires.are.small c.requires.small);
}

-- the entries afterwards, if there was one
restored : (c : In_ok-insert) → c.insert-in-Some.new.self.entries ≡ c.args.self.now.map.entries
restored c =
    let v : ℤ = to_z w32 (of_z w32 c.args.sample.now.value) in
    let key : ℕ × ℤ = (c.args.sample.now.histogram, v) in
    c.in_ok-insert.ensures.entries
    ∙ (ap (λ (es : List Entry). insert_entry by_key es key c.in-Some.first) c.in_ok-first.ensures.entries
    ∙ insert_entry-restored by_key by_key-total c.args.self.now.map.entries key (c.args.sample.now.count, c.args.sample.now.mark) c.in-Some.first
    c.requires.are.ordered (sym c.in_ok-first.ensures.old ∙ c.in-Some.is))

pub returns-in-Some-clause-held : goal.returns-in-Some-clause-held
returns-in-Some-clause-held c = λ h.
    let v : ℤ = to_z w32 (of_z w32 c.args.sample.now.value) in
    let read : v ≡ c.args.sample.now.value = i32-read c.args.sample.now.value c.requires.small in
    let there : insert_key by_entry c.args.self.now.map.entries ((c.args.sample.now.histogram, v), (c.args.sample.now.count, c.args.sample.now.mark))
    ≡ c.args.self.now.map.entries =
    insert_key-present by_key by_key-total c.args.self.now.map.entries (c.args.sample.now.histogram, v)
    (c.args.sample.now.count, c.args.sample.now.mark) c.requires.are.ordered (ap is_some (sym c.in_ok-first.ensures.old ∙ c.in-Some.is)) in
    ap (λ (es : List Entry). filter (of h) es)
    (restored c ∙ (sym there
    ∙ ap (λ (value : ℤ). insert_key by_entry c.args.self.now.map.entries ((c.args.sample.now.histogram, value), (c.args.sample.now.count, c.args.sample.now.mark))) read))
    ∙ filter-insert h c.args.self.now.map.entries (entry_of c.args.sample.now) c.requires.are.ordered

pub returns-in-Some-clause-are : goal.returns-in-Some-clause-are
returns-in-Some-clause-are c = record {
  ordered = c.in_ok-insert.ensures.ordered;
  small = subst (All (λ (entry : Entry). is_i32 entry.0.1 ≡ true)) (sym (restored c)) c.requires.are.small;
}

-- whether a sample of its histogram and value is held, from what the map had at its key
known : (histogram : ℕ) (value : ℤ) (entries : List Entry) → is_i32 value ≡ true
    → is_some (lookup (is_at (by_key (histogram, to_z w32 (of_z w32 value)))) entries)
    ≡ list_any (λ (e : Entry). is_eq (int_cmp value e.0.1)) (filter (of histogram) entries)
known histogram value entries small =
    ap (λ (v : ℤ). is_some (lookup (is_at (by_key (histogram, v))) entries)) (i32-read value small) ∙ known-is histogram value entries

pub returns-clause-first : goal.returns-clause-first
returns-clause-first c =
    ap (λ found. not (is_some found)) (sym (sym c.in_ok-first.ensures.old ∙ c.in_default.is))
    ∙ ap not (known c.args.sample.now.histogram c.args.sample.now.value c.args.self.now.map.entries c.requires.small)

pub returns-in-Some-clause-first : goal.returns-in-Some-clause-first
returns-in-Some-clause-first c =
    ap (λ found. not (is_some found)) (sym (sym c.in_ok-first.ensures.old ∙ c.in-Some.is))
    ∙ ap not (known c.args.sample.now.histogram c.args.sample.now.value c.args.self.now.map.entries c.requires.small)
