-- The records of a text, read one after the other.
use Rattle.std.proofs.Common.{Result, Ok, Err, IsErrAnd, MatchResult, ◌≡◌, ◌∙◌, ℕ, suc, ◌+◌, ◌-◌, ◌<◌, ◌≤◌, ◌==◌, ◌&&◌, Bool, true, false, List, [], ◌∷◌, ◌++◌, length, Option, Some, None, if◌then◌else◌, zero-add, ap, refl, subst, sym, arith}
use Rattle.std.specs.Borrow.{Bor}
use Rattle.std.proofs.lemmas.List.{append-nil, length-append}
use Rattle.csv.specs.Machine.{Read, after_end, ends_at_end, ends_with, is_byte, field_after, fields_after, in_field, is_end, next_record, start_field, start_record, step}
use Rattle.csv.specs.Reading.{NextIs, Reached, ReadRecord, default_config, is_bom, pending_of, reader_config, reader_state, reader_trim, records, records_from, strip_bom}
use Rattle.csv.specs.declared.parser.Action.{Action}
use Rattle.csv.specs.declared.parser.Action.TheVariants as act
use Rattle.csv.specs.declared.parser.Config.{Config}
use Rattle.csv.specs.declared.parser.State.{State}
use Rattle.csv.specs.declared.parser.State.TheVariants as st
use Rattle.csv.specs.declared.parser.Terminator.{Terminator}
use Rattle.csv.specs.declared.parser.Terminator.TheVariants as term
use Rattle.csv.specs.declared.reader.Reader.{Reader}
use Rattle.csv.specs.declared.reader.Trim.TheVariants as trim
use Rattle.csv.proofs.ReadFacts.{rows-end, rows-more}
use Rattle.persist_report_core.specs.Rows.{IsBehind, IsNextRow, left_of}

-- ---- between two records, the end of the text ends no record

-- if an action ends a record, the state after it is between two records
record Rests (next : State × Action) : Type 0 where
  at_end : is_end next.1 ≡ true → ends_at_end next.0 ≡ false

Rests-if : {x y : State × Action} (b : Bool) → Rests x → Rests y → Rests (if b then x else y)
Rests-if true p q = p
Rests-if false p q = q

skips : (s : State) → Rests (s, act.Skip)
skips s = record { at_end = λ h. cc h }

copies : (s : State) → Rests (s, act.Copy)
copies s = record { at_end = λ h. cc h }

ends_field : (s : State) → Rests (s, act.EndField)
ends_field s = record { at_end = λ h. cc h }

after_end-rests : (terminator : Terminator) (c : ℕ) → ends_at_end (after_end terminator c) ≡ false
after_end-rests term.CRLF c = by (c == 13)
  where
    by : (b : Bool) → ends_at_end (if b then st.AfterCr else st.StartRecord) ≡ false
    by true = refl
    by false = refl
after_end-rests (term.Any t) c = refl

in_field-rests : (cfg : Config) (c : ℕ) → Rests (in_field cfg c)
in_field-rests cfg c =
    let ends : Rests (after_end cfg.terminator c, act.EndRecord) = record { at_end = λ h. after_end-rests cfg.terminator c } in
    Rests-if (c == cfg.delimiter) (ends_field st.StartField) (Rests-if (ends_with cfg.terminator c) ends (copies st.InField))

start_field-rests : (cfg : Config) (c : ℕ) → Rests (start_field cfg c)
start_field-rests cfg c = Rests-if (cfg.quoting && (c == cfg.quote)) (skips st.InQuoted) (in_field-rests cfg c)

start_record-rests : (cfg : Config) (c : ℕ) → Rests (start_record cfg c)
start_record-rests cfg c =
    Rests-if (ends_with cfg.terminator c) (skips st.StartRecord) (Rests-if (is_byte cfg.comment c) (skips st.InComment) (start_field-rests cfg c))

step-rests : (cfg : Config) (s : State) (c : ℕ) → Rests (step cfg s c)
step-rests cfg st.StartRecord c = start_record-rests cfg c
step-rests cfg st.StartField c = start_field-rests cfg c
step-rests cfg st.InField c = in_field-rests cfg c
step-rests cfg st.InQuoted c =
    Rests-if (cfg.quoting && (c == cfg.quote)) (skips st.AfterQuote)
    (Rests-if (cfg.quoting && is_byte cfg.escape c) (skips st.InEscape) (copies st.InQuoted))
step-rests cfg st.InEscape c = copies st.InQuoted
step-rests cfg st.AfterQuote c = Rests-if (cfg.quoting && cfg.double_quote && (c == cfg.quote)) (copies st.InQuoted) (in_field-rests cfg c)
step-rests cfg st.InComment c = Rests-if (c == 10) (skips st.StartRecord) (skips st.InComment)
step-rests cfg st.AfterCr c = Rests-if (c == 10) (skips st.StartRecord) (start_record-rests cfg c)

-- ---- what a read of a record takes from a text

-- after a record was read, no more bytes are left than before, and the reader is between two records
next_record-le : (cfg : Config) (s : State) (fields : List (List ℕ)) (field xs : List ℕ) (p : Read) → next_record cfg s fields field xs ≡ Some p
    → (ends_at_end p.1 ≡ false) × (length p.2 ≤ length xs)
unfolding next_record
next_record-le cfg s fields field [] p e = by (ends_at_end s) e
  where
    by : (b : Bool) → (if b then Some (fields ++ (field ∷ []), st.StartRecord, []) else None) ≡ Some p → (ends_at_end p.1 ≡ false) × (length p.2 ≤ 0)
    by true h =
        let same : (fields ++ (field ∷ []), st.StartRecord, []) ≡ p = cc h in
        rw (← same) (refl, omega arith)
    by false h = cc h
next_record-le cfg s fields field (c ∷ rest) p e =
    by (is_end (step cfg s c).1) refl
    (next_record-le cfg (step cfg s c).0 (fields_after (step cfg s c).1 fields field) (field_after (step cfg s c).1 c field) rest p) e
  where
    by : (b : Bool) → is_end (step cfg s c).1 ≡ b
        → (next_record cfg (step cfg s c).0 (fields_after (step cfg s c).1 fields field) (field_after (step cfg s c).1 c field) rest ≡ Some p
        → (ends_at_end p.1 ≡ false) × (length p.2 ≤ length rest))
        → (if b then Some (fields_after (step cfg s c).1 fields field, (step cfg s c).0, rest)
        else next_record cfg (step cfg s c).0 (fields_after (step cfg s c).1 fields field) (field_after (step cfg s c).1 c field) rest) ≡ Some p
        → (ends_at_end p.1 ≡ false) × (length p.2 ≤ length (c ∷ rest))
    by true ends more h =
        let same : (fields_after (step cfg s c).1 fields field, (step cfg s c).0, rest) ≡ p = cc h in
        rw (← same) ((step-rests cfg s c).at_end ends, omega arith)
    by false ends more h = let (between, fewer) = more h in (between, omega arith)

-- from between two records, it takes at least a byte
next_record-lt : (cfg : Config) (s : State) (xs : List ℕ) (p : Read) → ends_at_end s ≡ false → next_record cfg s [] [] xs ≡ Some p
    → (ends_at_end p.1 ≡ false) × (length p.2 < length xs)
unfolding next_record
next_record-lt cfg s [] p between e = cc (rw between at e)
next_record-lt cfg s (c ∷ rest) p between e =
    by (is_end (step cfg s c).1) refl e
  where
    by : (b : Bool) → is_end (step cfg s c).1 ≡ b
        → (if b then Some (fields_after (step cfg s c).1 [] [], (step cfg s c).0, rest)
        else next_record cfg (step cfg s c).0 (fields_after (step cfg s c).1 [] []) (field_after (step cfg s c).1 c []) rest) ≡ Some p
        → (ends_at_end p.1 ≡ false) × (length p.2 < length (c ∷ rest))
    by true ends h =
        let same : (fields_after (step cfg s c).1 [] [], (step cfg s c).0, rest) ≡ p = cc h in
        rw (← same) ((step-rests cfg s c).at_end ends, omega arith)
    by false ends h =
        let (after, fewer) = next_record-le cfg (step cfg s c).0 (fields_after (step cfg s c).1 [] []) (field_after (step cfg s c).1 c []) rest p h in (after, omega arith)

-- the same for a read
next_is-lt : (cfg : Config) (s s2 : State) (xs ys : List ℕ) (fields : List (List ℕ)) → ends_at_end s ≡ false
    → NextIs (next_record cfg s [] [] xs) true fields s2 ys → (ends_at_end s2 ≡ false) × (length ys < length xs)
next_is-lt cfg s s2 xs ys fields between is = by (next_record cfg s [] [] xs) refl is
  where
    by : (o : Option Read) → next_record cfg s [] [] xs ≡ o → NextIs o true fields s2 ys → (ends_at_end s2 ≡ false) × (length ys < length xs)
    by None e h = cc h
    by (Some p) e h = let (after, fewer) = next_record-lt cfg s xs p between e in (ap ends_at_end h.2 ∙ after, rw h.3 fewer)

-- ---- all records

-- the records so far, and then those that are left
pub records_from-reached : (cfg : Config) (k : ℕ) (s s2 : State) (xs ys : List ℕ) (rows : List (List (List ℕ))) → Reached cfg s xs rows s2 ys
    → records_from cfg (length rows + k) s xs ≡ rows ++ records_from cfg k s2 ys
unfolding Reached records_from
records_from-reached cfg k s s2 xs ys [] h = ap (λ n. records_from cfg n s xs) (zero-add k) ∙ rw (h.0, h.1) refl
records_from-reached cfg k s s2 xs ys (row ∷ rows) h =
    let (p, is, first, rest) = h in
    let count : length (row ∷ rows) + k ≡ suc (length rows + k) = omega arith in
    rw (count, is, first) (ap (λ more. p.0 ∷ more) (records_from-reached cfg k p.1 s2 p.2 ys rows rest))

-- a text with no more records left
records-end : (text ys : List ℕ) (rows : List (List (List ℕ))) (s2 : State) → Reached default_config st.StartRecord text rows s2 ys
    → length rows ≤ length text → next_record default_config s2 [] [] ys ≡ None → records default_config text ≡ rows
unfolding records_from
records-end text ys rows s2 reached room none =
    let count : length text + 1 ≡ length rows + suc (length text - length rows) = omega arith in
    ap (λ n. records_from default_config n st.StartRecord text) count
    ∙ (records_from-reached default_config (suc (length text - length rows)) st.StartRecord s2 text ys rows reached
    ∙ rw none (append-nil rows))

-- the records so far come first
pub records-behind : (text : List ℕ) (rows : List (List (List ℕ))) (reader : Reader (Bor (List ℕ))) → IsBehind text rows reader
    → (more : List (List (List ℕ))) × (records default_config text ≡ rows ++ more)
records-behind text rows reader behind =
    let count : length text + 1 ≡ length rows + suc (length text - length rows) = omega (arith, behind.room) in (
      records_from default_config (suc (length text - length rows)) (reader_state reader) behind.rest,
      ap (λ n. records_from default_config n st.StartRecord text) count
          ∙ records_from-reached default_config (suc (length text - length rows)) st.StartRecord (reader_state reader) text behind.rest rows behind.reached,
    )

-- ---- a read

-- past the start of a text, the bytes that are left are those that a read left
source-pending : (reader : Reader (Bor (List ℕ))) (rest : List ℕ) → reader.bom_checked ≡ true → left_of reader ≡ Some rest
    → pending_of (Some reader.rdr.now) reader ≡ Some rest
source-pending reader rest begun left = rw begun at left

-- what a read of a record does after others
pub next_read : (text : List ℕ) (rows : List (List (List ℕ))) (old new : Reader (Bor (List ℕ))) (found : Bool) (fields : List (List ℕ))
    → IsBehind text rows old → ReadRecord (λ (slice : Bor (List ℕ)). Some slice.now) old new found fields → IsNextRow text rows old new found fields
next_read text rows old new true fields behind read =
    let (rest, left, reached) = rows-more (λ (slice : Bor (List ℕ)). Some slice.now) old new fields default_config st.StartRecord text behind.rest rows behind.config behind.source behind.reached read in
    let pending : pending_of (Some new.rdr.now) new ≡ Some rest = source-pending new rest read.1 left in
    let (between, fewer) = next_is-lt default_config (reader_state old) (reader_state new) behind.rest rest fields behind.between (rw (behind.config, behind.source, pending) at read.0) in (
      record {
        plain = read.3 ∙ behind.plain;
        config = read.2 ∙ behind.config;
        between = between;
        rest = rest;
        source = left;
        reached = reached;
        room = omega (arith, behind.room, length-append rows (fields ∷ []));
      },
      rw (left, behind.source) fewer,
    )
next_read text rows old new false fields behind read =
    records-end text behind.rest rows (reader_state old) behind.reached (omega (arith, behind.room))
    (rows-end (λ (slice : Bor (List ℕ)). Some slice.now) old new fields default_config behind.rest behind.config behind.source read)

-- ---- the start of a text

-- a text without its byte order mark is no longer
pub length-strip_bom : (bytes : List ℕ) → length (strip_bom bytes) ≤ length bytes
unfolding strip_bom
length-strip_bom [] = omega arith
length-strip_bom (a ∷ []) = omega arith
length-strip_bom (a ∷ b ∷ []) = omega arith
length-strip_bom (a ∷ b ∷ c ∷ rest) = by (is_bom a b c)
  where
    by : (marked : Bool) → length (if marked then rest else a ∷ b ∷ c ∷ rest) ≤ length (a ∷ b ∷ c ∷ rest)
    by true = omega arith
    by false = omega arith

-- ---- reading them

-- a reader at the start of a text
pub starts : (bytes : List ℕ) (reader : Reader (Bor (List ℕ))) → reader_trim reader ≡ trim.None → reader_config reader ≡ default_config
    → reader_state reader ≡ st.StartRecord → left_of reader ≡ Some (strip_bom bytes) → IsBehind (strip_bom bytes) [] reader
unfolding Reached
starts bytes reader plain config start source = record {
  plain = plain;
  config = config;
  between = rw start refl;
  rest = strip_bom bytes;
  source = source;
  reached = (sym start, refl);
  room = omega arith;
}

-- what a read found, if it is known whether it found a record
pub found_is : (text : List ℕ) (rows : List (List (List ℕ))) (old new : Reader (Bor (List ℕ))) (found known : Bool) (fields : List (List ℕ)) → found ≡ known
    → IsNextRow text rows old new found fields → IsNextRow text rows old new known fields
found_is text rows old new found known fields same next = subst (λ f. IsNextRow text rows old new f fields) same next

-- a fault that is passed on
pub passed_on : {T E : Type 0} (result : Result T E) (P : T → Type 0) (Q : E → Type 0) (fault : E) → IsErrAnd result (λ passed. passed ≡ fault) → Q fault → MatchResult result P Q
passed_on (Ok value) P Q fault same holds = absurd same
passed_on (Err passed) P Q fault same holds = subst Q (sym same) holds
