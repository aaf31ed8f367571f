-- The records of a script, one by one.
use Rattle.std.proofs.Common.{◌≡◌, ◌∙◌, ℕ, ◌+◌, ◌<◌, ◌≤◌, ◌==◌, not, Bool, true, false, List, [], ◌∷◌, ◌++◌, length, Option, Some, None, Ok, Err, if◌then◌else◌, slice_index_or, append_assoc, ap, refl, sym, arith}
use Rattle.std.specs.List.{enumerate_from, filter_map, scan, cons_option}
use Rattle.std.specs.Prelude.{option_to_list}
use Rattle.std.proofs.lemmas.List.{append-nil, nil_from_length}
use Rattle.std.proofs.lemmas.Bool.Decides.{nat_tests}
use Rattle.std.proofs.lemmas.List.FromFn.{length-enumerate_from}
use Rattle.std.proofs.lemmas.List.Elements.{filter_map-append}
use Rattle.bucket_ranges.specs.declared.spec.Spec.{Spec}
use Rattle.persist_report_core.specs.declared.script.ScriptCall.{ScriptCall}
use Rattle.persist_report_core.specs.declared.script.fault.ScriptFault.{ScriptFault}
use Rattle.persist_report_core.specs.declared.script.fault.ScriptFault.TheVariants.{BadLine}
use Rattle.persist_report_core.specs.Request.{ScriptRequest, Segment, Hist, Add, Delta, request_in}
use Rattle.persist_report_core.specs.Script.{HistRecord, hist_from, call_from, opening_of, script_along, later_fault, fault_of, faults_of, unless_faults, script_from}
use Rattle.persist_report_core.specs.Draft.{extended}

-- ---- faults

-- the faults of records that come after others
abbrev faults_behind : ℕ → List (List (List ℕ)) → List (List (List ℕ)) → List ScriptFault
faults_behind pool earlier rows = filter_map (λ fault. fault) (scan (λ earlier fields. earlier ++ fields ∷ []) (fault_of pool) earlier rows)

cons_option-append : {X : Type 0} (first : Option X) (xs ys : List X) → cons_option first (xs ++ ys) ≡ cons_option first xs ++ ys
cons_option-append None xs ys = refl
cons_option-append (Some x) xs ys = refl

faults_behind-append : (pool : ℕ) (earlier xs ys : List (List (List ℕ)))
    → faults_behind pool earlier (xs ++ ys) ≡ faults_behind pool earlier xs ++ faults_behind pool (earlier ++ xs) ys
faults_behind-append pool earlier [] ys = ap (λ before. faults_behind pool before ys) (sym (append-nil earlier))
faults_behind-append pool earlier (x ∷ xs) ys =
    ap (cons_option (fault_of pool earlier x)) (
    faults_behind-append pool (earlier ++ x ∷ []) xs ys
    ∙ ap (λ before. faults_behind pool (earlier ++ x ∷ []) xs ++ faults_behind pool before ys) (append_assoc earlier (x ∷ []) xs)
    )
    ∙ cons_option-append (fault_of pool earlier x) (faults_behind pool (earlier ++ x ∷ []) xs) (faults_behind pool (earlier ++ x ∷ xs) ys)

-- the faults with one more record after records without faults
faults_of-more : (pool : ℕ) (rows : List (List (List ℕ))) (fields : List (List ℕ)) (more : List (List (List ℕ))) → faults_of pool rows ≡ []
    → faults_of pool (rows ++ fields ∷ more) ≡ cons_option (fault_of pool rows fields) (faults_behind pool (rows ++ fields ∷ []) more)
faults_of-more pool rows fields more none =
    faults_behind-append pool [] rows (fields ∷ more) ∙ ap (λ before. before ++ faults_behind pool rows (fields ∷ more)) none

-- one more record without a fault
pub faultless-more : (pool : ℕ) (rows : List (List (List ℕ))) (fields : List (List ℕ)) → faults_of pool rows ≡ [] → fault_of pool rows fields ≡ None
    → faults_of pool (rows ++ fields ∷ []) ≡ []
faultless-more pool rows fields none fine =
    faults_of-more pool rows fields [] none ∙ ap (λ fault. cons_option fault []) fine

-- the first fault
pub script_from-fault : (pool : ℕ) (rows : List (List (List ℕ))) (fields : List (List ℕ)) (more : List (List (List ℕ))) (fault : ScriptFault)
    → faults_of pool rows ≡ [] → fault_of pool rows fields ≡ Some fault → script_from pool (rows ++ fields ∷ more) ≡ Err fault
script_from-fault pool [] fields more fault none is =
    ap (λ faults. unless_faults faults (script_along (fields ∷ more))) (
    faults_of-more pool [] fields more none ∙ ap (λ first. cons_option first (faults_behind pool (fields ∷ []) more)) is
    )
script_from-fault pool (row ∷ rows) fields more fault none is =
    ap (λ faults. unless_faults faults (script_along ((row ∷ rows) ++ fields ∷ more))) (
    faults_of-more pool (row ∷ rows) fields more none ∙ ap (λ first. cons_option first (faults_behind pool ((row ∷ rows) ++ fields ∷ []) more)) is
    )

-- no fault
pub script_from-lawful : (pool : ℕ) (rows : List (List (List ℕ))) → 0 < length rows → faults_of pool rows ≡ [] → script_from pool rows ≡ Ok (script_along rows)
script_from-lawful pool [] some none = absurd (omega arith)
script_from-lawful pool (row ∷ rows) some none = ap (λ faults. unless_faults faults (script_along (row ∷ rows))) none

-- the fault of a record that is not the first
pub fault_of-later : (pool : ℕ) (rows : List (List (List ℕ))) (fields : List (List ℕ)) → 0 < length rows
    → fault_of pool rows fields ≡ later_fault pool (length rows + 1) (script_along rows) (request_in fields)
fault_of-later pool [] fields some = absurd (omega arith)
fault_of-later pool (row ∷ rows) fields some = refl

-- ---- the script with one more record

enumerate_from-append : {X : Type 0} (n : ℕ) (xs ys : List X) → enumerate_from n (xs ++ ys) ≡ enumerate_from n xs ++ enumerate_from (n + length xs) ys
enumerate_from-append n [] ys = ap (λ k. enumerate_from k ys) (omega arith)
enumerate_from-append n (x ∷ xs) ys =
    ap (λ rest. (n, x) ∷ rest) (enumerate_from-append (n + 1) xs ys ∙ ap (λ k. enumerate_from (n + 1) xs ++ enumerate_from k ys) (omega arith))

-- what numbered records give, with one more record
numbered-more : {X : Type 0} (f : ℕ × List (List ℕ) → Option X) (rows : List (List (List ℕ))) (fields : List (List ℕ))
    → filter_map f (enumerate_from 1 (rows ++ fields ∷ [])) ≡ filter_map f (enumerate_from 1 rows) ++ option_to_list (f (length rows + 1, fields))
numbered-more f rows fields =
    ap (filter_map f) (enumerate_from-append 1 rows (fields ∷ []))
    ∙ (filter_map-append f (enumerate_from 1 rows) (enumerate_from (1 + length rows) (fields ∷ []))
    ∙ ap (λ k. filter_map f (enumerate_from 1 rows) ++ cons_option (f (k, fields)) []) (omega arith)
    ∙ ap (λ last. filter_map f (enumerate_from 1 rows) ++ last) (by (f (length rows + 1, fields))))
  where
    by : {X : Type 0} (o : Option X) → cons_option o [] ≡ option_to_list o
    by None = refl
    by (Some x) = refl

-- the calls of numbered records, by histograms in which the names are looked up
abbrev calls_by : List HistRecord → List (ℕ × List (List ℕ)) → List ScriptCall
calls_by hists numbered = filter_map (λ one. call_from hists one.0 (request_in one.1)) numbered

-- records without calls have none, whatever the histograms are
no_calls : (hists others : List HistRecord) (numbered : List (ℕ × List (List ℕ))) → calls_by hists numbered ≡ [] → calls_by others numbered ≡ []
no_calls hists others [] none = refl
no_calls hists others (one ∷ rest) none = by (request_in one.1) (no_calls hists others rest) none
  where
    by : (request : Option ScriptRequest) → (calls_by hists rest ≡ [] → calls_by others rest ≡ [])
        → cons_option (call_from hists one.0 request) (calls_by hists rest) ≡ [] → cons_option (call_from others one.0 request) (calls_by others rest) ≡ []
    by None more h = more h
    by (Some (Segment size page id)) more h = more h
    by (Some (Hist name spec)) more h = more h
    by (Some (Add name value count)) more h = cc h
    by (Some (Delta name)) more h = cc h

opening_kept : (rows : List (List (List ℕ))) (fields : List (List ℕ)) → 0 < length rows → slice_index_or (rows ++ fields ∷ []) 0 [] ≡ slice_index_or rows 0 []
opening_kept [] fields some = absurd (omega arith)
opening_kept (row ∷ rows) fields some = refl

-- a check that does not fail
check_passes : (b : Bool) (number : ℕ) → (if not b then Some (BadLine number) else None) ≡ None → b ≡ true
check_passes true number h = refl
check_passes false number h = cc h

nil_from_test : {X : Type 0} (xs : List X) → (length xs == 0) ≡ true → xs ≡ []
nil_from_test xs h = nil_from_length xs (grind (arith, nat_tests))

-- the `hist` records of records
abbrev hists_along : List (List (List ℕ)) → List HistRecord
hists_along rows = filter_map (λ numbered. hist_from numbered.0 (request_in numbered.1)) (enumerate_from 1 rows)

-- the calls with one more record, which is no `hist` record
calls-call : (rows : List (List (List ℕ))) (fields : List (List ℕ)) (request : Option ScriptRequest) → request_in fields ≡ request → hist_from (length rows + 1) request ≡ None
    → calls_by (hists_along rows ++ option_to_list (hist_from (length rows + 1) request)) (enumerate_from 1 (rows ++ fields ∷ []))
    ≡ calls_by (hists_along rows) (enumerate_from 1 rows) ++ option_to_list (call_from (hists_along rows) (length rows + 1) request)
calls-call rows fields request is no_hist =
    ap (λ hist. calls_by (hists_along rows ++ option_to_list hist) (enumerate_from 1 (rows ++ fields ∷ []))) no_hist
    ∙ (ap (λ hists. calls_by hists (enumerate_from 1 (rows ++ fields ∷ []))) (append-nil (hists_along rows))
    ∙ (numbered-more (λ (one : ℕ × List (List ℕ)). call_from (hists_along rows) one.0 (request_in one.1)) rows fields
    ∙ ap (λ asked. calls_by (hists_along rows) (enumerate_from 1 rows) ++ option_to_list (call_from (hists_along rows) (length rows + 1) asked)) is))

-- the calls with one more `hist` record, after records without calls
calls-hist : (rows : List (List (List ℕ))) (fields : List (List ℕ)) (hists : List HistRecord) (name : List ℕ) (spec : Spec) → request_in fields ≡ Some (Hist name spec)
    → calls_by (hists_along rows) (enumerate_from 1 rows) ≡ []
    → calls_by hists (enumerate_from 1 (rows ++ fields ∷ [])) ≡ calls_by (hists_along rows) (enumerate_from 1 rows) ++ []
calls-hist rows fields hists name spec is none =
    numbered-more (λ (one : ℕ × List (List ℕ)). call_from hists one.0 (request_in one.1)) rows fields
    ∙ (ap (λ asked. calls_by hists (enumerate_from 1 rows) ++ option_to_list (call_from hists (length rows + 1) asked)) is
    ∙ ap (λ calls. calls ++ []) (no_calls (hists_along rows) hists (enumerate_from 1 rows) none ∙ sym none))

-- the calls with one more record without a fault
calls-more : (pool : ℕ) (rows : List (List (List ℕ))) (fields : List (List ℕ)) (request : Option ScriptRequest) → request_in fields ≡ request
    → later_fault pool (length rows + 1) (script_along rows) request ≡ None
    → calls_by (hists_along rows ++ option_to_list (hist_from (length rows + 1) request)) (enumerate_from 1 (rows ++ fields ∷ []))
    ≡ calls_by (hists_along rows) (enumerate_from 1 rows) ++ option_to_list (call_from (hists_along rows) (length rows + 1) request)
calls-more pool rows fields None is fine = cc fine
calls-more pool rows fields (Some (Segment size page id)) is fine = cc fine
calls-more pool rows fields (Some (Hist name spec)) is fine =
    let calls = calls_by (hists_along rows) (enumerate_from 1 rows) in
    calls-hist rows fields _ name spec is (nil_from_test calls (check_passes (length calls == 0) (length rows + 1) fine))
calls-more pool rows fields (Some (Add name value count)) is fine = calls-call rows fields (Some (Add name value count)) is refl
calls-more pool rows fields (Some (Delta name)) is fine = calls-call rows fields (Some (Delta name)) is refl

-- the script with one more record, which is neither the first nor faulty
pub script_along-more : (pool : ℕ) (rows : List (List (List ℕ))) (fields : List (List ℕ)) → 0 < length rows
    → later_fault pool (length rows + 1) (script_along rows) (request_in fields) ≡ None
    → script_along (rows ++ fields ∷ []) ≡ extended (length rows + 1) (script_along rows) (request_in fields)
script_along-more pool rows fields some fine =
    let opening = ap (λ first. opening_of (request_in first)) (opening_kept rows fields some) in
    let hists = numbered-more (λ (numbered : ℕ × List (List ℕ)). hist_from numbered.0 (request_in numbered.1)) rows fields in
    let calls = ap (λ known. calls_by known (enumerate_from 1 (rows ++ fields ∷ []))) hists ∙ calls-more pool rows fields (request_in fields) refl fine in
    λ i. record { shape = (opening i).0; id = (opening i).1; hists = hists i; calls = calls i }

-- there are no more `hist` records than records
length-filter_map : {X Y : Type 0} (f : X → Option Y) (xs : List X) → length (filter_map f xs) ≤ length xs
length-filter_map f [] = omega arith
length-filter_map f (x ∷ xs) = by (f x) (length-filter_map f xs)
  where
    by : (first : Option _) → length (filter_map f xs) ≤ length xs → length (cons_option first (filter_map f xs)) ≤ length (x ∷ xs)
    by None more = omega arith
    by (Some y) more = omega arith

pub length-hists : (rows : List (List (List ℕ))) → length (script_along rows).hists ≤ length rows
length-hists rows =
    let most = length-filter_map (λ (numbered : ℕ × List (List ℕ)). hist_from numbered.0 (request_in numbered.1)) (enumerate_from 1 rows) in
    omega (arith, length-enumerate_from 1 rows)
