-- A script with one more `hist` record.
use Rattle.std.proofs.Common.{◌≡◌, ◌∙◌, ℕ, ◌+◌, ◌≤◌, Bool, true, false, not, ◌==◌, nat_lt, List, [], ◌∷◌, ◌++◌, length, Some, None, if◌then◌else◌, ap, refl, sym, arith}
use Rattle.std.specs.Option.{option_or}
use Rattle.std.specs.List.{position_or_len}
use Rattle.std.specs.Str.{bytes_eq}
use Rattle.std.specs.Cmp.Lexicographic.{nat_list_eq_equiv}
use Rattle.std.proofs.lemmas.List.{append-nil, length-append}
use Rattle.std.proofs.lemmas.List.Sums.{prefix_len-le-length}
use Rattle.std.proofs.lemmas.List.Folds.{position_or_len_push}
use Rattle.std.proofs.lemmas.Bool.Decides.{nat_tests}
use Rattle.segment_image.specs.Shape.{Dimensions}
use Rattle.bucket_ranges.specs.declared.spec.Spec.{Spec}
use Rattle.persist_report_core.specs.declared.script.ScriptCall.{ScriptCall}
use Rattle.persist_report_core.specs.Request.{Hist}
use Rattle.persist_report_core.specs.Script.{Script, HistRecord, later_fault}
use Rattle.persist_report_core.specs.Draft.{extended, known_place}

-- before any calls, a `hist` record has no fault
pub lawful_hist : (pool number : ℕ) (script : Script) (name : List ℕ) (spec : Spec) → (length script.calls == 0) ≡ true
    → later_fault pool number script (Some (Hist name spec)) ≡ None
lawful_hist pool number script name spec none = rw none refl

pub extended-hist : (shape : Dimensions) (id : ℕ) (hists all : List HistRecord) (calls : List ScriptCall) (number : ℕ) (name : List ℕ) (spec : Spec)
    → all ≡ hists ++ (record { name = name; spec = spec; number = number }) ∷ []
    → record { shape = shape; id = id; hists = all; calls = calls } ≡ extended number (record { shape = shape; id = id; hists = hists; calls = calls }) (Some (Hist name spec))
extended-hist shape id hists all calls number name spec is =
    λ i. record { shape = shape; id = id; hists = is i; calls = sym (append-nil calls) i }

-- a place among some, and what it is with one more
known-choice : (place count next : ℕ) (here : Bool) → place ≤ count → next ≡ (if place == count then count + (if here then 0 else 1) else place)
    → (if nat_lt next (count + 1) then Some next else None) ≡ option_or (if nat_lt place count then Some place else None) (if here then Some count else None)
known-choice place count next true within is = grind (arith, nat_tests)
known-choice place count next false within is = grind (arith, nat_tests)

-- the place of a name with one more histogram
pub known_place-push : (hists : List HistRecord) (hist : HistRecord) (name : List ℕ)
    → known_place (hists ++ hist ∷ []) name ≡ option_or (known_place hists name) (if bytes_eq hist.name name then Some (length hists) else None)
known_place-push hists hist name =
    let passes = λ (one : HistRecord). bytes_eq name one.name in
    let within : position_or_len passes hists ≤ length hists = prefix_len-le-length (λ (one : HistRecord). not (passes one)) hists in
    ap (λ count. if nat_lt (position_or_len passes (hists ++ hist ∷ [])) count then Some (position_or_len passes (hists ++ hist ∷ [])) else None) (length-append hists (hist ∷ []))
    ∙ known-choice (position_or_len passes hists) (length hists) (position_or_len passes (hists ++ hist ∷ [])) (bytes_eq name hist.name) within (position_or_len_push passes hists hist)
    ∙ ap (λ here. option_or (known_place hists name) (if here then Some (length hists) else None)) (nat_list_eq_equiv.symm name hist.name)
