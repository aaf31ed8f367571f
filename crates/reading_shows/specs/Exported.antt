-- The metrics of a reading, as an export is asked for.
use Rattle.std.specs.Prelude.{◌≡◌, Bool, true, false, ℕ, List, map, ⊤}
use Rattle.bucket_ranges.specs.Reading.{Reading}
use Rattle.reading_texts.specs.Exporting.{IsExportOf}
use Rattle.reading_texts.specs.Families.{IsFamiliesTextOf, IsFirstClashOf}
use Rattle.reading_texts.specs.declared.families.FamilyFault.{FamilyFault}
use Rattle.reading_texts.specs.declared.families.FamilyFault.TheVariants.{Clash, NoMemory}
use Rattle.text_styles.specs.declared.exported.Exported.{Exported}
use Rattle.text_styles.specs.declared.exported.LineLabel.{LineLabel}

-- a label that all lines get, as a reader sees it: its key and its value
abbrev pub line_label : LineLabel → List ℕ × List ℕ
line_label label = (label.key.now, label.value.now)

-- the labels that all lines get
abbrev pub line_labels : Exported → List (List ℕ × List ℕ)
line_labels exported = map line_label exported.labels.items

-- the metrics in the families that every export has
abbrev pub IsExportedAs : Exported → Reading → List ℕ → Type 0
IsExportedAs exported reading text = IsExportOf exported.prefix.now (line_labels exported) reading text

-- the metrics, with a family for each histogram or in the families that every export has
abbrev pub AreMetricsBy : Bool → Exported → Reading → List ℕ → Type 0
AreMetricsBy true exported reading text = IsFamiliesTextOf exported.prefix.now (line_labels exported) reading text
AreMetricsBy false exported reading text = IsExportedAs exported reading text

-- the metrics as they are asked for
abbrev pub AreMetricsOf : Exported → Reading → List ℕ → Type 0
AreMetricsOf exported reading text = AreMetricsBy exported.has_families exported reading text

-- a family for each histogram is asked for, and these are the names of the first of the reading that clash
abbrev pub AreFirstToClash : Exported → Reading → List ℕ → List ℕ → Type 0
AreFirstToClash exported reading first second =
    (exported.has_families ≡ true) × IsFirstClashOf (line_labels exported) reading first second

-- why there are no metrics: histograms clash, or memory ran out
abbrev pub HasNoMetrics : Exported → Reading → FamilyFault → Type 0
HasNoMetrics exported reading (Clash first second) = AreFirstToClash exported reading first.items second.items
HasNoMetrics exported reading NoMemory = ⊤
