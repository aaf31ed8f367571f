-- What the text of a subject is, in each form.
use Rattle.std.specs.Prelude.{◌≡◌, Bool, true, ℕ, List, ◌++◌, Result, Ok, Err, ⊤}
use Rattle.std.specs.declared.vec.Vec.{Vec}
use Rattle.std.specs.declared.alloc.AllocError.{AllocError}
use Rattle.std.specs.declared.alloc.Global.{Global}
use Rattle.bucket_ranges.specs.Reading.{Reading}
use Rattle.image_reader.specs.Views.{reading_view}
use Rattle.reading_texts.specs.Text.{IsTextOf}
use Rattle.reading_texts.specs.Table.{IsTableOf}
use Rattle.persist_report_core.specs.declared.fault.CliFault.{CliFault}
use Rattle.persist_report_core.specs.declared.fault.CliFault.TheVariants.{Clash, NoMemory}
use Rattle.reading_overviews.specs.Overview.{overview}
use Rattle.sum_texts.specs.Endings.{ending_text}
use Rattle.text_styles.specs.declared.drawn.Drawn.{Drawn}
use Rattle.reading_shows.specs.declared.source.Source.{Source}
use Rattle.reading_shows.specs.Exported.{AreFirstToClash, AreMetricsOf}
use Rattle.reading_shows.specs.Listing.{IsListOf}
use Rattle.reading_shows.specs.Showing.{IsShowOf, IsShowSince}
use Rattle.reading_shows.specs.Page.{IsPageOf, IsPageOfSum}
use Rattle.text_forms.specs.declared.form.Form.{Form}
use Rattle.text_forms.specs.declared.form.Form.TheVariants.{Report, Rows, Export, Info, Show, ShowSince, List as Listing, Page}
use Rattle.text_forms.specs.declared.head.Head.{Head}
use Rattle.text_forms.specs.declared.head.Head.TheVariants.{Image, Sum, Unknown}
use Rattle.text_forms.specs.declared.head.SumSaid.{SumSaid}
use Rattle.text_forms.specs.Heads.{is_known, is_of_image, sum_head}

-- ---- which forms fit

-- a subject has a text in a form: an overview if it is an image, a page if it is an image or a sum, and any other always
abbrev pub fits : Form → Head → Bool
fits Report head = true
fits Rows head = true
fits (Info is_human) head = is_of_image head
fits (Export exported) head = true
fits (Show drawn) head = true
fits (ShowSince drawn earlier) head = true
fits (Listing drawn) head = true
fits (Page source drawn) head = is_known head

-- ---- the texts

-- a report, and after it the lines of what a sum leaves out
pub record IsReportOfSum (said : SumSaid) (reading : Reading) (text : List ℕ) : Type 0 where
  pub report : List ℕ
  pub written : IsTextOf reading report
  pub behind : text ≡ report ++ ending_text said.notes.images said.others.items said.left

-- the report of a subject: that of its reading, and of a sum also what that leaves out
abbrev pub IsReportIn : Head → Reading → List ℕ → Type 0
IsReportIn (Image header) reading text = IsTextOf reading text
IsReportIn (Sum said) reading text = IsReportOfSum said reading text
IsReportIn Unknown reading text = IsTextOf reading text

-- the overview of an image; nothing else has one
abbrev pub IsOverviewIn : Bool → Head → Reading → List ℕ → Type 0
IsOverviewIn is_human (Image header) reading text = text ≡ overview is_human header reading
IsOverviewIn is_human (Sum said) reading text = ⊥
IsOverviewIn is_human Unknown reading text = ⊥

-- the page of an image, or of a sum; a reading alone has none
abbrev pub IsPageIn : Source → Drawn → Head → Reading → List ℕ → Type 0
IsPageIn source drawn (Image header) reading text = IsPageOf source drawn header reading text
IsPageIn source drawn (Sum said) reading text = IsPageOfSum source drawn (sum_head said) reading text
IsPageIn source drawn Unknown reading text = ⊥

-- the text of a subject in a form: the report, its rows, the metrics, the overview, the text for people, the same text with what came since
-- an earlier reading, the list or the web page
abbrev pub IsTextIn : Form → Head → Reading → List ℕ → Type 0
IsTextIn Report head reading text = IsReportIn head reading text
IsTextIn Rows head reading text = IsTableOf reading text
IsTextIn (Info is_human) head reading text = IsOverviewIn is_human head reading text
IsTextIn (Export exported) head reading text = AreMetricsOf exported.now reading text
IsTextIn (Show drawn) head reading text = IsShowOf drawn.now reading text
IsTextIn (ShowSince drawn earlier) head reading text = IsShowSince drawn.now (reading_view earlier.now) reading text
IsTextIn (Listing drawn) head reading text = IsListOf drawn.now reading text
IsTextIn (Page source drawn) head reading text = IsPageIn source drawn.now head reading text

-- ---- why there is none

-- these names clash in a form: only those of an export do
abbrev pub ClashIn : Form → Reading → List ℕ → List ℕ → Type 0
ClashIn (Export exported) reading first second = AreFirstToClash exported.now reading first second
ClashIn form reading first second = ⊥

-- a reading has no text in a form for this reason: memory ran out, or histograms clash
abbrev pub HasNoTextIn : Form → Reading → CliFault → Type 0
HasNoTextIn form reading NoMemory = ⊤
HasNoTextIn form reading (Clash first second) = ClashIn form reading first.items second.items
HasNoTextIn form reading fault = ⊥

-- a text, or the fault that memory ran out for it
abbrev pub text_or_fault : Result (Vec ℕ Global) AllocError → Result (Vec ℕ Global) CliFault
text_or_fault (Ok text) = Ok text
text_or_fault (Err why) = Err NoMemory
