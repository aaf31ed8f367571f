-- The page of a sum is that of its subject.
use Rattle.std.proofs.Common.{◌≡◌, ℕ, Result, subst, sym}
use Rattle.std.specs.Prelude.{IfOk}
use Rattle.std.specs.declared.vec.Vec.{Vec}
use Rattle.std.specs.declared.alloc.AllocError.{AllocError}
use Rattle.std.specs.declared.alloc.Global.{Global}
use Rattle.bucket_ranges.specs.Reading.{Reading}
use Rattle.reading_overviews.specs.declared.sum_overview.SumHead.{SumHead}
use Rattle.text_styles.specs.declared.drawn.Drawn.{Drawn}
use Rattle.reading_shows.specs.declared.source.Source.{Source}
use Rattle.reading_shows.specs.Page.{IsPageOfSum}
use Rattle.text_forms.specs.declared.head.Head.{Head}
use Rattle.text_forms.specs.declared.head.Head.TheVariants.{Sum}
use Rattle.text_forms.specs.declared.head.SumSaid.{SumSaid}
use Rattle.text_forms.specs.Forms.{IsPageIn}
use Rattle.text_forms.specs.Heads.{sum_head}

pub page_of_said : (source : Source) (drawn : Drawn) (said : SumSaid) (head : Head) (sum : SumHead) (reading : Reading) (r : Result (Vec ℕ Global) AllocError)
    → head ≡ Sum said → sum ≡ sum_head said → IfOk r (λ page. IsPageOfSum source drawn sum reading page.items) → IfOk r (λ page. IsPageIn source drawn head reading page.items)
page_of_said source drawn said head sum reading r is same page =
    subst (λ (one : Head). IfOk r (λ page. IsPageIn source drawn one reading page.items)) (sym is)
    (subst (λ (one : SumHead). IfOk r (λ page. IsPageOfSum source drawn one reading page.items)) same page)
