use Rattle.std.proofs.Common.{◌≡◌, ◌∙◌, ℕ, ◌+◌, ◌<◌, List, [], ◌∷◌, ◌++◌, length, map, take, get_or, ap, sym}
use Rattle.std.proofs.lemmas.List.{map_more, map_push}
use Rattle.image_reader.specs.Readable.{IsReadable}
use Rattle.image_reader.specs.Views.{histogram_view}
use Rattle.reading_texts.proofs.Adding.{All-image_at}
use Rattle.reading_shows.specs.Listing.{line_of}
use Rattle.reading_shows.specs.ListViews.{entry_view}
use Rattle.reading_shows.proofs.listing.entries_of.Goals as goal

-- one more line
lined-more : {E H Y Z : Type 0} (see : E → Z) (line : Y → Z) (view : H → Y) (entries : List E) (hists : List H) (i : ℕ) (hist : H) (entry : E) {after : List E}
    → i < length hists → hist ≡ get_or hists i hist → map see entries ≡ map line (map view (take i hists)) → see entry ≡ line (view hist) → after ≡ entries ++ entry ∷ []
    → map see after ≡ map line (map view (take (i + 1) hists))
lined-more see line view entries hists i hist entry h is before seen pushed =
    let images = map_more view hists i hist h ∙ ap (λ one. map view (take i hists) ++ view one ∷ []) (sym is) in
    ap (map see) pushed
    ∙ (map_push see entries entry
    ∙ (ap (λ s. s ++ see entry ∷ []) before
    ∙ (ap (λ one. map line (map view (take i hists)) ++ one ∷ []) seen ∙ sym (ap (map line) images ∙ map_push line (map view (take i hists)) (view hist)))))

pub entry_of-requires : goal.entry_of-requires
entry_of-requires c =
    All-image_at IsReadable (λ hist. histogram_view hist.now) c.args.hists.now c.loop-hist.hist-index c.hist-item.result c.requires c.loop-hist-test.true c.hist-item.is

pub loop-hist-preserved : goal.loop-hist-preserved
loop-hist-preserved c =
    lined-more entry_view (line_of c.args.is_human) (λ hist. histogram_view hist.now) c.loop-hist.entries.items c.args.hists.now c.loop-hist.hist-index c.hist-item.result _ c.loop-hist-test.true
    c.hist-item.is c.loop-hist.invariant c.in_ok-entry_of.ensures c.in_ok-push.ensures.items
