-- What a page begins with: its title, and its style for a screen, light or dark, wide or narrow, and for print.
use Rattle.std.specs.Prelude.{ℕ, List, [], ◌∷◌, ◌++◌, codes}
use Rattle.reading_texts.specs.Exporting.{joined}

-- the colours: light ones, dark ones for a browser that prefers them, and those for print
abbrev pub colours : List ℕ
colours =
    joined (
    codes ":root { color-scheme: light dark; --page: #fff; --text: #1f2328; --quiet: #59636e; --line: #d1d9e0; --bar: #2166c4; --track: #edf1f5 }\n"
    ∷ codes "@media (prefers-color-scheme: dark) {\n"
    ∷ codes ":root { --page: #0f1318; --text: #e4e9ee; --quiet: #9aa5b1; --line: #343c46; --bar: #5fa3f5; --track: #1f262e } }\n"
    ∷ codes "@media print {\n"
    ∷ codes ":root { color-scheme: light; --page: #fff; --text: #000; --quiet: #333; --line: #999; --bar: #444; --track: #fff }\n"
    ∷ codes "svg, tr { break-inside: avoid; print-color-adjust: exact } h2, p { break-after: avoid } }\n" ∷ [])

-- the positions and sizes
abbrev pub shapes : List ℕ
shapes =
    joined (
    codes "body { max-width: 64rem; margin: 0 auto; padding: 1rem 1.25rem 3rem; background: var(--page); color: var(--text); font: 15px/1.5 system-ui, sans-serif }\n"
    ∷ codes "h1 { font-size: 1.5rem } h2 { margin: 2.5rem 0 0; font-size: 1.15rem } h1, h2, p, a { overflow-wrap: anywhere } a { color: var(--bar) }\n"
    ∷ codes "p, footer { margin: .25rem 0 .75rem; color: var(--quiet); white-space: pre-line } p:empty, footer:empty { display: none }\n"
    ∷ codes "header p { font: 13px/1.5 ui-monospace, monospace; white-space: pre-wrap }\n"
    ∷ codes "footer { margin-top: 2.5rem; border-top: 1px solid var(--line); padding-top: .75rem }\n"
    ∷ codes "table { width: 100%; border-collapse: collapse; font-variant-numeric: tabular-nums }\n"
    ∷ codes "th, td { padding: .1rem 0 .1rem .75rem; text-align: right; white-space: nowrap } th { color: var(--quiet); font-weight: normal }\n"
    ∷ codes "th:first-child, td:first-child { padding-left: 0 } main th { min-width: 4.75rem } main th:first-child { min-width: 9.5rem } main td:nth-child(2) { width: 100% }\n"
    ∷ codes "nav td { white-space: normal } nav th:nth-child(-n+2), nav td:nth-child(-n+2) { text-align: left }\n"
    ∷ codes "svg { display: block; width: 100%; height: .9rem; background: var(--track) } rect { fill: var(--bar) }\n" ∷ [])

-- those for a narrow screen, where a row of a table takes as many lines as it needs
abbrev pub narrow_shapes : List ℕ
narrow_shapes =
    joined (
    codes "@media (min-width: 48.01rem) { th { border-bottom: 1px solid var(--line) } }\n"
    ∷ codes "@media (max-width: 48rem) {\n"
    ∷ codes "body { padding: .75rem 1rem 2rem } table, tbody { display: block } th { display: none }\n"
    ∷ codes "tr { display: flex; flex-wrap: wrap; justify-content: flex-end; gap: 0 .75rem; padding: .25rem 0 } td { padding: 0 }\n"
    ∷ codes "td:first-child { margin-right: auto } main td:nth-child(2) { order: 1 } main td:nth-child(n+3) { min-width: 3.5rem }\n"
    ∷ codes "nav tr { justify-content: flex-start; border-bottom: 1px solid var(--line) } nav td:first-child { width: 100% }\n"
    ∷ codes "nav td:nth-child(3)::before { content: \"units \" } nav td:nth-child(4)::before { content: \"mean \" } nav td:nth-child(5)::before { content: \"50% \" }\n"
    ∷ codes "nav td:nth-child(6)::before { content: \"99% \" } nav td:nth-child(7)::before { content: \"greatest \" } nav td::before { color: var(--quiet) } }\n" ∷ [])

-- what comes before the style; the title is where the image comes from
abbrev pub opening : List ℕ → List ℕ
opening title =
    joined (
    codes "<!DOCTYPE html>\n<html lang=\"en\">\n<head>\n<meta charset=\"utf-8\"/>\n"
    ∷ codes "<meta name=\"viewport\" content=\"width=device-width, initial-scale=1\"/>\n<title>" ∷ title ∷ codes "</title>\n<style>\n" ∷ [])

-- the title again, as the head of the page
abbrev pub top : List ℕ → List ℕ
top title = joined (codes "</style>\n</head>\n<body>\n<h1>" ∷ title ∷ codes "</h1>\n" ∷ [])

-- all that comes before the overview
abbrev pub page_head : List ℕ → List ℕ
page_head title = opening title ++ colours ++ shapes ++ narrow_shapes ++ top title
