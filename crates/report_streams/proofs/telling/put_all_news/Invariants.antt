use Rattle.std.proofs.Common.{◌≡◌, ◌++◌, take}
use Rattle.std.specs.List.{flat_map}
use Rattle.std.specs.String.{string_bytes}
use Rattle.report_streams.specs.Telling.{news_of}
use Rattle.report_streams.proofs.telling.put_all_news.Given as goal

abbrev pub invariant-loop-sentence : goal.invariant-loop-sentence
invariant-loop-sentence l =
    string_bytes l.text ≡ string_bytes l.initial.text ++ flat_map (news_of l.before) (take l.sentence-index l.now)
