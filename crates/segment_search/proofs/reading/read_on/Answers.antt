use Rattle.std.proofs.Common.{rules, take, inl}
use Rattle.std.proofs.KnownBytes.{Keeps-trans}
use Rattle.segment_image.specs.Watched.{watched_inner}
use Rattle.segment_search.specs.Places.{ahead}
use Rattle.segment_search.proofs.Words.{ahead-block, fewer_missing}
use Rattle.segment_search.proofs.reading.read_on.Goals as goal

pub loop-block-smaller : goal.loop-block-smaller
loop-block-smaller g c =
    fewer_missing c.args.count c.loop-block.words.items c.push_words.new.words.items (take c.in_ok-came.came c.fill.new.block) (search rules) (search rules) (search rules)

pub loop-block-preserved : goal.loop-block-preserved
loop-block-preserved g c =
    let old = g.R.Read.remaining (watched_inner c.loop-block.reader) in
    let new = g.R.Read.remaining (watched_inner c.fill.new.reader) in
    record {
      kept = Keeps-trans (ahead c.reserve_exact.new.self.items (g.R.Read.remaining (watched_inner c.args.reader.now))) (ahead c.loop-block.words.items old)
          (ahead c.push_words.new.words.items new) c.loop-block.invariant.kept
          (ahead-block old new c.loop-block.words.items c.push_words.new.words.items (take c.in_ok-came.came c.fill.new.block) (search rules) (inl (search rules)) (search rules));
      longer = search rules;
      went = search rules;
    }
