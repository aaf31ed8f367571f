use Rattle.std.proofs.Common.{arith}
use Rattle.std.proofs.lemmas.Bool.{ne_eqb}
use Rattle.segment_image.specs.Blocks.{field_at}
use Rattle.image_reader.proofs.Headers.{block_in_words}
use Rattle.image_reader.proofs.Gathers.{IsGathered-other}
use Rattle.image_reader.proofs.gathering.Gathering.add.Goals as goal

pub overflow_add-reference : goal.overflow_add-reference
overflow_add-reference c =
    let lies = block_in_words c.args.words.now c.args.head.now c.args.reference c.requires.header c.requires.block in
    omega arith

pub offset_bounds-words-reference : goal.offset_bounds-words-reference
offset_bounds-words-reference c =
    let lies = block_in_words c.args.words.now c.args.head.now c.args.reference c.requires.header c.requires.block in
    omega arith

pub bounds-words-reference : goal.bounds-words-reference
bounds-words-reference c =
    let lies = block_in_words c.args.words.now c.args.head.now c.args.reference c.requires.header c.requires.block in
    omega arith

pub add_histogram-requires-clause-within : goal.add_histogram-requires-clause-within
add_histogram-requires-clause-within c =
    (block_in_words c.args.words.now c.args.head.now c.args.reference c.requires.header c.requires.block).1

pub add_sample-requires-clause-within : goal.add_sample-requires-clause-within
add_sample-requires-clause-within c =
    (block_in_words c.args.words.now c.args.head.now c.args.reference c.requires.header c.requires.block).1

-- a record of another type adds nothing
pub returns-in_default-clause-gathered : goal.returns-in_default-clause-gathered
returns-in_default-clause-gathered c = λ earlier so_far.
    IsGathered-other c.args.words.now c.args.head.now earlier c.args.self.now c.args.reference so_far
    (ne_eqb (field_at c.args.words.now c.args.reference 2) 1 (λ e. omega arith))
    (ne_eqb (field_at c.args.words.now c.args.reference 2) 3 (λ e. omega arith))
