-- The record lies in the words, and one of a histogram with its fields does with them.
use Rattle.std.proofs.Common.{arith}
use Rattle.image_reader.proofs.Headers.{block_in_words}
use Rattle.image_adoption.proofs.blocks.names_block.Goals as goal

pub overflow_add-at : goal.overflow_add-at
overflow_add-at c =
    let lies = block_in_words c.args.words.now c.args.head.now c.args.at c.requires.header c.requires.block in
    omega arith

pub offset_bounds-words-at : goal.offset_bounds-words-at
offset_bounds-words-at c =
    let lies = block_in_words c.args.words.now c.args.head.now c.args.at c.requires.header c.requires.block in
    omega arith

pub bounds-words-at : goal.bounds-words-at
bounds-words-at c =
    let lies = block_in_words c.args.words.now c.args.head.now c.args.at c.requires.header c.requires.block in
    omega arith

pub bounds-words-at-3 : goal.bounds-words-at-3
bounds-words-at-3 c =
    let lies = block_in_words c.args.words.now c.args.head.now c.args.at c.requires.header c.requires.block in
    omega arith
