-- The record lies in the words, and its counts do.
use Rattle.image_reader.proofs.Headers.{block_in_words}
use Rattle.image_reader.proofs.Sound.{IsReadable-from_none}
use Rattle.image_adoption.proofs.Faultless.{room_of}
use Rattle.image_adoption.proofs.damage.is_settled.Goals as goal

pub has_padded_name-requires-clause-name : goal.has_padded_name-requires-clause-name
has_padded_name-requires-clause-name c = (IsReadable-from_none c.args.words.now c.args.head.now c.args.at c.requires.lawful).name

pub has_padded_name-requires-clause-within : goal.has_padded_name-requires-clause-within
has_padded_name-requires-clause-within c =
    (block_in_words c.args.words.now c.args.head.now c.args.at c.requires.header c.requires.block).1

pub has_unused_counts-requires : goal.has_unused_counts-requires
has_unused_counts-requires c = room_of c.args.words.now c.args.head.now c.args.at c.requires.header c.requires.block c.requires.lawful

pub has_packed_mark-requires : goal.has_packed_mark-requires
has_packed_mark-requires c = room_of c.args.words.now c.args.head.now c.args.at c.requires.header c.requires.block c.requires.lawful
