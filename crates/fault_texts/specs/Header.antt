-- The words of the header of an image that have a fault.
use Rattle.std.specs.Prelude.{ℕ, Option, Some, None}
use Rattle.segment_image.specs.declared.fault.ImageFault.{ImageFault}
use Rattle.segment_image.specs.declared.fault.ImageFault.TheVariants.{TooShort, BadCookie, BadVersion, BadPage, BadSize, NotReady, Deleted, BadFree, BadQueue, BadRef, BadBlock, Loop, NoMemory}
use Rattle.segment_image.specs.declared.layout.TheConstants.{COOKIE_WORD, VERSION_WORD, SIZE_WORD, PAGE_WORD, STATE_WORD, FREE_WORD, QUEUE}

-- the index of the word that has this fault, if one has it; for the queue block, that of the first of its three words
abbrev pub word_of : ImageFault → Option ℕ
word_of TooShort = None
word_of BadCookie = Some COOKIE_WORD
word_of BadVersion = Some VERSION_WORD
word_of BadPage = Some PAGE_WORD
word_of BadSize = Some SIZE_WORD
word_of NotReady = Some STATE_WORD
word_of Deleted = Some STATE_WORD
word_of BadFree = Some FREE_WORD
word_of BadQueue = Some QUEUE
word_of BadRef = None
word_of BadBlock = None
word_of Loop = None
word_of NoMemory = None
