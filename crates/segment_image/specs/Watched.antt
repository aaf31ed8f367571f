-- What a clause reads of a watched reader or writer.
use Rattle.std.specs.Prelude.{Bool}
use Rattle.segment_image.specs.declared.watched.Watched.{Watched}

-- whether a call that it passed on has failed
abbrev pub has_failed : {T : Type 0} → Watched T → Bool
has_failed watched = watched.failed

-- whether the last write or flush that it passed on was a flush, and succeeded
abbrev pub is_flushed : {T : Type 0} → Watched T → Bool
is_flushed watched = watched.flushed

-- the reader or writer that it passes calls on to
abbrev pub watched_inner : {T : Type 0} → Watched T → T
watched_inner watched = watched.inner
