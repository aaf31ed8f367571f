-- The places of the histograms that a recorder knows, by their names.
use Rattle.std.specs.Prelude.{◌≡◌, ◌≢◌, true, ◌≤◌, List, length, take, is_some}
use Rattle.std.specs.List.{All, AllPairs}
use Rattle.list_index.specs.Firsts.{first_of}
use Rattle.list_index.specs.Keys.{byte_key_of}
use Rattle.live_segment.specs.declared.hist.known_names.KnownNames.{KnownNames}
use Rattle.live_segment.specs.declared.recorder.KnownHistogram.{KnownHistogram}

-- Each of the first of them, as many as are entered, has the key of its name there. So a histogram whose name has no key there is not one
-- of these. No two of all have the same name.
pub record HasNames (known : List KnownHistogram) (names : KnownNames) : Type 0 where
  pub few : names.entered ≤ length known
  pub held : All (λ one. is_some (first_of names.places (byte_key_of one.name.items)) ≡ true) (take names.entered known)
  pub once : AllPairs (λ one other. one.name.items ≢ other.name.items) known
