-- Each event of a walk keeps what holds, and its actor learns of what it found.
use Rattle.segment_machine.specs.Walking.{load_next, load_published}
use Rattle.segment_invariant.specs.Keeps.{WalkingKeeps}
use Rattle.segment_invariant.proofs.Walking.Nexts.{next_loaded}
use Rattle.segment_invariant.proofs.Walking.Words.{published_loaded}

pub walking_keeps : WalkingKeeps
walking_keeps (load_next at) shape opened state id a kept mine records ready = next_loaded shape opened state kept id a mine records at ready
walking_keeps (load_published at index) shape opened state id a kept mine records ready =
    published_loaded shape opened state kept id a mine records ready.0 at index ready.1 ready.2
