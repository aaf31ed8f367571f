use Rattle.recording_folders.proofs.Sound.{later_sound}
use Rattle.recording_folders.proofs.laws.a_folder_stays_sound.Goals as goal

pub returns : goal.returns
returns c first last sound later = later_sound first last sound later
