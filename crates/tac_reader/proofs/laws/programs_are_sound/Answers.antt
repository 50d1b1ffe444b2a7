use Rattle.tac_reader.proofs.programs.SoundPrograms.{programs_are_sound}
use Rattle.tac_reader.proofs.laws.programs_are_sound.Goals as goal

pub returns : goal.returns
returns c = programs_are_sound
