use Rattle.link_framing.proofs.Layouts.{frame_laid}
use Rattle.link_framing.proofs.laws.frames_are_layouts.Goals as goal

pub returns : goal.returns
returns c = frame_laid
