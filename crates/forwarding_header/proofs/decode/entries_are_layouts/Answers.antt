use Rattle.forwarding_header.specs.Laws.Destinations.{destination_laid}
use Rattle.forwarding_header.specs.Laws.Options.{option_laid}
use Rattle.forwarding_header.proofs.decode.entries_are_layouts.Goals as goal

pub returns : goal.returns
returns c = record { destinations = destination_laid; options = option_laid }
