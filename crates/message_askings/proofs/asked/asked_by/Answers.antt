use Rattle.message_askings.proofs.Spellings.{store_spelled}
use Rattle.message_askings.proofs.asked.asked_by.Goals as goal

pub asked_kinds-requires : goal.asked_kinds-requires
asked_kinds-requires g c = store_spelled _ _ _ _ c.requires.body c.in-Store.is
