use Rattle.std.proofs.lemmas.Result.{IfOk-weaker}
use Rattle.frame_listing.proofs.OneListing.{listing_whole}
use Rattle.frame_listing.proofs.listing.list_stream.Goals as goal

pub returns-clause-whole : goal.returns-clause-whole
returns-clause-whole c = IfOk-weaker c.list.result _ _ (λ listing is. listing_whole c.args.stream.now listing.text listing.fault is) c.list.ensures
