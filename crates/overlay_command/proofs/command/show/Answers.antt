use Rattle.std.proofs.Common.{inl}
use Rattle.overlay_command.proofs.command.show.Goals as goal

pub returns : goal.returns
returns g c =
    let listing = c.in_ok-listing.listing in
    inl (listing.text, listing.fault, c.in_ok-listing.ensures.listing, c.in_ok-listing.ensures.whole, (rw c.as_slice.ensures at c.tell.ensures.0, rw c.told_by.ensures at c.tell.ensures.1))
