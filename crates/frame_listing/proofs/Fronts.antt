-- What is added of the frame in front.
use Rattle.std.proofs.Common.{◌≡◌, ℕ, ◌+◌, ◌<◌, inl, inr, List, [], ◌++◌, length, drop, Ok, Err, refl, sym, ap, append-nil, length-append, arith}
use Rattle.wire_core.specs.declared.bad.Bad.{Bad}
use Rattle.wire_core.specs.declared.bad.DecodeFault.{DecodeFault}
use Rattle.wire_core.specs.declared.bad.DecodeFault.TheVariants as faults
use Rattle.link_framing.specs.declared.frame.Frame.{Frame}
use Rattle.link_framing.specs.Framing.{frame, IsFrame}
use Rattle.frame_listing.specs.Messages.{frame_listing}
use Rattle.frame_listing.specs.Fronts.{IsNext, Lists, AddsFront}
use Rattle.frame_listing.proofs.Wholes.{frame_whole}

-- there is none
pub no_front : (fault : Bad) (place : ℕ) (rest out : List ℕ) → IsNext (Err fault) place rest → AddsFront (Err (faults.Bad fault)) place rest out out
no_front fault place rest out is = ([], inr (is, refl), sym (append-nil out))

-- its message has a fault
pub bad_front : (fault : DecodeFault) (place : ℕ) (f : Frame) (rest later old new : List ℕ) → IsFrame f → rest ≡ frame f ++ later
    → Lists (Err fault) (frame_listing place f) old new → AddsFront (Err fault) place rest old new
bad_front (faults.Bad fault) place f rest later old new fits front is =
    ((frame_listing place f).text, inl (record { first = f; later = later; fits = fits; spelled = front; lines = refl; is = is.0 }), is.1)
bad_front faults.NoMemory place f rest later old new fits front is = tt

-- it is whole
pub whole_front : (n place : ℕ) (f : Frame) (rest old new : List ℕ) → IsFrame f → n ≡ length (frame f) → rest ≡ frame f ++ drop n rest
    → Lists (Ok tt) (frame_listing place f) old new → AddsFront (Ok n) place rest old new
whole_front n place f rest old new fits len front is = (f, frame_whole place f fits is.0, len, front, is.1)

-- it fits before the end
pub front_within : (f : Frame) (place n limit : ℕ) (rest : List ℕ) → place + length rest < limit → rest ≡ frame f ++ drop n rest → place + length (frame f) < limit
front_within f place n limit rest small front = omega (arith, ap length front, length-append (frame f) (drop n rest))
