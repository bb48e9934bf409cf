-- Frames whose messages are lent from the bytes that they were read from.
use Rattle.std.specs.Prelude.{◌≡◌, Result, Ok, Err}
use Rattle.wire_core.specs.declared.bad.Bad.{Bad}
use Rattle.wire_core.specs.Part.{Part}
use Rattle.link_framing.specs.declared.frame.Frame.{Frame}
use Rattle.link_framing.specs.declared.frame.Frame.TheVariants.{Payload, Ack}
use Rattle.link_framing.specs.declared.frame.FrameView.{FrameView}
use Rattle.link_framing.specs.declared.frame.FrameView.TheVariants as views

-- the frame that is seen so
abbrev pub seen : FrameView → Frame
seen (views.Payload sequence message) = Payload sequence message.now
seen (views.Ack sequence received) = Ack sequence received

-- A call saw what this reading gives, and left what it leaves.
abbrev pub Sees : Result FrameView Bad → Part → Result (Frame × Part) Bad → Type 0
Sees (Ok view) left read = read ≡ Ok (seen view, left)
Sees (Err bad) left read = read ≡ Err bad
