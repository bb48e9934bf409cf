-- The fixed texts of a listing, byte for byte.
use Rattle.std.specs.Prelude.{ℕ, List, codes}
use Rattle.wire_core.specs.declared.bad.Reason.{Reason}
use Rattle.wire_core.specs.declared.bad.Reason.TheVariants as reasons
use Rattle.frame_listing.specs.declared.label.Label.{Label}
use Rattle.frame_listing.specs.declared.label.Label.TheVariants as labels

-- what stands in front of a word
unfoldable pub text_of : Label → List ℕ
text_of labels.Frame = codes "frame "
text_of labels.Payload = codes " payload "
text_of labels.Ack = codes " ack "
text_of labels.Message = codes "message overlay="
text_of labels.Sequence = codes " seq="
text_of labels.TimeToLive = codes " ttl="
text_of labels.Length = codes " length="
text_of labels.Transaction = codes " id="
text_of labels.MaxResponse = codes " max="
text_of labels.Via = codes " via="
text_of labels.Destination = codes " dest="
text_of labels.Options = codes " options="
text_of labels.Contents = codes "contents code="
text_of labels.Body = codes " body="
text_of labels.Extensions = codes " extensions="
text_of labels.Security = codes "security certificates="
text_of labels.Identity = codes " identity="
text_of labels.Value = codes " value="
text_of labels.End = codes "end "
text_of labels.Bad = codes "bad "

-- the name of a reason
unfoldable pub name_of : Reason → List ℕ
name_of reasons.Short = codes "short"
name_of reasons.LengthPast = codes "length-past"
name_of reasons.BadValue = codes "bad-value"
name_of reasons.Trailing = codes "trailing"
name_of reasons.TooLarge = codes "too-large"
