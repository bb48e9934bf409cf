-- What is sent fits.
use Rattle.std.proofs.Common.{◌≡◌, ℕ, ◌+◌, ◌≤◌, List, Option, length, sym, subst, arith}
use Rattle.std.specs.Prelude.{IfSome}
use Rattle.wire_core.specs.declared.limits.TheConstants.{MAX_MESSAGE}
use Rattle.security_block.specs.declared.about.About.{About}
use Rattle.forwarding_header.specs.declared.header.Header.{Header}
use Rattle.forwarding_header.specs.Header.{header, IsSpelledHeader}
use Rattle.node_messages.specs.Making.{whole}
use Rattle.node_messages.proofs.Wholes.{length-whole}
use Rattle.message_courses.specs.Fits.{IsNextOf}
use Rattle.message_bodies.specs.declared.contents.Contents.{Contents}
use Rattle.node_messages.specs.Signed.{SignerWords}
use Rattle.node_messages.specs.Making.{IsSendable, is_sendable, sent_if, sent, made}

sent_within : (words : SignerWords) (who : About) (h : Header) (c : Contents) (d : Dec (IsSendable words who h c)) → IfSome (sent_if d (sent words who h c)) (λ m. length m ≤ MAX_MESSAGE)
sent_within words who h c (yes can) = can.within
sent_within words who h c (no never) = tt

-- a message that is made isn't too large
pub made_within : (words : SignerWords) (who : About) (h : Header) (c : Contents) (m : Option (List ℕ)) → m ≡ made words who h c → IfSome m (λ b. length b ≤ MAX_MESSAGE)
unfolding made
made_within words who h c m is = subst (λ o. IfSome o (λ b. length b ≤ MAX_MESSAGE)) (sym is) (sent_within words who h c (is_sendable words who h c))

-- an answer that is passed on isn't too large
pub passed_fits : (h next : Header) (behind : List ℕ) → length (header h) + length behind ≤ MAX_MESSAGE → IsNextOf 0 h next → IsSpelledHeader next × (length (whole next behind) ≤ MAX_MESSAGE)
passed_fits h next behind le n = (n.is_spelled, omega (arith, length-whole next behind, n.longer, le))
