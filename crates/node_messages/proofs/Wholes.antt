-- Whole messages: how long they are, what is sent, and that it is a message.
use Rattle.std.proofs.Common.{◌≡◌, ℕ, ◌+◌, ◌^◌, ◌<◌, ◌≤◌, ◌⊎◌, List, ◌++◌, length, min, ◌-◌, ◌↔◌, Bool, false, IsTrue, IfOk, drop, Option, Some, None, Result, Ok, Err, refl, sym, ap, subst, ◌∙◌, append_assoc, length-append, arith, inl, inr}
use Rattle.std.proofs.lemmas.List.{append-nil, drop_at}
use Rattle.wire_core.specs.Laws.Bytes.{length-number}
use Rattle.wire_core.specs.Spelling.{number}
use Rattle.wire_core.specs.declared.limits.TheConstants.{MAX_MESSAGE}
use Rattle.security_block.specs.declared.about.About.{About}
use Rattle.security_block.specs.declared.block.SecurityBlock.{SecurityBlock}
use Rattle.security_block.specs.Block.{block, IsSpelledBlock, IsBlockInRange}
use Rattle.security_block.specs.Signers.{alone}
use Rattle.forwarding_header.specs.declared.header.Header.{Header}
use Rattle.forwarding_header.specs.Header.{fixed, lists, header, IsSpelledHeader, IsHeaderInRange, IsMessage}
use Rattle.message_bodies.specs.declared.contents.Contents.{Contents}
use Rattle.message_bodies.specs.Contents.{contents, IsSpelledContents}
use Rattle.message_bodies.specs.Messages.{message}
use Rattle.node_messages.specs.Signed.{SignerWords, signed}
use Rattle.node_messages.specs.Making.{own_block, with_length, whole, sent, IsSendable, is_sendable, sent_if, made}
use Rattle.node_messages.specs.Assembling.{IsAssembled}

-- a header is as long whatever length it names
length-with_length : (h : Header) (behind : List ℕ) → length (header (with_length h behind)) ≡ length (header h)
unfolding with_length fixed lists
length-with_length h behind = simp (length-append, length-number)

-- a message is as long as its parts
pub length-whole : (h : Header) (behind : List ℕ) → length (whole h behind) ≡ length (header h) + length behind
unfolding whole
length-whole h behind = omega (arith, length-append (header (with_length h behind)) behind, length-with_length h behind)

-- and that is the length that its header names
pub with_length-whole : (h : Header) (behind : List ℕ) → (with_length h behind).length ≡ length (whole h behind)
unfolding with_length
with_length-whole h behind = sym (length-whole h behind)

sent_if-yes : {P : Type 0} (d : Dec P) (bytes : List ℕ) → P → sent_if d bytes ≡ Some bytes
sent_if-yes (yes can) bytes p = refl
sent_if-yes (no never) bytes p = absurd (never p)

sent_if-no : {P : Type 0} (d : Dec P) (bytes : List ℕ) → ¬ P → sent_if d bytes ≡ None
sent_if-no (yes can) bytes never = absurd (never can)
sent_if-no (no never) bytes none = refl

sent_if-some : {P : Type 0} (d : Dec P) (bytes m : List ℕ) → sent_if d bytes ≡ Some m → P × (bytes ≡ m)
sent_if-some (yes can) bytes m e = let same : bytes ≡ m = cc in (can, same)
sent_if-some (no never) bytes m e = absurd cc

made-yes : (words : SignerWords) (who : About) (h : Header) (c : Contents) → IsSendable words who h c → made words who h c ≡ Some (sent words who h c)
unfolding made
made-yes words who h c can = sent_if-yes (is_sendable words who h c) _ can

pub made-no : (words : SignerWords) (who : About) (h : Header) (c : Contents) → ¬ IsSendable words who h c → made words who h c ≡ None
unfolding made
made-no words who h c never = sent_if-no (is_sendable words who h c) _ never

-- what is made can be sent, and is what is sent
pub made-some : (words : SignerWords) (who : About) (h : Header) (c : Contents) (bytes : List ℕ) → made words who h c ≡ Some bytes → IsSendable words who h c × (sent words who h c ≡ bytes)
unfolding made
made-some words who h c bytes e = sent_if-some (is_sendable words who h c) _ bytes e

-- what is assembled of a maker's own parts is what it makes
made-own : (words : SignerWords) (who : About) (h : Header) (c : Contents) (m : Option (List ℕ)) → IsSpelledHeader h → IsSpelledContents c → IsBlockInRange (own_block words who h c)
    → IsAssembled h (contents c) (own_block words who h c) m → m ≡ made words who h c
made-own words who h c (Some bytes) headed said fits a =
    let can : IsSendable words who h c = record { header = headed; contents = said; block = a.0; block_in_range = fits; within = subst (λ (t : List ℕ). length t ≤ MAX_MESSAGE) a.1 a.2 } in
    ap (λ (t : List ℕ). Some t) a.1 ∙ sym (made-yes words who h c can)
made-own words who h c None headed said fits a =
    sym (made-no words who h c (λ can. elim a [ inl never ↦ never can.block | inr long ↦ omega (arith, can.within, long) ]))

pub made_of : (words : SignerWords) (who : About) (h : Header) (c : Contents) (text : List ℕ) (b : SecurityBlock) (m : Option (List ℕ)) → IsSpelledHeader h → IsSpelledContents c
    → text ≡ contents c → b ≡ own_block words who h c → IsBlockInRange b → IsAssembled h text b m → m ≡ made words who h c
made_of words who h c text b m headed said is own fits a =
    let P : List ℕ → Type 0 = λ t. IsAssembled h t (own_block words who h c) m in
    let Q : SecurityBlock → Type 0 = λ s. IsAssembled h text s m in
    made-own words who h c m headed said (subst IsBlockInRange own fits) (subst P is (subst Q own a))

-- what is sent is a message with its header
pub whole_is_message : (h : Header) (behind : List ℕ) → IsSpelledHeader h → IsHeaderInRange h → length (whole h behind) ≤ MAX_MESSAGE → IsMessage (with_length h behind) (whole h behind)
unfolding whole with_length
whole_is_message h behind s r le = record {
  is_spelled = record { each_via = s.each_via; each_dest = s.each_dest; each_option = s.each_option; via_length = s.via_length; dest_length = s.dest_length; options_length = s.options_length };
  in_range = record { overlay = r.overlay; sequence = r.sequence; ttl = r.ttl; id = r.id; max_response = r.max_response; via = r.via; dest = r.dest; options = r.options };
  length_is = with_length-whole h behind;
  within = omega (arith, with_length-whole h behind, le);
  begins = (behind, refl);
}

-- what is put together of parts that fit is a message of them
pub put_together : (h : Header) (text : List ℕ) (b : SecurityBlock) (n : ℕ) (front more all : List ℕ) → IsSpelledBlock b → n ≡ min (length (whole h (text ++ block b))) (2 ^ 64 - 1) → n ≤ MAX_MESSAGE
    → front ≡ header (record h { length = n }) → more ≡ front ++ text → all ≡ more ++ block b → IsAssembled h text b (Some all)
unfolding whole with_length
put_together h text b n front more all fits len le e f g =
    let behind = text ++ block b in
    let filled : n ≡ length (header h) + length behind = omega (arith, len, length-whole h behind) in
    let is : all ≡ whole h behind =
    g ∙ ap (λ (t : List ℕ). t ++ block b) f ∙ ap (λ (t : List ℕ). (t ++ text) ++ block b) e ∙ append_assoc (header (record h { length = n })) text (block b)
    ∙ ap (λ (k : ℕ). header (record h { length = k }) ++ behind) filled in
    (fits, is, omega (arith, ap length is, len, le))

-- what a maker signs holds its contents behind twelve bytes
pub signed-behind : (h : Header) (c : Contents) → (12 ≤ length (signed h c)) × (drop 12 (signed h c) ≡ contents c)
unfolding signed
signed-behind h c =
    let front = number 4 h.overlay ++ number 8 h.id in
    let len : length front ≡ 12 = omega (arith, length-append (number 4 h.overlay) (number 8 h.id), length-number 4 h.overlay, length-number 8 h.id) in
    let is : signed h c ≡ front ++ contents c = rw (append-nil, append_assoc) refl in
    (rw is (omega (arith, len, length-append front (contents c))), rw is (drop_at front (contents c) 12 len))

-- a maker's block
pub own_is : (words : SignerWords) (who : About) (h : Header) (c : Contents) (b : SecurityBlock) (bytes : List ℕ)
    → b ≡ record { certificates = alone (words.certificate_of who); signature = words.signature_of (words.certificate_of who) bytes } → bytes ≡ signed h c → b ≡ own_block words who h c
unfolding own_block
own_is words who h c b bytes is e =
    let certificate = words.certificate_of who in
    is ∙ ap (λ (t : List ℕ). record { certificates = alone certificate; signature = words.signature_of certificate t }) e

-- what has no spelling isn't made
pub unspelled : (words : SignerWords) (who : About) (h : Header) (c : Contents) (fits : Bool) → (IsTrue fits ↔ (IsSpelledHeader h × IsSpelledContents c)) → fits ≡ false → None ≡ made words who h c
unspelled words who h c fits iff none = sym (made-no words who h c (λ can. let t = iff.1 (can.header, can.contents) in absurd cc))

-- what is assembled of these parts is what their maker makes
pub all_made : {E : Type 0} (words : SignerWords) (who : About) (h : Header) (c : Contents) (all text : List ℕ) (b : SecurityBlock) (r : Result (Option (List ℕ)) E) → IsSpelledHeader h → IsSpelledContents c
    → all ≡ signed h c → text ≡ drop 12 all → b ≡ own_block words who h c → IsBlockInRange b → IfOk r (λ m. IsAssembled h text b m) → IfOk r (λ m. m ≡ made words who h c)
all_made words who h c all text b (Ok m) headed said e is own fits a =
    made_of words who h c text b m headed said (is ∙ ap (drop 12) e ∙ (signed-behind h c).1) own fits a
all_made words who h c all text b (Err bad) headed said e is own fits a = tt

pub ruleset whole_lengths = (length-whole, length-append)
