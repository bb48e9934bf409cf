-- What is read of bytes is what they are.
use Rattle.std.proofs.Common.{◌≡◌, ℕ, ◌+◌, ◌^◌, ◌<◌, ◌≤◌, List, [], ◌++◌, length, drop, Option, Result, Ok, Err, IfOk, refl, sym, ap, subst, ◌∙◌, length-append, arith, inl, inr}
use Rattle.std.proofs.lemmas.Bool.{cases_lt, le-ltb, lt-ltb}
use Rattle.std.proofs.lemmas.List.{drop_at}
use Rattle.std.proofs.Math.Seq.{drop-append_seam}
use Rattle.wire_core.specs.declared.bad.Bad.{Bad}
use Rattle.wire_core.specs.Part.{Part, part}
use Rattle.wire_core.specs.Layout.{IsLayout}
use Rattle.wire_core.specs.Spelling.{AreBytes, number}
use Rattle.wire_core.specs.Reading.{bytes_at, number_at, value_of, whole_of}
use Rattle.wire_core.specs.Laws.Bytes.{AreBytes-behind, length-number}
use Rattle.wire_core.specs.Laws.Steps.{ok_is, pair_is_layout}
use Rattle.wire_core.specs.Laws.Words.{number_laid}
use Rattle.wire_core.proofs.Decoders.{whole_takes, whole_again}
use Rattle.data_models.specs.declared.config.Config.{Config}
use Rattle.security_block.specs.declared.about.About.{About}
use Rattle.security_block.specs.declared.block.SecurityBlock.{SecurityBlock}
use Rattle.security_block.specs.Block.{block, IsSpelledBlock, IsBlockInRange}
use Rattle.security_block.specs.Laws.Blocks.{block_laid}
use Rattle.forwarding_header.specs.declared.header.Header.{Header}
use Rattle.forwarding_header.specs.Header as headers
use Rattle.forwarding_header.proofs.Messages as header_laws
use Rattle.message_bodies.specs.declared.contents.Contents.{Contents}
use Rattle.message_bodies.specs.Bodies.{code_of}
use Rattle.message_bodies.specs.Contents.{contents, IsSpelledContents, IsContentsInRange, IsContentsOf}
use Rattle.message_bodies.specs.Messages as messages
use Rattle.message_bodies.specs.Laws.Contents.{contents_laid}
use Rattle.node_messages.specs.declared.message.Message.{Message}
use Rattle.node_messages.specs.declared.message.Message.TheVariants as found
use Rattle.node_messages.specs.Found.{IsHeaded, IsUnspelt, IsBad, IsWhole, IsFound}
use Rattle.node_messages.specs.Reading.{read_parts, read_coded, read_headed, read}
use Rattle.node_messages.specs.Signed.{SignerWords, signed, signer_by}

abbrev PartsFit : Config → Contents × SecurityBlock → Type 0
PartsFit config m = (IsSpelledContents m.0 × IsSpelledBlock m.1) × ((IsContentsInRange m.0 × IsContentsOf config m.0) × IsBlockInRange m.1)

parts_laid : (config : Config) → IsLayout (PartsFit config) (λ m. messages.message m.0 m.1) (messages.message_at config)
parts_laid config = pair_is_layout (contents_laid config) block_laid

-- two bytes make a number
no_fault : (p : Part) (bad : Bad) → 2 ≤ length p.bytes → value_of (number_at 2 p) ≡ Err bad → ⊥
unfolding number_at bytes_at
no_fault p bad le e = let read = rw (le-ltb (length p.bytes) 2 le) at e in cc

is_read : (r : Result ℕ Bad) → ((bad : Bad) → r ≡ Err bad → ⊥) → (code : ℕ) × (r ≡ Ok code)
is_read (Ok code) never = (code, refl)
is_read (Err bad) never = absurd (never bad refl)

code_read : (p : Part) → 2 ≤ length p.bytes → (code : ℕ) × (value_of (number_at 2 p) ≡ Ok code)
code_read p le = is_read (value_of (number_at 2 p)) (λ bad e. no_fault p bad le e)

-- contents begin with their code
contents-two : (c : Contents) → 2 ≤ length (contents c)
unfolding contents
contents-two c = omega (arith, length-number 2 (code_of c.body), length-append {A = ℕ})

-- too few bytes make none
no_code : (p : Part) (code : ℕ) → length p.bytes < 2 → value_of (number_at 2 p) ≡ Ok code → ⊥
unfolding number_at bytes_at
no_code p code lt e = let read = rw (lt-ltb (length p.bytes) 2 lt) at e in cc

-- the header that bytes have is read, and what is behind it
head_read : (config : Config) (words : SignerWords) (bytes behind : List ℕ) (h : Header) → IsHeaded h behind bytes → read config words bytes ≡ read_coded config words h behind (value_of (number_at 2 (part 0 behind)))
unfolding read
head_read config words bytes behind h headed =
    let head : headers.message_at bytes ≡ Ok (h, length (headers.header h)) = header_laws.message_again bytes h headed.is_message in
    let rest : drop (length (headers.header h)) bytes ≡ behind = ap (drop (length (headers.header h))) headed.parts ∙ drop-append_seam (headers.header h) behind in
    ap (λ (x : Result (Header × ℕ) Bad). read_headed config words bytes x) head
    ∙ ap (λ (t : List ℕ). read_coded config words h t (value_of (number_at 2 (part 0 t)))) rest

-- whole parts are read
pub whole_read : (config : Config) (words : SignerWords) (bytes : List ℕ) (h : Header) (c : Contents) (b : SecurityBlock) (signer : Option About) → IsWhole config h c b bytes
    → signer ≡ signer_by words (signed h c) b → read config words bytes ≡ found.Whole h c b.certificates signer
whole_read config words bytes h c b signer w is =
    let behind = messages.message c b in
    let s = w.is_spelled in
    let fits : PartsFit config (c, b) = ((s.is_spelled, s.block_is_spelled), ((s.in_range, s.belongs), s.block_in_range)) in
    let code = code_read (part 0 behind) (omega (arith, contents-two c, length-append (contents c) (block b))) in
    head_read config words bytes behind h w.headed
    ∙ ap (λ (x : Result ℕ Bad). read_coded config words h behind x) code.1
    ∙ ap (λ (x : Result (Contents × SecurityBlock) Bad). read_parts words h code.0 x) (whole_again (parts_laid config) behind (c, b) fits refl)
    ∙ ap (λ (x : Option About). found.Whole h c b.certificates x) (sym is)

bad_parts : (config : Config) (words : SignerWords) (bytes : List ℕ) (h : Header) (code : ℕ) (f : IsBad config h code bytes) (r : Result (Contents × SecurityBlock) Bad) → AreBytes f.behind
    → whole_of (messages.message_at config) f.behind ≡ r → read_parts words h code r ≡ found.Bad h code
bad_parts config words bytes h code f (Ok parts) are e =
    let t = whole_takes (parts_laid config) f.behind parts are e in
    let s = t.0 in
    absurd (f.no_parts parts.0 parts.1 (record { is_spelled = s.0.0; in_range = s.1.0.0; belongs = s.1.0.1; block_is_spelled = s.0.1; block_in_range = s.1.1 }) t.1)
bad_parts config words bytes h code f (Err bad) are e = refl

-- bad ones are read as bad
bad_read : (config : Config) (words : SignerWords) (bytes : List ℕ) (h : Header) (code : ℕ) → AreBytes bytes → IsBad config h code bytes → read config words bytes ≡ found.Bad h code
bad_read config words bytes h code are f =
    let more = f.coded.0 in
    let text : f.behind ≡ number 2 code ++ more = f.coded.1 in
    let law = (number_laid {n = length (number 2 code)} 2).again 0 code more (omega arith) tt (omega (arith, f.in_range)) tt in
    let coded : value_of (number_at 2 (part 0 f.behind)) ≡ Ok code = ap (λ (t : List ℕ). value_of (number_at 2 (part 0 t))) text ∙ ap (λ (x : Result (ℕ × Part) Bad). value_of x) law in
    let behind : AreBytes f.behind = AreBytes-behind (headers.header h) f.behind (subst AreBytes f.headed.parts are) in
    head_read config words bytes f.behind h f.headed
    ∙ ap (λ (x : Result ℕ Bad). read_coded config words h f.behind x) coded
    ∙ bad_parts config words bytes h code f (whole_of (messages.message_at config) f.behind) behind refl

unspelt_coded : (config : Config) (words : SignerWords) (behind : List ℕ) (h : Header) (r : Result ℕ Bad) → length behind < 2 → value_of (number_at 2 (part 0 behind)) ≡ r → read_coded config words h behind r ≡ found.Unspelt
unspelt_coded config words behind h (Ok code) lt e = absurd (no_code (part 0 behind) code lt e)
unspelt_coded config words behind h (Err bad) lt e = refl

unspelt_headed : (config : Config) (words : SignerWords) (bytes : List ℕ) (r : Result (Header × ℕ) Bad) → AreBytes bytes → IsUnspelt bytes → headers.message_at bytes ≡ r → read config words bytes ≡ found.Unspelt
unfolding read
unspelt_headed config words bytes (Ok x) are none e =
    let t = header_laws.message_takes bytes x are e in
    let rest = t.0.begins.0 in
    let headed : IsHeaded x.0 rest bytes = record { is_message = t.0; parts = t.0.begins.1 } in
    head_read config words bytes rest x.0 headed ∙ unspelt_coded config words rest x.0 (value_of (number_at 2 (part 0 rest))) (none x.0 rest headed) refl
unspelt_headed config words bytes (Err bad) are none e = ap (λ (x : Result (Header × ℕ) Bad). read_headed config words bytes x) e

read_only : (config : Config) (words : SignerWords) (bytes : List ℕ) (m : Message) → AreBytes bytes → IsFound config words bytes m → read config words bytes ≡ m
read_only config words bytes found.Unspelt are f = unspelt_headed config words bytes (headers.message_at bytes) are f refl
read_only config words bytes (found.Bad h code) are f = bad_read config words bytes h code are f
read_only config words bytes (found.Whole h c certificates signer) are f = whole_read config words bytes h c (record { certificates = certificates; signature = f.0 }) signer f.1.0 f.1.1

pub is_only : {E : Type 0} (config : Config) (words : SignerWords) (bytes : List ℕ) (r : Result Message E) (m : Message) → AreBytes bytes → IsFound config words bytes m → IfOk r (λ x. x ≡ read config words bytes)
    → IfOk r (λ x. x ≡ m)
is_only config words bytes (Ok x) m are f e = e ∙ read_only config words bytes m are f
is_only config words bytes (Err bad) m are f e = tt

-- a header that bytes have is the one that they have
one_header : (bytes : List ℕ) (g h : Header) (x y : List ℕ) → IsHeaded g x bytes → IsHeaded h y bytes → length x ≡ length y
one_header bytes g h x y a b =
    let same = ok_is (g, length (headers.header g)) (h, length (headers.header h)) (sym (header_laws.message_again bytes g a.is_message) ∙ header_laws.message_again bytes h b.is_message) in
    omega (arith, ap (λ (z : Header × ℕ). z.1) same, ap length a.parts, ap length b.parts, length-append (headers.header g) x, length-append (headers.header h) y)

value_ok : (r : Result (ℕ × Part) Bad) (code : ℕ) → value_of r ≡ Ok code → (q : Part) × (r ≡ Ok (code, q))
value_ok (Ok x) code e = let same : x.0 ≡ code = cc in (x.1, ap (λ (n : ℕ). Ok (n, x.1)) same)
value_ok (Err bad) code e = absurd cc

parts_found : (config : Config) (words : SignerWords) (bytes behind : List ℕ) (h : Header) (code : ℕ) (r : Result (Contents × SecurityBlock) Bad) → AreBytes behind → IsHeaded h behind bytes
    → value_of (number_at 2 (part 0 behind)) ≡ Ok code → whole_of (messages.message_at config) behind ≡ r → IsFound config words bytes (read_parts words h code r)
parts_found config words bytes behind h code (Ok parts) are headed coded e =
    let t = whole_takes (parts_laid config) behind parts are e in
    let f = t.0 in
    let P : List ℕ → Type 0 = λ x. IsHeaded h x bytes in (
      parts.1.signature,
      (
        record {
          headed = subst P t.1 headed;
          is_spelled = record { is_spelled = f.0.0; in_range = f.1.0.0; belongs = f.1.0.1; block_is_spelled = f.0.1; block_in_range = f.1.1 };
        },
        refl,
      ),
    )
parts_found config words bytes behind h code (Err bad) are headed coded e =
    let v = value_ok (number_at 2 (part 0 behind)) code coded in
    let t = (number_laid {n = length behind} 2).takes (part 0 behind) code v.0 are (omega arith) v.1 in
    record {
      behind = behind;
      headed = headed;
      in_range = omega (arith, t.1);
      coded = (v.0.bytes, t.2.bytes);
      no_parts = λ c b s is.
          let fits : PartsFit config (c, b) = ((s.is_spelled, s.block_is_spelled), ((s.in_range, s.belongs), s.block_in_range)) in
          let whole = whole_again (parts_laid config) behind (c, b) fits is in
          cc;
    }

coded_found : (config : Config) (words : SignerWords) (bytes behind : List ℕ) (h : Header) (r : Result ℕ Bad) → AreBytes behind → IsHeaded h behind bytes
    → value_of (number_at 2 (part 0 behind)) ≡ r → IsFound config words bytes (read_coded config words h behind r)
coded_found config words bytes behind h (Ok code) are headed e = parts_found config words bytes behind h code (whole_of (messages.message_at config) behind) are headed e refl
coded_found config words bytes behind h (Err bad) are headed e = λ g x other.
    let same = one_header bytes h g behind x headed other in
    elim (cases_lt (length behind) 2) [ inl lt ↦ omega (arith, same, lt) | inr le ↦ absurd (no_fault (part 0 behind) bad le e) ]

headed_found : (config : Config) (words : SignerWords) (bytes : List ℕ) (r : Result (Header × ℕ) Bad) → AreBytes bytes → headers.message_at bytes ≡ r → IsFound config words bytes (read_headed config words bytes r)
headed_found config words bytes (Ok x) are e =
    let t = header_laws.message_takes bytes x are e in
    let rest = t.0.begins.0 in
    let text : bytes ≡ headers.header x.0 ++ rest = t.0.begins.1 in
    let behind : drop x.1 bytes ≡ rest = ap (drop x.1) text ∙ drop_at (headers.header x.0) rest x.1 (sym t.1) in
    let headed : IsHeaded x.0 rest bytes = record { is_message = t.0; parts = text } in
    let P : List ℕ → Type 0 = λ y. IsFound config words bytes (read_coded config words x.0 y (value_of (number_at 2 (part 0 y)))) in
    subst P (sym behind) (coded_found config words bytes rest x.0 (value_of (number_at 2 (part 0 rest))) (AreBytes-behind (headers.header x.0) rest (subst AreBytes text are)) headed refl)
headed_found config words bytes (Err bad) are e = λ h behind headed. let again = header_laws.message_again bytes h headed.is_message in absurd cc

pub read_found : (config : Config) (words : SignerWords) (bytes : List ℕ) → AreBytes bytes → IsFound config words bytes (read config words bytes)
unfolding read
read_found config words bytes are = headed_found config words bytes (headers.message_at bytes) are refl

pub is_found : {E : Type 0} (config : Config) (words : SignerWords) (bytes : List ℕ) (r : Result Message E) → AreBytes bytes → IfOk r (λ m. m ≡ read config words bytes) → IfOk r (IsFound config words bytes)
is_found config words bytes (Ok m) are e = subst (IsFound config words bytes) (sym e) (read_found config words bytes are)
is_found config words bytes (Err bad) are e = tt
