-- What is listed of a message, part by part.
use Rattle.std.proofs.Common.{◌≡◌, ℕ, List, [], ◌++◌, drop, Result, Ok, Err, refl, sym, ap, subst, ◌∙◌, append_assoc, append-nil}
use Rattle.text_words.specs.Lines.{ended}
use Rattle.wire_core.specs.declared.bad.Bad.{Bad}
use Rattle.wire_core.specs.declared.bad.DecodeFault.{DecodeFault}
use Rattle.wire_core.specs.declared.bad.DecodeFault.TheVariants as faults
use Rattle.wire_core.specs.Part.{Part, part}
use Rattle.wire_core.specs.Reading as reading
use Rattle.forwarding_header.specs.declared.header.Header.{Header}
use Rattle.forwarding_header.specs.Header.{message_at}
use Rattle.message_bodies.specs.Contents.{contents_at}
use Rattle.security_block.specs.Block.{block_at}
use Rattle.frame_listing.specs.declared.listing.Listing.{Listing}
use Rattle.frame_listing.specs.Lines.{message_line, contents_line, security_line}
use Rattle.frame_listing.specs.Messages.{no_kinds, listed, filled, headed, message_listing}
use Rattle.frame_listing.specs.Fronts.{AddsLine, Lists}

-- a part that has a fault
listed_bad : {A : Type 0} (e : DecodeFault) (r : Result (A × Part) Bad) (line : A → List ℕ) (next : Part → Listing) (left : Part) (old new : List ℕ)
    → AddsLine (Err e) r line left old new → Lists (Err e) (listed r line next) old new
listed_bad (faults.Bad bad) r line next left old new is =
    subst (λ r. Lists (Err (faults.Bad bad)) (listed r line next) old new) (sym is.0) (refl, is.1 ∙ sym (append-nil old))
listed_bad faults.NoMemory r line next left old new is = tt

-- a part that was read, and what was listed behind it
listed_then : {A : Type 0} (result : Result (Unit {0}) DecodeFault) (r : Result (A × Part) Bad) (line : A → List ℕ) (next : Part → Listing) (x : A) (q : Part) (old mid new : List ℕ)
    → r ≡ Ok (x, q) → mid ≡ old ++ ended (line x) → Lists result (next q) mid new → Lists result (listed r line next) old new
listed_then result r line next x q old mid new read added is =
    subst (λ r. Lists result (listed r line next) old new) (sym read) (go result is)
  where
    together : (text : List ℕ) → new ≡ mid ++ text → new ≡ old ++ (ended (line x) ++ text)
    together text e = e ∙ ap (λ (t : List ℕ). t ++ text) added ∙ append_assoc old (ended (line x)) text

    go : (result : Result (Unit {0}) DecodeFault) → Lists result (next q) mid new → Lists result (listed (Ok (x, q)) line next) old new
    go (Ok done) is = (is.0, together (next q).text is.1)
    go (Err (faults.Bad bad)) is = (is.0, together (next q).text is.1)
    go (Err faults.NoMemory) is = tt

-- the same of a part that was read by a call
listed_added : {A : Type 0} (result : Result (Unit {0}) DecodeFault) (r : Result (A × Part) Bad) (line : A → List ℕ) (next : Part → Listing) (left : Part) (old mid new : List ℕ)
    → AddsLine (Ok tt) r line left old mid → Lists result (next left) mid new → Lists result (listed r line next) old new
listed_added result r line next left old mid new is later = listed_then result r line next is.0 left old mid new is.1 is.2 later

-- nothing is left, or bytes are
filled_all : (p left : Part) (r : Result (Unit {0}) Bad) (old : List ℕ) → reading.Reads r left (reading.ended p) → Lists (elim r [ Ok x ↦ Ok x | Err bad ↦ Err (faults.Bad bad) ]) (filled (reading.ended p)) old old
filled_all p left (Ok x) old is = subst (λ r. Lists (Ok x) (filled r) old old) (sym is) (refl, sym (append-nil old))
filled_all p left (Err bad) old is = subst (λ r. Lists (Err (faults.Bad bad)) (filled r) old old) (sym is) (refl, sym (append-nil old))

-- ---- the steps of a message

pub header_refused : (e : DecodeFault) (m old : List ℕ) → reading.Gives (Err e) (message_at m) → Lists (Err e) (message_listing m) old old
unfolding message_listing
header_refused (faults.Bad bad) m old is = listed_bad (faults.Bad bad) (headed m (message_at m)) message_line _ (part 0 []) old old (ap (headed m) is, refl)
header_refused faults.NoMemory m old is = tt

-- behind a header that was read
behind : (result : Result (Unit {0}) DecodeFault) (m : List ℕ) (h : Header) (place : ℕ) (old mid new : List ℕ) → message_at m ≡ Ok (h, place) → mid ≡ old ++ ended (message_line h)
    → Lists result (listed (contents_at no_kinds (part place (drop place m))) contents_line (λ q. listed (block_at q) security_line (λ r. filled (reading.ended r)))) mid new
    → Lists result (message_listing m) old new
unfolding message_listing
behind result m h place old mid new read added later = listed_then result (headed m (message_at m)) message_line _ h (part place (drop place m)) old mid new (ap (headed m) read) added later

pub contents_refused : (e : DecodeFault) (m : List ℕ) (h : Header) (place : ℕ) (left : Part) (old mid new : List ℕ) → message_at m ≡ Ok (h, place) → mid ≡ old ++ ended (message_line h)
    → AddsLine (Err e) (contents_at no_kinds (part place (drop place m))) contents_line left mid new → Lists (Err e) (message_listing m) old new
contents_refused e m h place left old mid new read added is =
    behind (Err e) m h place old mid new read added (listed_bad e (contents_at no_kinds (part place (drop place m))) contents_line _ left mid new is)

-- behind contents that were read
further : (result : Result (Unit {0}) DecodeFault) (m : List ℕ) (h : Header) (place : ℕ) (left : Part) (old mid more new : List ℕ) → message_at m ≡ Ok (h, place) → mid ≡ old ++ ended (message_line h)
    → AddsLine (Ok tt) (contents_at no_kinds (part place (drop place m))) contents_line left mid more
    → Lists result (listed (block_at left) security_line (λ r. filled (reading.ended r))) more new → Lists result (message_listing m) old new
further result m h place left old mid more new read added is later =
    behind result m h place old mid new read added (listed_added result (contents_at no_kinds (part place (drop place m))) contents_line _ left mid more new is later)

pub security_refused : (e : DecodeFault) (m : List ℕ) (h : Header) (place : ℕ) (left last : Part) (old mid more new : List ℕ) → message_at m ≡ Ok (h, place) → mid ≡ old ++ ended (message_line h)
    → AddsLine (Ok tt) (contents_at no_kinds (part place (drop place m))) contents_line left mid more
    → AddsLine (Err e) (block_at left) security_line last more new → Lists (Err e) (message_listing m) old new
security_refused e m h place left last old mid more new read added is refused =
    further (Err e) m h place left old mid more new read added is (listed_bad e (block_at left) security_line _ last more new refused)

pub all_read : (result : Result (Unit {0}) DecodeFault) (m : List ℕ) (h : Header) (place : ℕ) (left last : Part) (old mid more new : List ℕ) → message_at m ≡ Ok (h, place) → mid ≡ old ++ ended (message_line h)
    → AddsLine (Ok tt) (contents_at no_kinds (part place (drop place m))) contents_line left mid more
    → AddsLine (Ok tt) (block_at left) security_line last more new → Lists result (filled (reading.ended last)) new new → Lists result (message_listing m) old new
all_read result m h place left last old mid more new read added is also later =
    further result m h place left old mid more new read added is (listed_added result (block_at left) security_line _ last more new new also later)

pub left_over : (p left : Part) (bad : Bad) (old : List ℕ) → reading.Reads (Err bad) left (reading.ended p) → Lists (Err (faults.Bad bad)) (filled (reading.ended p)) old old
left_over p left bad old is = filled_all p left (Err bad) old is

pub nothing_left : (p left : Part) (old : List ℕ) → reading.Reads (Ok tt) left (reading.ended p) → Lists (Ok tt) (filled (reading.ended p)) old old
nothing_left p left old is = filled_all p left (Ok tt) old is
