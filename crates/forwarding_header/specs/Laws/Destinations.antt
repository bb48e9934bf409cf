-- A destination is read as it is spelled.
use Rattle.std.proofs.Common.{◌≡◌, ℕ, ◌+◌, ◌*◌, ◌/◌, ◌%◌, ◌^◌, ◌<◌, ◌≤◌, true, leb, List, [], ◌∷◌, ◌++◌, length, refl, ap, subst, length-append, lit<, arith}
use Rattle.std.proofs.lemmas.Bool.{cond_both, leb-true, le-leb}
use Rattle.reload_ids.specs.declared.TheConstants.{ID_LENGTH}
use Rattle.wire_core.specs.declared.limits.TheConstants.{RESOURCE_ID_LENGTH}
use Rattle.wire_core.specs.Spelling.{AreBytes, number, vector}
use Rattle.wire_core.specs.Reading.{and_then, done, number_at, vector_at, sized_at}
use Rattle.wire_core.specs.Layout.{IsLayout}
use Rattle.wire_core.specs.Ids.{node_id, resource_id, IsNodeIdInRange, IsResourceIdInRange, node_id_at, resource_id_at}
use Rattle.wire_core.specs.Laws.Forms.{Takes, Again, HasCode, takes_made, takes_code, takes_none, again_made, forms_laid}
use Rattle.wire_core.specs.Laws.Bytes.{length-number}
use Rattle.wire_core.specs.Laws.Ids.{node_id_laid, resource_id_laid}
use Rattle.wire_core.specs.Laws.Lists.{sized_of}
use Rattle.wire_core.specs.Laws.Steps.{Anything, Always, Lays, laid, seq, fits_as, spelled_as, placed}
use Rattle.wire_core.specs.Laws.Words.{number_laid, vector_laid, counted_laid}
use Rattle.forwarding_header.specs.declared.destination.Destination.{Destination}
use Rattle.forwarding_header.specs.declared.destination.Destination.TheVariants.{Node, Resource, Opaque, Short}
use Rattle.forwarding_header.specs.Destinations.{destination, IsSpelledDestination, IsDestinationInRange, opaque_bytes_at, node_at, resource_at, opaque_at, short_at, destination_of, destination_at}

-- the first byte
code_of : Destination → ℕ
code_of d = elim d [ Node node ↦ 1 | Resource resource ↦ 2 | Opaque bytes ↦ 3 | Short n ↦ n / 256 ]

-- what is behind it
body : Destination → List ℕ
body d = elim d [
  | Node node ↦ vector 1 (node_id node)
  | Resource resource ↦ vector 1 (resource_id resource)
  | Opaque bytes ↦ vector 1 (vector 1 bytes)
  | Short k ↦ number 1 (k % 256)
]

abbrev pub DestinationFits : Destination → Type 0
DestinationFits d = IsSpelledDestination d × IsDestinationInRange d

body-code : (d : Destination) → number 1 (code_of d) ++ body d ≡ destination d
unfolding destination code_of body number
body-code (Node node) = refl
body-code (Resource resource) = refl
body-code (Opaque bytes) = refl
body-code (Short k) = let e : k % 256 % 256 ≡ k % 256 = omega arith in
    ap (λ (b : ℕ). (k / 256 % 256) ∷ b ∷ []) e

code_of-lt : (d : Destination) → DestinationFits d → code_of d < 256
unfolding code_of
code_of-lt (Node node) f = omega arith
code_of-lt (Resource resource) f = omega arith
code_of-lt (Opaque bytes) f = omega arith
code_of-lt (Short n) f = omega arith

-- opaque bytes leave room for their length
roomy : (bytes : List ℕ) → length bytes < 255 → length (vector 1 bytes) < 256
roomy bytes lt = omega (
  arith,
  lt,
  length-append (number 1 (length bytes)) bytes,
  length-number 1 (length bytes),
)

tight : (bytes : List ℕ) → length (vector 1 bytes) < 256 → length bytes < 255
tight bytes lt = omega (
  arith,
  lt,
  length-append (number 1 (length bytes)) bytes,
  length-number 1 (length bytes),
)

-- it has a byte at least
pub destination-some : (d : Destination) → 0 < length (destination d)
destination-some d = rw (← body-code d)
    (omega (arith, length-number 1 (code_of d), length-append (number 1 (code_of d)) (body d)))

module _ {n : ℕ} where
  node_laid : Lays n Anything Always (λ node. Unit {0} × IsNodeIdInRange node)
      (λ node. vector 1 (node_id node)) (sized_at 1 ID_LENGTH node_id_at)
  node_laid = sized_of 1 ID_LENGTH (lit< tt) (λ node f. length-number 16 node.0) node_id_laid

  resource_laid : Lays n Anything Always (λ resource. Unit {0} × IsResourceIdInRange resource)
      (λ resource. vector 1 (resource_id resource)) (sized_at 1 RESOURCE_ID_LENGTH resource_id_at)
  resource_laid = sized_of 1 RESOURCE_ID_LENGTH (lit< tt)
      (λ resource f. omega (
        arith,
        length-append (number 1 16) (number 16 resource.0),
        length-number 1 16,
        length-number 16 resource.0,
      )) resource_id_laid

  -- bytes that are all that is left of the part, behind their length
  opaque_laid : Lays n Anything Always
      (λ bytes. (length (vector 1 bytes) < 256 ^ 1) × ((length bytes < 256) × AreBytes bytes))
      (λ bytes. vector 1 (vector 1 bytes)) (vector_at 1 opaque_bytes_at)
  unfolding opaque_bytes_at
  opaque_laid = vector_laid 1
      (placed (λ place le. seq {Known = Always} (λ bytes. length bytes) (number_laid 1)
      (λ len _. counted_laid place len le)))

  -- what is read under each code
  forms_take : (place : ℕ) → place ≤ n → (code : ℕ) → code < 256
      → Takes n (HasCode code_of code) DestinationFits body (destination_of place code)
  unfolding destination_of short_at node_at resource_at opaque_at code_of body
  forms_take place le code lt =
      cond_both (leb 128 code) _ _ (Takes n (HasCode code_of code) DestinationFits body) (λ high.
      takes_made (λ low. Short (code * 256 + low)) (number_laid 1) (λ low f.
      let e : (code * 256 + low) / 256 ≡ code = omega (arith, f) in
      let m : low ≡ (code * 256 + low) % 256 = omega (arith, f) in
      let top = leb-true 128 code high in
      ((e, tt), (omega (arith, top), omega (arith, f, lt)), ap (number 1) m))) (λ low.
      takes_code 1 (takes_made Node node_laid (λ node f. ((refl, tt), f, refl))) (
      takes_code 2 (takes_made Resource resource_laid (λ resource f. ((refl, tt), f, refl))) (
      takes_code 3 (takes_made Opaque opaque_laid
      (λ bytes f. let t = tight bytes f.0 in ((refl, tt), (omega (arith, t), f.1.1), refl))) (
      takes_none le))))

  -- and what is spelled is read under its code
  forms_again : (place : ℕ) (d : Destination) → DestinationFits d → Again n Anything d (body d)
      (destination_of place (code_of d))
  unfolding destination_of short_at node_at resource_at opaque_at code_of body
  forms_again place (Node node) f = again_made Node node_laid node f
  forms_again place (Resource resource) f = again_made Resource resource_laid resource f
  forms_again place (Opaque bytes) f = let lt : length bytes < 255 = omega (arith, f.0) in
      again_made Opaque opaque_laid bytes (roomy bytes lt, (omega (arith, lt), f.1))
  forms_again place (Short k) f =
      let high : leb 128 (k / 256) ≡ true = le-leb 128 (k / 256) (omega (arith, f.0)) in
      let same : k / 256 * 256 + k % 256 ≡ k = omega arith in
      rw high (subst (λ (m : ℕ). Again n Anything (Short m) (number 1 (k % 256))
      (λ p. and_then (number_at 1 p) (λ low. done (Short (k / 256 * 256 + low))))) same
      (again_made (λ low. Short (k / 256 * 256 + low)) (number_laid 1) (k % 256) (omega arith)))

  destination_lays : Lays n Anything Always DestinationFits destination destination_at
  unfolding destination_at
  destination_lays =
      let law = placed (λ place le. seq {Known = Always} code_of (number_laid 1)
      (λ code lt. forms_laid (forms_take place le) (forms_again place) code lt)) in
      spelled_as destination (fits_as DestinationFits law (λ d k f. f.1)
      (λ d k f. (code_of-lt d f, f))) (λ d k f. body-code d)

pub destination_laid : IsLayout DestinationFits destination destination_at
destination_laid = laid (λ n. destination_lays {n = n})
