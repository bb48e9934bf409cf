-- The stand-in signer of this profile. It isn't secure: whoever knows its two texts can forge.
use Rattle.std.specs.Prelude.{ℕ, ◌-◌, ◌==◌, ◌&&◌, nat_le, Bool, true, false, List, [], ◌∷◌, ◌++◌, length, take, drop, codes, Option, Some, None, is_some, if◌then◌else◌}
use Rattle.std.specs.Result.{result_ok}
use Rattle.std.specs.Str.{bytes_eq}
use Rattle.sha2.specs.Sha256.{sha256}
use Rattle.wire_core.specs.declared.bad.Reason.TheVariants.{BadValue}
use Rattle.wire_core.specs.declared.signature.Signature.{Signature}
use Rattle.wire_core.specs.declared.signature.SignerIdentity.{SignerIdentity}
use Rattle.wire_core.specs.declared.signature.SignerIdentity.TheVariants as signers
use Rattle.wire_core.specs.Spelling.{number, vector, joined}
use Rattle.wire_core.specs.Ids.{node_id, node_id_at}
use Rattle.wire_core.specs.Reading.{Reader, ◌>>=◌, ◌>>◌, done, allowed, whole_of, place_at, rest_at, exact_at, code_at, vector_at}
use Rattle.wire_core.specs.Signature.{identity}
use Rattle.security_block.specs.declared.about.About.{About}
use Rattle.security_block.specs.declared.about.TheConstants.{MAX_USER}
use Rattle.security_block.specs.declared.stand_in.TheConstants.{VERSION, SHA_256, STAND_IN, TAG}

-- the text that begins what a tag is the hash of
unfoldable pub authority_text : List ℕ
authority_text = codes "RELOAD stand-in authority"

-- the text that begins what a signature's value is the hash of
unfoldable pub key_text : List ℕ
key_text = codes "RELOAD stand-in key"

-- the number of a role: peer 1, client 2
unfoldable pub role : Bool → ℕ
role peer = if peer then 1 else 2

-- what a certificate says: its version, the role, the Node-ID, and the user's name
unfoldable pub claim : About → List ℕ
claim who = joined (number 1 VERSION ∷ number 1 (role who.peer) ∷ node_id who.node
    ∷ vector 1 who.user ∷ [])

-- the authority's tag behind what a certificate says
unfoldable pub tag_of : List ℕ → List ℕ
tag_of said = sha256 (authority_text ++ said)

-- a certificate's bytes
unfoldable pub certificate_for : About → List ℕ
certificate_for who = claim who ++ tag_of (claim who)

-- whether a role's number is that of a peer
unfoldable pub role_of : ℕ → Option Bool
role_of n = if n == 1 then Some true else (if n == 2 then Some false else None)

-- whether the role is that of a peer
unfoldable pub role_at : Reader Bool
role_at = code_at 1 role_of

-- a name of a byte at least
unfoldable pub user_at : Reader (List ℕ)
user_at = do
  place ← place_at
  user ← vector_at 1 rest_at
  allowed (nat_le 1 (length user) && nat_le (length user) MAX_USER) place BadValue
  done user

-- what a certificate says, field by field
unfoldable pub claim_at : Reader About
claim_at = do
  exact_at 1 VERSION
  peer ← role_at
  node ← node_id_at
  user ← user_at
  done (record { peer = peer; node = node; user = user })

-- whom bytes speak of that are a claim as a whole
unfoldable pub claimed : List ℕ → Option About
claimed bytes = result_ok (whole_of claim_at bytes)

-- whom a certificate is about: it is a claim, and in its last bytes the claim's tag
unfoldable pub about_by : List ℕ → Option About
about_by certificate =
    let said = take (length certificate - TAG) certificate in
    if bytes_eq (tag_of said) (drop (length certificate - TAG) certificate) then claimed said
    else None

-- who signs with a certificate
unfoldable pub identity_by : List ℕ → SignerIdentity
identity_by certificate = signers.CertHash SHA_256 (sha256 certificate)

-- the value of a certificate's signature over bytes and its own identity
unfoldable pub value_by : List ℕ → List ℕ → List ℕ
value_by certificate bytes =
    sha256 (key_text ++ (certificate ++ (bytes ++ identity (identity_by certificate))))

-- a certificate's signature over bytes
unfoldable pub signature_by : List ℕ → List ℕ → Signature
signature_by certificate bytes = record {
  hash = SHA_256;
  algorithm = STAND_IN;
  identity = identity_by certificate;
  value = value_by certificate bytes;
}

-- whether an identity is the hash of this certificate
unfoldable pub identifies : SignerIdentity → List ℕ → Bool
identifies (signers.CertHash alg hash) certificate =
    (alg == SHA_256) && bytes_eq hash (sha256 certificate)
identifies (signers.CertHashNodeId alg hash) certificate = false
identifies signers.None certificate = false

-- whether a signature is the one that the certificate makes over these bytes
unfoldable pub is_signature_by : List ℕ → List ℕ → Signature → Bool
is_signature_by certificate bytes s =
    (s.hash == SHA_256) && (s.algorithm == STAND_IN) && identifies s.identity certificate
    && bytes_eq s.value (value_by certificate bytes)

-- It verifies exactly where all of it agrees, and the certificate is about someone.
unfoldable pub verifies_by : List ℕ → List ℕ → Signature → Bool
verifies_by certificate bytes s =
    is_some (about_by certificate) && is_signature_by certificate bytes s
