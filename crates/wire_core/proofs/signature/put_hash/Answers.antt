use Rattle.std.proofs.Common.{◌≡◌, ◌+◌, ◌++◌, length, ap, ◌∙◌, append_assoc, length-append, arith}
use Rattle.std.proofs.lemmas.Result.{on_ok_weaker}
use Rattle.wire_core.specs.Spelling.{number, vector}
use Rattle.wire_core.specs.Laws.Bytes.{length-number}
use Rattle.wire_core.proofs.signature.put_hash.Goals as goal

-- the part's length is two more than the hash's
pub returns-clause-ok : goal.returns-clause-ok
returns-clause-ok c =
    let alg = number 1 c.args.alg in
    let hash = vector 1 c.args.hash.now in
    let n = length c.args.hash.now + 2 in
    let len : n ≡ length (alg ++ hash) = omega (arith, length-append alg hash, length-append (number 1 (length c.args.hash.now)) c.args.hash.now, length-number 1 c.args.alg, length-number 1 (length c.args.hash.now)) in
    on_ok_weaker c.put_bytes.result (λ e.
    e ∙ ap (λ t. t ++ hash) (c.in_ok-put_u8-2.ensures.ok ∙ ap (λ t. t ++ alg) (c.in_ok-put_u16.ensures.ok ∙ ap (λ t. t ++ number 2 n) c.in_ok-put_u8.ensures.ok))
    ∙ append_assoc ((c.args.out.now ++ number 1 c.args.code) ++ number 2 n) alg hash
    ∙ append_assoc (c.args.out.now ++ number 1 c.args.code) (number 2 n) (alg ++ hash)
    ∙ append_assoc c.args.out.now (number 1 c.args.code) (number 2 n ++ (alg ++ hash))
    ∙ ap (λ m. c.args.out.now ++ (number 1 c.args.code ++ (number 2 m ++ (alg ++ hash)))) len) c.put_bytes.ensures.ok
