-- Bytes that encode a request read as that request, and bytes of any other length have a fault. So no bytes
-- encode two requests, or encode a request and have a fault.
use Rattle.std.proofs.Common.{◌≡◌, ℕ, eqb, List, [], length, sym, ap, ◌∙◌}
use Rattle.std.proofs.Common.{refl}
use Rattle.std.specs.Prelude.{Result, Ok, Err, IfOk, IfErr}
use Rattle.std.proofs.lemmas.Bool.{eq-eqb, ne_eqb, cond-true, cond-false}
use Rattle.std.proofs.lemmas.List.{append-nil}
use Rattle.mold_wire.specs.declared.request.Request.{Request}
use Rattle.mold_wire.specs.declared.error.RequestError.{RequestError}
use Rattle.mold_wire.specs.declared.error.RequestError.TheVariants.{RequestLength}
use Rattle.mold_wire.specs.Header.{header_bytes}
use Rattle.mold_wire.specs.Request.{SpellsRequest, RequestFaultAt, request_reading}
use Rattle.mold_wire.proofs.HeaderLemmas.{length-header_bytes}
use Rattle.mold_wire.proofs.ReadingLemmas.{HeaderRead, header_read}

abbrev refusal : RequestError → Result Request RequestError
refusal error = Err error

-- The encoding of a request has 20 bytes.
pub request_length : (request : Request) (bytes : List ℕ) → SpellsRequest request bytes → length bytes ≡ 20
request_length request bytes spells =
    ap (λ (t : List ℕ). length t) spells.spelled
    ∙ length-header_bytes request.session.0 request.sequence request.count spells.is_request.session

pub request_reading-spelled :
    (request : Request) (bytes : List ℕ) → SpellsRequest request bytes → request_reading bytes ≡ Ok request
unfolding request_reading
request_reading-spelled request bytes spells =
    let is = spells.is_request in
    let head : List ℕ = header_bytes request.session.0 request.sequence request.count in
    let at : HeaderRead bytes request.session.0 request.sequence request.count [] =
    header_read request.session.0 request.sequence request.count bytes [] is.session is.sequence is.count
    (spells.spelled ∙ sym (append-nil head))
    in
    cond-true (eqb (length bytes) 20) _ _ (eq-eqb (length bytes) 20 (request_length request bytes spells))
    ∙ rw (at.name, at.number, at.counted.read) refl

pub request_reading-fault :
    (error : RequestError) (bytes : List ℕ) → RequestFaultAt error bytes → request_reading bytes ≡ Err error
unfolding request_reading
request_reading-fault (RequestLength len) bytes is =
    cond-false (eqb (length bytes) 20) _ _ (ne_eqb (length bytes) 20 is.0)
    ∙ ap (λ (n : ℕ). refusal (RequestLength n)) (sym is.1)

-- A result is the reading of the bytes if they encode the returned request or have the returned fault.
pub request_answer :
    (result : Result Request RequestError) (bytes : List ℕ) → IfOk result (λ request. SpellsRequest request bytes) →
    IfErr result (λ error. RequestFaultAt error bytes) → result ≡ request_reading bytes
request_answer (Ok request) bytes spells fault = sym (request_reading-spelled request bytes spells)
request_answer (Err error) bytes spells fault = sym (request_reading-fault error bytes fault)
