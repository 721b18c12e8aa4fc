-- A request as the fields of a struct, and the result of decoding one.
use Rattle.std.specs.Prelude.{ℕ, Result, Ok, Err}
use Rattle.mold_wire.specs.declared.request.Request.{Request}
use Rattle.mold_wire.specs.declared.error.RequestError.{RequestError}
use Rattle.mold_ffi.specs.declared.code.TheConstants as codes
use Rattle.mold_ffi.specs.declared.packets.request.MoldRequest.{MoldRequest}

-- The request with these fields.
abbrev pub request_of : MoldRequest → Request
request_of request = record {
  session = record { 0 = request.session };
  sequence = request.sequence;
  count = request.count;
}

-- The code for the result of decoding a request.
abbrev pub code_asked : Result Request RequestError → ℕ
code_asked (Ok request) = codes.DONE
code_asked (Err error) = codes.REQUEST_LENGTH

-- The fields after decoding a request: those of the request. If the bytes are not a request, the fields are
-- unchanged.
abbrev pub request_asked : Result Request RequestError → MoldRequest → MoldRequest
request_asked (Ok request) old = record {
  sequence = request.sequence;
  count = request.count;
  session = request.session.0;
}
request_asked (Err error) old = old
