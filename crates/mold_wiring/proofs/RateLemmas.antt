-- The rate of requests.
use Rattle.std.proofs.Common.{◌≡◌, ℕ, ◌+◌, ◌-◌, ◌*◌, ◌/◌, ◌<◌, ◌≤◌, arith, inl, inr}
use Rattle.std.proofs.Math.Nat.{div-le_of_le-mul, div-mul-le_self, lt-div-mul-add, mul-le-mul_left, mul-le-mul_right}
use Rattle.std.proofs.Math.Nat.{mul_comm}
use Rattle.std.proofs.lemmas.Bool.{cases_lt}
use Rattle.mold_repair.specs.Options.{tolerance}
use Rattle.mold_wiring.specs.Receiving.{other_requests, repair_options, request_bucket, request_interval}
use Rattle.mold_wiring.specs.declared.receiving.TheConstants.{NANOS_PER_SECOND}
use Rattle.mold_words.specs.declared.receive_order.ReceiveOrder.{ReceiveOrder}

-- An interval for each of the other requests, and one more, take at least a second.
covers : (second others : ℕ) → second ≤ (second + others) / (others + 1) * (others + 1)
covers second others = omega (arith, lt-div-mul-add {a = second + others} {b = others + 1} (omega arith))

-- They take hardly more than a second.
within : (second others : ℕ) → (second + others) / (others + 1) * (others + 1) ≤ second + others
within second others = div-mul-le_self (second + others) (others + 1)

-- In less than a second there are at most the requests of the bucket, which are one more than `spare`, and the others.
few :
    (count interval time early spare others second : ℕ) → count * interval ≤ time + early + interval →
    early ≤ interval * spare → time < second → second ≤ interval * (others + 1) → count ≤ others + spare + 1
few count interval time early spare others second limited soon short covered =
    elim (cases_lt (others + spare + 1) count) [
      | inl more ↦
          let most : (others + spare + 2) * interval ≤ count * interval =
          mul-le-mul_right interval (let least : others + spare + 2 ≤ count = omega arith in least) in
          absurd
          (omega (arith, most, limited, soon, short, covered, mul_comm interval spare, mul_comm interval others))
      | inr least ↦ least
    ]

pub kept :
    (order : ReceiveOrder) (count time : ℕ) → 0 < order.requests →
    count * request_interval order.requests
    ≤ time + tolerance (repair_options order) + request_interval order.requests →
    time < NANOS_PER_SECOND → count ≤ order.requests
kept order count time some limited short =
    let bucket = request_bucket order.requests in
    let others = other_requests order.requests in
    let interval = request_interval order.requests in
    let early : tolerance (repair_options order) ≤ interval * (bucket - 1) = omega arith in
    let all : others + (bucket - 1) + 1 ≡ order.requests = omega arith in
    let most : count ≤ others + (bucket - 1) + 1 =
    few count interval time (tolerance (repair_options order)) (bucket - 1) others NANOS_PER_SECOND limited early
    short (covers NANOS_PER_SECOND others) in
    omega (arith, most, all)

pub least :
    (requests : ℕ) → 8 ≤ requests → requests ≤ 20000 →
    85 * requests * request_interval requests ≤ 100 * NANOS_PER_SECOND
least requests some few =
    let others = other_requests requests in
    let interval = request_interval requests in
    let most : others ≤ 20000 = omega arith in
    let part : 7 * requests ≤ 8 * others = omega arith in
    let times : 7 * requests * interval ≤ 8 * others * interval = mul-le-mul_right interval part in
    let near : interval * (others + 1) ≤ NANOS_PER_SECOND + others = within NANOS_PER_SECOND others in
    omega (arith, most, times, near, mul_comm interval others)

pub one : (requests : ℕ) → request_interval requests ≤ NANOS_PER_SECOND
one requests =
    let others = other_requests requests in
    let more : others * 1 ≤ others * NANOS_PER_SECOND = mul-le-mul_left others (omega arith) in
    div-le_of_le-mul (others + 1) (omega (arith, more))
