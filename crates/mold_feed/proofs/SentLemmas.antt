-- All of what was sent has a property if each part has it.
use Rattle.std.proofs.Common.{ℕ, Bool, true, false, List, [], ◌∷◌, ◌++◌, subst}
use Rattle.std.specs.List.{AllByRecursion, Contains}
use Rattle.std.proofs.lemmas.List.Elements.{All-contains, All-from_recursion}
use Rattle.mold_ports.specs.Ports.{Port, offered}
use Rattle.mold_turns.specs.Runs.{Begins}
use Rattle.mold_feed.specs.Sent.{AllSent}

-- one list after another
pub each_append : {X : Type 0} (Good : X → Type 0) (xs ys : List X) → AllByRecursion Good xs → AllByRecursion Good ys →
    AllByRecursion Good (xs ++ ys)
each_append Good [] ys one other = other
each_append Good (x ∷ xs) ys one other = (one.0, each_append Good xs ys one.1 other)

-- the first of two
pub each_front : {X : Type 0} (Good : X → Type 0) (xs ys : List X) → AllByRecursion Good (xs ++ ys) →
    AllByRecursion Good xs
each_front Good [] ys each = tt
each_front Good (x ∷ xs) ys each = (each.0, each_front Good xs ys each.1)

-- the second of two
pub each_rest : {X : Type 0} (Good : X → Type 0) (xs ys : List X) → AllByRecursion Good (xs ++ ys) →
    AllByRecursion Good ys
each_rest Good [] ys each = each
each_rest Good (x ∷ xs) ys each = each_rest Good xs ys each.1

-- a prefix
pub each_begun : {X : Type 0} (Good : X → Type 0) (front whole : List X) → Begins front whole →
    AllByRecursion Good whole → AllByRecursion Good front
each_begun {X} Good front whole begins all =
    each_front Good front begins.rest (subst (λ (xs : List X). AllByRecursion Good xs) begins.parts all)

-- a prefix of what was sent
pub sent_front : {P : Type 0} (Good : List ℕ → Type 0) (front whole : List (P × List ℕ)) → Begins front whole →
    AllSent Good whole → AllSent Good front
sent_front {P} Good front whole begins all = each_begun (λ (letter : P × List ℕ). Good letter.1) front whole begins all

-- one more datagram was offered
pub sent_offered : {P : Type 0} (Good : List ℕ → Type 0) (fails : Bool) (to : P) (bytes : List ℕ) (port : Port P) →
    AllSent Good port.sent → Good bytes → AllSent Good (offered fails to bytes port).sent
sent_offered Good true to bytes port all one = all
sent_offered {P} Good false to bytes port all one =
    each_append (λ (letter : P × List ℕ). Good letter.1) port.sent ((to, bytes) ∷ []) all (one, tt)

-- one of the datagrams that were sent
pub sent_one : {P : Type 0} (Good : List ℕ → Type 0) (sent : List (P × List ℕ)) (to : P) (bytes : List ℕ) →
    AllSent Good sent → Contains sent (to, bytes) → Good bytes
sent_one {P} Good sent to bytes all there =
    let Such : P × List ℕ → Type 0 = λ (letter : P × List ℕ). Good letter.1 in
    All-contains Such sent (to, bytes) (All-from_recursion Such sent all) there
