-- What one more call of a storage in memory changes.
use Rattle.std.proofs.Common.{◌≡◌, ◌⊎◌, inl, inr, ℕ, zero, suc, ◌+◌, ◌-◌, ◌<◌, ◌≤◌, List, [], ◌∷◌, ◌++◌, length, take, drop}
use Rattle.std.proofs.Common.{refl, sym, ap, subst, ◌∙◌, append_assoc, arith, length-append, length-drop, length-take, drop-drop}
use Rattle.std.proofs.lemmas.Bool.{cases_lt}
use Rattle.std.proofs.lemmas.List.{drop_at, take_all, take_at}
use Rattle.std.specs.Global.{Vec}
use Rattle.mold_durable.specs.Memory.{left_by, LeftSince, MayLeave, outcomes, torn_over}
use Rattle.mold_durable.specs.Storage.{Elapses, Follows, IsTornOf, MayTear}
use Rattle.mold_durable.specs.declared.memory_call.MemoryCall.{MemoryCall}
use Rattle.mold_durable.specs.declared.memory_call.MemoryCall.TheVariants.{Sync, Write}
use Rattle.mold_durable.proofs.MomentLemmas.{torn_none, torn_start}

-- One more call comes after all others.
last_to : (before : List ℕ → Type 0) (calls : List MemoryCall) (call : MemoryCall) (bytes : List ℕ) →
    outcomes before (calls ++ call ∷ []) bytes → outcomes (outcomes before calls) (call ∷ []) bytes
last_to before [] call bytes left = left
last_to before (Write at count ∷ calls) call bytes left = last_to (IsTornOf before at count) calls call bytes left
last_to before (Sync kept ∷ calls) call bytes left = last_to (λ bytes. bytes ≡ kept.items) calls call bytes left

last_from : (before : List ℕ → Type 0) (calls : List MemoryCall) (call : MemoryCall) (bytes : List ℕ) →
    outcomes (outcomes before calls) (call ∷ []) bytes → outcomes before (calls ++ call ∷ []) bytes
last_from before [] call bytes left = left
last_from before (Write at count ∷ calls) call bytes left = last_from (IsTornOf before at count) calls call bytes left
last_from before (Sync kept ∷ calls) call bytes left = last_from (λ bytes. bytes ≡ kept.items) calls call bytes left

take_before : (n : ℕ) (calls : List MemoryCall) (call : MemoryCall) → n ≤ length calls →
    take n (calls ++ call ∷ []) ≡ take n calls
take_before zero calls call le = refl
take_before (suc n) [] call le = absurd (omega arith)
take_before (suc n) (first ∷ calls) call le =
    ap (λ (t : List MemoryCall). first ∷ t) (take_before n calls call (omega arith))

module _ (calls : List MemoryCall) (call : MemoryCall) where
  since_more : (moment : ℕ) (bytes : List ℕ) (since : LeftSince (calls ++ call ∷ []) moment bytes) →
      (length calls < since.after) ⊎ (since.after ≤ length calls) →
      LeftSince calls moment bytes ⊎ MayLeave (calls ++ call ∷ []) bytes
  since_more moment bytes since (inl over) =
      inr (subst (λ (t : List MemoryCall). MayLeave t bytes)
      (take_all since.after (calls ++ call ∷ []) (omega (arith, over, length-append calls (call ∷ [])))) since.left)
  since_more moment bytes since (inr within) = inl (record {
    after = since.after;
    later = since.later;
    left = subst (λ (t : List MemoryCall). MayLeave t bytes) (take_before since.after calls call within) since.left;
  })

  since_kept : (moment : ℕ) (bytes : List ℕ) → moment ≤ length calls → (since : LeftSince calls moment bytes) →
      (length calls < since.after) ⊎ (since.after ≤ length calls) → LeftSince (calls ++ call ∷ []) moment bytes
  since_kept moment bytes le since (inl over) = record {
    after = length calls;
    later = le;
    left = subst (λ (t : List MemoryCall). MayLeave t bytes)
        (take_all since.after calls (omega (arith, over)) ∙ sym (take_at calls (call ∷ []) (length calls) refl))
        since.left;
  }
  since_kept moment bytes le since (inr within) = record {
    after = since.after;
    later = since.later;
    left = subst (λ (t : List MemoryCall). MayLeave t bytes) (sym (take_before since.after calls call within))
        since.left;
  }

  elapses_more : Elapses (length calls) (length (calls ++ call ∷ [])) (LeftSince calls) (LeftSince (calls ++ call ∷ []))
      (MayLeave (calls ++ call ∷ []))
  elapses_more = record {
    later = omega (arith, length-append calls (call ∷ []));
    nothing_else = λ moment bytes le since. since_more moment bytes since (cases_lt (length calls) since.after);
    keeps = λ moment bytes le since. since_kept moment bytes le since (cases_lt (length calls) since.after);
  }

-- Time passes with each call that is added.
pub elapses_to : (calls later : List MemoryCall) (call : MemoryCall) → later ≡ calls ++ call ∷ [] →
    Elapses (length calls) (length later) (LeftSince calls) (LeftSince later) (MayLeave later)
elapses_to calls later call is =
    subst (λ (t : List MemoryCall). Elapses (length calls) (length t) (LeftSince calls) (LeftSince t) (MayLeave t))
    (sym is) (elapses_more calls call)

-- A write that was not added to the calls changes nothing.
pub follows_none : (calls later : List MemoryCall) (at count : ℕ) → later ≡ calls →
    Follows (MayTear at count) (MayLeave calls) (MayLeave later)
follows_none calls later at count is = λ bytes left. (
  bytes,
  subst (λ (t : List MemoryCall). MayLeave t bytes) is left,
  λ within. torn_none at count bytes,
)

-- Fewer bytes written over some bytes are an outcome of the write.
over_torn : (at count : ℕ) (tear bytes : List ℕ) → length tear ≤ count → MayTear at count bytes (torn_over at tear bytes)
over_torn at count tear bytes few within =
    let rest = drop (at + length tear) bytes in
    let front : length (take at bytes) ≡ at = omega (arith, within, length-take at bytes) in
    let size : length (torn_over at tear bytes) ≡ at + (length tear + length rest) =
    omega (arith, front, length-append (take at bytes) (tear ++ rest), length-append tear rest)
    in
    let more = count - length tear in
    let ends : at + count ≡ (at + length tear) + more = omega (arith, few) in
    record {
      before = take_at (take at bytes) (tear ++ rest) at front;
      after =
          ap (λ (n : ℕ). drop n (torn_over at tear bytes)) ends
          ∙ sym (drop-drop more (at + length tear) (torn_over at tear bytes))
          ∙ ap (λ (t : List ℕ). drop more (drop (at + length tear) t)) (sym (append_assoc (take at bytes) tear rest))
          ∙ ap (drop more) (drop_at (take at bytes ++ tear) rest (at + length tear)
          (omega (arith, front, length-append (take at bytes) tear)))
          ∙ drop-drop more (at + length tear) bytes
          ∙ ap (λ (n : ℕ). drop n bytes) (sym ends);
      no_shorter = omega (arith, size, within, length-drop (at + length tear) bytes);
      no_longer = omega (arith, size, few, within, length-drop (at + length tear) bytes);
    }

module _ (calls later : List MemoryCall) (at count : ℕ) (is : later ≡ calls ++ Write at count ∷ []) where
  pub follows_write : Follows (MayTear at count) (MayLeave calls) (MayLeave later)
  follows_write = λ bytes left.
      let torn = last_to (λ bytes. bytes ≡ []) calls (Write at count) bytes
      (subst (λ (t : List MemoryCall). MayLeave t bytes) is left)
      in
      (torn.before, torn.left, torn.torn)

  torn_possible : (bytes : List ℕ) → IsTornOf (MayLeave calls) at count bytes → MayLeave later bytes
  torn_possible bytes torn =
      subst (λ (t : List MemoryCall). MayLeave t bytes) (sym is)
      (last_from (λ bytes. bytes ≡ []) calls (Write at count) bytes torn)

  -- A write that failed may have changed nothing.
  pub same_possible : (bytes : List ℕ) → MayLeave calls bytes → MayLeave later bytes
  same_possible bytes left = torn_possible bytes (torn_start (MayLeave calls) at count bytes left)

  pub written_possible : (bytes written next : List ℕ) → MayLeave calls bytes → length written ≡ count →
      next ≡ torn_over at written bytes → MayLeave later next
  written_possible bytes written next left size same =
      torn_possible next (record {
        before = bytes;
        left = left;
        torn = subst (MayTear at count bytes) (sym same) (over_torn at count written bytes (omega (arith, size)));
      })

module _ (calls later : List MemoryCall) (kept : Vec ℕ) (is : later ≡ calls ++ Sync kept ∷ []) where
  -- After a sync, a crash leaves the bytes that it made durable.
  pub synced_only : (bytes left : List ℕ) → kept.items ≡ bytes → MayLeave later left → left ≡ bytes
  synced_only bytes left same may =
      last_to (λ bytes. bytes ≡ []) calls (Sync kept) left (subst (λ (t : List MemoryCall). MayLeave t left) is may)
      ∙ same

  pub synced_possible : (bytes : List ℕ) → kept.items ≡ bytes → MayLeave later bytes
  synced_possible bytes same =
      subst (λ (t : List MemoryCall). MayLeave t bytes) (sym is)
      (last_from (λ bytes. bytes ≡ []) calls (Sync kept) bytes (sym same))

-- What the tears leave is possible.
pub left_possible : (all : List (Vec ℕ)) (before : List ℕ → Type 0) (bytes : List ℕ) (calls : List MemoryCall)
    (tears : List (Vec ℕ)) → before bytes → outcomes before calls (left_by all bytes calls tears)
left_possible all before bytes [] tears here = here
left_possible all before bytes (Sync kept ∷ calls) tears here =
    left_possible all (λ bytes. bytes ≡ kept.items) kept.items calls all refl
left_possible all before bytes (Write at count ∷ calls) [] here =
    left_possible all (IsTornOf before at count) bytes calls [] (torn_start before at count bytes here)
left_possible all before bytes (Write at count ∷ calls) (tear ∷ tears) here =
    left_possible all (IsTornOf before at count) (torn_over at (take count tear.items) bytes) calls tears (record {
      before = bytes;
      left = here;
      torn = over_torn at count (take count tear.items) bytes (omega (arith, length-take count tear.items));
    })
