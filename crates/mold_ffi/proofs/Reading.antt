-- What the walks of the calls share that write slices of a batch.
use Rattle.mold_ffi.proofs.Walking.{refl, sym, subst, ◌∙◌, List, [], ◌∷◌, T, Ura, Val, has_ty, WT, SProp, ent, sep, emp, via, Logic, fact, named, Lft, RattleType}
use Prim.Native.Nat.{ℕ}
use base.Logic.{emp∗, mono_l}
use mir.Syntax.{Lifetime, Ty, ty_unit, erased}
use prog.RawLaws.{has_ty-raw}
use contract.Monad.{fact_i}
use denote.Laws.{Is}
use denote.Exit.{Kept, left}
use denote.Param.Laws.{Laws, of_field}
use denote.Param.Shared.{copy_shared}
use denote.Ref.{NamedLft}
use denote.Signature.{Slot}
use denote.Struct.Field.{Field, shr_ref_field}
use denote.Struct.Laws.{shr_ref_laws, shr_ref_copy}
use denote.Triple.End.{Kepts}
use denote.Triple.Walked.{Stay, Stays, Goes, AllGo}
use Rattle.std.specs.contracts.option.Option as option
use Rattle.std.proofs.option.Option.TheLaws as option_laws
use Rattle.mold_receiver.specs.contracts.batch.Batch as batch
use Rattle.mold_receiver.proofs.batch.Batch.TheLaws as batch_laws

-- A reference to a batch, and an option of one. MIR lowering erases the lifetime of a local.
abbrev lent_field : Lifetime → Lft → Field
lent_field name κ = shr_ref_field (record { mir = name; lft = κ }) batch.the_row tt

lent_laws : (κ : Lft) → Laws (lent_field (named 0) κ).row
lent_laws κ =
    let lft : NamedLft = record { mir = named 0; lft = κ } in
    of_field (lent_field (named 0) κ) (shr_ref_laws lft batch.the_row tt) refl
    (copy_shared (lent_field (named 0) κ) (shr_ref_copy lft batch.the_row tt batch_laws.the_row_laws.shr_laws))

abbrev LentAs : Lifetime → Lft → RattleType
LentAs name κ = option.the_row (lent_field name κ).row

abbrev pub Lent : Lft → RattleType
Lent κ = LentAs (named 0) κ

abbrev pub first_type : List Ty → Ty
first_type [] = ty_unit
first_type (type ∷ types) = type

abbrev pub lent_type : Ty
lent_type = first_type (LentAs erased []).mir

pub lent_typed : {M : Type 1} {𝓤 : Ura M} (𝓛 : Logic 𝓤) (κ : Lft) (r : (Lent κ).Denot) (v : Val) → Is (Lent κ) r (v ∷ [])
    → T (has_ty lent_type v) × WT v
lent_typed 𝓛 κ r v is =
    let own : Ty = first_type (Lent κ).mir in
    let given : T (has_ty own v) × WT v = (((option_laws.the_row_laws (lent_field (named 0) κ).row (lent_laws κ)).lawful 𝓛).typed r (v ∷ []) is).0 in
    (subst T (sym (has_ty-raw own v) ∙ has_ty-raw lent_type v) given.0, given.1)

-- What a contract says of the parameters at the return is all that is left of them.
abbrev stay_said : {n : ℕ} (s : Slot n) (k : Kept) → Stay s k
stay_said s k = record { fit = λ κs x f. Unit {0}; has = λ κs x f vs. left ((s.row κs).exit k) x f }

abbrev pub all_said : {n : ℕ} (slots : List (Slot n)) (kept : Kepts slots) → Stays slots kept
all_said [] kept = tt
all_said (s ∷ slots) kept = (stay_said s kept.0, all_said slots kept.1)

Goes-said : {M : Type 1} {𝓤 : Ura M} (𝓛 : Logic 𝓤) (n : ℕ) (s : Slot n) (k : Kept) → Goes 𝓛 n s k (stay_said s k)
Goes-said 𝓛 n s k κs x f vs fits = 𝓛.laws.⇛_intro _

pub said_Go : {M : Type 1} {𝓤 : Ura M} (𝓛 : Logic 𝓤) (n : ℕ) (slots : List (Slot n)) (kept : Kepts slots)
    → AllGo 𝓛 n slots kept (all_said slots kept)
said_Go 𝓛 n [] kept = tt
said_Go 𝓛 n (s ∷ slots) kept = (Goes-said 𝓛 n s kept.0, said_Go 𝓛 n slots kept.1)

-- Facts that hold are had for nothing.
fact_beside : {M : Type 1} (𝓤 : Ura M) (A : Type 0) (P : SProp 𝓤) → A → ent 𝓤 P (sep 𝓤 (fact 𝓤 A) P)
fact_beside 𝓤 A P a = via 𝓤 (sep 𝓤 (emp 𝓤) P) (emp∗ 𝓤 P) (mono_l 𝓤 P (fact_i 𝓤 A (emp 𝓤) a))

pub three_facts : {M : Type 1} (𝓤 : Ura M) (A B C : Type 0) → A → B → C
    → ent 𝓤 (emp 𝓤) (sep 𝓤 (fact 𝓤 A) (sep 𝓤 (fact 𝓤 B) (fact 𝓤 C)))
three_facts 𝓤 A B C a b c =
    via 𝓤 (fact 𝓤 C) (fact_i 𝓤 C (emp 𝓤) c)
    (via 𝓤 (sep 𝓤 (fact 𝓤 B) (fact 𝓤 C)) (fact_beside 𝓤 B (fact 𝓤 C) b)
    (fact_beside 𝓤 A (sep 𝓤 (fact 𝓤 B) (fact 𝓤 C)) a))

pub four_facts : {M : Type 1} (𝓤 : Ura M) (A B C D : Type 0) → A → B → C → D
    → ent 𝓤 (emp 𝓤) (sep 𝓤 (fact 𝓤 A) (sep 𝓤 (fact 𝓤 B) (sep 𝓤 (fact 𝓤 C) (fact 𝓤 D))))
four_facts 𝓤 A B C D a b c d =
    via 𝓤 (sep 𝓤 (fact 𝓤 B) (sep 𝓤 (fact 𝓤 C) (fact 𝓤 D))) (three_facts 𝓤 B C D b c d)
    (fact_beside 𝓤 A (sep 𝓤 (fact 𝓤 B) (sep 𝓤 (fact 𝓤 C) (fact 𝓤 D))) a)
