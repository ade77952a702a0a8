-- Whatever reads well is the writing of its value, so each number has one encoding. Shown once over the number of groups.
use Prim.Native.Nat.{ℕ, zero, suc, ◌+◌, ◌-◌, ◌*◌, ◌^◌, ◌<◌, ◌≤◌}
use mathlib.Core.Path.{◌≡◌, refl, sym, ap, ap₂, ◌∙◌, subst, subst₂}
use mathlib.Core.Bool.{Bool, true, false, cond}
use mathlib.Core.List.{List, [], ◌∷◌, ◌++◌, append-nil}
use native.Mathlib.Omega.{arith}
use native.Mathlib.Nat.{pos_of_ne-zero}
use lib.Dec.{ltb, eqb}
use lib.ListN.{length, drop}
use lib.Seq.{drop-drop, drop-length}
use borrow.Author.Tests.{ltb-true, ltb-false, eqb-false}
use Rattle.refusal.specs.declared.Refusal.{Refusal}
use Rattle.refusal.specs.declared.Refusal.TheVariants.{TooLong}
use Rattle.numbers.specs.Read.{last_group, before, following, number, number_at, Bytes, Reading, a_number}
use Rattle.numbers.specs.Write.{groups, groups_of}
use Rattle.numbers.proofs.SameNumber.{same_number}
use Rattle.numbers.proofs.GroupByGroup.{number_fits, drop_bytes}
use Rattle.numbers.proofs.WrittenGroups.{groups_last, groups_more}
use Rattle.std.specs.Prelude.{Err, Ok}

-- the bytes s, from the place `at` on, are the groups of v (k at most behind the first) and others from the place `next` on
record Encodes (k v at next : ℕ) (s : List ℕ) : Type 0 where
  bytes : s ≡ groups k v ++ drop (next - at) s
  ends : next ≡ at + length (groups k v)

-- an answer that is a number tells which way was taken
number_or_refused : (t : Bool) (r : Reading) (v next : ℕ) → cond t (Err TooLong) r ≡ a_number v next → (t ≡ false) × (r ≡ a_number v next)
number_or_refused true r v next e = absurd (let z : ◌≡◌ {A = ℕ} 0 1 = cc in omega arith)
number_or_refused false r v next e = (refl, e)

last_is_lem : (at b v next : ℕ) → last_group at b ≡ a_number v next → (v ≡ b) × (next ≡ at + 1) × (0 < v)
unfolding last_group
last_is_lem at b v next e =
    let w = number_or_refused (eqb b 0) (a_number b (at + 1)) v next e in
    let same = same_number w.1 in
    (sym same.0, sym same.1, pos_of_ne-zero (λ z. eqb-false b 0 w.0 (same.0 ∙ z)))

before_is : (b : ℕ) (r : Reading) (v next : ℕ) → before b r ≡ a_number v next → (w : ℕ) × (r ≡ a_number w next) × (v ≡ b - 128 + 128 * w)
unfolding before
before_is b (Ok found) v next e = let same = same_number e in (found.value, ap (a_number found.value) same.1, sym same.0)
before_is b (Err r) v next e = absurd (let z : ◌≡◌ {A = ℕ} 0 1 = cc in omega arith)

-- a single group
alone : (k at b : ℕ) (s : List ℕ) → b < 128 → Encodes k b at (at + 1) (b ∷ s)
alone k at b s h = record {
  bytes = rw (groups_last k b h, (let z : at + 1 - at ≡ 1 = omega arith in z));
  ends = rw (groups_last k b h);
}

-- a group in front of others
in_front : (k at b w next : ℕ) (s : List ℕ) → 128 ≤ b → b < 256 → 0 < w → Encodes k w (at + 1) next s → Encodes (suc k) (b - 128 + 128 * w) at next (b ∷ s)
in_front k at b w next s h l p e =
    let v : ℕ = b - 128 + 128 * w in
    let more : groups (suc k) v ≡ b ∷ groups k w = groups_more k v (omega arith) ∙ ap₂ (λ (x y : ℕ). x ∷ groups k y) (omega arith) (omega arith) in
    let gap : next - at ≡ suc (next - (at + 1)) = omega (arith, e.ends) in
    record {
      bytes = rw (more, gap) (ap (λ (l : List ℕ). b ∷ l) e.bytes);
      ends = rw more (omega (arith, e.ends));
    }

not_a_number : {A : Type 0} {r : Refusal} {v next : ℕ} → Err r ≡ a_number v next → A
not_a_number e = absurd (let z : ◌≡◌ {A = ℕ} 0 1 = cc in omega arith)

-- the last group, seen as the only one
last_encodes : (k at b v next : ℕ) (s : List ℕ) → b < 128 → last_group at b ≡ a_number v next → Encodes k v at next (b ∷ s) × (0 < v)
last_encodes k at b v next s h e =
    let w = last_is_lem at b v next e in
    (subst₂ (λ (x n : ℕ). Encodes k x at n (b ∷ s)) (sym w.0) (sym w.1) (alone k at b s h), w.2)

-- a group that another follows
before_encodes : (k at b v next : ℕ) (s : List ℕ) (r : Reading) → 128 ≤ b → b < 256
    → ((w : ℕ) → r ≡ a_number w next → Encodes k w (at + 1) next s × (0 < w))
    → before b r ≡ a_number v next → Encodes (suc k) v at next (b ∷ s) × (0 < v)
before_encodes k at b v next s r h l rest e =
    let w = before_is b r v next e in
    let q = rest w.0 w.1 in
    (subst (λ (x : ℕ). Encodes (suc k) x at next (b ∷ s)) (sym w.2) (in_front k at b w.0 next s h l q.1 q.0), omega (arith, w.2, q.1))

-- which of two ways gave the number
either : {P : Type 0} (t : Bool) {a r : Reading} {v next : ℕ} → (t ≡ true → a ≡ a_number v next → P) → (t ≡ false → r ≡ a_number v next → P) → cond t a r ≡ a_number v next → P
either true f g e = f refl e
either false f g e = g refl e

following_encodes : (k at v next : ℕ) (s : List ℕ) → Bytes s → following k at s ≡ a_number v next → Encodes k v at next s × (0 < v)
unfolding following
following_encodes zero at v next [] bs e = not_a_number e
following_encodes (suc k) at v next [] bs e = not_a_number e
following_encodes zero at v next (b ∷ s) bs e =
    let w = number_or_refused (ltb 15 b) (last_group at b) v next e in
    last_encodes 0 at b v next s (omega (arith, ltb-false 15 b w.0)) w.1
following_encodes (suc k) at v next (b ∷ s) bs e =
    either (ltb b 128)
    (λ t. last_encodes (suc k) at b v next s (ltb-true b 128 t))
    (λ t. before_encodes k at b v next s _ (ltb-false b 128 t) (bs 0) (λ w. following_encodes k (at + 1) w next s (λ i. bs (suc i))))
    e

number_encodes : (at v next : ℕ) (s : List ℕ) → Bytes s → number at s ≡ a_number v next → Encodes 4 v at next s
unfolding number
number_encodes at v next [] bs e = not_a_number e
number_encodes at v next (b ∷ s) bs e =
    either (ltb b 128)
    (λ t q. subst₂ (λ (x n : ℕ). Encodes 4 x at n (b ∷ s)) (same_number q).0 (same_number q).1 (alone 4 at b s (ltb-true b 128 t)))
    (λ t q. (before_encodes 3 at b v next s _ (ltb-false b 128 t) (bs 0) (λ w. following_encodes 3 (at + 1) w next s (λ i. bs (suc i))) q).0)
    e

-- whatever reads well at a place is the writing of its value there, which ends where reading goes on
pub what_reads_is_written : (s : List ℕ) (from v next : ℕ) → Bytes s → number_at s from ≡ a_number v next
    → (drop from s ≡ groups_of v ++ drop next s) × (next ≡ from + length (groups_of v)) × (v < 2 ^ 32)
what_reads_is_written s from v next bs e =
    let w = number_encodes from v next (drop from s) (drop_bytes from s bs) e in
    let gap : from + (next - from) ≡ next = omega (arith, w.ends) in (
      w.bytes ∙ ap (λ (l : List ℕ). groups_of v ++ l) (drop-drop (next - from) from s ∙ ap (λ (n : ℕ). drop n s) gap),
      w.ends,
      rw e at (number_fits from (drop from s) (drop_bytes from s bs)),
    )

-- two byte strings that read, whole, as the same number are the same
pub one_encoding : (v : ℕ) (s t : List ℕ) → Bytes s → Bytes t → number_at s 0 ≡ a_number v (length s) → number_at t 0 ≡ a_number v (length t) → s ≡ t
one_encoding v s t bs bt e f = whole s bs e ∙ sym (whole t bt f)
  where
    whole : (u : List ℕ) → Bytes u → number_at u 0 ≡ a_number v (length u) → u ≡ groups_of v
    whole u bu q = (what_reads_is_written u 0 v (length u) bu q).0 ∙ ap (λ (l : List ℕ). groups_of v ++ l) (drop-length u) ∙ append-nil (groups_of v)
