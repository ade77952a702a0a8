-- What becomes of a lent buffer: what fits is written at its start and what stands after it stays; what does not fit changes nothing.
use Prim.Native.Nat.{ℕ, ◌+◌, ◌-◌, ◌<◌, ◌≤◌}
use mathlib.Core.Path.{◌≡◌, refl, sym, ap, ap₂, ◌∙◌}
use mathlib.Core.Bool.{Bool, true, false, cond}
use mathlib.Core.List.{List, [], ◌++◌, append_assoc, append-nil}
use native.Mathlib.Omega.{arith}
use native.Mathlib.Decide.{dec_le}
use lib.Dec.{leb}
use lib.ListN.{length, take, drop, length-append, length-drop, take-append-drop, drop_of_length-le}
use lib.Seq.{take-append_seam, drop-append_seam, take_all, take_at, drop_at, drop-drop, length-take-le}
use borrow.Author.Tests.{le-leb, lt-leb}
use Rattle.refusal.specs.declared.Refusal.{Refusal}
use Rattle.refusal.specs.declared.Refusal.TheVariants.{NoRoom}
use Rattle.lent.specs.Lent.{writing, written, written_at}
use Rattle.std.specs.Prelude.{Err, Ok}

module _ {A : Type 0} (l buf : List A) where
  pub writing_fits : length l ≤ length buf → writing l buf ≡ Ok (length l)
  writing_fits h = rw (le-leb _ _ h)

  pub written_fits : length l ≤ length buf → written l buf ≡ l ++ drop (length l) buf
  written_fits h = rw (le-leb _ _ h)

  pub writing_short : length buf < length l → writing l buf ≡ Err NoRoom
  writing_short h = rw (lt-leb _ _ h)

  pub written_short : length buf < length l → written l buf ≡ buf
  written_short h = rw (lt-leb _ _ h)

  -- a refusal leaves the buffer as it was, place for place
  pub refusal_changes_nothing : (r : Refusal) → writing l buf ≡ Err r → written l buf ≡ buf
  refusal_changes_nothing r = go (leb (length l) (length buf))
    where
      go : (t : Bool) → cond t (Ok (length l)) (Err NoRoom) ≡ Err r → cond t (l ++ drop (length l) buf) buf ≡ buf
      go true e = absurd (let z : ◌≡◌ {A = ℕ} 0 1 = cc in omega arith)
      go false e = refl

  -- an accepted writing answers the count of what stands at the start afterwards, and what stands behind it stays
  pub accepted_changes_only_these : (n : ℕ) → writing l buf ≡ Ok n → (take n (written l buf) ≡ l) × (drop n (written l buf) ≡ drop n buf)
  accepted_changes_only_these n = go (leb (length l) (length buf))
    where
      go : (t : Bool) → cond t (Ok (length l)) (Err NoRoom) ≡ Ok n
          → (take n (cond t (l ++ drop (length l) buf) buf) ≡ l) × (drop n (cond t (l ++ drop (length l) buf) buf) ≡ drop n buf)
      go true e =
          let count : length l ≡ n = cc in
          rw (← count) (take-append_seam l (drop (length l) buf), drop-append_seam l (drop (length l) buf))
      go false e = absurd (let z : ◌≡◌ {A = ℕ} 0 1 = cc in omega arith)

  -- it answers how much was written, which had room
  pub accepted_fits : (n : ℕ) → writing l buf ≡ Ok n → (n ≡ length l) × (n ≤ length buf)
  accepted_fits n e = elim (dec_le (length l) (length buf)) [
    | yes h ↦ let count : length l ≡ n = cc (writing_fits h) in (sym count, omega arith)
    | no h ↦ absurd (let z : ◌≡◌ {A = ℕ} 0 1 = cc (writing_short (omega arith)) in omega arith)
  ]

-- pieces that are written one behind the other
module _ {A : Type 0} (at : ℕ) (l buf : List A) (fits : at + length l ≤ length buf) where
  front : length (take at buf ++ l) ≡ at + length l
  front = simp (length-append, length-take-le at buf (omega arith))

  as_front : written_at at l buf ≡ (take at buf ++ l) ++ drop (at + length l) buf
  unfolding written_at
  as_front = sym (append_assoc (take at buf) l (drop (at + length l) buf))

  -- the buffer keeps its length
  pub length-written_at : length (written_at at l buf) ≡ length buf
  length-written_at = rw as_front (simp (length-append, length-drop, length-take-le at buf (omega arith)) (omega arith))

  -- what stands in the buffer up to the place behind the piece, and from there on
  pub taken_of_written_at : take (at + length l) (written_at at l buf) ≡ take at buf ++ l
  taken_of_written_at = ap (take (at + length l)) as_front ∙ take_at (take at buf ++ l) (drop (at + length l) buf) (at + length l) front

  pub left_of_written_at : (n : ℕ) → drop (at + length l + n) (written_at at l buf) ≡ drop (at + length l + n) buf
  left_of_written_at n =
      sym (drop-drop n (at + length l) (written_at at l buf))
      ∙ ap (λ (x : List A). drop n (drop (at + length l) x)) as_front
      ∙ ap (drop n) (drop_at (take at buf ++ l) (drop (at + length l) buf) (at + length l) front)
      ∙ drop-drop n (at + length l) buf

  -- a second piece behind the first is the two of them as one
  pub one_behind_the_other : (k : List A) → written_at (at + length l) k (written_at at l buf) ≡ written_at at (l ++ k) buf
  unfolding written_at
  one_behind_the_other k =
      let both : at + length l + length k ≡ at + length (l ++ k) = omega (arith, length-append l k) in
      ap₂ (λ (x y : List A). x ++ (k ++ y)) taken_of_written_at (left_of_written_at (length k))
      ∙ append_assoc (take at buf) l (k ++ drop (at + length l + length k) buf)
      ∙ ap (λ (x : List A). take at buf ++ x)
      (sym (append_assoc l k (drop (at + length l + length k) buf)) ∙ ap (λ (n : ℕ). (l ++ k) ++ drop n buf) both)

module _ {A : Type 0} (l buf : List A) where
  pub written_at_start : written_at 0 l buf ≡ l ++ drop (length l) buf
  unfolding written_at
  written_at_start = let start : 0 + length l ≡ length l = omega arith in ap (λ (n : ℕ). l ++ drop n buf) start

-- a part of the buffer, from a place on, is lent on, and the piece is written at its start
pub written_in_part : {A : Type 0} (at : ℕ) (l buf : List A) → at + length l ≤ length buf
    → take at buf ++ (written l (take (length buf - at) (drop at buf)) ++ drop (length buf - at) (drop at buf)) ≡ written_at at l buf
unfolding written_at
written_in_part {A} at l buf fits =
    let whole : take (length buf - at) (drop at buf) ≡ drop at buf = take_all (length buf - at) (drop at buf) (omega (arith, length-drop at buf)) in
    let none : drop (length buf - at) (drop at buf) ≡ [] = drop_of_length-le (drop at buf) {i = length buf - at} (omega (arith, length-drop at buf)) in
    ap₂ (λ (x y : List A). take at buf ++ (written l x ++ y)) whole none
    ∙ ap (λ (x : List A). take at buf ++ x)
    (append-nil (written l (drop at buf)) ∙ written_fits l (drop at buf) (omega (arith, length-drop at buf)) ∙ ap (λ (x : List A). l ++ x) (drop-drop (length l) at buf))

-- nothing written
pub nothing_written : {A : Type 0} (at : ℕ) (buf : List A) → written_at at [] buf ≡ buf
unfolding written_at
nothing_written at buf = let none : at + 0 ≡ at = omega arith in ap (λ (n : ℕ). take at buf ++ drop n buf) none ∙ take-append-drop at buf
