-- Each pending call of a thread has a future that was handed out for it and is flagged as the call is, an enqueue or a dequeue. Futures are
-- handed out in number order and paying one leaves its flag, so what other threads do leaves the flags of a thread's pending calls as they are.
use Prim.Native.Nat.{ℕ, suc, ◌+◌, ◌%◌, ◌<◌, ◌≤◌}
use mathlib.Core.Path.{◌≡◌, sym, ap, ◌∙◌, subst}
use mathlib.Core.List.{List, [], ◌∷◌, ◌++◌}
use mathlib.Core.Logic.{⊎_elim, ◌≢◌}
use native.Mathlib.Omega.{arith}
use native.Mathlib.Nat.{mod-eq_of_lt}
use native.Mathlib.Decide.{ℕ_discrete}
use lib.ListN.{length, get_or, set, length-set}
use lib.Seq.{get_or-set_same, get_or-set_other}
use Rattle.chain.specs.Positions.{At}
use Rattle.chain.proofs.Positions.{within, there_or_at_the_end}
use Rattle.tally.specs.Fifo.{Call}
use Rattle.tally.specs.Tally.{up}
use Rattle.row.specs.declared.Row.{Row}
use Rattle.answer.specs.declared.Future.{Future}
use Rattle.answer.specs.declared.Operation.{Operation}
use Rattle.next.specs.Next.{next_future}
use Rattle.machine.specs.declared.Machine.{Machine}
use Rattle.machine.specs.State.{row_at, no_future}
use Rattle.laws.proofs.HandedOut.{futures_in_order}
use Rattle.order.proofs.RowPut.{put_here, put_elsewhere}
use Rattle.order.proofs.Ghost.{Ghost, pending_of}
use Rattle.order.proofs.Steps.{Ok}
use Rattle.order.proofs.PairingCounts.{operation_of, Flagged}

pub record FlagsOf (fs : List Future) (used : ℕ) (pending : List ℕ) (cs : List (Call ℕ)) : Type 0 where
  pub places : length pending ≡ 32
  pub handed_out : (j : ℕ) (c : Call ℕ) → At cs j c → get_or pending j 0 < used
  pub flagged : (j : ℕ) (c : Call ℕ) → At cs j c → (get_or fs (get_or pending j 0 % 512) no_future).operation ≡ operation_of c

pub record Flags (m : Machine) (g : Ghost) : Type 0 where
  pub each : (t : ℕ) → t < 8 → FlagsOf m.futures m.used.futures (row_at m t).pending (pending_of g t)
  pub asked : (t : ℕ) → t < 8 → (row_at m t).future < 512
  pub futures : length m.futures ≡ 512
  pub room : m.used.futures ≤ 512

-- futures that were handed out keep their flags
pub record Carries (fs : List Future) (used : ℕ) (fs' : List Future) (used' : ℕ) : Type 0 where
  pub more : used ≤ used'
  pub same : (k : ℕ) → k < used → (get_or fs' (k % 512) no_future).operation ≡ (get_or fs (k % 512) no_future).operation
  pub long : length fs' ≡ length fs
  pub room : used ≤ 512 → used' ≤ 512

carried : {fs fs' : List Future} {used used' : ℕ} {pending : List ℕ} {cs : List (Call ℕ)} → Carries fs used fs' used' → FlagsOf fs used pending cs → FlagsOf fs' used' pending cs
carried c h = record {
  places = h.places;
  handed_out = λ j x p. omega (arith, h.handed_out j x p, c.more);
  flagged = λ j x p. c.same _ (h.handed_out j x p) ∙ h.flagged j x p;
}

-- one row, and the pending calls of its thread, change
pub put_flags : (m : Machine) (g : Ghost) → Flags m g → length m.rows ≡ 8 → (i : ℕ) → i < 8 → (m' : Machine) (g' : Ghost) (row : Row) → m'.rows ≡ set m.rows i row
    → ((u : ℕ) → u ≢ i → pending_of g' u ≡ pending_of g u) → Carries m.futures m.used.futures m'.futures m'.used.futures
    → FlagsOf m'.futures m'.used.futures row.pending (pending_of g' i) → row.future < 512 → Flags m' g'
put_flags m g h rows i lt m' g' row put others carries mine asks = record {
  each = λ t lt'. elim (ℕ_discrete t i) [ yes e ↦ subst (λ (u : ℕ). Here u) (sym e) here | no ne ↦ elsewhere t lt' ne ];
  asked = λ t lt'. elim (ℕ_discrete t i) [ yes e ↦ subst (λ (u : ℕ). (row_at m' u).future < 512) (sym e) (subst (λ (r : Row). r.future < 512) (sym here_is) asks) | no ne ↦ subst (λ (r : Row). r.future < 512) (sym (elsewhere_is t ne)) (h.asked t lt') ];
  futures = carries.long ∙ h.futures;
  room = carries.room h.room;
}
  where
    Here : ℕ → Type 0
    Here t = FlagsOf m'.futures m'.used.futures (row_at m' t).pending (pending_of g' t)

    here_is : row_at m' i ≡ row
    here_is = put_here m m' i row put rows lt

    elsewhere_is : (t : ℕ) → t ≢ i → row_at m' t ≡ row_at m t
    elsewhere_is = put_elsewhere m m' i row put

    here : Here i
    here = subst (λ (r : Row). FlagsOf m'.futures m'.used.futures r.pending (pending_of g' i)) (sym here_is) mine

    elsewhere : (t : ℕ) → t < 8 → t ≢ i → Here t
    elsewhere t lt' ne =
        subst (λ (r : Row). FlagsOf m'.futures m'.used.futures r.pending (pending_of g' t)) (sym (elsewhere_is t ne))
        (subst (FlagsOf m'.futures m'.used.futures (row_at m t).pending) (sym (others t ne)) (carried carries (h.each t lt')))

-- one more future is handed out, the one after those handed out before, and one more call is pending
module _ (fs : List Future) (used : ℕ) (x : Future) (left : used < 512) where
  one_more_future : Carries fs used (set fs used x) (suc used)
  one_more_future = record {
    more = omega arith;
    same = λ k h. ap (λ (f : Future). f.operation) (get_or-set_other fs used (k % 512) x no_future (λ e. omega arith));
    long = length-set fs used x;
    room = λ h. omega arith;
  }

  module _ (pending : List ℕ) (cs : List (Call ℕ)) (h : FlagsOf fs used pending cs) (long : length fs ≡ 512) (count : ℕ) (counted : count ≡ length cs) (few : count < 32)
      (c : Call ℕ) (is : x.operation ≡ operation_of c) where
    earlier : (j : ℕ) (y : Call ℕ) → At cs j y → get_or (set pending (count % 32) used) j 0 ≡ get_or pending j 0
    earlier j y p = get_or-set_other pending (count % 32) j used 0 (λ e. omega (arith, within cs j p, counted))

    new : (j : ℕ) → j ≡ length cs → get_or (set pending (count % 32) used) j 0 ≡ used
    new j e =
        ap (λ (k : ℕ). get_or (set pending (count % 32) used) k 0) (let q : j ≡ count % 32 = omega (arith, e, counted) in q)
        ∙ get_or-set_same pending (count % 32) used 0 (omega (arith, h.places))

    abbrev flag : ℕ → Operation
    flag k = (get_or (set fs used x) (k % 512) no_future).operation

    new_flag : flag used ≡ operation_of c
    new_flag =
        ap (λ (k : ℕ). (get_or (set fs used x) k no_future).operation) (mod-eq_of_lt left)
        ∙ ap (λ (f : Future). f.operation) (get_or-set_same fs used x no_future (omega (arith, long))) ∙ is

    one_more_flag : FlagsOf (set fs used x) (suc used) (set pending (count % 32) used) (cs ++ (c ∷ []))
    one_more_flag = record {
      places = length-set pending (count % 32) used ∙ h.places;
      handed_out = λ j y p. ⊎_elim (λ w. omega (arith, earlier j y w, h.handed_out j y w)) (λ w. omega (arith, new j w.0)) (there_or_at_the_end cs c j p);
      flagged = λ j y p. ⊎_elim
          (λ w. ap flag (earlier j y w) ∙ one_more_future.same (get_or pending j 0) (h.handed_out j y w) ∙ h.flagged j y w)
          (λ w. ap flag (new j w.0) ∙ new_flag ∙ sym (ap operation_of w.1))
          (there_or_at_the_end cs c j p);
    }

module _ (m : Machine) (g : Ghost) (ok : Ok m g) (h : Flags m g) (i : ℕ) (lt : i < 8) where
  -- the row's place changes, nothing is deferred
  pub row_moves : (m' : Machine) (g' : Ghost) (row : Row) → m'.rows ≡ set m.rows i row → row.pending ≡ (row_at m i).pending → row.future < 512 → m'.futures ≡ m.futures → m'.used.futures ≡ m.used.futures
      → g'.pending ≡ g.pending → Flags m' g'
  row_moves m' g' row put same asks fs used calls =
      put_flags m g h ok.rows i lt m' g' row put (λ u ne. ap (λ (l : List (List (Call ℕ))). get_or l u []) calls) kept
      (subst (λ (l : List ℕ). FlagsOf m'.futures m'.used.futures l (pending_of g' i)) (sym same)
      (subst (FlagsOf m'.futures m'.used.futures (row_at m i).pending) (sym (ap (λ (l : List (List (Call ℕ))). get_or l i []) calls)) (carried kept (h.each i lt)))) asks
    where
      kept : Carries m.futures m.used.futures m'.futures m'.used.futures
      kept = record {
        more = omega (arith, used);
        same = λ k p. ap (λ (l : List Future). (get_or l (k % 512) no_future).operation) fs;
        long = ap length fs;
        room = λ p. omega (arith, used);
      }

  -- a call is deferred
  pub deferred : (c : Call ℕ) (x : Future) → x.operation ≡ operation_of c → m.used.futures < 512 → (row_at m i).count < 32 → (m' : Machine) (g' : Ghost) (row : Row)
      → m'.rows ≡ set m.rows i row → row.pending ≡ set (row_at m i).pending ((row_at m i).count % 32) (next_future m.used) → row.future ≡ (row_at m i).future
      → m'.futures ≡ set m.futures (next_future m.used) x → m'.used.futures ≡ up m.used.futures → g'.pending ≡ set g.pending i (pending_of g i ++ (c ∷ [])) → Flags m' g'
  deferred c x is left few m' g' row put pending same fs used calls =
      put_flags m g h ok.rows i lt m' g' row put (λ u ne. ap (λ (l : List (List (Call ℕ))). get_or l u []) calls ∙ get_or-set_other g.pending i u _ [] ne)
      (subst (λ (l : List Future). Carries m.futures old l m'.used.futures) (sym fs_are)
      (subst (Carries m.futures old (set m.futures old x)) (sym used_is) (one_more_future m.futures old x left)))
      (subst (λ (l : List Future). FlagsOf l m'.used.futures row.pending (pending_of g' i)) (sym fs_are)
      (subst (λ (u : ℕ). FlagsOf (set m.futures old x) u row.pending (pending_of g' i)) (sym used_is)
      (subst (λ (l : List ℕ). FlagsOf (set m.futures old x) (suc old) l (pending_of g' i)) (sym pending_is)
      (subst (FlagsOf (set m.futures old x) (suc old) _) (sym cs_is)
      (one_more_flag m.futures old x left (row_at m i).pending (pending_of g i) (h.each i lt) h.futures (row_at m i).count (ok.knows i lt).tallied.count few c is)))))
      (subst (λ (f : ℕ). f < 512) (sym same) (h.asked i lt))
    where
      old : ℕ
      old = m.used.futures

      number : next_future m.used ≡ m.used.futures
      number = (futures_in_order m.used left).0

      used_is : m'.used.futures ≡ suc m.used.futures
      used_is = used ∙ (futures_in_order m.used left).1

      fs_are : m'.futures ≡ set m.futures m.used.futures x
      fs_are = fs ∙ ap (λ (k : ℕ). set m.futures k x) number

      pending_is : row.pending ≡ set (row_at m i).pending ((row_at m i).count % 32) m.used.futures
      pending_is = pending ∙ ap (set (row_at m i).pending ((row_at m i).count % 32)) number

      cs_is : pending_of g' i ≡ pending_of g i ++ (c ∷ [])
      cs_is = ap (λ (l : List (List (Call ℕ))). get_or l i []) calls ∙ get_or-set_same g.pending i _ [] (omega (arith, ok.pendings))

-- so pairing finds them flagged; the calls are at most 32
pub flagged_here : (m : Machine) (g : Ghost) → Ok m g → Flags m g → (t : ℕ) → t < 8 → Flagged (row_at m t).pending m.futures (pending_of g t)
flagged_here m g ok flags t lt j c p =
    let place : (0 + j) % 32 ≡ j = omega (arith, within (pending_of g t) j p, (ok.knows t lt).tallied.few) in
    ap (λ (k : ℕ). (get_or m.futures (get_or (row_at m t).pending k 0 % 512) no_future).operation) place ∙ (flags.each t lt).flagged j c p
