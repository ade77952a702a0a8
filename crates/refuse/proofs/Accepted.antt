-- What is known of what is accepted: of an entry, that its thread is idle and that what it needs is left.
use Prim.Native.Nat.{ℕ, ◌<◌}
use mathlib.Core.Path.{◌≡◌, refl}
use mathlib.Core.Bool.{Bool, true, false, cond, false≢true}
use lib.Dec.{leb}
use borrow.Author.Tests.{leb-false}
use Rattle.refusal.specs.declared.Refusal.{Refusal}
use Rattle.place.specs.declared.Place.{Place}
use Rattle.place.specs.declared.Place.TheVariants.{Idle, Enqueue, Dequeue, Batch, Dequeues, Running}
use Rattle.place.specs.Place.{idle}
use Rattle.row.specs.declared.Row.{Row}
use Rattle.next.specs.declared.Used.{Used}
use Rattle.needs.specs.declared.Needs.{Needs}
use Rattle.needs.specs.Needs.{short, lacking}
use Rattle.refuse.specs.Refusals.{first, callable, call_verdict}
use Rattle.refusal.proofs.Verdicts.{not_refused}
use Rattle.refusal.specs.Verdicts.{Verdict, accepted}
use Rattle.std.specs.Prelude.{Err, Ok}

both_accepted : (v w : Verdict) → first v w ≡ accepted → (v ≡ accepted) × (w ≡ accepted)
both_accepted (Ok ok) w e = (refl, e)
both_accepted (Err r) w e = not_refused e

passed : (b : Bool) (r : Refusal) (w : Verdict) → cond b (Err r) w ≡ accepted → (b ≡ false) × (w ≡ accepted)
passed true r w e = not_refused e
passed false r w e = (refl, e)

true_where_accepted : (b : Bool) (r : Refusal) → cond b accepted (Err r) ≡ accepted → b ≡ true
true_where_accepted true r e = refl
true_where_accepted false r e = not_refused e

idle_place : (p : Place) → idle p ≡ true → p ≡ Idle
idle_place Idle e = refl
idle_place (Enqueue n x) e = absurd (false≢true e)
idle_place (Dequeue x) e = absurd (false≢true e)
idle_place (Batch b x) e = absurd (false≢true e)
idle_place (Dequeues x) e = absurd (false≢true e)
idle_place (Running a x k) e = absurd (false≢true e)

pub callable_is_below : (t threads : ℕ) (p : Place) → callable t threads p ≡ accepted → t < threads
callable_is_below t threads p e = leb-false threads t (passed (leb threads t) _ _ e).0

pub callable_is_idle : (t threads : ℕ) (p : Place) → callable t threads p ≡ accepted → p ≡ Idle
callable_is_idle t threads p e = idle_place p (true_where_accepted (idle p) _ (passed (leb threads t) _ _ e).1)

is_left : (needed : Bool) (used all : ℕ) → short needed used all ≡ false → needed ≡ true → used < all
is_left true used all e n = leb-false all used e
is_left false used all e n = absurd (false≢true n)

-- what is needed is left
pub record Left (n : Needs) (u : Used) (nodes pending : ℕ) : Type 0 where
  pub node : n.node ≡ true → u.nodes < nodes
  pub future : n.future ≡ true → u.futures < 512
  pub place : n.future ≡ true → pending < 32
  pub announcement : n.announcement ≡ true → u.announcements < 64

pub nothing_lacks : (n : Needs) (u : Used) (nodes pending : ℕ) → lacking n u nodes pending ≡ accepted → Left n u nodes pending
nothing_lacks n u nodes pending e =
    let a = passed (short n.node u.nodes nodes) _ _ e in
    let b = passed (short n.future u.futures 512) _ _ a.1 in
    let c = passed (short n.future pending 32) _ _ b.1 in
    let d = passed (short n.announcement u.announcements 64) _ _ c.1 in
    record {
      node = is_left n.node u.nodes nodes a.0;
      future = is_left n.future u.futures 512 b.0;
      place = is_left n.future pending 32 c.0;
      announcement = is_left n.announcement u.announcements 64 d.0;
    }

pub call_accepted : (t threads : ℕ) (r : Row) (u : Used) (nodes : ℕ) (n : Needs) → call_verdict t threads r u nodes n ≡ accepted
    → (r.place ≡ Idle) × Left n u nodes r.count
call_accepted t threads r u nodes n e =
    let w = both_accepted (callable t threads r.place) (lacking n u nodes r.count) e in
    (callable_is_idle t threads r.place w.0, nothing_lacks n u nodes r.count w.1)
