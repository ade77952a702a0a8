-- What may be relied on over two changes, one after the other.
use Prim.Native.Nat.{ℕ, ◌≤◌}
use mathlib.Core.Path.{◌∙◌}
use mathlib.Core.Logic.{inr, ⊎_elim}
use native.Mathlib.Omega.{arith}
use lib.ListN.{length}
use native.Mathlib.Decide.{dec_lt}
use Rattle.chain.proofs.Positions.{within, element}
use Rattle.order.proofs.Ghost.{Ghost}
use Rattle.order.proofs.Shared.{Shared}
use Rattle.order.proofs.Grows.{Grows, Spares}

-- a chain that grows gets no shorter
pub no_shorter : {s s' : Shared} {g g' : Ghost} → Grows s g s' g' → length g.chain ≤ length g'.chain
no_shorter {g = g} {g'} r = elim (dec_lt (length g'.chain) (length g.chain)) [
  | yes h ↦ absurd (let x = element g.chain (length g'.chain) h in let z = within g'.chain (length g'.chain) (r.chain _ _ x.1) in omega arith)
  | no h ↦ omega arith
]

module _ {s₁ s₂ s₃ : Shared} {g₁ g₂ g₃ : Ghost} where
  pub grows_then_grows : Grows s₁ g₁ s₂ g₂ → Grows s₂ g₂ s₃ g₃ → Grows s₁ g₁ s₃ g₃
  grows_then_grows a b = record {
    chain = λ k n h. b.chain k n (a.chain k n h);
    ends = λ j p h. b.ends j p (a.ends j p h);
    by = λ j x h. b.by j x (a.by j x h);
    new_batch = λ c p h. ⊎_elim (a.new_batch c p) (λ w. inr (omega (arith, no_shorter a))) (b.new_batch c p h);
    installed = λ c h. b.installed c (a.installed c h);
    batches = λ c x h. b.batches c x (a.batches c x h);
    tail_up = omega (arith, a.tail_up, b.tail_up);
    request = λ c h. b.request c (a.installed c h) ∙ a.request c h;
    old_tail_lem = λ c o h e. b.old_tail_lem c o (a.installed c h) (a.old_tail_lem c o h e);
  }

  pub spares_then_spares : {u : ℕ} → Spares s₁ g₁ s₂ g₂ u → Spares s₂ g₂ s₃ g₃ u → Spares s₁ g₁ s₃ g₃ u
  spares_then_spares a b = record {
    mine = λ n h. b.mine n (a.mine n h);
    link = λ n h. b.link n (a.mine n h) ∙ a.link n h;
    mine_too = λ c h. b.mine_too c (a.mine_too c h);
    announcement = λ c h. b.announcement c (a.mine_too c h) ∙ a.announcement c h;
    pending = b.pending ∙ a.pending;
  }
