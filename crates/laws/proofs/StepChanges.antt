-- A step changes at most the one cell of its access, its own thread's row, and the futures of its batch where it ends one.
use Prim.Native.Nat.{ℕ, zero, suc, ◌+◌, ◌%◌, ◌<◌}
use mathlib.Core.Path.{◌≡◌, refl, sym, ap, ap₂, ◌∙◌, subst}
use mathlib.Core.List.{List}
use native.Mathlib.Omega.{arith}
use lib.ListN.{length, get_or, set}
use lib.Seq.{get_or-set_same, get_or-set_other, set_out}
use native.Mathlib.Decide.{dec_lt}
use Rattle.answer.specs.declared.Item.{Item}
use Rattle.answer.specs.declared.Future.{Future}
use Rattle.pairing.specs.declared.Cursor.{Cursor}
use Rattle.cells.specs.Links.{Link}
use Rattle.place.specs.declared.After.{After}
use Rattle.place.specs.declared.After.TheVariants as afterwards
use Rattle.row.specs.declared.Row.{Row}
use Rattle.row.specs.Row.{no_row}
use Rattle.thread.specs.Calls.{access}
use Rattle.machine.specs.declared.Machine.{Machine}
use Rattle.machine.specs.State.{memory_of, row_at, no_future}
use Rattle.machine.specs.Pairing.{pair_from, pairing, settled}
use Rattle.machine.specs.Steps.{hop, tell, step_of, request_of}
use Rattle.laws.specs.Changes.{Stepped}
use Rattle.laws.proofs.OneCell.{one_cell}

-- pairing n pending calls from the k-th on leaves every other future
unpaired : (n : ℕ) (links : List Link) (items : List Item) (last : ℕ) (pending : List ℕ) (k : ℕ) (fs : List Future) (c : Cursor) (f : ℕ)
    → ((j : ℕ) → j < n → get_or pending ((k + j) % 32) 0 % 512 ≡ f → ⊥)
    → get_or (pair_from n links items last pending k fs c) f no_future ≡ get_or fs f no_future
unfolding pair_from
unpaired zero links items last pending k fs c f h = refl
unpaired (suc n) links items last pending k fs c f h =
    let g : ℕ = get_or pending (k % 32) 0 % 512 in
    let here : k + 0 ≡ k = omega arith in
    unpaired n links items last pending (k + 1) _ _ f
    (λ j q e. let next : k + suc j ≡ k + 1 + j = omega arith in h (suc j) (omega arith) (ap (λ (x : ℕ). get_or pending (x % 32) 0 % 512) next ∙ e))
    ∙ get_or-set_other fs g f _ no_future (λ e. h 0 (omega arith) (ap (λ (x : ℕ). get_or pending (x % 32) 0 % 512) here ∙ sym e))

-- moving a thread on keeps what its row holds beside its place
row_keeps : {B : Type 0} (F : Row → B) (rows : List Row) (i : ℕ) (r : Row) → F r ≡ F (get_or rows i no_row) → F (get_or (set rows i r) i no_row) ≡ F (get_or rows i no_row)
row_keeps F rows i r e = elim (dec_lt i (length rows)) [
  | yes h ↦ ap F (get_or-set_same rows i r no_row h) ∙ e
  | no h ↦ ap (λ (l : List Row). F (get_or l i no_row)) (set_out rows i r (omega arith))
]

hop_changes : (m : Machine) (i : ℕ) → Stepped m i (hop m i).machine
unfolding hop
hop_changes m i = record {
  memory = one_cell (memory_of m) (access (row_at m i).place (request_of m (row_at m i)));
  rows = λ j h. get_or-set_other m.rows i j _ no_row h;
  futures = λ f h. refl;
  items = refl;
  threads = refl;
  nodes = refl;
  used = refl;
}

settled_changes : (m n : Machine) (i k : ℕ) (c : Cursor) → Stepped m i n → (row_at n i).pending ≡ (row_at m i).pending → (row_at n i).count ≡ (row_at m i).count → Stepped m i (settled n i k c).machine
unfolding settled pairing
settled_changes m n i k c s e d = record {
  memory = s.memory;
  rows = λ j h. get_or-set_other n.rows i j _ no_row h ∙ s.rows j h;
  futures =
      λ f h.
      unpaired ((row_at n i).count % 33) n.links n.items (row_at n i).last (row_at n i).pending 0 n.futures c f
      (λ j q g.
      let first : 0 + j ≡ j = omega arith in
      let within : j < (row_at m i).count % 33 = subst (λ (x : ℕ). j < x % 33) d q in
      h (j, within, ap₂ (λ (l : List ℕ) (x : ℕ). get_or l (x % 32) 0 % 512) (sym e) (sym first) ∙ g))
      ∙ s.futures f h;
  items = s.items;
  threads = s.threads;
  nodes = s.nodes;
  used = s.used;
}

told_changes : (m : Machine) (i : ℕ) (a : After) (n : Machine) → Stepped m i n → (row_at n i).pending ≡ (row_at m i).pending → (row_at n i).count ≡ (row_at m i).count → Stepped m i (tell n i 1 a).machine
told_changes m i (afterwards.On p) n s e d = s
told_changes m i afterwards.Ok n s e d = s
told_changes m i afterwards.Empty n s e d = s
told_changes m i (afterwards.Item x) n s e d = s
told_changes m i (afterwards.Pair from) n s e d = settled_changes m n i 1 _ s e d
told_changes m i (afterwards.PairDequeues from taken) n s e d = settled_changes m n i 1 _ s e d

pub step_changes : (m : Machine) (i : ℕ) → Stepped m i (step_of m i).machine
unfolding hop
step_changes m i =
    told_changes m i (hop m i).after (hop m i).machine (hop_changes m i)
    (row_keeps (λ r. r.pending) m.rows i _ refl)
    (row_keeps (λ r. r.count) m.rows i _ refl)
