-- A turn of the loop that pairs a batch's results with its futures is one turn of the definition. The loop changes the futures alone,
-- so the links and items that it reads are those that the machine had where it began.
use Rattle.std.proofs.Common.{◌≡◌, ℕ, suc, ◌+◌, ◌-◌, ◌<◌, ◌%◌, List, take, slice_index, slice_index_or, slice_set, Some, sym, ap, ◌∙◌, ap₂, arith}
use Rattle.std.proofs.lemmas.List.{get_or-take}
use Rattle.answer.specs.declared.Item.{Item}
use Rattle.answer.specs.declared.Future.{Future}
use Rattle.pairing.specs.declared.Cursor.{Cursor}
use Rattle.pairing.specs.declared.Paid.{Paid}
use Rattle.cells.specs.Links.{Link}
use Rattle.machine.specs.declared.Machine.{Machine}
use Rattle.machine.specs.State.{with_futures, no_future}
use Rattle.machine.specs.Pairing.{done, paid_to, pair_from}

pub pending_at : (pending : List ℕ) (count k : ℕ) → k < count % 33 → slice_index (take (count % 33) pending) k ≡ slice_index pending (k % 32)
pending_at pending count k h =
    let small : k ≡ k % 32 = omega (arith, h) in
    get_or-take (count % 33) pending k 0 h ∙ ap (slice_index pending) small

pub pair_turn : (m₀ m : Machine) (last : ℕ) (pending : List ℕ) (count k f : ℕ) (c : Cursor) {z : List Future} {pd : Paid}
    → k < count
    → f ≡ slice_index pending (k % 32) % 512
    → m ≡ with_futures m₀ m.futures
    → pair_from (count - k) m₀.links m₀.items last pending k m.futures c ≡ z
    → pd ≡ paid_to m.links m.items last c (slice_index_or m.futures f no_future)
    → pair_from (count - (k + 1)) m₀.links m₀.items last pending (k + 1)
    (slice_set m.futures f (done (slice_index_or m.futures f no_future) (Some pd.result)))
    pd.cursor
    ≡ z
unfolding pair_from
pair_turn m₀ m last pending count k f c {z} {pd} h at same inv here =
    let x : Future = slice_index_or m.futures f no_future in
    let turn : List Future → ℕ → Paid → List Future = λ fs i q. pair_from (count - (k + 1)) m₀.links m₀.items last pending (k + 1)
    (slice_set fs i (done (slice_index_or fs i no_future) (Some q.result))) q.cursor in
    let there : paid_to m.links m.items last c x ≡ paid_to m₀.links m₀.items last c x =
    ap₂ (λ (ls : List Link) (is : List Item). paid_to ls is last c x) (ap (λ (y : Machine). y.links) same) (ap (λ (y : Machine). y.items) same) in
    let one : count - k ≡ suc (count - (k + 1)) = omega arith in
    ap (turn m.futures f) (here ∙ there)
    ∙ (ap (λ (i : ℕ). turn m.futures i (paid_to m₀.links m₀.items last c (slice_index_or m.futures i no_future))) at
    ∙ (ap (λ (n : ℕ). pair_from n m₀.links m₀.items last pending k m.futures c) (sym one) ∙ inv))

-- where no pending call is left, the futures are those of the definition
pub paired : (m₀ m : Machine) (last : ℕ) (pending : List ℕ) (count k : ℕ) (c : Cursor) {z : List Future}
    → count ≡ k → m ≡ with_futures m₀ m.futures → pair_from (count - k) m₀.links m₀.items last pending k m.futures c ≡ z → m ≡ with_futures m₀ z
unfolding pair_from
paired m₀ m last pending count k c e same inv =
    let none : 0 ≡ count - k = omega arith in
    same ∙ ap (with_futures m₀) (ap (λ (n : ℕ). pair_from n m₀.links m₀.items last pending k m.futures c) none ∙ inv)
