-- Walks along the links: what a walk of one link more reaches, and that the chain after a node is what its walks reach.
use Rattle.std.proofs.Common.{◌≡◌, ℕ, zero, suc, ◌+◌, ◌-◌, ◌<◌, List, [], ◌∷◌, ◌++◌, length, get_or, set, take, refl, sym, ap, ap₂, ◌∙◌, arith}
use Rattle.std.proofs.lemmas.List.{length-map, take_more}
use Rattle.std.proofs.Math.ListN.{get_or-map}
use Rattle.std.proofs.Math.Seq.{take-suc-set}
use Rattle.cells.specs.Links.{Link}
use Rattle.std.specs.Prelude.{None, Some}
use Rattle.memory.specs.Memory.{link_at}
use Rattle.pairing.specs.Pairing.{node_behind}
use Rattle.answer.specs.declared.Item.{Item}
use Rattle.machine.specs.State.{item_in}
use Rattle.contents.specs.Contents.{walked, chain_after, items_after}

module _ (links : List Link) where
  -- the first link of a walk
  pub walk_first : (x left : ℕ) → 0 < left → walked links x left ≡ walked links (node_behind (link_at links x) x) (left - 1)
  unfolding walked
  walk_first x zero h = absurd (omega arith)
  walk_first x (suc n) h = let one : n ≡ suc n - 1 = omega arith in ap (walked links (node_behind (link_at links x) x)) one

  -- and its last
  pub walk_last : (x n : ℕ) → node_behind (link_at links (walked links x n)) (walked links x n) ≡ walked links x (suc n)
  unfolding walked
  walk_last x zero = refl
  walk_last x (suc n) = walk_last (node_behind (link_at links x) x) n

  pub chain_none : (n x : ℕ) → link_at links x ≡ None → chain_after n links x ≡ []
  unfolding chain_after
  chain_none zero x e = refl
  chain_none (suc n) x e = rw e

  pub chain_to : (n x y : ℕ) → link_at links x ≡ Some y → chain_after (suc n) links x ≡ y ∷ chain_after n links y
  unfolding chain_after
  chain_to n x y e = rw e

  element_by : (n x j : ℕ) (l : Link) → link_at links x ≡ l
      → ((y k : ℕ) → k < length (chain_after n links y) → get_or (chain_after n links y) k 0 ≡ walked links y (suc k))
      → j < length (chain_after (suc n) links x)
      → get_or (chain_after (suc n) links x) j 0 ≡ walked links x (suc j)
  unfolding walked chain_after
  element_by n x j None e further h = absurd (omega (arith, rw e at h))
  element_by n x zero (Some y) e further h = rw e
  element_by n x (suc k) (Some y) e further h = rw e (further y k (omega (arith, rw e at h)))

  -- the j-th node after x is where j + 1 links lead
  pub chain_element : (n x j : ℕ) → j < length (chain_after n links x) → get_or (chain_after n links x) j 0 ≡ walked links x (suc j)
  unfolding chain_after
  chain_element zero x j h = absurd (omega arith)
  chain_element (suc n) x j h = element_by n x j (link_at links x) refl (λ y k. chain_element n y k) h

-- one more item written behind those that stand
pub one_more_item : (links : List Link) (items : List Item) (node i : ℕ) (out : List ℕ) {n : ℕ}
    → i < length out
    → length out ≡ length (items_after links items node)
    → take i out ≡ take i (items_after links items node)
    → n ≡ walked links node (suc i)
    → take (i + 1) (set out i (item_in items n).value) ≡ take (i + 1) (items_after links items node)
one_more_item links items node i out {n} h room stands w =
    let value : ℕ → ℕ = λ x. (item_in items x).value in
    let chain : List ℕ = chain_after 512 links node in
    let all : List ℕ = items_after links items node in
    let here : i < length chain = omega (arith, h, room, length-map chain value) in
    let item : value n ≡ get_or all i (value 0) = ap value (w ∙ sym (chain_element links 512 node i here)) ∙ sym (get_or-map value chain i 0) in
    let next : i + 1 ≡ suc i = omega arith in
    ap (λ (j : ℕ). take j (set out i (value n))) next
    ∙ (take-suc-set out i (value n) h
    ∙ (ap₂ (λ (l : List ℕ) (v : ℕ). l ++ (v ∷ [])) stands item
    ∙ sym (take_more all i (value 0) (omega (arith, h, room)))))
