-- Walking the machine's links along a chain. n links on from position j one stands at position j + n, and every link on the way leads on; the
-- nodes met behind a node are those that stand after it in the chain, each once, up to the last. Here the links are read as a6 and `contents`
-- read them; that it is a chain is all that is known of them.
use Rattle.std.specs.Prelude.{None, Some}
use Prim.Native.Nat.{ℕ, zero, suc, ◌+◌, ◌<◌, ◌≤◌}
use mathlib.Core.Path.{◌≡◌, refl, sym, ap, ◌∙◌}
use mathlib.Core.List.{List, [], ◌∷◌}
use mathlib.Core.Option.{some}
use native.Mathlib.Omega.{arith}
use lib.ListN.{length, drop}
use Rattle.chain.specs.Positions.{at, At}
use Rattle.chain.specs.Chain.{Chain, following}
use Rattle.chain.proofs.Positions.{element}
use Rattle.chain.proofs.Following.{meets_the_rest}
use Rattle.cells.specs.Links.{Link}
use Rattle.memory.specs.Memory.{link_at}
use Rattle.pairing.specs.Pairing.{node_behind}
use Rattle.contents.specs.Contents.{walked, chain_after, if_linked}
use Rattle.order.proofs.Shared.{next, led, link_to}

module _ (links : List Link) {c : List ℕ} (chain : Chain (next links) c) where
  -- the link of a node that another follows leads to that one
  pub link_leads_on : (j x y : ℕ) → At c j x → At c (suc j) y → link_at links x ≡ Some y
  link_leads_on j x y p q = link_to (link_at links x) y (chain.links j x p ∙ q)

  pub walks_along : (n j x : ℕ) → At c j x → j + n < length c → At c (j + n) (walked links x n)
  unfolding walked
  walks_along zero j x p h = ap (at c) (let z : j + 0 ≡ j = omega arith in z) ∙ p
  walks_along (suc n) j x p h =
      let y = element c (suc j) (omega arith) in
      let one_on : node_behind (link_at links x) x ≡ y.0 = ap (λ (l : Link). node_behind l x) (link_leads_on j x y.0 p y.1) in
      let there = walks_along n (suc j) y.0 y.1 (omega arith) in
      let same : suc j + n ≡ j + suc n = omega arith in
      ap (at c) (sym same) ∙ there ∙ ap (λ (z : ℕ). some (walked links z n)) (sym one_on)

  -- no link is missing on the way
  pub no_link_is_missing : (n j x : ℕ) → At c j x → j + n < length c → (m : ℕ) → m < n → (y : ℕ) × (link_at links (walked links x m) ≡ Some y)
  no_link_is_missing n j x p h m lt =
      let y = element c (suc (j + m)) (omega arith) in
      (y.0, link_leads_on (j + m) (walked links x m) y.0 (walks_along m j x p (omega arith)) y.1)

-- what `contents` meets are the nodes met by following the links
meets_by_following : (links : List Link) (n x : ℕ) → chain_after n links x ≡ following (next links) n (next links x)
unfolding chain_after following
meets_by_following links zero x = refl
meets_by_following links (suc n) x = by_link (λ y. meets_by_following links n y) (link_at links x)
  where
    by_link : ((y : ℕ) → chain_after n links y ≡ following (next links) n (next links y)) → (l : Link)
        → if_linked l (chain_after n links (node_behind l x)) ≡ following (next links) (suc n) (led l)
    by_link again None = refl
    by_link again (Some y) = ap (λ (r : List ℕ). y ∷ r) (again y)

-- behind position k, where no more nodes stand than links are followed
pub meets_those_behind : (links : List Link) {c : List ℕ} → Chain (next links) c → (n k x : ℕ) → At c k x → length c ≤ suc k + n
    → chain_after n links x ≡ drop (suc k) c
meets_those_behind links chain n k x p h =
    meets_by_following links n x ∙ meets_the_rest chain n (suc k) (next links x) (sym (chain.links k x p)) h

-- the part of a list from a position on, by position
pub at_drop : {A : Type 0} (k : ℕ) (c : List A) (j : ℕ) → at (drop k c) j ≡ at c (k + j)
unfolding at
at_drop zero c j = ap (at c) (let z : j ≡ 0 + j = omega arith in z)
at_drop (suc k) [] j = refl
at_drop (suc k) (x ∷ c) j = at_drop k c j ∙ ap (at (x ∷ c)) (let z : suc (k + j) ≡ suc k + j = omega arith in z)
