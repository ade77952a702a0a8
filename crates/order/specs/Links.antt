-- The machine's own links: the node that is linked behind a node, where there is one; the nodes along them; and what depends on a link.
use Rattle.std.specs.Prelude.{ℕ, List, None, Some}
use Rattle.std.proofs.Math.Option.{Option, none, some}
use Rattle.chain.specs.Chain.{following}
use Rattle.cells.specs.Links.{Link}
use Rattle.memory.specs.Memory.{link_at}

-- the node that a link leads to
abbrev pub led : Link → Option ℕ
led None = none
led (Some x) = some x

abbrev pub next : List Link → ℕ → Option ℕ
next links n = led (link_at links n)

-- n nodes at most, from the first along the links
abbrev pub nodes_from : List Link → ℕ → ℕ → List ℕ
nodes_from links first n = following (next links) n (some first)

-- by whether a link is none: a CAS of it is taken then, and a read of it finds none
abbrev pub if_none : {A : Type 0} → Link → A → A → A
if_none None then else = then
if_none (Some x) then else = else
