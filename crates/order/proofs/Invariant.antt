-- The invariant of what the threads share, conjunct by conjunct. Every count beside a node is the node's position in the chain; so a pair that
-- anybody remembers never becomes false, since the chain only grows at its end.
use Rattle.std.specs.Prelude.{None, Some}
use Prim.Native.Nat.{ℕ, suc, ◌+◌, ◌<◌, ◌≤◌}
use mathlib.Core.Path.{◌≡◌}
use mathlib.Core.List.{List}
use mathlib.Core.Option.{none, some}
use mathlib.Core.Logic.{◌⊎◌}
use lib.ListN.{length}
use Rattle.chain.specs.Positions.{At, In}
use Rattle.chain.specs.Chain.{Chain, Beside}
use Rattle.tally.specs.Tally.{tally_of}
use Rattle.cells.specs.declared.Tail.{Tail}
use Rattle.cells.specs.declared.Front.{Front}
use Rattle.cells.specs.declared.Head.{Head}
use Rattle.cells.specs.declared.Head.TheVariants.{Plain, Announced}
use Rattle.cells.specs.Links.{Link}
use Rattle.cells.specs.declared.Announcement.{Announcement}
use Rattle.memory.specs.Memory.{announcement_at}
use Rattle.order.proofs.Ghost.{Ghost, Batch}
use Rattle.order.proofs.Shared.{Shared, next}

-- a tail, or a head, stands at a node of the chain, and its count is that node's position
abbrev pub TailAt : Ghost → Tail → Type 0
TailAt g t = At g.chain t.count.0 t.node

abbrev pub FrontAt : Ghost → Front → Type 0
FrontAt g f = At g.chain f.count.0 f.node

-- the batch of announcement a was linked behind the node at position p
pub record Linked (g : Ghost) (a p : ℕ) : Type 0 where
  pub step : ℕ
  pub is : At g.by (suc step) (some a)
  pub from : At g.ends step p

abbrev pub NotLinked : Ghost → ℕ → Type 0
NotLinked g a = (j : ℕ) → At g.by j (some a) → ⊥

-- 1. The chain: it starts at the dummy, its nodes have been handed out, and its links are the machine's.
pub record InvChain (links : List Link) (nodes : ℕ) (g : Ghost) : Type 0 where
  pub first : At g.chain 0 0
  pub chain : Chain (next links) g.chain
  pub in_use : (k n : ℕ) → At g.chain k n → n < nodes
  pub room : nodes ≤ 512
  pub cells : length links ≡ 512
  pub owned : length g.node_owners ≡ nodes

-- 2. The link steps: they end at rising positions, the last at the chain's end; a single one is one node long; a batch is linked once.
pub record InvEnds (g : Ghost) : Type 0 where
  pub ends_at_dummy : At g.ends 0 0
  pub by_nobody : At g.by 0 none
  pub same_length : length g.by ≡ length g.ends
  pub rising : (i j p q : ℕ) → At g.ends i p → At g.ends j q → i < j → p < q
  pub ends_within : (j p : ℕ) → At g.ends j p → p < length g.chain
  pub last_ends : (j p : ℕ) → At g.ends j p → length g.ends ≤ suc j → length g.chain ≡ suc p
  pub singles : (j p : ℕ) → At g.by (suc j) none → At g.ends j p → At g.ends (suc j) (suc p)
  pub linked_once : (i j a : ℕ) → At g.by i (some a) → At g.by j (some a) → i ≡ j

-- 3. The tail ends a link step: the last one, or the last but one.
pub record InvTail (tail : Tail) (g : Ghost) : Type 0 where
  pub tail_at : TailAt g tail
  pub step : ℕ
  pub tail_ends : At g.ends step tail.count.0
  pub near : length g.ends ≤ step + 2

-- a batch that link step j + 1 linked behind position p
pub record Shape (g : Ghost) (x : Announcement) (j p : ℕ) : Type 0 where
  pub first_at : At g.chain (suc p) x.request.first
  pub last_at : At g.chain (p + x.request.tally.enqueues) x.request.last
  pub ends_at : At g.ends (suc j) (p + x.request.tally.enqueues)
  pub old_head_before : x.request.old_head.count.0 ≤ p

-- 4. Linked batches: the tail is past where one was linked, or its announcement is in the head; it is not past while the old tail is unset;
-- and an old tail that is set is where the batch was linked.
pub record InvLinked (head : Head) (tail : Tail) (anns : List Announcement) (g : Ghost) : Type 0 where
  pub shape : (a j p : ℕ) → At g.by (suc j) (some a) → At g.ends j p → Shape g (announcement_at anns a) j p
  pub waits : (a j p : ℕ) → At g.by (suc j) (some a) → At g.ends j p → (p < tail.count.0) ⊎ (head ≡ Announced a)
  pub not_past : (a j p : ℕ) → At g.by (suc j) (some a) → At g.ends j p → (announcement_at anns a).old_tail ≡ None → tail.count.0 ≤ p
  pub old_tails : (a : ℕ) (t : Tail) → (announcement_at anns a).old_tail ≡ Some t → In g.installed a → Linked g a t.count.0 × TailAt g t

-- 5. The head: a node of the chain, or an announcement that has been installed; one that has been is linked or still there.
pub record InvHead (head : Head) (anns : List Announcement) (g : Ghost) : Type 0 where
  pub linked_installed : (a j : ℕ) → At g.by j (some a) → In g.installed a
  pub linked_or_there : (a : ℕ) → In g.installed a → ((j : ℕ) × At g.by (suc j) (some a)) ⊎ (head ≡ Announced a)
  pub there_installed : (a : ℕ) → head ≡ Announced a → In g.installed a
  pub head_at : (f : Front) → head ≡ Plain f → FrontAt g f
  pub old_head_at : (a : ℕ) → In g.installed a → FrontAt g (announcement_at anns a).request.old_head
  pub has_batch : (a : ℕ) → In g.installed a → (b : Batch) × At g.batches a b

-- an announcement asks for its batch
pub record Asks (x : Announcement) (b : Batch) : Type 0 where
  pub first_is : At b.nodes 0 x.request.first
  pub last_is : (k : ℕ) → suc k ≡ x.request.tally.enqueues → At b.nodes k x.request.last
  pub many : length b.nodes ≡ x.request.tally.enqueues
  pub tally : x.request.tally ≡ tally_of b.calls

-- 6. The batches of the announcements handed out; one that was installed and is not linked stands beside the chain.
pub record InvBatches (links : List Link) (nodes announced : ℕ) (anns : List Announcement) (g : Ghost) : Type 0 where
  pub asks : (a : ℕ) (b : Batch) → At g.batches a b → Asks (announcement_at anns a) b
  pub in_use : (a k n : ℕ) (b : Batch) → At g.batches a b → At b.nodes k n → n < nodes
  pub counted : announced ≡ length g.batches
  pub owned : length g.announcement_owners ≡ length g.batches
  pub room : announced ≤ 64
  pub cells : length anns ≡ 64
  pub beside : (a : ℕ) (b : Batch) → In g.installed a → NotLinked g a → At g.batches a b → Beside (next links) g.chain b.nodes

pub record Inv (s : Shared) (g : Ghost) : Type 0 where
  pub chain : InvChain s.links s.nodes g
  pub ends : InvEnds g
  pub tail : InvTail s.tail g
  pub linked : InvLinked s.head s.tail s.announcements g
  pub head : InvHead s.head s.announcements g
  pub batches : InvBatches s.links s.nodes s.announced s.announcements g
