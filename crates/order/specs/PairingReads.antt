-- Pairing, turn by turn: listings 6 and 8 of 002 read the links once more, from the node that the batch started at, in the step that ends the
-- call. Here are the turns that pair_from of machine/specs/Pairing.antt makes, and what it means that a turn stays on the chain of linked nodes.
use Rattle.std.specs.Prelude.{ℕ, zero, suc, ◌+◌, ◌%◌, ◌≡◌, List, [], ◌∷◌, Some}
use Rattle.chain.specs.Positions.{At, In}
use Rattle.cells.specs.Links.{Link}
use Rattle.memory.specs.Memory.{link_at}
use Rattle.place.specs.declared.After.{After}
use Rattle.place.specs.declared.After.TheVariants as afterwards
use Rattle.answer.specs.declared.Item.{Item}
use Rattle.answer.specs.declared.CallResult.{CallResult}
use Rattle.answer.specs.declared.CallResult.TheVariants as call_result
use Rattle.answer.specs.declared.Future.{Future}
use Rattle.answer.specs.declared.Operation.{Operation}
use Rattle.answer.specs.declared.Operation.TheVariants.{Enqueue}
use Rattle.pairing.specs.declared.Supply.{Supply}
use Rattle.pairing.specs.declared.Supply.TheVariants.{Batch, Dequeues}
use Rattle.pairing.specs.declared.Cursor.{Cursor}
use Rattle.pairing.specs.Pairing.{next_of}
use Rattle.machine.specs.declared.Machine.{Machine}
use Rattle.machine.specs.State.{row_at}
use Rattle.machine.specs.Pairing.{paid_to, pending_future, with_outcome, batch_cursor, dequeues_cursor}

-- one turn: the cursor with which it reads, which call it pays, and the result that it pays
pub record Turn : Type 0 where
  pub cursor : Cursor
  pub operation : Operation
  pub result : CallResult

abbrev pub turn_of : List Link → List Item → ℕ → Cursor → Future → Turn
turn_of links items last c f = record { cursor = c; operation = f.operation; result = (paid_to links items last c f).result }

-- the turns of n pending calls from the k-th on, as pair_from makes them: the same futures, and each cursor is the one paid by the turn before
unfoldable pub turns : ℕ → List Link → List Item → ℕ → List ℕ → ℕ → List Future → Cursor → List Turn
turns zero links items last pending k fs c = []
turns (suc n) links items last pending k fs c =
    turn_of links items last c (pending_future pending k fs)
    ∷ turns n links items last pending (k + 1)
    (with_outcome pending k fs (Some (paid_to links items last c (pending_future pending k fs)).result))
    (paid_to links items last c (pending_future pending k fs)).cursor

-- the turns of pairing the pending calls of the thread whose row is i
abbrev pub turns_from : Machine → ℕ → Cursor → List Turn
turns_from m i c = turns ((row_at m i).count % 33) m.links m.items (row_at m i).last (row_at m i).pending 0 m.futures c

-- .. and of a step's end: only that of a batch pairs
abbrev pub turns_after : Machine → ℕ → After → List Turn
turns_after m i (afterwards.On p) = []
turns_after m i afterwards.Ok = []
turns_after m i afterwards.Empty = []
turns_after m i (afterwards.Item x) = []
turns_after m i (afterwards.Pair from) = turns_from m i (batch_cursor from (row_at m i).first)
turns_after m i (afterwards.PairDequeues from taken) = turns_from m i (dequeues_cursor from taken)

-- a link is there, and leads to a node of the chain
pub record LeadsTo (chain : List ℕ) (link : Link) : Type 0 where
  pub node : ℕ
  pub is : link ≡ Some node
  pub in_chain : In chain node

-- a pending enqueue's node; a batch of dequeues has none
abbrev pub NextThere : List ℕ → Supply → Type 0
NextThere chain (Batch next none_left) = LeadsTo chain next
NextThere chain (Dequeues left) = Unit {0}

-- A turn stays on the chain.
pub record StaysOn (links : List Link) (chain : List ℕ) (x : Turn) : Type 0 where
  -- both nodes whose links it reads, the current head and the next enqueue's (the first dummy where there is none), are in the chain
  pub reads_head : In chain x.cursor.at
  pub reads_next : In chain (next_of x.cursor.supply)
  -- where it goes on to a next node, whose item is the result, the link behind the current head is there
  pub goes_on : (v : Item) → x.result ≡ call_result.Item v → LeadsTo chain (link_at links x.cursor.at)
  -- where it pays an enqueue, that enqueue's node is there
  pub enqueues : x.operation ≡ Enqueue → NextThere chain x.cursor.supply

abbrev pub AllStayOn : List Link → List ℕ → List Turn → Type 0
AllStayOn links chain xs = (j : ℕ) (x : Turn) → At xs j x → StaysOn links chain x
