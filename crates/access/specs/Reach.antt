-- Which cells an access reaches. The remainders make it total: no reachable machine holds a node from 512 or an announcement from 64 on.
use Rattle.std.specs.Prelude.{ℕ, ◌%◌}
use Rattle.access.specs.declared.Access.{Access}
use Rattle.access.specs.declared.Access.TheVariants.{ReadHead, ReadTail, ReadLink, ReadOldTail, CasLink, CasTail, CasHead, WriteOldTail, Announce}

-- the node and the announcement that an access reaches, 0 where it reaches none
unfoldable pub node_of : Access → ℕ
node_of ReadHead = 0
node_of ReadTail = 0
node_of (ReadLink n) = n % 512
node_of (ReadOldTail a) = 0
node_of (CasLink n to) = n % 512
node_of (CasTail was to) = 0
node_of (CasHead was to) = 0
node_of (WriteOldTail a t) = 0
node_of (Announce a f) = 0

unfoldable pub announcement_of : Access → ℕ
announcement_of ReadHead = 0
announcement_of ReadTail = 0
announcement_of (ReadLink n) = 0
announcement_of (ReadOldTail a) = a % 64
announcement_of (CasLink n to) = 0
announcement_of (CasTail was to) = 0
announcement_of (CasHead was to) = 0
announcement_of (WriteOldTail a t) = a % 64
announcement_of (Announce a f) = a % 64
