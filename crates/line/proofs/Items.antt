-- The items of the `queue` line: each behind a blank, one after the other; and a queue never holds more than 512.
use Rattle.std.specs.Prelude.{None, Some}
use Prim.Native.Nat.{ℕ, zero, suc, ◌+◌, ◌≤◌, ◌<◌}
use mathlib.Core.Path.{◌≡◌, refl, sym, ap, ◌∙◌}
use mathlib.Core.List.{List, [], ◌∷◌, ◌++◌, append-nil, append_assoc}
use native.Mathlib.Omega.{arith}
use native.Mathlib.Numerals.{add-one}
use lib.ListN.{length, take, get_or, length-map}
use lib.Seq.{take-suc}
use Rattle.lent.specs.Lent.{written}
use Rattle.lent.proofs.Laws.{accepted_changes_only_these, writing_fits}
use Rattle.cells.specs.Links.{Link}
use Rattle.memory.specs.Memory.{link_at}
use Rattle.pairing.specs.Pairing.{node_behind}
use Rattle.machine.specs.declared.Machine.{Machine}
use Rattle.contents.specs.Contents.{abstract_head, chain_after, if_linked, contents}
use Rattle.line.specs.Text.{field, fields}

fields_of_both : (a b : List ℕ) → fields (a ++ b) ≡ fields a ++ fields b
unfolding fields
fields_of_both [] b = refl
fields_of_both (n ∷ a) b = ap (λ (l : List ℕ). field n ++ l) (fields_of_both a b) ∙ sym (append_assoc (field n) (fields a) (fields b))

-- one item more
pub one_field_more : (items : List ℕ) (i : ℕ) → i < length items → fields (take (i + 1) items) ≡ fields (take i items) ++ field (get_or items i 0)
unfolding fields
one_field_more items i h =
    let one : take (i + 1) items ≡ take i items ++ (get_or items i 0 ∷ []) = rw add-one (take-suc items i 0 h) in
    ap fields one ∙ fields_of_both (take i items) (get_or items i 0 ∷ [])
    ∙ ap (λ (l : List ℕ). fields (take i items) ++ l) (append-nil (field (get_or items i 0)))

linked_few : (n : ℕ) (link : Link) (rest : List ℕ) → length rest ≤ n → length (if_linked link rest) ≤ suc n
linked_few n None rest h = omega arith
linked_few n (Some x) rest h = omega arith

chain_few : (n : ℕ) (links : List Link) (x : ℕ) → length (chain_after n links x) ≤ n
unfolding chain_after
chain_few zero links x = omega arith
chain_few (suc n) links x = linked_few n (link_at links x) (chain_after n links (node_behind (link_at links x) x)) (chain_few n links (node_behind (link_at links x) x))

pub contents_few : (m : Machine) → length (contents m) ≤ 512
unfolding contents
contents_few m = rw length-map (chain_few 512 m.links (abstract_head m))

-- an array that has room for what the queue holds then begins with it
pub taken : (m : Machine) (room : List ℕ) → length (contents m) ≤ length room → take (length (contents m)) (written (contents m) room) ≡ contents m
taken m room fits = (accepted_changes_only_these (contents m) room (length (contents m)) (writing_fits (contents m) room fits)).0
