-- What the threads share, as the proof reads it: head, tail, links and announcements, and how many nodes and announcements have been handed out.
-- The machine takes numbers by their remainder; of numbers in range that is the number itself.
use Rattle.std.specs.Prelude.{None, Some}
use Prim.Native.Nat.{ℕ, ◌%◌, ◌<◌}
use mathlib.Core.Path.{◌≡◌, refl, sym, ap, ◌∙◌}
use mathlib.Core.Bool.{Bool, cond}
use mathlib.Core.List.{List}
use mathlib.Core.Option.{none, some}
use mathlib.Core.Logic.{◌≢◌}
use native.Mathlib.Omega.{arith}
use native.Mathlib.Nat.{mod-eq_of_lt}
use lib.ListN.{length, set}
use lib.Seq.{get_or-set_same, get_or-set_other}
use Rattle.cells.specs.declared.Tail.{Tail}
use Rattle.cells.specs.declared.Head.{Head}
use Rattle.cells.specs.Links.{Link}
use Rattle.cells.specs.declared.Announcement.{Announcement}
use Rattle.memory.specs.Memory.{Memory, announcement_at, no_announcement}
use Rattle.machine.specs.declared.Machine.{Machine}
pub use Rattle.order.specs.Links.{led, next}

pub record Shared : Type 0 where
  pub head : Head
  pub tail : Tail
  pub links : List Link
  pub announcements : List Announcement
  -- how many nodes and announcements have been handed out
  pub nodes : ℕ
  pub announced : ℕ

abbrev pub shared_of : Machine → Shared
shared_of m = record {
  head = m.ends.head;
  tail = m.ends.tail;
  links = m.links;
  announcements = m.announcements;
  nodes = m.used.nodes;
  announced = m.used.announcements;
}

-- memory after an access, with what was handed out as before
abbrev pub in_memory : Shared → Memory → Shared
in_memory s x = record {
  head = x.ends.head;
  tail = x.ends.tail;
  links = x.links;
  announcements = x.announcements;
  nodes = s.nodes;
  announced = s.announced;
}

-- with another head, tail, links or announcements
abbrev pub with_head : Shared → Head → Shared
with_head s h = record { head = h; tail = s.tail; links = s.links; announcements = s.announcements; nodes = s.nodes; announced = s.announced }

abbrev pub with_tail : Shared → Tail → Shared
with_tail s t = record { head = s.head; tail = t; links = s.links; announcements = s.announcements; nodes = s.nodes; announced = s.announced }

abbrev pub with_links : Shared → List Link → Shared
with_links s ls = record { head = s.head; tail = s.tail; links = ls; announcements = s.announcements; nodes = s.nodes; announced = s.announced }

abbrev pub with_announcements : Shared → List Announcement → Shared
with_announcements s anns = record { head = s.head; tail = s.tail; links = s.links; announcements = anns; nodes = s.nodes; announced = s.announced }

-- a CAS that was taken, or not
abbrev pub tail_if : Bool → Shared → Tail → Shared
tail_if b s t = cond b (with_tail s t) s

abbrev pub head_if : Bool → Shared → Head → Shared
head_if b s h = cond b (with_head s h) s

pub no_link : (l : Link) → led l ≡ none → l ≡ None
no_link None e = refl
no_link (Some x) e = absurd (let z : ◌≡◌ {A = ℕ} 0 1 = cc in omega arith)

pub link_to : (l : Link) (x : ℕ) → led l ≡ some x → l ≡ Some x
link_to None x e = absurd (let z : ◌≡◌ {A = ℕ} 0 1 = cc in omega arith)
link_to (Some y) x e = let q : y ≡ x = cc in ap Some q

abbrev pub linked : List Link → ℕ → Link → List Link
linked links n l = set links (n % 512) l

-- a link that is set is found, and the others stay
module _ (links : List Link) (all : length links ≡ 512) (n : ℕ) (l : Link) (small : n < 512) where
  pub next_of_linked : next (linked links n l) n ≡ led l
  next_of_linked = ap led (get_or-set_same links (n % 512) l None (omega (arith, mod-eq_of_lt small)))

  pub next_of_others : (k : ℕ) → k < 512 → k ≢ n → next (linked links n l) k ≡ next links k
  next_of_others k h ne =
      ap led
      (get_or-set_other links (n % 512) (k % 512) l None (λ e. ne (sym (mod-eq_of_lt h) ∙ e ∙ mod-eq_of_lt small)))

-- the same of announcements
abbrev pub announcing : List Announcement → ℕ → Announcement → List Announcement
announcing anns a x = set anns (a % 64) x

module _ (anns : List Announcement) (all : length anns ≡ 64) (a : ℕ) (x : Announcement) (small : a < 64) where
  pub announcement_set : announcement_at (announcing anns a x) a ≡ x
  announcement_set = get_or-set_same anns (a % 64) x no_announcement (omega (arith, mod-eq_of_lt small))

  pub other_announcement : (b : ℕ) → b < 64 → b ≢ a → announcement_at (announcing anns a x) b ≡ announcement_at anns b
  other_announcement b h ne = get_or-set_other anns (a % 64) (b % 64) x no_announcement (λ e. ne (sym (mod-eq_of_lt h) ∙ e ∙ mod-eq_of_lt small))
