-- Steps that move the head, and the one that sets an old tail. The head goes from a node to a node (d3, q3), or from an announcement to a
-- node (a7): then the batch is linked and the tail is past it, so nobody waits for the announcement any more. An old tail (a4) is set to
-- where the batch was linked; as there is one such place, whoever sets it again sets the same.
use Rattle.std.specs.Prelude.{Some}
use Prim.Native.Nat.{ℕ, suc, ◌<◌}
use mathlib.Core.Path.{◌≡◌, refl, sym, ap, ◌∙◌, subst}
use mathlib.Core.Bool.{Bool}
use mathlib.Core.Option.{some}
use mathlib.Core.Logic.{inl, ⊎_elim, ◌≢◌}
use native.Mathlib.Omega.{arith}
use native.Mathlib.Decide.{ℕ_discrete}
use lib.ListN.{length-set}
use Rattle.chain.specs.Positions.{At, In}
use Rattle.chain.proofs.Positions.{one_element, within}
use Rattle.refusal.proofs.Tests.{either_way}
use Rattle.cells.specs.declared.Tail.{Tail}
use Rattle.cells.specs.declared.Front.{Front}
use Rattle.cells.specs.declared.Head.{Head}
use Rattle.cells.specs.declared.Head.TheVariants.{Plain, Announced}
use Rattle.cells.specs.Links.{OldTail}
use Rattle.cells.specs.declared.Announcement.{Announcement}
use Rattle.memory.specs.Memory.{announcement_at, tail_set}
use Rattle.cells.specs.Ends.{same_head}
use Rattle.order.proofs.Ghost.{Ghost}
use Rattle.order.proofs.Shared.{Shared, with_head, head_if, with_announcements, announcing, announcement_set, other_announcement}
use Rattle.order.proofs.Invariant.{TailAt, FrontAt, Linked, Shape, Asks, Inv}
use Rattle.order.proofs.Ends.{linked_in_one_place, installed_small}
use Rattle.order.proofs.Knows.{Past, request_of}
use Rattle.order.proofs.Grows.{Grows, Spares, was_unset}
use Rattle.order.proofs.SameEnds.{tail_of_parts, same_head_is_plain, same_head_is_announced, plain_is_not_announced, one_announced, one_plain}
use Rattle.order.proofs.TailMoves.{quiet, spared}

-- whatever the new head, nobody loses what they rely on
pub head_grows : (s : Shared) (g : Ghost) (h : Head) → Grows s g (with_head s h) g
head_grows s g h = record {
  chain = λ k n w. w;
  ends = λ j p w. w;
  by = λ j x w. w;
  new_batch = λ a p w. inl w;
  installed = λ a w. w;
  batches = λ a b w. w;
  tail_up = omega arith;
  request = λ a w. refl;
  old_tail_lem = λ a o w e. e;
}

pub head_spares : (s : Shared) (g : Ghost) (h : Head) (u : ℕ) → Spares s g (with_head s h) g u
head_spares s g h u = record { mine = λ n w. w; link = λ n w. refl; mine_too = λ b w. w; announcement = λ b w. refl; pending = refl }

pub head_cas_grows : (s : Shared) (g : Ghost) (h : Head) (b : Bool) → Grows s g (head_if b s h) g
head_cas_grows s g h b = either_way (λ s'. Grows s g s' g) b (λ e. head_grows s g h) (λ e. quiet)

pub head_cas_spares : (s : Shared) (g : Ghost) (h : Head) (b : Bool) (u : ℕ) → Spares s g (head_if b s h) g u
head_cas_spares s g h b u = either_way (λ s'. Spares s g s' g u) b (λ e. head_spares s g h u) (λ e. spared)

module _ {s : Shared} {g : Ghost} (i : Inv s g) (x : Front) (is : FrontAt g x) where
  -- the head becomes a node; what waited for an announcement there waits no more
  head_at_node :
      ((a j p : ℕ) → At g.by (suc j) (some a) → At g.ends j p → s.head ≡ Announced a → p < s.tail.count.0)
      → ((a : ℕ) → s.head ≡ Announced a → (j : ℕ) × At g.by (suc j) (some a))
      → Inv (with_head s (Plain x)) g
  head_at_node passed linked = record {
    chain = i.chain;
    ends = i.ends;
    tail = i.tail;
    linked = record {
      shape = i.linked.shape;
      waits = λ a j p b f. inl (⊎_elim (λ h. h) (passed a j p b f) (i.linked.waits a j p b f));
      not_past = i.linked.not_past;
      old_tails = i.linked.old_tails;
    };
    head = record {
      linked_installed = i.head.linked_installed;
      linked_or_there = λ a h. inl (⊎_elim (λ l. l) (linked a) (i.head.linked_or_there a h));
      there_installed = λ a h. absurd (plain_is_not_announced refl h);
      head_at = λ f h. rw (one_plain h refl) is;
      old_head_at = i.head.old_head_at;
      has_batch = i.head.has_batch;
    };
    batches = i.batches;
  }

  -- d3, q3: from a node to a node
  pub head_moved : (f : Front) → s.head ≡ Plain f → Inv (with_head s (Plain x)) g
  head_moved f was = head_at_node (λ a j p b e h. absurd (plain_is_not_announced was h)) (λ a h. absurd (plain_is_not_announced was h))

  pub head_cas_inv : (f : Front) (b : Bool) → same_head s.head (Plain f) ≡ b → Inv (head_if b s (Plain x)) g
  head_cas_inv f b same =
      either_way (λ s'. Inv s' g) b (λ e. head_moved f (same_head_is_plain s.head f (same ∙ e))) (λ e. i)

  -- a7: from an announcement, whose batch the tail is past, to a node
  pub head_freed : (a : ℕ) → s.head ≡ Announced a → Past s g a → Inv (with_head s (Plain x)) g
  head_freed a was past =
      head_at_node (λ c j p b e h. passed c j p b e (one_announced was h))
      (λ c h. (place.step, subst (λ (d : ℕ). At g.by (suc place.step) (some d)) (one_announced was h) place.is))
    where
      place : Linked g a past.old.count.0
      place = (i.linked.old_tails a past.old past.is (i.head.there_installed a was)).0

      passed : (c j p : ℕ) → At g.by (suc j) (some c) → At g.ends j p → a ≡ c → p < s.tail.count.0
      passed c j p b f e = omega (arith, linked_in_one_place g i.ends (record { step = j; is = rw e b; from = f }) place, past.past)

  pub head_freed_inv : (a : ℕ) (b : Bool) → same_head s.head (Announced a) ≡ b → Past s g a → Inv (head_if b s (Plain x)) g
  head_freed_inv a b same past =
      either_way (λ s'. Inv s' g) b (λ e. head_freed a (same_head_is_announced s.head a (same ∙ e)) past) (λ e. i)

abbrev old_tail_of : Shared → ℕ → OldTail
old_tail_of s a = (announcement_at s.announcements a).old_tail

-- a4: announcement a gets old tail t, which is where its batch was linked
abbrev pub old_tail_set : Shared → ℕ → Tail → Shared
old_tail_set s a t = with_announcements s (announcing s.announcements a (tail_set (announcement_at s.announcements a) t))

module _ {s : Shared} {g : Ghost} (i : Inv s g) (a : ℕ) (t : Tail) (there : In g.installed a) (place : Linked g a t.count.0) (is : TailAt g t) where
  small : (b : ℕ) → In g.installed b → b < 64
  small = installed_small s g i

  set_there : announcement_at (old_tail_set s a t).announcements a ≡ tail_set (announcement_at s.announcements a) t
  set_there = announcement_set s.announcements i.batches.cells a (tail_set (announcement_at s.announcements a) t) (small a there)

  pub old_tail_is_set : (announcement_at (old_tail_set s a t).announcements a).old_tail ≡ Some t
  old_tail_is_set = ap (λ (x : Announcement). x.old_tail) set_there

  others_stay : (b : ℕ) → b < 64 → b ≢ a → announcement_at (old_tail_set s a t).announcements b ≡ announcement_at s.announcements b
  others_stay = other_announcement s.announcements i.batches.cells a (tail_set (announcement_at s.announcements a) t) (small a there)

  -- what holds of an announcement whatever its old tail still holds of it
  still :
      (P : Announcement → Type 0) → ((x : Announcement) → P x → P (tail_set x t))
      → (b : ℕ) → b < 64 → P (announcement_at s.announcements b) → P (announcement_at (old_tail_set s a t).announcements b)
  still P f b fits h =
      elim (ℕ_discrete b a) [
        | yes e ↦ subst P (sym (ap (announcement_at (old_tail_set s a t).announcements) e ∙ set_there)) (f _ (subst P (ap (announcement_at s.announcements) e) h))
        | no ne ↦ subst P (sym (others_stay b fits ne)) h
      ]

  request_stays : (b : ℕ) → b < 64 → request_of (old_tail_set s a t) b ≡ request_of s b
  request_stays b fits = still (λ x. x.request ≡ request_of s b) (λ x h. h) b fits refl

  -- an old tail that is set already is not set to another
  set_stays : (b : ℕ) (o : Tail) → In g.installed b → old_tail_of s b ≡ Some o → old_tail_of (old_tail_set s a t) b ≡ Some o
  set_stays b o w e =
      elim (ℕ_discrete b a) [ yes f ↦ again f | no ne ↦ ap (λ (x : Announcement). x.old_tail) (others_stay b (small b w) ne) ∙ e ]
    where
      again : b ≡ a → old_tail_of (old_tail_set s a t) b ≡ Some o
      again f =
          let m = i.linked.old_tails a o (ap (old_tail_of s) (sym f) ∙ e) there in
          let c = linked_in_one_place g i.ends place m.0 in
          let n = one_element g.chain _ _ is m.1 c in
          ap (old_tail_of (old_tail_set s a t)) f ∙ old_tail_is_set ∙ ap Some (tail_of_parts t o n c)

  pub set_old_tail_grows : Grows s g (old_tail_set s a t) g
  set_old_tail_grows = record {
    chain = λ k n w. w;
    ends = λ j p w. w;
    by = λ j x w. w;
    new_batch = λ a p w. inl w;
    installed = λ a w. w;
    batches = λ a b w. w;
    tail_up = omega arith;
    request = λ b w. request_stays b (small b w);
    old_tail_lem = set_stays;
  }

  pub set_old_tail_spares : (u : ℕ) → Spares s g (old_tail_set s a t) g u
  set_old_tail_spares u = record {
    mine = λ n w. w;
    link = λ n w. refl;
    mine_too = λ b w. w;
    announcement = λ b w.
        others_stay b (omega (arith, within g.announcement_owners b w.owner, i.batches.owned, i.batches.counted, i.batches.room))
        (λ e. w.not_installed (subst (In g.installed) (sym e) there));
    pending = refl;
  }

  old_tails_lem : (b : ℕ) (o : Tail) → old_tail_of (old_tail_set s a t) b ≡ Some o → In g.installed b → Linked g b o.count.0 × TailAt g o
  old_tails_lem b o e w =
      elim (ℕ_discrete b a) [ yes f ↦ here f | no ne ↦ i.linked.old_tails b o (ap (λ (x : Announcement). x.old_tail) (sym (others_stay b (small b w) ne)) ∙ e) w ]
    where
      here : b ≡ a → Linked g b o.count.0 × TailAt g o
      here f =
          let q : Some t ≡ Some o = sym old_tail_is_set ∙ ap (old_tail_of (old_tail_set s a t)) (sym f) ∙ e in
          let r : t ≡ o = cc in
          subst (λ (c : ℕ). Linked g c o.count.0 × TailAt g o) (sym f) (subst (λ (y : Tail). Linked g a y.count.0 × TailAt g y) r (place, is))

  pub set_old_tail_inv : Inv (old_tail_set s a t) g
  set_old_tail_inv = record {
    chain = i.chain;
    ends = i.ends;
    tail = i.tail;
    linked = record {
      shape = λ b j p m f.
          still (λ x. Shape g x j p)
          (λ x h. record { first_at = h.first_at; last_at = h.last_at; ends_at = h.ends_at; old_head_before = h.old_head_before })
          b (small b (i.head.linked_installed b (suc j) m)) (i.linked.shape b j p m f);
      waits = i.linked.waits;
      not_past = λ b j p m f n. i.linked.not_past b j p m f (was_unset set_old_tail_grows b (i.head.linked_installed b (suc j) m) n);
      old_tails = old_tails_lem;
    };
    head = record {
      linked_installed = i.head.linked_installed;
      linked_or_there = i.head.linked_or_there;
      there_installed = i.head.there_installed;
      head_at = i.head.head_at;
      old_head_at = λ b w. still (λ x. FrontAt g x.request.old_head) (λ x h. h) b (small b w) (i.head.old_head_at b w);
      has_batch = i.head.has_batch;
    };
    batches = record {
      asks = λ b k h.
          still (λ x. Asks x k) (λ x w. record { first_is = w.first_is; last_is = w.last_is; many = w.many; tally = w.tally })
          b (omega (arith, within g.batches b h, i.batches.counted, i.batches.room)) (i.batches.asks b k h);
      in_use = i.batches.in_use;
      counted = i.batches.counted;
      owned = i.batches.owned;
      room = i.batches.room;
      cells = length-set s.announcements _ _ ∙ i.batches.cells;
      beside = i.batches.beside;
    };
  }
