-- What stands beside the machine tells of the link steps taken: its chain is the linked nodes, and link step j ended where the nodes of the
-- first j link steps end.
use Rattle.std.specs.Prelude.{None, Some}
use Prim.Native.Nat.{ℕ, suc, ◌+◌, ◌<◌, ◌≤◌}
use mathlib.Core.Path.{◌≡◌, refl, sym, ap, ◌∙◌, subst}
use mathlib.Core.List.{List, [], ◌∷◌, ◌++◌, append_assoc, append-nil}
use mathlib.Core.Option.{Option, none, some}
use native.Mathlib.Omega.{arith}
use native.Mathlib.Decide.{dec_le}
use lib.ListN.{length, take, length-append}
use lib.Seq.{take_all, take-append-le}
use Rattle.chain.specs.Positions.{at, At, In}
use Rattle.chain.proofs.Positions.{within, stays, at_the_end, length-one_more}
use Rattle.chain.proofs.Following.{meets_the_rest, none_is_the_last}
use Rattle.refusal.proofs.Tests.{either_way}
use Rattle.cells.specs.declared.Tail.{Tail}
use Rattle.cells.specs.declared.Head.TheVariants.{Plain}
use Rattle.cells.specs.Links.{Link}
use Rattle.cells.specs.Ends.{same_head}
use Rattle.memory.specs.Memory.{link_at, announcement_at}
use Rattle.place.specs.declared.Place.{Place}
use Rattle.place.specs.declared.Place.TheVariants as place
use Rattle.place.specs.declared.Place.TheVariants.{Idle, Enqueue, Dequeue, Dequeues, Running}
use Rattle.place.specs.declared.Resume.{Resume}
use Rattle.place.specs.declared.After.{After}
use Rattle.place.specs.declared.After.TheVariants as afterwards
use Rattle.place.specs.declared.EnqueueStep.TheVariants.{E1, E2, E3, E4, E5}
use Rattle.place.specs.declared.BatchStep.TheVariants.{B1, B2}
use Rattle.place.specs.declared.RunStep.TheVariants.{A1, A2, A3, A4, A5, A6, A7, A8}
use Rattle.entry.specs.declared.Entry.{Entry}
use Rattle.row.specs.declared.Row.{Row}
use Rattle.machine.specs.declared.Machine.{Machine}
use Rattle.machine.specs.State.{row_at, memory_of}
use Rattle.machine.specs.Steps.{hop}
use Rattle.order.specs.Links.{if_none}
use Rattle.order.specs.Events.{Event, EnqueueStarts, DequeueStarts, EnqueueDeferred, DequeueDeferred, BatchSetOff, FutureAsked, StepTaken, does, kept_beside, events}
use Rattle.order.proofs.Events.{Finds, over_entries, both, kept_both}
use Rattle.order.proofs.Ghost.{Ghost, batch_of, joins, step_ghost, end_ghost, step_of_ghost, ghost_does, fresh_ghost}
use Rattle.order.specs.Promises.{batch_nodes, step_links, also_links, together, linked}
use Rattle.order.proofs.Shared.{shared_of, next, led}
use Rattle.order.proofs.Knows.{TailRead, KnowsRun, KnowsResume, KnowsAt}
use Rattle.order.proofs.RunReads.{not_linked_yet}
use Rattle.order.proofs.RunSteps.{own_batch, asks}
use Rattle.order.proofs.Steps.{Ok}
use Rattle.order.proofs.SettingOff.{set_off_either}
use Rattle.order.proofs.Reached.{Holds, holds_sized, event_holds}

pub record Tells (g : Ghost) (steps : List (List ℕ)) : Type 0 where
  pub chain : g.chain ≡ linked steps
  pub many : length g.ends ≡ suc (length steps)
  pub ends : (j : ℕ) → j ≤ length steps → At g.ends j (length (together (take j steps)))

-- one more link step
pub together_append : (a b : List (List ℕ)) → together (a ++ b) ≡ together a ++ together b
unfolding together
together_append [] b = refl
together_append (l ∷ a) b = ap (λ (z : List ℕ). l ++ z) (together_append a b) ∙ sym (append_assoc l (together a) (together b))

pub one_more : (steps : List (List ℕ)) (l : List ℕ) → together (steps ++ (l ∷ [])) ≡ together steps ++ l
unfolding together
one_more steps l = together_append steps (l ∷ []) ∙ ap (λ (z : List ℕ). together steps ++ z) (append-nil l)

joins_tells : (g : Ghost) (steps : List (List ℕ)) → Tells g steps → (t : Tail) (l : List ℕ) (who : Option ℕ) → length g.chain ≡ suc t.count.0 → Tells (joins g t l who) (steps ++ (l ∷ []))
joins_tells g steps h t l who e = record {
  chain = ap (λ (c : List ℕ). c ++ l) h.chain ∙ ap (λ (c : List ℕ). 0 ∷ c) (sym (one_more steps l));
  many = length-one_more g.ends end ∙ ap suc h.many ∙ sym (ap suc (length-one_more steps l));
  ends = λ j le. elim (dec_le j (length steps)) [ yes y ↦ earlier j y | no n ↦ last j le n ];
}
  where
    end : ℕ
    end = t.count.0 + length l

    end_is : end ≡ length (together (steps ++ (l ∷ [])))
    end_is = omega (arith, e, ap length h.chain, ap length (one_more steps l), length-append (together steps) l)

    earlier : (j : ℕ) → j ≤ length steps → At (g.ends ++ (end ∷ [])) j (length (together (take j (steps ++ (l ∷ [])))))
    earlier j y = stays g.ends (end ∷ []) j (h.ends j y) ∙ ap (λ (x : List (List ℕ)). some (length (together x))) (sym (take-append-le j steps (l ∷ []) y))

    last : (j : ℕ) → j ≤ length (steps ++ (l ∷ [])) → (j ≤ length steps → ⊥) → At (g.ends ++ (end ∷ [])) j (length (together (take j (steps ++ (l ∷ [])))))
    last j le n =
        let last : length g.ends ≡ j = omega (arith, h.many, length-one_more steps l) in
        ap (at (g.ends ++ (end ∷ []))) (sym last) ∙ at_the_end g.ends end
        ∙ ap some (end_is ∙ ap (λ (x : List (List ℕ)). length (together x)) (sym (take_all j (steps ++ (l ∷ [])) (omega (arith, last, h.many, length-one_more steps l)))))

-- only the chain and the ends tell
same_tells : {g g' : Ghost} {steps : List (List ℕ)} → g'.chain ≡ g.chain → g'.ends ≡ g.ends → Tells g steps → Tells g' steps
same_tells {steps = steps} c e h = record {
  chain = c ∙ h.chain;
  many = ap length e ∙ h.many;
  ends = λ j le. ap (λ (x : List ℕ). at x j) e ∙ h.ends j le;
}

nothing_more : {g : Ghost} (steps : List (List ℕ)) → Tells g steps → Tells g (steps ++ [])
nothing_more {g} steps h = subst (Tells g) (sym (append-nil steps)) h

module _ (m : Machine) (g : Ghost) (ok : Ok m g) (i : ℕ) (lt : i < 8) (steps : List (List ℕ)) (h : Tells g steps) where
  -- the tail that was read is at the last node, if its link is none
  at_the_last : (t : Tail) → TailRead (shared_of m) g t → next m.links t.node ≡ none → length g.chain ≡ suc t.count.0
  at_the_last t read free = omega (arith, none_is_the_last ok.inv.chain.chain _ _ read.is free, within g.chain _ read.is)

  taken_tells : (t : Tail) → TailRead (shared_of m) g t → (l nodes : List ℕ) (who : Option ℕ) (x : Link) → link_at m.links t.node ≡ x
      → (next m.links t.node ≡ none → nodes ≡ l) → Tells (if_none x (joins g t nodes who) g) (steps ++ if_none x (l ∷ []) [])
  taken_tells t read l nodes who None e same =
      let free : next m.links t.node ≡ none = ap led e in
      subst (λ (x : List ℕ). Tells (joins g t nodes who) (steps ++ (x ∷ []))) (same free) (joins_tells g steps h t nodes who (at_the_last t read free))
  taken_tells t read l nodes who (Some x) e same = nothing_more steps h

  -- the nodes of the batch are those met from its first one on
  pub batch_nodes_lem : (r : Row) (a : ℕ) (k : Resume) (there : In g.installed a) → KnowsResume (shared_of m) g i a r k → (t : Tail) → KnowsRun (shared_of m) g a (A3 t) → next m.links t.node ≡ none
      → (batch_of g a).nodes ≡ batch_nodes (memory_of m) (announcement_at m.announcements a).request
  batch_nodes_lem r a k there resumes t knows free =
      let own = own_batch (shared_of m) g ok.inv i r a k there resumes in
      let asked = asks (shared_of m) g ok.inv i r a k there resumes in
      let beside = ok.inv.batches.beside a (batch_of g a) there (not_linked_yet (shared_of m) g ok.inv i r a there t knows free) own in
      sym (meets_the_rest beside.chain _ 0 _ asked.first_is (omega (arith, asked.many)))

  pub place_tells : (r : Row) (p : Place) → KnowsAt (shared_of m) g i r p → Tells (step_ghost (memory_of m) g p) (steps ++ step_links (memory_of m) p)
  place_tells r Idle k = nothing_more steps h
  place_tells r (Enqueue n E1) k = nothing_more steps h
  place_tells r (Enqueue n (E2 t)) k = taken_tells t k.0.1 (n ∷ []) (n ∷ []) none _ refl (λ e. refl)
  place_tells r (Enqueue n (E3 t)) k = nothing_more steps h
  place_tells r (Enqueue n (E4 t x)) k = nothing_more steps h
  place_tells r (Enqueue n (E5 t x)) k = nothing_more steps h
  place_tells r (Dequeue x) k = nothing_more steps h
  place_tells r (place.Batch b B1) k = nothing_more steps h
  place_tells r (place.Batch b (B2 f)) k = nothing_more steps (either_way (λ (x : Ghost). Tells x steps) (same_head m.ends.head (Plain f)) (λ e. same_tells refl refl h) (λ e. h))
  place_tells r (Dequeues x) k = nothing_more steps h
  place_tells r (Running a A1 k) w = nothing_more steps h
  place_tells r (Running a (A2 t) k) w = nothing_more steps h
  place_tells r (Running a (A3 t) k) w = taken_tells t w.2.0 _ _ (some a) _ refl (batch_nodes_lem r a k w.0 w.1 t w.2)
  place_tells r (Running a (A4 t) k) w = nothing_more steps h
  place_tells r (Running a (A5 o) k) w = nothing_more steps h
  place_tells r (Running a (A6 s x left) k) w = nothing_more steps h
  place_tells r (Running a (A7 s x) k) w = nothing_more steps h
  place_tells r (Running a (A8 t x) k) w = nothing_more steps h

  step_tells : Tells (step_of_ghost m g i) (steps ++ step_links (memory_of m) (row_at m i).place)
  step_tells = ended (hop m i).after (place_tells (row_at m i) (row_at m i).place (ok.knows i lt).place)
    where
      ended : (a : After) {g' : Ghost} {steps' : List (List ℕ)} → Tells g' steps' → Tells (end_ghost g' i a) steps'
      ended (afterwards.On p) now = now
      ended afterwards.Ok now = now
      ended afterwards.Empty now = now
      ended (afterwards.Item x) now = now
      ended (afterwards.Pair x) now = same_tells refl refl now
      ended (afterwards.PairDequeues x n) now = same_tells refl refl now

module _ (m : Machine) (g : Ghost) (ok : Ok m g) (steps : List (List ℕ)) (h : Tells g steps) where
  event_tells : (x : Event) → Finds m x → Tells (ghost_does m g x) (also_links m steps x)
  event_tells (EnqueueStarts i v) finds = nothing_more steps (same_tells refl refl h)
  event_tells (DequeueStarts i) finds = nothing_more steps h
  event_tells (EnqueueDeferred i v) finds = nothing_more steps (same_tells refl refl h)
  event_tells (DequeueDeferred i) finds = nothing_more steps (same_tells refl refl h)
  event_tells (BatchSetOff i f) finds = nothing_more steps (set_off_either (λ (x : Machine) (y : Ghost). Tells y steps) m g i f (λ e. h) (λ ne. same_tells refl refl h))
  event_tells (FutureAsked i f) finds = nothing_more steps h
  event_tells (StepTaken i) finds = step_tells m g ok i finds steps h

pub after_tells : (es : List Entry) (m : Machine) (g : Ghost) → Holds m g → (steps : List (List ℕ)) → Tells g steps
    → Tells (kept_beside ghost_does m g (events m es)) (kept_beside also_links m steps (events m es))
after_tells es m g holds steps h =
    subst (λ (p : Ghost × List (List ℕ)). Tells p.0 p.1) (kept_both ghost_does also_links (events m es) m g steps)
    (over_entries (both ghost_does also_links) Now (λ m p now. holds_sized m p.0 now.0) still es m (g, steps) (holds, h)).1
  where
    Now : Machine → Ghost × List (List ℕ) → Type 0
    Now m p = Holds m p.0 × Tells p.0 p.1

    still : (m : Machine) (p : Ghost × List (List ℕ)) (x : Event) → Finds m x → Now m p → Now (does m x) (both ghost_does also_links m p x)
    still m p x finds now = (event_holds m p.0 x finds now.0, event_tells m p.0 now.0.ok p.1 now.1 x finds)

-- a fresh machine has linked nothing
pub fresh_tells : Tells fresh_ghost []
unfolding at together
fresh_tells = record { chain = refl; many = refl; ends = λ j le. subst (λ (x : ℕ). At (0 ∷ []) x (length (together (take x [])))) (let e : 0 ≡ j = omega arith in e) refl }
